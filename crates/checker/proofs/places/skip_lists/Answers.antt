use Rattle.std.proofs.Common.{rules}
use native.Mathlib.Numerals.{add-one}
use Rattle.checker.specs.Laid.{parameters_bytes}
use Rattle.checker.proofs.PlaceLaws as law
use Rattle.checker.proofs.places.skip_lists.Goals as goal

pub loop-init : goal.loop-init
loop-init c = (search rules, law.through-none parameters_bytes _ _)

pub loop-preserved : goal.loop-preserved
loop-preserved c = (search rules, rw (add-one c.loop.counter) (law.through-more parameters_bytes _ _ _ _ _ c.loop.invariant.1 c.skip_list-p.ensures.behind))
