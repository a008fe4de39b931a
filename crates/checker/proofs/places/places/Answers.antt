use Rattle.std.proofs.Common.{◌<◌, length}
use native.Mathlib.Omega.{arith}
use native.Mathlib.Numerals.{add-one}
use lib.ListN.{length-set}
use Rattle.checker.specs.Places.{stays, skipped}
use Rattle.checker.proofs.PlaceLaws as law
use Rattle.checker.proofs.places.places.Goals as goal

pub loop-i-init : goal.loop-i-init
loop-i-init g c = (omega arith, stays, λ i h. absurd (omega arith))

pub loop-i-preserved : goal.loop-i-preserved
loop-i-preserved g c =
    let wide : c.loop-i.i < length c.loop-i.table = omega arith in
    (simp length-set c.loop-i.invariant.0, rw (add-one c.loop-i.i) (skipped c.loop-i.invariant.1 c.skip-p.ensures), law.chained-more _ _ _ _ _ wide c.loop-i.invariant.1 c.loop-i.invariant.2)
