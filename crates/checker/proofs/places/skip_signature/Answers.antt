use Rattle.std.proofs.Common.{rules, ◌≡◌, slice_index_or}
use Rattle.checker.specs.Laid.{parameters_bytes}
use Rattle.checker.proofs.PlaceLaws as law
use Rattle.checker.proofs.places.skip_signature.Goals as goal

pub returns-in-Some : goal.returns-in-Some
returns-in-Some c =
    let e : slice_index_or c.args.s.now c.args.at 0 ≡ c.in-Some.count.now = search rules in
    law.through-counted parameters_bytes _ _ _ (rw e c.skip_lists.ensures.through)

pub returns-in-None : goal.returns-in-None
returns-in-None c = law.behind-none parameters_bytes _ _ _ (search rules)
