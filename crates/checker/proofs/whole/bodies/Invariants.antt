-- bodies: what the bodies of the labels from `list-index` on answer from `p` on is what all answer. Assumes nothing.
use Prim.Native.Nat.{◌≤◌}
use lib.ListN.{length}
use Rattle.checker.specs.Shown.{Walk}
use Rattle.checker.proofs.BodyLaws as law
use Rattle.checker.proofs.whole.bodies.Given as goal

abbrev pub invariant-loop-list : goal.invariant-loop-list
invariant-loop-list l = (l.at ≤ l.p) × (l.p ≤ length l.region.bytes.now) × ((r : Walk) → law.BodiesFrom l.region l.list-index l.p r → law.BodiesFrom l.region 0 l.at r)
