use Rattle.std.proofs.Common.{◌≡◌, length}
use Rattle.checker.specs.Places.{Skipped, Chained}
use Rattle.checker.proofs.places.places.Given as goal

abbrev pub invariant-loop-i : goal.invariant-loop-i
invariant-loop-i g l = (length l.table ≡ 64) × Skipped (λ p q. g.F.Fn.post l.skip (p, tt) q) l.at l.i l.p × Chained (λ p q. g.F.Fn.post l.skip (p, tt) q) l.at l.i l.table
