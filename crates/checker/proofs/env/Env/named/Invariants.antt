use Rattle.std.proofs.Common.{◌≡◌, length}
use Rattle.checker.proofs.Filling.{Filled}
use Rattle.checker.proofs.Positions.{named_by}
use Rattle.checker.proofs.env.Env.named.Given as goal

abbrev pub invariant-loop-i : goal.invariant-loop-i
invariant-loop-i l = (length l.types ≡ 32) × Filled (named_by l.positions l.self.types 0) l.initial.types 0 l.i l.types
