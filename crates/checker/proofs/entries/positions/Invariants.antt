-- positions: what the positions that are left answer is what all answer. Assumes nothing.
use Rattle.checker.proofs.Positions.{Walked}
use Rattle.checker.proofs.entries.positions.Given as goal

abbrev pub invariant-loop-i : goal.invariant-loop-i
invariant-loop-i l = Walked l.s l.width l.at l.count l.i
