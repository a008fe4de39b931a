use native.Mathlib.Omega.{arith}
use Rattle.checker.proofs.Positions as law
use Rattle.checker.proofs.entries.positions.Goals as goal

pub loop-i-init : goal.loop-i-init
loop-i-init c = law.walked-none

pub returns-then-width-position-clause-positions : goal.returns-then-width-position-clause-positions
returns-then-width-position-clause-positions c = rw c.at.ensures (law.walked-unknown c.loop-i.i (omega arith) c.loop-i.invariant (omega arith) (omega arith) c.if-width-position.true)

pub loop-i-preserved : goal.loop-i-preserved
loop-i-preserved c = law.walked-more c.loop-i.i (omega arith) c.loop-i.invariant (omega arith) (omega arith) c.if-width-position.false

pub returns-then-there-count-clause-positions : goal.returns-then-there-count-clause-positions
returns-then-there-count-clause-positions c = rw c.at-then-there-count.ensures (law.walked-short c.loop-i.i (omega arith) c.loop-i.invariant (omega arith) (omega arith))

pub returns-clause-positions : goal.returns-clause-positions
returns-clause-positions c = law.walked-all c.loop-i.i (omega arith) c.loop-i.invariant
