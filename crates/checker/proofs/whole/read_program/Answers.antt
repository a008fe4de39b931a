-- read_program: a fault of the signatures, then of the labels, is the program's; where both were read the head is known, and `read_rest` answers for what follows. Assumes nothing.
use Rattle.std.proofs.Common.{rules}
use Rattle.checker.proofs.CheckLaws as law
use Rattle.checker.proofs.whole.read_program.Goals as goal

pub returns-in_err-heads : goal.returns-in_err-heads
returns-in_err-heads c = law.program-bad _ _ _ c.in_err-heads.ensures.reads _ (search rules)

pub bounds-image-at : goal.bounds-image-at
bounds-image-at c = law.signatures-inside _ _ c.type_inv.image _ c.in_ok-heads.ensures.reads

pub returns-in_err-start : goal.returns-in_err-start
returns-in_err-start c = law.program-labels-bad _ _ c.type_inv.image _ c.in_ok-heads.ensures.reads _ c.in_err-start.ensures.reads _ (search rules)

pub read_rest-requires-clause-read : goal.read_rest-requires-clause-read
read_rest-requires-clause-read c = law.head_read _ _ c.type_inv.image _ c.in_ok-heads.ensures.reads _ c.in_ok-start.ensures.reads c.in_ok-start.ensures.within.1
