-- read_image: a fault of `read_envelope` is the image's; where it goes on the image is not too large, and `read_program` answers for all that follows. Assumes nothing.
use Rattle.std.proofs.Common.{rules}
use Rattle.checker.proofs.CheckLaws as law
use Rattle.checker.proofs.whole.read_image.Goals as goal

pub returns-in_err-at : goal.returns-in_err-at
returns-in_err-at c = law.image-bad _ _ c.in_err-at.ensures.reads _ (search rules)

pub read_program-requires-clause-short : goal.read_program-requires-clause-short
read_program-requires-clause-short c = law.image-small _ _ c.in_ok-at.ensures.reads

pub returns : goal.returns
returns c = law.image-on _ _ c.in_ok-at.ensures.reads _ c.read_program.ensures
