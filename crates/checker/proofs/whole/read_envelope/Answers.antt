-- read_envelope: its four returns are the tests in their order: too short or too large (1 at 0), another version (2 at 0), a length field that is not the size (1 at 1), and on at 3. Assumes nothing.
use Rattle.checker.proofs.CheckLaws as law
use Rattle.checker.proofs.whole.read_envelope.Goals as goal

pub returns-then-image-lt3-clause-reads : goal.returns-then-image-lt3-clause-reads
returns-then-image-lt3-clause-reads c = law.opens-sized _ _ c.then-image-lt3.either c.at.ensures

pub returns-then-image-ne1-clause-reads : goal.returns-then-image-ne1-clause-reads
returns-then-image-ne1-clause-reads c = law.opens-other _ _ c.if-image-lt3.false c.if-image-gt16384.false c.if-image-ne1.true c.at-then-image-ne1.ensures

pub returns-then-size-image-clause-reads : goal.returns-then-size-image-clause-reads
returns-then-size-image-clause-reads c =
    law.opens-wrong _ c.if-image-lt3.false c.if-image-gt16384.false c.if-image-ne1.false _ c.from_be_bytes-size.ensures c.if-size-image.true _ c.at-then-size-image.ensures

pub returns-clause-reads : goal.returns-clause-reads
returns-clause-reads c = law.opens-right _ c.if-image-lt3.false c.if-image-gt16384.false c.if-image-ne1.false _ c.from_be_bytes-size.ensures c.if-size-image.false
