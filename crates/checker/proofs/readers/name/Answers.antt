-- name: where the byte was read it is the number or names nothing; where it was not, its fault is the name's. Assumes nothing.
use Rattle.std.proofs.Common.{rules}
use Rattle.exactness.proofs.Readers.{with'}
use Rattle.checker.specs.Readers.{is_named, is_unknown}
use Rattle.checker.proofs.ReaderLaws as law
use Rattle.checker.proofs.readers.name.Goals as goal

pub returns-in_err-i : goal.returns-in_err-i
returns-in_err-i c = search (rules, law.name-ended)

pub returns-then-many-i : goal.returns-then-many-i
returns-then-many-i c = with' (law.byte-on c.in_ok-i.ensures) λ b. rw c.at.ensures (is_unknown b.inside (rw b.value at c.if-many-i.true))

pub returns : goal.returns
returns c = with' (law.byte-on c.in_ok-i.ensures) λ b. is_named b.inside b.value c.if-many-i.false
