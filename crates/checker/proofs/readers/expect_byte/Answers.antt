-- expect_byte: where the byte was read it is the wanted one or another; where it was not, its fault is the answer. Assumes nothing.
use Rattle.std.proofs.Common.{rules}
use Rattle.checker.proofs.ReaderLaws as law
use Rattle.checker.proofs.readers.expect_byte.Goals as goal

pub returns-in_err-found-clause-reads : goal.returns-in_err-found-clause-reads
returns-in_err-found-clause-reads c = search (rules, law.expected-ended)

pub returns-then-found-wanted-clause-reads : goal.returns-then-found-wanted-clause-reads
returns-then-found-wanted-clause-reads c = rw c.at.ensures (law.expected-other _ c.in_ok-found.ensures c.if-found-wanted.true)

pub returns-clause-reads : goal.returns-clause-reads
returns-clause-reads c = law.expected-same _ c.in_ok-found.ensures c.if-found-wanted.false
