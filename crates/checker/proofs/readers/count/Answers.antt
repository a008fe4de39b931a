-- count: where the byte was read it is the count or outside the limits; where it was not, its fault is the count's. Assumes nothing.
use Rattle.std.proofs.Common.{rules}
use Rattle.exactness.proofs.Readers.{with'}
use Rattle.checker.specs.Readers.{count_is}
use Rattle.checker.proofs.ReaderLaws as law
use Rattle.checker.proofs.readers.count.Goals as goal

pub returns-in_err-n : goal.returns-in_err-n
returns-in_err-n c = search (rules, law.count-ended)

pub returns-then-n-least : goal.returns-then-n-least
returns-then-n-least c = rw c.at.ensures (law.count-outside c.in_ok-n.ensures c.then-n-least.either)

pub returns : goal.returns
returns c = with' (law.byte-on c.in_ok-n.ensures) λ b. count_is b.inside b.value c.if-n-least.false c.if-most-n.false
