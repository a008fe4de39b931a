-- counted: a count that is refused is the whole's fault; behind one that was read the readings answer. Assumes nothing.
use Rattle.std.proofs.Common.{rules}
use Rattle.checker.specs.Readers.{counted_bad, counted_on}
use Rattle.checker.proofs.readers.counted.Goals as goal

pub returns-in_err-many-clause-counted : goal.returns-in_err-many-clause-counted
returns-in_err-many-clause-counted g c = search (rules, counted_bad)

pub returns-clause-counted : goal.returns-clause-counted
returns-clause-counted g c = counted_on c.in_ok-many.ensures c.repeat.ensures.repeated
