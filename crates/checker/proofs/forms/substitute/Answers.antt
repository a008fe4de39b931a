-- substitute: a count, as many positions, and the entries that they name. Assumes nothing.
use Rattle.std.proofs.Common.{rules}
use Rattle.checker.proofs.Positions.{positions-part}
use Rattle.checker.proofs.FormLaws as law
use Rattle.checker.proofs.forms.substitute.Goals as goal

pub returns-in_err-named : goal.returns-in_err-named
returns-in_err-named c = search (rules, law.substitute-count)

pub returns-in_err-on : goal.returns-in_err-on
returns-in_err-on c = search (rules, law.substitute-position)

pub named-requires-clause-known : goal.named-requires-clause-known
named-requires-clause-known c = positions-part c.in_ok-on.ensures.positions

pub returns : goal.returns
returns c = law.substitute-goes c.in_ok-named.ensures c.in_ok-on.ensures.within c.in_ok-on.ensures.positions c.named.ensures
