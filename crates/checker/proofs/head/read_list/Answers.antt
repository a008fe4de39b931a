-- read_list: the counted types, each read by `read_type`. Assumes nothing.
use Rattle.std.proofs.Common.{rules}
use Rattle.definitions.specs.FirstFault.{type}
use Rattle.checker.proofs.Repeats as law
use Rattle.checker.proofs.head.read_list.Goals as goal

pub returns-clause-reads : goal.returns-clause-reads
returns-clause-reads c = law.counted-reads (type c.args.sigs) _ _ _ _ c.counted.ensures.counted (λ p r k. search rules)
