-- read_signature: the counted symbols, each read by `read_list`. Assumes nothing.
use Rattle.std.proofs.Common.{rules}
use Rattle.definitions.specs.FirstFault.{symbol}
use Rattle.checker.proofs.Repeats as law
use Rattle.checker.proofs.head.read_signature.Goals as goal

pub returns-clause-reads : goal.returns-clause-reads
returns-clause-reads c = law.counted-reads (symbol c.args.sigs) _ _ _ _ c.counted.ensures.counted (λ p r k. search rules)
