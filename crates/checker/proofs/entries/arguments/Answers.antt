use Rattle.std.proofs.Common.{rules}
use Rattle.definitions.specs.FirstFault.{argument}
use Rattle.checker.proofs.Loops as loops
use Rattle.checker.proofs.entries.arguments.Goals as goal

pub returns-clause-reads : goal.returns-clause-reads
returns-clause-reads c = λ Δ h. loops.repeated-times (argument Δ) _ _ (λ p r k. search rules) _ _ _ c.repeat.ensures.repeated
