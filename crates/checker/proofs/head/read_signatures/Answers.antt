-- read_signatures: a count that is refused is the whole's fault; behind it as many signatures, each read by `read_signature`. Assumes nothing.
use Rattle.std.proofs.Common.{rules}
use Rattle.definitions.specs.FirstFault.{signature}
use Rattle.checker.proofs.HeadLaws as law
use Rattle.checker.proofs.Loops.{repeated-times}
use Rattle.checker.proofs.head.read_signatures.Goals as goal

pub returns-in_err-many-clause-reads : goal.returns-in_err-many-clause-reads
returns-in_err-many-clause-reads c = search (rules, law.signatures-bad)

pub returns-clause-reads : goal.returns-clause-reads
returns-clause-reads c = law.signatures_on _ _ c.in_ok-many.ensures _ (repeated-times (signature c.in_ok-many.many) _ _ (λ p r k. search rules) _ _ _ c.repeat.ensures.repeated)
