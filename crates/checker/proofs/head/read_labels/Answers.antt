-- read_labels: a fault of the count or of the entry is the whole's; behind them the other labels, each read by `read_list`. Assumes nothing.
use Rattle.std.proofs.Common.{rules, ◌≡◌, Err}
use Rattle.definitions.specs.FirstFault.{label, type}
use Rattle.checker.proofs.HeadLaws as law
use Rattle.checker.proofs.Loops.{repeated-times}
use Rattle.checker.proofs.head.read_labels.Goals as goal

pub returns-in_err-many-clause-reads : goal.returns-in_err-many-clause-reads
returns-in_err-many-clause-reads c = search (rules, law.labels-bad)

pub returns-in_err-others-clause-reads : goal.returns-in_err-others-clause-reads
returns-in_err-others-clause-reads c =
    let e : c.from_residual-in_err-others.result ≡ Err c.in_err-others.field-0.0 = search rules in
    rw e (law.labels-entry _ _ _ c.in_ok-many.ensures _ c.in_err-others.ensures.reads)

pub returns-clause-reads : goal.returns-clause-reads
returns-clause-reads c =
    law.labels_on _ _ _ c.in_ok-many.ensures _ c.in_ok-others.ensures.reads _ (repeated-times (label (type c.args.sigs)) _ _ (λ p r k. search rules) _ _ _ c.repeat.ensures.repeated)
