-- read_entry_type: no kind byte and a type that is refused are the answer; a type that was read must be ext. Assumes nothing.
use Rattle.std.proofs.Common.{rules, ◌≡◌, Err}
use Rattle.checker.proofs.HeadLaws as law
use Rattle.checker.proofs.head.read_entry_type.Goals as goal

pub returns-in_err-kind-clause-reads : goal.returns-in_err-kind-clause-reads
returns-in_err-kind-clause-reads c =
    let e : c.from_residual.result ≡ Err c.in_err-kind.field-0.0 = search rules in
    rw e (law.entry-bad _ _ _ _ (law.type-ended _ _ _ c.in_err-kind.ensures))

pub returns-in_err-next-clause-reads : goal.returns-in_err-next-clause-reads
returns-in_err-next-clause-reads c =
    let e : c.from_residual-in_err-next.result ≡ Err c.in_err-next.field-0.0 = search rules in
    rw e (law.entry-bad _ _ _ _ c.in_err-next.ensures.reads)

pub returns-then-kind-ne-EXT-clause-reads : goal.returns-then-kind-ne-EXT-clause-reads
returns-then-kind-ne-EXT-clause-reads c = rw c.at.ensures (law.entry_other _ _ _ c.in_ok-kind.ensures _ c.in_ok-next.ensures.reads c.if-kind-ne-EXT.true)

pub returns-clause-reads : goal.returns-clause-reads
returns-clause-reads c = law.entry-ext _ _ _ c.in_ok-kind.ensures _ c.in_ok-next.ensures.reads c.if-kind-ne-EXT.false
