-- read_type: its seven returns are the cases of two bytes: kind missing (3) or above 2 (6), number missing (3), not 0 for ext (6), 0 for ext, unknown signature (7), known one. Assumes nothing.
use Rattle.std.proofs.Common.{rules, arith, ◌≡◌, Err}
use Rattle.checker.proofs.HeadLaws as law
use Rattle.checker.proofs.head.read_type.Goals as goal

pub returns-in_err-kind-clause-reads : goal.returns-in_err-kind-clause-reads
returns-in_err-kind-clause-reads c = search (rules, law.type-ended)

pub returns-then-kind-ne-EXT-clause-reads : goal.returns-then-kind-ne-EXT-clause-reads
returns-then-kind-ne-EXT-clause-reads c = rw c.at.ensures (law.type-kind _ _ _ c.in_ok-kind.ensures (omega (arith, c.if-kind-lt-EXT.false, c.if-kind-ne-EXT.true)))

pub returns-in_err-name-clause-reads : goal.returns-in_err-name-clause-reads
returns-in_err-name-clause-reads c =
    let e : c.from_residual-in_err-name.result ≡ Err c.in_err-name.field-0.0 = search rules in
    rw e (law.type-unnamed _ _ _ c.in_ok-kind.ensures (omega (arith, c.if-kind-lt-EXT.true)) (omega (arith, c.if-kind-lt-EXT.true)) c.in_err-name.ensures)

pub returns-then-kind-lt-EXT-clause-reads : goal.returns-then-kind-lt-EXT-clause-reads
returns-then-kind-lt-EXT-clause-reads c =
    law.type-named _ _ _ c.in_ok-kind.ensures (omega (arith, c.if-kind-lt-EXT.true)) (omega (arith, c.if-kind-lt-EXT.true)) c.in_ok-name.ensures

pub returns-in_err-number-clause-reads : goal.returns-in_err-number-clause-reads
returns-in_err-number-clause-reads c = search (rules, law.type-short)

pub returns-then-number-ne0-clause-reads : goal.returns-then-number-ne0-clause-reads
returns-then-number-ne0-clause-reads c = rw c.at-then-number-ne0.ensures (law.type-not-zero _ _ _ c.in_ok-kind.ensures c.if-kind-ne-EXT.false c.in_ok-number.ensures c.if-number-ne0.true)

pub returns-clause-reads : goal.returns-clause-reads
returns-clause-reads c = law.type-ext _ _ _ c.in_ok-kind.ensures c.if-kind-ne-EXT.false c.in_ok-number.ensures c.if-number-ne0.false
