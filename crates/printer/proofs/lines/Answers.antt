-- lines: each of the six numbers adds at most 21 bytes, so 128 are enough for all, and together they are the two lines of the bytes that are read. Assumes nothing.
use Rattle.printer.specs.Texts.{Holds}
use mathlib.Core.Path.{subst}
use native.Mathlib.Omega.{arith}
use Rattle.printer.proofs.TextLaws as law
use Rattle.printer.proofs.lines.Goals as goal

pub returns : goal.returns
returns c =
    let number = law.next c.check-verdict.result.number 32 (law.begun c.empty.ensures) (omega arith) (c.with_number.ensures.grown, c.with_number.ensures.holds) in
    let offset = law.next c.check-verdict.result.offset 10 number (omega arith) (c.with_number-2.ensures.grown, c.with_number-2.ensures.holds) in
    let ended = law.next c.run-answer.result.number 32 offset (omega arith) (c.with_number-3.ensures.grown, c.with_number-3.ensures.holds) in
    let steps = law.next c.run-answer.result.steps 32 ended (omega arith) (c.with_number-4.ensures.grown, c.with_number-4.ensures.holds) in
    let words = law.next c.run-answer.result.words 32 steps (omega arith) (c.with_number-5.ensures.grown, c.with_number-5.ensures.holds) in
    let value = law.next c.run-answer.result.value 10 words (omega arith) (c.with_number-6.ensures.grown, c.with_number-6.ensures.holds) in
    subst (λ xs. Holds c.with_number-6.result xs) (law.two-lines c.args.input.now _
    (law.first c.args.input.now c.min.result (λ l. omega arith)
    (λ l. omega arith)) c.check-verdict.result.number c.check-verdict.result.offset c.check-verdict.ensures c.run-answer.result _ c.run-answer.ensures) value.holds
