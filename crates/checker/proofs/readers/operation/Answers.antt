-- operation: no byte and a byte that is no code are refused; any operation but lit is read; lit has its literal or is cut short. Assumes nothing.
use Rattle.std.proofs.Common.{rules, ◌≡◌, Err}
use Rattle.checker.specs.Codes.{operation_code}
use Rattle.checker.specs.declared.codes.Operation.TheVariants.{Lit}
use Rattle.checker.proofs.ReaderLaws as law
use Rattle.checker.proofs.readers.operation.Goals as goal

pub returns-in_err-code : goal.returns-in_err-code
returns-in_err-code c = search (rules, law.operation-ended)

pub returns-in_err-operation : goal.returns-in_err-operation
returns-in_err-operation c =
    let e : c.from_residual-in_err-operation.result ≡ Err c.in_err-operation.field-0.0 = search rules in
    let found = law.code-found operation_code _ c.args.at _ _ c.try_from.ensures c.map_err.ensures.cases (λ e f k. search rules) in
    rw e (law.operation-unknown c.in_ok-code.ensures (rw c.in_err-operation.was at found))

pub returns-then-ne : goal.returns-then-ne
returns-then-ne c =
    let found = law.code-found operation_code _ c.args.at _ _ c.try_from.ensures c.map_err.ensures.cases (λ e f k. search rules) in
    law.operation-plain c.in_ok-code.ensures _ (rw c.in_ok-operation.was at found) (λ l. search rules)

pub returns-then-s-next-lt8 : goal.returns-then-s-next-lt8
returns-then-s-next-lt8 c =
    let e : c.in_ok-operation.operation ≡ Lit = search rules in
    let found = law.code-found operation_code _ c.args.at _ _ c.try_from.ensures c.map_err.ensures.cases (λ e f k. search rules) in
    rw c.at.ensures (law.operation-short c.in_ok-code.ensures (rw (c.in_ok-operation.was, e) at found) c.if-s-next-lt8.true)

pub returns : goal.returns
returns c =
    let e : c.in_ok-operation.operation ≡ Lit = search rules in
    let found = law.code-found operation_code _ c.args.at _ _ c.try_from.ensures c.map_err.ensures.cases (λ e f k. search rules) in
    rw e (law.operation-literal c.in_ok-code.ensures (rw (c.in_ok-operation.was, e) at found) c.if-s-next-lt8.false)
