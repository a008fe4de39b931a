-- let: the names of a signature and of its symbol, the symbol's types at the end of the entries, and one more entry in their place. Assumes nothing.
use Rattle.std.proofs.Common.{rules, ◌≡◌, take, sym, refl, take_all}
use Rattle.checker.proofs.ReaderLaws.{name-value}
use Rattle.checker.proofs.SameTypes.{flattened}
use Rattle.checker.proofs.FormLaws as law
use Rattle.checker.proofs.forms.let_.Goals as goal

pub returns-in_err-t : goal.returns-in_err-t
returns-in_err-t c = search (rules, law.let-signature)

pub bounds-region-sig : goal.bounds-region-sig
bounds-region-sig c = law.offset-inside c.args.region.now refl (name-value c.in_ok-t.ensures).2

pub returns-in_err-m : goal.returns-in_err-m
returns-in_err-m c = search (rules, law.let-symbol)

pub parameters-fields-requires : goal.parameters-fields-requires
parameters-fields-requires c = law.symbol-inside c.args.region.now refl (name-value c.in_ok-t.ensures).2 c.in_ok-m.ensures c.symbol_at.ensures.laid

-- that the fields are looked for in the whole entries is found by `search`, however the code names them: so the edit `let_finds_its_entries_anywhere` is refused for where it looks
pub returns-then-not-ends_with : goal.returns-then-not-ends_with
returns-then-not-ends_with c =
    let w : c.as_flattened.result.now ≡ flattened (take c.args.env.now.width c.args.env.now.types) = search (rules, take_all) in
    rw c.at.ensures (law.let-other c.in_ok-t.ensures c.in_ok-m.ensures c.symbol_at.ensures.laid w c.parameters-fields.ensures.types (sym c.if-not-ends_with.ensures.value))

pub returns-then-kept-eq32 : goal.returns-then-kept-eq32
returns-then-kept-eq32 c =
    let w : c.as_flattened.result.now ≡ flattened (take c.args.env.now.width c.args.env.now.types) = search (rules, take_all) in
    rw c.at-then-kept-eq32.ensures
    (law.let-wide c.in_ok-t.ensures c.in_ok-m.ensures c.symbol_at.ensures.laid w c.parameters-fields.ensures.types (sym c.if-not-ends_with.ensures.value) c.if-kept-eq32.true)

pub returns : goal.returns
returns c =
    let w : c.as_flattened.result.now ≡ flattened (take c.args.env.now.width c.args.env.now.types) = search (rules, take_all) in
    law.let-goes c.in_ok-t.ensures c.in_ok-m.ensures c.symbol_at.ensures.laid w c.parameters-fields.ensures.types (sym c.if-not-ends_with.ensures.value)
    (λ Δ k. c.renew.ensures Δ _ k (rw (name-value c.in_ok-t.ensures).1 c.prd.ensures))
