-- invoke: the last entry and the others, the symbol of its signature, and its list of types, compared with the others. Assumes nothing.
use Rattle.std.proofs.Common.{rules, ◌≡◌, sym}
use Rattle.std.proofs.Math.Seq.{take-length}
use Rattle.checker.proofs.SameTypes.{flattened}
use Rattle.checker.proofs.FormLaws as law
use Rattle.checker.proofs.forms.invoke.Goals as goal

pub returns-in_err-last-clause-reads : goal.returns-in_err-last-clause-reads
returns-in_err-last-clause-reads c =
    let z = rw c.at-untyped.ensures at (law.matched _ _ _ _ c.in_err-last.ensures.value c.split_last.ensures.cases) in
    search (rules, law.invoke-none, z)

pub returns-then-last-ne-CNS-clause-reads : goal.returns-then-last-ne-CNS-clause-reads
returns-then-last-ne-CNS-clause-reads c =
    let split = law.matched _ _ _ _ c.in_ok-last.ensures.value c.split_last.ensures.cases in
    rw c.at-untyped.ensures (law.invoke-kind _ c.entries.ensures _ _ split c.if-last-ne-CNS.true)

pub returns-in_err-sig-clause-reads : goal.returns-in_err-sig-clause-reads
returns-in_err-sig-clause-reads c =
    let split = law.matched _ _ _ _ c.in_ok-last.ensures.value c.split_last.ensures.cases in
    let z = rw c.at-untyped.ensures at (law.matched _ _ _ _ c.in_err-sig.ensures.value c.get.ensures.lookup.3) in
    search (rules, law.invoke-signature, split, z)

pub bounds-region-sig : goal.bounds-region-sig
bounds-region-sig c =
    let sig = law.matched _ _ _ _ c.in_ok-sig.ensures.value c.get.ensures.lookup.3 in
    law.offset-inside c.args.region.now (sig.1 0) sig.0

pub returns-in_err-m-clause-reads : goal.returns-in_err-m-clause-reads
returns-in_err-m-clause-reads c =
    let split = law.matched _ _ _ _ c.in_ok-last.ensures.value c.split_last.ensures.cases in
    let sig = law.matched _ _ _ _ c.in_ok-sig.ensures.value c.get.ensures.lookup.3 in
    let y = law.invoke-symbol {g = c.args.region.now} {env = c.args.env.now} {at = c.args.at} _ c.entries.ensures _ _ split c.if-last-ne-CNS.false (sig.1 0) sig.0 c.in_err-m.ensures in
    search (rules, y)

pub parameters-wanted-requires : goal.parameters-wanted-requires
parameters-wanted-requires c =
    let sig = law.matched _ _ _ _ c.in_ok-sig.ensures.value c.get.ensures.lookup.3 in
    law.symbol-inside c.args.region.now (sig.1 0) sig.0 c.in_ok-m.ensures c.symbol_at.ensures.laid

-- that all the others are compared is found by `search`, however the code names them: so the edit `invoke_ignores_spare_entries` is refused for what it compares
pub returns-then-ne-clause-reads : goal.returns-then-ne-clause-reads
returns-then-ne-clause-reads c =
    let whole = take-length c.in_ok-last.others.now in
    let w : c.as_flattened.result.now ≡ flattened c.in_ok-last.others.now = search rules in
    let split = law.matched _ _ _ _ c.in_ok-last.ensures.value c.split_last.ensures.cases in
    let sig = law.matched _ _ _ _ c.in_ok-sig.ensures.value c.get.ensures.lookup.3 in
    let rest = law.invoke-other _ c.entries.ensures _ _ split c.if-last-ne-CNS.false (sig.1 0) sig.0 c.in_ok-m.ensures c.symbol_at.ensures.laid in
    rw c.at-untyped.ensures (rest w c.parameters-wanted.ensures.types (sym c.if-ne.ensures))

pub returns-clause-reads : goal.returns-clause-reads
returns-clause-reads c =
    let whole = take-length c.in_ok-last.others.now in
    let w : c.as_flattened.result.now ≡ flattened c.in_ok-last.others.now = search rules in
    let split = law.matched _ _ _ _ c.in_ok-last.ensures.value c.split_last.ensures.cases in
    let sig = law.matched _ _ _ _ c.in_ok-sig.ensures.value c.get.ensures.lookup.3 in
    let rest = law.invoke-same _ c.entries.ensures _ _ split c.if-last-ne-CNS.false (sig.1 0) sig.0 c.in_ok-m.ensures c.symbol_at.ensures.laid in
    rest w c.parameters-wanted.ensures.types (sym c.if-ne.ensures)
