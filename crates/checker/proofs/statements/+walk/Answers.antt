-- statement, extern_, new_, switch_, bare_clauses, clauses, in_region: what each part answers, by its laws.
use mathlib.Core.Path.{◌∙◌}
use mathlib.Core.Logic.{∥∥₁_map}
use native.Mathlib.Omega.{arith}
use lib.Seq.{length-take-le}
use Rattle.std.proofs.Common.{rules}
use Rattle.std.proofs.Math.Seq.{take-length}
use Rattle.std.specs.Prelude.{ℕ, ◌+◌, ◌-◌, ◌*◌, ◌≤◌, ◌<◌, ◌≡◌, List, length, get_or, true}
use Rattle.checker.specs.declared.codes.Form.TheVariants.{Jump, Substitute, Extern, Let, New, Switch, Invoke}
use Rattle.checker.proofs.Exits.{passed}
use Rattle.checker.proofs.RegionLaws as regions
use Rattle.checker.proofs.ClauseLaws as clauses
use Rattle.checker.proofs.ClauseForms as forms
use Rattle.checker.proofs.StatementLaws as statements
use Rattle.checker.proofs.statements.+walk.Goals as goal
use Rattle.checker.proofs.statements.+walk.Goals.{bare_clauses-else-gains-via-else-gains, bare_clauses-else-gains-via-then-gains+else-env-eq32}

pub clauses-overflow_add-list : goal.clauses-overflow_add-list
clauses-overflow_add-list t c = omega (arith, clauses.signature-inside c.requires.signature, c.args.region.now.short)

pub clauses-bounds-region-sig : goal.clauses-bounds-region-sig
clauses-bounds-region-sig t c = clauses.signature-inside c.requires.signature

pub clauses-loop-symbol-init : goal.clauses-loop-symbol-init
clauses-loop-symbol-init t c =
    record {
      later = omega arith;
      inside = c.requires.inside;
      lists = ∥∥₁_map c.requires.signature (clauses.lists-start (omega arith));
      are = λ r t. clauses.named_start (omega arith) t;
    }

pub clauses-returns-in_err-length_field-clause-reads : goal.clauses-returns-in_err-length_field-clause-reads
clauses-returns-in_err-length_field-clause-reads t c =
    rw (passed _ c.from_residual.result c.from_residual.ensures.1)
    (c.loop-symbol.invariant.are _ (clauses.named-symbol (omega arith) c.in_err-length_field.ensures.reads))

pub clauses-returns-clause-reads : goal.clauses-returns-clause-reads
clauses-returns-clause-reads t c = c.loop-symbol.invariant.are _ (clauses.named_none (omega arith))

pub extern_-returns-in_err-code-clause-reads : goal.extern_-returns-in_err-code-clause-reads
extern_-returns-in_err-code-clause-reads t c = rw (passed _ c.from_residual.result c.from_residual.ensures.1) (forms.extern-unknown c.in_err-code.ensures)

pub extern_-returns-in_err-first-clause-reads : goal.extern_-returns-in_err-first-clause-reads
extern_-returns-in_err-first-clause-reads t c =
    rw (passed _ c.from_residual-in_err-first.result c.from_residual-in_err-first.ensures.1)
    (forms.extern-argument c.in_ok-code.ensures c.arguments.ensures c.in_err-first.field-0.0 c.in_err-first.ensures.reads)

pub in_region-returns-then-bytes-at-lt2-clause-reads : goal.in_region-returns-then-bytes-at-lt2-clause-reads
in_region-returns-then-bytes-at-lt2-clause-reads t c = rw c.at.ensures (regions.region-none _ _ _ _ (omega arith))

pub in_region-returns-then-bytes-start-clause-reads : goal.in_region-returns-then-bytes-start-clause-reads
in_region-returns-then-bytes-start-clause-reads t c = rw c.at-then-bytes-start.ensures (regions.region-long _ _ _ _ (omega arith) _ c.from_be_bytes-size.ensures (omega arith))

pub in_region-returns-in_err-stopped-clause-reads : goal.in_region-returns-in_err-stopped-clause-reads
in_region-returns-in_err-stopped-clause-reads t c =
    rw (passed _ c.from_residual.result c.from_residual.ensures.1)
    (regions.region-bad _ _ _ _ (omega arith) _ c.from_be_bytes-size.ensures (omega arith) c.up_to.ensures c.in_err-stopped.ensures.reads)

pub in_region-returns-then-stopped-end-clause-reads : goal.in_region-returns-then-stopped-end-clause-reads
in_region-returns-then-stopped-end-clause-reads t c =
    let w = rw c.up_to.ensures.bytes at c.in_ok-stopped.ensures.within in
    let n = length-take-le (c.args.at + 2 + c.from_be_bytes-size.result) c.args.region.now.bytes.now in
    rw c.at-then-stopped-end.ensures (regions.region-spare _ _ _ _ (omega arith) _ c.from_be_bytes-size.ensures (omega arith) c.up_to.ensures c.in_ok-stopped.ensures.reads
    (omega (arith, w.1, n)) c.if-stopped-end.true)

pub in_region-returns-clause-reads : goal.in_region-returns-clause-reads
in_region-returns-clause-reads t c = regions.region-fills _ _ _ _ (omega arith) _ c.from_be_bytes-size.ensures (omega arith) c.up_to.ensures c.in_ok-stopped.ensures.reads c.if-stopped-end.false

pub new_-returns-in_err-sig : goal.new_-returns-in_err-sig
new_-returns-in_err-sig t c = rw (passed _ c.from_residual.result c.from_residual.ensures.1) (forms.new-refused c.in_err-sig.ensures)

pub new_-clauses-requires : goal.new_-clauses-requires
new_-clauses-requires t c = let f = forms.new-facts c.in_ok-sig.ensures in (omega (arith, f.0), (f.0, f.2))

pub statement-returns-in_err-form-clause-reads : goal.statement-returns-in_err-form-clause-reads
statement-returns-in_err-form-clause-reads t c = rw (passed _ c.from_residual.result c.from_residual.ensures.1) (c.loop-e.invariant.is _ (statements.form-refused c.in_err-form.ensures))

pub statement-returns-in-Jump-clause-reads : goal.statement-returns-in-Jump-clause-reads
statement-returns-in-Jump-clause-reads t c = c.loop-e.invariant.is _ (statements.form-ends Jump c.in_ok-form.ensures c.in-Jump.is c.jump.ensures.reads)

pub statement-returns-in-Extern-clause-reads : goal.statement-returns-in-Extern-clause-reads
statement-returns-in-Extern-clause-reads t c = c.loop-e.invariant.is _ (statements.form-ends Extern c.in_ok-form.ensures c.in-Extern.is c.extern_.ensures.reads)

pub statement-returns-in-Switch-clause-reads : goal.statement-returns-in-Switch-clause-reads
statement-returns-in-Switch-clause-reads t c = c.loop-e.invariant.is _ (statements.form-ends Switch c.in_ok-form.ensures c.in-Switch.is c.switch_.ensures.reads)

pub statement-returns-in-Invoke-clause-reads : goal.statement-returns-in-Invoke-clause-reads
statement-returns-in-Invoke-clause-reads t c = c.loop-e.invariant.is _ (statements.form-ends Invoke c.in_ok-form.ensures c.in-Invoke.is c.invoke.ensures.reads)

pub switch_-returns-in_err-sig-clause-reads : goal.switch_-returns-in_err-sig-clause-reads
switch_-returns-in_err-sig-clause-reads t c = rw (passed _ c.from_residual.result c.from_residual.ensures.1) (forms.switch-refused c.in_err-sig.ensures)

pub switch_-clauses-requires : goal.switch_-clauses-requires
switch_-clauses-requires t c = let f = forms.switch-facts c.in_ok-sig.ensures in (omega (arith, f.0), (f.0, f.2))

pub switch_-returns-clause-reads : goal.switch_-returns-clause-reads
switch_-returns-clause-reads t c =
    let f = forms.switch-facts c.in_ok-sig.ensures in
    forms.switch-on c.in_ok-sig.ensures (forms.front-held c.args.env.now c.first.result 1 f.1 c.first.ensures.types c.first.ensures.width) c.clauses.ensures.reads

pub bare_clauses-returns-then-env-eq32-clause-reads : goal.bare_clauses-returns-then-env-eq32-clause-reads
bare_clauses-returns-then-env-eq32-clause-reads t c = rw c.at.ensures (c.loop.invariant.are _ (regions.bare-wide (omega arith) c.if-gains.true c.if-env-eq32.true))

-- nothing is gained, or there is a place for it
place : {t : ℕ} (c : goal.bare_clauses-After-at-then-region-eq48 t) → c.args.gains ≡ true → c.args.env.now.width < 32
place c = elim c.else-gains.branch [
  | bare_clauses-else-gains-via-else-gains w ↦ λ e. regions.nothing-gained w.if-gains.false e
  | bare_clauses-else-gains-via-then-gains+else-env-eq32 w ↦ λ e. omega (arith, w.if-env-eq32.false, c.args.env.now.narrow)
]

pub bare_clauses-returns-then-region-eq48-clause-reads : goal.bare_clauses-returns-then-region-eq48-clause-reads
bare_clauses-returns-then-region-eq48-clause-reads t c =
    rw c.at-then-region-eq48.ensures (c.loop.invariant.are _ (regions.bare-deep (omega arith) (place c) c.if-region-eq48.true))

pub bare_clauses-returns-in_err-p-clause-reads : goal.bare_clauses-returns-in_err-p-clause-reads
bare_clauses-returns-in_err-p-clause-reads t c =
    rw (passed _ c.from_residual.result c.from_residual.ensures.1)
    (c.loop.invariant.are _ (regions.bare-bad (omega arith) (omega (arith, c.args.region.now.shallow)) c.gaining.ensures c.in_err-p.ensures.reads))

pub bare_clauses-loop-preserved : goal.bare_clauses-loop-preserved
bare_clauses-loop-preserved t c =
    let w = c.in_ok-p.ensures.within in
    record {
      later = omega (arith, w.0);
      inside = w.1;
      are = λ r t. c.loop.invariant.are r (regions.bare-on (omega arith) (omega (arith, c.args.region.now.shallow)) c.gaining.ensures c.in_ok-p.ensures.reads w.0 (omega arith) r t);
    }

pub bare_clauses-returns-clause-reads : goal.bare_clauses-returns-clause-reads
bare_clauses-returns-clause-reads t c = c.loop.invariant.are _ (regions.bare-none (omega arith))

-- the list of the next symbol is inside the image
next-list : {image : List ℕ} {list symbol many : ℕ} → symbol < many → ∥ clauses.ListsFrom image list (many - symbol) ∥₁ → list + 1 + 2 * get_or image list 0 ≤ length image
next-list l = clauses.lists-inside (omega arith)

pub clauses-parameters-requires : goal.clauses-parameters-requires
clauses-parameters-requires t c = next-list c.loop-symbol-test.true c.loop-symbol.invariant.lists

pub clauses-returns-then-before-fields-gt32-clause-reads : goal.clauses-returns-then-before-fields-gt32-clause-reads
clauses-returns-then-before-fields-gt32-clause-reads t c =
    rw c.at.ensures (c.loop-symbol.invariant.are _ (clauses.named-wide (omega arith) c.in_ok-length_field.length_field c.in_ok-length_field.ensures.reads
    (clauses.fields-at c.parameters.ensures.types c.as_chunks.ensures.front) c.if-before-fields-gt32.true))

pub clauses-returns-then-region-eq48-clause-reads : goal.clauses-returns-then-region-eq48-clause-reads
clauses-returns-then-region-eq48-clause-reads t c =
    rw c.at-then-region-eq48.ensures (c.loop-symbol.invariant.are _ (clauses.named-deep (omega arith) c.in_ok-length_field.length_field c.in_ok-length_field.ensures.reads
    (clauses.fields-at c.parameters.ensures.types c.as_chunks.ensures.front) c.if-before-fields-gt32.false c.if-region-eq48.true))

pub clauses-returns-in_err-p-clause-reads : goal.clauses-returns-in_err-p-clause-reads
clauses-returns-in_err-p-clause-reads t c =
    let front = take-length c.as_chunks.result.0.now in
    let back = take-length c.args.behind.now in
    rw (passed _ c.from_residual-in_err-p.result c.from_residual-in_err-p.ensures.1)
    (c.loop-symbol.invariant.are _ (clauses.named-bad (omega arith) c.in_ok-length_field.length_field c.in_ok-length_field.ensures.reads
    (clauses.starts-whole (clauses.fields-at c.parameters.ensures.types c.as_chunks.ensures.front) (search rules) (search rules) c.followed_by-inner.ensures)
    (omega (arith, c.args.region.now.shallow)) (omega (arith, c.in_ok-length_field.ensures.next.0)) c.in_err-p.ensures.reads))

pub clauses-overflow_add-list-in-loop-symbol : goal.clauses-overflow_add-list-in-loop-symbol
clauses-overflow_add-list-in-loop-symbol t c = omega (arith, next-list c.loop-symbol-test.true c.loop-symbol.invariant.lists, c.args.region.now.short)

pub clauses-overflow_add-list-in-loop-symbol-2 : goal.clauses-overflow_add-list-in-loop-symbol-2
clauses-overflow_add-list-in-loop-symbol-2 t c = omega (
  arith,
  clauses.fields-inside (omega arith) c.loop-symbol.invariant.lists (clauses.fields-at c.parameters.ensures.types c.as_chunks.ensures.front),
  c.args.region.now.short,
)

pub clauses-loop-symbol-preserved : goal.clauses-loop-symbol-preserved
clauses-loop-symbol-preserved t c =
    let front = take-length c.as_chunks.result.0.now in
    let back = take-length c.args.behind.now in
    let w = c.in_ok-p.ensures.within in
    let later : c.loop-symbol.p ≤ c.in_ok-length_field.length_field = omega (arith, c.in_ok-length_field.ensures.next.0) in
    let fields = clauses.fields-at c.parameters.ensures.types c.as_chunks.ensures.front in
    record {
      later = omega (arith, w.0, later);
      inside = w.1;
      lists = ∥∥₁_map c.loop-symbol.invariant.lists (clauses.lists-next (omega arith) (omega arith) fields);
      are = λ r t.
          c.loop-symbol.invariant.are r (clauses.named-on (omega arith) c.in_ok-length_field.length_field c.in_ok-length_field.ensures.reads
          (clauses.starts-whole fields (search rules) (search rules) c.followed_by-inner.ensures)
          (omega (arith, c.args.region.now.shallow)) later c.in_ok-p.ensures.reads (omega (arith, w.0, later)) (omega arith) fields r t);
    }

pub extern_-returns-clause-reads : goal.extern_-returns-clause-reads
extern_-returns-clause-reads t c =
    forms.extern-goes c.in_ok-code.ensures c.arguments.ensures c.in_ok-first.first c.in_ok-first.ensures.reads c.in_ok-first.ensures.within.0
    c.gains.ensures c.clauses.ensures c.bare_clauses.ensures.reads

pub new_-returns-in_err-on : goal.new_-returns-in_err-on
new_-returns-in_err-on t c =
    rw (passed _ c.from_residual-in_err-on.result c.from_residual-in_err-on.ensures.1)
    (forms.new-clause c.in_ok-sig.ensures c.empty.ensures (forms.back-held c.args.env.now c.in_ok-sig.captures c.entries.ensures) c.in_err-on.ensures.reads)

pub new_-returns-then-kept-eq32 : goal.new_-returns-then-kept-eq32
new_-returns-then-kept-eq32 t c =
    rw c.at.ensures (forms.new-wide c.in_ok-sig.ensures c.empty.ensures (forms.back-held c.args.env.now c.in_ok-sig.captures c.entries.ensures) c.in_ok-on.ensures.reads c.if-kept-eq32.true)

pub new_-returns : goal.new_-returns
new_-returns t c =
    forms.new-on c.in_ok-sig.ensures c.empty.ensures (forms.back-held c.args.env.now c.in_ok-sig.captures c.entries.ensures)
    c.in_ok-on.ensures.reads c.in_ok-on.ensures.within.0 c.in_ok-on.ensures.within.1 (λ Δ t h e. c.renew.ensures Δ t h (e ∙ c.cns.ensures))

pub statement-returns-in_err-p-in-Substitute-clause-reads : goal.statement-returns-in_err-p-in-Substitute-clause-reads
statement-returns-in_err-p-in-Substitute-clause-reads t c =
    rw (passed _ c.from_residual-in_err-p-in-Substitute.result c.from_residual-in_err-p-in-Substitute.ensures.1)
    (c.loop-e.invariant.is _ (statements.form-stops Substitute c.in_ok-form.ensures c.in-Substitute.is c.in_err-p-in-Substitute.ensures))

pub statement-returns-in_err-p-in-Let-clause-reads : goal.statement-returns-in_err-p-in-Let-clause-reads
statement-returns-in_err-p-in-Let-clause-reads t c =
    rw (passed _ c.from_residual-in_err-p-in-Let.result c.from_residual-in_err-p-in-Let.ensures.1)
    (c.loop-e.invariant.is _ (statements.form-stops Let c.in_ok-form.ensures c.in-Let.is c.in_err-p-in-Let.ensures))

pub statement-returns-in_err-p-in-New-clause-reads : goal.statement-returns-in_err-p-in-New-clause-reads
statement-returns-in_err-p-in-New-clause-reads t c =
    rw (passed _ c.from_residual-in_err-p-in-New.result c.from_residual-in_err-p-in-New.ensures.1)
    (c.loop-e.invariant.is _ (statements.form-stops New c.in_ok-form.ensures c.in-New.is c.in_err-p-in-New.ensures))

pub statement-loop-e-preserved-in_ok-p-in-Substitute : goal.statement-loop-e-preserved-in_ok-p-in-Substitute
statement-loop-e-preserved-in_ok-p-in-Substitute t c =
    let o = statements.form-goes Substitute c.in_ok-form.ensures c.in-Substitute.is c.in_ok-p-in-Substitute.ensures in
    record { later = omega (arith, o.later, c.loop-e.invariant.later); inside = o.inside; is = λ r t. c.loop-e.invariant.is r (o.is r t) }

pub statement-loop-e-preserved-in_ok-p-in-Let : goal.statement-loop-e-preserved-in_ok-p-in-Let
statement-loop-e-preserved-in_ok-p-in-Let t c =
    let o = statements.form-goes Let c.in_ok-form.ensures c.in-Let.is c.in_ok-p-in-Let.ensures in
    record { later = omega (arith, o.later, c.loop-e.invariant.later); inside = o.inside; is = λ r t. c.loop-e.invariant.is r (o.is r t) }

pub statement-loop-e-preserved : goal.statement-loop-e-preserved
statement-loop-e-preserved t c =
    let o = statements.form-goes New c.in_ok-form.ensures c.in-New.is c.in_ok-p-in-New.ensures in
    record { later = omega (arith, o.later, c.loop-e.invariant.later); inside = o.inside; is = λ r t. c.loop-e.invariant.is r (o.is r t) }
