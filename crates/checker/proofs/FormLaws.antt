-- The tests of each form, in each case. Assumes nothing.
use Rattle.std.proofs.Common.{ℕ, zero, suc, ◌+◌, ◌-◌, ◌*◌, ◌/◌, ◌≤◌, ◌<◌, ◌≡◌, List, [], ◌∷◌, ◌++◌, Bool, true, false, not, length, get_or}
use Rattle.std.proofs.Common.{take, drop, eqb, refl, sym, ap, ◌∙◌, map, arith, le-leb, length-drop, length-take-le, length-append, zero-add}
use Rattle.std.proofs.Common.{Option, None, Some, Result, Ok, Err, ok_or, MatchOption, MatchResult}
use Rattle.std.specs.List.{IsLastAndRest}
use Rattle.std.proofs.Math.Option.{none, some}
use lib.ListN.{length-map}
use Rattle.std.proofs.Math.Logic.{∥∥₁_elim}
use Rattle.std.proofs.Math.Bridge.{le_prop}
use Rattle.std.proofs.lemmas.Bool.{not-true, not-false, lt-leb}
use lib.Pointwise.{pointwise, pointwise_long}
use Rattle.definitions.specs.Terms.{Ty, prd, cns, ext, Environment, Signature, invoke, let', substitute}
use Rattle.definitions.specs.Layout.{kind_byte, number_byte, type_bytes}
use Rattle.definitions.specs.Ends.{front, back, last}
use Rattle.definitions.specs.Limits.{widest}
use Rattle.definitions.specs.Typing.{At}
use Rattle.definitions.specs.Reader.{got, after, need, the, give, byte, times, known}
use Rattle.definitions.specs.FirstFault.{same_types, consumes, statement, a_jump, a_substitute, a_let, an_invoke}
use Rattle.exactness.proofs.Readers.{with', same_place, then, known-then}
use Rattle.checker.specs.declared.faults.Refusal.TheVariants.{Untyped, Wide}
use Rattle.checker.specs.declared.faults.Fault.{Fault}
use Rattle.checker.specs.declared.env.Env.{Env}
use Rattle.checker.specs.declared.region.Region.{Region}
use Rattle.checker.specs.Faults.{at as fault-at}
use Rattle.checker.specs.Shown.{Walk, forget, shown, Within}
use Rattle.checker.specs.Laid.{Laid, Holds, Placed, parameters_bytes, signature_bytes}
use Rattle.checker.specs.Entries.{Held, Positions, NamedIs}
use Rattle.checker.specs.Readers.{NameIs, CountIs}
use Rattle.checker.specs.Forms.{EndsIs, GoesIs, goes, stops}
use Rattle.checker.proofs.Lists.{list-inside, at_some, at_none, types-length, holds-length, holds-front}
use Rattle.checker.proofs.PlaceLaws.{laid-counted, counted-inside, listed-inside}
use Rattle.checker.proofs.Loops.{forget-after, shown-bad, shown-on}
use Rattle.checker.proofs.ReaderLaws.{name-on, name-bad, name-value, count-on, count-bad}
use Rattle.checker.proofs.SameTypes.{flattened, flattened-map, bytes, compared, compared-end, LastIs, last-is}

-- ---- where the tables of a region point

pub label-inside : (g : Region) {at l : ℕ} → NameIs g.bytes.now (length g.labels.now) at (Ok l) → get_or g.labels.now l 0 + 1 + 2 * get_or g.image.now (get_or g.labels.now l 0) 0 ≤ length g.image.now
label-inside g {l = l} h = listed-inside g.image.now g.labels.now l (omega (arith, (name-value h).2)) g.labelled

-- a signature starts with its symbol count
pub signature-count : {image : List ℕ} {sig : ℕ} (S : Signature) → Laid image sig (signature_bytes S) → get_or image sig 0 ≡ length S
signature-count {image} {sig} S l = (laid-counted parameters_bytes image sig S l).0

-- what a search for the symbol m finds
abbrev pub SymbolAt : List ℕ → ℕ → ℕ → ℕ → Type 0
SymbolAt image sig m list = (S : Signature) (Γ : Environment) → Laid image sig (signature_bytes S) → At S m Γ → Laid image list (parameters_bytes Γ)

-- The signature t of a region, which stands at `sig`.
module _ (g : Region) {t sig : ℕ} (e : sig ≡ get_or g.sigs.now t 0) (b : t < length g.sigs.now) where
  pub offset-inside : sig < length g.image.now
  offset-inside = ∥∥₁_elim g.signed le_prop λ k.
      with' (at_some k.list t (omega (arith, k.placed.many))) λ a.
      counted-inside parameters_bytes g.image.now sig a.0 (rw e (k.placed.laid t a.0 a.1))

  pub symbol-inside : {at m list : ℕ} → NameIs g.bytes.now (get_or g.image.now sig 0) at (Ok m) → SymbolAt g.image.now sig m list → list + 1 + 2 * get_or g.image.now list 0 ≤ length g.image.now
  symbol-inside {m = m} {list = list} h f = ∥∥₁_elim g.signed le_prop λ k.
      with' (at_some k.list t (omega (arith, k.placed.many))) λ a.
      let l : Laid g.image.now sig (signature_bytes a.0) = rw e (k.placed.laid t a.0 a.1) in
      with' (at_some a.0 m (omega (arith, signature-count a.0 l, (name-value h).2))) λ c.
      list-inside g.image.now list c.0 (f a.0 c.0 l c.1)

-- ---- jump

module _ {g : Region} {env : Env} {at : ℕ} where
  pub jump-bad : {f : Fault} → NameIs g.bytes.now (length g.labels.now) (at + 1) (Err f) → EndsIs a_jump g env at (Err f)
  unfolding after shown
  jump-bad h = record { is = λ Σ Θ Δ f p k m. rw (name-bad Θ p.labelled.many h) }

  module _ {l : ℕ} (h : NameIs g.bytes.now (length g.labels.now) (at + 1) (Ok l)) {flat wanted : List ℕ} (e : flat ≡ flattened (take env.width env.types))
      (w : (Γ : Environment) → Laid g.image.now (get_or g.labels.now l 0) (parameters_bytes Γ) → wanted ≡ bytes Γ) where
    pub jump-other : not (pointwise eqb flat wanted) ≡ true → EndsIs a_jump g env at (Err (fault-at Untyped at))
    unfolding after need shown
    jump-other n = record {
      is = λ Σ Θ Δ f p k m.
          let on = name-on Θ p.labelled.many h in
          rw (on.reads, ← (compared Δ on.entry k e (w on.entry (p.labelled.laid l on.entry on.is))), not-true _ n);
    }

    pub jump-same : not (pointwise eqb flat wanted) ≡ false → EndsIs a_jump g env at (Ok (at + 2))
    unfolding after need shown
    jump-same n = record {
      is = λ Σ Θ Δ f p k m.
          let on = name-on Θ p.labelled.many h in
          let two : at + 1 + 1 ≡ at + 2 = omega arith in
          rw (on.reads, ← (compared Δ on.entry k e (w on.entry (p.labelled.laid l on.entry on.is))), not-false _ n, two);
    }

-- ---- invoke

-- what `ok_or` makes of an option, of which both cases are known
pub matched : {A E : Type 0} (P : Type 0) (Q : A → Type 0) (o : Option A) (e : E) {r : Result A E} → r ≡ ok_or o e → MatchOption o P Q → MatchResult r Q (λ f. P × (f ≡ e))
matched P Q o e h m = rw h (go o m)
  where
    go : (o : Option _) → MatchOption o P Q → MatchResult (ok_or o e) Q (λ f. P × (f ≡ e))
    go None m = (m, refl)
    go (Some x) m = m

-- the last entry, where it is a consumer
consumer : (l : List ℕ) {rest : List (List ℕ)} {Δ : Environment} → LastIs Δ l rest → get_or l 0 0 ≡ 1 → last Δ ≡ some (cns (get_or l 1 0))
consumer l it one = it.is ∙ ap some (go it.entry (ap (λ b. get_or b 0 0) it.value ∙ one) (ap (λ b. get_or b 1 0) it.value))
  where
    go : (u : Ty) → kind_byte u ≡ 1 → number_byte u ≡ get_or l 1 0 → u ≡ cns (get_or l 1 0)
    go (prd k) i j = absurd (omega arith)
    go (cns k) i j = ap cns j
    go ext i j = absurd (omega arith)

other : (u : Ty) → (kind_byte u ≡ 1 → ⊥) → consumes u ≡ none
other (prd k) n = refl
other (cns k) n = absurd (n refl)
other ext n = refl

-- the signature that a consumer names
its-signature : (g : Region) (t : ℕ) {sig : ℕ} → sig ≡ get_or g.sigs.now t 0 → t < length g.sigs.now → (Σ : List Signature) → Placed signature_bytes g.image.now g.sigs.now Σ
    → (S : Signature) × At Σ t S × Laid g.image.now sig (signature_bytes S)
its-signature g t e b Σ p =
    with' (at_some Σ t (omega (arith, p.many))) λ a.
    (a.0, a.1, rw e (p.laid t a.0 a.1))

module _ {g : Region} {env : Env} {at : ℕ} (entries : List (List ℕ)) (x : entries ≡ take env.width env.types) where
  pub invoke-none : {f : Fault} → (length entries ≡ 0) × (f ≡ fault-at Untyped at) → EndsIs an_invoke g env at (Err f)
  unfolding after the shown
  invoke-none z = record { is = λ Σ Θ Δ f p k m. rw (z.1, at_none Δ (length Δ - 1) (omega (arith, z.0, ap length (x ∙ k), length-map Δ type_bytes))) }

  module _ (l : List ℕ) (rest : List (List ℕ)) (split : IsLastAndRest entries l rest) where
    pub invoke-kind : (get_or l 0 0 ≡ 1 → ⊥) → EndsIs an_invoke g env at (Err (fault-at Untyped at))
    unfolding after the shown
    invoke-kind n = record {
      is = λ Σ Θ Δ f p k m.
          let it = last-is split Δ (x ∙ k) in
          rw (it.is, other it.entry (λ e. n (sym (ap (λ b. get_or b 0 0) it.value) ∙ e)));
    }

    module _ (one : get_or l 0 0 ≡ 1) where
      pub invoke-signature : {f : Fault} → (length g.sigs.now ≤ get_or l 1 0) × (f ≡ fault-at Untyped at) → EndsIs an_invoke g env at (Err f)
      unfolding after the shown
      invoke-signature y = record { is = λ Σ Θ Δ f p k m. rw (y.1, consumer l (last-is split Δ (x ∙ k)) one, at_none Σ (get_or l 1 0) (omega (arith, y.0, p.signed.many))) }

      module _ {sig : ℕ} (e : sig ≡ get_or g.sigs.now (get_or l 1 0) 0) (b : get_or l 1 0 < length g.sigs.now) where
        pub invoke-symbol : {f : Fault} → NameIs g.bytes.now (get_or g.image.now sig 0) (at + 1) (Err f) → EndsIs an_invoke g env at (Err f)
        unfolding after the shown
        invoke-symbol h = record {
          is = λ Σ Θ Δ f p k m.
              with' (its-signature g (get_or l 1 0) e b Σ p.signed) λ S.
              rw (consumer l (last-is split Δ (x ∙ k)) one, S.1, name-bad S.0 (signature-count S.0 S.2) h);
        }

        module _ {m : ℕ} (h : NameIs g.bytes.now (get_or g.image.now sig 0) (at + 1) (Ok m)) {list : ℕ} (s : SymbolAt g.image.now sig m list) {flat wanted : List ℕ} (w : flat ≡ flattened rest)
            (v : (Γ : Environment) → Laid g.image.now list (parameters_bytes Γ) → wanted ≡ bytes Γ) where
          -- all but the last entry are compared with the symbol's parameters
          compared-rest : (r : Walk) (c : Bool) → pointwise eqb flat wanted ≡ c
              → shown g.bytes.now r ≡ forget (after (need c 8 at (at + 2) (drop (at + 2) g.bytes.now)) (λ _. give (invoke m))) → EndsIs an_invoke g env at r
          unfolding after the
          compared-rest r c z y = record {
            is = λ Σ Θ Δ f p k n.
                with' (its-signature g (get_or l 1 0) e b Σ p.signed) λ S.
                let it = last-is split Δ (x ∙ k) in
                let on = name-on S.0 (signature-count S.0 S.2) h in
                let two : at + 1 + 1 ≡ at + 2 = omega arith in
                rw (consumer l it one, S.1, on.reads, ← (compared (front Δ 1) on.entry it.others w (v on.entry (s S.0 on.entry S.2 on.is))), z, two) (sym y);
          }

          pub invoke-other : not (pointwise eqb flat wanted) ≡ true → EndsIs an_invoke g env at (Err (fault-at Untyped at))
          unfolding after need shown
          invoke-other n = compared-rest (Err (fault-at Untyped at)) false (not-true _ n) refl

          pub invoke-same : not (pointwise eqb flat wanted) ≡ false → EndsIs an_invoke g env at (Ok (at + 2))
          unfolding after need shown
          invoke-same n = compared-rest (Ok (at + 2)) true (not-false _ n) refl

-- ---- let

-- a symbol's parameters, read, and what the comparison with the last entries says
record Fields (s : List ℕ) (at m : ℕ) (flat fields : List ℕ) (S : Signature) (Δ : Environment) : Type 0 where
  pub types : Environment
  pub reads : known S (at + 2) (drop (at + 2) s) ≡ got (m, types) (at + 3) (drop (at + 3) s)
  pub bytes : fields ≡ bytes types
  pub ends : pointwise eqb fields (drop (length flat - length fields) flat) ≡ same_types (back Δ (length types)) types

fields-read : {s image : List ℕ} {sig at m list : ℕ} → NameIs s (get_or image sig 0) (at + 2) (Ok m) → SymbolAt image sig m list
    → {entries : List (List ℕ)} {flat fields : List ℕ} → flat ≡ flattened entries → ((Γ : Environment) → Laid image list (parameters_bytes Γ) → fields ≡ bytes Γ)
    → (S : Signature) → Laid image sig (signature_bytes S) → (Δ : Environment) → entries ≡ map type_bytes Δ → Fields s at m flat fields S Δ
fields-read {at = at} h f w v S l Δ k =
    let on = name-on S (signature-count S l) h in
    let three : at + 2 + 1 ≡ at + 3 = omega arith in
    let b = v on.entry (f S on.entry l on.is) in
    record { types = on.entry; reads = rw three at on.reads; bytes = b; ends = compared-end Δ on.entry k w b }

-- the entries before the fields, of which there are so many
held-kept : (env : Env) {s : List ℕ} {at m : ℕ} {flat fields : List ℕ} → flat ≡ flattened (take env.width env.types) → pointwise eqb fields (drop (length flat - length fields) flat) ≡ true
    → {S : Signature} {Δ : Environment} → Held env Δ → (it : Fields s at m flat fields S Δ) → Holds env.types (env.width - length fields / 2) (front Δ (length it.types))
held-kept env {flat = flat} {fields = fields} w z {Δ = Δ} k it =
    let same : length fields ≡ length (drop (length flat - length fields) flat) = pointwise_long eqb fields _ z in
    let m : length flat ≡ length Δ + length Δ = ap length (w ∙ ap flattened k ∙ flattened-map Δ) ∙ types-length Δ in
    let n : length Δ ≡ env.width = holds-length env.types env.full env.width env.narrow Δ k in
    let c : length fields ≡ length it.types + length it.types = ap length it.bytes ∙ types-length it.types in
    let half : length fields / 2 ≡ length it.types = omega arith in
    rw half (holds-front env.types env.full env.width env.narrow Δ k (length it.types) (omega (arith, same, length-drop (length flat - length fields) flat)))

module _ {g : Region} {env : Env} {at : ℕ} where
  pub let-signature : {f : Fault} → NameIs g.bytes.now (length g.sigs.now) (at + 1) (Err f) → GoesIs a_let g env at (Err f)
  unfolding after
  let-signature h = stops (λ Σ Θ Δ f p k n. rw (name-bad Σ p.signed.many h))

  module _ {t : ℕ} (h : NameIs g.bytes.now (length g.sigs.now) (at + 1) (Ok t)) where
    pub let-symbol : {f : Fault} → NameIs g.bytes.now (get_or g.image.now (get_or g.sigs.now t 0) 0) (at + 2) (Err f) → GoesIs a_let g env at (Err f)
    unfolding after
    let-symbol h' = stops (λ Σ Θ Δ f p k n.
        let on = name-on Σ p.signed.many h in
        let two : at + 1 + 1 ≡ at + 2 = omega arith in
        rw (on.reads, two, name-bad on.entry (signature-count on.entry (p.signed.laid t on.entry on.is)) h'))

    module _ {m : ℕ} (h' : NameIs g.bytes.now (get_or g.image.now (get_or g.sigs.now t 0) 0) (at + 2) (Ok m)) {list : ℕ} (s : SymbolAt g.image.now (get_or g.sigs.now t 0) m list)
        {flat fields : List ℕ} (w : flat ≡ flattened (take env.width env.types)) (v : (Γ : Environment) → Laid g.image.now list (parameters_bytes Γ) → fields ≡ bytes Γ) where
      pub let-other : pointwise eqb fields (drop (length flat - length fields) flat) ≡ false → GoesIs a_let g env at (Err (fault-at Untyped at))
      unfolding after need
      let-other z = stops (λ Σ Θ Δ f p k n.
          let on = name-on Σ p.signed.many h in
          let two : at + 1 + 1 ≡ at + 2 = omega arith in
          let it = fields-read h' s w v on.entry (p.signed.laid t on.entry on.is) Δ k in
          rw (on.reads, two, it.reads, ← it.ends, z))

      module _ (z : pointwise eqb fields (drop (length flat - length fields) flat) ≡ true) where
        pub let-wide : env.width - length fields / 2 ≡ 32 → GoesIs a_let g env at (Err (fault-at Wide at))
        unfolding after need
        let-wide full = stops (λ Σ Θ Δ f p k n.
            let on = name-on Σ p.signed.many h in
            let two : at + 1 + 1 ≡ at + 2 = omega arith in
            let it = fields-read h' s w v on.entry (p.signed.laid t on.entry on.is) Δ k in
            let kept = front Δ (length it.types) in
            let many : length kept ≡ 32 = rw full at (holds-length env.types env.full (env.width - length fields / 2) (omega (arith, env.narrow)) kept (held-kept env w z k it)) in
            let wide : widest < length (kept ++ (prd t ∷ [])) = omega (arith, length-append kept (prd t ∷ []), many) in
            rw (on.reads, two, it.reads, ← it.ends, z, lt-leb (length (kept ++ (prd t ∷ []))) widest wide))

        pub let-goes : {env' : Env} → ((Δ : Environment) → Holds env.types (env.width - length fields / 2) Δ → Held env' (Δ ++ (prd t ∷ []))) → GoesIs a_let g env at (Ok (at + 3, env'))
        unfolding after need
        let-goes {env' = env'} renew = goes (omega arith) (omega (arith, (name-value h').0)) (λ Σ Θ Δ f p k n.
            let on = name-on Σ p.signed.many h in
            let two : at + 1 + 1 ≡ at + 2 = omega arith in
            let it = fields-read h' s w v on.entry (p.signed.laid t on.entry on.is) Δ k in
            let l = front Δ (length it.types) ++ (prd t ∷ []) in
            let x : Held env' l = renew (front Δ (length it.types)) (held-kept env w z k it) in
            let narrow : length l ≤ widest = omega (arith, holds-length env'.types env'.full env'.width env'.narrow l x, env'.narrow) in
            (l, x, rw (on.reads, two, it.reads, ← it.ends, z, le-leb (length l) widest narrow) (forget-after (statement Σ Θ f g.depth l (at + 3) (drop (at + 3) g.bytes.now)) (λ u. let' t m u))))

-- ---- substitute

-- one more position
position-more : (Δ : Environment) (n q b : ℕ) (t : Ty) (zs : List ℕ) (ts : List (ℕ × Ty)) (e : ℕ) → At Δ b t → times n (known Δ) (suc q) zs ≡ got ts e []
    → times (suc n) (known Δ) q (b ∷ zs) ≡ got ((b, t) ∷ ts) e []
unfolding after the byte
position-more Δ n q b t zs ts e a h = rw (a, h)

-- positions are read in a part of the bytes, from any offset, as they are in the whole
positions-in : (Δ : Environment) (n p q : ℕ) (xs : List ℕ) (l : List (ℕ × Ty)) {e : ℕ} {ys : List ℕ} → times n (known Δ) p xs ≡ got l e ys → times n (known Δ) q (take n xs) ≡ got l (q + n) []
positions-in Δ zero p q xs l h = let z : [] ≡ l = cc in rw (← z) (same_place (omega arith))
positions-in Δ (suc n) p q xs l h =
    known-then Δ p xs _ h λ b t zs e a h1.
    then _ (times n (known Δ) (suc p) zs) _ h1 λ ts at ws h2 h3.
    let z : (b, t) ∷ ts ≡ l = cc in
    rw (e, ← z) (position-more Δ n q b t (take n zs) ts (suc q + n) a (positions-in Δ n (suc p) (suc q) zs ts h2) ∙ same_place (omega arith))

module _ {g : Region} {env : Env} {at : ℕ} where
  pub substitute-count : {f : Fault} → CountIs g.bytes.now 0 32 (at + 1) (Err f) → GoesIs a_substitute g env at (Err f)
  unfolding after
  substitute-count h = stops (λ Σ Θ Δ f p k m. rw (count-bad h))

  module _ {n : ℕ} (h : CountIs g.bytes.now 0 32 (at + 1) (Ok n)) where
    pub substitute-position : {f : Fault} → Positions g.bytes.now env.width (at + 2) n (Err f) → GoesIs a_substitute g env at (Err f)
    unfolding after
    substitute-position {f = e} q = stops (λ Σ Θ Δ f p k m.
        let two : at + 1 + 1 ≡ at + 2 = omega arith in
        let r = q.reads Δ (holds-length env.types env.full env.width env.narrow Δ k) in
        rw ((count-on h).reads, two, shown-bad g.bytes.now (times n (known Δ) (at + 2) (drop (at + 2) g.bytes.now)) (Err e) e r refl))

    pub substitute-goes : {on : ℕ} {env' : Env} → Within (at + 2) g.bytes.now (Ok on) → Positions g.bytes.now env.width (at + 2) n (Ok on)
        → NamedIs env (take (on - (at + 2)) (drop (at + 2) g.bytes.now)) env' → GoesIs a_substitute g env at (Ok (on, env'))
    unfolding after
    substitute-goes {on = on} {env' = env'} w q named = goes (omega (arith, w.0)) w.1 (λ Σ Θ Δ f p k m.
        let two : at + 1 + 1 ≡ at + 2 = omega arith in
        let many : on - (at + 2) ≡ n = omega (arith, q.ended on refl) in
        let part : List ℕ = take n (drop (at + 2) g.bytes.now) in
        let wide : length Δ ≡ env.width = holds-length env.types env.full env.width env.narrow Δ k in
        let long : length part ≡ n = length-take-le n (drop (at + 2) g.bytes.now) (omega (arith, w, q.ended on refl, length-drop (at + 2) g.bytes.now)) in
        with' (shown-on g.bytes.now (times n (known Δ) (at + 2) (drop (at + 2) g.bytes.now)) (Ok on) on (q.reads Δ wide) refl) λ v.
        let read : times (length part) (known Δ) 0 part ≡ got v.0 (length part) [] = rw long (positions-in Δ n (at + 2) 0 (drop (at + 2) g.bytes.now) v.0 v.1 ∙ same_place (zero-add n)) in (
          map (λ t. t.1) v.0,
          (rw many at named).holds Δ k v.0 read,
          rw ((count-on h).reads, two, v.1) (forget-after (statement Σ Θ f g.depth (map (λ t. t.1) v.0) on (drop on g.bytes.now)) (λ u. substitute (map (λ t. t.0) v.0) u)),
        ))
