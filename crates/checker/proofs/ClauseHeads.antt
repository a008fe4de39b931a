-- The tests of new and switch before their clauses, in each case. Assumes nothing.
use Rattle.std.proofs.Common.{ℕ, ◌+◌, ◌-◌, ◌≤◌, ◌<◌, ◌≡◌, List, [], ◌∷◌, map, Bool, true, false, not, length, get_or, take, drop, eqb, refl, ap, ◌∙◌, arith, le-leb, length-take-le}
use Rattle.std.proofs.Common.{Option, None, Some, Ok, Err, Bor, MatchOption, HoldsAt}
use Rattle.std.specs.Option.{option_eq}
use Rattle.std.proofs.lemmas.Bool.{not-true, not-false, lt-leb}
use mathlib.Core.List.{flat_map}
use lib.ListN.{length-map}
use lib.Pointwise.{pointwise}
use Rattle.definitions.specs.Terms.{Ty, prd, Environment, switch}
use Rattle.definitions.specs.Layout.{type_bytes, named}
use Rattle.definitions.specs.Ends.{front, back}
use Rattle.definitions.specs.Reader.{after, need, expected}
use Rattle.definitions.specs.FirstFault.{same_types, clauses, statement}
use Rattle.exactness.proofs.Readers.{with'}
use Rattle.exactness.proofs.Sound.{drop_at}
use Rattle.checker.specs.declared.faults.Refusal.TheVariants.{Untyped}
use Rattle.checker.specs.declared.faults.Fault.{Fault}
use Rattle.checker.specs.declared.env.Env.{Env}
use Rattle.checker.specs.declared.region.Region.{Region}
use Rattle.checker.specs.Faults.{at as fault-at}
use Rattle.checker.specs.Shown.{forget, shown, Next}
use Rattle.checker.specs.Readers.{NameIs, ByteIs}
use Rattle.checker.specs.Forms.{NewIs, new_goes, new_stops, SwitchIs, switch_goes, switch_stops}
use Rattle.checker.proofs.Lists.{holds-length, at_some, written, written_at}
use Rattle.checker.proofs.Loops.{forget-after, shown-bad}
use Rattle.checker.proofs.ReaderLaws.{name-on, name-bad, name-value, byte-on, byte-bad, expected-on}
use Rattle.checker.proofs.SameTypes.{same-bytes}
use Rattle.checker.proofs.FormLaws.{signature-count}

-- ---- new

module _ {g : Region} {env : Env} {at : ℕ} where
  pub new-signature : {f : Fault} → NameIs g.bytes.now (length g.sigs.now) (at + 1) (Err f) → NewIs g env at (Err f)
  unfolding after
  new-signature h = new_stops (λ Σ Θ Δ f p k. rw (name-bad Σ p.signed.many h))

  module _ {t : ℕ} (h : NameIs g.bytes.now (length g.sigs.now) (at + 1) (Ok t)) where
    pub new-short : {f : Fault} → ByteIs g.bytes.now (at + 2) (Err f) → NewIs g env at (Err f)
    unfolding after
    new-short b = new_stops (λ Σ Θ Δ f p k.
        let two : at + 1 + 1 ≡ at + 2 = omega arith in
        rw ((name-on Σ p.signed.many h).reads, two, byte-bad b))

    module _ {captures : ℕ} (b : ByteIs g.bytes.now (at + 2) (Ok captures)) where
      pub new-many : env.width < captures → NewIs g env at (Err (fault-at Untyped (at + 2)))
      unfolding after need
      new-many y = new_stops (λ Σ Θ Δ f p k.
          let two : at + 1 + 1 ≡ at + 2 = omega arith in
          rw ((name-on Σ p.signed.many h).reads, two, (byte-on b).reads, lt-leb captures (length Δ) (rw (holds-length env.types env.full env.width env.narrow Δ k) y)))

      module _ (few : captures ≤ env.width) where
        pub new-count : {f : Fault} → forget (expected (get_or g.image.now (get_or g.sigs.now t 0) 0) (at + 3) (drop (at + 3) g.bytes.now)) ≡ shown g.bytes.now (Err f) → NewIs g env at (Err f)
        unfolding after need
        new-count {f = e} x = new_stops (λ Σ Θ Δ f p k.
            let on = name-on Σ p.signed.many h in
            let two : at + 1 + 1 ≡ at + 2 = omega arith in
            let three : at + 2 + 1 ≡ at + 3 = omega arith in
            let bad = shown-bad g.bytes.now _ (Err e) e x refl in
            rw (
              on.reads,
              two,
              (byte-on b).reads,
              three,
              le-leb captures (length Δ) (rw (holds-length env.types env.full env.width env.narrow Δ k) few),
              ← (signature-count on.entry (p.signed.laid t on.entry on.is)),
              bad,
            ))

        pub new-goes : {e : ℕ} → forget (expected (get_or g.image.now (get_or g.sigs.now t 0) 0) (at + 3) (drop (at + 3) g.bytes.now)) ≡ shown g.bytes.now (Ok e)
            → Next (at + 3) g.bytes.now (Ok e) → NewIs g env at (Ok (get_or g.sigs.now t 0, captures))
        unfolding after need
        new-goes {e = e} x n =
            let i = name-value h in
            let ex = expected-on _ e x n in
            new_goes (omega (arith, ex.inside)) few (ap (λ k. get_or g.sigs.now k 0) i.1) (omega arith) (λ Σ Θ Δ f p k.
            let on = name-on Σ p.signed.many h in
            let two : at + 1 + 1 ≡ at + 2 = omega arith in
            let three : at + 2 + 1 ≡ at + 3 = omega arith in
            let four : at + 3 + 1 ≡ at + 4 = omega arith in
            let l = p.signed.laid t on.entry on.is in
            let enough : captures ≤ length Δ = rw (holds-length env.types env.full env.width env.narrow Δ k) few in
            (on.entry, l, rw (on.reads, two, (byte-on b).reads, three, le-leb captures (length Δ) enough, ← (signature-count on.entry l), ex.reads, four, ← i.1)))

-- ---- the last entry

-- what stands last in the entries
abbrev Last : List (List ℕ) → Option (Bor (List ℕ)) → Type 0
Last entries o = MatchOption o (length entries ≤ 0) (λ x. (0 < length entries) × HoldsAt (λ y. x.now ≡ y) entries (length entries - 1))

-- it is the bytes of a type where the last type is that
last-compared : (o : Option (Bor (List ℕ))) (entries : List (List ℕ)) → Last entries o → (Δ : Environment) → entries ≡ map type_bytes Δ → (u : Ty) (w : Bor (List ℕ)) → w.now ≡ type_bytes u
    → option_eq (λ x y. pointwise eqb x.now y.now) o (Some w) ≡ same_types (back Δ 1) (u ∷ [])
unfolding flat_map
last-compared None entries m [] k u w e = refl
last-compared None entries m (t ∷ Δ) k u w e = absurd (omega (arith, m, ap length k))
last-compared (Some x) entries m Δ k u w e =
    let n : length entries ≡ length Δ = ap length k ∙ length-map Δ type_bytes in
    with' (at_some Δ (length Δ - 1) (omega (arith, m.0, n))) λ a.
    let v : x.now ≡ type_bytes a.0 = m.1 [] ∙ rw (n, k) (written_at type_bytes Δ (length Δ - 1) ∙ ap (written type_bytes) a.1) in
    rw (v, e, drop_at Δ (length Δ - 1) a.0 (omega (arith, m.0, n)) a.1) (same-bytes (a.0 ∷ []) (u ∷ []))

some-last : (o : Option (Bor (List ℕ))) (entries : List (List ℕ)) → Last entries o → (w : Bor (List ℕ)) → option_eq (λ x y. pointwise eqb x.now y.now) o (Some w) ≡ true → 0 < length entries
some-last None entries m w e = absurd (false-true e)
  where
    false-true : ◌≡◌ {A = Bool} false true → ⊥
    false-true q = let z : ◌≡◌ {A = ℕ} 0 1 = cc in omega arith
some-last (Some x) entries m w e = m.0

-- ---- switch

module _ {g : Region} {env : Env} {at : ℕ} where
  pub switch-signature : {f : Fault} → NameIs g.bytes.now (length g.sigs.now) (at + 1) (Err f) → SwitchIs g env at (Err f)
  unfolding after
  switch-signature h = switch_stops (λ Σ Θ Δ f p k. rw (name-bad Σ p.signed.many h))

  module _ {t : ℕ} (h : NameIs g.bytes.now (length g.sigs.now) (at + 1) (Ok t)) (o : Option (Bor (List ℕ))) {entries : List (List ℕ)} (y : entries ≡ take env.width env.types) (m : Last entries o)
      (w : Bor (List ℕ)) (v : w.now ≡ 0 ∷ get_or g.bytes.now (at + 1) 0 ∷ []) where
    pub switch-other : not (option_eq (λ x y. pointwise eqb x.now y.now) o (Some w)) ≡ true → SwitchIs g env at (Err (fault-at Untyped at))
    unfolding after need
    switch-other z = switch_stops (λ Σ Θ Δ f p k.
        let on = name-on Σ p.signed.many h in
        rw (on.reads, ← (last-compared o entries m Δ (y ∙ k) (prd t) w (rw on.value v)), not-true _ z))

    module _ (z : not (option_eq (λ x y. pointwise eqb x.now y.now) o (Some w)) ≡ false) where
      pub switch-count : {f : Fault} → forget (expected (get_or g.image.now (get_or g.sigs.now t 0) 0) (at + 2) (drop (at + 2) g.bytes.now)) ≡ shown g.bytes.now (Err f) → SwitchIs g env at (Err f)
      unfolding after need
      switch-count {f = e} x = switch_stops (λ Σ Θ Δ f p k.
          let on = name-on Σ p.signed.many h in
          let two : at + 1 + 1 ≡ at + 2 = omega arith in
          let bad = shown-bad g.bytes.now _ (Err e) e x refl in
          rw (on.reads, two, ← (last-compared o entries m Δ (y ∙ k) (prd t) w (rw on.value v)), not-false _ z, ← (signature-count on.entry (p.signed.laid t on.entry on.is)), bad))

      pub switch-goes : {e : ℕ} → forget (expected (get_or g.image.now (get_or g.sigs.now t 0) 0) (at + 2) (drop (at + 2) g.bytes.now)) ≡ shown g.bytes.now (Ok e)
          → Next (at + 2) g.bytes.now (Ok e) → SwitchIs g env at (Ok (get_or g.sigs.now t 0))
      unfolding after need
      switch-goes {e = e} x n =
          let i = name-value h in
          let ex = expected-on _ e x n in
          let wide : length entries ≡ env.width = ap length y ∙ length-take-le env.width env.types (omega (arith, env.full, env.narrow)) in
          switch_goes (omega (arith, ex.inside)) (omega (arith, wide, some-last o entries m w (not-false _ z))) (ap (λ k. get_or g.sigs.now k 0) i.1) (omega arith) (λ Σ Θ Δ f p k.
          let on = name-on Σ p.signed.many h in
          let two : at + 1 + 1 ≡ at + 2 = omega arith in
          let three : at + 2 + 1 ≡ at + 3 = omega arith in
          let l = p.signed.laid t on.entry on.is in (
            on.entry,
            l,
            rw (on.reads, two, ← (last-compared o entries m Δ (y ∙ k) (prd t) w (rw on.value v)), not-false _ z, ← (signature-count on.entry l), ex.reads, three)
                (forget-after (clauses Σ Θ (statement Σ Θ f) named g.depth (front Δ 1) [] 0 on.entry (at + 3) (drop (at + 3) g.bytes.now)) (λ cs. switch t cs)),
          ))
