-- Regions and bare clauses, in each case.
use Prim.Native.Nat.{ℕ, suc, ◌+◌, ◌-◌, ◌*◌, ◌≤◌, ◌<◌}
use mathlib.Core.Path.{◌≡◌, refl, ap, sym, ◌∙◌}
use mathlib.Core.List.{List, [], ◌∷◌, ◌++◌}
use mathlib.Core.Bool.{Bool, true, false}
use native.Mathlib.Nat.{zero-add}
use native.Mathlib.Numerals.{add-one}
use native.Mathlib.Omega.{arith}
use lib.ListN.{length, get_or, take, drop, length-drop, length-append}
use lib.Seq.{drop-cons, drop-drop, drop-length, length-take-le}
use borrow.Author.Tests.{le-leb, lt-leb, lt-ltb, le-ltb}
use Rattle.std.specs.Prelude.{Ok, Err}
use Rattle.definitions.specs.Limits.{widest, deepest}
use Rattle.definitions.specs.Terms.{ext, Environment, Signature, clause}
use Rattle.definitions.specs.Typing.{All}
use Rattle.definitions.specs.Layout.{bare}
use Rattle.definitions.specs.Reader.{got, after, need, item, end, in_region}
use Rattle.definitions.specs.FirstFault.{clauses, statement}
use Rattle.exactness.proofs.Readers.{with'}
use Rattle.exactness.proofs.Numbers.{item-enough}
use Rattle.checker.specs.declared.faults.Fault.{Fault}
use Rattle.checker.specs.declared.faults.Refusal.TheVariants.{Short, Wide, Deep, Left}
use Rattle.checker.specs.declared.env.Env.{Env}
use Rattle.checker.specs.declared.region.Region.{Region}
use Rattle.checker.specs.Faults.{at as fault-at}
use Rattle.checker.specs.Shown.{forget, shown, Walk}
use Rattle.checker.specs.Entries.{Held, gained}
use Rattle.checker.specs.Regions.{Heads, UpTo}
use Rattle.checker.specs.Statements.{StatementIs, RegionIs, BareAre}
use Rattle.checker.proofs.Bytes.{item-short}
use Rattle.checker.proofs.Loops.{shown-bad, shown-on, forget-after}
use Rattle.checker.proofs.Lists.{holds-length, drop-take}

-- an environment that is held is not too wide
pub held-narrow : (env : Env) (Δ : Environment) → Held env Δ → length Δ ≤ widest
held-narrow env Δ h = omega (arith, holds-length env.types env.full env.width env.narrow Δ h, env.narrow)

-- ---- regions inside a region

-- what was placed for a region is placed for those inside it
pub heads-up_to : {g h : Region} {end depth : ℕ} → UpTo g end depth h → {Σ : List Signature} {Θ : List Environment} → Heads g Σ Θ → Heads h Σ Θ
heads-up_to d a = record { signed = rw (d.image, d.sigs) a.signed; labelled = rw (d.image, d.labels) a.labelled }

-- a region of a clause, as the clauses' reader has it
pub deeper-reads : {g : Region} {env : Env} {at : ℕ} {x : Walk} → RegionIs g env (g.depth + 1) at x
    → (Σ : List Signature) (Θ : List Environment) (Δ : Environment) (f : ℕ) → Heads g Σ Θ → Held env Δ → length g.bytes.now - at ≤ f
    → forget (in_region (statement Σ Θ f (suc g.depth) Δ) at (drop at g.bytes.now)) ≡ shown g.bytes.now x
deeper-reads {g} y Σ Θ Δ f a k w = rw (add-one g.depth) at (y.is Σ Θ Δ f a k w)

-- ---- a region with one statement

two_bytes : (s : List ℕ) (at : ℕ) → 2 ≤ length s - at → item 2 at (drop at s) ≡ got (get_or s at 0 * 256 + get_or s (at + 1) 0) (at + 2) (drop (at + 2) s)
two_bytes s at h =
    let e : drop at s ≡ get_or s at 0 ∷ get_or s (suc at) 0 ∷ drop (suc (suc at)) s = drop-cons s at 0 (omega arith) ∙ ap (λ l. get_or s at 0 ∷ l) (drop-cons s (suc at) 0 (omega arith)) in
    let a : suc at ≡ at + 1 = omega arith in
    let b : suc (at + 1) ≡ at + 2 = omega arith in
    rw (item-enough 2 at (drop at s) (rw length-drop h), e, zero-add, a, b)

module _ (g : Region) (env : Env) (depth at : ℕ) where
  abbrev s : List ℕ
  s = g.bytes.now

  pub region-none : length s - at < 2 → RegionIs g env depth at (Err (fault-at Short at))
  unfolding after shown
  region-none l = record { is = λ Σ Θ Δ f a k b. rw (item-short 2 at (drop at s) (rw length-drop l)) }

  module _ (more : 2 ≤ length s - at) (size : ℕ) (sized : size ≡ get_or s at 0 * 256 + get_or s (at + 1) 0) where
    size-read : item 2 at (drop at s) ≡ got size (at + 2) (drop (at + 2) s)
    size-read = rw sized (two_bytes s at more)

    pub region-long : length s - (at + 2) < size → RegionIs g env depth at (Err (fault-at Short at))
    unfolding after need shown
    region-long l = record { is = λ Σ Θ Δ f a k b. rw (size-read, lt-leb size (length (drop (at + 2) s)) (rw length-drop l)) }

    module _ (fits : size ≤ length s - (at + 2)) {h : Region} (u : UpTo g (at + 2 + size) depth h) where
      inner : length (take (at + 2 + size) s) ≡ at + 2 + size
      inner = length-take-le (at + 2 + size) s (omega arith)

      -- what the statement's reader gives inside the region
      inside : (x : Walk) → StatementIs h env (at + 2) x → (Σ : List Signature) (Θ : List Environment) (Δ : Environment) (f : ℕ) → Heads g Σ Θ → Held env Δ → length s - at ≤ f
          → forget (statement Σ Θ f depth Δ (at + 2) (take size (drop (at + 2) s))) ≡ shown (take (at + 2 + size) s) x
      inside x y Σ Θ Δ f a k b =
          rw (← (drop-take (at + 2) size s)) (rw (u.bytes, u.depth) at (y.is Σ Θ Δ f (heads-up_to u a) k (rw u.bytes (omega (arith, inner)))))

      pub region-bad : {e : Fault} → StatementIs h env (at + 2) (Err e) → RegionIs g env depth at (Err e)
      unfolding after need shown
      region-bad {e} y = record {
        is = λ Σ Θ Δ f a k b.
            rw (size-read, le-leb size (length (drop (at + 2) s)) (rw length-drop fits), shown-bad (take (at + 2 + size) s) _ (Err e) e (inside (Err e) y Σ Θ Δ f a k b) refl);
      }

      module _ {e : ℕ} (y : StatementIs h env (at + 2) (Ok e)) where
        pub region-fills : e ≡ at + 2 + size → RegionIs g env depth at (Ok (at + 2 + size))
        unfolding after need end shown
        region-fills z = record {
          is = λ Σ Θ Δ f a k b.
              with' (shown-on (take (at + 2 + size) s) _ (Ok e) e (inside (Ok e) y Σ Θ Δ f a k b) refl) λ w.
              let n : drop e (take (at + 2 + size) s) ≡ [] = rw z (nothing (take (at + 2 + size) s) (at + 2 + size) inner) in
              rw (size-read, le-leb size (length (drop (at + 2) s)) (rw length-drop fits), w.1, n, drop-drop size (at + 2) s);
        }
          where
            nothing : (l : List ℕ) (n : ℕ) → length l ≡ n → drop n l ≡ []
            nothing l n e = rw (← e) (drop-length l)

        pub region-spare : e ≤ at + 2 + size → (e ≡ at + 2 + size → ⊥) → RegionIs g env depth at (Err (fault-at Left e))
        unfolding after need end shown
        region-spare l z = record {
          is = λ Σ Θ Δ f a k b.
              with' (shown-on (take (at + 2 + size) s) _ (Ok e) e (inside (Ok e) y Σ Θ Δ f a k b) refl) λ w.
              let n : e < length (take (at + 2 + size) s) = omega (arith, inner) in
              rw (size-read, le-leb size (length (drop (at + 2) s)) (rw length-drop fits), w.1, drop-cons (take (at + 2 + size) s) e 0 n);
        }

-- ---- bare clauses

-- where nothing is gained, nothing has to fit
pub nothing-gained : {gains : Bool} {width : ℕ} → gains ≡ false → gains ≡ true → width < 32
nothing-gained n y = let z : ◌≡◌ {A = ℕ} 0 1 = cc in absurd (omega arith)

-- what they gain fits, where there is a place for it
pub gained-fits : (env : Env) (gains : Bool) → (gains ≡ true → env.width < 32) → (Γ : Environment) → Held env Γ → length (Γ ++ gained gains) ≤ widest
gained-fits env gains place Γ h = omega (arith, length-append Γ (gained gains), holds-length env.types env.full env.width env.narrow Γ h, env.narrow, go gains place)
  where
    go : (gains : Bool) → (gains ≡ true → env.width < 32) → env.width + length (gained gains) ≤ 32
    go true p = omega (arith, p refl)
    go false p = omega (arith, env.narrow)

module _ {g : Region} {env : Env} {gains : Bool} where
  pub bare-none : {left p : ℕ} → left ≡ 0 → BareAre g env gains left p (Ok p)
  unfolding shown
  bare-none {left} {p} z = record { is = λ Σ Θ Γ Δ S i f a b l h k. go Σ Θ Γ i S f (l ∙ z) }
    where
      go : (Σ : List Signature) (Θ : List Environment) (Γ : Environment) (i : ℕ) (S : Signature) (f : ℕ) → length S ≡ 0
          → forget (clauses Σ Θ (statement Σ Θ f) bare g.depth Γ [] i S p (drop p g.bytes.now)) ≡ got tt p (drop p g.bytes.now)
      go Σ Θ Γ i [] f e = refl
      go Σ Θ Γ i (ps ∷ S) f e = absurd (omega arith)

  module _ {left p : ℕ} (some : 0 < left) where
    -- what holds of the first of some clauses, whatever follows
    first-bare : (r : Walk)
        → ((Σ : List Signature) (Θ : List Environment) (Γ Δ ps : Environment) (S : Signature) (i f : ℕ) → Heads g Σ Θ
        → Γ ++ ps ++ [] ≡ Δ ++ gained gains → All (λ ps. Γ ++ ps ++ [] ≡ Δ ++ gained gains) S → length S ≡ left - 1 → Held env Δ → length g.bytes.now - p ≤ f
        → forget (clauses Σ Θ (statement Σ Θ f) bare g.depth Γ [] i (ps ∷ S) p (drop p g.bytes.now)) ≡ shown g.bytes.now r)
        → BareAre g env gains left p r
    first-bare r t = record { is = λ Σ Θ Γ Δ S i f a b l h k. go Σ Θ Γ Δ S i f a b l h k }
      where
        go : (Σ : List Signature) (Θ : List Environment) (Γ Δ : Environment) (S : Signature) (i f : ℕ) → Heads g Σ Θ
            → All (λ ps. Γ ++ ps ++ [] ≡ Δ ++ gained gains) S → length S ≡ left → Held env Δ → length g.bytes.now - p ≤ f
            → forget (clauses Σ Θ (statement Σ Θ f) bare g.depth Γ [] i S p (drop p g.bytes.now)) ≡ shown g.bytes.now r
        go Σ Θ Γ Δ [] i f a b l h k = absurd (omega arith)
        go Σ Θ Γ Δ (ps ∷ S) i f a b l h k = t Σ Θ Γ Δ ps S i f a b.0 b.1 (omega arith) h k

    pub bare-wide : gains ≡ true → env.width ≡ 32 → BareAre g env gains left p (Err (fault-at Wide p))
    unfolding after need shown
    bare-wide e w = first-bare (Err (fault-at Wide p)) (λ Σ Θ Γ Δ ps S i f a c cs l h k.
        let n : 32 < length (Δ ++ gained gains) = rw e (omega (arith, length-append Δ (ext ∷ []), holds-length env.types env.full env.width env.narrow Δ h)) in
        rw (c, lt-leb (length (Δ ++ gained gains)) widest n))

    pub bare-deep : (gains ≡ true → env.width < 32) → g.depth ≡ 48 → BareAre g env gains left p (Err (fault-at Deep p))
    unfolding after need shown
    bare-deep w d = first-bare (Err (fault-at Deep p)) (λ Σ Θ Γ Δ ps S i f a c cs l h k.
        rw (c, le-leb (length (Δ ++ gained gains)) widest (gained-fits env gains w Δ h), le-ltb g.depth deepest (omega arith)))

    -- the environment of a clause
    module _ (low : g.depth < 48) {inner : Env} (t : (Γ : Environment) → Held env Γ → Held inner (Γ ++ gained gains)) where
      pub bare-bad : {e : Fault} → RegionIs g inner (g.depth + 1) p (Err e) → BareAre g env gains left p (Err e)
      unfolding after need shown
      bare-bad {e} y = first-bare (Err e) (λ Σ Θ Γ Δ ps S i f a c cs l h k.
          rw (
            c,
            le-leb (length (Δ ++ gained gains)) widest (held-narrow inner (Δ ++ gained gains) (t Δ h)),
            lt-ltb g.depth deepest low,
            shown-bad g.bytes.now _ (Err e) e (deeper-reads y Σ Θ (Δ ++ gained gains) f a (t Δ h) k) refl,
          ))

      pub bare-on : {on left' : ℕ} → RegionIs g inner (g.depth + 1) p (Ok on) → p ≤ on → left' ≡ left - 1 → (r : Walk) → BareAre g env gains left' on r → BareAre g env gains left p r
      unfolding after need
      bare-on {on} {left'} y w z r u = first-bare r (λ Σ Θ Γ Δ ps S i f a c cs l h k.
          with' (shown-on g.bytes.now _ (Ok on) on (deeper-reads y Σ Θ (Δ ++ gained gains) f a (t Δ h) k) refl) λ m.
          rw (
            c,
            le-leb (length (Δ ++ gained gains)) widest (held-narrow inner (Δ ++ gained gains) (t Δ h)),
            lt-ltb g.depth deepest low,
            m.1,
            forget-after _ (λ ds. clause i m.0 ds),
          )
          (u.is Σ Θ Γ Δ S (suc i) f a cs (l ∙ sym z) h (omega arith)))
