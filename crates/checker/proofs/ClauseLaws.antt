-- Named clauses and their parameter lists, in each case.
use Prim.Native.Nat.{ℕ, ◌+◌, ◌-◌, ◌*◌, ◌/◌, ◌≤◌, ◌<◌}
use mathlib.Core.Path.{◌≡◌, refl, ap, sym, ◌∙◌}
use mathlib.Core.List.{List, [], ◌∷◌, ◌++◌, map, flat_map}
use mathlib.Core.Logic.{∥∥₁_elim}
use native.Mathlib.Bridge.{le_prop}
use native.Mathlib.Numerals.{add-one}
use native.Mathlib.Omega.{arith}
use lib.ListN.{length, get_or, drop, length-append, length-map}
use borrow.Author.Tests.{le-leb, lt-leb, lt-ltb, le-ltb}
use Rattle.std.specs.Prelude.{Ok, Err}
use Rattle.std.specs.Simd.{first_chunks}
use Rattle.definitions.specs.Limits.{widest, deepest}
use Rattle.definitions.specs.Terms.{Environment, Signature, clause}
use Rattle.definitions.specs.Layout.{named, type_bytes, counted}
use Rattle.definitions.specs.Reader.{got, after, need, expected}
use Rattle.definitions.specs.FirstFault.{clauses, statement}
use Rattle.exactness.proofs.Readers.{with'}
use Rattle.checker.specs.declared.faults.Fault.{Fault}
use Rattle.checker.specs.declared.faults.Refusal.TheVariants.{Wide, Deep}
use Rattle.checker.specs.declared.env.Env.{Env}
use Rattle.checker.specs.declared.region.Region.{Region}
use Rattle.checker.specs.Faults.{at as fault-at}
use Rattle.checker.specs.Shown.{forget, shown, Walk}
use Rattle.checker.specs.Laid.{Laid, SignatureAt, parameters_bytes}
use Rattle.checker.specs.Entries.{Held}
use Rattle.checker.specs.Regions.{Heads}
use Rattle.checker.specs.Statements.{RegionIs, ClausesFrom, ClausesAre}
use Rattle.checker.proofs.Loops.{shown-bad, shown-on, forget-after}
use Rattle.checker.proofs.Lists.{laid-byte, laid-append, laid-front, list-inside, parameters-at, types-length, holds-length}
use Rattle.checker.proofs.EntryLaws.{types-chunks}
use Rattle.checker.proofs.PlaceLaws.{laid-counted, counted-inside}
use Rattle.checker.proofs.RegionLaws.{held-narrow, deeper-reads}

-- ---- lists of parameters

-- the entries of whatever list of parameters stands at an offset
abbrev pub FieldsAt : List ℕ → ℕ → List (List ℕ) → Type 0
FieldsAt image list fields = (Γ : Environment) → Laid image list (parameters_bytes Γ) → fields ≡ map type_bytes Γ

-- they are its bytes, two by two
pub fields-at : {image : List ℕ} {list : ℕ} {types : List ℕ} → ((Γ : Environment) → Laid image list (parameters_bytes Γ) → types ≡ flat_map type_bytes Γ)
    → {fields : List (List ℕ)} → fields ≡ first_chunks 2 (length types / 2) types → FieldsAt image list fields
fields-at {types = types} t e Γ l = e ∙ types-chunks types Γ (t Γ l)

-- where the next list stands
behind-list : (image : List ℕ) (list : ℕ) (fields : List (List ℕ)) → FieldsAt image list fields → (ps : Environment) (S : Signature) → Laid image list (flat_map parameters_bytes (ps ∷ S))
    → Laid image (list + 1 + 2 * length fields) (flat_map parameters_bytes S)
unfolding counted flat_map
behind-list image list fields t ps S l =
    let n : length fields ≡ length ps = ap length (t ps (laid-front image list (parameters_bytes ps) (flat_map parameters_bytes S) l)) ∙ length-map ps type_bytes in
    let e : list + length (parameters_bytes ps) ≡ list + 1 + 2 * length fields = omega (arith, n, types-length ps) in
    rw e at (laid-append image list (parameters_bytes ps) (flat_map parameters_bytes S) l)

first-list : (image : List ℕ) (list : ℕ) (ps : Environment) (S : Signature) → Laid image list (flat_map parameters_bytes (ps ∷ S)) → Laid image list (parameters_bytes ps)
unfolding flat_map
first-list image list ps S l = laid-front image list (parameters_bytes ps) (flat_map parameters_bytes S) l

-- the parameter lists that are left stand where the walk is
pub record ListsFrom (image : List ℕ) (list left : ℕ) : Type 0 where
  pub lists : Signature
  pub laid : Laid image list (flat_map parameters_bytes lists)
  pub many : length lists ≡ left

-- `many` here and in `named_start`, and `entries` and `last` in `starts-whole`, are what the code has, with an equation that says what it is
pub lists-start : {image : List ℕ} {sig many : ℕ} → many ≡ get_or image sig 0 → SignatureAt image sig → ListsFrom image (sig + 1) many
lists-start {image} {sig} e p =
    let (n, behind) = laid-counted parameters_bytes image sig p.signature p.laid in
    record { lists = p.signature; laid = behind; many = sym (e ∙ n) }

pub lists-next : {image : List ℕ} {list left left' : ℕ} → 0 < left → left' ≡ left - 1 → {fields : List (List ℕ)} → FieldsAt image list fields
    → ListsFrom image list left → ListsFrom image (list + 1 + 2 * length fields) left'
lists-next {image} {list} {left} {left'} some z {fields} t q = go q.lists q.laid q.many
  where
    go : (S : Signature) → Laid image list (flat_map parameters_bytes S) → length S ≡ left → ListsFrom image (list + 1 + 2 * length fields) left'
    go [] l n = absurd (omega arith)
    go (ps ∷ S) l n = record { lists = S; laid = behind-list image list fields t ps S l; many = omega arith }

-- each of them is inside the image, and so is the signature
pub lists-inside : {image : List ℕ} {list left : ℕ} → 0 < left → ∥ ListsFrom image list left ∥₁ → list + 1 + 2 * get_or image list 0 ≤ length image
lists-inside {image} {list} {left} some h = ∥∥₁_elim h le_prop (λ q. go q.lists q.laid q.many)
  where
    go : (S : Signature) → Laid image list (flat_map parameters_bytes S) → length S ≡ left → list + 1 + 2 * get_or image list 0 ≤ length image
    go [] l n = absurd (omega arith)
    go (ps ∷ S) l n = list-inside image list ps (first-list image list ps S l)

pub fields-inside : {image : List ℕ} {list left : ℕ} → 0 < left → ∥ ListsFrom image list left ∥₁ → {fields : List (List ℕ)} → FieldsAt image list fields → list + 1 + 2 * length fields ≤ length image
fields-inside {image} {list} {left} some h {fields} t = ∥∥₁_elim h le_prop (λ q. go q.lists q.laid q.many)
  where
    go : (S : Signature) → Laid image list (flat_map parameters_bytes S) → length S ≡ left → list + 1 + 2 * length fields ≤ length image
    go [] l n = absurd (omega arith)
    go (ps ∷ S) l n =
        let first = first-list image list ps S l in
        omega (arith, list-inside image list ps first, (parameters-at image list ps first).count, ap length (t ps first), length-map ps type_bytes)

pub signature-inside : {image : List ℕ} {sig : ℕ} → ∥ SignatureAt image sig ∥₁ → sig < length image
signature-inside {image} {sig} h = ∥∥₁_elim h le_prop (λ p. counted-inside parameters_bytes image sig p.signature p.laid)

-- ---- the environment of a clause

-- it holds the entries before, the parameters, and the entries behind
pub record Starts (image : List ℕ) (before : Env) (behind : List (List ℕ)) (list : ℕ) (inner : Env) : Type 0 where
  pub starts : (Γ Γ' ps : Environment) → Held before Γ → behind ≡ map type_bytes Γ' → Laid image list (parameters_bytes ps) → Held inner (Γ ++ ps ++ Γ')

module _ {image : List ℕ} {behind fields : List (List ℕ)} {list : ℕ} (t : FieldsAt image list fields) where
  pub starts-whole : {entries last : List (List ℕ)} → entries ≡ fields → last ≡ behind
      → {before inner : Env} → ((Γ ps Γ' : Environment) → Held before Γ → entries ≡ map type_bytes ps → last ≡ map type_bytes Γ' → Held inner (Γ ++ ps ++ Γ'))
      → Starts image before behind list inner
  starts-whole e f w = record { starts = λ Γ Γ' ps h g l. w Γ ps Γ' h (e ∙ t ps l) (f ∙ g) }

  -- it is as wide as these are together
  starts-length : (before : Env) (Γ Γ' ps : Environment) (S : Signature) → Held before Γ → behind ≡ map type_bytes Γ' → Laid image list (flat_map parameters_bytes (ps ∷ S))
      → length (Γ ++ ps ++ Γ') ≡ before.width + length fields + length behind
  starts-length before Γ Γ' ps S h g l = omega (
    arith,
    length-append (Γ ++ ps) Γ',
    length-append Γ ps,
    holds-length before.types before.full before.width before.narrow Γ h,
    ap length (t ps (first-list image list ps S l)),
    length-map ps type_bytes,
    ap length g,
    length-map Γ' type_bytes,
  )

-- for the first of some lists
clause-held : {image : List ℕ} {before : Env} {behind : List (List ℕ)} {list : ℕ} {inner : Env} → Starts image before behind list inner
    → (Γ Γ' ps : Environment) (S : Signature) → Held before Γ → behind ≡ map type_bytes Γ' → Laid image list (flat_map parameters_bytes (ps ∷ S)) → Held inner (Γ ++ ps ++ Γ')
clause-held {image} {list = list} t Γ Γ' ps S b c d = t.starts Γ Γ' ps b c (first-list image list ps S d)

-- ---- named clauses

-- the symbol's byte, where it is as it must be
symbol-read : (i p : ℕ) (s : List ℕ) (e : ℕ) → forget (expected i p (drop p s)) ≡ shown s (Ok e) → expected i p (drop p s) ≡ got tt e (drop e s)
symbol-read i p s e x = (shown-on s _ (Ok e) e x refl).1

module _ {g : Region} {before : Env} {behind : List (List ℕ)} where
  pub named_none : {left i list p : ℕ} → left ≡ 0 → ClausesFrom g before behind left i list p (Ok p)
  unfolding shown
  named_none {left} {i} {list} {p} z = record { is = λ Σ Θ Γ Γ' S f a b c d l k. go Σ Θ Γ Γ' S f (l ∙ z) }
    where
      go : (Σ : List Signature) (Θ : List Environment) (Γ Γ' : Environment) (S : Signature) (f : ℕ) → length S ≡ 0
          → forget (clauses Σ Θ (statement Σ Θ f) named g.depth Γ Γ' i S p (drop p g.bytes.now)) ≡ got tt p (drop p g.bytes.now)
      go Σ Θ Γ Γ' [] f e = refl
      go Σ Θ Γ Γ' (ps ∷ S) f e = absurd (omega arith)

  module _ {left i list p : ℕ} (some : 0 < left) where
    -- what holds of the first of some clauses, whatever follows
    first-named : (r : Walk)
        → ((Σ : List Signature) (Θ : List Environment) (Γ Γ' ps : Environment) (S : Signature) (f : ℕ) → Heads g Σ Θ
        → Held before Γ → behind ≡ map type_bytes Γ' → Laid g.image.now list (flat_map parameters_bytes (ps ∷ S)) → length S ≡ left - 1 → length g.bytes.now - p ≤ f
        → forget (clauses Σ Θ (statement Σ Θ f) named g.depth Γ Γ' i (ps ∷ S) p (drop p g.bytes.now)) ≡ shown g.bytes.now r)
        → ClausesFrom g before behind left i list p r
    first-named r t = record { is = λ Σ Θ Γ Γ' S f a b c d l k. go Σ Θ Γ Γ' S f a b c d l k }
      where
        go : (Σ : List Signature) (Θ : List Environment) (Γ Γ' : Environment) (S : Signature) (f : ℕ) → Heads g Σ Θ
            → Held before Γ → behind ≡ map type_bytes Γ' → Laid g.image.now list (flat_map parameters_bytes S) → length S ≡ left → length g.bytes.now - p ≤ f
            → forget (clauses Σ Θ (statement Σ Θ f) named g.depth Γ Γ' i S p (drop p g.bytes.now)) ≡ shown g.bytes.now r
        go Σ Θ Γ Γ' [] f a b c d l k = absurd (omega arith)
        go Σ Θ Γ Γ' (ps ∷ S) f a b c d l k = t Σ Θ Γ Γ' ps S f a b c d (omega arith) k

    pub named-symbol : {e : Fault} → forget (expected i p (drop p g.bytes.now)) ≡ shown g.bytes.now (Err e) → ClausesFrom g before behind left i list p (Err e)
    unfolding after shown
    named-symbol {e} x = first-named (Err e) (λ Σ Θ Γ Γ' ps S f a b c d l k. rw (shown-bad g.bytes.now _ (Err e) e x refl))

    module _ (e : ℕ) (x : forget (expected i p (drop p g.bytes.now)) ≡ shown g.bytes.now (Ok e)) where
      module _ {fields : List (List ℕ)} (v : FieldsAt g.image.now list fields) where
        pub named-wide : 32 < before.width + length fields + length behind → ClausesFrom g before behind left i list p (Err (fault-at Wide p))
        unfolding after need shown
        named-wide n = first-named (Err (fault-at Wide p)) (λ Σ Θ Γ Γ' ps S f a b c d l k.
            rw (symbol-read i p g.bytes.now e x, lt-leb (length (Γ ++ ps ++ Γ')) widest (omega (arith, starts-length v before Γ Γ' ps S b c d))))

        pub named-deep : before.width + length fields + length behind ≤ 32 → g.depth ≡ 48 → ClausesFrom g before behind left i list p (Err (fault-at Deep p))
        unfolding after need shown
        named-deep n m = first-named (Err (fault-at Deep p)) (λ Σ Θ Γ Γ' ps S f a b c d l k.
            rw (symbol-read i p g.bytes.now e x, le-leb (length (Γ ++ ps ++ Γ')) widest (omega (arith, starts-length v before Γ Γ' ps S b c d)), le-ltb g.depth deepest (omega arith)))

      module _ {inner : Env} (t : Starts g.image.now before behind list inner) where
        module _ (low : g.depth < 48) (later : p ≤ e) where
          pub named-bad : {u : Fault} → RegionIs g inner (g.depth + 1) e (Err u) → ClausesFrom g before behind left i list p (Err u)
          unfolding after need shown
          named-bad {u} y = first-named (Err u) (λ Σ Θ Γ Γ' ps S f a b c d l k.
              let q : Held inner (Γ ++ ps ++ Γ') = clause-held t Γ Γ' ps S b c d in
              rw (
                symbol-read i p g.bytes.now e x,
                le-leb (length (Γ ++ ps ++ Γ')) widest (held-narrow inner (Γ ++ ps ++ Γ') q),
                lt-ltb g.depth deepest low,
                shown-bad g.bytes.now _ (Err u) u (deeper-reads y Σ Θ (Γ ++ ps ++ Γ') f a q (omega arith)) refl,
              ))

          pub named-on : {on left' : ℕ} → RegionIs g inner (g.depth + 1) e (Ok on) → p ≤ on → left' ≡ left - 1 → {fields : List (List ℕ)} → FieldsAt g.image.now list fields
              → (r : Walk) → ClausesFrom g before behind left' (i + 1) (list + 1 + 2 * length fields) on r → ClausesFrom g before behind left i list p r
          unfolding after need
          named-on {on} y w z {fields} v r u = first-named r (λ Σ Θ Γ Γ' ps S f a b c d l k.
              let q : Held inner (Γ ++ ps ++ Γ') = clause-held t Γ Γ' ps S b c d in
              with' (shown-on g.bytes.now _ (Ok on) on (deeper-reads y Σ Θ (Γ ++ ps ++ Γ') f a q (omega arith)) refl) λ m.
              rw (
                symbol-read i p g.bytes.now e x,
                le-leb (length (Γ ++ ps ++ Γ')) widest (held-narrow inner (Γ ++ ps ++ Γ') q),
                lt-ltb g.depth deepest low,
                m.1,
                forget-after _ (λ ds. clause i m.0 ds),
              )
              (rw add-one at (u.is Σ Θ Γ Γ' S f a b c (behind-list g.image.now list fields v ps S d) (l ∙ sym z) (omega arith))))

  -- from the signature's count on
  pub named_start : {sig many at : ℕ} {r : Walk} → many ≡ get_or g.image.now sig 0 → ClausesFrom g before behind many 0 (sig + 1) at r → ClausesAre g before behind sig at r
  unfolding counted
  named_start {sig} {many} {at} {r} e t = record {
    is = λ Σ Θ Γ Γ' S f a b c l k.
        t.is Σ Θ Γ Γ' S f a b c (laid-append g.image.now sig (length S ∷ []) (flat_map parameters_bytes S) l) (sym (e ∙ laid-byte g.image.now sig (length S) (flat_map parameters_bytes S) l)) k;
  }
