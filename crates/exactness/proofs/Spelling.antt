-- An accepted image is a byte string: whatever number the limits allow fits into the bytes that the layout gives it. Assumes nothing.
use Prim.Native.Nat.{ℕ, zero, suc, ◌+◌, ◌/◌, ◌^◌, ◌≤◌, ◌<◌}
use mathlib.Core.Path.{◌≡◌, ap}
use mathlib.Core.List.{List, [], ◌∷◌, ◌++◌, flat_map, Forall₂}
use native.Mathlib.Nat.{mod-lt, div-lt_iff_lt-mul, pow-suc}
use native.Mathlib.Omega.{arith}
use lib.ListN.{length, length-append}
use Rattle.definitions.specs.Limits.{largest_image, most_signatures, most_symbols, most_parameters, most_labels, widest}
use Rattle.definitions.specs.Terms.{Ty, prd, cns, ext, Environment, Signature, Operation, lit, add, sub, mul, ifz, less, exit}
use Rattle.definitions.specs.Terms.{Statement, Clauses, Program}
use Rattle.definitions.specs.Typing.{At, All, Named, Fits, gains, LiteralFits, Typed, TypedClauses, JUMP, SUBSTITUTE, EXTERN, LET, NEW, SWITCH, INVOKE, NONE, CLAUSE, KnownType, Parameters, TypedProgram}
use Rattle.definitions.specs.Layout.{Bytes, big_endian, region, counted, type_bytes, operation_byte, literal_bytes, Head, named, bare, head_bytes, statement_bytes, clauses_bytes, bodies_bytes, content, layout, Accepted}
use Rattle.exactness.proofs.Entries.{all-at, at-below, length-forall}
use Rattle.exactness.proofs.Header.{LawfulSignature, LawfulSignatures, signatures_bytes, LawfulLabels, labels_bytes}
use Rattle.exactness.proofs.Complete.{clause_count-typed}

-- ---- byte strings

-- A byte string: `Bytes`, as a record, by which its list is known.
record Spelling (xs : List ℕ) : Type 0 where
  pub bytes : Bytes xs

-- no bytes; one byte more at the front; and two byte strings, one behind the other
none : Spelling []
none = record { bytes = λ i. omega arith }

more : {b : ℕ} {xs : List ℕ} → b < 256 → Spelling xs → Spelling (b ∷ xs)
more {b} {xs} h s = record { bytes = go }
  where
    go : Bytes (b ∷ xs)
    go zero = h
    go (suc i) = s.bytes i

both : {xs ys : List ℕ} → Spelling xs → Spelling ys → Spelling (xs ++ ys)
both {xs} {ys} s t = record { bytes = go xs s.bytes }
  where
    go : (xs : List ℕ) → Bytes xs → Bytes (xs ++ ys)
    go [] b i = t.bytes i
    go (x ∷ xs) b zero = b 0
    go (x ∷ xs) b (suc i) = go xs (λ j. b (suc j)) i

-- a number below 256 for each byte that it is given
number-spelt : (k n : ℕ) → n < 256 ^ suc k → Spelling (big_endian (suc k) n)
number-spelt zero n h = more h none
number-spelt (suc k) n h = both (number-spelt k (n / 256) ((div-lt_iff_lt-mul (omega arith)).1 (rw pow-suc at h))) (more (mod-lt n (omega arith)) none)

-- a region that is not longer than an image: its length has two bytes
region-spelt : (xs : List ℕ) → length xs ≤ largest_image → Spelling xs → Spelling (region xs)
unfolding region
region-spelt xs h s = both (number-spelt 1 (length xs) (omega arith)) s

module _ {A : Type 0} (f : A → List ℕ) (P : A → Type 0) (spelt : (a : A) → P a → Spelling (f a)) where
  -- entries, one after another
  entries-spelt : (l : List A) → All P l → Spelling (flat_map f l)
  unfolding flat_map
  entries-spelt [] p = none
  entries-spelt (a ∷ l) p = both (spelt a p.0) (entries-spelt l p.1)

  -- a count that is a byte, then the entries
  counted-spelt : (l : List A) → length l < 256 → All P l → Spelling (counted f l)
  unfolding counted
  counted-spelt l h p = more h (entries-spelt l p)

-- ---- the head of an image

-- a known type: the number of a signature is a byte
type-spelt : (S : ℕ) → S ≤ most_signatures → (t : Ty) → KnownType S t → Spelling (type_bytes t)
type-spelt S h (prd n) k = more (omega arith) (more (omega arith) none)
type-spelt S h (cns n) k = more (omega arith) (more (omega arith) none)
type-spelt S h ext k = more (omega arith) (more (omega arith) none)

-- parameters, of which not even the most are too many for a byte
parameters-spelt : (most S : ℕ) → most < 256 → S ≤ most_signatures → (ts : Environment) → Parameters most S ts → Spelling (counted type_bytes ts)
parameters-spelt most S m h ts p = counted-spelt type_bytes (KnownType S) (type-spelt S h) ts (omega arith) p.1

-- a signature within the limits
signature-spelt : (n : ℕ) → n ≤ most_signatures → (S : Signature) → LawfulSignature n S → Spelling (counted (counted type_bytes) S)
signature-spelt n h S p = counted-spelt (counted type_bytes) (Parameters most_parameters n) (parameters-spelt most_parameters n (omega arith) h) S (omega arith) p.1

-- all signatures, and all labels, as the head has them
signatures-spelt : (Σ : List Signature) → LawfulSignatures Σ → Spelling (signatures_bytes Σ)
signatures-spelt Σ p = counted-spelt (counted (counted type_bytes)) (LawfulSignature (length Σ)) (signature-spelt (length Σ) p.0) Σ (omega arith) p.1

labels-spelt : (S : ℕ) → S ≤ most_signatures → (Θ : List Environment) → LawfulLabels S Θ → Spelling (labels_bytes Θ)
labels-spelt S h Θ p = counted-spelt (counted type_bytes) (Parameters widest S) (parameters-spelt widest S (omega arith) h) Θ (omega arith) p.1

-- ---- positions and operations

-- positions in an environment that fits
positions-spelt : (Δ : Environment) → Fits Δ → {ps : List ℕ} {Γ : Environment} → Named Δ ps Γ → Spelling ps
positions-spelt Δ w Forall₂.nil = none
positions-spelt Δ w (Forall₂.cons {a = p} {b = t} h n) = more (omega (arith, at-below Δ p t h)) (positions-spelt Δ w n)

-- an operation's byte, and the eight of its literal
operation-spelt : (op : Operation) → LiteralFits op → Spelling (operation_byte op ∷ literal_bytes op)
operation-spelt (lit n) h = more (omega arith) (number-spelt 7 n h)
operation-spelt add h = more (omega arith) none
operation-spelt sub h = more (omega arith) none
operation-spelt mul h = more (omega arith) none
operation-spelt ifz h = more (omega arith) none
operation-spelt less h = more (omega arith) none
operation-spelt exit h = more (omega arith) none

-- an operation has no more clauses than a signature may have symbols
gains-few : (op : Operation) → length (gains op) ≤ most_symbols
gains-few (lit n) = omega arith
gains-few add = omega arith
gains-few sub = omega arith
gains-few mul = omega arith
gains-few ifz = omega arith
gains-few less = omega arith
gains-few exit = omega arith

-- ---- statements and clauses

-- a clause's symbol byte, where it has one
head-spelt : (h : Head) (i : ℕ) → i < most_symbols → Spelling (head_bytes h i)
head-spelt named i l = more (omega arith) none
head-spelt bare i l = none

module _ (Σ : List Signature) (Θ : List Environment) (few : LawfulSignatures Σ) (labels : length Θ ≤ most_labels) where
  -- what names a signature is a byte
  signature-byte : (t : ℕ) {S : Signature} → At Σ t S → t < 256
  signature-byte t {S} e = omega (arith, at-below Σ t S e)

  -- the symbols of a signature that is named are not too many
  symbols-few : (t : ℕ) {S : Signature} → At Σ t S → length S ≤ most_symbols
  symbols-few t e = (all-at (LawfulSignature (length Σ)) Σ t few.1 e).0

  -- and what names one of them is a byte
  symbol-byte : (t m : ℕ) {S : Signature} {Γ : Environment} → At Σ t S → At S m Γ → m < 256
  symbol-byte t m {S} {Γ} e f = omega (arith, at-below S m Γ f, symbols-few t e)

  -- a typed statement that is not longer than an image, in an environment that fits; and clauses likewise, in whatever environment, from symbol i on
  mutual
    unfolding region statement_bytes

    statement-spelt : {d : ℕ} {Δ : Environment} {s : Statement} → Typed Σ Θ d Δ s → Fits Δ → length (statement_bytes s) ≤ largest_image → Spelling (statement_bytes s)
    statement-spelt (JUMP {l = l} {Δ = Δ} e) w h = more (omega arith) (more (omega (arith, at-below Θ l Δ e)) none)
    statement-spelt (SUBSTITUTE {Δ = Δ} {ps = ps} {s = s} f n t) w h = more (omega arith) (more (omega arith)
        (both (positions-spelt Δ w n) (statement-spelt t (omega (arith, length-forall (At Δ) n)) (omega (arith, length-append ps (statement_bytes s))))))
    statement-spelt (EXTERN {Δ = Δ} {op = op} {ps = ps} {cs = cs} f n ts) w h = more (omega arith)
        (both (operation-spelt op f) (both (positions-spelt Δ w n) (clauses-spelt ts bare (omega (arith, gains-few op)) (omega (arith, length-append (literal_bytes op) (ps ++ clauses_bytes bare cs), length-append ps (clauses_bytes bare cs))))))
    statement-spelt (LET {t = t} {m = m} Γ Γ₀ S e eT em f u) w h = more (omega arith) (more (signature-byte t eT) (more (symbol-byte t m eT em) (statement-spelt u f (omega arith))))
    statement-spelt (NEW {t = t} {cs = cs} {s = s} Γ Γ₀ S e ec eT ts f u) w h =
        let l : length (clauses_bytes named cs ++ statement_bytes s) ≡ length (clauses_bytes named cs) + length (statement_bytes s) = length-append (clauses_bytes named cs) (statement_bytes s) in
        more (omega arith) (more (signature-byte t eT) (more (omega (arith, ec, ap length e, length-append Γ Γ₀)) (more (omega (arith, clause_count-typed Σ Θ ts, symbols-few t eT))
        (both (clauses-spelt ts named (omega (arith, symbols-few t eT)) (omega arith)) (statement-spelt u f (omega arith))))))
    statement-spelt (SWITCH {t = t} Γ S e eT ts) w h = more (omega arith) (more (signature-byte t eT) (more (omega (arith, clause_count-typed Σ Θ ts, symbols-few t eT)) (clauses-spelt ts named (omega (arith, symbols-few t eT)) (omega arith))))
    statement-spelt (INVOKE {m = m} t Γ S e eT em) w h = more (omega arith) (more (symbol-byte t m eT em) none)

    clauses-spelt : {d i : ℕ} {before behind : Environment} {S : Signature} {cs : Clauses} → TypedClauses Σ Θ d before behind i S cs → (h : Head) → i + length S ≤ most_symbols → length (clauses_bytes h cs) ≤ largest_image → Spelling (clauses_bytes h cs)
    clauses-spelt NONE h n l = none
    clauses-spelt (CLAUSE {i = i} {s = s} {cs = cs} f g t ts) h n l =
        let xs : List ℕ = statement_bytes s in
        let k : length (head_bytes h i ++ (region xs ++ clauses_bytes h cs)) ≡ length (head_bytes h i) + (2 + length xs + length (clauses_bytes h cs)) = rw (length-append, length-append xs (clauses_bytes h cs)) (omega arith) in
        both (head-spelt h i (omega arith)) (both (region-spelt xs (omega arith) (statement-spelt t f (omega arith))) (clauses-spelt ts h (omega arith) (omega arith)))

  -- bodies, of labels that fit
  bodies-spelt : (S : ℕ) {Δs : List Environment} {ss : List Statement} → Forall₂ (Typed Σ Θ 0) Δs ss → All (Parameters widest S) Δs → length (bodies_bytes ss) ≤ largest_image → Spelling (bodies_bytes ss)
  unfolding region bodies_bytes
  bodies-spelt S Forall₂.nil p h = none
  bodies-spelt S (Forall₂.cons {b = s} {l₂ = ss} t ts) p h =
      let xs : List ℕ = statement_bytes s in
      let l : length (region xs ++ bodies_bytes ss) ≡ 2 + length xs + length (bodies_bytes ss) = rw (length-append xs (bodies_bytes ss)) (omega arith) in
      both (region-spelt xs (omega arith) (statement-spelt t p.0.0 (omega arith))) (bodies-spelt S ts p.1 (omega arith))

-- ---- images

-- a typed program that is not longer than an image, without its envelope and with it
content-spelt : (p : Program) → TypedProgram p → length (content p) ≤ largest_image → Spelling (content p)
unfolding content
content-spelt p t h =
    let n : ℕ = length p.signatures in
    let xs : List ℕ = signatures_bytes p.signatures in
    let ys : List ℕ = labels_bytes p.labels in
    let zs : List ℕ = bodies_bytes p.bodies in
    let l : length (xs ++ (ys ++ zs)) ≡ length xs + (length ys + length zs) = rw (length-append xs (ys ++ zs), length-append ys zs) in
    both (signatures-spelt p.signatures (t.signatures_few, t.signatures_known)) (both
    (labels-spelt n t.signatures_few p.labels (t.labels_few, t.labels_known, t.entry))
    (bodies-spelt p.signatures p.labels (t.signatures_few, t.signatures_known) t.labels_few n t.bodies_typed t.labels_known (omega arith)))

layout-spelt : (p : Program) → TypedProgram p → length (layout p) ≤ largest_image → Spelling (layout p)
unfolding layout region
layout-spelt p t h = more (omega arith) (region-spelt (content p) (omega arith) (content-spelt p t (omega arith)))

-- an accepted image is a byte string: whatever fits the limits is spelt in bytes
pub accepted-bytes : {image : List ℕ} → Accepted image → Bytes image
accepted-bytes a = rw a.encoded at (layout-spelt a.program a.typed (rw a.encoded a.small)).bytes
