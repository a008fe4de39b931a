-- What the readers of items say of the definitions' readers: each answer as an equation of the reader at its offset. Assumes nothing.
use Prim.Native.Nat.{ℕ, ◌+◌, ◌-◌, ◌≤◌, ◌<◌}
use mathlib.Core.Path.{◌≡◌, refl, ◌∙◌}
use mathlib.Core.List.{List}
use Rattle.std.proofs.Math.Bool.{and-false}
use native.Mathlib.Omega.{arith}
use lib.ListN.{length, get_or, take, drop, length-drop}
use lib.Seq.{drop-drop}
use mathlib.Core.Logic.{◌⊎◌, inl, inr}
use lib.Dec.{leb}
use borrow.Author.Tests.{le-leb, lt-leb, eq-eqb, ne_eqb}
use Rattle.std.specs.Prelude.{Result, Ok, Err, MatchResult}
use Rattle.definitions.specs.Terms as Terms
use Rattle.definitions.specs.Terms.{Environment, Signature, Statement, lit, add, sub, mul, ifz, less, exit}
use Rattle.definitions.specs.Typing.{At}
use Rattle.definitions.specs.Reader.{Read, got, refused, Reader, after, give, need, the, byte, spelt, item, count, known, expected}
use Rattle.definitions.specs.FirstFault.{operations, forms, a_statement}
use Rattle.definitions.specs.FirstFault as D
use Rattle.exactness.proofs.Readers.{with'}
use Rattle.exactness.proofs.Numbers.{item-enough}
use Rattle.checker.specs.declared.faults.Fault.{Fault}
use Rattle.std.specs.Result.{IsErrAnd}
use Rattle.checker.specs.declared.codes.UnknownCode.{UnknownCode}
use Rattle.checker.specs.declared.codes.Form.{Form}
use Rattle.checker.specs.declared.codes.Operation.{Operation}
use Rattle.checker.specs.declared.codes.Operation.TheVariants.{Lit, Add, Sub, Mul, Ifz, Less, Exit}
use Rattle.checker.specs.Codes.{form_code, operation_code, Means}
use Rattle.checker.specs.declared.faults.Refusal.TheVariants.{Short, Count, Unknown, Clause}
use Rattle.checker.specs.Faults.{at as fault-at, told}
use Rattle.checker.specs.Readers.{ByteIs, byte_is, byte_ended, CountIs, count_is, count_ended, count_low, count_high}
use Rattle.checker.specs.Readers.{NameIs, is_named, is_ended, is_unknown, FormIs, form_is, form_ended, form_unknown, OperationIs, operation_is, operation_not}
use Rattle.checker.specs.Shown.{forget, shown, Next}
use Rattle.checker.proofs.Bytes.{byte-end, byte_at, item-short}
use Rattle.checker.proofs.Lists.{at_some, at_none}
use Rattle.checker.proofs.Loops.{shown-on}

module _ (s : List ℕ) (at : ℕ) where
  -- what a reader gave that went on behind one byte
  abbrev pub Gives : {A : Type 0} → Read A → A → Type 0
  Gives m a = m ≡ got a (at + 1) (drop (at + 1) s)

  -- a byte that was read; a count, of these limits; a name, and the entry that it names in a list; and where the walk over an expected byte goes on
  pub record ByteOn (b : ℕ) : Type 0 where
    pub inside : at < length s
    pub value : b ≡ get_or s at 0
    pub reads : Gives (byte at (drop at s)) b

  pub record CountOn (least most n : ℕ) : Type 0 where
    pub inside : at < length s
    pub value : n ≡ get_or s at 0
    pub low : least ≤ n
    pub high : n ≤ most
    pub reads : Gives (count least most at (drop at s)) n

  pub record NameOn {A : Type 0} (l : List A) (i : ℕ) : Type 0 where
    pub inside : at < length s
    pub value : i ≡ get_or s at 0
    pub below : i < length l
    pub entry : A
    pub is : At l i entry
    pub reads : Gives (known l at (drop at s)) (i, entry)

  pub record ExpectedOn (wanted e : ℕ) : Type 0 where
    pub inside : at < length s
    pub next : e ≡ at + 1
    pub reads : Gives (expected wanted at (drop at s)) tt

-- what a byte stands for, by its code, or that it stands for nothing
pub code-found : {A : Type 0} (code : A → ℕ) (n at : ℕ) {P : UnknownCode → Fault → Type 0} (t : Result A UnknownCode) (r : Result A Fault)
    → MatchResult t (λ x. code x ≡ n) (λ e. (e.0 ≡ n) × (6 < n)) → MatchResult t (λ x. r ≡ Ok x) (λ e. IsErrAnd r (P e)) → ((e : UnknownCode) (f : Fault) → P e f → f ≡ fault-at Unknown at)
    → MatchResult r (λ x. code x ≡ n) (λ f. (f ≡ fault-at Unknown at) × (6 < n))
code-found code n at (Ok x) r i m unknown = rw m i
code-found code n at (Err e) (Ok x) i m unknown = absurd m
code-found code n at (Err e) (Err f) i m unknown = (unknown e f m, i.1)

module _ {s : List ℕ} {at : ℕ} where
  -- ---- a byte

  pub byte-on : {b : ℕ} → ByteIs s at (Ok b) → ByteOn s at b
  byte-on (byte_is h e) = record { inside = h; value = e; reads = rw e (byte_at s at h) }

  pub byte-bad : {f : Fault} → ByteIs s at (Err f) → byte at (drop at s) ≡ refused (told f)
  byte-bad (byte_ended e) = byte-end s at e

  -- what ends the region for a byte ends it for a count, a name and a form
  pub count-ended : {f : Fault} → ByteIs s at (Err f) → (least most : ℕ) → CountIs s least most at (Err f)
  count-ended (byte_ended e) least most = count_ended e

  pub name-ended : {f : Fault} → ByteIs s at (Err f) → (many : ℕ) → NameIs s many at (Err f)
  name-ended (byte_ended e) many = is_ended e

  pub form-ended : {f : Fault} → ByteIs s at (Err f) → FormIs s at (Err f)
  form-ended (byte_ended e) = form_ended e

  -- ---- a count

  pub count-on : {least most n : ℕ} → CountIs s least most at (Ok n) → CountOn s at least most n
  unfolding after need
  count-on {least} {most} {n} (count_is h e k l) = record { inside = h; value = e; low = k; high = l; reads = rw (byte_at s at h, ← e, le-leb least n k, le-leb n most l) }

  pub count-bad : {least most : ℕ} {f : Fault} → CountIs s least most at (Err f) → count least most at (drop at s) ≡ refused (told f)
  unfolding after need
  count-bad (count_ended e) = rw (byte-end s at e)
  count-bad {least} (count_low h l) = rw (byte_at s at h, lt-leb least (get_or s at 0) l)
  count-bad {least} {most} (count_high h l) = rw (byte_at s at h, lt-leb (get_or s at 0) most l, and-false (leb least (get_or s at 0)))

  pub count-outside : {least most n : ℕ} → ByteIs s at (Ok n) → (n < least) ⊎ ((least ≤ n) × (most < n)) → CountIs s least most at (Err (fault-at Count at))
  count-outside {least} {most} {n} (byte_is h e) o = elim o [ inl l ↦ count_low h (omega arith) | inr k ↦ count_high h (omega (arith, k.1)) ]

  -- ---- a name, in a list of so many

  module _ {A : Type 0} (l : List A) {many : ℕ} (n : many ≡ length l) where
    pub name-on : {i : ℕ} → NameIs s many at (Ok i) → NameOn s at l i
    unfolding after the
    name-on {i} (is_named h e b) =
        with' (at_some l i (omega arith)) λ w.
        record { inside = h; value = e; below = omega arith; entry = w.0; is = w.1; reads = rw (byte_at s at h, ← e, w.1) }

    pub name-bad : {f : Fault} → NameIs s many at (Err f) → known l at (drop at s) ≡ refused (told f)
    unfolding after the
    name-bad (is_ended e) = rw (byte-end s at e)
    name-bad (is_unknown h b) = rw (byte_at s at h, at_none l (get_or s at 0) (omega arith))

  -- a name is below the bound, whatever is named; and its byte is inside
  pub name-value : {many i : ℕ} → NameIs s many at (Ok i) → (at < length s) × (i ≡ get_or s at 0) × (i < many)
  name-value (is_named h e b) = (h, e, b)

  -- ---- an expected byte

  module _ (wanted : ℕ) where
    pub expected-ended : {f : Fault} → ByteIs s at (Err f) → forget (expected wanted at (drop at s)) ≡ shown s (Err f)
    unfolding after shown
    expected-ended b = rw (byte-bad b)

    pub expected-other : {b : ℕ} → ByteIs s at (Ok b) → (b ≡ wanted → ⊥) → forget (expected wanted at (drop at s)) ≡ shown s (Err (fault-at Clause at))
    unfolding after need shown
    expected-other {b} w n = rw ((byte-on w).reads, ne_eqb b wanted n)

    pub expected-same : {b : ℕ} → ByteIs s at (Ok b) → b ≡ wanted → forget (expected wanted at (drop at s)) ≡ shown s (Ok (at + 1))
    unfolding after need shown
    expected-same {b} w e = rw ((byte-on w).reads, eq-eqb b wanted e)

  pub expected-on : (wanted e : ℕ) → forget (expected wanted at (drop at s)) ≡ shown s (Ok e) → Next at s (Ok e) → ExpectedOn s at wanted e
  expected-on wanted e h n =
      with' (shown-on s (expected wanted at (drop at s)) (Ok e) e h refl) λ w.
      record { inside = omega (arith, n.0, n.1); next = n.0; reads = rw n.0 at w.1 }

  -- ---- an operation

  pub operation-ended : {f : Fault} → ByteIs s at (Err f) → OperationIs s at (Err f)
  unfolding after
  operation-ended b = operation_not (rw (byte-bad b))

  module _ {n : ℕ} (b : ByteIs s at (Ok n)) where
    pub operation-unknown : {f : Fault} → (f ≡ fault-at Unknown at) × (6 < n) → OperationIs s at (Err f)
    unfolding after the
    operation-unknown u = operation_not (rw ((byte-on b).reads, at_none operations n (omega (arith, u.1)), u.0))

    -- any operation but lit has no literal
    pub operation-plain : (o : Operation) → operation_code o ≡ n → (o ≡ Lit → ⊥) → OperationIs s at (Ok (o, at + 1))
    unfolding after the
    operation-plain o e l = with' (go o e l) λ w. operation_is w.0 w.1 (rw ((byte-on b).reads, w.2)) (omega arith) (omega (arith, (byte-on b).inside))
      where
        go : (o : Operation) → operation_code o ≡ n → (o ≡ Lit → ⊥) → (op : Terms.Operation) × Means o op × At operations n (give op)
        go Lit e l = absurd (l refl)
        go Add e l = (add, refl, rw (← e))
        go Sub e l = (sub, refl, rw (← e))
        go Mul e l = (mul, refl, rw (← e))
        go Ifz e l = (ifz, refl, rw (← e))
        go Less e l = (less, refl, rw (← e))
        go Exit e l = (exit, refl, rw (← e))

    -- lit's literal is one item of eight bytes
    module _ (z : 0 ≡ n) where
      literal_at : D.operation at (drop at s) ≡ after (item 8 (at + 1) (drop (at + 1) s)) (λ n. give (lit n))
      unfolding after the
      literal_at = rw ((byte-on b).reads, ← z)

      pub operation-short : length s - (at + 1) < 8 → OperationIs s at (Err (fault-at Short (at + 1)))
      unfolding after
      operation-short l = operation_not (rw (literal_at, item-short 8 (at + 1) (drop (at + 1) s) (rw length-drop l)))

      pub operation-literal : 8 ≤ length s - (at + 1) → OperationIs s at (Ok (Lit, at + 1 + 8))
      unfolding after
      operation-literal l =
          let k : ℕ = spelt 0 (take 8 (drop (at + 1) s)) in
          operation_is (lit k) (k, refl) (rw (literal_at, item-enough 8 (at + 1) (drop (at + 1) s) (rw length-drop l), drop-drop 8 (at + 1) s)) (omega arith) (omega arith)

  -- ---- a form

  pub form-found : {n : ℕ} → ByteIs s at (Ok n) → (r : Result Form Fault) → MatchResult r (λ x. form_code x ≡ n) (λ f. (f ≡ fault-at Unknown at) × (6 < n)) → FormIs s at r
  form-found (byte_is h e) (Ok x) i = form_is h (i ∙ e)
  form-found (byte_is h e) (Err f) i = rw i.0 (form_unknown h (omega (arith, i.1)))

  -- the code of a form is inside
  pub form-inside : {f : Form} → FormIs s at (Ok f) → at < length s
  form-inside (form_is h e) = h

  module _ (Σ : List Signature) (Θ : List Environment) (inner : ℕ → Environment → Reader Statement) (d : ℕ) (Δ : Environment) where
    -- the form whose code stands there has the say
    pub form-on : {f : Form} → FormIs s at (Ok f) → (form : D.Form) → At (forms Σ Θ inner) (form_code f) form → a_statement Σ Θ inner d Δ at (drop at s) ≡ form at d Δ (at + 1) (drop (at + 1) s)
    unfolding after the
    form-on (form_is h e) form w = rw (byte_at s at h, ← e, w)

    pub form-bad : {f : Fault} → FormIs s at (Err f) → a_statement Σ Θ inner d Δ at (drop at s) ≡ refused (told f)
    unfolding after the
    form-bad (form_ended e) = rw (byte-end s at e)
    form-bad (form_unknown h l) = rw (byte_at s at h, at_none (forms Σ Θ inner) (get_or s at 0) (omega arith))
