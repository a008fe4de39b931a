-- The readers of an image's head: a type in each case, a type of the entry, the signatures and the labels. Assumes nothing.
use Prim.Native.Nat.{ℕ, zero, suc, pred, ◌+◌, ◌-◌, ◌≤◌, ◌<◌}
use mathlib.Core.Path.{◌≡◌, refl, sym, ◌∙◌}
use mathlib.Core.List.{List, ◌∷◌}
use native.Mathlib.Omega.{arith}
use lib.ListN.{get_or, get_elem?, drop}
use lib.Seq.{drop-cons}
use borrow.Author.Tests.{lt-ltb, le-ltb, ne_eqb}
use Rattle.std.specs.Prelude.{Ok, Err}
use Rattle.definitions.specs.Terms.{Ty, prd, cns, ext}
use Rattle.definitions.specs.Typing.{At}
use Rattle.definitions.specs.Layout.{kind_byte}
use Rattle.definitions.specs.Reader.{got, refused, Reader, after, need, the, times}
use Rattle.definitions.specs.FirstFault.{of_signature, integer, kinds, type, entry_type, signature, signatures, label, labels}
use Rattle.exactness.proofs.Readers.{with', given, byte-then, need-then, the-then}
use Rattle.checker.specs.declared.faults.Fault.{Fault}
use Rattle.checker.specs.declared.faults.Refusal.TheVariants.{Unknown, Untyped}
use Rattle.checker.specs.Faults.{at as fault-at, told}
use Rattle.checker.specs.Readers.{ByteIs, CountIs, NameIs, is_named, is_ended, is_unknown}
use Rattle.checker.specs.Shown.{Walk, forget, shown}
use Rattle.checker.proofs.Bytes.{byte-end, byte_at}
use Rattle.checker.proofs.Lists.{at_none}
use Rattle.checker.proofs.Loops.{shown-on, forget-after, after-bad, after_on}
use Rattle.checker.proofs.SameTypes.{ext-other, ext_same}
use Rattle.checker.proofs.ReaderLaws.{byte-on, byte-bad, count-on, count-bad}

-- ---- a type

module _ (s : List ℕ) (S at : ℕ) where
  -- the number of a type that names a signature
  module _ (make : ℕ → Ty) where
    number-named : {i : ℕ} → NameIs s S (at + 1) (Ok i) → of_signature S make (at + 1) (drop (at + 1) s) ≡ got (make i) (at + 2) (drop (at + 2) s)
    unfolding after need
    number-named {i} (is_named h e b) = let two : at + 1 + 1 ≡ at + 2 = omega arith in rw (byte_at s (at + 1) h, ← e, lt-ltb i S b, two)

    number-unnamed : {f : Fault} → NameIs s S (at + 1) (Err f) → of_signature S make (at + 1) (drop (at + 1) s) ≡ refused (told f)
    unfolding after need
    number-unnamed (is_ended e) = rw (byte-end s (at + 1) e)
    number-unnamed (is_unknown h b) = rw (byte_at s (at + 1) h, le-ltb _ S b)

  abbrev Reads : Walk → Type 0
  Reads r = forget (type S at (drop at s)) ≡ shown s r

  -- in the order of the tests: the kind, then the number by its kind
  pub type-ended : {f : Fault} → ByteIs s at (Err f) → Reads (Err f)
  unfolding after shown
  type-ended b = rw (byte-bad b)

  module _ {k : ℕ} (b : ByteIs s at (Ok k)) where
    -- the number's reader, for a kind
    abbrev Number : ℕ → Walk → Type 0
    Number k r = forget (after (the (get_elem? (kinds S) k) 6 at (at + 1) (drop (at + 1) s)) (λ number. number)) ≡ shown s r

    by_kind : (r : Walk) → Number k r → Reads r
    unfolding after
    by_kind r f = rw (byte-on b).reads f

    pub type-kind : 2 < k → Reads (Err (fault-at Unknown at))
    unfolding after the shown
    type-kind h = by_kind (Err (fault-at Unknown at)) (rw (at_none (kinds S) k h))

    module _ (low : k ≤ 2) (other : k ≡ 2 → ⊥) where
      signature_kind : (r : Walk) → Number 0 r → Number 1 r → Reads r
      signature_kind r f g = by_kind r (go k low other)
        where
          go : (k : ℕ) → k ≤ 2 → (k ≡ 2 → ⊥) → Number k r
          go zero low other = f
          go (suc zero) low other = g
          go (suc (suc zero)) low other = absurd (other refl)
          go (suc (suc (suc k))) low other = absurd (omega arith)

      pub type-unnamed : {f : Fault} → NameIs s S (at + 1) (Err f) → Reads (Err f)
      unfolding after the shown
      type-unnamed {f} n = signature_kind (Err f) (rw (number-unnamed prd n)) (rw (number-unnamed cns n))

      pub type-named : {i : ℕ} → NameIs s S (at + 1) (Ok i) → Reads (Ok (at + 2))
      unfolding after the shown
      type-named n = signature_kind (Ok (at + 2)) (rw (number-named prd n)) (rw (number-named cns n))

    module _ (e : k ≡ 2) where
      pub type-short : {f : Fault} → ByteIs s (at + 1) (Err f) → Reads (Err f)
      unfolding after the shown
      type-short {f} n = by_kind (Err f) (rw (e, byte-bad n))

      pub type-not-zero : {n : ℕ} → ByteIs s (at + 1) (Ok n) → (n ≡ 0 → ⊥) → Reads (Err (fault-at Unknown (at + 1)))
      unfolding after the need shown
      type-not-zero {n} w z = by_kind (Err (fault-at Unknown (at + 1))) (rw (e, (byte-on w).reads, ne_eqb n 0 z))

      pub type-ext : {n : ℕ} → ByteIs s (at + 1) (Ok n) → n ≡ 0 → Reads (Ok (at + 2))
      unfolding after the need shown
      type-ext w z = let two : at + 1 + 1 ≡ at + 2 = omega arith in by_kind (Ok (at + 2)) (rw (e, (byte-on w).reads, z, two))

-- ---- a type of the entry

-- the kind of the type that is read
kind-read : (s : List ℕ) (S at : ℕ) {k : ℕ} → ByteIs s at (Ok k) → (t : Ty) (e : ℕ) (r : List ℕ) → type S at (drop at s) ≡ got t e r → kind_byte t ≡ k
kind-read s S at {k} b t e r q =
    byte-then _ _ _ (given _ _ _ _ q) λ x ys e1 q.
    the-then _ _ _ _ _ _ _ q λ number w q.
    let d : drop at s ≡ get_or s at 0 ∷ drop (suc at) s = drop-cons s at 0 (byte-on b).inside in
    let g : k ≡ get_or s at 0 = (byte-on b).value in
    let z : x ≡ k = cc in
    rw (← z) (go x number w q)
  where
    named : (make : ℕ → Ty) (at : ℕ) (ys : List ℕ) → of_signature S make at ys ≡ got t e r → (n : ℕ) × (t ≡ make n)
    named make at ys q =
        byte-then _ _ _ (given _ _ _ _ q) λ n zs e1 q.
        need-then _ _ _ _ _ _ q λ h q.
        (n, cc)

    go : (k : ℕ) {at : ℕ} {ys : List ℕ} (number : Reader Ty) → At (kinds S) k number → number at ys ≡ got t e r → kind_byte t ≡ k
    go zero number h q =
        let i : number ≡ of_signature S prd = cc in
        let (n, w) = named prd _ _ (rw i at q) in
        rw w
    go (suc zero) number h q =
        let i : number ≡ of_signature S cns = cc in
        let (n, w) = named cns _ _ (rw i at q) in
        rw w
    go (suc (suc zero)) number h q =
        let i : number ≡ integer = cc in
        byte-then _ _ _ (given _ _ _ _ (rw i at q)) λ n zs e1 q.
        need-then _ _ _ _ _ _ q λ z q.
        let w : t ≡ ext = cc in
        rw w
    go (suc (suc (suc k))) number h q = let z : ◌≡◌ {A = ℕ} 0 1 = cc in absurd (omega arith)

module _ (s : List ℕ) (S at : ℕ) where
  abbrev Enters : Walk → Type 0
  Enters r = forget (entry_type S at (drop at s)) ≡ shown s r

  -- a type that is refused is refused here too
  pub entry-bad : (f : Fault) → forget (type S at (drop at s)) ≡ shown s (Err f) → Enters (Err f)
  unfolding after
  entry-bad f h = after-bad (type S at (drop at s)) _ s f h (Err f) refl

  -- a type that was read is refused with 8 unless its kind is ext's
  module _ {k : ℕ} (b : ByteIs s at (Ok k)) (e : ℕ) (h : forget (type S at (drop at s)) ≡ shown s (Ok e)) where
    pub entry_other : (k ≡ 2 → ⊥) → Enters (Err (fault-at Untyped at))
    unfolding after need shown
    entry_other n =
        with' (shown-on s (type S at (drop at s)) (Ok e) e h refl) λ w.
        rw (w.1, ext-other w.0 (λ z. n (sym (kind-read s S at b w.0 e (drop e s) w.1) ∙ z)))

    pub entry-ext : k ≡ 2 → Enters (Ok e)
    unfolding after need shown
    entry-ext n =
        with' (shown-on s (type S at (drop at s)) (Ok e) e h refl) λ w.
        rw (w.1, ext_same w.0 (kind-read s S at b w.0 e (drop e s) w.1 ∙ n))

-- ---- the signatures and the labels

module _ (s : List ℕ) (at : ℕ) where
  pub signatures-bad : {f : Fault} → CountIs s 0 64 at (Err f) → forget (signatures at (drop at s)) ≡ shown s (Err f)
  unfolding after shown
  signatures-bad b = rw (count-bad b)

  pub signatures_on : {n : ℕ} → CountIs s 0 64 at (Ok n) → (r : Walk) → forget (times n (signature n) (at + 1) (drop (at + 1) s)) ≡ shown s r → forget (signatures at (drop at s)) ≡ shown s r
  unfolding after
  signatures_on b r t = rw (count-on b).reads t

pred-less : (n : ℕ) → n - 1 ≡ pred n
pred-less zero = refl
pred-less (suc n) = omega arith

module _ (s : List ℕ) (S at : ℕ) where
  abbrev Labels : Walk → Type 0
  Labels r = forget (labels S at (drop at s)) ≡ shown s r

  -- a fault of the count, or of the entry, is the labels'; where the entry is read, the others answer
  pub labels-bad : {f : Fault} → CountIs s 1 64 at (Err f) → Labels (Err f)
  unfolding after shown
  labels-bad b = rw (count-bad b)

  module _ {n : ℕ} (b : CountIs s 1 64 at (Ok n)) where
    pub labels-entry : (f : Fault) → forget (label (entry_type S) (at + 1) (drop (at + 1) s)) ≡ shown s (Err f) → Labels (Err f)
    unfolding after
    labels-entry f h = rw (count-on b).reads (after-bad (label (entry_type S) (at + 1) (drop (at + 1) s)) _ s f h (Err f) refl)

    pub labels_on : (e : ℕ) → forget (label (entry_type S) (at + 1) (drop (at + 1) s)) ≡ shown s (Ok e) → (r : Walk) → forget (times (n - 1) (label (type S)) e (drop e s)) ≡ shown s r → Labels r
    unfolding after
    labels_on e h r t =
        rw (count-on b).reads (after_on (label (entry_type S) (at + 1) (drop (at + 1) s)) _ s e h r λ first.
        rw (forget-after (times (pred n) (label (type S)) e (drop e s)) (λ others. first ∷ others)) (rw (pred-less n) at t))
