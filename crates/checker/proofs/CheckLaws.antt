-- The image from end to end: the tests before its content, the tables of its head, what follows its bodies. Assumes nothing.
use Prim.Native.Nat.{ℕ, suc, ◌+◌, ◌*◌, ◌≤◌, ◌<◌}
use mathlib.Core.Path.{◌≡◌, refl, subst, sym, ◌∙◌}
use mathlib.Core.List.{List, [], ◌∷◌, flat_map}
use mathlib.Core.Logic.{◌⊎◌, inl, inr}
use native.Mathlib.Omega.{arith}
use lib.ListN.{length, get_or, take, drop}
use lib.Seq.{drop-cons, drop-length, length-take-le, get_or-take}
use lib.Dec.{leb, eqb}
use borrow.Author.Tests.{le-leb, lt-leb, eq-eqb, ne_eqb, leb-true}
use Rattle.std.specs.Prelude.{Ok, Err}
use Rattle.definitions.specs.Limits.{version, largest_image, widest}
use Rattle.definitions.specs.Terms.{Environment, Signature, Statement}
use Rattle.definitions.specs.Typing.{All, Parameters}
use Rattle.definitions.specs.Layout.{counted}
use Rattle.definitions.specs.Reader.{fault, Read, got, refused, Reader, after, need, byte, end}
use Rattle.definitions.specs.FirstFault.{signatures, labels, bodies, program, read_image, first_fault}
use Rattle.exactness.proofs.Entries.{all-at, at-below}
use Rattle.exactness.proofs.Readers.{need-then, and-true, bytes_drop}
use Rattle.exactness.proofs.Numbers.{item-enough}
use Rattle.exactness.proofs.Header.{signatures-sound, labels-sound}
use Rattle.checker.specs.declared.faults.Refusal.TheVariants.{Size, Version, Left}
use Rattle.checker.specs.declared.faults.Fault.{Fault}
use Rattle.checker.specs.Faults.{number, at as fault-at}
use Rattle.checker.specs.Shown.{Walk, forget, shown}
use Rattle.checker.specs.Laid.{Laid, Placed, parameters_bytes, signature_bytes}
use Rattle.checker.specs.Places.{PlacedFrom}
use Rattle.checker.specs.Bodies.{LabelsFit, HeadRead, opening}
use Rattle.checker.proofs.Loops.{shown-bad, shown-on, forget-after, after-bad, after_on}
use Rattle.checker.proofs.Bytes.{Octets, octets}
use Rattle.checker.proofs.Lists.{at_some, parameters-at}
use Rattle.checker.proofs.PlaceLaws.{laid-counted, counted-inside}

-- ---- the tests before the content

-- what these tests answer; each return of `read_envelope` below
abbrev pub Opens : List ℕ → Walk → Type 0
Opens s r = forget (opening s) ≡ shown s r

pub opens-sized : (s : List ℕ) (f : Fault) → (length s < 3) ⊎ ((3 ≤ length s) × (largest_image < length s)) → f ≡ fault-at Size 0 → Opens s (Err f)
unfolding after need shown
opens-sized s f (inl h) e = rw (e, lt-leb 3 (length s) h)
opens-sized s f (inr h) e = rw (e, le-leb 3 (length s) h.0, lt-leb (length s) largest_image h.1)

pub opens-other : (s : List ℕ) (f : Fault) → 3 ≤ length s → length s ≤ largest_image → (get_or s 0 0 ≡ 1 → ⊥) → f ≡ fault-at Version 0 → Opens s (Err f)
unfolding after need byte shown
opens-other [] f a b n e = absurd (omega arith)
opens-other (v ∷ s) f a b n e = rw (e, le-leb 3 (suc (length s)) a, le-leb (suc (length s)) largest_image b, ne_eqb v version n)

-- what the last test answers, of the length field
opening-sized : (s : List ℕ) → 3 ≤ length s → length s ≤ largest_image → get_or s 0 0 ≡ 1
    → forget (opening s) ≡ forget (need (eqb (get_or s 1 0 * 256 + get_or s 2 0 + 3) (length s)) 1 1 3 (drop 3 s))
unfolding after need byte
opening-sized [] a b e = absurd (omega arith)
opening-sized (v ∷ []) a b e = absurd (omega arith)
opening-sized (v ∷ x ∷ []) a b e = absurd (omega arith)
opening-sized (v ∷ x ∷ y ∷ s) a b e =
    let z : (0 * 256 + x) * 256 + y ≡ x * 256 + y = omega arith in
    rw (le-leb 3 (length (v ∷ x ∷ y ∷ s)) a, le-leb (length (v ∷ x ∷ y ∷ s)) largest_image b, eq-eqb v version e, item-enough 2 1 (x ∷ y ∷ s) (omega arith), z)
    (forget-after (need (eqb (x * 256 + y + 3) (length (v ∷ x ∷ y ∷ s))) 1 1 3 s) (λ _. tt))

module _ (s : List ℕ) (a : 3 ≤ length s) (b : length s ≤ largest_image) (e : get_or s 0 0 ≡ 1) (n : ℕ) (z : n ≡ get_or s 1 0 * 256 + get_or s 2 0) where
  pub opens-wrong : (n + 3 ≡ length s → ⊥) → (f : Fault) → f ≡ fault-at Size 1 → Opens s (Err f)
  unfolding need shown
  opens-wrong w f i = opening-sized s a b e ∙ rw (i, ← z, ne_eqb (n + 3) (length s) w)

  pub opens-right : n + 3 ≡ length s → Opens s (Ok 3)
  unfolding need shown
  opens-right w = opening-sized s a b e ∙ rw (← z, eq-eqb (n + 3) (length s) w)

-- ---- the whole image

-- two readers one after the other, where the second is what another goes on with
same_after : {A B C : Type 0} (x : Read A) (f : A → Reader B) (g : A → Reader C) (h : B → Reader C)
    → ((a : A) (at : ℕ) (xs : List ℕ) → g a at xs ≡ after (f a at xs) h) → after x g ≡ after (after x f) h
unfolding after
same_after (got a at xs) f g h e = e a at xs
same_after (refused x) f g h e = refl

after-given : {A B : Type 0} (a : A) (at : ℕ) (xs : List ℕ) (f : A → Reader B) → f a at xs ≡ after (got a at xs) f
unfolding after
after-given a at xs f = refl

opening-then : (s : List ℕ) → read_image s ≡ after (opening s) (λ _. program (length s))
opening-then s =
    same_after _ _ _ _ λ _ at xs.
    same_after _ _ _ _ λ v at xs.
    same_after _ _ _ _ λ _ at xs.
    same_after _ _ _ _ λ n at xs.
    same_after _ _ _ _ λ _ at xs.
    after-given tt at xs (λ _. program (length s))

module _ (s : List ℕ) where
  -- a fault of the tests before the content is the image's; where they pass, the content answers
  pub image-bad : (e : Fault) → Opens s (Err e) → (r : Walk) → r ≡ Err e → forget (read_image s) ≡ shown s r
  image-bad e h r i = rw (opening-then s) (after-bad (opening s) (λ _. program (length s)) s e h r i)

  pub image-on : (e : ℕ) → Opens s (Ok e) → (r : Walk) → forget (program (length s) e (drop e s)) ≡ shown s r → forget (read_image s) ≡ shown s r
  image-on e h r t = rw (opening-then s) (after_on (opening s) (λ _. program (length s)) s e h r (λ _. t))

  -- an image that passed them is not too large
  pub image-small : (e : ℕ) → Opens s (Ok e) → length s ≤ 16384
  image-small e h =
      let (_, w) = shown-on s (opening s) (Ok e) e h refl in
      need-then _ _ _ _ _ _ w λ t _.
      leb-true (length s) largest_image (and-true (leb 3 (length s)) (leb (length s) largest_image) t).1

  -- from the reading of the image to its first fault
  pub check-on : (e : ℕ) → forget (read_image s) ≡ shown s (Ok e) → (n : ℕ) → n ≡ 0 → fault n e ≡ first_fault s
  unfolding first_fault
  check-on e h n z = let (_, w) = shown-on s (read_image s) (Ok e) e h refl in rw (w, z)

  pub check-bad : (f : Fault) → forget (read_image s) ≡ shown s (Err f) → (n : ℕ) → n ≡ number f.refusal → fault n f.offset ≡ first_fault s
  unfolding first_fault
  check-bad f h n e = rw (shown-bad s (read_image s) (Err f) f h refl, e)

-- ---- the tables of the head

-- a count at an offset, at most 64, and behind it what it counts
pub record Listed {A : Type 0} (f : A → List ℕ) (s : List ℕ) (at : ℕ) (l : List A) : Type 0 where
  pub inside : at < length s
  pub count : get_or s at 0 ≡ length l
  pub few : length l ≤ 64
  pub laid : Laid s (at + 1) (flat_map f l)

module _ {A : Type 0} (f : A → List ℕ) (s : List ℕ) (at : ℕ) (l : List A) where
  listed : length l ≤ 64 → Laid s at (counted f l) → Listed f s at l
  listed h w = let (n, behind) = laid-counted f s at l w in record { inside = counted-inside f s at l w; count = n; few = h; laid = behind }

  placed : Listed f s at l → (table : List ℕ) → length table ≡ 64 → PlacedFrom f s (at + 1) (get_or s at 0) table → Placed f s (take (get_or s at 0) table) l
  placed i table h p =
      record {
        many = length-take-le (get_or s at 0) table (omega arith) ∙ i.count;
        laid = λ k a e. rw (get_or-take (get_or s at 0) table k 0 (omega (arith, at-below l k a e))) (p.placed l (sym i.count) i.laid k a e);
      }

labels-fit : (s offsets : List ℕ) (Θ : List Environment) → All (λ Γ. length Γ ≤ widest) Θ → Placed parameters_bytes s offsets Θ → LabelsFit s offsets
labels-fit s offsets Θ p w = record {
  fit = λ l h.
      let (Γ, e) = at_some Θ l (omega (arith, w.many)) in
      rw (parameters-at s (get_or offsets l 0) Γ (w.laid l Γ e)).count (all-at _ Θ l p e);
}

module _ (s : List ℕ) (b : Octets s) where
  -- signatures that were read stand there as such a list
  pub signatures-listed : (at e : ℕ) (r : List ℕ) (Σ : List Signature) → signatures at (drop at s) ≡ got Σ e r → Listed signature_bytes s at Σ
  signatures-listed at e r Σ q =
      let w = signatures-sound at (drop at s) Σ e r (bytes_drop at s (octets s b)) q in
      listed signature_bytes s at Σ w.lawful.0 (record { rest = r; bytes = w.bytes })

  labels-listed : (S at e : ℕ) (r : List ℕ) (Θ : List Environment) → labels S at (drop at s) ≡ got Θ e r → Listed parameters_bytes s at Θ × All (λ Γ. length Γ ≤ widest) Θ
  labels-listed S at e r Θ q =
      let w = labels-sound S at (drop at s) Θ e r (bytes_drop at s (octets s b)) q in
      (listed parameters_bytes s at Θ w.lawful.0 (record { rest = r; bytes = w.bytes }), narrow Θ w.lawful.1)
    where
      narrow : (Θ : List Environment) → All (Parameters widest S) Θ → All (λ Γ. length Γ ≤ widest) Θ
      narrow [] p = tt
      narrow (Γ ∷ Θ) p = (p.0.0, narrow Θ p.1)

-- ---- the head, read

module _ (s : List ℕ) (at : ℕ) where
  -- what the content from `at` on answers
  abbrev pub Programs : Walk → Type 0
  Programs r = forget (program (length s) at (drop at s)) ≡ shown s r

  pub program-bad : (e : Fault) → forget (signatures at (drop at s)) ≡ shown s (Err e) → (r : Walk) → r ≡ Err e → Programs r
  program-bad e h r i = after-bad (signatures at (drop at s)) _ s e h r i

  module _ (b : Octets s) (heads : ℕ) (h : forget (signatures at (drop at s)) ≡ shown s (Ok heads)) where
    -- the signatures that were read, and their count
    record Signed : Type 0 where
      list : List Signature
      reads : signatures at (drop at s) ≡ got list heads (drop heads s)
      listed : Listed signature_bytes s at list

    signed : Signed
    signed = let (Σ, w) = shown-on s (signatures at (drop at s)) (Ok heads) heads h refl in record { list = Σ; reads = w; listed = signatures-listed s b at heads (drop heads s) Σ w }

    -- where signatures were read there is a count byte
    pub signatures-inside : at < length s
    signatures-inside = signed.listed.inside

    module _ (q : Walk) (g : forget (labels (get_or s at 0) heads (drop heads s)) ≡ shown s q) where
      -- the labels of as many signatures
      labels-counted : forget (labels (length signed.list) heads (drop heads s)) ≡ shown s q
      labels-counted = subst (λ (S : ℕ). forget (labels S heads (drop heads s)) ≡ shown s q) signed.listed.count g

    pub program-labels-bad : (e : Fault) → forget (labels (get_or s at 0) heads (drop heads s)) ≡ shown s (Err e) → (r : Walk) → r ≡ Err e → Programs r
    unfolding after
    program-labels-bad e g r i = rw signed.reads (after-bad (labels (length signed.list) heads (drop heads s)) _ s e (labels-counted (Err e) g) r i)

    -- signatures and labels were both read
    pub head_read : (start : ℕ) → forget (labels (get_or s at 0) heads (drop heads s)) ≡ shown s (Ok start) → start ≤ length s → HeadRead s at heads start
    head_read start g l =
        let (Θ, v) = shown-on s (labels (length signed.list) heads (drop heads s)) (Ok start) start (labels-counted (Ok start) g) refl in
        let i : Listed parameters_bytes s heads Θ = (labels-listed s b (length signed.list) heads start (drop start s) Θ v).0 in
        record {
          signed = signed.list;
          labelled = Θ;
          signatures-read = signed.reads;
          labels-read = v;
          signed-inside = signed.listed.inside;
          signed-few = omega (arith, signed.listed);
          labelled-inside = i.inside;
          labelled-few = omega (arith, i);
          inside = l;
        }

-- ---- what follows the head

module _ (s : List ℕ) (b : Octets s) (at heads start : ℕ) (h : HeadRead s at heads start) where
  -- both lists stand in the image as they were read
  signed-listed : Listed signature_bytes s at h.signed
  signed-listed = signatures-listed s b at heads (drop heads s) h.signed h.signatures-read

  labelled-listed : Listed parameters_bytes s heads h.labelled × All (λ Γ. length Γ ≤ widest) h.labelled
  labelled-listed = labels-listed s b (length h.signed) heads start (drop start s) h.labelled h.labels-read

  -- the filled tables say where each signature stands, and each label
  pub signed-placed : (sigs : List ℕ) → length sigs ≡ 64 → PlacedFrom signature_bytes s (at + 1) (get_or s at 0) sigs → Placed signature_bytes s (take (get_or s at 0) sigs) h.signed
  signed-placed = placed signature_bytes s at h.signed signed-listed

  module _ (table : List ℕ) (full : length table ≡ 64) (p : PlacedFrom parameters_bytes s (heads + 1) (get_or s heads 0) table) where
    pub labelled-placed : Placed parameters_bytes s (take (get_or s heads 0) table) h.labelled
    labelled-placed = placed parameters_bytes s heads h.labelled labelled-listed.0 table full p

    pub labelled-fit : LabelsFit s (take (get_or s heads 0) table)
    labelled-fit = labels-fit s _ h.labelled labelled-listed.1 labelled-placed

  module _ (sigs labs : List ℕ) (full : length sigs ≡ 64) (full' : length labs ≡ 64)
      (p : PlacedFrom signature_bytes s (at + 1) (get_or s at 0) sigs) (p' : PlacedFrom parameters_bytes s (heads + 1) (get_or s heads 0) labs) where
    -- what the bodies answer, and what they answer of a region with these tables
    abbrev pub read : Read (List Statement)
    read = bodies h.signed h.labelled (length s) h.labelled start (drop start s)

    abbrev pub Answers : Walk → Type 0
    Answers r = Placed signature_bytes s (take (get_or s at 0) sigs) h.signed → Placed parameters_bytes s (take (get_or s heads 0) labs) h.labelled
        → forget read ≡ shown s r

    answer : (r : Walk) → Answers r → forget read ≡ shown s r
    answer r t = t (signed-placed sigs full p) (labelled-placed labs full' p')

    -- a bad body, bytes left behind the last one, and none left
    pub rest-bad : (e : Fault) → Answers (Err e) → (r : Walk) → r ≡ Err e → Programs s at r
    unfolding after
    rest-bad e t r i = rw (h.signatures-read, h.labels-read) (after-bad read _ s e (answer (Err e) t) r i)

    module _ (e : ℕ) (t : Answers (Ok e)) where
      pub rest-left : e ≤ length s → (e ≡ length s → ⊥) → (f : Fault) → f ≡ fault-at Left e → Programs s at (Err f)
      unfolding after end shown
      rest-left l n f i = rw (h.signatures-read, h.labels-read) (after_on read _ s e (answer (Ok e) t) (Err f) (λ _. rw (i, drop-cons s e 0 (omega arith))))

      pub rest-done : e ≡ length s → Programs s at (Ok e)
      unfolding after end shown
      rest-done n = rw (h.signatures-read, h.labels-read) (after_on read _ s e (answer (Ok e) t) (Ok e) (λ _. rw (n, drop-length s)))
