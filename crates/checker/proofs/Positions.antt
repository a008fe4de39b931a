-- Positions in an environment: the walk over them, and the entries that they name. Assumes nothing.
use Prim.Native.Nat.{ℕ, zero, suc, ◌+◌, ◌-◌, ◌≤◌, ◌<◌}
use mathlib.Core.Path.{◌≡◌, refl, ap, sym, ◌∙◌}
use mathlib.Core.List.{List, [], ◌∷◌, map}
use mathlib.Core.Option.{some}
use native.Mathlib.Omega.{arith}
use native.Mathlib.Nat.{sub-zero}
use lib.ListN.{length, get_or, get_elem?, take, drop, length-map}
use lib.Seq.{get_or-drop}
use Rattle.std.proofs.lemmas.List.{length-take}
use Rattle.std.specs.Prelude.{Ok, Err}
use Rattle.definitions.specs.Terms.{Environment}
use Rattle.definitions.specs.Reader.{got, Reader, after, times, known}
use Rattle.exactness.proofs.Readers.{then, known-then}
use Rattle.checker.specs.declared.faults.Fault.{Fault}
use Rattle.checker.specs.Shown.{Walk, forget, shown}
use Rattle.checker.specs.Entries.{Below, Positions}
use Rattle.checker.specs.declared.faults.Refusal.TheVariants.{Short, Unnamed}
use Rattle.checker.specs.Faults.{at as fault-at}
use Rattle.checker.specs.Readers.{NameIs, is_named, is_ended, is_unknown, Repeated, done, fails, goes_on}
use Rattle.checker.proofs.Repeats.{none-left, next-fails, next-on}
use Rattle.checker.proofs.ReaderLaws.{name-on, name-bad, name-value}
use Rattle.checker.proofs.Lists.{written_at, held_at, part_at}
use Rattle.checker.proofs.Loops.{forget-after, repeated-times}
use Rattle.checker.proofs.Filling.{Filled, fill-all}

-- ---- positions, one after another

bad-on : {f : Fault} {e : ℕ} → ◌≡◌ {A = Walk} (Err f) (Ok e) → ⊥
bad-on g = let z : ◌≡◌ {A = ℕ} 0 1 = cc in omega arith

-- a fault says nothing of where positions end
positions-bad : (s : List ℕ) (width at count : ℕ) (f : Fault)
    → ((Δ : Environment) → length Δ ≡ width → forget (times count (known Δ) at (drop at s)) ≡ shown s (Err f)) → Positions s width at count (Err f)
positions-bad s width at count f h = record { reads = h; ended = λ e g. absurd (bad-on g); below = λ e g. absurd (bad-on g) }

module _ {s : List ℕ} {width : ℕ} where
  -- one position: there is none, or none that is known, or there is
  pub position-bad : {at : ℕ} {f : Fault} → NameIs s width at (Err f) → Positions s width at 1 (Err f)
  unfolding after shown
  position-bad {at} {f} n = positions-bad s width at 1 f λ Δ m. rw (name-bad Δ (sym m) n)

  pub position-on : {at i : ℕ} → NameIs s width at (Ok i) → Positions s width at 1 (Ok (at + 1))
  unfolding after shown
  position-on {at} {i} n = record {
    reads = λ Δ m. rw (name-on Δ (sym m) n).reads;
    ended = λ e g. cc;
    below = λ e g k h. let z : at + k ≡ at = omega arith in rw z (omega (arith, name-value n));
  }

-- one reading is the reader's
times-one : {A : Type 0} (m : Reader A) (at : ℕ) (xs : List ℕ) → forget (times 1 m at xs) ≡ forget (m at xs)
unfolding after
times-one m at xs = forget-after (m at xs) (λ a. a ∷ [])

-- positions one by one are so many positions
module _ (s : List ℕ) (width : ℕ) (reads : ℕ → Walk → Type 0) (each : (p : ℕ) (r : Walk) → reads p r → Positions s width p 1 r) where
  ends : (n at : ℕ) (r : Walk) → Repeated reads n at r → (e : ℕ) → r ≡ Ok e → (e ≡ at + n) × Below s at n width
  ends _ at _ done e g = let z : at ≡ e = cc in (omega arith, λ k h. absurd (omega arith))
  ends _ at _ (fails b) e g = absurd (bad-on g)
  ends _ at r (goes_on {n = n} {next = next} b rest) e g =
      let one : Positions s width at 1 (Ok next) = each at (Ok next) b in
      let (q, others) = ends n next r rest e g in
      let w : next ≡ at + 1 = one.ended next refl in
      (omega (arith, q, w), below one others w)
    where
      below : Positions s width at 1 (Ok next) → Below s next n width → next ≡ at + 1 → Below s at (suc n) width
      below one others w zero h = one.below next refl 0 (omega arith)
      below one others w (suc k) h = let z : at + suc k ≡ next + k = omega arith in rw z (others k (omega arith))

  pub positions-all : (n at : ℕ) (r : Walk) → Repeated reads n at r → Positions s width at n r
  positions-all n at r w = record {
    reads = λ Δ m. repeated-times (known Δ) s reads (λ p r b. sym (times-one (known Δ) p (drop p s)) ∙ (each p r b).reads Δ m) n at r w;
    ended = λ e g. (ends n at r w e g).0;
    below = λ e g. (ends n at r w e g).1;
  }

-- Positions of a part of the bytes, tested one after another: what answers from there on answers from the start.
abbrev one-read : List ℕ → ℕ → ℕ → Walk → Type 0
one-read s width p r = Positions s width p 1 r

pub record Walked (s : List ℕ) (width at count i : ℕ) : Type 0 where
  pub rest : (r : Walk) → Repeated (one-read s width) (count - i) (at + i) r → Repeated (one-read s width) count at r

module _ {s : List ℕ} {width at count : ℕ} where
  pub walked-none : Walked s width at count 0
  walked-none = let z : at + 0 ≡ at = omega arith in record { rest = λ r t. rw (z, sub-zero) at t }

  whole : (i : ℕ) → Walked s width at count i → (r : Walk) → Repeated (one-read s width) (count - i) (at + i) r → Positions s width at count r
  whole i w r t = positions-all s width (one-read s width) (λ p r b. b) count at r (w.rest r t)

  module _ (i : ℕ) (more : i < count) (w : Walked s width at count i) {there : ℕ} (few : at + there ≤ length s) where
    -- the byte of the part is that of the whole
    in-part : i < there → get_or (take there (drop at s)) i 0 ≡ get_or s (at + i) 0
    in-part h = sym (part_at s (take there (drop at s)) at there 0 refl i h)

    pub walked-more : i < there → get_or (take there (drop at s)) i 0 < width → Walked s width at count (i + 1)
    walked-more h b =
        let n : NameIs s width (at + i) (Ok (get_or s (at + i) 0)) = is_named (omega (arith, h, few)) refl (omega (arith, b, in-part h)) in
        let z : at + i + 1 ≡ at + (i + 1) = omega arith in
        record { rest = λ r t. w.rest r (next-on (one-read s width) count i (at + i) more (at + i + 1) (position-on n) r (rw z t)) }

    pub walked-unknown : i < there → width ≤ get_or (take there (drop at s)) i 0 → Positions s width at count (Err (fault-at Unnamed (at + i)))
    walked-unknown h b = whole i w _ (next-fails (one-read s width) count i (at + i) more _ (position-bad (is_unknown (omega (arith, h, few)) (omega (arith, b, in-part h)))))

  pub walked-short : (i : ℕ) → i < count → Walked s width at count i → {end : ℕ} → end ≡ at + i → end ≡ length s → Positions s width at count (Err (fault-at Short end))
  walked-short i more w e n =
      let z : at + i ≡ length s = sym e ∙ n in
      rw e (whole i w _ (next-fails (one-read s width) count i (at + i) more _ (position-bad (is_ended z))))

  pub walked-all : (i : ℕ) → i ≡ count → Walked s width at count i → Positions s width at count (Ok (at + count))
  walked-all i e w = let z : at + i ≡ at + count = omega arith in rw z at (whole i w _ (none-left (one-read s width) count i (at + i) (omega arith)))

-- positions that were walked over are below the width as a part of the bytes too
pub positions-part : {s : List ℕ} {width at count e : ℕ} → Positions s width at count (Ok e) → Below (take (e - at) (drop at s)) 0 (length (take (e - at) (drop at s))) width
positions-part {s} {width} {at} {count} {e} p k h =
    let few : k < e - at = omega (arith, h, length-take (e - at) (drop at s)) in
    let z : 0 + k ≡ k = omega arith in
    rw (z, ← (part_at s (take (e - at) (drop at s)) at (e - at) 0 refl k few)) (p.below e refl k (omega (arith, p.ended e refl)))

-- ---- the entries that positions name

-- what the walk read
pub times-known : {A : Type 0} (l : List A) (n at : ℕ) (xs : List ℕ) (as' : List (ℕ × A)) (e : ℕ) (r : List ℕ) → times n (known l) at xs ≡ got as' e r
    → (length as' ≡ n) × ((k : ℕ) → k < n → get_elem? l (get_or xs k 0) ≡ get_elem? (map (λ p. p.1) as') k)
times-known l zero at xs as' e r q = let h : as' ≡ [] = cc in (rw h, λ k m. absurd (omega arith))
times-known {A = A} l (suc n) at xs as' e r q =
    known-then l at xs _ q λ i a ys e1 h q.
    then _ _ _ q λ bs _ zs q2 q.
    let w = times-known l n _ ys bs _ zs q2 in
    let f : as' ≡ (i, a) ∷ bs = cc in
    (rw f (ap suc w.0), rw (f, e1) (first i a ys bs h w.1))
  where
    first : (i : ℕ) (a : A) (ys : List ℕ) (bs : List (ℕ × A)) → get_elem? l i ≡ some a → ((k : ℕ) → k < n → get_elem? l (get_or ys k 0) ≡ get_elem? (map (λ p. p.1) bs) k)
        → (k : ℕ) → k < suc n → get_elem? l (get_or (i ∷ ys) k 0) ≡ get_elem? (map (λ p. p.1) ((i, a) ∷ bs)) k
    first i a ys bs h w zero m = h
    first i a ys bs h w (suc k) m = w k (omega arith)

-- the sequence of the entries named
abbrev pub named_by : List ℕ → List (List ℕ) → ℕ → ℕ → List ℕ
named_by s env at k = get_or env (get_or s (at + k) 0) []

-- the array filled holds the entries named, as f writes them
pub gather-all : {A : Type 0} (f : A → List ℕ) (s : List ℕ) (env start : List (List ℕ)) (at i : ℕ) (out : List (List ℕ))
    → Filled (named_by s env at) start 0 i out → (count : ℕ) → count ≤ i → i ≤ count
    → (l : List A) (width : ℕ) → take width env ≡ map f l → Below s at count width → (as' : List (ℕ × A)) (e : ℕ) (r : List ℕ)
    → times count (known l) at (drop at s) ≡ got as' e r → take count out ≡ map f (map (λ p. p.1) as')
gather-all {A} f s env start at i out g count low high l width held b as' e r q =
    let w = times-known l count at (drop at s) as' e r q in
    let names : List A = map (λ p. p.1) as' in
    let m : length (map f names) ≡ count = length-map names f ∙ length-map as' (λ p. p.1) ∙ w.0 in
    let z : 0 + count ≡ count = omega arith in
    rw z at (fill-all (named_by s env at) start 0 i out g count low high (map f names) [] m λ k h.
    held_at f env width l held (get_or s (at + k) 0) (b k h) ∙ rw (← (get_or-drop at s k 0), w.1 k h) (sym (written_at f names k)))
