-- What stands where in an image: parts, what is behind a list, and tables of offsets. Assumes nothing.
use Prim.Native.Nat.{ℕ, zero, suc, ◌+◌, ◌*◌, ◌≤◌, ◌<◌}
use mathlib.Core.Path.{◌≡◌, refl, sym, ◌∙◌}
use mathlib.Core.List.{List, [], ◌∷◌, ◌++◌, append-nil, flat_map}
use mathlib.Core.Logic.{∥∥₁_elim}
use Rattle.std.proofs.Math.Bridge.{le_prop}
use native.Mathlib.Omega.{arith}
use borrow.Author.Count.{below_more}
use lib.ListN.{length, get_or, set, take, drop, length-append}
use lib.Seq.{get_or-set_same, get_or-set_other, length-take-le, drop-length}
use Rattle.std.proofs.lemmas.List.{take-append-drop}
use Rattle.std.proofs.lemmas.Grind.{flat_map-append}
use Rattle.definitions.specs.Terms.{Environment, Signature}
use Rattle.definitions.specs.Typing.{At}
use Rattle.definitions.specs.Layout.{type_bytes, counted}
use Rattle.exactness.proofs.Entries.{at-below}
use Rattle.checker.specs.Laid.{Laid, Known, ParametersAt, parameters_bytes, signature_bytes}
use Rattle.checker.proofs.Lists.{laid-append, laid-front, laid-byte, laid-inside, list-inside, at_some, types-length}
use Rattle.checker.specs.Places.{Behind, Through, PlacedFrom, Skipped, stays, skipped, Chained}

-- ---- parts of what stands somewhere

-- a count, and what it counts
pub laid-counted : {A : Type 0} (f : A → List ℕ) (s : List ℕ) (at : ℕ) (l : List A) → Laid s at (counted f l) → (get_or s at 0 ≡ length l) × Laid s (at + 1) (flat_map f l)
unfolding counted
laid-counted f s at l h = (laid-byte s at (length l) (flat_map f l) h, laid-append s at (length l ∷ []) (flat_map f l) h)

pub counted-inside : {A : Type 0} (f : A → List ℕ) (s : List ℕ) (at : ℕ) (l : List A) → Laid s at (counted f l) → at < length s
unfolding counted
counted-inside f s at l h = omega (arith, laid-inside s at (length l) (flat_map f l) h)

-- an entry of a list
pub entry : {A : Type 0} (l : List A) (i : ℕ) → i < length l → (a : A) × (At l i a) × (drop i l ≡ a ∷ drop (suc i) l)
entry [] i h = absurd (omega arith)
entry (a ∷ l) zero h = (a, refl, refl)
entry (a ∷ l) (suc i) h = entry l i (omega arith)

-- ---- what is behind a list

module _ {A : Type 0} (f : A → List ℕ) (s : List ℕ) where
  -- past the end nothing stands, so any offset is behind it
  pub behind-none : (at r : ℕ) → length s ≤ at → Behind (counted f) s at r
  behind-none at r h = record { behind = λ l w. absurd (omega (arith, counted-inside f s at l w)) }

  -- a list ends behind as many entries as its count says
  pub through-counted : (at r : ℕ) → Through f s (at + 1) (get_or s at 0) r → Behind (counted f) s at r
  unfolding counted
  through-counted at r t = record { behind = λ l w. let (e, next) = laid-counted f s at l w in t.through l (sym e) next ∙ omega arith }

  -- the first entries of a list, and the others
  parts : (n : ℕ) (l : List A) → flat_map f l ≡ flat_map f (take n l) ++ flat_map f (drop n l)
  unfolding flat_map
  parts n l = rw (← (flat_map-append f (take n l) (drop n l)), take-append-drop n l)

  pub laid-first : (at n : ℕ) (l : List A) → Laid s at (flat_map f l) → Laid s at (flat_map f (take n l))
  laid-first at n l w = laid-front s at _ _ (rw (parts n l) at w)

  -- behind the first entries the others stand
  pub through-rest : (at n r : ℕ) → Through f s at n r → (l : List A) → n ≤ length l → Laid s at (flat_map f l) → Laid s r (flat_map f (drop n l))
  through-rest at n r t l h w =
      let both : Laid s at (flat_map f (take n l) ++ flat_map f (drop n l)) = rw (parts n l) at w in
      rw (t.through (take n l) (length-take-le n l h) (laid-first at n l w)) (laid-append s at _ _ both)

  -- so entry n stands behind the first n
  pub through_at : (at n r : ℕ) → Through f s at n r → (l : List A) (a : A) → At l n a → Laid s at (flat_map f l) → Laid s r (f a)
  unfolding flat_map
  through_at at n r t l a h w =
      let m : n < length l = at-below l n a h in
      let (b, v, d) = entry l n m in
      let z : b ≡ a = cc in
      rw (← z) (laid-front s r (f b) (flat_map f (drop (suc n) l)) (rw d at (through-rest at n r t l (omega arith) w)))

  -- none is passed yet; below, one more is
  pub through-none : (at : ℕ) → Through f s at 0 at
  unfolding flat_map
  through-none at = record { through = go }
    where
      go : (l : List A) → length l ≡ 0 → Laid s at (flat_map f l) → at ≡ at + length (flat_map f l)
      go [] h w = omega arith
      go (a ∷ l) h w = absurd (omega arith)

  pub through-more : (at n p q : ℕ) → Through f s at n p → Behind f s p q → Through f s at (suc n) q
  unfolding flat_map
  through-more at n p q t b = record { through = go }
    where
      go : (l : List A) → length l ≡ suc n → Laid s at (flat_map f l) → q ≡ at + length (flat_map f l)
      go l h w =
          let (a, v, d) = entry l n (omega arith) in
          let none : drop (suc n) l ≡ [] = rw (← h) (drop-length l) in
          let i : p ≡ at + length (flat_map f (take n l)) = t.through (take n l) (length-take-le n l (omega arith)) (laid-first at n l w) in
          let j : q ≡ p + length (f a) = b.behind a (through_at at n p t l a v w) in
          let e : flat_map f l ≡ flat_map f (take n l) ++ f a = parts n l ∙ rw (d, none, append-nil (f a)) in
          rw e (omega (arith, i, j, length-append (flat_map f (take n l)) (f a)))

  -- skips that each pass an entry pass so many
  pub skipped-through : (skips : ℕ → ℕ → Type 0) → ((p q : ℕ) → skips p q → Behind f s p q) → (at i p : ℕ) → Skipped skips at i p → Through f s at i p
  skipped-through skips passes at _ _ stays = through-none at
  skipped-through skips passes at _ q (skipped {i = i} {p = p} k one) = through-more at i p q (skipped-through skips passes at i p k) (passes p q one)

-- ---- parameters

-- a list's count gives its size, and where bytes are missing no list stands
pub parameters-behind : (s : List ℕ) (at r : ℕ) → (at + 1 + 2 * get_or s at 0 ≤ length s → r ≡ at + 1 + 2 * get_or s at 0) → Behind parameters_bytes s at r
unfolding counted
parameters-behind s at r h = record {
  behind = λ Γ w.
      let b : get_or s at 0 ≡ length Γ = laid-byte s at (length Γ) (flat_map type_bytes Γ) w in
      omega (arith, b, h (omega (arith, b, laid-inside s at (length Γ) (flat_map type_bytes Γ) w, types-length Γ)), types-length Γ);
}

-- a list of a table of such lists stands where the table says, and is inside
pub list-at : (image labels : List ℕ) (l : ℕ) → l < length labels → Known parameters_bytes image labels → ParametersAt image (get_or labels l 0)
list-at image labels l h k =
    let (Γ, e) = at_some k.list l (omega (arith, k.placed.many)) in
    record { parameters = Γ; laid = k.placed.laid l Γ e }

pub listed-inside : (image labels : List ℕ) (l : ℕ) → l < length labels → ∥ Known parameters_bytes image labels ∥₁
    → get_or labels l 0 + 1 + 2 * get_or image (get_or labels l 0) 0 ≤ length image
listed-inside image labels l h k =
    ∥∥₁_elim k le_prop λ k.
    let w = list-at image labels l h k in
    list-inside image (get_or labels l 0) w.parameters w.laid

-- ---- tables

module _ (skips : ℕ → ℕ → Type 0) (at i : ℕ) (table : List ℕ) where
  -- one entry more
  pub chained-more : (p : ℕ) → i < length table → Skipped skips at i p → Chained skips at i table → Chained skips at (i + 1) (set table i p)
  chained-more p wide here c = below_more (λ (k : ℕ). Skipped skips at k (get_or (set table i p) k 0)) i
      (λ k h. let ne : k ≡ i → ⊥ = (λ z. omega arith) in rw (get_or-set_other table i k p 0 ne) (c k h))
      (rw (get_or-set_same table i p 0 wide) here)

module _ {A : Type 0} (f : A → List ℕ) (s : List ℕ) where
  -- a table of what skips lead to says where each entry stands
  pub chained-placed : (skips : ℕ → ℕ → Type 0) → ((p q : ℕ) → skips p q → Behind f s p q) → (at count : ℕ) (table : List ℕ) → Chained skips at count table → PlacedFrom f s at count table
  chained-placed skips passes at count table c = record {
    placed = λ l h w i a e.
        let t = skipped-through f s skips passes at i _ (c i (omega (arith, h, at-below l i a e))) in
        through_at f s at i _ t l a e w;
  }

-- where the parameters of a signature's symbol stand
pub symbol-laid : (s : List ℕ) (at m r : ℕ) → Through parameters_bytes s (at + 1) m r → (S : Signature) (Γ : Environment) → Laid s at (signature_bytes S) → At S m Γ → Laid s r (parameters_bytes Γ)
symbol-laid s at m r t S Γ l h = through_at parameters_bytes s (at + 1) m r t S Γ h (laid-counted parameters_bytes s at S l).1
