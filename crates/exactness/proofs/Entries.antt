-- Entries of lists: what is known where an entry stands at a place (`Typing.At`). Assumes nothing.
use Prim.Native.Nat.{ℕ, zero, suc, ◌<◌}
use mathlib.Core.Path.{◌≡◌, refl, ap}
use mathlib.Core.List.{List, [], ◌∷◌, Forall₂}
use native.Mathlib.Omega.{arith}
use lib.ListN.{length, get_or}
use Rattle.definitions.specs.Typing.{At, All}

-- what names an entry is below the number of entries
pub at-below : {A : Type 0} (l : List A) (i : ℕ) (a : A) → At l i a → i < length l
at-below [] i a e = let z : ◌≡◌ {A = ℕ} 0 1 = cc in absurd (omega arith)
at-below (x ∷ l) zero a e = omega arith
at-below (x ∷ l) (suc i) a e = omega (arith, at-below l i a e)

-- lists that agree entry by entry are as long as one another
pub length-forall : {A B : Type 0} (R : A → B → Type 0) {l : List A} {m : List B} → Forall₂ R l m → length l ≡ length m
length-forall R Forall₂.nil = refl
length-forall R (Forall₂.cons h t) = ap suc (length-forall R t)

-- what holds of all entries holds of each
pub all-at : {A : Type 0} (R : A → Type 0) (l : List A) (i : ℕ) {x : A} → All R l → At l i x → R x
all-at R [] i a e = let z : ◌≡◌ {A = ℕ} 0 1 = cc in absurd (omega arith)
all-at R (y ∷ l) zero {x} a e = let q : y ≡ x = cc in rw q at a.0
all-at R (y ∷ l) (suc i) a e = all-at R l i a.1 e

-- an entry that is there is the one that is found, whatever stands in for a missing one
pub get_or-at : {A : Type 0} (l : List A) (i : ℕ) (d : A) {x : A} → At l i x → get_or l i d ≡ x
get_or-at [] i d e = let z : ◌≡◌ {A = ℕ} 0 1 = cc in absurd (omega arith)
get_or-at (y ∷ l) zero d e = cc
get_or-at (y ∷ l) (suc i) d e = get_or-at l i d e
