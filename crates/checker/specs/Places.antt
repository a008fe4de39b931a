-- Where what stands in an image ends, and a table of where each entry of a list stands.
use Rattle.std.specs.Prelude.{ℕ, suc, ◌+◌, ◌<◌, ◌≡◌, length, get_or}
use mathlib.Core.List.{List, flat_map}
use Rattle.definitions.specs.Typing.{At}
use Rattle.checker.specs.Laid.{Laid}

-- The offset r is behind whatever stands at an offset, laid out by f.
pub record Behind {A : Type 0} (f : A → List ℕ) (s : List ℕ) (at r : ℕ) : Type 0 where
  pub behind : (a : A) → Laid s at (f a) → r ≡ at + length (f a)

-- The offset r is behind so many that stand one behind another from an offset on.
pub record Through {A : Type 0} (f : A → List ℕ) (s : List ℕ) (at n r : ℕ) : Type 0 where
  pub through : (l : List A) → length l ≡ n → Laid s at (flat_map f l) → r ≡ at + length (flat_map f l)

-- A table says where each entry of a list of so many stands that stands at an offset, one entry behind another.
pub record PlacedFrom {A : Type 0} (f : A → List ℕ) (s : List ℕ) (at count : ℕ) (table : List ℕ) : Type 0 where
  pub placed : (l : List A) → length l ≡ count → Laid s at (flat_map f l) → (i : ℕ) (a : A) → At l i a → Laid s (get_or table i 0) (f a)

-- What so many skips lead to from an offset.
pub data Skipped (skips : ℕ → ℕ → Type 0) (at : ℕ) : ℕ → ℕ → Type 0 where
  stays : Skipped skips at 0 at
  skipped : {i p q : ℕ} → Skipped skips at i p → skips p q → Skipped skips at (suc i) q

-- Each of a table's first entries is what as many skips lead to as stand before it.
abbrev pub Chained : (ℕ → ℕ → Type 0) → ℕ → ℕ → List ℕ → Type 0
Chained skips at count table = (i : ℕ) → i < count → Skipped skips at i (get_or table i 0)
