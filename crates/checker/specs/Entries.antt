-- What environments hold, and what a walk over positions says.
use Rattle.std.specs.Prelude.{ℕ, ◌+◌, ◌<◌, ◌≡◌, List, [], ◌∷◌, map, length, get_or, drop, Bool, Ok}
use mathlib.Core.Bool.{cond}
use Rattle.definitions.specs.Terms.{Ty, ext, Environment}
use Rattle.definitions.specs.Reader.{got, times, known}
use Rattle.checker.specs.declared.env.Env.{Env}
use Rattle.checker.specs.Laid.{Holds}
use Rattle.checker.specs.Shown.{forget, shown, Walk}

-- An environment of the code holds these types.
abbrev pub Held : Env → Environment → Type 0
Held env Δ = Holds env.types env.width Δ

-- What a clause of extern gains: an integer, or nothing.
abbrev pub gained : Bool → Environment
gained gains = cond gains (ext ∷ []) []

-- Every one of these bytes is below a bound.
abbrev pub Below : List ℕ → ℕ → ℕ → ℕ → Type 0
Below s at count bound = (k : ℕ) → k < count → get_or s (at + k) 0 < bound

-- The positions of an environment of this width; where all are known, where they end.
pub record Positions (s : List ℕ) (width at count : ℕ) (r : Walk) : Type 0 where
  pub reads : (Δ : Environment) → length Δ ≡ width → forget (times count (known Δ) at (drop at s)) ≡ shown s r
  pub ended : (e : ℕ) → r ≡ Ok e → e ≡ at + count
  pub below : (e : ℕ) → r ≡ Ok e → Below s at count width

-- The entries that positions of an environment name.
pub record NamedIs (env : Env) (positions : List ℕ) (r : Env) : Type 0 where
  pub width : r.width ≡ length positions
  pub holds : (Δ : Environment) → Held env Δ → (l : List (ℕ × Ty)) → times (length positions) (known Δ) 0 positions ≡ got l (length positions) [] → Held r (map (λ p. p.1) l)
