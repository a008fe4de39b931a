-- What an environment holds: a position's entry of the type ext, the entries that types' bytes give, and those that positions name. Assumes nothing.
use Prim.Native.Nat.{ℕ, ◌+◌, ◌/◌, ◌≤◌, ◌<◌}
use mathlib.Core.Path.{◌≡◌, refl, ap, sym, ◌∙◌}
use mathlib.Core.List.{List, [], ◌∷◌, map, flat_map}
use native.Mathlib.Omega.{arith}
use lib.ListN.{length, get_or, set, drop}
use Rattle.std.specs.Prelude.{Ok, Err}
use Rattle.std.specs.Simd.{first_chunks}
use Rattle.definitions.specs.Terms.{Ty, Environment}
use Rattle.definitions.specs.Layout.{type_bytes}
use Rattle.definitions.specs.Reader.{got, after, need, times, known}
use Rattle.definitions.specs.FirstFault.{argument}
use Rattle.exactness.proofs.Readers.{with'}
use Rattle.checker.specs.declared.faults.Fault.{Fault}
use Rattle.checker.specs.declared.faults.Refusal.TheVariants.{Untyped}
use Rattle.checker.specs.declared.env.Env.{Env}
use Rattle.checker.specs.Faults.{at as fault-at}
use Rattle.checker.specs.Shown.{Walk, forget, shown}
use Rattle.checker.specs.Laid.{Holds}
use Rattle.checker.specs.Entries.{Below, Held}
use Rattle.checker.specs.Readers.{NameIs}
use Rattle.checker.proofs.Lists.{held_at, holds-length, types-length}
use Rattle.checker.proofs.Filling.{Filled, fill-next}
use Rattle.checker.proofs.Positions.{named_by, gather-all}
use Rattle.checker.proofs.SameTypes.{ext-other, ext_same}
use Rattle.checker.proofs.ReaderLaws.{name-on, name-bad, name-value}

-- ---- positions of the type ext

-- an environment is as wide as what it holds
pub env-length : (env : Env) (Δ : Environment) → Held env Δ → env.width ≡ length Δ
env-length env Δ h = sym (holds-length env.types env.full env.width env.narrow Δ h)

module _ (s : List ℕ) (env : Env) (at : ℕ) where
  -- the answer for whatever types the environment holds
  abbrev pub Argument : Walk → Type 0
  Argument r = (Δ : Environment) → Held env Δ → forget (argument Δ at (drop at s)) ≡ shown s r

  pub argument-bad : {f : Fault} → NameIs s env.width at (Err f) → Argument (Err f)
  unfolding after shown
  argument-bad n Δ h = rw (name-bad Δ (env-length env Δ h) n)

  module _ {i : ℕ} (n : NameIs s env.width at (Ok i)) where
    pub argument-other : (get_or (get_or env.types i []) 0 0 ≡ 2 → ⊥) → Argument (Err (fault-at Untyped at))
    unfolding after need shown
    argument-other k Δ h =
        with' (name-on Δ (env-length env Δ h) n) λ w.
        let e : get_or env.types i [] ≡ type_bytes w.entry = held_at type_bytes env.types env.width Δ h i (name-value n).2 ∙ rw w.is in
        rw (w.reads, ext-other w.entry (λ q. k (rw e q)))

    pub argument-on : get_or (get_or env.types i []) 0 0 ≡ 2 → Argument (Ok (at + 1))
    unfolding after need shown
    argument-on k Δ h =
        with' (name-on Δ (env-length env Δ h) n) λ w.
        let e : get_or env.types i [] ≡ type_bytes w.entry = held_at type_bytes env.types env.width Δ h i (name-value n).2 ∙ rw w.is in
        rw (w.reads, ext_same w.entry (rw e at k))

-- ---- types by their bytes

-- two bytes each, they are the entries that the types give
chunks-types : (Γ : Environment) → first_chunks 2 (length Γ) (flat_map type_bytes Γ) ≡ map type_bytes Γ
unfolding flat_map
chunks-types [] = refl
chunks-types (t ∷ Γ) = ap (λ ts. type_bytes t ∷ ts) (chunks-types Γ)

pub types-chunks : (bytes : List ℕ) (Γ : Environment) → bytes ≡ flat_map type_bytes Γ → first_chunks 2 (length bytes / 2) bytes ≡ map type_bytes Γ
types-chunks bytes Γ e =
    let n : length bytes / 2 ≡ length Γ = omega (arith, ap length e, types-length Γ) in
    rw (n, e) (chunks-types Γ)

-- ---- entries by their positions

module _ (env : Env) (positions : List ℕ) (start : List (List ℕ)) (i : ℕ) (out : List (List ℕ)) (g : Filled (named_by positions env.types 0) start 0 i out) where
  -- a loop takes one entry more
  pub named-next : i < length out → Filled (named_by positions env.types 0) start 0 (i + 1) (set out i (get_or env.types (get_or positions i 0) []))
  named-next h = let z : 0 + i ≡ i = omega arith in rw z at (fill-next (named_by positions env.types 0) start i out h g)

  -- and leaves what the positions name
  pub named-all : length positions ≤ i → i ≤ length positions → Below positions 0 (length positions) env.width
      → (Δ : Environment) → Held env Δ → (l : List (ℕ × Ty)) → times (length positions) (known Δ) 0 positions ≡ got l (length positions) [] → Holds out (length positions) (map (λ p. p.1) l)
  named-all low high below Δ h l q = gather-all type_bytes positions env.types start 0 i out g (length positions) low high Δ env.width h below l _ _ q
