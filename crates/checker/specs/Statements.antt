-- What the walks over statements, clauses and regions answer: the reader's answer, at every bound that is at least the bytes left.
use Rattle.std.specs.Prelude.{ℕ, ◌-◌, ◌≤◌, ◌≡◌, length, drop, Bool}
use mathlib.Core.List.{List, [], ◌++◌, map, flat_map}
use Rattle.definitions.specs.Terms.{Environment, Signature}
use Rattle.definitions.specs.Layout.{named, bare, type_bytes}
use Rattle.definitions.specs.Reader.{in_region}
use Rattle.definitions.specs.FirstFault.{clauses, statement}
use Rattle.definitions.specs.Typing.{All}
use Rattle.checker.specs.declared.env.Env.{Env}
use Rattle.checker.specs.declared.region.Region.{Region}
use Rattle.checker.specs.Shown.{forget, shown, Walk}
use Rattle.checker.specs.Entries.{Held, gained}
use Rattle.checker.specs.Regions.{Heads}
use Rattle.checker.specs.Laid.{Laid, parameters_bytes, signature_bytes}

-- a statement at an offset of a region
pub record StatementIs (g : Region) (env : Env) (at : ℕ) (r : Walk) : Type 0 where
  pub is : (Σ : List Signature) (Θ : List Environment) (Δ : Environment) (f : ℕ) → Heads g Σ Θ → Held env Δ → length g.bytes.now - at ≤ f
      → forget (statement Σ Θ f g.depth Δ at (drop at g.bytes.now)) ≡ shown g.bytes.now r

-- a region with one statement, so many clauses deep, of which the length field stands at an offset
pub record RegionIs (g : Region) (env : Env) (depth at : ℕ) (r : Walk) : Type 0 where
  pub is : (Σ : List Signature) (Θ : List Environment) (Δ : Environment) (f : ℕ) → Heads g Σ Θ → Held env Δ → length g.bytes.now - at ≤ f
      → forget (in_region (statement Σ Θ f depth Δ) at (drop at g.bytes.now)) ≡ shown g.bytes.now r

-- named clauses from symbol i on, `many` of them, the parameter lists from an offset on: each clause starts with the entries of `before`, the parameters, and the entries `behind`
pub record ClausesFrom (g : Region) (before : Env) (behind : List (List ℕ)) (many i list at : ℕ) (r : Walk) : Type 0 where
  pub is : (Σ : List Signature) (Θ : List Environment) (Γ Γ' : Environment) (S : Signature) (f : ℕ) → Heads g Σ Θ
      → Held before Γ → behind ≡ map type_bytes Γ' → Laid g.image.now list (flat_map parameters_bytes S) → length S ≡ many → length g.bytes.now - at ≤ f
      → forget (clauses Σ Θ (statement Σ Θ f) named g.depth Γ Γ' i S at (drop at g.bytes.now)) ≡ shown g.bytes.now r

-- the named clauses of the signature at an offset
pub record ClausesAre (g : Region) (before : Env) (behind : List (List ℕ)) (sig at : ℕ) (r : Walk) : Type 0 where
  pub is : (Σ : List Signature) (Θ : List Environment) (Γ Γ' : Environment) (S : Signature) (f : ℕ) → Heads g Σ Θ
      → Held before Γ → behind ≡ map type_bytes Γ' → Laid g.image.now sig (signature_bytes S) → length g.bytes.now - at ≤ f
      → forget (clauses Σ Θ (statement Σ Θ f) named g.depth Γ Γ' 0 S at (drop at g.bytes.now)) ≡ shown g.bytes.now r

-- bare clauses, `many` of them, that all start with one environment, and with an integer more where it is gained
pub record BareAre (g : Region) (env : Env) (gains : Bool) (many at : ℕ) (r : Walk) : Type 0 where
  pub is : (Σ : List Signature) (Θ : List Environment) (Γ Δ : Environment) (S : Signature) (i f : ℕ) → Heads g Σ Θ
      → All (λ ps. Γ ++ ps ++ [] ≡ Δ ++ gained gains) S → length S ≡ many → Held env Δ → length g.bytes.now - at ≤ f
      → forget (clauses Σ Θ (statement Σ Θ f) bare g.depth Γ [] i S at (drop at g.bytes.now)) ≡ shown g.bytes.now r
