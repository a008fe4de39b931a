-- What the walks over the forms of statements answer: the reader's answer, at every bound that is at least the bytes left.
use Rattle.std.specs.Prelude.{ℕ, ◌+◌, ◌-◌, ◌≤◌, ◌<◌, ◌≡◌, List, [], ◌∷◌, ◌++◌, length, get_or, drop, Result, Ok, Err}
use Rattle.definitions.specs.Terms.{cns, Environment, Signature, Statement, new}
use Rattle.definitions.specs.Layout.{named}
use Rattle.definitions.specs.Ends.{front, back}
use Rattle.definitions.specs.Reader.{refused, Reader, after, need, ◌>>=◌, ◌>>◌, give}
use Rattle.definitions.specs.FirstFault.{Form, statement, clauses, fits, a_new, a_switch}
use Rattle.checker.specs.declared.faults.Fault.{Fault}
use Rattle.checker.specs.declared.env.Env.{Env}
use Rattle.checker.specs.declared.region.Region.{Region}
use Rattle.checker.specs.Faults.{told}
use Rattle.checker.specs.Shown.{forget, shown, Walk}
use Rattle.checker.specs.Entries.{Held}
use Rattle.checker.specs.Regions.{Heads}
use Rattle.checker.specs.Laid.{Laid, signature_bytes}

-- A form of the definitions: what reads the statements inside it, and then what the form reads behind its code.
abbrev pub Reading : Type 0
Reading = List Signature → List Environment → (ℕ → Environment → Reader Statement) → Form

-- A form with no remainder.
pub record EndsIs (form : Reading) (g : Region) (env : Env) (at : ℕ) (r : Walk) : Type 0 where
  pub is : (Σ : List Signature) (Θ : List Environment) (Δ : Environment) (f : ℕ) → Heads g Σ Θ → Held env Δ → length g.bytes.now - (at + 1) ≤ f
      → forget (form Σ Θ (statement Σ Θ f) at g.depth Δ (at + 1) (drop (at + 1) g.bytes.now)) ≡ shown g.bytes.now r

-- A form with a remainder: where that stands, and the environment of it.
pub data GoesIs (form : Reading) (g : Region) (env : Env) (at : ℕ) : Result (ℕ × Env) Fault → Type 0 where
  goes : {on : ℕ} {env' : Env} → at < on → on ≤ length g.bytes.now
      → ((Σ : List Signature) (Θ : List Environment) (Δ : Environment) (f : ℕ) → Heads g Σ Θ → Held env Δ → length g.bytes.now - (at + 1) ≤ f
      → (Γ : Environment) × Held env' Γ × (forget (form Σ Θ (statement Σ Θ f) at g.depth Δ (at + 1) (drop (at + 1) g.bytes.now)) ≡ forget (statement Σ Θ f g.depth Γ on (drop on g.bytes.now))))
      → GoesIs form g env at (Ok (on, env'))
  stops : {e : Fault}
      → ((Σ : List Signature) (Θ : List Environment) (Δ : Environment) (f : ℕ) → Heads g Σ Θ → Held env Δ → length g.bytes.now - (at + 1) ≤ f
      → forget (form Σ Θ (statement Σ Θ f) at g.depth Δ (at + 1) (drop (at + 1) g.bytes.now)) ≡ refused (told e))
      → GoesIs form g env at (Err e)

-- What a walk over a form with a remainder answers and leaves: where the remainder stands, and the environment of it.
abbrev pub leaving : Env → Walk → Result (ℕ × Env) Fault
leaving env (Ok on) = Ok (on, env)
leaving env (Err e) = Err e

-- new, up to its clauses: the offset of its signature, and how many entries it captures
pub data NewIs (g : Region) (env : Env) (at : ℕ) : Result (ℕ × ℕ) Fault → Type 0 where
  new_goes : {sig captures : ℕ} → at + 4 ≤ length g.bytes.now → captures ≤ env.width → sig ≡ get_or g.sigs.now (get_or g.bytes.now (at + 1) 0) 0 → get_or g.bytes.now (at + 1) 0 < length g.sigs.now
      → ((Σ : List Signature) (Θ : List Environment) (Δ : Environment) (f : ℕ) → Heads g Σ Θ → Held env Δ
      → (S : Signature) × Laid g.image.now sig (signature_bytes S)
      × (forget (a_new Σ Θ (statement Σ Θ f) at g.depth Δ (at + 1) (drop (at + 1) g.bytes.now))
      ≡ forget (after (clauses Σ Θ (statement Σ Θ f) named g.depth [] (back Δ captures) 0 S (at + 4) (drop (at + 4) g.bytes.now)) (λ cs.
      need (fits (front Δ captures ++ (cns (get_or g.bytes.now (at + 1) 0) ∷ []))) 5 at
      >> (statement Σ Θ f g.depth (front Δ captures ++ (cns (get_or g.bytes.now (at + 1) 0) ∷ [])) >>= (λ u. give (new (get_or g.bytes.now (at + 1) 0) captures cs u)))))))
      → NewIs g env at (Ok (sig, captures))
  new_stops : {e : Fault}
      → ((Σ : List Signature) (Θ : List Environment) (Δ : Environment) (f : ℕ) → Heads g Σ Θ → Held env Δ
      → forget (a_new Σ Θ (statement Σ Θ f) at g.depth Δ (at + 1) (drop (at + 1) g.bytes.now)) ≡ refused (told e))
      → NewIs g env at (Err e)

-- switch, up to its clauses: the offset of its signature
pub data SwitchIs (g : Region) (env : Env) (at : ℕ) : Walk → Type 0 where
  switch_goes : {sig : ℕ} → at + 3 ≤ length g.bytes.now → 1 ≤ env.width → sig ≡ get_or g.sigs.now (get_or g.bytes.now (at + 1) 0) 0 → get_or g.bytes.now (at + 1) 0 < length g.sigs.now
      → ((Σ : List Signature) (Θ : List Environment) (Δ : Environment) (f : ℕ) → Heads g Σ Θ → Held env Δ
      → (S : Signature) × Laid g.image.now sig (signature_bytes S)
      × (forget (a_switch Σ Θ (statement Σ Θ f) at g.depth Δ (at + 1) (drop (at + 1) g.bytes.now))
      ≡ forget (clauses Σ Θ (statement Σ Θ f) named g.depth (front Δ 1) [] 0 S (at + 3) (drop (at + 3) g.bytes.now))))
      → SwitchIs g env at (Ok sig)
  switch_stops : {e : Fault}
      → ((Σ : List Signature) (Θ : List Environment) (Δ : Environment) (f : ℕ) → Heads g Σ Θ → Held env Δ
      → forget (a_switch Σ Θ (statement Σ Θ f) at g.depth Δ (at + 1) (drop (at + 1) g.bytes.now)) ≡ refused (told e))
      → SwitchIs g env at (Err e)
