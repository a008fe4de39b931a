-- Statements that follow one another in a region: what a form answers, its statement answers; what answers from a remainder on, answers from the statement on.
use Prim.Native.Nat.{ℕ, zero, suc, ◌+◌, ◌-◌, ◌≤◌, ◌<◌}
use mathlib.Core.Path.{◌≡◌, refl, ◌∙◌}
use mathlib.Core.List.{List}
use native.Mathlib.Omega.{arith}
use lib.ListN.{length, drop}
use Rattle.std.specs.Prelude.{Ok, Err}
use Rattle.definitions.specs.Terms.{Environment, Signature, Statement}
use Rattle.definitions.specs.Typing.{At}
use Rattle.definitions.specs.Reader.{Reader, fault, refused}
use Rattle.definitions.specs.FirstFault.{forms, statement, a_jump, a_substitute, an_extern, a_let, a_new, a_switch, an_invoke}
use Rattle.exactness.proofs.Readers.{with'}
use Rattle.checker.specs.declared.faults.Fault.{Fault}
use Rattle.checker.specs.declared.codes.Form.{Form}
use Rattle.checker.specs.declared.codes.Form.TheVariants.{Jump, Substitute, Extern, Let, New, Switch, Invoke}
use Rattle.checker.specs.declared.env.Env.{Env}
use Rattle.checker.specs.declared.region.Region.{Region}
use Rattle.checker.specs.Faults.{told}
use Rattle.checker.specs.Codes.{form_code}
use Rattle.checker.specs.Shown.{forget, shown, Walk}
use Rattle.checker.specs.Entries.{Held}
use Rattle.checker.specs.Readers.{FormIs, form_ended, form_unknown}
use Rattle.checker.specs.Regions.{Heads}
use Rattle.checker.specs.Forms.{Reading, EndsIs, GoesIs, goes, stops}
use Rattle.checker.specs.Statements.{StatementIs}
use Rattle.checker.proofs.ReaderLaws.{form-on, form-bad, form-inside}

-- the definitions' form of each code
abbrev pub reading : Form → Reading
reading Jump = a_jump
reading Substitute = a_substitute
reading Extern = an_extern
reading Let = a_let
reading New = a_new
reading Switch = a_switch
reading Invoke = an_invoke

reading-at : (Σ : List Signature) (Θ : List Environment) (inner : ℕ → Environment → Reader Statement) (form : Form) → At (forms Σ Θ inner) (form_code form) (reading form Σ Θ inner)
reading-at Σ Θ inner Jump = refl
reading-at Σ Θ inner Substitute = refl
reading-at Σ Θ inner Extern = refl
reading-at Σ Θ inner Let = refl
reading-at Σ Θ inner New = refl
reading-at Σ Θ inner Switch = refl
reading-at Σ Θ inner Invoke = refl

-- a statement with a remainder: where that stands, and its environment
pub record OnwardIs (g : Region) (env : Env) (p : ℕ) (rest : ℕ × Env) : Type 0 where
  pub later : p < rest.0
  pub inside : rest.0 ≤ length g.bytes.now
  pub is : (r : Walk) → StatementIs g rest.1 rest.0 r → StatementIs g env p r

module _ {g : Region} {env : Env} {p : ℕ} where
  pub form-refused : {e : Fault} → FormIs g.bytes.now p (Err e) → StatementIs g env p (Err e)
  unfolding shown
  form-refused {e} h = record { is = λ Σ Θ Δ f a k w. go Σ Θ Δ f w }
    where
      ended : {e : Fault} → FormIs g.bytes.now p (Err e) → length g.bytes.now ≤ p → told e ≡ fault 3 p
      ended (form_ended n) l = refl
      ended (form_unknown n m) l = absurd (omega arith)

      go : (Σ : List Signature) (Θ : List Environment) (Δ : Environment) (f : ℕ) → length g.bytes.now - p ≤ f
          → forget (statement Σ Θ f g.depth Δ p (drop p g.bytes.now)) ≡ refused (told e)
      go Σ Θ Δ zero w = rw (ended h (omega arith))
      go Σ Θ Δ (suc f) w = rw (form-bad Σ Θ (statement Σ Θ f) g.depth Δ h)

  module _ (form : Form) {f : Form} (h : FormIs g.bytes.now p (Ok f)) (e : f ≡ form) where
    -- the form that a code stands for
    coded : (r : Walk)
        → ((Σ : List Signature) (Θ : List Environment) (Δ : Environment) (k : ℕ) → Heads g Σ Θ → Held env Δ → length g.bytes.now - (p + 1) ≤ k
        → forget (reading form Σ Θ (statement Σ Θ k) p g.depth Δ (p + 1) (drop (p + 1) g.bytes.now)) ≡ shown g.bytes.now r)
        → StatementIs g env p r
    coded r t = record { is = λ Σ Θ Δ k a b w. go Σ Θ Δ k a b w }
      where
        go : (Σ : List Signature) (Θ : List Environment) (Δ : Environment) (k : ℕ) → Heads g Σ Θ → Held env Δ → length g.bytes.now - p ≤ k
            → forget (statement Σ Θ k g.depth Δ p (drop p g.bytes.now)) ≡ shown g.bytes.now r
        go Σ Θ Δ zero a b w = absurd (omega (arith, form-inside h))
        go Σ Θ Δ (suc k) a b w = rw (form-on Σ Θ (statement Σ Θ k) g.depth Δ (rw e at h) _ (reading-at Σ Θ (statement Σ Θ k) form)) (t Σ Θ Δ k a b (omega (arith, form-inside h)))

    pub form-ends : {r : Walk} → EndsIs (reading form) g env p r → StatementIs g env p r
    form-ends {r} t = coded r t.is

    pub form-stops : {u : Fault} → GoesIs (reading form) g env p (Err u) → StatementIs g env p (Err u)
    unfolding shown
    form-stops (stops {e = u} t) = coded (Err u) t

    pub form-goes : {rest : ℕ × Env} → GoesIs (reading form) g env p (Ok rest) → OnwardIs g env p rest
    form-goes (goes {on = on} {env' = next} l i t) = record {
      later = l;
      inside = i;
      is = λ r u. coded r (λ Σ Θ Δ k a b w. with' (t Σ Θ Δ k a b w) λ m. m.2 ∙ u.is Σ Θ m.0 k a m.1 (omega arith));
    }
