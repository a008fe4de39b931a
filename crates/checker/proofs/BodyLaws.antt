-- The bodies, one for each label. Assumes nothing.
use Prim.Native.Nat.{ℕ, suc, ◌+◌, ◌-◌, ◌≤◌, ◌<◌}
use mathlib.Core.Path.{◌≡◌, refl}
use mathlib.Core.List.{List, [], ◌∷◌, ◌++◌, map, append-nil}
use native.Mathlib.Numerals.{add-one}
use native.Mathlib.Omega.{arith}
use lib.ListN.{length, get_or, drop}
use Rattle.std.proofs.Math.ListN.{drop_of_length-le}
use Rattle.std.specs.Prelude.{Ok, Err}
use Rattle.definitions.specs.Terms.{Environment, Signature}
use Rattle.definitions.specs.Typing.{At}
use Rattle.definitions.specs.Layout.{type_bytes}
use Rattle.definitions.specs.Reader.{in_region}
use Rattle.definitions.specs.FirstFault.{statement, bodies}
use Rattle.checker.specs.declared.env.Env.{Env}
use Rattle.checker.specs.declared.region.Region.{Region}
use Rattle.checker.specs.declared.faults.Fault.{Fault}
use Rattle.checker.specs.Shown.{Walk, forget, shown}
use Rattle.checker.specs.Laid.{Laid, Placed, parameters_bytes}
use Rattle.checker.specs.Entries.{Held}
use Rattle.checker.specs.Regions.{Heads}
use Rattle.checker.specs.Statements.{RegionIs}
use Rattle.checker.specs.Bodies.{LabelsFit, BodiesIs}
use Rattle.checker.proofs.Loops.{forget-after, after-bad, after_on}
use Rattle.checker.proofs.PlaceLaws.{entry}
use Rattle.checker.proofs.ClauseLaws.{FieldsAt}

-- ---- the environment of a label

-- a label's list has no more types than an environment holds
pub label-fits : (image labels : List ℕ) (l : ℕ) → l < length labels → LabelsFit image labels → get_or image (get_or labels l 0) 0 ≤ 32
label-fits image labels l h f = f.fit l h

-- types behind an empty environment are those of the list that stands at an offset
pub label-held : {image : List ℕ} {list : ℕ} {types : List (List ℕ)} (none env : Env) → none.width ≡ 0 → FieldsAt image list types → {more : List (List ℕ)} → more ≡ []
    → ((Δ Γ Λ : Environment) → Held none Δ → types ≡ map type_bytes Γ → more ≡ map type_bytes Λ → Held env (Δ ++ Γ ++ Λ)) → (Γ : Environment) → Laid image list (parameters_bytes Γ) → Held env Γ
label-held none env e t m held Γ l = rw (append-nil Γ) at (held [] Γ [] (rw e refl) (t Γ l) m)

-- ---- the loop

-- the answer of the bodies of the labels from l on, which stand from p on; from label 0 on these are all the bodies
pub record BodiesFrom (g : Region) (l p : ℕ) (r : Walk) : Type 0 where
  pub is : (Σ : List Signature) (Θ : List Environment) (f : ℕ) → g.depth ≡ 0 → Heads g Σ Θ → length g.bytes.now - p ≤ f
      → forget (bodies Σ Θ f (drop l Θ) p (drop p g.bytes.now)) ≡ shown g.bytes.now r

module _ (g : Region) where
  pub bodies-whole : (at : ℕ) (r : Walk) → BodiesFrom g 0 at r → BodiesIs g at r
  bodies-whole at r b = record { is = b.is }

  -- no label is left
  pub bodies-none : (l p : ℕ) → length g.labels.now ≤ l → BodiesFrom g l p (Ok p)
  unfolding shown
  bodies-none l p h = record { is = λ Σ Θ f d w b. rw (drop_of_length-le Θ {i = l} (omega (arith, w.labelled.many))) }

  module _ (l p : ℕ) (below : l < length g.labels.now) (env : Env) (held : (Γ : Environment) → Laid g.image.now (get_or g.labels.now l 0) (parameters_bytes Γ) → Held env Γ) where
    -- the label's types are in the environment
    held-here : (Θ : List Environment) (Γ : Environment) → Placed parameters_bytes g.image.now g.labels.now Θ → At Θ l Γ → Held env Γ
    held-here Θ Γ w a = held Γ (w.laid l Γ a)

    -- the next body's region is bad, or it goes on to the others
    pub bodies-bad : (e : Fault) → RegionIs g env g.depth p (Err e) → (r : Walk) → r ≡ Err e → BodiesFrom g l p r
    bodies-bad e h r i = record {
      is = λ Σ Θ f d w b.
          let (Γ, a, n) = entry Θ l (omega (arith, w.labelled.many)) in
          rw n (after-bad (in_region (statement Σ Θ f 0 Γ) p (drop p g.bytes.now)) _ g.bytes.now e (rw d at (h.is Σ Θ Γ f w (held-here Θ Γ w.labelled a) b)) r i);
    }

    pub bodies-on : (e : ℕ) → RegionIs g env g.depth p (Ok e) → p ≤ e → (r : Walk) → BodiesFrom g (l + 1) e r → BodiesFrom g l p r
    bodies-on e h m r t = record {
      is = λ Σ Θ f d w b.
          let (Γ, a, n) = entry Θ l (omega (arith, w.labelled.many)) in
          rw n (after_on (in_region (statement Σ Θ f 0 Γ) p (drop p g.bytes.now)) _ g.bytes.now e (rw d at (h.is Σ Θ Γ f w (held-here Θ Γ w.labelled a) b)) r λ s.
          rw (forget-after (bodies Σ Θ f (drop (suc l) Θ) e (drop e g.bytes.now)) (λ ss. s ∷ ss)) (rw (add-one l) at (t.is Σ Θ f d w (omega arith))));
    }
