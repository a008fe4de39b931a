-- extern, new and switch with their clauses, in each case.
use Prim.Native.Nat.{ℕ, zero, suc, ◌+◌, ◌-◌, ◌≤◌, ◌<◌}
use mathlib.Core.Path.{◌≡◌, refl, ◌∙◌}
use mathlib.Core.List.{List, [], ◌∷◌, ◌++◌, map, append-nil}
use mathlib.Core.Logic.{∥∥₁_map}
use native.Mathlib.Omega.{arith}
use lib.ListN.{length, get_or, take, drop, replicate, length-drop, length-replicate, length-append}
use lib.Seq.{take-length}
use borrow.Author.Tests.{le-leb, lt-leb}
use Rattle.std.specs.Prelude.{Ok, Err}
use Rattle.definitions.specs.Limits.{widest}
use Rattle.definitions.specs.Terms.{Ty, cns, ext, Environment, Signature, Clauses, extern, new}
use Rattle.definitions.specs.Terms as Terms
use Rattle.definitions.specs.Typing.{All, arguments, gains}
use Rattle.definitions.specs.Layout.{named, type_bytes}
use Rattle.definitions.specs.Ends.{front, back}
use Rattle.definitions.specs.Reader.{Read, after, need, times, ◌>>=◌, ◌>>◌, give}
use Rattle.definitions.specs.FirstFault.{argument, clauses, fits, an_extern, a_new, a_switch, statement}
use Rattle.exactness.proofs.Readers.{with'}
use Rattle.checker.specs.declared.faults.Fault.{Fault}
use Rattle.checker.specs.declared.faults.Refusal.TheVariants.{Wide}
use Rattle.checker.specs.declared.codes.Operation.{Operation}
use Rattle.checker.specs.declared.codes.Operation.TheVariants.{Lit, Add, Sub, Mul, Ifz, Less, Exit}
use Rattle.checker.specs.declared.env.Env.{Env}
use Rattle.checker.specs.declared.region.Region.{Region}
use Rattle.checker.specs.Faults.{at as fault-at}
use Rattle.checker.specs.Codes.{Means, argument_count, clause_count, gaining}
use Rattle.checker.specs.Shown.{forget, shown, Walk}
use Rattle.checker.specs.Laid.{Holds, Known, SignatureAt, signature_bytes}
use Rattle.checker.specs.Entries.{Held, gained}
use Rattle.checker.specs.Readers.{OperationIs, operation_is, operation_not}
use Rattle.checker.specs.Regions.{Heads}
use Rattle.checker.specs.Forms.{EndsIs, GoesIs, goes, stops, NewIs, new_goes, new_stops, SwitchIs, switch_goes, switch_stops}
use Rattle.checker.specs.Statements.{ClausesAre, BareAre}
use Rattle.checker.proofs.Loops.{shown-bad, shown-on, forget-after}
use Rattle.checker.proofs.Lists.{holds-length, holds-front, map-drop, at_some}
use Rattle.checker.proofs.RegionLaws.{held-narrow}

-- ---- extern

means-arguments : (o : Operation) (op : Terms.Operation) → Means o op → length (arguments op) ≡ argument_count o
means-arguments Lit op m = rw m.1
means-arguments Add op m = rw m
means-arguments Sub op m = rw m
means-arguments Mul op m = rw m
means-arguments Ifz op m = rw m
means-arguments Less op m = rw m
means-arguments Exit op m = rw m

means-gains : (o : Operation) (op : Terms.Operation) → Means o op → gains op ≡ replicate (clause_count o) (gained (gaining o))
means-gains Lit op m = rw m.1
means-gains Add op m = rw m
means-gains Sub op m = rw m
means-gains Mul op m = rw m
means-gains Ifz op m = rw m
means-gains Less op m = rw m
means-gains Exit op m = rw m

replicate-all : (Γ ps Δ : Environment) (n : ℕ) → Γ ++ ps ++ [] ≡ Δ → All (λ ps. Γ ++ ps ++ [] ≡ Δ) (replicate n ps)
replicate-all Γ ps Δ zero e = tt
replicate-all Γ ps Δ (suc n) e = (e, replicate-all Γ ps Δ n e)

module _ {g : Region} {env : Env} {at : ℕ} where
  pub extern-unknown : {e : Fault} → OperationIs g.bytes.now (at + 1) (Err e) → EndsIs an_extern g env at (Err e)
  unfolding after shown
  extern-unknown (operation_not r) = record { is = λ Σ Θ Δ f a k w. rw r }

  module _ {n : ℕ} where
    pub extern-argument : {o : Operation} {next : ℕ} → OperationIs g.bytes.now (at + 1) (Ok (o, next)) → n ≡ argument_count o
        → (e : Fault) → ((Δ : Environment) → Held env Δ → forget (times n (argument Δ) next (drop next g.bytes.now)) ≡ shown g.bytes.now (Err e)) → EndsIs an_extern g env at (Err e)
    unfolding after shown
    extern-argument {o} (operation_is {next = next} op m r l i) z e t = record {
      is = λ Σ Θ Δ f a k w.
          rw (r, shown-bad g.bytes.now (times (length (arguments op)) (argument Δ) next (drop next g.bytes.now)) (Err e) e (rw (means-arguments o op m, ← z) (t Δ k)) refl);
    }

    pub extern-goes : {o : Operation} {next : ℕ} → OperationIs g.bytes.now (at + 1) (Ok (o, next)) → n ≡ argument_count o
        → (p : ℕ) → ((Δ : Environment) → Held env Δ → forget (times n (argument Δ) next (drop next g.bytes.now)) ≡ shown g.bytes.now (Ok p)) → next ≤ p
        → {gains many : _} → gains ≡ gaining o → many ≡ clause_count o → {r : Walk} → BareAre g env gains many p r → EndsIs an_extern g env at r
    unfolding after
    extern-goes {o} (operation_is {next = next} op m r l i) z p t h {gains} {many} v c y = record {
      is = λ Σ Θ Δ f a k w.
          with' (shown-on g.bytes.now (times (length (arguments op)) (argument Δ) next (drop next g.bytes.now)) (Ok p) p (rw (means-arguments o op m, ← z) (t Δ k)) refl) λ u.
          rw (r, u.1, means-gains o op m, forget-after _ (λ cs. extern op u.0 cs))
          (y.is Σ Θ Δ Δ _ 0 f a (rw v (replicate-all Δ (gained (gaining o)) (Δ ++ gained (gaining o)) (clause_count o) (append-nil (Δ ++ gained (gaining o)))))
          (length-replicate (clause_count o) (gained (gaining o)) ∙ rw c) k (omega arith));
    }

-- ---- parts of an environment

-- all but its last entries
pub front-held : (env first : Env) (n : ℕ) → n ≤ env.width → first.types ≡ env.types → first.width ≡ env.width - n → (Δ : Environment) → Held env Δ → Held first (front Δ n)
front-held env first n l e w Δ h = rw (e, w) (holds-front env.types env.full env.width env.narrow Δ h n l)

-- its last entries
pub back-held : (env : Env) (n : ℕ) {entries : List (List ℕ)} → entries ≡ take env.width env.types → (Δ : Environment) → Held env Δ
    → take (length entries - (env.width - n)) (drop (env.width - n) entries) ≡ map type_bytes (back Δ n)
back-held env n {entries} e Δ h =
    rw (← (length-drop (env.width - n) entries), take-length (drop (env.width - n) entries), e, h, holds-length env.types env.full env.width env.narrow Δ h) (map-drop type_bytes (env.width - n) Δ)

-- a signature that is known stands where the table says
pub signature-known : (g : Region) (i : ℕ) → i < length g.sigs.now → ∥ SignatureAt g.image.now (get_or g.sigs.now i 0) ∥₁
signature-known g i l = ∥∥₁_map g.signed (λ k. go k)
  where
    go : Known signature_bytes g.image.now g.sigs.now → SignatureAt g.image.now (get_or g.sigs.now i 0)
    go k = with' (at_some k.list i (omega (arith, k.placed.many))) λ w. record { signature = w.0; laid = k.placed.laid i w.0 w.1 }

module _ {g : Region} {env : Env} {at : ℕ} where
  -- ---- switch

  pub switch-refused : {e : Fault} → SwitchIs g env at (Err e) → EndsIs a_switch g env at (Err e)
  unfolding shown
  switch-refused (switch_stops t) = record { is = λ Σ Θ Δ f a k w. t Σ Θ Δ f a k }

  pub switch-facts : {sig : ℕ} → SwitchIs g env at (Ok sig) → (at + 3 ≤ length g.bytes.now) × (1 ≤ env.width) × ∥ SignatureAt g.image.now sig ∥₁
  switch-facts (switch_goes l i e n t) = (l, i, rw e (signature-known g (get_or g.bytes.now (at + 1) 0) n))

  pub switch-on : {sig : ℕ} → SwitchIs g env at (Ok sig) → {first : Env} → ((Δ : Environment) → Held env Δ → Held first (front Δ 1))
      → {r : Walk} → ClausesAre g first [] sig (at + 3) r → EndsIs a_switch g env at r
  switch-on (switch_goes l i e n t) v y = record {
    is = λ Σ Θ Δ f a k w.
        with' (t Σ Θ Δ f a k) λ m.
        m.2 ∙ y.is Σ Θ (front Δ 1) [] m.0 f a (v Δ k) refl m.1 (omega arith);
  }

  -- ---- new

  pub new-refused : {e : Fault} → NewIs g env at (Err e) → GoesIs a_new g env at (Err e)
  new-refused (new_stops t) = stops (λ Σ Θ Δ f a k w. t Σ Θ Δ f a k)

  pub new-facts : {sig captures : ℕ} → NewIs g env at (Ok (sig, captures)) → (at + 4 ≤ length g.bytes.now) × (captures ≤ env.width) × ∥ SignatureAt g.image.now sig ∥₁
  new-facts (new_goes l i e n t) = (l, i, rw e (signature-known g (get_or g.bytes.now (at + 1) 0) n))

-- ---- new with its remainder

module _ (g : Region) (env : Env) (at : ℕ) where
  -- the environment of the remainder
  abbrev rest : Environment → ℕ → Environment
  rest Δ captures = front Δ captures ++ (cns (get_or g.bytes.now (at + 1) 0) ∷ [])

  -- the clauses' reader
  abbrev read-clauses : List Signature → List Environment → Environment → ℕ → ℕ → Signature → Read Clauses
  read-clauses Σ Θ Δ f captures S = clauses Σ Θ (statement Σ Θ f) named g.depth [] (back Δ captures) 0 S (at + 4) (drop (at + 4) g.bytes.now)

  -- what it gives, and what follows it
  abbrev AfterClauses : List Signature → List Environment → Environment → ℕ → ℕ → Walk → Type 0
  AfterClauses Σ Θ Δ f captures x = (S : Signature) × (forget (read-clauses Σ Θ Δ f captures S) ≡ shown g.bytes.now x)
      × (forget (a_new Σ Θ (statement Σ Θ f) at g.depth Δ (at + 1) (drop (at + 1) g.bytes.now)) ≡ forget (after (read-clauses Σ Θ Δ f captures S) (λ cs.
      need (fits (rest Δ captures)) 5 at >> (statement Σ Θ f g.depth (rest Δ captures) >>= (λ u. give (new (get_or g.bytes.now (at + 1) 0) captures cs u))))))

-- the entries that are kept
kept-held : (env : Env) (captures : ℕ) → captures ≤ env.width → (Δ : Environment) → Held env Δ → Holds env.types (env.width - captures) (front Δ captures)
kept-held env captures l Δ h = holds-front env.types env.full env.width env.narrow Δ h captures l

module _ {g : Region} {env : Env} {at sig captures : ℕ} (h : NewIs g env at (Ok (sig, captures)))
    {before : Env} {behind : List (List ℕ)} (none : before.width ≡ 0) (captured : (Δ : Environment) → Held env Δ → behind ≡ map type_bytes (back Δ captures)) where
  after-clauses : (x : Walk) → ClausesAre g before behind sig (at + 4) x
      → (Σ : List Signature) (Θ : List Environment) (Δ : Environment) (f : ℕ) → Heads g Σ Θ → Held env Δ → length g.bytes.now - (at + 1) ≤ f
      → AfterClauses g env at Σ Θ Δ f captures x
  after-clauses x y Σ Θ Δ f a k w = go h captured y
    where
      go : {sig captures : ℕ} → NewIs g env at (Ok (sig, captures)) → ((Δ : Environment) → Held env Δ → behind ≡ map type_bytes (back Δ captures))
          → ClausesAre g before behind sig (at + 4) x → AfterClauses g env at Σ Θ Δ f captures x
      go (new_goes {captures = captures} l i e n t) v y =
          with' (t Σ Θ Δ f a k) λ m.
          (m.0, y.is Σ Θ [] (back Δ captures) m.0 f a (rw none) (v Δ k) m.1 (omega arith), m.2)

  pub new-clause : {e : Fault} → ClausesAre g before behind sig (at + 4) (Err e) → GoesIs a_new g env at (Err e)
  unfolding after
  new-clause {e} y = stops {e = e} (λ Σ Θ Δ f a k w.
      with' (after-clauses (Err e) y Σ Θ Δ f a k w) λ u.
      u.2 ∙ rw (shown-bad g.bytes.now _ (Err e) e u.1 refl))

  module _ {on : ℕ} (y : ClausesAre g before behind sig (at + 4) (Ok on)) where
    pub new-wide : env.width - captures ≡ 32 → GoesIs a_new g env at (Err (fault-at Wide at))
    unfolding after need
    new-wide full = stops {e = fault-at Wide at} (λ Σ Θ Δ f a k w.
        with' (after-clauses (Ok on) y Σ Θ Δ f a k w) λ u.
        with' (shown-on g.bytes.now _ (Ok on) on u.1 refl) λ m.
        let held = kept-held env captures (new-facts h).1 Δ k in
        let kept : length (front Δ captures) ≡ 32 = rw full at (holds-length env.types env.full (env.width - captures) (omega (arith, env.narrow)) (front Δ captures) held) in
        let wide : widest < length (rest g env at Δ captures) = omega (arith, length-append (front Δ captures) (cns (get_or g.bytes.now (at + 1) 0) ∷ []), kept) in
        u.2 ∙ rw (m.1, lt-leb (length (rest g env at Δ captures)) widest wide))

    pub new-on : at + 4 ≤ on → on ≤ length g.bytes.now → {next : Env}
        → ((Δ : Environment) (t : Ty) → Holds env.types (env.width - captures) Δ → type_bytes t ≡ type_bytes (cns (get_or g.bytes.now (at + 1) 0)) → Held next (Δ ++ (t ∷ [])))
        → GoesIs a_new g env at (Ok (on, next))
    unfolding after need
    new-on l i {next} renew = goes {on = on} {env' = next} (omega (arith, l)) i (λ Σ Θ Δ f a k w.
        with' (after-clauses (Ok on) y Σ Θ Δ f a k w) λ u.
        with' (shown-on g.bytes.now _ (Ok on) on u.1 refl) λ m.
        let held : Held next (rest g env at Δ captures) = renew (front Δ captures) (cns (get_or g.bytes.now (at + 1) 0)) (kept-held env captures (new-facts h).1 Δ k) refl in (
          rest g env at Δ captures,
          held,
          u.2 ∙ rw (
            m.1,
            le-leb (length (rest g env at Δ captures)) widest (held-narrow next (rest g env at Δ captures) held),
          ) (forget-after _ (λ v. new (get_or g.bytes.now (at + 1) 0) captures m.0 v)),
        ))
