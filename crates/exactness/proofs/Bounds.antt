-- The bound with which an image is read does not matter, from the image's length on: each statement takes a byte, its code, so no more stand one in or behind another than there are bytes. Assumes nothing.
use Prim.Native.Nat.{ℕ, zero, suc, ◌+◌, ◌≤◌}
use mathlib.Core.Path.{◌≡◌, refl}
use mathlib.Core.List.{List, [], ◌∷◌, ◌++◌, map, Forall₂}
use mathlib.Core.Bool.{Bool, true, false}
use native.Mathlib.Omega.{arith}
use lib.ListN.{length, get_elem?, take, length-take}
use lib.Dec.{leb}
use Rattle.definitions.specs.Limits.{version, widest}
use Rattle.definitions.specs.Terms.{prd, cns, Environment, Signature, Statement}
use Rattle.definitions.specs.Typing.{arguments, gains}
use Rattle.definitions.specs.Layout.{Head, named, bare}
use Rattle.definitions.specs.Ends.{front, back}
use Rattle.definitions.specs.Reader.{Read, got, refused, Reader, after, ◌>>=◌, here, need, the, byte, item, filling, in_region, times, count, known, expected}
use Rattle.definitions.specs.FirstFault as F
use Rattle.definitions.specs.FirstFault.{Form, operation, argument, head, clauses, forms, statement, bodies, program, envelope, read_image}
use Rattle.exactness.proofs.Faults.{Held, Inside, byte_inside, item-inside, times-inside, count-inside, known-inside, expected-inside, region-inside, operation-inside, argument-inside, head-inside, clauses-inside, statement-inside, signatures-inside, labels-inside}

-- Two readers that give the same of at most L bytes.
abbrev Same : ℕ → {A : Type 0} → Reader A → Reader A → Type 0
Same L m m' = (at : ℕ) (xs : List ℕ) → length xs ≤ L → m at xs ≡ m' at xs

module _ (L : ℕ) where
  -- a reader that gets at most L bytes leaves at most L
  abbrev Shrinks : {A : Type 0} → Reader A → Type 0
  Shrinks m = (E : ℕ) → Inside E L m

  -- ---- each kind of line of a `do` block

  -- two readers that give the same, then two that give the same of what is left
  bind : {A B : Type 0} (m m' : Reader A) (f g : A → Reader B) → Same L m m' → Shrinks m' → ((a : A) → Same L (f a) (g a)) → Same L (◌>>=◌ m f) (◌>>=◌ m' g)
  unfolding after
  bind m m' f g e s h at xs l = rw (e at xs l) (go (m' at xs) (s (at + length xs) at xs (omega arith)))
    where
      go : (x : Read _) → Held (at + length xs) L x → after x f ≡ after x g
      go (got a at ys) b = h a at ys b.1
      go (refused x) b = refl

  -- one reader, then two that give the same of what is left
  then : {A B : Type 0} (m : Reader A) (f g : A → Reader B) → Shrinks m → ((a : A) → Same L (f a) (g a)) → Same L (◌>>=◌ m f) (◌>>=◌ m g)
  then m f g = bind m m f g (λ at xs l. refl)

  -- two that give the same, then one
  last : {A B : Type 0} (m m' : Reader A) (f : A → Reader B) → Same L m m' → Same L (◌>>=◌ m f) (◌>>=◌ m' f)
  last m m' f e at xs l = rw (e at xs l)

  -- where a reader stands; a test
  located : {A : Type 0} (f g : ℕ → Reader A) → ((o : ℕ) → Same L (f o) (g o)) → Same L (◌>>=◌ here f) (◌>>=◌ here g)
  unfolding after
  located f g h at xs l = h at at xs l

  tested : {A : Type 0} (t : Bool) (n o : ℕ) (f g : Unit {0} → Reader A) → Same L (f tt) (g tt) → Same L (◌>>=◌ (need t n o) f) (◌>>=◌ (need t n o) g)
  unfolding after need
  tested true n o f g h at xs l = h at xs l
  tested false n o f g h at xs l = refl

  -- a region's bytes are no more than those that are left
  region-same : {A : Type 0} (m m' : Reader A) → Same L m m' → Same L (in_region m) (in_region m')
  region-same m m' e =
      located _ _ λ o.
      then (item 2) _ _ (λ E. item-inside E L 2) λ n at xs l.
      tested (leb n (length xs)) 3 o (λ _. filling n m) (λ _. filling n m') (λ at xs l. rw (e at (take n xs) (rw length-take (omega arith)))) at xs l

  -- an entry of two tables of forms
  listed : (o d : ℕ) (Δ : Environment) (l l' : List Form) (c : ℕ) → Forall₂ (λ f g. Same L (f o d Δ) (g o d Δ)) l l' → Same L (◌>>=◌ (the (get_elem? l c) 6 o) (λ form. form o d Δ)) (◌>>=◌ (the (get_elem? l' c) 6 o) (λ form. form o d Δ))
  unfolding after the
  listed o d Δ l l' c Forall₂.nil = λ at xs h. refl
  listed o d Δ l l' zero (Forall₂.cons h hs) = h
  listed o d Δ l l' (suc c) (Forall₂.cons h hs) = listed o d Δ _ _ c hs

  -- ---- statements

  module _ (Σ : List Signature) (Θ : List Environment) (r r' : ℕ → Environment → Reader Statement) (e : (d : ℕ) (Δ : Environment) → Same L (r d Δ) (r' d Δ)) (s : (d : ℕ) (Δ : Environment) → Shrinks (r' d Δ)) where
    -- a statement, and then what reads none
    again : {A : Type 0} (d : ℕ) (Δ : Environment) (f : Statement → Reader A) → Same L (◌>>=◌ (r d Δ) f) (◌>>=◌ (r' d Δ) f)
    again d Δ f = last (r d Δ) (r' d Δ) f (e d Δ)

    -- clauses: a statement in each
    clauses-same : (h : Head) (d : ℕ) (before behind : Environment) (i : ℕ) (S : Signature) → Same L (clauses Σ Θ r h d before behind i S) (clauses Σ Θ r' h d before behind i S)
    clauses-same h d before behind i [] = λ at xs l. refl
    clauses-same h d before behind i (ps ∷ S) =
        located _ _ λ o.
        then (head h i) _ _ (λ E. head-inside E L h i) λ _.
        tested _ 5 o _ _ (
        tested _ 10 o _ _ (
        bind (in_region (r (suc d) (before ++ ps ++ behind))) (in_region (r' (suc d) (before ++ ps ++ behind))) _ _ (region-same _ _ (e (suc d) (before ++ ps ++ behind))) (λ E. region-inside E L (r' (suc d) (before ++ ps ++ behind)) (s (suc d) (before ++ ps ++ behind) E)) λ _.
        last (clauses Σ Θ r h d before behind (suc i) S) (clauses Σ Θ r' h d before behind (suc i) S) _ (clauses-same h d before behind (suc i) S)))

    -- two forms that give the same
    abbrev FormSame : Form → Form → Type 0
    FormSame f g = (o d : ℕ) (Δ : Environment) → Same L (f o d Δ) (g o d Δ)

    substitute-same : FormSame (F.a_substitute Σ Θ r) (F.a_substitute Σ Θ r')
    substitute-same o d Δ =
        then (count 0 widest) _ _ (λ E. count-inside E L 0 widest) λ n.
        then (times n (known Δ)) _ _ (λ E. times-inside E L n (known Δ) (known-inside E L Δ)) λ ps.
        again d (map (λ p. p.1) ps) _

    extern-same : FormSame (F.an_extern Σ Θ r) (F.an_extern Σ Θ r')
    extern-same o d Δ =
        then operation _ _ (λ E. operation-inside E L) λ op.
        then (times (length (arguments op)) (argument Δ)) _ _ (λ E. times-inside E L (length (arguments op)) (argument Δ) (argument-inside E L Δ)) λ ps.
        last (clauses Σ Θ r bare d Δ [] 0 (gains op)) (clauses Σ Θ r' bare d Δ [] 0 (gains op)) _ (clauses-same bare d Δ [] 0 (gains op))

    let-same : FormSame (F.a_let Σ Θ r) (F.a_let Σ Θ r')
    let-same o d Δ =
        then (known Σ) _ _ (λ E. known-inside E L Σ) λ t.
        then (known t.1) _ _ (λ E. known-inside E L t.1) λ m.
        tested _ 8 o _ _ (
        tested _ 5 o _ _ (
        again d (front Δ (length m.1) ++ (prd t.0 ∷ [])) _))

    new-same : FormSame (F.a_new Σ Θ r) (F.a_new Σ Θ r')
    new-same o d Δ =
        then (known Σ) _ _ (λ E. known-inside E L Σ) λ t.
        located _ _ λ at.
        then byte _ _ (λ E. byte_inside E L) λ c.
        tested _ 8 at _ _ (
        then (expected (length t.1)) _ _ (λ E. expected-inside E L (length t.1)) λ _.
        bind (clauses Σ Θ r named d [] (back Δ c) 0 t.1) (clauses Σ Θ r' named d [] (back Δ c) 0 t.1) _ _ (clauses-same named d [] (back Δ c) 0 t.1) (λ E. clauses-inside E L Σ Θ r' (λ d Δ. s d Δ E) named d [] (back Δ c) 0 t.1) λ cs.
        tested _ 5 o _ _ (
        again d (front Δ c ++ (cns t.0 ∷ [])) _))

    switch-same : FormSame (F.a_switch Σ Θ r) (F.a_switch Σ Θ r')
    switch-same o d Δ =
        then (known Σ) _ _ (λ E. known-inside E L Σ) λ t.
        tested _ 8 o _ _ (
        then (expected (length t.1)) _ _ (λ E. expected-inside E L (length t.1)) λ _.
        last (clauses Σ Θ r named d (front Δ 1) [] 0 t.1) (clauses Σ Θ r' named d (front Δ 1) [] 0 t.1) _ (clauses-same named d (front Δ 1) [] 0 t.1))

    form-same : (o d : ℕ) (Δ : Environment) → Forall₂ (λ f g. Same L (f o d Δ) (g o d Δ)) (forms Σ Θ r) (forms Σ Θ r')
    form-same o d Δ =
        Forall₂.cons (λ at xs l. refl) (Forall₂.cons (substitute-same o d Δ) (Forall₂.cons (extern-same o d Δ) (Forall₂.cons (let-same o d Δ) (Forall₂.cons (new-same o d Δ) (Forall₂.cons (switch-same o d Δ) (Forall₂.cons (λ at xs l. refl) Forall₂.nil))))))

-- of no bytes, whatever the bound, no code is read; behind a code there is a byte less to read
statement-same : (Σ : List Signature) (Θ : List Environment) (L k k' : ℕ) → L ≤ k → L ≤ k' → (d : ℕ) (Δ : Environment) → Same L (statement Σ Θ k d Δ) (statement Σ Θ k' d Δ)
unfolding after byte
statement-same Σ Θ L zero zero h h' d Δ at xs l = refl
statement-same Σ Θ L zero (suc k') h h' d Δ at [] l = refl
statement-same Σ Θ L zero (suc k') h h' d Δ at (x ∷ xs) l = absurd (omega arith)
statement-same Σ Θ L (suc k) zero h h' d Δ at [] l = refl
statement-same Σ Θ L (suc k) zero h h' d Δ at (x ∷ xs) l = absurd (omega arith)
statement-same Σ Θ L (suc k) (suc k') h h' d Δ at [] l = refl
statement-same Σ Θ L (suc k) (suc k') h h' d Δ at (x ∷ xs) l =
    let n : ℕ = length xs in
    listed n at d Δ (forms Σ Θ (statement Σ Θ k)) (forms Σ Θ (statement Σ Θ k')) x (form-same n Σ Θ (statement Σ Θ k) (statement Σ Θ k') (statement-same Σ Θ n k k' (omega arith) (omega arith)) (λ d Δ E. statement-inside E n Σ Θ k' d Δ) at d Δ) (suc at) xs (omega arith)

-- ---- images

-- bodies, what follows the length field, and whole images: with two bounds, of which neither is below the bytes
module _ (L k k' : ℕ) (h : L ≤ k) (h' : L ≤ k') where
  bodies-same : (Σ : List Signature) (Θ Δs : List Environment) → Same L (bodies Σ Θ k Δs) (bodies Σ Θ k' Δs)
  bodies-same Σ Θ [] = λ at xs l. refl
  bodies-same Σ Θ (Δ ∷ Δs) =
      bind L (in_region (statement Σ Θ k 0 Δ)) (in_region (statement Σ Θ k' 0 Δ)) _ _ (region-same L _ _ (statement-same Σ Θ L k k' h h' 0 Δ)) (λ E. region-inside E L (statement Σ Θ k' 0 Δ) (statement-inside E L Σ Θ k' 0 Δ)) λ _.
      last L (bodies Σ Θ k Δs) (bodies Σ Θ k' Δs) _ (bodies-same Σ Θ Δs)

  program-same : Same L (program k) (program k')
  program-same =
      then L F.signatures _ _ (λ E. signatures-inside E L) λ Σ.
      then L (F.labels (length Σ)) _ _ (λ E. labels-inside E L (length Σ)) λ Θ.
      last L (bodies Σ Θ k Θ) (bodies Σ Θ k' Θ) _ (bodies-same Σ Θ Θ)

  envelope-same : (v size : ℕ) → Same L (envelope v size (program k)) (envelope v size (program k'))
  envelope-same v size =
      tested L _ 1 0 _ _ (
      then L byte _ _ (λ E. byte_inside E L) λ b.
      tested L _ 2 0 _ _ (
      then L (item 2) _ _ (λ E. item-inside E L 2) λ n.
      tested L _ 1 1 _ _ program-same))

-- reading with any bound from the image's length on gives the same
pub any-bound : (image : List ℕ) (k : ℕ) → length image ≤ k → envelope version (length image) (program k) 0 image ≡ read_image image
any-bound image k h = envelope-same (length image) k (length image) h (omega arith) version (length image) 0 image (omega arith)
