-- From a walk's answer to the reader's; one reader after another, and the same again and again. Assumes nothing.
use Prim.Native.Nat.{ℕ}
use mathlib.Core.Path.{◌≡◌, refl}
use mathlib.Core.List.{List, ◌∷◌}
use native.Mathlib.Omega.{arith}
use lib.ListN.{drop}
use Rattle.std.specs.Prelude.{Ok, Err}
use Rattle.definitions.specs.Reader.{Read, got, refused, Reader, after, times}
use Rattle.checker.specs.declared.faults.Fault.{Fault}
use Rattle.checker.specs.Faults.{told}
use Rattle.checker.specs.Shown.{Walk, forget, shown}
use Rattle.checker.specs.Readers.{Repeated, done, fails, goes_on}

-- ---- a reader's answer, from a walk's

-- where the walk stopped, the reader refused
pub shown-bad : {A : Type 0} (s : List ℕ) (m : Read A) (q : Walk) (f : Fault) → forget m ≡ shown s q → q ≡ Err f → m ≡ refused (told f)
unfolding shown
shown-bad s m q f h e = go m (rw e at h)
  where
    go : {A : Type 0} (m : Read A) → forget m ≡ refused (told f) → m ≡ refused (told f)
    go (got a at xs) h = let z : ◌≡◌ {A = ℕ} 0 1 = cc in absurd (omega arith)
    go (refused x) h = cc

-- where the walk goes on, the reader gave something
pub shown-on : {A : Type 0} (s : List ℕ) (m : Read A) (q : Walk) (e : ℕ) → forget m ≡ shown s q → q ≡ Ok e → (a : A) × (m ≡ got a e (drop e s))
unfolding shown
shown-on s m q e h g = go m (rw g at h)
  where
    go : {A : Type 0} (m : Read A) → forget m ≡ got tt e (drop e s) → (a : A) × (m ≡ got a e (drop e s))
    go (got a at xs) h = (a, cc)
    go (refused x) h = let z : ◌≡◌ {A = ℕ} 0 1 = cc in absurd (omega arith)

-- what is made of a reading does not show
pub forget-after : {A B : Type 0} (m : Read A) (f : A → B) → forget (after m (λ a at xs. got (f a) at xs)) ≡ forget m
unfolding after
forget-after (got a at xs) f = refl
forget-after (refused x) f = refl

-- ---- one reader after another

module _ {A B : Type 0} (m : Read A) (f : A → Reader B) (s : List ℕ) where
  -- the first reader's fault is the whole's; where it goes on, the second answers
  pub after-bad : (e : Fault) → forget m ≡ shown s (Err e) → (r : Walk) → r ≡ Err e → forget (after m f) ≡ shown s r
  unfolding after shown
  after-bad e h r i = rw (i, shown-bad s m (Err e) e h refl)

  pub after_on : (e : ℕ) → forget m ≡ shown s (Ok e) → (r : Walk) → ((a : A) → forget (f a e (drop e s)) ≡ shown s r) → forget (after m f) ≡ shown s r
  unfolding after
  after_on e h r t = let (a, w) = shown-on s m (Ok e) e h refl in rw w (t a)

-- ---- the same reader again and again

-- what is read each time is what a reader reads, so all of it is what that reader reads so many times
pub repeated-times : {A : Type 0} (m : Reader A) (s : List ℕ) (reads : ℕ → Walk → Type 0) → ((p : ℕ) (r : Walk) → reads p r → forget (m p (drop p s)) ≡ shown s r)
    → (n p : ℕ) (r : Walk) → Repeated reads n p r → forget (times n m p (drop p s)) ≡ shown s r
unfolding after shown
repeated-times m s reads each _ p _ done = refl
repeated-times m s reads each _ p _ (fails {f = f} b) = rw (shown-bad s (m p (drop p s)) (Err f) f (each p (Err f) b) refl)
repeated-times m s reads each _ p r (goes_on {n = n} {next = next} b rest) =
    let (a, w) = shown-on s (m p (drop p s)) (Ok next) next (each p (Ok next) b) refl in
    rw (w, forget-after (times n m next (drop next s)) (λ as'. a ∷ as')) (repeated-times m s reads each n next r rest)
