-- Readings one after another: so many less those that are done; and those behind a count. Assumes nothing.
use Prim.Native.Nat.{ℕ, suc, ◌+◌, ◌-◌, ◌≤◌, ◌<◌}
use mathlib.Core.Path.{◌≡◌}
use mathlib.Core.List.{List}
use native.Mathlib.Omega.{arith}
use lib.ListN.{drop}
use Rattle.std.specs.Prelude.{Ok, Err}
use Rattle.definitions.specs.Reader.{Reader, after, count, counted}
use Rattle.checker.specs.declared.faults.Fault.{Fault}
use Rattle.checker.specs.Shown.{Walk, forget, shown}
use Rattle.checker.specs.Readers.{Repeated, done, fails, goes_on, CountedIs, counted_bad, counted_on}
use Rattle.checker.proofs.Loops.{repeated-times}
use Rattle.checker.proofs.ReaderLaws.{count-bad, count-on}

-- none is left, or the next one fails, or goes on to the others
module _ (reads : ℕ → Walk → Type 0) (n k p : ℕ) where
  pub none-left : n ≤ k → Repeated reads (n - k) p (Ok p)
  none-left h = let e : n - k ≡ 0 = omega arith in rw e done

  module _ (h : k < n) where
    one-left : n - k ≡ suc (n - (k + 1))
    one-left = omega arith

    pub next-fails : (f : Fault) → reads p (Err f) → Repeated reads (n - k) p (Err f)
    next-fails f b = rw one-left (fails b)

    pub next-on : (q : ℕ) → reads p (Ok q) → (r : Walk) → Repeated reads (n - (k + 1)) q r → Repeated reads (n - k) p r
    next-on q b r rest = rw one-left (goes_on b rest)

-- a count, then as many readings: what the reader of a counted list reads
pub counted-reads : {A : Type 0} (m : Reader A) (s : List ℕ) (most at : ℕ) {reads : ℕ → Walk → Type 0} (r : Walk)
    → CountedIs reads s most at r → ((p : ℕ) (r : Walk) → reads p r → forget (m p (drop p s)) ≡ shown s r)
    → forget (counted (count 0 most) m at (drop at s)) ≡ shown s r
unfolding after shown
counted-reads m s most at _ (counted_bad b) each = rw (count-bad b)
counted-reads m s most at {reads} r (counted_on {n = n} b rest) each = rw (count-on b).reads (repeated-times m s reads each n (at + 1) r rest)
