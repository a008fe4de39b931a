-- What a walk's answer says, as a reader's.
use Rattle.std.specs.Prelude.{ℕ, ◌+◌, ◌≤◌, ◌≡◌, List, length, drop, Result, Ok, Err}
use Rattle.definitions.specs.Reader.{Read, got, refused}
use Rattle.checker.specs.Faults.{told}
use Rattle.checker.specs.declared.faults.Fault.{Fault}

-- A reader's answer without what it read.
abbrev pub forget : {A : Type 0} → Read A → Read (Unit {0})
forget (got a at xs) = got tt at xs
forget (refused e) = refused e

-- Where a walk goes on, or its first fault.
abbrev pub Walk : Type 0
Walk = Result ℕ Fault

-- Where a walk over the region s goes on, or its first fault. A region is handed on with all that stands before it, so that offsets stay those of the image.
unfoldable pub shown : List ℕ → Walk → Read (Unit {0})
shown s (Ok at) = got tt at (drop at s)
shown s (Err f) = refused (told f)

-- A walk goes on no earlier than it began, and within its region.
abbrev pub Within : ℕ → List ℕ → Walk → Type 0
Within at s (Ok e) = (at ≤ e) × (e ≤ length s)
Within at s (Err f) = Unit {0}

-- A walk over one byte goes on behind it.
abbrev pub Next : ℕ → List ℕ → Walk → Type 0
Next at s (Ok e) = (e ≡ at + 1) × (e ≤ length s)
Next at s (Err f) = Unit {0}
