-- The number and offset that the check gives for a fault.
use Rattle.std.specs.Prelude.{ℕ}
use Rattle.definitions.specs.Reader as Reader
use Rattle.checker.specs.declared.faults.Refusal.{Refusal}
use Rattle.checker.specs.declared.faults.Refusal.TheVariants.{Size, Version, Short, Count, Wide, Unknown, Unnamed, Untyped, Clause, Deep, Left}
use Rattle.checker.specs.declared.faults.Fault.{Fault}

-- The numbers of document 01.
abbrev pub number : Refusal → ℕ
number Size = 1
number Version = 2
number Short = 3
number Count = 4
number Wide = 5
number Unknown = 6
number Unnamed = 7
number Untyped = 8
number Clause = 9
number Deep = 10
number Left = 11

-- A fault as the definitions have it.
abbrev pub told : Fault → Reader.Fault
told f = Reader.fault (number f.refusal) f.offset

-- A refusal at an offset.
abbrev pub at : Refusal → ℕ → Fault
at r o = record { refusal = r; offset = o }
