-- The images of document 01, and makers of others, for the computed rows. Assumes nothing.
use Prim.Native.Nat.{ℕ}
use mathlib.Core.List.{List, [], ◌∷◌, ◌++◌}
use Rattle.definitions.specs.Terms.{Ty, ext, Signature, lit, exit, Statement, extern, let', new, switch, invoke, none, clause, Program}
use Rattle.definitions.specs.Layout.{region, counted, type_bytes, layout}

-- ---- document 01, "Images on either side of a line"

abbrev pub A : List ℕ
A = 0x01 ∷ 0x00 ∷ 0x14 ∷ 0x00 ∷ 0x01 ∷ 0x00 ∷ 0x00 ∷ 0x0F ∷ 0x02 ∷ 0x00 ∷ 0x00 ∷ 0x00 ∷ 0x00 ∷ 0x00 ∷ 0x00 ∷ 0x00 ∷ 0x00 ∷ 0x07 ∷ 0x00 ∷ 0x03 ∷ 0x02 ∷ 0x06 ∷ 0x00 ∷ []

abbrev pub B : List ℕ
B = 0x01 ∷ 0x00 ∷ 0x20 ∷ 0x01 ∷ 0x02 ∷ 0x00 ∷ 0x01 ∷ 0x02 ∷ 0x00 ∷ 0x01 ∷ 0x02 ∷ 0x02 ∷ 0x00 ∷ 0x02 ∷ 0x00 ∷ 0x00 ∷ 0x12 ∷ 0x03 ∷ 0x00 ∷ 0x01 ∷ 0x05 ∷ 0x00 ∷ 0x02 ∷ 0x00 ∷ 0x00 ∷ 0x03 ∷ 0x02 ∷ 0x06 ∷ 0x00 ∷ 0x01 ∷ 0x00 ∷ 0x03 ∷ 0x02 ∷ 0x06 ∷ 0x01 ∷ []

abbrev pub C : List ℕ
C = 0x01 ∷ 0x00 ∷ 0x19 ∷ 0x01 ∷ 0x01 ∷ 0x01 ∷ 0x02 ∷ 0x00 ∷ 0x01 ∷ 0x02 ∷ 0x02 ∷ 0x00 ∷ 0x02 ∷ 0x00 ∷ 0x00 ∷ 0x0C ∷ 0x04 ∷ 0x00 ∷ 0x01 ∷ 0x01 ∷ 0x00 ∷ 0x00 ∷ 0x03 ∷ 0x02 ∷ 0x06 ∷ 0x01 ∷ 0x06 ∷ 0x00 ∷ []

-- exit with the oldest entry
abbrev pub exits : Statement
exits = extern exit (0 ∷ []) none

-- ---- the same as programs

abbrev pub program-A : Program
program-A = record { signatures = []; labels = [] ∷ []; bodies = extern (lit 7) [] (clause 0 exits none) ∷ [] }

abbrev pub program-B : Program
program-B = record {
  signatures = ([] ∷ (ext ∷ []) ∷ []) ∷ [];
  labels = (ext ∷ ext ∷ []) ∷ [];
  bodies = let' 0 1 (switch 0 (clause 0 exits (clause 1 (extern exit (1 ∷ []) none) none))) ∷ [];
}

abbrev pub program-C : Program
program-C = record { signatures = ((ext ∷ []) ∷ []) ∷ []; labels = (ext ∷ ext ∷ []) ∷ []; bodies = new 0 1 (clause 0 (extern exit (1 ∷ []) none) none) (invoke 0) ∷ [] }

-- ---- makers

-- an image of one label, with these types and this body
abbrev pub single : List Signature → List Ty → Statement → List ℕ
single Σ Γ s = layout (record { signatures = Σ; labels = Γ ∷ []; bodies = s ∷ [] })

-- the version, the length field, and these bytes behind them
abbrev pub framed : List ℕ → List ℕ
framed content = 1 ∷ region content

-- an image of one label, with these types and these bytes for its body, whether they are a statement's or not
abbrev pub bodied : List Signature → List Ty → List ℕ → List ℕ
bodied Σ Γ body = framed (counted (counted (counted type_bytes)) Σ ++ (counted (counted type_bytes) (Γ ∷ []) ++ region body))
