-- The clauses of some programs, computed: their places, their symbols, and the offsets of their symbol bytes. Assumes nothing.
use Prim.Native.Nat.{ℕ}
use mathlib.Core.Path.{◌≡◌, refl}
use mathlib.Core.List.{List, [], ◌∷◌, map}
use mathlib.Core.Option.{some}
use lib.ListN.{get_elem?}
use Rattle.definitions.specs.Terms.{ext, lit, ifz, substitute, extern, let', new, switch, Clauses, none, clause, Program}
use Rattle.definitions.specs.Layout.{layout}
use Rattle.definitions.specs.ClausePlaces.{ClausePlace, clause_places}
use Rattle.definitions.specs.Reader.{fault, after, need, the, byte, item, end}
use Rattle.definitions.specs.FirstFault.{first_fault}
use Rattle.definitions.proofs.Images.{program-B, program-C, exits}

-- a clause at a place, with a symbol, at an offset
abbrev listed : ℕ → ℕ → ℕ → ClausePlace
listed i m o = record { place = i; symbol = m; offset = o }

-- ---- images B and C of document 01: a `switch` and a `new`

-- the clauses stand where document 01's bytes have them
pub B-clauses : clause_places program-B ≡ listed 0 0 23 ∷ listed 1 1 29 ∷ []
unfolding layout
B-clauses = refl

pub C-clauses : clause_places program-C ≡ listed 0 0 20 ∷ []
unfolding layout
C-clauses = refl

-- ---- clauses in clauses, each pair of them in the wrong order: place and symbol differ

abbrev exchanged : Clauses
exchanged = clause 1 exits (clause 0 exits none)

-- a `new`, in whose first clause an `ifz` has a `switch` in each clause, one of them behind a literal; its remainder has a `switch`, and so has a second body
abbrev pub woven : Program
woven =
    record {
      signatures = ([] ∷ (ext ∷ []) ∷ []) ∷ ([] ∷ [] ∷ []) ∷ [];
      labels = (ext ∷ []) ∷ [] ∷ [];
      bodies = substitute (0 ∷ 0 ∷ []) (new 0 0 (clause 1 (extern ifz (0 ∷ []) (clause 0 (extern (lit 7) [] (clause 0 (switch 1 exchanged) none)) (clause 1 (switch 1 exchanged) none))) (clause 0 exits none)) (let' 0 1 (switch 1 exchanged))) ∷ switch 0 exchanged ∷ [];
    }

-- an extern's clauses are not listed, but the clauses inside them are
abbrev pub woven-places : List ClausePlace
woven-places = listed 0 1 27 ∷ listed 0 1 50 ∷ listed 1 0 56 ∷ listed 0 1 67 ∷ listed 1 0 73 ∷ listed 1 0 79 ∷ listed 0 1 91 ∷ listed 1 0 97 ∷ listed 0 1 108 ∷ listed 1 0 114 ∷ []

pub woven-clauses : clause_places woven ≡ woven-places
unfolding layout
woven-clauses = refl

-- the layout has, at each listed offset, that symbol
pub woven-laid : map (λ c. get_elem? (layout woven) c.offset) (clause_places woven) ≡ map (λ c. some c.symbol) (clause_places woven)
unfolding layout
woven-laid = refl

-- and is refused at the first symbol byte that is not its clause's place
pub woven-refused : first_fault (layout woven) ≡ fault 9 27
unfolding layout after need the byte item end first_fault
woven-refused = refl
