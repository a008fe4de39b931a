-- Where the clauses of every `new` and `switch` of a program stand in its image: document 01, "Image layout".
use Rattle.std.specs.Prelude.{ℕ, suc, ◌+◌, List, [], ◌∷◌, ◌++◌, length}
use Rattle.definitions.specs.Terms.{Statement, jump, substitute, extern, let', new, switch, invoke, Clauses, none, clause, Program}
use Rattle.definitions.specs.Layout.{type_bytes, region, counted, literal_bytes, Head, named, bare, head_bytes, statement_bytes, clauses_bytes}

-- A clause: its place among the clauses of its statement, from 0; its symbol; and the offset of its symbol byte.
pub record ClausePlace : Type 0 where
  pub place : ℕ
  pub symbol : ℕ
  pub offset : ℕ

-- "A clause of new or switch is a symbol byte, ..": it is listed. "A clause of extern lacks the symbol byte.": it is not.
abbrev pub of_head : Head → ℕ → ℕ → ℕ → List ClausePlace
of_head named at i m = record { place = i; symbol = m; offset = at } ∷ []
of_head bare at i m = []

-- Every clause in a statement whose code stands at an offset; and of clauses of which the first stands at an offset and at a place.
abbrev mutual
  pub in_statement : ℕ → Statement → List ClausePlace
  in_statement at (jump l) = []
  in_statement at (substitute ps s) = in_statement (at + 2 + length ps) s
  in_statement at (extern op ps cs) = in_clauses bare (at + 2 + length (literal_bytes op) + length ps) 0 cs
  in_statement at (let' t m s) = in_statement (at + 3) s
  in_statement at (new t c cs s) = in_clauses named (at + 4) 0 cs ++ in_statement (at + 4 + length (clauses_bytes named cs)) s
  in_statement at (switch t cs) = in_clauses named (at + 3) 0 cs
  in_statement at (invoke m) = []

  pub in_clauses : Head → ℕ → ℕ → Clauses → List ClausePlace
  in_clauses h at i none = []
  in_clauses h at i (clause m s cs) = of_head h at i m ++ (in_statement (at + length (head_bytes h m) + 2) s ++ in_clauses h (at + length (head_bytes h m) + length (region (statement_bytes s))) (suc i) cs)

-- Every clause in bodies of which the first has its length field at an offset.
abbrev pub in_bodies : ℕ → List Statement → List ClausePlace
in_bodies at [] = []
in_bodies at (s ∷ ss) = in_statement (at + 2) s ++ in_bodies (at + length (region (statement_bytes s))) ss

-- Every clause of a program: its bodies stand behind the version byte, the length field, the signatures and the labels.
abbrev pub clause_places : Program → List ClausePlace
clause_places p = in_bodies (3 + length (counted (counted (counted type_bytes)) p.signatures) + length (counted (counted type_bytes) p.labels)) p.bodies
