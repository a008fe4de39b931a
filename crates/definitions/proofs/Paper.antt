-- The machine on program terms, computed: source document 003, figure 5, on programs that typing allows and on programs where no rule gives a next step. Assumes nothing.
use Prim.Native.Nat.{ℕ}
use mathlib.Core.Path.{◌≡◌, refl}
use mathlib.Core.List.{List, [], ◌∷◌, ◌++◌, map}
use Rattle.definitions.specs.Terms.{prd, cns, ext, Operation, lit, add, sub, mul, ifz, less, exit}
use Rattle.definitions.specs.Terms.{Statement, jump, substitute, extern, let', new, switch, invoke, Clauses, none, clause, Program}
use Rattle.definitions.specs.Run.{Ending, exited, fuel_spent, room_spent, no_step, run}
use Rattle.definitions.specs.Machine.{run_terms}
use Rattle.definitions.proofs.Images.{program-A, program-B, program-C, exits}
use Rattle.definitions.proofs.Rows.{both}

-- A program, its arguments, fuel and size of table: how its run ends, after how many steps, with how many words stored.
pub data Ran : Type 0 where
  ran : Program → List ℕ → ℕ → ℕ → Ending → ℕ → ℕ → Ran

-- The row with what the machine gives.
abbrev pub computed : Ran → Ran
computed (ran P args fuel size how steps words) = ran P args fuel size (run_terms P args fuel size).how (run_terms P args fuel size).steps (run_terms P args fuel size).final.words

-- ---- each rule of figure 5

-- one label with an integer; signature 0 has a symbol without parameters and one with an integer, signature 1 has only the latter; signature 2 has one with a producer and one with a consumer
abbrev one : Statement → Program
one s = record { signatures = ([] ∷ (ext ∷ []) ∷ []) ∷ ((ext ∷ []) ∷ []) ∷ ((prd 0 ∷ []) ∷ (cns 1 ∷ []) ∷ []) ∷ []; labels = (ext ∷ []) ∷ []; bodies = s ∷ [] }

-- exit with the youngest of two entries
abbrev exits' : Statement
exits' = extern exit (1 ∷ []) none

-- an operation on two arguments, exit with what it gains; a comparison, exit with its argument or with 9
abbrev operates : Operation → Program
operates op = one (extern (lit 6) [] (clause 0 (extern op (0 ∷ 1 ∷ []) (clause 0 (extern exit (2 ∷ []) none) none)) none))

abbrev branches : Clauses
branches = clause 0 exits (clause 1 (extern (lit 9) [] (clause 0 exits' none)) none)

-- a jump to another label, with the environment as it is
abbrev two-labels : Program
two-labels = record { signatures = []; labels = (ext ∷ []) ∷ (ext ∷ []) ∷ []; bodies = jump 1 ∷ exits ∷ [] }

-- a consumer of signature 1, which captures nothing
abbrev consumer : Statement → Statement
consumer s = new 1 0 (clause 0 exits none) s

abbrev pub steps-rows : List Ran
steps-rows =
    ran program-A [] 2 0 (exited 7) 2 0
    ∷ ran program-A [] 1 0 fuel_spent 1 0
    ∷ ran program-B (5 ∷ 9 ∷ []) 3 2 (exited 9) 3 2
    ∷ ran program-B (5 ∷ 9 ∷ []) 3 1 room_spent 0 0
    ∷ ran program-C (5 ∷ 9 ∷ []) 3 2 (exited 9) 3 2
    ∷ ran program-C (5 ∷ 9 ∷ []) 3 1 room_spent 0 0
    ∷ ran (operates add) (0xFFFFFFFFFFFFFFFF ∷ []) 9 0 (exited 5) 3 0
    ∷ ran (operates sub) (5 ∷ []) 9 0 (exited 0xFFFFFFFFFFFFFFFF) 3 0
    ∷ ran (operates mul) (0x8000000000000001 ∷ []) 9 0 (exited 6) 3 0
    ∷ ran (one (extern ifz (0 ∷ []) branches)) (0 ∷ []) 9 0 (exited 0) 2 0
    ∷ ran (one (extern ifz (0 ∷ []) branches)) (4 ∷ []) 9 0 (exited 9) 3 0
    ∷ ran (one (extern less (0 ∷ 0 ∷ []) branches)) (4 ∷ []) 9 0 (exited 9) 3 0
    ∷ ran (one (jump 0)) (4 ∷ []) 9 0 fuel_spent 9 0
    ∷ ran two-labels (4 ∷ []) 9 0 (exited 4) 2 0
    ∷ ran (one (extern (lit 3) [] (clause 0 (substitute (1 ∷ 0 ∷ 1 ∷ []) exits) none))) (4 ∷ []) 9 0 (exited 3) 3 0
    ∷ ran (one (let' 0 0 (switch 0 (clause 1 exits' (clause 0 exits none))))) (4 ∷ []) 9 0 (exited 4) 3 0
    ∷ ran (one (let' 0 0 (let' 2 0 (switch 2 (clause 1 (jump 9) (clause 0 (switch 0 (clause 0 exits none)) none)))))) (4 ∷ []) 9 2 (exited 4) 5 2
    ∷ ran (one (consumer (let' 2 1 (switch 2 (clause 1 (invoke 0) none))))) (4 ∷ []) 9 2 (exited 4) 5 2
    ∷ []

pub steps-hold : map computed steps-rows ≡ steps-rows
unfolding run
steps-hold = refl

-- ---- each way to be stuck: a machine that went on anywhere here would make demand 3 easier

-- stuck after so many steps, with argument 5, fuel and room left
abbrev stuck-after : ℕ → List Statement → List Ran
stuck-after n ss = map (λ s. ran (one s) (5 ∷ []) 99 99 no_step n 0) ss

-- an entry is missing, or there is no such label, signature or symbol
abbrev missing : List Ran
missing =
    stuck-after 0 (jump 9 ∷ substitute (7 ∷ []) exits ∷ extern exit (7 ∷ []) none ∷ extern add (0 ∷ 7 ∷ []) (clause 0 exits none) ∷ let' 9 0 exits ∷ let' 0 9 exits ∷ new 1 9 (clause 0 exits none) exits ∷ [])
    ++ stuck-after 1 (map (λ s. substitute [] s) (exits ∷ let' 0 1 exits ∷ new 1 1 (clause 0 exits none) (invoke 0) ∷ switch 0 (clause 0 exits none) ∷ invoke 0 ∷ []))
    ++ (ran (record { signatures = []; labels = []; bodies = [] }) [] 99 99 no_step 0 0 ∷ [])

missing-hold : map computed missing ≡ missing
unfolding run
missing-hold = refl

-- an operation has fewer or more arguments than it takes
abbrev counted : List Ran
counted =
    stuck-after 0 (
    extern (lit 7) (0 ∷ []) (clause 0 exits none)
    ∷ extern add (0 ∷ []) (clause 0 exits none)
    ∷ extern add (0 ∷ 0 ∷ 0 ∷ []) (clause 0 exits none)
    ∷ extern sub (0 ∷ []) (clause 0 exits none)
    ∷ extern mul (0 ∷ []) (clause 0 exits none)
    ∷ extern ifz [] branches
    ∷ extern ifz (0 ∷ 0 ∷ []) branches
    ∷ extern less (0 ∷ []) branches
    ∷ extern exit [] none
    ∷ extern exit (0 ∷ 0 ∷ []) none
    ∷ []
    )

counted-hold : map computed counted ≡ counted
unfolding run
counted-hold = refl

-- an entry is of the wrong kind
abbrev wrong-kind : List Ran
wrong-kind =
    stuck-after 0 (let' 2 0 exits ∷ let' 2 1 exits ∷ switch 0 (clause 0 exits (clause 1 exits none)) ∷ invoke 0 ∷ [])
    ++ stuck-after 1 (map (λ s. let' 0 0 s) (exits' ∷ extern add (0 ∷ 1 ∷ []) (clause 0 exits none) ∷ let' 0 1 exits ∷ let' 2 1 exits ∷ invoke 0 ∷ []))
    ++ stuck-after 1 (map consumer (exits' ∷ extern add (1 ∷ 0 ∷ []) (clause 0 exits none) ∷ let' 0 1 exits ∷ let' 2 0 exits ∷ switch 1 (clause 0 exits none) ∷ []))

wrong-kind-hold : map computed wrong-kind ≡ wrong-kind
unfolding run
wrong-kind-hold = refl

-- no clause answers: by symbol, and for an operation by place
abbrev no-clause : List Ran
no-clause =
    stuck-after 1 (let' 0 0 (switch 0 none) ∷ let' 0 0 (switch 0 (clause 1 exits none)) ∷ new 1 0 none (invoke 0) ∷ new 1 0 (clause 5 exits none) (invoke 0) ∷ consumer (invoke 1) ∷ [])
    ++ stuck-after 0 (extern (lit 7) [] none ∷ extern ifz (0 ∷ []) (clause 0 exits none) ∷ extern less (0 ∷ 0 ∷ []) (clause 0 exits none) ∷ [])

no-clause-hold : map computed no-clause ≡ no-clause
unfolding run
no-clause-hold = refl

abbrev pub stuck-rows : List Ran
stuck-rows = missing ++ counted ++ wrong-kind ++ no-clause

pub stuck-hold : map computed stuck-rows ≡ stuck-rows
stuck-hold = both computed missing-hold (both computed counted-hold (both computed wrong-kind-hold no-clause-hold))
