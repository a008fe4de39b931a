-- What is proved of the definitions, for a reader to hold against the three demands: each theorem is one citation. Assumes nothing.
use Prim.Native.Nat.{ℕ, ◌≤◌, ◌<◌}
use mathlib.Core.Path.{◌≡◌}
use mathlib.Core.Logic.{◌↔◌, ◌≢◌}
use mathlib.Core.List.{List, [], ◌∷◌, ◌++◌, map}
use lib.ListN.{length, set, take, drop, replicate}
use Rattle.definitions.specs.Limits.{version, largest_table}
use Rattle.definitions.specs.Terms.{prd, cns, ext, lit, add, sub, mul, ifz, less, exit, Environment, Signature, Statement, Program}
use Rattle.definitions.specs.Typing.{At, TypedProgram}
use Rattle.definitions.specs.Layout.{Bytes, type_bytes, operation_byte, named, layout, Accepted}
use Rattle.definitions.specs.ClausePlaces.{ClausePlace, clause_places}
use Rattle.definitions.specs.Reader.{Reader, fault, refused}
use Rattle.definitions.specs.FirstFault.{clauses, program, envelope, read_image, first_fault}
use Rattle.definitions.specs.Run.{goes, stuck, exited, no_step, Outcome, Reached, Ends}
use Rattle.definitions.specs.Machine as Machine
use Rattle.definitions.specs.Machine.{run_terms}
use Rattle.definitions.specs.RawMachine as RawMachine
use Rattle.definitions.specs.RawMachine.{Configuration, block, step}
use Rattle.definitions.specs.Answer.{number_of, value_of, start, run_trees, answer, answer_of, refusal, Fitting, AnswerIs, AnswerNumber, line, printed}
use Rattle.definitions.specs.Words.{AllKept, stored_by}
use Rattle.definitions.specs.Together.{Same, Together}
use Rattle.definitions.proofs.Images as Images
use Rattle.definitions.proofs.Rows as Table
use Rattle.definitions.proofs.Order as Order
use Rattle.definitions.proofs.Stuck as Stuck
use Rattle.definitions.proofs.Paper as Paper
use Rattle.definitions.proofs.Printed as Printed
use Rattle.definitions.proofs.ClauseRows as ClauseRows
use Rattle.exactness.proofs.Exact as Exact
use Rattle.exactness.proofs.Faults as Faults
use Rattle.exactness.proofs.Spelling as Spelling
use Rattle.exactness.proofs.Bounds as Bounds
use Rattle.exactness.proofs.ClausesLaid as ClausesLaid
use Rattle.exactness.proofs.Accident as Accident
use Rattle.lockstep.proofs.Environments as Environments
use Rattle.lockstep.proofs.Whole as Whole
use Rattle.lockstep.proofs.Answers as Answers

-- ---- demand 1: every input is answered

-- Demand 1 in one: whatever the input, the answer is a refusal of the image, of the arguments or of the table, which gives its number and leaves the table as it was, or it is the run's; and which of them is told by the demand's own words.
demand-1-answered : (image args : List ℕ) (fuel : ℕ) (table : List ℕ) → Bytes image → AnswerIs image args fuel table (answer image args fuel table)
demand-1-answered = Answers.answered

-- So a run of a refused image gets the check's number, and the table is not touched;
demand-1-image : (image args : List ℕ) (fuel : ℕ) (table : List ℕ) → Bytes image → (Accepted image → ⊥) → answer image args fuel table ≡ refusal (first_fault image).number table
demand-1-image = Answers.image-refused

-- then 20, and the table is not touched;
demand-1-arguments : {image : List ℕ} (a : Accepted image) (args : List ℕ) (fuel : ℕ) (table : List ℕ) → (Fitting a args → ⊥) → answer image args fuel table ≡ refusal 20 table
demand-1-arguments a args fuel table l = Answers.arguments-refused a args fuel table (Whole.not-fitting a args l)

-- then 21, and the table is not touched.
demand-1-table : {image : List ℕ} (a : Accepted image) (args : List ℕ) → Fitting a args → (fuel : ℕ) (table : List ℕ) → largest_table < length table → answer image args fuel table ≡ refusal 21 table
demand-1-table a args l fuel table = Answers.table-refused a args fuel table (Whole.fitting a args l)

-- A refused image gets a number of the refusal table,
demand-1-number : (image : List ℕ) → Bytes image → (Accepted image → ⊥) → (1 ≤ (first_fault image).number) × ((first_fault image).number ≤ 11)
demand-1-number = Exact.number-refused

-- and a place inside the image or at its end, whatever the bytes.
demand-1-place : (image : List ℕ) → (first_fault image).offset ≤ length image
demand-1-place = Faults.offset-inside

-- ---- demand 2, its first half: what is accepted

-- An image is accepted exactly when its first fault is 0 at its length,
demand-2-accepted : (image : List ℕ) → Bytes image → Accepted image ↔ (first_fault image ≡ fault 0 (length image))
demand-2-accepted image b = (Exact.accepted-faultless, λ e. Exact.faultless-accepted image b (rw e))

-- and exactly when its number is 0.
demand-2-number : (image : List ℕ) → Bytes image → Accepted image ↔ ((first_fault image).number ≡ 0)
demand-2-number image b = (λ a. rw (Exact.accepted-faultless a), Exact.faultless-accepted image b)

-- One reading: so "the program of an accepted image" makes sense.
one-reading : (p q : Program) → TypedProgram p → TypedProgram q → layout p ≡ layout q → p ≡ q
one-reading = Exact.one-reading

-- An accepted image is a byte string: whatever fits the limits is spelt in bytes.
accepted-bytes : {image : List ℕ} → Accepted image → Bytes image
accepted-bytes = Spelling.accepted-bytes

-- The bound with which statements are read is no limit: from the image's length on, any bound gives the same reading.
any-bound : (image : List ℕ) (k : ℕ) → length image ≤ k → envelope version (length image) (program k) 0 image ≡ read_image image
any-bound = Bounds.any-bound

-- Document 01, "A signature without symbols is lawful: .. no value of it can be built": no value, reached or not, is a producer of it.
no-value-without-symbols : {image : List ℕ} (a : Accepted image) (t : ℕ) → At a.program.signatures t [] → (v : RawMachine.Value) (w : Machine.Value) → Same image a.program.signatures a.program.labels v w (prd t) → ⊥
no-value-without-symbols {image} a t e v w = Environments.no-producer image a.program.signatures a.program.labels e

-- ---- demand 2, its second half, and demand 3: what a run gives

-- How many words a configuration has stored
abbrev words : Configuration → ℕ
words c = length c.stored

module _ {image : List ℕ} (a : Accepted image) (args : List ℕ) (l : Fitting a args) where
  -- Demand 2, its second half in one: the answer's number, steps, words and value are what the paper's abstract machine alone gives on the image's program, under that fuel and table.
  demand-2-run : (fuel : ℕ) (table : List ℕ) → length table ≤ largest_table → ((answer image args fuel table).number ≡ number_of (run_terms a.program args fuel (length table)).how)
      × ((answer image args fuel table).steps ≡ (run_terms a.program args fuel (length table)).steps)
      × ((answer image args fuel table).words ≡ (run_terms a.program args fuel (length table)).final.words)
      × ((answer image args fuel table).value ≡ value_of (run_terms a.program args fuel (length table)).how)
  demand-2-run = Answers.paper-answer a args (Whole.fitting a args l)

  -- And the table: the answer is that of the run on trees, its ending's number and value, its steps and words, and its words at the front of the table, which keeps its length.
  demand-2-answer : (fuel : ℕ) (table : List ℕ) → length table ≤ largest_table → answer image args fuel table ≡ answer_of (run_trees image args fuel (length table)) table
  demand-2-answer = Answers.accepted-answer a args (Whole.fitting a args l)

  demand-2-table : (fuel : ℕ) (table : List ℕ) → length (answer_of (run_trees image args fuel (length table)) table).table ≡ length table
  demand-2-table = Answers.same_length a args (Whole.fitting a args l)

  -- The ending of the run on trees with its value, its steps, and how many words it stores, are those of the paper's abstract machine on the image's program,
  demand-2-machine : (fuel size : ℕ) → ((run_trees image args fuel size).how ≡ (run_terms a.program args fuel size).how)
      × ((run_trees image args fuel size).steps ≡ (run_terms a.program args fuel size).steps)
      × (words (run_trees image args fuel size).final ≡ (run_terms a.program args fuel size).final.words)
  demand-2-machine = Whole.same a args (Whole.fitting a args l)

  -- and whatever it reaches stands for what the paper's machine reaches after as many steps: the same statement, and the same values, of which a raw one also knows its block's position.
  demand-2-reached : (size n : ℕ) (c : Configuration) → Reached (step image) words size (start image args) n c
      → (k : Machine.Configuration) × Reached (Machine.step a.program) (λ k. k.words) size (Machine.start a.program args) n k × Together image a.program.signatures a.program.labels c k
  demand-2-reached = Whole.reached a args (Whole.fitting a args l)

  -- Demand 2, "the words that the layout makes of its steps": the words stored so far hold the tree of every value of the environment, block by block, each at the position that a value's own words name.
  demand-2-words : (size n : ℕ) (c : Configuration) → Reached (step image) words size (start image args) n c → AllKept c.stored c.environment
  demand-2-words = Whole.stored a args (Whole.fitting a args l)

  -- A step stores exactly the block of the fields or captures of its statement, which the paper's machine reaches after as many steps, directly behind the words stored before;
  demand-2-stores : (size n : ℕ) (c c' : Configuration) → Reached (step image) words size (start image args) n c → step image c ≡ goes c'
      → (k : Machine.Configuration) × Reached (Machine.step a.program) (λ k. k.words) size (Machine.start a.program args) n k × (c'.stored ≡ c.stored ++ block (stored_by a.program.signatures k.statement c.environment))
  demand-2-stores = Whole.stores-reached a args (Whole.fitting a args l)

  -- and what is stored stays, whether its value is dropped or not: the words stored later stand behind it.
  demand-2-stays : (size n m : ℕ) (c c' : Configuration) → Reached (step image) words size (start image args) n c → Reached (step image) words size c m c' → (later : List ℕ) × (c'.stored ≡ c.stored ++ later)
  demand-2-stays size n m c c' = Whole.stays a args (Whole.fitting a args l) size n c m c'

  -- Demand 3: every configuration that the machine reaches has a next step.
  demand-3-next : (size n : ℕ) (c : Configuration) → Reached (step image) words size (start image args) n c → step image c ≢ stuck
  demand-3-next = Whole.never a args (Whole.fitting a args l)

  -- Demand 3: it ends only by exit, by fuel spent, or by room spent, the last exactly when document 01 says.
  demand-3-ends : (fuel size : ℕ) (o : Outcome Configuration) → (run_trees image args fuel size ≡ o) ↔ Ends (step image) words size (start image args) fuel o
  demand-3-ends = Whole.ends-exactly a args (Whole.fitting a args l)

-- Demands 1 and 3: whatever the input, an answer's number is a refusal's, 40, 41 or 42.
demand-3-number : (image args : List ℕ) (fuel : ℕ) (table : List ℕ) → Bytes image → AnswerNumber (answer image args fuel table).number
demand-3-number = Answers.answer-number

-- ---- the accident: a clause taken by its place

-- `clause_places` lists every clause of every `new` and `switch`, and says where its symbol byte stands, in the bytes of whatever program, typed or not;
clause-symbol-laid : (p : Program) (n : ℕ) (c : ClausePlace) → At (clause_places p) n c → At (layout p) c.offset c.symbol
clause-symbol-laid = ClausesLaid.symbol-laid

-- it is computed for clauses in clauses, each pair in the wrong order;
clause-places-row : clause_places ClauseRows.woven ≡ ClauseRows.woven-places
clause-places-row = ClauseRows.woven-clauses

-- The accident was a runner that took a clause by its place and never read its symbol byte. In an accepted image the clause at place i of every `new` and every `switch` has symbol i,
clauses-in-order : {image : List ℕ} (a : Accepted image) (n : ℕ) (c : ClausePlace) → At (clause_places a.program) n c → c.symbol ≡ c.place
clauses-in-order = Accident.in_order

-- which is the image's byte at the clause's offset;
clause-symbol-byte : {image : List ℕ} (a : Accepted image) (n : ℕ) (c : ClausePlace) → At (clause_places a.program) n c → At image c.offset c.symbol
clause-symbol-byte = Accident.symbol-byte

-- and an image as long, with the same bytes before that offset and another symbol at it, is refused with 9 at that byte, whatever stands behind it.
another-symbol-refused : {image : List ℕ} (a : Accepted image) (n : ℕ) (c : ClausePlace) → At (clause_places a.program) n c
    → (other : List ℕ) → length other ≡ length image → take c.offset other ≡ take c.offset image → (b : ℕ) → At other c.offset b → b ≢ c.place → first_fault other ≡ fault 9 c.offset
another-symbol-refused = Accident.another-symbol

-- The same of any reading of clauses, of whatever image: where the next clause of a `new` or a `switch` is that of symbol i, another symbol byte is refused with 9 at that byte.
clause-symbol-refused : (Σ : List Signature) (Θ : List Environment) (statement : ℕ → Environment → Reader Statement) (d : ℕ) (before behind : Environment) (i : ℕ) (ps : Environment) (S : Signature) (at b : ℕ) (xs : List ℕ)
    → b ≢ i → clauses Σ Θ statement named d before behind i (ps ∷ S) at (b ∷ xs) ≡ refused (fault 9 at)
clause-symbol-refused = Accident.clause-symbol

-- ---- computed from the definitions

-- Document 01, "Marked P: proved from the definitions, as a single table under one claim."
rows : map Table.computed Table.rows ≡ Table.rows
rows = Table.rows-hold

-- "The others": widths, depths, fuel, tables, each operation, each kind of word, and what students hand in.
further-rows : map Table.computed Table.further ≡ Table.further
further-rows = Table.further-hold

-- "The check .. reads front to back and stops at the first failing test": each sentence on the order and the places of tests, and each limit on both sides.
order-of-tests : map Table.computed Order.order ≡ Order.order
order-of-tests = Order.order-hold

-- The same of statements alone, at depths and in environments: 9 before 5, 5 before 10, 10 before 3; 8 before 5; only clauses add depth.
order-in-statements : map Order.read Order.readings ≡ Order.readings
order-in-statements = Order.readings-hold

-- "Kind: 0 prd, 1 cns, 2 ext."; "Operations: 0 lit .. 6 exit".
kinds-and-operations : (map type_bytes (prd 3 ∷ cns 3 ∷ ext ∷ []) ≡ (0 ∷ 3 ∷ []) ∷ (1 ∷ 3 ∷ []) ∷ (2 ∷ 0 ∷ []) ∷ []) × (map operation_byte (lit 9 ∷ add ∷ sub ∷ mul ∷ ifz ∷ less ∷ exit ∷ []) ≡ 0 ∷ 1 ∷ 2 ∷ 3 ∷ 4 ∷ 5 ∷ 6 ∷ [])
kinds-and-operations = (Table.type-bytes, Table.operation-bytes)

-- "The program writes exactly: 0 23, 40 2 0 7", for a run with fuel 100,000,
program-prints-A : printed Images.A ≡ 0x30 ∷ 0x20 ∷ 0x32 ∷ 0x33 ∷ 0x0A ∷ 0x34 ∷ 0x30 ∷ 0x20 ∷ 0x32 ∷ 0x20 ∷ 0x30 ∷ 0x20 ∷ 0x37 ∷ 0x0A ∷ []
program-prints-A = Table.A-printed

program-has-fuel : printed Printed.round ≡ line (0 ∷ 10 ∷ []) ++ line (41 ∷ 100000 ∷ 0 ∷ 0 ∷ [])
program-has-fuel = Printed.fuel-printed

-- and 1,024 words.
program-has-room : printed Printed.full ≡ line (0 ∷ 1251 ∷ []) ++ line (42 ∷ 66 ∷ 1024 ∷ 0 ∷ [])
program-has-room = Printed.room-printed

-- A line is unsigned decimal with single spaces; a value has 64 bits; a run has no arguments; an input of more than 16,384 bytes is refused for its size.
program-prints-lines : line (41 ∷ 100000 ∷ 0 ∷ 9 ∷ []) ≡ 0x34 ∷ 0x31 ∷ 0x20 ∷ 0x31 ∷ 0x30 ∷ 0x30 ∷ 0x30 ∷ 0x30 ∷ 0x30 ∷ 0x20 ∷ 0x30 ∷ 0x20 ∷ 0x39 ∷ 0x0A ∷ []
program-prints-lines = Printed.line-bytes

program-prints-values : printed Printed.greatest ≡ line (0 ∷ 23 ∷ []) ++ line (40 ∷ 2 ∷ 0 ∷ 18446744073709551615 ∷ [])
program-prints-values = Printed.value-printed

program-has-no-arguments : printed Images.B ≡ line (0 ∷ 35 ∷ []) ++ line (20 ∷ 0 ∷ 0 ∷ 0 ∷ [])
program-has-no-arguments = Printed.arguments-printed

program-reads-too-much : printed (replicate 16385 0) ≡ line (1 ∷ 0 ∷ []) ++ line (1 ∷ 0 ∷ 0 ∷ 0 ∷ [])
program-reads-too-much = Printed.too-much-printed

-- "it is stuck where bytes give no statement, an entry is missing or of the wrong kind, or no clause answers": images that are not accepted, and after how many steps the machine has no next one;
stuck-rows : map Stuck.computed Stuck.stuck-rows ≡ Stuck.stuck-rows
stuck-rows = Stuck.stuck-hold

-- and no code from 7 on, in whatever image and configuration;
unknown-code-stuck : (image : List ℕ) (c : Configuration) (code : ℕ) (xs : List ℕ) → 7 ≤ code → drop c.at image ≡ code ∷ xs → step image c ≡ stuck
unknown-code-stuck = Stuck.unknown-code

-- it goes on where it is said not to look;
lenient-rows : map Stuck.computed Stuck.lenient-rows ≡ Stuck.lenient-rows
lenient-rows = Stuck.lenient-hold

-- the same of the paper's machine, on programs that typing does not allow, and what it does on programs that it allows;
paper-stuck-rows : map Paper.computed Paper.stuck-rows ≡ Paper.stuck-rows
paper-stuck-rows = Paper.stuck-hold

paper-rows : map Paper.computed Paper.steps-rows ≡ Paper.steps-rows
paper-rows = Paper.steps-hold

-- a clause answers by its symbol and never by its place; let takes entries of its parameters' kinds.
by-symbol : (run_trees (set (set Images.B 23 1) 29 0) (5 ∷ 9 ∷ []) 3 2).how ≡ exited 5
by-symbol = Table.by-symbol

by_kind : (run_trees Table.unordered (5 ∷ []) 3 2).how ≡ no_step
by_kind = Table.by_kind
