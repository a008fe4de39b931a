-- Where the machine for raw images is stuck, computed from the definitions: document 01, "it is stuck where bytes give no statement, an entry is missing or of the wrong kind, or no clause answers". A machine that went on anywhere here would make demand 3 easier. Assumes nothing.
use Prim.Native.Nat.{ℕ, zero, suc, ◌≤◌}
use mathlib.Core.Path.{◌≡◌, refl}
use mathlib.Core.List.{List, [], ◌∷◌, ◌++◌, map}
use mathlib.Core.Bool.{true, false}
use mathlib.Core.Option.{none}
use native.Mathlib.Omega.{arith}
use lib.ListN.{length, get_elem?, set, drop, replicate}
use Rattle.definitions.specs.Reader.{Fault, fault, after, need, the, byte, item, end}
use Rattle.definitions.specs.FirstFault.{first_fault}
use Rattle.definitions.specs.Terms.{prd, cns, ext, Signature}
use Rattle.definitions.specs.Layout.{region, counted}
use Rattle.definitions.specs.Ends.{of_kinds}
use Rattle.definitions.specs.Run.{stuck, Ending, exited, no_step, run}
use Rattle.definitions.specs.RawMachine.{integer, producer, consumer, nil, Configuration, block, header, kind_of, forms, step}
use Rattle.definitions.specs.Answer.{run_trees}
use Rattle.definitions.proofs.Images as Images
use Rattle.definitions.proofs.Images.{A}
use Rattle.definitions.proofs.Rows.{both}

-- An image that is not accepted, with its arguments: its first fault, and how and after how many steps the machine stops, with fuel and room left.
pub data Stop : Type 0 where
  stop : List ℕ → List ℕ → Fault → Ending → ℕ → Stop

-- The row with what the definitions give.
abbrev pub computed : Stop → Stop
computed (stop image args stated how steps) = stop image args (first_fault image) (run_trees image args 99 99).how (run_trees image args 99 99).steps

-- ---- images

-- signature 0 has a symbol without parameters and one with an integer, signature 1 has only the latter; signature 2 has one with a producer and one with a consumer
abbrev three : List Signature
three = ([] ∷ (ext ∷ []) ∷ []) ∷ ((ext ∷ []) ∷ []) ∷ ((prd 0 ∷ []) ∷ (cns 1 ∷ []) ∷ []) ∷ []

-- one label with an integer, whose body, these bytes, ends the image; the first code stands at 26
abbrev bodied : List ℕ → List ℕ
bodied = Images.bodied three (ext ∷ [])

-- stuck after so many steps, with argument 5
abbrev stops : List ℕ → Fault → ℕ → Stop
stops image f n = stop image (5 ∷ []) f no_step n

-- there is no entry at or behind a list's length
none-at : {A : Type 0} (l : List A) (i : ℕ) → length l ≤ i → get_elem? l i ≡ none
none-at [] i h = refl
none-at (x ∷ l) zero h = absurd (omega arith)
none-at (x ∷ l) (suc i) h = none-at l i (omega arith)

-- ---- each way to be stuck. 03 00 00 makes a producer of signature 0; 04 01 00 01 00 00 03 02 06 00 makes a consumer of signature 1; 01 00 drops all entries

-- "where bytes give no statement": an unknown code, the end of the image, no byte for what a form reads, no such operation, label, signature or symbol
abbrev no-statement : List Stop
no-statement =
    stops (bodied ([])) (fault 3 26) 0
    ∷ stops (bodied (0x07 ∷ [])) (fault 6 26) 0
    ∷ stops (bodied (0xFF ∷ [])) (fault 6 26) 0
    ∷ stops (bodied (0x01 ∷ 0x01 ∷ 0x00 ∷ 0x07 ∷ [])) (fault 6 29) 1
    ∷ stops (bodied (0x01 ∷ 0x01 ∷ 0x00 ∷ [])) (fault 3 29) 1
    ∷ stops (bodied (0x00 ∷ [])) (fault 3 27) 0
    ∷ stops (bodied (0x00 ∷ 0x09 ∷ [])) (fault 7 27) 0
    ∷ stops (bodied (0x01 ∷ [])) (fault 3 27) 0
    ∷ stops (bodied (0x01 ∷ 0x02 ∷ 0x00 ∷ [])) (fault 3 29) 0
    ∷ stops (bodied (0x02 ∷ [])) (fault 3 27) 0
    ∷ stops (bodied (0x02 ∷ 0x07 ∷ [])) (fault 6 27) 0
    ∷ stops (bodied (0x02 ∷ 0x00 ∷ 0x00 ∷ 0x00 ∷ [])) (fault 3 28) 0
    ∷ stops (bodied (0x02 ∷ 0x06 ∷ [])) (fault 3 28) 0
    ∷ stops (bodied (0x02 ∷ 0x01 ∷ 0x00 ∷ [])) (fault 3 29) 0
    ∷ stops (bodied (0x03 ∷ [])) (fault 3 27) 0
    ∷ stops (bodied (0x03 ∷ 0x00 ∷ [])) (fault 3 28) 0
    ∷ stops (bodied (0x03 ∷ 0x09 ∷ [])) (fault 7 27) 0
    ∷ stops (bodied (0x03 ∷ 0x00 ∷ 0x09 ∷ [])) (fault 7 28) 0
    ∷ stops (bodied (0x04 ∷ [])) (fault 3 27) 0
    ∷ stops (bodied (0x04 ∷ 0x00 ∷ [])) (fault 3 28) 0
    ∷ stops (bodied (0x04 ∷ 0x00 ∷ 0x00 ∷ [])) (fault 3 29) 0
    ∷ stops (bodied (0x04 ∷ 0x01 ∷ 0x00 ∷ 0x01 ∷ [])) (fault 3 30) 0
    ∷ stops (bodied (0x04 ∷ 0x01 ∷ 0x00 ∷ 0x01 ∷ 0x00 ∷ [])) (fault 3 31) 0
    ∷ stops (bodied (0x05 ∷ [])) (fault 3 27) 0
    ∷ stops (bodied (0x03 ∷ 0x00 ∷ 0x00 ∷ 0x05 ∷ 0x00 ∷ [])) (fault 3 31) 1
    ∷ stops (bodied (0x03 ∷ 0x00 ∷ 0x00 ∷ 0x05 ∷ 0x00 ∷ 0x02 ∷ 0x00 ∷ [])) (fault 3 33) 1
    ∷ stops (bodied (0x06 ∷ [])) (fault 8 26) 0
    ∷ stops (bodied (0x04 ∷ 0x01 ∷ 0x00 ∷ 0x01 ∷ 0x00 ∷ 0x00 ∷ 0x03 ∷ 0x02 ∷ 0x06 ∷ 0x00 ∷ 0x06 ∷ [])) (fault 3 37) 1
    ∷ []

no-statement-hold : map computed no-statement ≡ no-statement
unfolding after need the byte item end first_fault header block run region counted
no-statement-hold = refl

-- "an entry is missing": each form that takes one
abbrev missing : List Stop
missing =
    stops (bodied (0x01 ∷ 0x01 ∷ 0x07 ∷ [])) (fault 7 28) 0
    ∷ stops (bodied (0x02 ∷ 0x06 ∷ 0x07 ∷ [])) (fault 7 28) 0
    ∷ stops (bodied (0x02 ∷ 0x04 ∷ 0x07 ∷ [])) (fault 7 28) 0
    ∷ stops (bodied (0x02 ∷ 0x01 ∷ 0x07 ∷ 0x00 ∷ [])) (fault 7 28) 0
    ∷ stops (bodied (0x02 ∷ 0x01 ∷ 0x00 ∷ 0x07 ∷ [])) (fault 7 29) 0
    ∷ stops (bodied (0x02 ∷ 0x05 ∷ 0x00 ∷ 0x07 ∷ [])) (fault 7 29) 0
    ∷ stops (bodied (0x01 ∷ 0x00 ∷ 0x03 ∷ 0x00 ∷ 0x01 ∷ [])) (fault 8 28) 1
    ∷ stops (bodied (0x04 ∷ 0x01 ∷ 0x09 ∷ 0x01 ∷ 0x00 ∷ 0x00 ∷ 0x03 ∷ 0x02 ∷ 0x06 ∷ 0x00 ∷ 0x06 ∷ 0x00 ∷ [])) (fault 8 28) 0
    ∷ stops (bodied (0x01 ∷ 0x00 ∷ 0x05 ∷ 0x00 ∷ 0x02 ∷ 0x00 ∷ 0x00 ∷ 0x03 ∷ 0x02 ∷ 0x06 ∷ 0x00 ∷ [])) (fault 8 28) 1
    ∷ stops (bodied (0x01 ∷ 0x00 ∷ 0x06 ∷ 0x00 ∷ [])) (fault 8 28) 1
    ∷ []

missing-hold : map computed missing ≡ missing
unfolding after need the byte item end first_fault header block run region counted
missing-hold = refl

-- "or of the wrong kind": each form and each wrong kind
abbrev wrong-kind : List Stop
wrong-kind =
    stops (bodied (0x03 ∷ 0x00 ∷ 0x00 ∷ 0x02 ∷ 0x06 ∷ 0x01 ∷ [])) (fault 8 31) 1
    ∷ stops (bodied (0x04 ∷ 0x01 ∷ 0x00 ∷ 0x01 ∷ 0x00 ∷ 0x00 ∷ 0x03 ∷ 0x02 ∷ 0x06 ∷ 0x00 ∷ 0x02 ∷ 0x06 ∷ 0x01 ∷ [])) (fault 8 38) 1
    ∷ stops (bodied (0x03 ∷ 0x00 ∷ 0x00 ∷ 0x02 ∷ 0x01 ∷ 0x01 ∷ 0x00 ∷ [])) (fault 8 31) 1
    ∷ stops (bodied (0x03 ∷ 0x00 ∷ 0x00 ∷ 0x02 ∷ 0x01 ∷ 0x00 ∷ 0x01 ∷ [])) (fault 8 32) 1
    ∷ stops (bodied (0x04 ∷ 0x01 ∷ 0x00 ∷ 0x01 ∷ 0x00 ∷ 0x00 ∷ 0x03 ∷ 0x02 ∷ 0x06 ∷ 0x00 ∷ 0x02 ∷ 0x01 ∷ 0x00 ∷ 0x01 ∷ [])) (fault 8 39) 1
    ∷ stops (bodied (0x03 ∷ 0x00 ∷ 0x00 ∷ 0x03 ∷ 0x00 ∷ 0x01 ∷ [])) (fault 8 29) 1
    ∷ stops (bodied (0x04 ∷ 0x01 ∷ 0x00 ∷ 0x01 ∷ 0x00 ∷ 0x00 ∷ 0x03 ∷ 0x02 ∷ 0x06 ∷ 0x00 ∷ 0x03 ∷ 0x00 ∷ 0x01 ∷ [])) (fault 8 36) 1
    ∷ stops (bodied (0x03 ∷ 0x02 ∷ 0x00 ∷ [])) (fault 8 26) 0
    ∷ stops (bodied (0x04 ∷ 0x01 ∷ 0x00 ∷ 0x01 ∷ 0x00 ∷ 0x00 ∷ 0x03 ∷ 0x02 ∷ 0x06 ∷ 0x00 ∷ 0x03 ∷ 0x02 ∷ 0x00 ∷ [])) (fault 8 36) 1
    ∷ stops (bodied (0x03 ∷ 0x02 ∷ 0x01 ∷ [])) (fault 8 26) 0
    ∷ stops (bodied (0x03 ∷ 0x00 ∷ 0x00 ∷ 0x03 ∷ 0x02 ∷ 0x01 ∷ [])) (fault 8 29) 1
    ∷ stops (bodied (0x05 ∷ 0x00 ∷ 0x02 ∷ 0x00 ∷ 0x00 ∷ 0x03 ∷ 0x02 ∷ 0x06 ∷ 0x00 ∷ 0x01 ∷ 0x00 ∷ 0x03 ∷ 0x02 ∷ 0x06 ∷ 0x00 ∷ [])) (fault 8 26) 0
    ∷ stops (bodied (0x04 ∷ 0x01 ∷ 0x00 ∷ 0x01 ∷ 0x00 ∷ 0x00 ∷ 0x03 ∷ 0x02 ∷ 0x06 ∷ 0x00 ∷ 0x05 ∷ 0x01 ∷ 0x01 ∷ 0x00 ∷ 0x00 ∷ 0x03 ∷ 0x02 ∷ 0x06 ∷ 0x00 ∷ [])) (fault 8 36) 1
    ∷ stops (bodied (0x06 ∷ 0x00 ∷ [])) (fault 8 26) 0
    ∷ stops (bodied (0x03 ∷ 0x00 ∷ 0x00 ∷ 0x06 ∷ 0x00 ∷ [])) (fault 8 29) 1
    ∷ []

wrong-kind-hold : map computed wrong-kind ≡ wrong-kind
unfolding after need the byte item end first_fault header block run region counted
wrong-kind-hold = refl

-- "or no clause answers": switch and invoke, by symbol; an operation, by place
abbrev no-clause : List Stop
no-clause =
    stops (bodied (0x03 ∷ 0x00 ∷ 0x00 ∷ 0x05 ∷ 0x00 ∷ 0x00 ∷ [])) (fault 9 31) 1
    ∷ stops (bodied (0x03 ∷ 0x00 ∷ 0x00 ∷ 0x05 ∷ 0x00 ∷ 0x01 ∷ 0x01 ∷ 0x00 ∷ 0x03 ∷ 0x02 ∷ 0x06 ∷ 0x00 ∷ [])) (fault 9 31) 1
    ∷ stops (bodied (0x03 ∷ 0x00 ∷ 0x00 ∷ 0x05 ∷ 0x00 ∷ 0x02 ∷ 0x01 ∷ 0x00 ∷ 0x03 ∷ 0x02 ∷ 0x06 ∷ 0x00 ∷ 0x01 ∷ 0x00 ∷ 0x03 ∷ 0x02 ∷ 0x06 ∷ 0x00 ∷ [])) (fault 9 32) 1
    ∷ stops (bodied (0x03 ∷ 0x00 ∷ 0x00 ∷ 0x05 ∷ 0x00 ∷ 0x02 ∷ 0x01 ∷ 0x00 ∷ 0x03 ∷ 0x02 ∷ 0x06 ∷ 0x00 ∷ [])) (fault 9 32) 1
    ∷ stops (bodied (0x04 ∷ 0x01 ∷ 0x00 ∷ 0x00 ∷ 0x06 ∷ 0x00 ∷ [])) (fault 9 29) 1
    ∷ stops (bodied (0x04 ∷ 0x01 ∷ 0x00 ∷ 0x01 ∷ 0x05 ∷ 0x00 ∷ 0x03 ∷ 0x02 ∷ 0x06 ∷ 0x00 ∷ 0x06 ∷ 0x00 ∷ [])) (fault 9 30) 1
    ∷ stops (bodied (0x02 ∷ 0x00 ∷ 0x00 ∷ 0x00 ∷ 0x00 ∷ 0x00 ∷ 0x00 ∷ 0x00 ∷ 0x00 ∷ 0x07 ∷ [])) (fault 3 36) 0
    ∷ stops (bodied (0x02 ∷ 0x00 ∷ 0x00 ∷ 0x00 ∷ 0x00 ∷ 0x00 ∷ 0x00 ∷ 0x00 ∷ 0x00 ∷ 0x07 ∷ 0x00 ∷ 0x00 ∷ [])) (fault 3 38) 1
    ∷ stops (bodied (0x02 ∷ 0x04 ∷ 0x00 ∷ [])) (fault 3 29) 0
    ∷ stops (bodied (0x02 ∷ 0x04 ∷ 0x00 ∷ 0x00 ∷ 0x03 ∷ 0x02 ∷ 0x06 ∷ 0x00 ∷ [])) (fault 3 34) 0
    ∷ stops (bodied (0x02 ∷ 0x04 ∷ 0x00 ∷ 0x00 ∷ 0x09 ∷ 0x02 ∷ 0x06 ∷ 0x00 ∷ 0x00 ∷ 0x03 ∷ 0x02 ∷ 0x06 ∷ 0x00 ∷ [])) (fault 3 29) 0
    ∷ stops (bodied (0x03 ∷ 0x00 ∷ 0x00 ∷ 0x05 ∷ 0x00 ∷ 0x01 ∷ 0x01 ∷ 0x00 ∷ 0x03 ∷ 0x02 ∷ 0x06 ∷ 0x00 ∷ 0x00 ∷ 0x00 ∷ 0x03 ∷ 0x02 ∷ 0x06 ∷ 0x00 ∷ [])) (fault 9 31) 1
    ∷ []

no-clause-hold : map computed no-clause ≡ no-clause
unfolding after need the byte item end first_fault header block run region counted
no-clause-hold = refl

-- a code that no form has, before the bytes of each form, in an environment in which that form would go on
abbrev no_code : List Stop
no_code =
    stops (bodied (0x07 ∷ 0x00 ∷ [])) (fault 6 26) 0
    ∷ stops (bodied (0x07 ∷ 0x01 ∷ 0x00 ∷ 0x02 ∷ 0x06 ∷ 0x00 ∷ [])) (fault 6 26) 0
    ∷ stops (bodied (0x07 ∷ 0x06 ∷ 0x00 ∷ [])) (fault 6 26) 0
    ∷ stops (bodied (0x07 ∷ 0x00 ∷ 0x00 ∷ 0x02 ∷ 0x06 ∷ 0x00 ∷ [])) (fault 6 26) 0
    ∷ stops (bodied (0x07 ∷ 0x01 ∷ 0x00 ∷ 0x01 ∷ 0x00 ∷ 0x00 ∷ 0x03 ∷ 0x02 ∷ 0x06 ∷ 0x00 ∷ 0x02 ∷ 0x06 ∷ 0x00 ∷ [])) (fault 6 26) 0
    ∷ stops (bodied (0x03 ∷ 0x00 ∷ 0x00 ∷ 0x07 ∷ 0x00 ∷ 0x02 ∷ 0x00 ∷ 0x00 ∷ 0x03 ∷ 0x02 ∷ 0x06 ∷ 0x00 ∷ 0x01 ∷ 0x00 ∷ 0x03 ∷ 0x02 ∷ 0x06 ∷ 0x00 ∷ [])) (fault 6 29) 1
    ∷ stops (bodied (0x04 ∷ 0x01 ∷ 0x00 ∷ 0x01 ∷ 0x00 ∷ 0x00 ∷ 0x03 ∷ 0x02 ∷ 0x06 ∷ 0x00 ∷ 0x07 ∷ 0x00 ∷ [])) (fault 6 36) 1
    ∷ []

no-code-hold : map computed no_code ≡ no_code
unfolding after need the byte item end first_fault header block run region counted
no-code-hold = refl

-- a head that is refused has no label to start with, wherever it would stand
abbrev no_start : List Stop
no_start = stop [] [] (fault 1 0) no_step 0 ∷ stop (set A 4 0) [] (fault 4 4) no_step 0 ∷ stop (Images.framed (0 ∷ 1 ∷ 0 ∷ [])) [] (fault 3 6) no_step 0 ∷ stop (Images.framed (replicate 60 0)) [] (fault 4 4) no_step 0 ∷ []

no-start-hold : map computed no_start ≡ no_start
unfolding after need the byte item end first_fault header block run region counted
no-start-hold = refl

abbrev pub stuck-rows : List Stop
stuck-rows = no-statement ++ no_code ++ missing ++ wrong-kind ++ no-clause ++ no_start

pub stuck-hold : map computed stuck-rows ≡ stuck-rows
stuck-hold = both computed no-statement-hold (both computed no-code-hold (both computed missing-hold (both computed wrong-kind-hold (both computed no-clause-hold no-start-hold))))

-- no code from 7 on has a form, whatever the image and the configuration
pub unknown-code : (image : List ℕ) (c : Configuration) (code : ℕ) (xs : List ℕ) → 7 ≤ code → drop c.at image ≡ code ∷ xs → step image c ≡ stuck
unfolding after the byte
unknown-code image c code xs h e = rw (e, none-at (forms image (header image) c) code h)

-- "as many values as types, of their kinds"
pub kinds-hold : map (λ E. of_kinds kind_of E (ext ∷ prd 0 ∷ [])) ([] ∷ (integer 5 ∷ []) ∷ (integer 5 ∷ producer 0 0 nil ∷ []) ∷ (integer 5 ∷ integer 5 ∷ []) ∷ (integer 5 ∷ consumer 0 0 nil ∷ []) ∷ (producer 0 0 nil ∷ producer 0 0 nil ∷ []) ∷ (integer 5 ∷ producer 0 0 nil ∷ integer 5 ∷ []) ∷ [])
    ≡ false ∷ false ∷ true ∷ false ∷ false ∷ false ∷ false ∷ []
kinds-hold = refl

-- ---- what the machine does not look at (`RawMachine`, its head): it goes on in images that are not accepted

abbrev pub lenient-rows : List Stop
lenient-rows =
    -- the signature byte of switch, and of new
    stop (bodied (0x03 ∷ 0x00 ∷ 0x00 ∷ 0x05 ∷ 0x01 ∷ 0x02 ∷ 0x00 ∷ 0x00 ∷ 0x03 ∷ 0x02 ∷ 0x06 ∷ 0x00 ∷ 0x01 ∷ 0x00 ∷ 0x03 ∷ 0x02 ∷ 0x06 ∷ 0x00 ∷ [])) (5 ∷ []) (fault 8 29) (exited 5) 3
    ∷ stop (bodied (0x04 ∷ 0x00 ∷ 0x00 ∷ 0x01 ∷ 0x00 ∷ 0x00 ∷ 0x03 ∷ 0x02 ∷ 0x06 ∷ 0x00 ∷ 0x06 ∷ 0x00 ∷ [])) (5 ∷ []) (fault 9 29) (exited 5) 3
    -- substitute's count
    ∷ stop (bodied (0x01 ∷ 0x21 ∷ (replicate 33 0 ++ (0x02 ∷ 0x06 ∷ 0x20 ∷ [])))) (5 ∷ []) (fault 4 27) (exited 5) 2
    -- the entries at an invoke
    ∷ stop (bodied (0x01 ∷ 0x02 ∷ 0x00 ∷ 0x00 ∷ 0x04 ∷ 0x01 ∷ 0x00 ∷ 0x01 ∷ 0x00 ∷ 0x00 ∷ 0x03 ∷ 0x02 ∷ 0x06 ∷ 0x00 ∷ 0x06 ∷ 0x00 ∷ [])) (5 ∷ []) (fault 8 40) (exited 5) 4
    -- where a region ends
    ∷ stop (bodied (0x02 ∷ 0x06 ∷ 0x00 ∷ 0x00 ∷ [])) (5 ∷ []) (fault 11 29) (exited 5) 1
    ∷ []

pub lenient-hold : map computed lenient-rows ≡ lenient-rows
unfolding after need the byte item end first_fault header block run region counted
lenient-hold = refl
