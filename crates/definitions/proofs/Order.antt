-- Order and place of the check's tests, computed from the definitions: document 01, "Refusal numbers", each sentence on the order of tests with images on both sides of it. Assumes nothing.
use Prim.Native.Nat.{ℕ}
use mathlib.Core.Path.{◌≡◌, refl}
use mathlib.Core.List.{List, [], ◌∷◌, ◌++◌, map}
use mathlib.Core.Bool.{true, false}
use lib.ListN.{replicate}
use Rattle.definitions.specs.Reader.{Fault, fault, after, need, the, byte, item, end}
use Rattle.definitions.specs.FirstFault.{same_type, statement, verdict, first_fault}
use Rattle.definitions.specs.Terms.{prd, cns, ext, Environment, Signature, Statement, jump}
use Rattle.definitions.specs.Layout.{region, counted, layout}
use Rattle.definitions.specs.Answer.{answer}
use Rattle.definitions.specs.Run.{run}
use Rattle.definitions.specs.RawMachine.{block, header}
use Rattle.definitions.proofs.Images.{exits, single, framed, bodied}
use Rattle.definitions.proofs.Rows.{Row, checks, computed, both}

-- ---- images

-- signature 0 has a symbol without parameters and one with an integer, signature 1 has only the latter
abbrev two : List Signature
two = ([] ∷ (ext ∷ []) ∷ []) ∷ ((ext ∷ []) ∷ []) ∷ []

-- the label has one integer, and the body's first code stands at 19; or it has 32, and the code stands at 81
abbrev narrow : List ℕ → List ℕ
narrow = bodied two (ext ∷ [])

abbrev wide : List ℕ → List ℕ
wide = bodied two (replicate 32 ext)

-- ---- the order of tests

-- "Order at the start: size, version, length field." Then the head's first item.
abbrev start : List Row
start =
    checks (2 ∷ []) (fault 1 0)
    ∷ checks (2 ∷ 0 ∷ []) (fault 1 0)
    ∷ checks (2 ∷ 0 ∷ 9 ∷ []) (fault 2 0)
    ∷ checks (0 ∷ 0 ∷ 0 ∷ []) (fault 2 0)
    ∷ checks (1 ∷ 0 ∷ 1 ∷ []) (fault 1 1)
    ∷ checks (1 ∷ 1 ∷ 0 ∷ []) (fault 1 1)
    ∷ checks (1 ∷ 0 ∷ 0 ∷ 0 ∷ []) (fault 1 1)
    ∷ checks (1 ∷ 0 ∷ 0 ∷ []) (fault 3 3)
    ∷ checks (replicate 16384 0) (fault 2 0)
    ∷ checks (replicate 16385 0) (fault 1 0)
    ∷ []

start-hold : map computed start ≡ start
unfolding after need the byte item end first_fault header block run answer layout region counted
start-hold = refl

-- "An item is tested 3, then 4, 6 or 7, then the rest": counts and types. A type may name a later signature; an unknown kind is 6 where the number is missing too.
abbrev heads : List Row
heads =
    checks (framed (0x41 ∷ [])) (fault 4 3)
    ∷ checks (framed (0x01 ∷ [])) (fault 3 4)
    ∷ checks (framed (0x01 ∷ 0x21 ∷ [])) (fault 4 4)
    ∷ checks (framed (0x01 ∷ 0x01 ∷ [])) (fault 3 5)
    ∷ checks (framed (0x01 ∷ 0x01 ∷ 0x11 ∷ [])) (fault 4 5)
    ∷ checks (framed (0x01 ∷ 0x01 ∷ 0x01 ∷ [])) (fault 3 6)
    ∷ checks (framed (0x01 ∷ 0x01 ∷ 0x01 ∷ 0x03 ∷ [])) (fault 6 6)
    ∷ checks (framed (0x01 ∷ 0x01 ∷ 0x01 ∷ 0x00 ∷ [])) (fault 3 7)
    ∷ checks (framed (0x01 ∷ 0x01 ∷ 0x01 ∷ 0x00 ∷ 0x01 ∷ [])) (fault 7 7)
    ∷ checks (framed (0x01 ∷ 0x01 ∷ 0x01 ∷ 0x01 ∷ 0x01 ∷ [])) (fault 7 7)
    ∷ checks (framed (0x01 ∷ 0x01 ∷ 0x01 ∷ 0x02 ∷ 0x01 ∷ [])) (fault 6 7)
    ∷ checks (framed (0x02 ∷ 0x01 ∷ 0x01 ∷ 0x00 ∷ 0x01 ∷ 0x00 ∷ [])) (fault 3 9)
    ∷ checks (framed (0x02 ∷ 0x01 ∷ 0x01 ∷ 0x00 ∷ 0x02 ∷ 0x00 ∷ [])) (fault 7 7)
    ∷ checks (framed (0x00 ∷ [])) (fault 3 4)
    ∷ checks (framed (0x00 ∷ 0x00 ∷ [])) (fault 4 4)
    ∷ checks (framed (0x00 ∷ 0x41 ∷ [])) (fault 4 4)
    ∷ checks (framed (0x00 ∷ 0x01 ∷ [])) (fault 3 5)
    ∷ checks (framed (0x00 ∷ 0x01 ∷ 0x21 ∷ [])) (fault 4 5)
    ∷ checks (framed (0x00 ∷ 0x02 ∷ 0x00 ∷ 0x21 ∷ [])) (fault 4 6)
    ∷ checks (framed (0x01 ∷ 0x00 ∷ 0x02 ∷ 0x00 ∷ 0x01 ∷ 0x00 ∷ 0x01 ∷ [])) (fault 7 9)
    ∷ checks (framed (0x01 ∷ 0x00 ∷ 0x02 ∷ 0x00 ∷ 0x01 ∷ 0x00 ∷ 0x00 ∷ [])) (fault 3 10)
    ∷ []

heads-hold : map computed heads ≡ heads
unfolding after need the byte item end first_fault header block run answer layout region counted
heads-hold = refl

-- "label 0 type not ext: 8 at its kind byte, after the type has been read"
abbrev entries : List Row
entries =
    checks (framed (0x01 ∷ 0x00 ∷ 0x01 ∷ 0x01 ∷ [])) (fault 3 7)
    ∷ checks (framed (0x01 ∷ 0x00 ∷ 0x01 ∷ 0x01 ∷ 0x00 ∷ [])) (fault 3 8)
    ∷ checks (framed (0x01 ∷ 0x00 ∷ 0x01 ∷ 0x01 ∷ 0x03 ∷ [])) (fault 6 7)
    ∷ checks (framed (0x01 ∷ 0x00 ∷ 0x01 ∷ 0x01 ∷ 0x00 ∷ 0x01 ∷ [])) (fault 7 8)
    ∷ checks (framed (0x01 ∷ 0x00 ∷ 0x01 ∷ 0x01 ∷ 0x02 ∷ 0x01 ∷ [])) (fault 6 8)
    ∷ checks (framed (0x01 ∷ 0x00 ∷ 0x01 ∷ 0x01 ∷ 0x00 ∷ 0x00 ∷ [])) (fault 8 7)
    ∷ checks (framed (0x01 ∷ 0x00 ∷ 0x01 ∷ 0x01 ∷ 0x01 ∷ 0x00 ∷ [])) (fault 8 7)
    ∷ checks (framed (0x01 ∷ 0x00 ∷ 0x01 ∷ 0x01 ∷ 0x02 ∷ 0x00 ∷ [])) (fault 3 9)
    ∷ checks (framed (0x01 ∷ 0x00 ∷ 0x01 ∷ 0x02 ∷ 0x02 ∷ 0x00 ∷ 0x00 ∷ 0x00 ∷ [])) (fault 8 9)
    ∷ []

entries-hold : map computed entries ≡ entries
unfolding after need the byte item end first_fault header block run answer layout region counted
entries-hold = refl

-- "a region's length field"; "a length field and a literal are one item each"; 11, "bytes left in a region, or in the image after the last body". A region is tested before what follows it is read.
abbrev regions : List Row
regions =
    checks (framed (0x00 ∷ 0x01 ∷ 0x00 ∷ [])) (fault 3 6)
    ∷ checks (framed (0x00 ∷ 0x01 ∷ 0x00 ∷ 0x00 ∷ [])) (fault 3 6)
    ∷ checks (framed (0x00 ∷ 0x01 ∷ 0x00 ∷ 0x00 ∷ 0x01 ∷ [])) (fault 3 6)
    ∷ checks (framed (0x00 ∷ 0x01 ∷ 0x00 ∷ 0x00 ∷ 0x00 ∷ [])) (fault 3 8)
    ∷ checks (framed (0x00 ∷ 0x01 ∷ 0x00 ∷ 0x00 ∷ 0x03 ∷ 0x00 ∷ 0x00 ∷ 0x00 ∷ [])) (fault 11 10)
    ∷ checks (framed (0x00 ∷ 0x01 ∷ 0x00 ∷ 0x00 ∷ 0x02 ∷ 0x00 ∷ 0x00 ∷ 0x00 ∷ [])) (fault 11 10)
    ∷ checks (framed (0x00 ∷ 0x02 ∷ 0x00 ∷ 0x00 ∷ 0x00 ∷ 0x03 ∷ 0x00 ∷ 0x00 ∷ 0x00 ∷ [])) (fault 11 11)
    ∷ checks (framed (0x00 ∷ 0x02 ∷ 0x00 ∷ 0x00 ∷ 0x00 ∷ 0x02 ∷ 0x00 ∷ 0x00 ∷ [])) (fault 3 11)
    ∷ checks (framed (0x00 ∷ 0x02 ∷ 0x00 ∷ 0x00 ∷ 0x00 ∷ 0x02 ∷ 0x00 ∷ 0x00 ∷ 0x00 ∷ 0x02 ∷ 0x00 ∷ 0x00 ∷ [])) (fault 0 15)
    ∷ checks (narrow (0x02 ∷ 0x00 ∷ 0x00 ∷ 0x00 ∷ 0x00 ∷ [])) (fault 3 21)
    ∷ checks (narrow (0x02 ∷ 0x00 ∷ 0x00 ∷ 0x00 ∷ 0x00 ∷ 0x00 ∷ 0x00 ∷ 0x00 ∷ 0x00 ∷ 0x07 ∷ [])) (fault 3 29)
    ∷ checks (narrow (0x02 ∷ 0x00 ∷ 0x00 ∷ 0x00 ∷ 0x00 ∷ 0x00 ∷ 0x00 ∷ 0x00 ∷ 0x00 ∷ 0x07 ∷ 0x00 ∷ [])) (fault 3 29)
    ∷ checks (narrow (0x02 ∷ 0x00 ∷ 0x00 ∷ 0x00 ∷ 0x00 ∷ 0x00 ∷ 0x00 ∷ 0x00 ∷ 0x00 ∷ 0x07 ∷ 0x00 ∷ 0x04 ∷ 0x02 ∷ 0x06 ∷ 0x01 ∷ [])) (fault 3 29)
    ∷ checks (narrow (0x02 ∷ 0x00 ∷ 0x00 ∷ 0x00 ∷ 0x00 ∷ 0x00 ∷ 0x00 ∷ 0x00 ∷ 0x00 ∷ 0x07 ∷ 0x00 ∷ 0x04 ∷ 0x02 ∷ 0x06 ∷ 0x01 ∷ 0x00 ∷ [])) (fault 11 34)
    ∷ checks (narrow (0x02 ∷ 0x00 ∷ 0x00 ∷ 0x00 ∷ 0x00 ∷ 0x00 ∷ 0x00 ∷ 0x00 ∷ 0x00 ∷ 0x07 ∷ 0x00 ∷ 0x03 ∷ 0x02 ∷ 0x06 ∷ 0x01 ∷ 0x00 ∷ [])) (fault 11 34)
    ∷ []

regions-hold : map computed regions ≡ regions
unfolding after need the byte item end first_fault header block run answer layout region counted
regions-hold = refl

-- 6, "unknown .. code": a statement's first item
abbrev codes : List Row
codes =
    checks (narrow ([])) (fault 3 19)
    ∷ checks (narrow (0x07 ∷ [])) (fault 6 19)
    ∷ checks (narrow (0xFF ∷ [])) (fault 6 19)
    ∷ checks (narrow (0x01 ∷ 0x01 ∷ 0x00 ∷ 0x07 ∷ [])) (fault 6 22)
    ∷ []

codes-hold : map computed codes ≡ codes
unfolding after need the byte item end first_fault header block run answer layout region counted
codes-hold = refl

-- "jump: label, then 8 at the code"
abbrev jumps : List Row
jumps =
    checks (narrow (0x00 ∷ [])) (fault 3 20)
    ∷ checks (narrow (0x00 ∷ 0x01 ∷ [])) (fault 7 20)
    ∷ checks (narrow (0x03 ∷ 0x00 ∷ 0x00 ∷ 0x00 ∷ 0x01 ∷ [])) (fault 7 23)
    ∷ checks (narrow (0x03 ∷ 0x00 ∷ 0x00 ∷ 0x00 ∷ 0x00 ∷ [])) (fault 8 22)
    ∷ checks (narrow (0x01 ∷ 0x00 ∷ 0x00 ∷ 0x00 ∷ [])) (fault 8 21)
    ∷ checks (narrow (0x00 ∷ 0x00 ∷ [])) (fault 0 21)
    ∷ []

jumps-hold : map computed jumps ≡ jumps
unfolding after need the byte item end first_fault header block run answer layout region counted
jumps-hold = refl

-- "substitute | count 0 to 32, that many positions, statement"
abbrev substitutes : List Row
substitutes =
    checks (narrow (0x01 ∷ [])) (fault 3 20)
    ∷ checks (narrow (0x01 ∷ 0x21 ∷ [])) (fault 4 20)
    ∷ checks (narrow (0x01 ∷ 0x02 ∷ 0x00 ∷ [])) (fault 3 22)
    ∷ checks (narrow (0x01 ∷ 0x02 ∷ 0x01 ∷ [])) (fault 7 21)
    ∷ checks (narrow (0x01 ∷ 0x01 ∷ 0x00 ∷ [])) (fault 3 22)
    ∷ checks (narrow (0x01 ∷ 0x02 ∷ 0x00 ∷ 0x00 ∷ 0x02 ∷ 0x06 ∷ 0x01 ∷ [])) (fault 0 26)
    ∷ checks (narrow (0x01 ∷ 0x00 ∷ 0x02 ∷ 0x06 ∷ 0x00 ∷ [])) (fault 7 23)
    ∷ checks (narrow (1 ∷ 32 ∷ (replicate 32 0 ++ (2 ∷ 6 ∷ 31 ∷ [])))) (fault 0 56)
    ∷ checks (narrow (1 ∷ 33 ∷ (replicate 33 0 ++ (2 ∷ 6 ∷ 31 ∷ [])))) (fault 4 20)
    ∷ []

substitutes-hold : map computed substitutes ≡ substitutes
unfolding after need the byte item end first_fault header block run answer layout region counted
substitutes-hold = refl

-- "extern: operation; each position 3, 7, then 8 at that position; literal; clauses"
abbrev externs : List Row
externs =
    checks (narrow (0x02 ∷ [])) (fault 3 20)
    ∷ checks (narrow (0x02 ∷ 0x07 ∷ [])) (fault 6 20)
    ∷ checks (narrow (0x02 ∷ 0x06 ∷ [])) (fault 3 21)
    ∷ checks (narrow (0x02 ∷ 0x06 ∷ 0x01 ∷ [])) (fault 7 21)
    ∷ checks (narrow (0x03 ∷ 0x00 ∷ 0x00 ∷ 0x02 ∷ 0x06 ∷ 0x01 ∷ [])) (fault 8 24)
    ∷ checks (narrow (0x04 ∷ 0x01 ∷ 0x00 ∷ 0x01 ∷ 0x00 ∷ 0x00 ∷ 0x03 ∷ 0x02 ∷ 0x06 ∷ 0x00 ∷ 0x02 ∷ 0x06 ∷ 0x01 ∷ [])) (fault 8 31)
    ∷ checks (narrow (0x02 ∷ 0x01 ∷ 0x00 ∷ [])) (fault 3 22)
    ∷ checks (narrow (0x02 ∷ 0x01 ∷ 0x01 ∷ [])) (fault 7 21)
    ∷ checks (narrow (0x02 ∷ 0x01 ∷ 0x00 ∷ 0x01 ∷ [])) (fault 7 22)
    ∷ checks (narrow (0x03 ∷ 0x00 ∷ 0x00 ∷ 0x02 ∷ 0x01 ∷ 0x01 ∷ 0x09 ∷ [])) (fault 8 24)
    ∷ checks (narrow (0x03 ∷ 0x00 ∷ 0x00 ∷ 0x02 ∷ 0x01 ∷ 0x00 ∷ 0x01 ∷ [])) (fault 8 25)
    ∷ checks (narrow (0x02 ∷ 0x05 ∷ 0x00 ∷ 0x00 ∷ [])) (fault 3 23)
    ∷ checks (narrow (0x02 ∷ 0x02 ∷ 0x00 ∷ 0x00 ∷ [])) (fault 3 23)
    ∷ checks (narrow (0x02 ∷ 0x03 ∷ 0x00 ∷ 0x00 ∷ [])) (fault 3 23)
    ∷ checks (narrow (0x02 ∷ 0x04 ∷ 0x00 ∷ [])) (fault 3 22)
    ∷ checks (narrow (0x02 ∷ 0x04 ∷ 0x00 ∷ 0x00 ∷ 0x03 ∷ 0x02 ∷ 0x06 ∷ 0x00 ∷ [])) (fault 3 27)
    ∷ checks (narrow (0x02 ∷ 0x05 ∷ 0x00 ∷ 0x00 ∷ 0x00 ∷ 0x03 ∷ 0x02 ∷ 0x06 ∷ 0x00 ∷ [])) (fault 3 28)
    ∷ checks (narrow (0x02 ∷ 0x06 ∷ 0x00 ∷ 0x00 ∷ [])) (fault 11 22)
    ∷ []

externs-hold : map computed externs ≡ externs
unfolding after need the byte item end first_fault header block run answer layout region counted
externs-hold = refl

-- "let: signature, symbol, 8 at the code, then 5 at the code"
abbrev lets : List Row
lets =
    checks (narrow (0x03 ∷ [])) (fault 3 20)
    ∷ checks (narrow (0x03 ∷ 0x02 ∷ [])) (fault 7 20)
    ∷ checks (narrow (0x03 ∷ 0x00 ∷ [])) (fault 3 21)
    ∷ checks (narrow (0x03 ∷ 0x00 ∷ 0x02 ∷ [])) (fault 7 21)
    ∷ checks (narrow (0x03 ∷ 0x00 ∷ 0x00 ∷ 0x03 ∷ 0x00 ∷ 0x02 ∷ [])) (fault 7 24)
    ∷ checks (narrow (0x03 ∷ 0x00 ∷ 0x00 ∷ 0x03 ∷ 0x00 ∷ 0x01 ∷ [])) (fault 8 22)
    ∷ checks (narrow (0x01 ∷ 0x00 ∷ 0x03 ∷ 0x00 ∷ 0x01 ∷ [])) (fault 8 21)
    ∷ checks (narrow (0x03 ∷ 0x00 ∷ 0x01 ∷ [])) (fault 3 22)
    ∷ checks (wide (0x03 ∷ 0x00 ∷ 0x00 ∷ [])) (fault 5 81)
    ∷ checks (wide (0x03 ∷ 0x00 ∷ 0x01 ∷ [])) (fault 3 84)
    ∷ []

lets-hold : map computed lets ≡ lets
unfolding after need the byte item end first_fault header block run answer layout region counted
lets-hold = refl

-- "new: signature; capture count (3, then 8 at that byte if above the environment); clause count; clauses; then 5 at the code for the remainder"
abbrev news : List Row
news =
    checks (narrow (0x04 ∷ [])) (fault 3 20)
    ∷ checks (narrow (0x04 ∷ 0x02 ∷ [])) (fault 7 20)
    ∷ checks (narrow (0x04 ∷ 0x01 ∷ [])) (fault 3 21)
    ∷ checks (narrow (0x04 ∷ 0x01 ∷ 0x02 ∷ [])) (fault 8 21)
    ∷ checks (narrow (0x04 ∷ 0x01 ∷ 0x02 ∷ 0x09 ∷ [])) (fault 8 21)
    ∷ checks (narrow (0x04 ∷ 0x01 ∷ 0x01 ∷ [])) (fault 3 22)
    ∷ checks (narrow (0x04 ∷ 0x01 ∷ 0x01 ∷ 0x00 ∷ [])) (fault 9 22)
    ∷ checks (narrow (0x04 ∷ 0x01 ∷ 0x01 ∷ 0x02 ∷ [])) (fault 9 22)
    ∷ checks (narrow (0x04 ∷ 0x01 ∷ 0x01 ∷ 0x01 ∷ 0x00 ∷ 0x00 ∷ 0x03 ∷ 0x02 ∷ 0x06 ∷ 0x00 ∷ [])) (fault 3 29)
    ∷ checks (narrow (0x04 ∷ 0x01 ∷ 0x01 ∷ 0x01 ∷ 0x00 ∷ 0x00 ∷ 0x03 ∷ 0x02 ∷ 0x06 ∷ 0x00 ∷ 0x06 ∷ 0x00 ∷ [])) (fault 8 29)
    ∷ checks (narrow (0x04 ∷ 0x01 ∷ 0x00 ∷ 0x01 ∷ 0x00 ∷ 0x00 ∷ 0x03 ∷ 0x02 ∷ 0x06 ∷ 0x00 ∷ 0x06 ∷ 0x00 ∷ [])) (fault 0 31)
    ∷ checks (wide (0x04 ∷ 0x01 ∷ 0x00 ∷ 0x01 ∷ 0x01 ∷ [])) (fault 9 85)
    ∷ checks (wide (0x04 ∷ 0x01 ∷ 0x00 ∷ 0x01 ∷ 0x00 ∷ 0x00 ∷ 0x01 ∷ 0x07 ∷ [])) (fault 6 88)
    ∷ checks (wide (0x04 ∷ 0x01 ∷ 0x00 ∷ 0x01 ∷ 0x00 ∷ 0x00 ∷ 0x03 ∷ 0x02 ∷ 0x06 ∷ 0x00 ∷ [])) (fault 5 81)
    ∷ checks (wide (0x04 ∷ 0x01 ∷ 0x01 ∷ 0x01 ∷ 0x00 ∷ 0x00 ∷ 0x03 ∷ 0x02 ∷ 0x06 ∷ 0x00 ∷ [])) (fault 3 91)
    ∷ []

news-hold : map computed news ≡ news
unfolding after need the byte item end first_fault header block run answer layout region counted
news-hold = refl

-- "switch: signature, 8 at the code, clause count, clauses"
abbrev switches : List Row
switches =
    checks (narrow (0x05 ∷ [])) (fault 3 20)
    ∷ checks (narrow (0x05 ∷ 0x02 ∷ [])) (fault 7 20)
    ∷ checks (narrow (0x05 ∷ 0x00 ∷ [])) (fault 8 19)
    ∷ checks (narrow (0x05 ∷ 0x00 ∷ 0x09 ∷ [])) (fault 8 19)
    ∷ checks (narrow (0x01 ∷ 0x00 ∷ 0x05 ∷ 0x00 ∷ [])) (fault 8 21)
    ∷ checks (narrow (0x04 ∷ 0x01 ∷ 0x01 ∷ 0x01 ∷ 0x00 ∷ 0x00 ∷ 0x03 ∷ 0x02 ∷ 0x06 ∷ 0x00 ∷ 0x05 ∷ 0x01 ∷ [])) (fault 8 29)
    ∷ checks (narrow (0x03 ∷ 0x00 ∷ 0x00 ∷ 0x05 ∷ 0x01 ∷ [])) (fault 8 22)
    ∷ checks (narrow (0x03 ∷ 0x00 ∷ 0x00 ∷ 0x05 ∷ 0x00 ∷ [])) (fault 3 24)
    ∷ checks (narrow (0x03 ∷ 0x00 ∷ 0x00 ∷ 0x05 ∷ 0x00 ∷ 0x01 ∷ [])) (fault 9 24)
    ∷ checks (narrow (0x03 ∷ 0x00 ∷ 0x00 ∷ 0x05 ∷ 0x00 ∷ 0x03 ∷ [])) (fault 9 24)
    ∷ checks (narrow (0x03 ∷ 0x00 ∷ 0x00 ∷ 0x05 ∷ 0x00 ∷ 0x02 ∷ 0x00 ∷ 0x00 ∷ 0x03 ∷ 0x02 ∷ 0x06 ∷ 0x00 ∷ 0x01 ∷ 0x00 ∷ 0x03 ∷ 0x02 ∷ 0x06 ∷ 0x01 ∷ [])) (fault 0 37)
    ∷ []

switches-hold : map computed switches ≡ switches
unfolding after need the byte item end first_fault header block run answer layout region counted
switches-hold = refl

-- "invoke: 8 at the code if the last entry is absent or not cns; symbol; 8 at the code for the rest"
abbrev invokes : List Row
invokes =
    checks (narrow (0x01 ∷ 0x00 ∷ 0x06 ∷ [])) (fault 8 21)
    ∷ checks (narrow (0x06 ∷ [])) (fault 8 19)
    ∷ checks (narrow (0x03 ∷ 0x00 ∷ 0x00 ∷ 0x06 ∷ [])) (fault 8 22)
    ∷ checks (narrow (0x04 ∷ 0x01 ∷ 0x00 ∷ 0x01 ∷ 0x00 ∷ 0x00 ∷ 0x03 ∷ 0x02 ∷ 0x06 ∷ 0x00 ∷ 0x06 ∷ [])) (fault 3 30)
    ∷ checks (narrow (0x04 ∷ 0x01 ∷ 0x00 ∷ 0x01 ∷ 0x00 ∷ 0x00 ∷ 0x03 ∷ 0x02 ∷ 0x06 ∷ 0x00 ∷ 0x06 ∷ 0x01 ∷ [])) (fault 7 30)
    ∷ checks (narrow (0x01 ∷ 0x02 ∷ 0x00 ∷ 0x00 ∷ 0x04 ∷ 0x01 ∷ 0x00 ∷ 0x01 ∷ 0x00 ∷ 0x00 ∷ 0x03 ∷ 0x02 ∷ 0x06 ∷ 0x00 ∷ 0x06 ∷ 0x01 ∷ [])) (fault 7 34)
    ∷ checks (narrow (0x01 ∷ 0x02 ∷ 0x00 ∷ 0x00 ∷ 0x04 ∷ 0x01 ∷ 0x00 ∷ 0x01 ∷ 0x00 ∷ 0x00 ∷ 0x03 ∷ 0x02 ∷ 0x06 ∷ 0x00 ∷ 0x06 ∷ 0x00 ∷ [])) (fault 8 33)
    ∷ checks (narrow (0x01 ∷ 0x00 ∷ 0x04 ∷ 0x01 ∷ 0x00 ∷ 0x01 ∷ 0x00 ∷ 0x00 ∷ 0x03 ∷ 0x02 ∷ 0x06 ∷ 0x00 ∷ 0x06 ∷ 0x00 ∷ [])) (fault 8 31)
    ∷ []

invokes-hold : map computed invokes ≡ invokes
unfolding after need the byte item end first_fault header block run answer layout region counted
invokes-hold = refl

-- "clause: symbol byte (3, 9); 5 and 10, both at the clause's first byte, or where an extern clause's length field stands or would stand; length"
abbrev clauses : List Row
clauses =
    checks (narrow (0x04 ∷ 0x01 ∷ 0x01 ∷ 0x01 ∷ [])) (fault 3 23)
    ∷ checks (narrow (0x04 ∷ 0x01 ∷ 0x01 ∷ 0x01 ∷ 0x01 ∷ [])) (fault 9 23)
    ∷ checks (narrow (0x04 ∷ 0x01 ∷ 0x01 ∷ 0x01 ∷ 0x00 ∷ [])) (fault 3 24)
    ∷ checks (narrow (0x04 ∷ 0x01 ∷ 0x01 ∷ 0x01 ∷ 0x00 ∷ 0x00 ∷ [])) (fault 3 24)
    ∷ checks (narrow (0x04 ∷ 0x01 ∷ 0x01 ∷ 0x01 ∷ 0x00 ∷ 0x00 ∷ 0x04 ∷ 0x02 ∷ 0x06 ∷ 0x00 ∷ [])) (fault 3 24)
    ∷ checks (narrow (0x03 ∷ 0x00 ∷ 0x00 ∷ 0x05 ∷ 0x00 ∷ 0x02 ∷ 0x00 ∷ 0x00 ∷ 0x03 ∷ 0x02 ∷ 0x06 ∷ 0x00 ∷ 0x00 ∷ [])) (fault 9 31)
    ∷ checks (narrow (0x03 ∷ 0x00 ∷ 0x00 ∷ 0x05 ∷ 0x00 ∷ 0x02 ∷ 0x00 ∷ 0x00 ∷ 0x04 ∷ 0x02 ∷ 0x06 ∷ 0x00 ∷ 0x00 ∷ 0x00 ∷ [])) (fault 11 31)
    ∷ checks (narrow (0x03 ∷ 0x00 ∷ 0x00 ∷ 0x05 ∷ 0x00 ∷ 0x02 ∷ 0x00 ∷ 0x00 ∷ 0x03 ∷ 0x02 ∷ 0x06 ∷ 0x00 ∷ [])) (fault 3 31)
    ∷ checks (wide (0x04 ∷ 0x01 ∷ 0x20 ∷ 0x01 ∷ [])) (fault 3 85)
    ∷ checks (wide (0x04 ∷ 0x01 ∷ 0x20 ∷ 0x01 ∷ 0x01 ∷ [])) (fault 9 85)
    ∷ checks (wide (0x04 ∷ 0x01 ∷ 0x20 ∷ 0x01 ∷ 0x00 ∷ [])) (fault 5 85)
    ∷ checks (wide (0x02 ∷ 0x00 ∷ 0x00 ∷ 0x00 ∷ 0x00 ∷ 0x00 ∷ 0x00 ∷ 0x00 ∷ 0x00 ∷ 0x07 ∷ [])) (fault 5 91)
    ∷ checks (wide (0x02 ∷ 0x01 ∷ 0x00 ∷ 0x00 ∷ [])) (fault 5 85)
    ∷ checks (wide (0x02 ∷ 0x04 ∷ 0x00 ∷ 0x00 ∷ 0x03 ∷ 0x02 ∷ 0x06 ∷ 0x00 ∷ 0x00 ∷ 0x03 ∷ 0x02 ∷ 0x06 ∷ 0x00 ∷ [])) (fault 0 94)
    ∷ []

clauses-hold : map computed clauses ≡ clauses
unfolding after need the byte item end first_fault header block run answer layout region counted
clauses-hold = refl

-- ---- limits

-- labels, of which the first has no types
abbrev labelled : List Environment → List Statement → List ℕ
labelled Θ ss = layout (record { signatures = []; labels = [] ∷ Θ; bodies = jump 0 ∷ ss })

-- 4, "a count outside its limits", on both sides of each limit of "Image layout"
abbrev limits : List Row
limits =
    checks (single (replicate 64 ([] ∷ [])) [] (jump 0)) (fault 0 138)
    ∷ checks (single (replicate 65 ([] ∷ [])) [] (jump 0)) (fault 4 3)
    ∷ checks (single (replicate 32 [] ∷ []) [] (jump 0)) (fault 0 43)
    ∷ checks (single (replicate 33 [] ∷ []) [] (jump 0)) (fault 4 4)
    ∷ checks (single ((replicate 16 ext ∷ []) ∷ []) [] (jump 0)) (fault 0 44)
    ∷ checks (single ((replicate 17 ext ∷ []) ∷ []) [] (jump 0)) (fault 4 5)
    ∷ checks (labelled (replicate 63 []) (replicate 63 (jump 0))) (fault 0 325)
    ∷ checks (labelled (replicate 64 []) (replicate 64 (jump 0))) (fault 4 4)
    ∷ checks (single [] (replicate 32 ext) exits) (fault 0 75)
    ∷ checks (single [] (replicate 33 ext) exits) (fault 4 5)
    ∷ checks (labelled (replicate 32 ext ∷ []) (exits ∷ [])) (fault 0 80)
    ∷ checks (labelled (replicate 33 ext ∷ []) (exits ∷ [])) (fault 4 6)
    ∷ []

limits-hold : map computed limits ≡ limits
unfolding after need the byte item end first_fault header block run answer layout region counted
limits-hold = refl

-- ---- all of them

abbrev pub order : List Row
order = start ++ heads ++ entries ++ regions ++ codes ++ jumps ++ substitutes ++ externs ++ lets ++ news ++ switches ++ invokes ++ clauses ++ limits

pub order-hold : map computed order ≡ order
order-hold = both computed start-hold (both computed heads-hold (both computed entries-hold (both computed regions-hold (both computed codes-hold (both computed jumps-hold (both computed substitutes-hold (both computed externs-hold (both computed lets-hold (both computed news-hold (both computed switches-hold (both computed invokes-hold (both computed clauses-hold limits-hold))))))))))))

-- ---- what one statement is refused for, at a depth and in an environment

-- A depth, an environment, a statement's bytes from offset 0 on; the first fault, or 0 with where it ends.
pub data Reading : Type 0 where
  reads : ℕ → Environment → List ℕ → Fault → Reading

abbrev pub read : Reading → Reading
read (reads d Δ bytes stated) = reads d Δ bytes (verdict (statement two [] 9 d Δ 0 bytes))

-- a lit up to its clause, which gains an integer; and with that clause
abbrev lits : List ℕ
lits = 2 ∷ 0 ∷ replicate 8 0

abbrev lit_exits : List ℕ
lit_exits = lits ++ (0 ∷ 3 ∷ 2 ∷ 6 ∷ 0 ∷ [])

-- "clause: symbol byte (3, 9); 5 and 10 ..; length": the symbol byte's 9 before 5, 5 before 10, 10 before the length field's 3; of new and of switch, and of an extern where the length field would stand
abbrev depths : List Reading
depths =
    reads 48 (ext ∷ []) (4 ∷ 1 ∷ 1 ∷ 1 ∷ 1 ∷ []) (fault 9 4)
    ∷ reads 48 (replicate 32 ext) (4 ∷ 1 ∷ 32 ∷ 1 ∷ 0 ∷ []) (fault 5 4)
    ∷ reads 48 (ext ∷ []) (4 ∷ 1 ∷ 1 ∷ 1 ∷ 0 ∷ []) (fault 10 4)
    ∷ reads 48 (ext ∷ []) (4 ∷ 1 ∷ 1 ∷ 1 ∷ 0 ∷ 255 ∷ 255 ∷ []) (fault 10 4)
    ∷ reads 48 (prd 1 ∷ []) (5 ∷ 1 ∷ 1 ∷ 0 ∷ 0 ∷ []) (fault 10 3)
    ∷ reads 47 (prd 1 ∷ []) (5 ∷ 1 ∷ 1 ∷ 0 ∷ 0 ∷ []) (fault 3 4)
    ∷ reads 48 (replicate 32 ext) lits (fault 5 10)
    ∷ reads 48 (replicate 31 ext) lits (fault 10 10)
    ∷ reads 48 (replicate 31 ext) (lits ++ (255 ∷ 255 ∷ [])) (fault 10 10)
    ∷ reads 47 (replicate 31 ext) lits (fault 3 10)
    ∷ reads 47 (replicate 31 ext) lit_exits (fault 0 15)
    ∷ []

depths-hold : map read depths ≡ depths
unfolding after need the byte item end
depths-hold = refl

-- only clauses add depth: what follows let, substitute or new stays at its own, and may have a clause there
abbrev kept-depths : List Reading
kept-depths =
    reads 47 (ext ∷ []) (3 ∷ 0 ∷ 0 ∷ lit_exits) (fault 0 18)
    ∷ reads 47 (ext ∷ []) (1 ∷ 1 ∷ 0 ∷ lit_exits) (fault 0 18)
    ∷ reads 47 (ext ∷ ext ∷ []) (4 ∷ 1 ∷ 1 ∷ 1 ∷ 0 ∷ 0 ∷ 3 ∷ 2 ∷ 6 ∷ 0 ∷ lit_exits) (fault 0 25)
    ∷ reads 48 (ext ∷ []) (3 ∷ 0 ∷ 0 ∷ lit_exits) (fault 10 13)
    ∷ []

kept-depths-hold : map read kept-depths ≡ kept-depths
unfolding after need the byte item end
kept-depths-hold = refl

-- let: "8 at the code, then 5 at the code": both fail only in an environment above 32, which no image reaches
abbrev wide-lets : List Reading
wide-lets = reads 0 (replicate 33 ext ++ (prd 0 ∷ [])) (3 ∷ 0 ∷ 1 ∷ []) (fault 8 0) ∷ reads 0 (replicate 33 ext) (3 ∷ 0 ∷ 1 ∷ []) (fault 5 0) ∷ []

wide-lets-hold : map read wide-lets ≡ wide-lets
unfolding after need the byte item end
wide-lets-hold = refl

abbrev pub readings : List Reading
readings = depths ++ kept-depths ++ wide-lets

pub readings-hold : map read readings ≡ readings
readings-hold = both read depths-hold (both read kept-depths-hold wide-lets-hold)

-- "equals": types are compared by kind and by number
pub types-compared : map (same_type (cns 1)) (cns 1 ∷ cns 0 ∷ prd 1 ∷ ext ∷ []) ++ map (same_type (prd 1)) (prd 1 ∷ prd 0 ∷ cns 1 ∷ ext ∷ []) ++ map (same_type ext) (ext ∷ prd 0 ∷ cns 0 ∷ [])
    ≡ true ∷ false ∷ false ∷ false ∷ true ∷ false ∷ false ∷ false ∷ true ∷ false ∷ false ∷ []
types-compared = refl
