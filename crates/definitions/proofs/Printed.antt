-- What the program prints, computed from the definitions: document 01, "for a run without arguments, 1,024 words, fuel 100,000", "at most 16,385 bytes". Assumes nothing.
use Prim.Native.Nat.{ℕ, zero, suc, ◌+◌, ◌≤◌}
use mathlib.Core.Path.{◌≡◌, refl, ◌∙◌}
use mathlib.Core.List.{List, [], ◌∷◌, ◌++◌, map}
use mathlib.Core.Bool.{true}
use native.Mathlib.Nat.{add-suc, suc-add, add-zero}
use native.Mathlib.Omega.{arith}
use lib.ListN.{length, replicate}
use lib.Dec.{leb}
use borrow.Author.Tests.{le-leb}
use Rattle.definitions.specs.Limits.{largest_table}
use Rattle.definitions.specs.Reader.{after, need, the, byte, item, end}
use Rattle.definitions.specs.FirstFault.{first_fault}
use Rattle.definitions.specs.Terms.{ext, lit, Statement, jump, substitute, extern, let', none, clause}
use Rattle.definitions.specs.Layout.{layout}
use Rattle.definitions.specs.Run.{Next, goes, fuel_spent, run}
use Rattle.definitions.specs.RawMachine.{Configuration, block, header, step}
use Rattle.definitions.specs.Answer.{answer, start, run_trees, line, printed}
use Rattle.definitions.proofs.Images.{B, exits, single}
use Rattle.definitions.proofs.Rows.{says}

module _ {C : Type 0} (next : C → Next C) (words : C → ℕ) (size : ℕ) (c : C) (e : next c ≡ goes c) (h : words c ≤ size) where
  one-round : (f n : ℕ) → run next words size (suc f) n c ≡ run next words size f (suc n) c
  unfolding run
  one-round f n = rw (e, le-leb (words c) size h, run)

  -- a machine that goes round in one configuration spends all its fuel there
  rounds : (f n : ℕ) → run next words size f n c ≡ record { how = fuel_spent; steps = n + f; final = c }
  unfolding run
  rounds zero n = rw add-zero
  rounds (suc f) n = one-round f n ∙ rw (add-suc n f, ← (suc-add n f)) (rounds f (suc n))

-- a label that jumps to itself
abbrev pub round : List ℕ
round = single [] [] (jump 0)

round-steps : (fuel size : ℕ) → run_trees round [] fuel size ≡ record { how = fuel_spent; steps = 0 + fuel; final = start round [] }
unfolding after need the byte item end header block layout
round-steps fuel size = rounds (step round) (λ (c : Configuration). length c.stored) size (start round []) refl (omega arith) fuel 0

round-answer : (fuel : ℕ) (table : List ℕ) → leb (length table) largest_table ≡ true → answer round [] fuel table ≡ says 41 (0 + fuel) 0 0 table
unfolding after need the byte item end first_fault header block layout answer
round-answer fuel table h = rw (h, round-steps fuel (length table))

-- "fuel 100,000"
pub fuel-printed : printed round ≡ line (0 ∷ 10 ∷ []) ++ line (41 ∷ 100000 ∷ 0 ∷ 0 ∷ [])
unfolding after need the byte item end first_fault layout printed
fuel-printed = rw (round-answer _ _ refl)

-- "Unsigned decimal, single spaces": such a line, byte by byte
pub line-bytes : line (41 ∷ 100000 ∷ 0 ∷ 9 ∷ []) ≡ 0x34 ∷ 0x31 ∷ 0x20 ∷ 0x31 ∷ 0x30 ∷ 0x30 ∷ 0x30 ∷ 0x30 ∷ 0x30 ∷ 0x20 ∷ 0x30 ∷ 0x20 ∷ 0x39 ∷ 0x0A ∷ []
line-bytes = refl

-- so many blocks of 16 integers, then one of a single integer
abbrev blocks : ℕ → Statement
blocks zero = substitute (0 ∷ 0 ∷ []) (let' 0 1 exits)
blocks (suc n) = substitute (replicate 32 0) (let' 0 0 (blocks n))

abbrev pub full : List ℕ
full = single ((replicate 16 ext ∷ (ext ∷ []) ∷ []) ∷ []) [] (extern (lit 7) [] (clause 0 (blocks 32) none))

-- "1,024 words": 32 blocks of 32 words find room, and two more words do not
pub room-printed : printed full ≡ line (0 ∷ 1251 ∷ []) ++ line (42 ∷ 66 ∷ 1024 ∷ 0 ∷ [])
unfolding after need the byte item end first_fault header block run answer layout printed
room-printed = refl

-- "at most 16,385 bytes": one more than an image may have, so that a longer input is refused for its size
pub too-much-printed : printed (replicate 16385 0) ≡ line (1 ∷ 0 ∷ []) ++ line (1 ∷ 0 ∷ 0 ∷ 0 ∷ [])
unfolding after need the byte item end first_fault header block run answer layout printed
too-much-printed = refl

pub sizes-printed : map printed (replicate 16384 0 ∷ replicate 16386 0 ∷ []) ≡ (line (2 ∷ 0 ∷ []) ++ line (2 ∷ 0 ∷ 0 ∷ 0 ∷ [])) ∷ (line (1 ∷ 0 ∷ []) ++ line (1 ∷ 0 ∷ 0 ∷ 0 ∷ [])) ∷ []
unfolding after need the byte item end first_fault header block run answer layout printed
sizes-printed = refl

-- "a run without arguments": B takes two
pub arguments-printed : printed B ≡ line (0 ∷ 35 ∷ []) ++ line (20 ∷ 0 ∷ 0 ∷ 0 ∷ [])
unfolding after need the byte item end first_fault header block run answer printed
arguments-printed = refl

-- "prints .. value": all 64 bits of it
abbrev pub greatest : List ℕ
greatest = single [] [] (extern (lit 0xFFFFFFFFFFFFFFFF) [] (clause 0 exits none))

pub value-printed : printed greatest ≡ line (0 ∷ 23 ∷ []) ++ line (40 ∷ 2 ∷ 0 ∷ 18446744073709551615 ∷ [])
unfolding after need the byte item end first_fault header block run answer layout printed
value-printed = refl
