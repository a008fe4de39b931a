-- What the readers of items give at an offset of a slice. Assumes nothing.
use Prim.Native.Nat.{ℕ, ◌+◌, ◌<◌}
use mathlib.Core.Path.{◌≡◌}
use mathlib.Core.List.{List}
use native.Mathlib.Numerals.{add-one}
use native.Mathlib.Omega.{arith}
use lib.ListN.{length, get_or, drop}
use lib.Seq.{drop-cons, drop-length}
use mir.Syntax.{w8}
use mir.Val.{Fits}
use Rattle.definitions.specs.Layout.{Bytes}
use borrow.Author.Tests.{lt-leb}
use Rattle.definitions.specs.Reader.{fault, got, refused, byte, item}

-- at the slice's end a byte is refused with 3, and before it the byte there is given
pub byte-end : (s : List ℕ) (at : ℕ) → at ≡ length s → byte at (drop at s) ≡ refused (fault 3 at)
unfolding byte
byte-end s at e = rw (e, drop-length s)

pub byte_at : (s : List ℕ) (at : ℕ) → at < length s → byte at (drop at s) ≡ got (get_or s at 0) (at + 1) (drop (at + 1) s)
unfolding byte
byte_at s at h = rw (drop-cons s at 0 h, add-one at)

-- an item that is cut short is refused with 3 too
pub item-short : (k at : ℕ) (xs : List ℕ) → length xs < k → item k at xs ≡ refused (fault 3 at)
unfolding item
item-short k at xs h = rw (lt-leb k (length xs) h, item)

-- every element of a slice of bytes is a byte
abbrev pub Octets : List ℕ → Type 0
Octets s = (i : ℕ) → Fits w8 (get_or s i 0)

pub octets : (s : List ℕ) → Octets s → Bytes s
octets s b i = omega (arith, b i)
