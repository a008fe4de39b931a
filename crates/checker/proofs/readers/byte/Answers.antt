-- byte: an offset that is not past the end is inside, with its byte, or is the end. Assumes nothing.
use native.Mathlib.Omega.{arith}
use Rattle.std.proofs.Common.{ℕ, ◌≤◌, ◌<◌, ◌≡◌, List, length, get_or, Option, Some, None, MatchOption, Bor}
use Rattle.std.specs.Option.{ok_or, option_copied, option_map, unwrap_or}
use Rattle.checker.specs.Faults.{at as fault-at}
use Rattle.checker.specs.declared.faults.Refusal.TheVariants.{Short}
use Rattle.checker.specs.Readers.{ByteIs, byte_is, byte_ended}
use Rattle.checker.proofs.readers.byte.Goals as goal

-- what was looked up at `at`, as a byte that was read
looked-up : (s : List ℕ) (at : ℕ) → at ≤ length s → (o : Option (Bor ℕ)) → (P : Bor ℕ → Type 0)
    → MatchOption o (length s ≤ at) (λ x. (at < length s) × P x) → unwrap_or (option_map (λ x. x.now) o) 0 ≡ get_or s at 0 → ByteIs s at (ok_or (option_copied o) (fault-at Short at))
looked-up s at h None P m e = byte_ended (omega arith)
looked-up s at h (Some x) P m e = byte_is m.0 e

pub returns : goal.returns
returns c = rw (c.ok_or.ensures.value, c.copied.ensures, c.at.ensures) (looked-up _ _ c.requires _ _ (c.get.ensures.lookup.3) (c.get.ensures.lookup.4 (omega arith) 0))
