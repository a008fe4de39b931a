-- What a text holds.
use Rattle.std.specs.Prelude.{ℕ, ◌-◌, ◌≤◌, ◌≡◌, List, ◌++◌, length, replicate}
use Rattle.printer.specs.declared.text.Text.{Text}

-- A text holds these bytes, and zeros behind them.
pub record Holds (t : Text) (xs : List ℕ) : Type 0 where
  pub fits : length xs ≤ 128
  pub length-is : t.length ≡ length xs
  pub bytes-are : t.bytes ≡ xs ++ replicate (128 - length xs) 0
