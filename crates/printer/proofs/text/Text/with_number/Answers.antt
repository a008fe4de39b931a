-- with_number: a number has at most 20 figures, so 21 bytes are room for it and the byte behind. Assumes nothing.
use mathlib.Core.Path.{refl}
use native.Mathlib.Omega.{arith}
use Rattle.printer.proofs.TextLaws as law
use Rattle.printer.proofs.text.Text.with_number.Goals as goal

pub returns-clause-holds : goal.returns-clause-holds
returns-clause-holds c = λ xs h f. law.numbered c.args.self c.decimal-count.new.out _ c.args.behind xs h f c.decimal-count.ensures.len
    (omega arith) c.decimal-count.ensures.in_bounds.0 c.decimal-count.ensures.digits c.copy_from_slice.ensures.after _ refl refl
