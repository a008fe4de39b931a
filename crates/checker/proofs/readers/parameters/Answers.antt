-- parameters: behind the count stand as many types, each of two bytes. Assumes nothing.
use native.Mathlib.Omega.{arith}
use Rattle.std.proofs.Common.{◌≡◌, ◌+◌, ◌*◌, ◌-◌, get_or, length}
use Rattle.checker.proofs.Lists.{parameters-at}
use Rattle.exactness.proofs.Readers.{with'}
use Rattle.checker.proofs.readers.parameters.Goals as goal

pub returns-clause-types : goal.returns-clause-types
returns-clause-types c = λ Γ l.
    with' (parameters-at c.args.image.now c.args.list Γ l) λ p.
    let n : c.args.list + 1 + 2 * get_or c.args.image.now c.args.list 0 - (c.args.list + 1) ≡ length Γ + length Γ = omega (arith, p.count) in
    rw n p.types
