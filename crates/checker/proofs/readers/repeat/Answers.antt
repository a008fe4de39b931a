-- repeat: a reading that fails is the whole's fault, and one that goes on leaves the others; where none is left, the walk is at `p`. Assumes nothing.
use Rattle.std.proofs.Common.{rules, arith, ◌≡◌, Err}
use Rattle.checker.proofs.Repeats as law
use Rattle.checker.proofs.readers.repeat.Goals as goal

pub returns-in_err-p-clause-repeated : goal.returns-in_err-p-clause-repeated
returns-in_err-p-clause-repeated g c =
    let e : c.from_residual.result ≡ Err c.in_err-p.field-0.0 = search rules in
    rw e (c.loop.invariant.rest _ (law.next-fails _ _ _ _ c.loop-test.true _ c.in_err-p.ensures))

pub loop-preserved : goal.loop-preserved
loop-preserved g c =
    let w = c.requires.goes_on _ _ c.in_ok-p.ensures in
    record {
      from = omega (arith, w);
      inside = omega (arith, w);
      rest = λ r t. c.loop.invariant.rest r (law.next-on _ _ _ _ c.loop-test.true _ c.in_ok-p.ensures r t);
    }

pub returns-clause-repeated : goal.returns-clause-repeated
returns-clause-repeated g c = c.loop.invariant.rest _ (law.none-left _ _ _ _ c.loop-test.false)
