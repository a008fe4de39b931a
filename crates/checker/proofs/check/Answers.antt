-- check: where `read_image` goes on to an end the reading succeeded, which is number 0 there, and where it stops its number and offset are the first fault's. Assumes nothing.
use native.Mathlib.Omega.{arith}
use Rattle.checker.proofs.CheckLaws as law
use Rattle.checker.proofs.check.Goals as goal

-- each number by `omega`, however the code computes it: so the edits of the numbers are refused for what they give
pub returns-in-Ok : goal.returns-in-Ok
returns-in-Ok c = law.check-on _ _ c.in-Ok.ensures _ (omega arith)

pub returns-in-Err : goal.returns-in-Err
returns-in-Err c = law.check-bad _ _ c.in-Err.ensures _ (omega (arith, c.number.ensures))
