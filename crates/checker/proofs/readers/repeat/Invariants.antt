-- repeat: what the readings that are left answer from `p` on is what all answer from `at` on. Assumes nothing.
use Rattle.std.proofs.Common.{◌≤◌, length, ◌-◌}
use Rattle.checker.specs.Shown.{Walk}
use Rattle.checker.specs.Readers.{Repeated}
use Rattle.checker.proofs.readers.repeat.Given as goal

abbrev pub invariant-loop : goal.invariant-loop
invariant-loop g l = record {
  from : l.at ≤ l.p;
  inside : l.p ≤ length l.s;
  rest : (r : Walk) → Repeated (λ p r. goal.F-post g l.read p r) (l.n - l.counter) l.p r → Repeated (λ p r. goal.F-post g l.read p r) l.n l.at r;
}
