use Rattle.std.proofs.Common.{◌≤◌, length}
use Rattle.checker.specs.Laid.{parameters_bytes}
use Rattle.checker.specs.Places.{Through}
use Rattle.checker.proofs.places.skip_lists.Given as goal

abbrev pub invariant-loop : goal.invariant-loop
invariant-loop l = ((l.at ≤ length l.s → l.at ≤ l.p) × (l.at ≤ length l.s → l.p ≤ length l.s)) × Through parameters_bytes l.s l.at l.counter l.p
