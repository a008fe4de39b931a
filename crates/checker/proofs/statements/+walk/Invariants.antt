-- The walk over statements: each call is at a later byte of the region, or at the same one with a lower rank, so four times the bytes left and a rank fall.
-- The loops keep that whatever answers from here answers from the start.
use Rattle.std.specs.Prelude.{◌+◌, ◌-◌, ◌*◌, ◌≤◌, length}
use Rattle.checker.specs.Shown.{Walk}
use Rattle.checker.specs.Statements.{StatementIs, ClausesFrom, ClausesAre, BareAre}
use Rattle.checker.proofs.ClauseLaws.{ListsFrom}
use Rattle.checker.proofs.statements.+walk.Given as goal

abbrev pub decreases-statement : goal.decreases-statement
decreases-statement l = 4 * (length l.region.now.bytes.now - l.at) + 3

abbrev pub decreases-extern_ : goal.decreases-extern_
decreases-extern_ l = 4 * (length l.region.now.bytes.now - l.at) + 2

abbrev pub decreases-new_ : goal.decreases-new_
decreases-new_ l = 4 * (length l.region.now.bytes.now - l.at) + 2

abbrev pub decreases-switch_ : goal.decreases-switch_
decreases-switch_ l = 4 * (length l.region.now.bytes.now - l.at) + 2

abbrev pub decreases-bare_clauses : goal.decreases-bare_clauses
decreases-bare_clauses l = 4 * (length l.region.now.bytes.now - l.at) + 1

abbrev pub decreases-clauses : goal.decreases-clauses
decreases-clauses l = 4 * (length l.region.now.bytes.now - l.at) + 1

abbrev pub decreases-in_region : goal.decreases-in_region
decreases-in_region l = 4 * (length l.region.now.bytes.now - l.at)

abbrev pub invariant-statement-loop-e : goal.invariant-statement-loop-e
invariant-statement-loop-e l = record {
  later : l.at ≤ l.p;
  inside : l.p ≤ length l.region.bytes.now;
  is : (r : Walk) → StatementIs l.region l.e l.p r → StatementIs l.region l.fn.env l.at r;
}

abbrev pub decreases-statement-loop-e : goal.decreases-statement-loop-e
decreases-statement-loop-e l = length l.region.bytes.now - l.p

abbrev pub invariant-bare_clauses-loop : goal.invariant-bare_clauses-loop
invariant-bare_clauses-loop l = record {
  later : l.at ≤ l.p;
  inside : l.p ≤ length l.region.bytes.now;
  are : (r : Walk) → BareAre l.region l.env l.gains (l.many - l.counter) l.p r → BareAre l.region l.env l.gains l.many l.at r;
}

abbrev pub invariant-clauses-loop-symbol : goal.invariant-clauses-loop-symbol
invariant-clauses-loop-symbol l = record {
  later : l.at ≤ l.p;
  inside : l.p ≤ length l.region.bytes.now;
  lists : ∥ ListsFrom l.region.image.now l.list (l.symbol-end - l.symbol) ∥₁;
  are : (r : Walk) → ClausesFrom l.region l.before l.behind (l.symbol-end - l.symbol) l.symbol l.list l.p r → ClausesAre l.region l.before l.behind l.sig l.at r;
}
