-- axcut_run: it hands on what `run` returns, field by field, so the promise of `run`, turned round, is its own. Assumes nothing.
use Rattle.std.proofs.Common.{arith}
use Rattle.std.proofs.Math.Seq.{take-length}
use Rattle.boundary.proofs.axcut_run.Goals as goal

-- by `grind`, however the code names what is run: so the edits of the fuel and of the arguments are refused for what they run
pub returns : goal.returns
returns c =
    let all = take-length c.args.args.now in
    rw (c.from.ensures.0, c.from.ensures.1.0, c.from.ensures.1.1.0, c.from.ensures.1.1.1) (grind arith)
