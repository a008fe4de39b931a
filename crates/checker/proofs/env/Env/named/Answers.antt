use native.Mathlib.Omega.{arith}
use lib.ListN.{length-set}
use Rattle.checker.proofs.Filling.{fill_none}
use Rattle.checker.proofs.EntryLaws as law
use Rattle.checker.proofs.env.Env.named.Goals as goal

pub loop-i-init : goal.loop-i-init
loop-i-init c = (omega arith, fill_none _ _ _)

pub loop-i-preserved : goal.loop-i-preserved
loop-i-preserved c = (simp length-set c.loop-i.invariant.0, law.named-next c.args.self.now _ _ _ _ c.loop-i.invariant.1 (omega arith))

pub returns : goal.returns
returns c = record { width = omega arith; holds = law.named-all c.args.self.now _ _ _ _ c.loop-i.invariant.1 c.loop-i-test.false c.loop-i.auto.i-end c.requires.known }
