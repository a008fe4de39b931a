use Rattle.std.proofs.Common.{rules}
use Rattle.checker.proofs.EntryLaws as law
use Rattle.checker.proofs.entries.ext_at.Goals as goal

pub returns-in_err-position-clause-reads : goal.returns-in_err-position-clause-reads
returns-in_err-position-clause-reads c = search (rules, law.argument-bad c.args.s.now c.args.env.now c.args.at)

pub returns-then-env-position-ne-EXT-clause-reads :
    goal.returns-then-env-position-ne-EXT-clause-reads
returns-then-env-position-ne-EXT-clause-reads c = rw c.at.ensures (law.argument-other _ c.args.env.now _ c.in_ok-position.ensures c.if-env-position-ne-EXT.true)

pub returns-clause-reads : goal.returns-clause-reads
returns-clause-reads c = law.argument-on _ c.args.env.now _ c.in_ok-position.ensures c.if-env-position-ne-EXT.false
