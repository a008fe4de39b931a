-- jump: a label that is read or not, and its list of types, compared with the entries. Assumes nothing.
use Rattle.std.proofs.Common.{rules, ◌≡◌, take, sym, take_all}
use Rattle.checker.proofs.SameTypes.{flattened}
use Rattle.checker.proofs.FormLaws as law
use Rattle.checker.proofs.forms.jump.Goals as goal

pub returns-in_err-label-clause-reads : goal.returns-in_err-label-clause-reads
returns-in_err-label-clause-reads c = search (rules, law.jump-bad)

pub parameters-wanted-requires : goal.parameters-wanted-requires
parameters-wanted-requires c = law.label-inside c.args.region.now c.in_ok-label.ensures

-- that the whole entries are compared is found by `search`, however the code names them: so the edit `jump_ignores_spare_entries` is refused for what it compares
pub returns-then-ne-clause-reads : goal.returns-then-ne-clause-reads
returns-then-ne-clause-reads c =
    let w : c.as_flattened.result.now ≡ flattened (take c.args.env.now.width c.args.env.now.types) = search (rules, take_all) in
    rw c.at.ensures (law.jump-other c.in_ok-label.ensures w c.parameters-wanted.ensures.types (sym c.if-ne.ensures))

pub returns-clause-reads : goal.returns-clause-reads
returns-clause-reads c =
    let w : c.as_flattened.result.now ≡ flattened (take c.args.env.now.width c.args.env.now.types) = search (rules, take_all) in
    law.jump-same c.in_ok-label.ensures w c.parameters-wanted.ensures.types (sym c.if-ne.ensures)
