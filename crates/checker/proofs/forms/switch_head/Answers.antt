-- switch: the name of a signature, the last entry, which must be of it, and its symbol count. Assumes nothing.
use Rattle.std.proofs.Common.{rules, sym, refl}
use Rattle.checker.proofs.ReaderLaws.{name-value}
use Rattle.checker.proofs.FormLaws.{offset-inside}
use Rattle.checker.proofs.ClauseHeads as law
use Rattle.checker.proofs.forms.switch_head.Goals as goal

pub returns-in_err-t : goal.returns-in_err-t
returns-in_err-t c = search (rules, law.switch-signature)

pub returns-then-ne : goal.returns-then-ne
returns-then-ne c = rw c.at.ensures (law.switch-other c.in_ok-t.ensures _ c.entries.ensures c.last.ensures.item.3 _ refl (sym c.if-ne.ensures))

pub bounds-region-sig : goal.bounds-region-sig
bounds-region-sig c = offset-inside c.args.region.now refl (name-value c.in_ok-t.ensures).2

pub returns-in_err-expect_byte : goal.returns-in_err-expect_byte
returns-in_err-expect_byte c =
    let y = law.switch-count {g = c.args.region.now} {env = c.args.env.now} {at = c.args.at}
    c.in_ok-t.ensures _ c.entries.ensures c.last.ensures.item.3 _ refl (sym c.if-ne.ensures) c.in_err-expect_byte.ensures.reads in
    search (rules, y)

pub returns : goal.returns
returns c = law.switch-goes c.in_ok-t.ensures _ c.entries.ensures c.last.ensures.item.3 _ refl (sym c.if-ne.ensures) c.in_ok-expect_byte.ensures.reads c.in_ok-expect_byte.ensures.next
