-- new: the name of a signature, a count of entries to capture, and the signature's symbol count. Assumes nothing.
use Rattle.std.proofs.Common.{rules, refl}
use Rattle.checker.proofs.ReaderLaws.{name-value}
use Rattle.checker.proofs.FormLaws.{offset-inside}
use Rattle.checker.proofs.ClauseHeads as law
use Rattle.checker.proofs.forms.new_head.Goals as goal

pub returns-in_err-t : goal.returns-in_err-t
returns-in_err-t c = search (rules, law.new-signature)

pub returns-in_err-captures : goal.returns-in_err-captures
returns-in_err-captures c = search (rules, law.new-short)

pub returns-then-env-captures : goal.returns-then-env-captures
returns-then-env-captures c = rw c.at.ensures (law.new-many c.in_ok-t.ensures c.in_ok-captures.ensures c.if-env-captures.true)

pub bounds-region-sig : goal.bounds-region-sig
bounds-region-sig c = offset-inside c.args.region.now refl (name-value c.in_ok-t.ensures).2

pub returns-in_err-expect_byte : goal.returns-in_err-expect_byte
returns-in_err-expect_byte c =
    let y = law.new-count {g = c.args.region.now} {env = c.args.env.now} {at = c.args.at} c.in_ok-t.ensures c.in_ok-captures.ensures c.if-env-captures.false c.in_err-expect_byte.ensures.reads in
    search (rules, y)

pub returns : goal.returns
returns c = law.new-goes c.in_ok-t.ensures c.in_ok-captures.ensures c.if-env-captures.false c.in_ok-expect_byte.ensures.reads c.in_ok-expect_byte.ensures.next
