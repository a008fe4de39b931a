-- read_rest: the filled tables say where each signature and label that was read stands, so `bodies` answers as the definition; behind the last body 11 for bytes left, else the end. Assumes nothing.
use native.Mathlib.Omega.{arith}
use mathlib.Core.Path.{refl}
use Rattle.std.proofs.Common.{rules}
use Rattle.checker.proofs.CheckLaws as law
use Rattle.checker.proofs.whole.read_rest.Goals as goal

pub invariant_of-region : goal.invariant_of-region
invariant_of-region c = record {
  short = c.requires.short;
  signed = ∣ record { list = c.requires.read.signed; placed = law.signed-placed _ c.type_inv.image _ _ _ c.requires.read _ (omega arith) c.place_signatures-sigs.ensures } ∣₁;
  labelled = ∣ record { list = c.requires.read.labelled; placed = law.labelled-placed _ c.type_inv.image _ _ _ c.requires.read _ (omega arith) c.place_labels-labels.ensures } ∣₁;
  shallow = omega arith;
}

pub bodies-requires-clause-fit : goal.bodies-requires-clause-fit
bodies-requires-clause-fit c = law.labelled-fit _ c.type_inv.image _ _ _ c.requires.read _ (omega arith) c.place_labels-labels.ensures

pub returns-in_err-end : goal.returns-in_err-end
returns-in_err-end c =
    law.rest-bad _ c.type_inv.image _ _ _ c.requires.read _ _ (omega arith) (omega arith) c.place_signatures-sigs.ensures c.place_labels-labels.ensures _
    (λ u v. c.in_err-end.ensures.reads.is _ _ _ refl (record { signed = u; labelled = v }) (omega arith)) _ (search rules)

pub returns-then-end-image : goal.returns-then-end-image
returns-then-end-image c =
    law.rest-left _ c.type_inv.image _ _ _ c.requires.read _ _ (omega arith) (omega arith) c.place_signatures-sigs.ensures c.place_labels-labels.ensures _
    (λ u v. c.in_ok-end.ensures.reads.is _ _ _ refl (record { signed = u; labelled = v }) (omega arith)) c.in_ok-end.ensures.within.1 c.if-end-image.true _ c.at.ensures

pub returns : goal.returns
returns c =
    law.rest-done _ c.type_inv.image _ _ _ c.requires.read _ _ (omega arith) (omega arith) c.place_signatures-sigs.ensures c.place_labels-labels.ensures _
    (λ u v. c.in_ok-end.ensures.reads.is _ _ _ refl (record { signed = u; labelled = v }) (omega arith)) c.if-end-image.false
