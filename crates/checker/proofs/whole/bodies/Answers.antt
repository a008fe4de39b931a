-- bodies: a label's list is inside the image and fits in an environment; a bad `in_region` is the whole's fault, and after the last body it goes on at `p`. Assumes nothing.
use Rattle.std.proofs.Common.{rules, refl}
use native.Mathlib.Omega.{arith}
use Rattle.checker.proofs.PlaceLaws.{listed-inside}
use Rattle.checker.proofs.BodyLaws as law
use Rattle.checker.proofs.ClauseLaws.{fields-at}
use Rattle.checker.proofs.whole.bodies.Goals as goal

pub parameters-requires : goal.parameters-requires
parameters-requires c = listed-inside _ _ _ c.loop-list-test.true c.args.region.now.labelled

pub returns-clause-reads : goal.returns-clause-reads
returns-clause-reads c = law.bodies-whole _ _ _ (c.loop-list.invariant.2 _ (law.bodies-none _ _ _ c.loop-list-test.false))

pub returns-in_err-p-clause-reads : goal.returns-in_err-p-clause-reads
returns-in_err-p-clause-reads c =
    law.bodies-whole _ _ _ (c.loop-list.invariant.2 _ (law.bodies-bad _ _ _ c.loop-list-test.true _
    (law.label-held c.empty.result c.followed_by-env.result c.empty.ensures (fields-at c.parameters.ensures.types c.as_chunks.ensures.front) refl c.followed_by-env.ensures)
    _ c.in_err-p.ensures.reads _ (search rules)))

pub loop-list-preserved : goal.loop-list-preserved
loop-list-preserved c =
    let w = c.in_ok-p.ensures.within in (
      omega arith,
      w.1,
      λ r t. c.loop-list.invariant.2 r (law.bodies-on _ _ _ c.loop-list-test.true _
          (law.label-held c.empty.result c.followed_by-env.result c.empty.ensures (fields-at c.parameters.ensures.types c.as_chunks.ensures.front) refl c.followed_by-env.ensures)
          _ c.in_ok-p.ensures.reads w.0 r t),
    )
