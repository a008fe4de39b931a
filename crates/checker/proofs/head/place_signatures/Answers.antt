use Rattle.std.proofs.Common.{rules}
use Rattle.checker.specs.Laid.{signature_bytes}
use Rattle.checker.proofs.PlaceLaws as law
use Rattle.checker.proofs.head.place_signatures.Goals as goal

pub returns : goal.returns
returns c = law.chained-placed signature_bytes _ _ (λ p q k. search rules) _ _ _ c.places.ensures
