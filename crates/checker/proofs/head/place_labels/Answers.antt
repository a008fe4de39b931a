use Rattle.std.proofs.Common.{rules}
use Rattle.checker.specs.Laid.{parameters_bytes}
use Rattle.checker.proofs.PlaceLaws as law
use Rattle.checker.proofs.head.place_labels.Goals as goal

pub returns : goal.returns
returns c = law.chained-placed parameters_bytes _ _ (λ p q k. search rules) _ _ _ c.places.ensures
