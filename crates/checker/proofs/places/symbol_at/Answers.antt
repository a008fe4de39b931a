use Rattle.checker.proofs.PlaceLaws as law
use Rattle.checker.proofs.places.symbol_at.Goals as goal

pub returns-clause-laid : goal.returns-clause-laid
returns-clause-laid c = law.symbol-laid _ _ _ _ c.skip_lists.ensures.through
