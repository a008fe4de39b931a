use Rattle.std.proofs.Common.{rules}
use Rattle.definitions.specs.Layout.{type_bytes}
use Rattle.checker.proofs.PlaceLaws as law
use Rattle.checker.proofs.places.skip_list.Goals as goal

pub returns-in-Some-clause-behind : goal.returns-in-Some-clause-behind
returns-in-Some-clause-behind c = law.parameters-behind _ _ _ λ h. search rules

pub returns-in-None-clause-behind : goal.returns-in-None-clause-behind
returns-in-None-clause-behind c = law.behind-none type_bytes _ _ _ (search rules)
