-- form: where the byte was read it is the form's code or no code; where it was not, its fault is the form's. Assumes nothing.
use Rattle.std.proofs.Common.{rules}
use Rattle.checker.specs.Codes.{form_code}
use Rattle.checker.proofs.ReaderLaws as law
use Rattle.checker.proofs.readers.form.Goals as goal

pub returns-in_err-code : goal.returns-in_err-code
returns-in_err-code c = search (rules, law.form-ended)

pub returns : goal.returns
returns c = law.form-found c.in_ok-code.ensures _ (law.code-found form_code _ c.args.at _ _ c.try_from.ensures c.map_err.ensures.cases (λ e f k. search rules))
