-- What the codes of document 01 stand for.
use Rattle.std.specs.Prelude.{ℕ, ◌≡◌, ◌<◌, Bool, true, false, Result, MatchResult}
use Rattle.definitions.specs.Terms as Terms
use Rattle.checker.specs.declared.codes.UnknownCode.{UnknownCode}
use Rattle.checker.specs.declared.codes.Form.{Form}
use Rattle.checker.specs.declared.codes.Form.TheVariants.{Jump, Substitute, Extern, Let, New, Switch, Invoke}
use Rattle.checker.specs.declared.codes.Operation.{Operation}
use Rattle.checker.specs.declared.codes.Operation.TheVariants.{Lit, Add, Sub, Mul, Ifz, Less, Exit}

-- "Statements: code byte, then its fields": 0 jump, 1 substitute, 2 extern, 3 let, 4 new, 5 switch, 6 invoke.
abbrev pub form_code : Form → ℕ
form_code Jump = 0
form_code Substitute = 1
form_code Extern = 2
form_code Let = 3
form_code New = 4
form_code Switch = 5
form_code Invoke = 6

-- 0 lit, 1 add, 2 sub, 3 mul, 4 ifz, 5 less, 6 exit.
abbrev pub operation_code : Operation → ℕ
operation_code Lit = 0
operation_code Add = 1
operation_code Sub = 2
operation_code Mul = 3
operation_code Ifz = 4
operation_code Less = 5
operation_code Exit = 6

-- The form with this code; or the byte, which is no form's code.
abbrev pub FormOf : ℕ → Result Form UnknownCode → Type 0
FormOf code r = MatchResult r (λ form. form_code form ≡ code) (λ e. (e.0 ≡ code) × (6 < code))

-- The operation with this code; or the byte, which is no operation's code.
abbrev pub OperationOf : ℕ → Result Operation UnknownCode → Type 0
OperationOf code r = MatchResult r (λ operation. operation_code operation ≡ code) (λ e. (e.0 ≡ code) × (6 < code))

-- What an operation's code says of the operation: all, but for lit's literal.
abbrev pub Means : Operation → Terms.Operation → Type 0
Means Lit o = (n : ℕ) × (o ≡ Terms.lit n)
Means Add o = o ≡ Terms.add
Means Sub o = o ≡ Terms.sub
Means Mul o = o ≡ Terms.mul
Means Ifz o = o ≡ Terms.ifz
Means Less o = o ≡ Terms.less
Means Exit o = o ≡ Terms.exit

-- how many integers it takes, how many clauses it has, and whether each of these gains an integer
abbrev pub argument_count : Operation → ℕ
argument_count Lit = 0
argument_count Add = 2
argument_count Sub = 2
argument_count Mul = 2
argument_count Ifz = 1
argument_count Less = 2
argument_count Exit = 1

abbrev pub clause_count : Operation → ℕ
clause_count Lit = 1
clause_count Add = 1
clause_count Sub = 1
clause_count Mul = 1
clause_count Ifz = 2
clause_count Less = 2
clause_count Exit = 0

abbrev pub gaining : Operation → Bool
gaining Lit = true
gaining Add = true
gaining Sub = true
gaining Mul = true
gaining Ifz = false
gaining Less = false
gaining Exit = false
