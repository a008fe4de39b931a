-- What the exit of a `?` returns, and which of its values an `ok_or` had.
use mathlib.Core.Path.{◌≡◌, refl, ap, ◌∙◌}
use native.Mathlib.Omega.{arith}
use Prim.Native.Nat.{ℕ}
use Rattle.std.specs.Prelude.{Result, Ok, Err, Option, Some, None}
use Rattle.std.specs.Option.{ok_or}
use Rattle.std.specs.Result.{IsErrAnd}
use Rattle.std.proofs.lemmas.Result.{err_from_is_err_and}

-- a fault is passed on as it is
pub passed : {T E : Type 0} (x : E) (r : Result T E) → IsErrAnd r (λ y. y ≡ x) → r ≡ Err x
passed x r h = let p = err_from_is_err_and r h in rw (p.1, p.2)

-- where there was a value, and where there was none
pub found : {A E : Type 0} (o : Option A) (d : E) {x : A} → Ok x ≡ ok_or o d → o ≡ Some x
found None d h = let z : ◌≡◌ {A = ℕ} 0 1 = cc in absurd (omega arith)
found (Some a) d h = cc

pub lacking : {A T E : Type 0} (o : Option A) (x d : E) {e : E} → Err x ≡ ok_or o d → d ≡ e → (r : Result T E) → IsErrAnd r (λ y. y ≡ x) → (o ≡ None) × (r ≡ Err e)
lacking {A} {T} {E} o x d {e} h w r k = go o h
  where
    go : (o : Option A) → Err x ≡ ok_or o d → (o ≡ None) × (r ≡ Err e)
    go None h = let z : x ≡ d = cc in (refl, passed x r k ∙ ap Err (z ∙ w))
    go (Some a) h = let z : ◌≡◌ {A = ℕ} 0 1 = cc in absurd (omega arith)
