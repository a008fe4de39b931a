-- What the readers of items answer.
use Rattle.std.specs.Prelude.{ℕ, suc, ◌+◌, ◌<◌, ◌≤◌, ◌≡◌, List, length, get_or, drop, Result, Ok, Err}
use Rattle.definitions.specs.Terms as Terms
use Rattle.definitions.specs.Reader.{got, refused}
use Rattle.definitions.specs.FirstFault.{operation}
use Rattle.checker.specs.declared.faults.Refusal.TheVariants.{Short, Count, Unknown, Unnamed}
use Rattle.checker.specs.declared.faults.Fault.{Fault}
use Rattle.checker.specs.declared.codes.Form.{Form}
use Rattle.checker.specs.declared.codes.Operation.{Operation}
use Rattle.checker.specs.Codes.{form_code, Means}
use Rattle.checker.specs.Faults.{at as fault-at, told}
use Rattle.checker.specs.Shown.{Walk}

-- The byte at an offset.
pub data ByteIs (s : List ℕ) (at : ℕ) : Result ℕ Fault → Type 0 where
  byte_is : {b : ℕ} → at < length s → b ≡ get_or s at 0 → ByteIs s at (Ok b)
  byte_ended : at ≡ length s → ByteIs s at (Err (fault-at Short at))

-- A count within limits.
pub data CountIs (s : List ℕ) (least most at : ℕ) : Result ℕ Fault → Type 0 where
  count_is : {n : ℕ} → at < length s → n ≡ get_or s at 0 → least ≤ n → n ≤ most → CountIs s least most at (Ok n)
  count_ended : at ≡ length s → CountIs s least most at (Err (fault-at Short at))
  count_low : at < length s → get_or s at 0 < least → CountIs s least most at (Err (fault-at Count at))
  count_high : at < length s → most < get_or s at 0 → CountIs s least most at (Err (fault-at Count at))

-- A byte that names one of so many things.
pub data NameIs (s : List ℕ) (many at : ℕ) : Result ℕ Fault → Type 0 where
  is_named : {i : ℕ} → at < length s → i ≡ get_or s at 0 → i < many → NameIs s many at (Ok i)
  is_ended : at ≡ length s → NameIs s many at (Err (fault-at Short at))
  is_unknown : at < length s → many ≤ get_or s at 0 → NameIs s many at (Err (fault-at Unnamed at))

-- The code of a form.
pub data FormIs (s : List ℕ) (at : ℕ) : Result Form Fault → Type 0 where
  form_is : {f : Form} → at < length s → form_code f ≡ get_or s at 0 → FormIs s at (Ok f)
  form_ended : at ≡ length s → FormIs s at (Err (fault-at Short at))
  form_unknown : at < length s → 6 < get_or s at 0 → FormIs s at (Err (fault-at Unknown at))

-- An operation with its literal, and where its arguments stand.
pub data OperationIs (s : List ℕ) (at : ℕ) : Result (Operation × ℕ) Fault → Type 0 where
  operation_is : {o : Operation} {next : ℕ} (op : Terms.Operation) → Means o op → operation at (drop at s) ≡ got op next (drop next s) → at < next → next ≤ length s → OperationIs s at (Ok (o, next))
  operation_not : {f : Fault} → operation at (drop at s) ≡ refused (told f) → OperationIs s at (Err f)

-- A reader's answers, again and again: each from where the one before went on, up to the first fault.
pub data Repeated (reads : ℕ → Walk → Type 0) : ℕ → ℕ → Walk → Type 0 where
  done : {at : ℕ} → Repeated reads 0 at (Ok at)
  fails : {n at : ℕ} {f : Fault} → reads at (Err f) → Repeated reads (suc n) at (Err f)
  goes_on : {n at next : ℕ} {r : Walk} → reads at (Ok next) → Repeated reads n next r → Repeated reads (suc n) at r

-- The same, behind a count of at most so many.
pub data CountedIs (reads : ℕ → Walk → Type 0) (s : List ℕ) (most at : ℕ) : Walk → Type 0 where
  counted_bad : {f : Fault} → CountIs s 0 most at (Err f) → CountedIs reads s most at (Err f)
  counted_on : {n : ℕ} {r : Walk} → CountIs s 0 most at (Ok n) → Repeated reads n (at + 1) r → CountedIs reads s most at r
