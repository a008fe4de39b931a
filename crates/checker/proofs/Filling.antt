-- Arrays of entries: what a loop that fills one leaves. Assumes nothing.
use Prim.Native.Nat.{ℕ, zero, suc, ◌+◌, ◌≤◌, ◌<◌}
use mathlib.Core.Path.{◌≡◌, refl, ◌∙◌}
use mathlib.Core.List.{List, [], ◌∷◌, ◌++◌, append_assoc, append-nil}
use native.Mathlib.Numerals.{add-one}
use native.Mathlib.Omega.{arith}
use lib.ListN.{length, get_or, take, set}
use lib.Seq.{take-suc, take-suc-set, take_all}

-- the first n of a sequence
unfoldable pub upto : {A : Type 0} → (ℕ → A) → ℕ → List A
upto f zero = []
upto f (suc n) = upto f n ++ (f n ∷ [])

module _ {A : Type 0} where
  -- the first i of a sequence stand behind the first entries
  pub record Filled (f : ℕ → A) (env : List A) (width i : ℕ) (out : List A) : Type 0 where
    pub entries : take (width + i) out ≡ take width env ++ upto f i

  -- before the first turn, and after one more
  pub fill_none : (f : ℕ → A) (env : List A) (width : ℕ) → Filled f env width 0 env
  unfolding upto
  fill_none f env width = let e : width + 0 ≡ width = omega arith in record { entries = rw (e, append-nil (take width env)) }

  pub fill_more : (f : ℕ → A) (env : List A) (width i : ℕ) (out : List A) → width + i < length out → Filled f env width i out → Filled f env width (i + 1) (set out (width + i) (f i))
  unfolding upto
  fill_more f env width i out h g =
      let e : width + (i + 1) ≡ suc (width + i) = omega arith in
      record { entries = rw (e, add-one i, take-suc-set out (width + i) (f i) h, g.entries) (append_assoc (take width env) (upto f i) (f i ∷ [])) }

  -- where nothing stands before them
  pub fill-next : (f : ℕ → A) (start : List A) (i : ℕ) (out : List A) → i < length out → Filled f start 0 i out → Filled f start 0 (i + 1) (set out i (f i))
  fill-next f start i out h g =
      let e : 0 + i ≡ i = omega arith in
      rw e at (fill_more f start 0 i out (omega arith) g)

  -- a sequence that agrees with a list gives the list's front
  pub upto_take : (f : ℕ → A) (l : List A) (d : A) (n : ℕ) → n ≤ length l → ((k : ℕ) → k < n → f k ≡ get_or l k d) → upto f n ≡ take n l
  unfolding upto
  upto_take f l d zero h all = refl
  upto_take f l d (suc n) h all =
      rw (upto_take f l d n (omega arith) (λ k m. all k (omega arith)), all n (omega arith), take-suc l n d (omega arith))

  -- what the loop leaves
  pub fill-all : (f : ℕ → A) (env : List A) (width i : ℕ) (out : List A) → Filled f env width i out
      → (n : ℕ) → n ≤ i → i ≤ n → (l : List A) (d : A) → length l ≡ n → ((k : ℕ) → k < n → f k ≡ get_or l k d)
      → take (width + n) out ≡ take width env ++ l
  fill-all f env width i out g n low high l d m all =
      let e : i ≡ n = omega arith in
      let t : upto f n ≡ l = upto_take f l d n (omega arith) all ∙ take_all n l (omega arith) in
      (rw e at g.entries) ∙ rw t
