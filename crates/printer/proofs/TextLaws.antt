-- Numbers in decimal, and texts that grow by them. Assumes nothing.
use Prim.Native.Nat.{ℕ, zero, suc, ◌+◌, ◌-◌, ◌*◌, ◌/◌, ◌%◌, ◌^◌, ◌≤◌, ◌<◌}
use mathlib.Core.Path.{◌≡◌, refl, ap, sym, ◌∙◌}
use mathlib.Core.List.{List, [], ◌∷◌, ◌++◌, append_assoc}
use native.Mathlib.Nat.{pow-suc, pow-le-pow_right}
use native.Mathlib.Omega.{arith}
use lib.ListN.{length, take, drop, set, replicate, length-append, length-replicate}
use borrow.Rule.Slice.PartMut.{put_mid}
use lib.Seq.{drop-drop, take_all, paste, take_at, set_at, length-take-le}
use mathlib.Core.Bool.{Bool, true, false}
use lib.Dec.{leb}
use borrow.Author.Tests.{lt-ltb, le-ltb, leb-true, leb-false}
use Rattle.io.specs.Digits as Io
use Rattle.definitions.specs.Reader.{fault}
use Rattle.definitions.specs.FirstFault.{first_fault}
use Rattle.definitions.specs.Answer.{answer, digits, printed}
use Rattle.runner.specs.declared.Answer.{Answer as Ran}
use Rattle.runner.specs.Shown.{shown}
use Rattle.printer.specs.declared.text.Text.{Text}
use Rattle.printer.specs.Texts.{Holds}

-- ---- decimal

digits-one : (j n : ℕ) → n < 10 → digits (suc j) n ≡ (48 + n) ∷ []
digits-one j n h = rw (lt-ltb n 10 h, digits)

digits_more : (j n : ℕ) → 10 ≤ n → digits (suc j) n ≡ digits j (n / 10) ++ ((48 + n % 10) ∷ [])
digits_more j n h = rw (le-ltb n 10 h, digits)

-- the fewest digits of a number are its digits, with any number of them allowed
pub decimal : (k n j : ℕ) → n < j → n < 10 ^ suc k → (1 < suc k → 10 ^ k ≤ n) → Io.last_digits 10 (suc k) n ≡ digits j n
decimal k n zero h small large = absurd (omega arith)
decimal zero n (suc j) h small large =
    let l : n < 10 = omega (arith, small) in
    let m : n % 10 ≡ n = omega arith in
    rw (digits-one j n l, m, lt-ltb n 10 l)
decimal (suc k) n (suc j) h small large =
    let p : 10 ^ suc k ≤ n = large (omega arith) in
    let e : 10 ^ suc (suc k) ≡ 10 ^ suc k * 10 = pow-suc 10 (suc k) in
    let f : 10 ^ suc k ≡ 10 ^ k * 10 = pow-suc 10 k in
    let g : 10 ≤ n = ten k p in
    let m : n % 10 < 10 = omega arith in
    let ih : Io.last_digits 10 (suc k) (n / 10) ≡ digits j (n / 10) = decimal k (n / 10) j (omega arith) (omega arith) (λ _. omega arith) in
    rw (digits_more j n g, ← ih, lt-ltb (n % 10) 10 m)
  where
    ten : (k : ℕ) → 10 ^ suc k ≤ n → 10 ≤ n
    ten zero q = omega arith
    ten (suc k) q = ten k (omega (arith, q, pow-suc 10 (suc k)))

-- ---- texts

abbrev zeros : ℕ → List ℕ
zeros m = replicate m 0

zeros-drop : (k m : ℕ) → k ≤ m → drop k (zeros m) ≡ zeros (m - k)
zeros-drop zero m h = let z : m - 0 ≡ m = omega arith in rw z
zeros-drop (suc k) zero h = absurd (omega arith)
zeros-drop (suc k) (suc m) h = let z : suc m - suc k ≡ m - k = omega arith in rw z (zeros-drop k m (omega arith))

zeros-first : (m : ℕ) → 0 < m → zeros m ≡ 0 ∷ zeros (m - 1)
zeros-first zero h = absurd (omega arith)
zeros-first (suc m) h = let z : suc m - 1 ≡ m = omega arith in rw z

-- the figures behind the bytes, then one byte more, then zeros as before
pub grown : (xs ds : List ℕ) (b at k : ℕ) (bytes figures : List ℕ) → bytes ≡ xs ++ replicate (128 - length xs) 0 → at ≡ length xs → take k figures ≡ ds → length ds ≡ k → length xs + k < 128
    → set (paste bytes at figures k) (at + k) b ≡ (xs ++ (ds ++ (b ∷ []))) ++ replicate (128 - length (xs ++ (ds ++ (b ∷ [])))) 0
grown xs ds b at k bytes figures e a t d h =
    let m : ℕ = 128 - length xs in
    let front : take at bytes ≡ xs = rw e (take_at xs (replicate m 0) at (sym a)) in
    let all : drop (at + k) bytes ≡ replicate (m - k) 0 = rw (e, a) (drop_past xs (replicate m 0) k ∙ zeros-drop k m (omega arith)) in
    let n : length (xs ++ (ds ++ (b ∷ []))) ≡ length xs + (k + 1) = rw (length-append xs (ds ++ (b ∷ [])), length-append ds (b ∷ []), d) in
    let z : 128 - (length xs + (k + 1)) ≡ m - k - 1 = omega arith in
    let l : length (xs ++ ds) ≡ at + k = rw (length-append xs ds) (omega arith) in
    rw (front, t, all, n, z, zeros-first (m - k) (omega arith), set_at (xs ++ ds) 0 (replicate (m - k - 1) 0) b (at + k) l)
    (append_assoc xs ds (b ∷ replicate (m - k - 1) 0) ∙ ap (λ r. xs ++ r) (sym (append_assoc ds (b ∷ []) (replicate (m - k - 1) 0))) ∙ sym (append_assoc xs (ds ++ (b ∷ [])) (replicate (m - k - 1) 0)))
  where
    drop_past : (xs ys : List ℕ) (k : ℕ) → drop (length xs + k) (xs ++ ys) ≡ drop k ys
    drop_past [] ys k = let z : 0 + k ≡ k = omega arith in rw z
    drop_past (x ∷ xs) ys k = let z : suc (length xs) + k ≡ suc (length xs + k) = omega arith in rw z (drop_past xs ys k)

-- ---- numbers of 64 bits

-- a number of 64 bits has at most 20 figures
pub short : (n k : ℕ) → n < 2 ^ 64 → (1 < k → 10 ^ (k - 1) ≤ n) → k ≤ 20
short n k h large = go (leb k 20) refl
  where
    go : (t : Bool) → leb k 20 ≡ t → k ≤ 20
    go true e = leb-true k 20 e
    go false e =
        let l : 20 < k = leb-false k 20 e in
        let m : 10 ^ 20 ≤ 10 ^ (k - 1) = pow-le-pow_right {n = 10} (omega arith) {i = 20} {j = k - 1} (omega arith) in
        absurd (omega (arith, m, large (omega arith)))

-- ---- one number more

-- whatever it holds, a text has 128 bytes
pub all-bytes : {t : Text} {xs : List ℕ} → Holds t xs → length t.bytes ≡ 128
all-bytes {t} {xs} h = rw (h.bytes-are, length-append xs (replicate (128 - length xs) 0), length-replicate {A = ℕ} (128 - length xs) 0) (omega (arith, h.fits))

-- Bytes and a length, of which a text with both holds these bytes.
pub record Figured (bytes : List ℕ) (m : ℕ) (ys : List ℕ) : Type 0 where
  pub fits : length ys ≤ 128
  pub length-is : m ≡ length ys
  pub bytes-are : bytes ≡ ys ++ replicate (128 - length ys) 0

-- a text with 21 bytes of room has room for a number and the byte behind it
pub with_number : (t : Text) (xs : List ℕ) → Holds t xs → length xs + 21 ≤ 128 → (n b k : ℕ) (figures : List ℕ) → k ≤ length figures → k ≤ 20 → take k figures ≡ digits (suc n) n
    → Figured (set (paste t.bytes t.length figures k) (t.length + k) b) (t.length + k + 1) (xs ++ (digits (suc n) n ++ (b ∷ [])))
with_number t xs h f n b k figures c s e =
    let d : length (digits (suc n) n) ≡ k = ap length (sym e) ∙ length-take-le k figures c in
    let m : length (xs ++ (digits (suc n) n ++ (b ∷ []))) ≡ length xs + (k + 1) = rw (length-append xs (digits (suc n) n ++ (b ∷ [])), length-append (digits (suc n) n) (b ∷ []), d) in
    record {
      fits = rw m (omega arith);
      length-is = rw m (omega (arith, h.length-is));
      bytes-are = grown xs (digits (suc n) n) b t.length k t.bytes figures h.bytes-are h.length-is e d (omega arith);
    }

module _ {n k : ℕ} (fewest : Io.IsDigitCount 10 1 n k) (fits : n < 2 ^ 64) where
  pub few : k ≤ 20
  few = short n k fits fewest.2

  -- the figures written are the number's digits
  pub figures-are : (figures : List ℕ) → take k figures ≡ Io.last_digits 10 k n → take k figures ≡ digits (suc n) n
  figures-are figures e =
      let z : k ≡ suc (k - 1) = omega (arith, fewest.0) in
      e ∙ ap (λ j. Io.last_digits 10 j n) z ∙ decimal (k - 1) n (suc n) (omega arith) (rw z at fewest.1) (λ l. fewest.2 (omega arith))

-- a text without room is not one that is asked about
pub no_room : {t : Text} {G : Type 0} (xs : List ℕ) → 107 < t.length → Holds t xs → length xs + 21 ≤ 128 → G
no_room xs l h f = absurd (omega (arith, h.length-is))

-- a copy into a part is a copy behind what stands before it
pasted : (at m k : ℕ) → m ≡ k → (bytes part figures : List ℕ) → part ≡ take k figures → put_mid at m bytes part ≡ paste bytes at figures k
pasted at m k z bytes part figures p = rw (z, p, drop-drop k at bytes) (sym (append_assoc (take at bytes) (take k figures) (drop (at + k) bytes)))

-- what is left where the figures are copied behind the bytes
pub numbered : (t : Text) (figures part : List ℕ) (b : ℕ) {n k : ℕ} (xs : List ℕ) → Holds t xs → length xs + 21 ≤ 128 → Io.IsDigitCount 10 1 n k → n < 2 ^ 64 → k ≤ length figures
    → take k figures ≡ Io.last_digits 10 k n
    → part ≡ take k figures → (r : Text) → r.bytes ≡ set (put_mid t.length (t.length + k - t.length) t.bytes part) (t.length + k) b → r.length ≡ t.length + k + 1
    → Holds r (xs ++ (digits (suc n) n ++ (b ∷ [])))
numbered t figures part b {n} {k} xs h f fewest fits c e p r w l =
    let z : t.length + k - t.length ≡ k = omega arith in
    let a : r.bytes ≡ set (paste t.bytes t.length figures k) (t.length + k) b = w ∙ ap (λ l. set l (t.length + k) b) (pasted t.length (t.length + k - t.length) k z t.bytes part figures p) in
    moved a l (with_number t xs h f n b k figures c (few fewest fits) (figures-are fewest fits figures e))
  where
    moved : {r : Text} {bytes : List ℕ} {m : ℕ} {ys : List ℕ} → r.bytes ≡ bytes → r.length ≡ m → Figured bytes m ys → Holds r ys
    moved a l g = record { fits = g.fits; length-is = l ∙ g.length-is; bytes-are = a ∙ g.bytes-are }

-- ---- the two lines

-- as many bytes as there are, but no more than the program reads
pub first : (input : List ℕ) (n : ℕ) → (length input ≤ 16385 → n ≡ length input) → (16385 ≤ length input → n ≡ 16385) → take n input ≡ take 16385 input
first input n short long = go (leb (length input) 16385) refl
  where
    go : (b : Bool) → leb (length input) 16385 ≡ b → take n input ≡ take 16385 input
    go true e = let l : length input ≤ 16385 = leb-true (length input) 16385 e in rw (short l) (take_all (length input) input (omega arith) ∙ sym (take_all 16385 input l))
    go false e = rw (long (omega (arith, leb-false (length input) 16385 e)))

-- A text that holds these bytes, at most so many.
pub record Grown (t : Text) (most : ℕ) (xs : List ℕ) : Type 0 where
  pub holds : Holds t xs
  pub few : t.length ≤ most

-- the text without bytes, and one number more
pub begun : {t : Text} → Holds t [] → Grown t 0 []
begun h = record { holds = h; few = omega (arith, h.length-is) }

room : {t : Text} {m : ℕ} {xs : List ℕ} → Grown t m xs → m + 21 ≤ 128 → length xs + 21 ≤ 128
room g l = omega (arith, g.few, g.holds.length-is)

pub next : {t r : Text} {m : ℕ} {xs : List ℕ} (n b : ℕ) → Grown t m xs → m + 21 ≤ 128 → (r.length ≤ t.length + 21)
    × ((ys : List ℕ) → Holds t ys → length ys + 21 ≤ 128 → Holds r (ys ++ (digits (suc n) n ++ (b ∷ [])))) → Grown r (m + 21) (xs ++ (digits (suc n) n ++ (b ∷ [])))
next {xs = xs} n b g l p = record { holds = p.1 xs g.holds (room g l); few = omega (arith, g.few, p.0) }

-- bytes that were added at the end, one after another, as two lines
inwards : (xs a ys : List ℕ) (x : ℕ) → xs ++ (a ++ (x ∷ [])) ++ ys ≡ xs ++ (a ++ (x ∷ ys))
inwards xs a ys x = append_assoc xs (a ++ (x ∷ [])) ys ∙ ap (λ r. xs ++ r) (append_assoc a (x ∷ []) ys)

regrouped : (a b c d e f : List ℕ) (u v w x y z : ℕ) → [] ++ (a ++ (u ∷ [])) ++ (b ++ (v ∷ [])) ++ (c ++ (w ∷ [])) ++ (d ++ (x ∷ [])) ++ (e ++ (y ∷ []))
    ++ (f ++ (z ∷ [])) ≡ (a ++ (u ∷ (b ++ (v ∷ [])))) ++ (c ++ (w ∷ (d ++ (x ∷ (e ++ (y ∷ (f ++ (z ∷ []))))))))
regrouped a b c d e f u v w x y z =
    let l : List ℕ = [] ++ (a ++ (u ∷ [])) ++ (b ++ (v ∷ [])) in
    let m : List ℕ = l ++ (c ++ (w ∷ [])) in
    let six : List ℕ = f ++ (z ∷ []) in
    let five : List ℕ = e ++ (y ∷ six) in
    let four : List ℕ = d ++ (x ∷ five) in
    inwards (m ++ (d ++ (x ∷ []))) e six y ∙ inwards m d five x ∙ inwards l c four w ∙ ap (λ r. r ++ (c ++ (w ∷ four))) (inwards [] a (b ++ (v ∷ [])) u)

module _ (input image : List ℕ) (read : image ≡ take 16385 input) (n o : ℕ) (checked : fault n o ≡ first_fault image) (r : Ran) (after : List ℕ)
    (ran : shown r after ≡ answer image [] 100000 (replicate 1024 0)) where
  -- the numbers of both lines, each with the byte behind it
  pub two-lines : [] ++ (digits (suc n) n ++ (32 ∷ [])) ++ (digits (suc o) o ++ (10 ∷ [])) ++ (digits (suc r.number) r.number ++ (32 ∷ [])) ++ (digits (suc r.steps) r.steps ++ (32 ∷ []))
      ++ (digits (suc r.words) r.words ++ (32 ∷ [])) ++ (digits (suc r.value) r.value ++ (10 ∷ [])) ≡ printed input
  unfolding printed
  two-lines = rw (← read, ← checked, ← ran) (regrouped (digits (suc n) n) (digits (suc o) o) (digits (suc r.number) r.number) (digits (suc r.steps) r.steps) (digits (suc r.words) r.words)
      (digits (suc r.value) r.value) 32 10 32 32 32 10)
