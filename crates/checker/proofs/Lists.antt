-- What stands at an offset, and what an array of types holds. Assumes nothing.
use Prim.Native.Nat.{ℕ, zero, suc, ◌+◌, ◌-◌, ◌*◌, ◌≤◌, ◌<◌}
use mathlib.Core.Path.{◌≡◌, refl, ap, sym, ◌∙◌}
use mathlib.Core.List.{List, [], ◌∷◌, ◌++◌, append_assoc, map, flat_map}
use mathlib.Core.Option.{Option, none, some}
use native.Mathlib.Nat.{zero-add, suc-add}
use native.Mathlib.Omega.{arith}
use lib.ListN.{length, get_or, get_elem?, take, drop, length-append, length-drop, length-map}
use lib.Seq.{drop-drop, drop-append_seam, take-append_seam, get_or-take, get_or-drop, length-take-le, take-take, take-nil}
use Rattle.definitions.specs.Terms.{Environment}
use Rattle.definitions.specs.Typing.{At}
use Rattle.definitions.specs.Layout.{type_bytes, counted}
use Rattle.definitions.specs.Ends.{front, back}
use Rattle.checker.specs.Laid.{Laid, Holds, parameters_bytes}

-- ---- bytes at an offset

module _ (s : List ℕ) where
  -- of two parts that stand somewhere, where each of them stands
  pub laid-append : (at : ℕ) (xs ys : List ℕ) → Laid s at (xs ++ ys) → Laid s (at + length xs) ys
  laid-append at xs ys l = record { rest = l.rest; bytes = rw (← (drop-drop (length xs) at s), l.bytes, append_assoc xs ys l.rest, drop-append_seam xs (ys ++ l.rest)) }

  pub laid-front : (at : ℕ) (xs ys : List ℕ) → Laid s at (xs ++ ys) → Laid s at xs
  laid-front at xs ys l = record { rest = ys ++ l.rest; bytes = l.bytes ∙ append_assoc xs ys l.rest }

  pub laid-take : (at : ℕ) (xs : List ℕ) → Laid s at xs → take (length xs) (drop at s) ≡ xs
  laid-take at xs l = rw (l.bytes, take-append_seam xs l.rest)

  pub laid-byte : (at b : ℕ) (bs : List ℕ) → Laid s at (b ∷ bs) → get_or s at 0 ≡ b
  laid-byte at b bs l =
      let e : get_or (drop at s) 0 0 ≡ get_or s (at + 0) 0 = get_or-drop at s 0 0 in
      let z : at + 0 ≡ at = omega arith in
      sym (rw z at e) ∙ ap (λ (xs : List ℕ). get_or xs 0 0) l.bytes

  -- something stands there, so the offset is inside
  pub laid-inside : (at b : ℕ) (bs : List ℕ) → Laid s at (b ∷ bs) → at + suc (length bs) ≤ length s
  laid-inside at b bs l =
      let n : length s - at ≡ suc (length (bs ++ l.rest)) = sym (length-drop at s) ∙ ap length l.bytes in
      omega (arith, length-append bs l.rest)

-- ---- lists of types

-- a type has two bytes
pub types-length : (Γ : Environment) → length (flat_map type_bytes Γ) ≡ length Γ + length Γ
unfolding flat_map
types-length [] = refl
types-length (t ∷ Γ) = omega (arith, types-length Γ)

pub parameters-length : (Γ : Environment) → length (parameters_bytes Γ) ≡ 1 + (length Γ + length Γ)
unfolding counted
parameters-length Γ = omega (arith, types-length Γ)

-- a list of parameters at an offset: its count byte, and its types behind it
pub record Parameters (s : List ℕ) (list : ℕ) (Γ : Environment) : Type 0 where
  pub count : get_or s list 0 ≡ length Γ
  pub inside : list + 1 + (length Γ + length Γ) ≤ length s
  pub types : take (length Γ + length Γ) (drop (list + 1) s) ≡ flat_map type_bytes Γ

pub parameters-at : (s : List ℕ) (list : ℕ) (Γ : Environment) → Laid s list (parameters_bytes Γ) → Parameters s list Γ
unfolding counted
parameters-at s list Γ l =
    record {
      count = laid-byte s list (length Γ) (flat_map type_bytes Γ) l;
      inside = omega (arith, laid-inside s list (length Γ) (flat_map type_bytes Γ) l, types-length Γ);
      types = rw (types-length Γ) at (laid-take s (list + 1) (flat_map type_bytes Γ) (laid-append s list (length Γ ∷ []) (flat_map type_bytes Γ) l));
    }

-- a list of parameters that stands somewhere is inside
pub list-inside : (s : List ℕ) (list : ℕ) (Γ : Environment) → Laid s list (parameters_bytes Γ) → list + 1 + 2 * get_or s list 0 ≤ length s
list-inside s list Γ l =
    let q : Parameters s list Γ = parameters-at s list Γ l in
    omega (arith, q.count, q.inside)

-- ---- entries of a list

-- a number below the length names an entry, and no other does
pub at_some : {A : Type 0} (l : List A) (i : ℕ) → i < length l → (a : A) × At l i a
at_some [] i h = absurd (omega arith)
at_some (x ∷ l) zero h = (x, refl)
at_some (x ∷ l) (suc i) h = at_some l i (omega arith)

pub at_none : {A : Type 0} (l : List A) (i : ℕ) → length l ≤ i → get_elem? l i ≡ none
at_none [] i h = refl
at_none (x ∷ l) zero h = absurd (omega arith)
at_none (x ∷ l) (suc i) h = at_none l i (omega arith)

-- an entry of a part
pub part_at : {A : Type 0} (l part : List A) (at n : ℕ) (d : A) → take n (drop at l) ≡ part → (j : ℕ) → j < n → get_or l (at + j) d ≡ get_or part j d
part_at l part at n d e j h = sym (get_or-drop at l j d) ∙ sym (get_or-take n (drop at l) j d h) ∙ rw e

-- ---- arrays that hold a list

-- parts of a list that is mapped, or cut twice
pub map-take : {A B : Type 0} (f : A → B) (n : ℕ) (l : List A) → take n (map f l) ≡ map f (take n l)
map-take f zero l = refl
map-take f (suc n) [] = refl
map-take f (suc n) (x ∷ l) = ap (λ t. f x ∷ t) (map-take f n l)

pub map-drop : {A B : Type 0} (f : A → B) (n : ℕ) (l : List A) → drop n (map f l) ≡ map f (drop n l)
map-drop f zero l = refl
map-drop f (suc n) [] = refl
map-drop f (suc n) (x ∷ l) = map-drop f n l

pub drop-take : {A : Type 0} (m n : ℕ) (l : List A) → drop m (take (m + n) l) ≡ take n (drop m l)
drop-take zero n l = rw zero-add
drop-take (suc m) n [] = rw (suc-add, take-nil)
drop-take (suc m) n (x ∷ l) = rw suc-add (drop-take m n l)

-- what a number names, as f writes it, and nothing where it names nothing
abbrev pub written : {A : Type 0} → (A → List ℕ) → Option A → List ℕ
written f none = []
written f (some a) = f a

pub written_at : {A : Type 0} (f : A → List ℕ) (l : List A) (i : ℕ) → get_or (map f l) i [] ≡ written f (get_elem? l i)
written_at f [] i = refl
written_at f (x ∷ l) zero = refl
written_at f (x ∷ l) (suc i) = written_at f l i

-- an array that begins with the entries of a list, as f writes them
module _ {A : Type 0} (f : A → List ℕ) (env : List (List ℕ)) (width : ℕ) (l : List A) (held : take width env ≡ map f l) where
  pub held_at : (i : ℕ) → i < width → get_or env i [] ≡ written f (get_elem? l i)
  held_at i h = sym (get_or-take width env i [] h) ∙ rw held (written_at f l i)

  pub held-length : width ≤ length env → length l ≡ width
  held-length full = sym (length-map l f) ∙ ap length (sym held) ∙ length-take-le width env full

  module _ (many : length l ≡ width) (n : ℕ) (h : n ≤ width) where
    -- the array's entries but the last n are the list's, and so are the last n
    pub held-front : take (width - n) env ≡ map f (front l n)
    held-front =
        let e : length l - n ≡ width - n = ap (λ k. k - n) many in
        rw (e, ← (map-take f (width - n) l), ← held, take-take (width - n) width env (omega arith))

    pub held_back : take n (drop (width - n) env) ≡ map f (back l n)
    held_back =
        let e : length l - n ≡ width - n = ap (λ k. k - n) many in
        let g : width - n + n ≡ width = omega arith in
        rw (e, ← (map-drop f (width - n) l), ← held) (rw g at (sym (drop-take (width - n) n env)))

pub length_back : {A : Type 0} (l : List A) (n : ℕ) → n ≤ length l → length (back l n) ≡ n
length_back l n h = length-drop (length l - n) l ∙ omega arith

module _ (env : List (List ℕ)) (full : length env ≡ 32) (width : ℕ) (narrow : width ≤ 32) (Δ : Environment) (h : Holds env width Δ) where
  -- the same for the types of an environment, in an array of 32
  pub holds-length : length Δ ≡ width
  holds-length = held-length type_bytes env width Δ h (omega arith)

  pub holds-front : (n : ℕ) → n ≤ width → Holds env (width - n) (front Δ n)
  holds-front = held-front type_bytes env width Δ h holds-length
