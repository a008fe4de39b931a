-- Types compared by their bytes, one after another: what the comparison of slices says of environments. Assumes nothing.
use mathlib.Core.Bool.{true, false}
use Rattle.std.proofs.Common.{ℕ, zero, suc, ◌+◌, ◌-◌, ◌≡◌, List, [], ◌∷◌, map, length, drop, eqb, refl, sym, ap, ◌∙◌, arith, get_or, get_or-append-add, ◌++◌}
use Rattle.std.proofs.Common as Std
use Rattle.std.specs.List.{IsLastAndRest}
use Rattle.std.proofs.Math.Option.{some}
use Rattle.std.proofs.Math.Bool.{and_assoc}
use Rattle.std.proofs.Math.Dec.{eqb-zero-suc, eqb-suc-zero, eqb-suc-suc}
use Rattle.std.proofs.Math.Seq.{drop-nil}
use mathlib.Core.List.{flat_map}
use lib.ListN.{length-map}
use lib.Seq.{take-append_seam}
use lib.Pointwise.{pointwise}
use Rattle.definitions.specs.Terms.{Ty, prd, cns, ext, Environment}
use Rattle.definitions.specs.Layout.{type_bytes, kind_byte, number_byte}
use Rattle.definitions.specs.Ends.{front, back, last}
use Rattle.definitions.specs.FirstFault.{same_type, same_types}
use Rattle.exactness.proofs.Readers.{with'}
use Rattle.checker.proofs.Lists.{types-length, at_some, written, written_at, map-take}

-- the kind alone says whether a type is ext
pub ext-other : (t : Ty) → (kind_byte t ≡ 2 → ⊥) → same_type t ext ≡ false
ext-other (prd n) h = refl
ext-other (cns n) h = refl
ext-other ext h = absurd (h refl)

pub ext_same : (t : Ty) → kind_byte t ≡ 2 → same_type t ext ≡ true
ext_same (prd n) h = absurd (omega arith)
ext_same (cns n) h = absurd (omega arith)
ext_same ext h = refl

-- the bytes of the types, and of the entries that are their bytes
abbrev pub bytes : Environment → List ℕ
bytes = flat_map type_bytes

abbrev pub flattened : List (List ℕ) → List ℕ
flattened = Std.flat_map (λ x. x)

pub flattened-map : (Δ : Environment) → flattened (map type_bytes Δ) ≡ bytes Δ
unfolding flat_map
flattened-map [] = refl
flattened-map (t ∷ Δ) = rw (flattened-map Δ)

-- the bytes are the same where the types are
pub same-bytes : (Δ Γ : Environment) → pointwise eqb (bytes Δ) (bytes Γ) ≡ same_types Δ Γ
unfolding flat_map
same-bytes [] [] = refl
same-bytes [] (u ∷ Γ) = refl
same-bytes (t ∷ Δ) [] = refl
same-bytes (t ∷ Δ) (u ∷ Γ) = rw (same-bytes Δ Γ) (sym (and_assoc (eqb (kind_byte t) (kind_byte u)) (eqb (number_byte t) (number_byte u)) (same_types Δ Γ)))

eqb-sym : (a b : ℕ) → eqb a b ≡ eqb b a
eqb-sym zero zero = refl
eqb-sym zero (suc b) = rw (eqb-zero-suc b, eqb-suc-zero b)
eqb-sym (suc a) zero = rw (eqb-zero-suc a, eqb-suc-zero a)
eqb-sym (suc a) (suc b) = rw (eqb-suc-suc a b, eqb-suc-suc b a) (eqb-sym a b)

-- the same two lists, the other way round
same_types-sym : (Δ Γ : Environment) → same_types Δ Γ ≡ same_types Γ Δ
same_types-sym [] [] = refl
same_types-sym [] (u ∷ Γ) = refl
same_types-sym (t ∷ Δ) [] = refl
same_types-sym (t ∷ Δ) (u ∷ Γ) = rw (eqb-sym (kind_byte t) (kind_byte u), eqb-sym (number_byte t) (number_byte u), same_types-sym Δ Γ)

bytes-drop : (n : ℕ) (Δ : Environment) → drop (n + n) (bytes Δ) ≡ bytes (drop n Δ)
unfolding flat_map
bytes-drop zero Δ = refl
bytes-drop (suc n) [] = drop-nil (suc n + suc n)
bytes-drop (suc n) (t ∷ Δ) = let e : suc n + suc n ≡ suc (suc (n + n)) = omega arith in rw e (bytes-drop n Δ)

-- the last bytes are the same where the last types are
ends-bytes : (Δ Γ : Environment) → pointwise eqb (bytes Γ) (drop (length (bytes Δ) - length (bytes Γ)) (bytes Δ)) ≡ same_types (back Δ (length Γ)) Γ
ends-bytes Δ Γ =
    let n : length (bytes Δ) - length (bytes Γ) ≡ (length Δ - length Γ) + (length Δ - length Γ) = omega (arith, types-length Δ, types-length Γ) in
    rw (n, bytes-drop (length Δ - length Γ) Δ, same-bytes Γ (back Δ (length Γ))) (same_types-sym Γ (back Δ (length Γ)))

-- The bytes `flat` of entries that are those of types, and bytes that are those of other types.
module _ {entries : List (List ℕ)} (Δ Γ : Environment) (k : entries ≡ map type_bytes Δ) {flat wanted : List ℕ} (f : flat ≡ flattened entries) (w : wanted ≡ bytes Γ) where
  flat-bytes : flat ≡ bytes Δ
  flat-bytes = f ∙ ap flattened k ∙ flattened-map Δ

  -- compared whole, and at the end
  pub compared : pointwise eqb flat wanted ≡ same_types Δ Γ
  compared = rw (flat-bytes, w) (same-bytes Δ Γ)

  pub compared-end : pointwise eqb wanted (drop (length flat - length wanted) flat) ≡ same_types (back Δ (length Γ)) Γ
  compared-end = rw (flat-bytes, w) (ends-bytes Δ Γ)

-- The last of the entries of types, and all but it.
pub record LastIs (Δ : Environment) (l : List ℕ) (rest : List (List ℕ)) : Type 0 where
  pub entry : Ty
  pub is : last Δ ≡ some entry
  pub value : type_bytes entry ≡ l
  pub others : rest ≡ map type_bytes (front Δ 1)

pub last-is : {entries rest : List (List ℕ)} {l : List ℕ} → IsLastAndRest entries l rest → (Δ : Environment) → entries ≡ map type_bytes Δ → LastIs Δ l rest
last-is {entries} {rest} {l} p Δ k =
    let n : length Δ ≡ length rest + 1 = omega (arith, p.1, ap length k, length-map Δ type_bytes) in
    let e : length Δ - 1 ≡ length rest = omega arith in
    let held : map type_bytes Δ ≡ rest ++ (l ∷ []) = sym k ∙ p.0 in
    let z : length rest + 0 ≡ length rest = omega arith in
    with' (at_some Δ (length rest) (omega arith)) λ a.
    let shows : get_or (map type_bytes Δ) (length rest) [] ≡ type_bytes a.0 = written_at type_bytes Δ (length rest) ∙ ap (written type_bytes) a.1 in
    record {
      entry = a.0;
      is = rw e a.1;
      value = sym shows ∙ rw held (rw z at (get_or-append-add rest (l ∷ []) 0 []));
      others = rw (e, ← (map-take type_bytes (length rest) Δ), held) (sym (take-append_seam rest (l ∷ [])));
    }
