-- What stands where in an image, and what an array of types holds.
use Rattle.std.specs.Prelude.{ℕ, ◌≡◌, List, ◌++◌, map, length, get_or, take, drop}
use Rattle.definitions.specs.Terms.{Environment, Signature}
use Rattle.definitions.specs.Typing.{At}
use Rattle.definitions.specs.Layout.{type_bytes, counted}

-- The bytes bs stand at an offset.
pub record Laid (s : List ℕ) (at : ℕ) (bs : List ℕ) : Type 0 where
  pub rest : List ℕ
  pub bytes : drop at s ≡ bs ++ rest

-- a list of parameters, and a signature, as the head has them
abbrev pub parameters_bytes : Environment → List ℕ
parameters_bytes = counted type_bytes

abbrev pub signature_bytes : Signature → List ℕ
signature_bytes = counted parameters_bytes

-- The first entries of an array of two-byte arrays are the bytes of these types.
abbrev pub Holds : List (List ℕ) → ℕ → Environment → Type 0
Holds env width Δ = take width env ≡ map type_bytes Δ

-- An array of offsets says where each entry of a list stands: the signatures, or the labels' lists.
pub record Placed {A : Type 0} (f : A → List ℕ) (image offsets : List ℕ) (l : List A) : Type 0 where
  pub many : length offsets ≡ length l
  pub laid : (i : ℕ) (a : A) → At l i a → Laid image (get_or offsets i 0) (f a)

-- It does so for some list.
pub record Known {A : Type 0} (f : A → List ℕ) (image offsets : List ℕ) : Type 0 where
  pub list : List A
  pub placed : Placed f image offsets list

-- A list of parameters stands at an offset.
pub record ParametersAt (image : List ℕ) (at : ℕ) : Type 0 where
  pub parameters : Environment
  pub laid : Laid image at (parameters_bytes parameters)

-- A signature stands at an offset.
pub record SignatureAt (image : List ℕ) (at : ℕ) : Type 0 where
  pub signature : Signature
  pub laid : Laid image at (signature_bytes signature)
