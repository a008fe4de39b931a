-- What the walks over the bodies and over the whole image answer.
use Rattle.std.specs.Prelude.{ℕ, ◌-◌, ◌≤◌, ◌<◌, ◌≡◌, List, length, get_or, drop}
use Rattle.definitions.specs.Limits.{version, widest}
use Rattle.definitions.specs.Terms.{Environment, Signature}
use Rattle.definitions.specs.Reader.{Read, got, give}
use Rattle.definitions.specs.FirstFault.{signatures, labels, bodies, envelope}
use Rattle.checker.specs.declared.region.Region.{Region}
use Rattle.checker.specs.Shown.{forget, shown, Walk}
use Rattle.checker.specs.Regions.{Heads}

-- Every list of types that an offset of the table names has no more types than an environment holds.
pub record LabelsFit (image labels : List ℕ) : Type 0 where
  pub fit : (l : ℕ) → l < length labels → get_or image (get_or labels l 0) 0 ≤ widest

-- the bodies from an offset on, at every bound that is at least the bytes left
pub record BodiesIs (g : Region) (at : ℕ) (r : Walk) : Type 0 where
  pub is : (Σ : List Signature) (Θ : List Environment) (f : ℕ) → g.depth ≡ 0 → Heads g Σ Θ → length g.bytes.now - at ≤ f
      → forget (bodies Σ Θ f Θ at (drop at g.bytes.now)) ≡ shown g.bytes.now r

-- The signatures were read from `at` on, and the labels from `heads` on, up to `start`. Each list has a count byte, and no more entries than a table of offsets.
pub record HeadRead (image : List ℕ) (at heads start : ℕ) : Type 0 where
  pub signed : List Signature
  pub labelled : List Environment
  pub signatures-read : signatures at (drop at image) ≡ got signed heads (drop heads image)
  pub labels-read : labels (length signed) heads (drop heads image) ≡ got labelled start (drop start image)
  pub signed-inside : at < length image
  pub signed-few : get_or image at 0 ≤ 64
  pub labelled-inside : heads < length image
  pub labelled-few : get_or image heads 0 ≤ 64
  pub inside : start ≤ length image

-- The tests before the content of an image: size, version, length field.
abbrev pub opening : List ℕ → Read (Unit {0})
opening image = envelope version (length image) (give tt) 0 image
