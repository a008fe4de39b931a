-- What is known of a region, and of a region in it.
use Rattle.std.specs.Prelude.{ℕ, ◌≡◌, List, take}
use Rattle.definitions.specs.Terms.{Environment, Signature}
use Rattle.checker.specs.declared.region.Region.{Region}
use Rattle.checker.specs.Laid.{Placed, parameters_bytes, signature_bytes}

-- The tables of a region say where these signatures and these labels' lists stand.
pub record Heads (g : Region) (Σ : List Signature) (Θ : List Environment) : Type 0 where
  pub signed : Placed signature_bytes g.image.now g.sigs.now Σ
  pub labelled : Placed parameters_bytes g.image.now g.labels.now Θ

-- The region up to an offset, so many clauses deep.
pub record UpTo (g : Region) (end deep : ℕ) (h : Region) : Type 0 where
  pub image : h.image.now ≡ g.image.now
  pub sigs : h.sigs.now ≡ g.sigs.now
  pub labels : h.labels.now ≡ g.labels.now
  pub bytes : h.bytes.now ≡ take end g.bytes.now
  pub depth : h.depth ≡ deep
