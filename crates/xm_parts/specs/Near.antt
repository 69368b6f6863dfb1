-- The parts with which a part shares a queue.
use Rattle.std.specs.Prelude.{◌≡◌, ℕ, ◌<◌, List, Some, slice_get}
use Rattle.xm_colours.specs.Family.{Rises}
use Rattle.xm_model.specs.Net.{Network}
use Rattle.xm_parts.specs.Partition.{AreNeighbours}
use Rattle.xm_parts.specs.declared.part.Cut.{Cut}

-- the far channel of some cut queue lies in part q
pub record HasCut (cuts : List Cut) (q : ℕ) : Type 0 where
  pub place : ℕ
  pub cut : Cut
  pub stands : slice_get cuts place ≡ Some cut
  pub part : cut.part ≡ q

-- those of the parts below n in which a far channel lies, in order
pub record ArePartsOf (cuts : List Cut) (n : ℕ) (parts : List ℕ) : Type 0 where
  pub near : (k q : ℕ) → slice_get parts k ≡ Some q → HasCut cuts q
  pub whole : (q : ℕ) → q < n → HasCut cuts q → (k : ℕ) × (slice_get parts k ≡ Some q)
  pub below : (k q : ℕ) → slice_get parts k ≡ Some q → q < n
  pub rise : Rises parts

-- the neighbours of part p in order, and no other part
pub record AreNear (net : Network) (label : ℕ → ℕ) (p : ℕ) (parts : List ℕ) : Type 0 where
  pub near : (k q : ℕ) → slice_get parts k ≡ Some q → AreNeighbours net label p q
  pub whole : (q : ℕ) → AreNeighbours net label p q → (k : ℕ) × (slice_get parts k ≡ Some q)
  pub rise : Rises parts
