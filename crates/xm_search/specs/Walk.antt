-- A depth-first walk over channels, and the order in which it leaves them.
use Rattle.std.specs.Prelude.{ℕ, List, [], ◌∷◌, ◌++◌}
use Rattle.xm_model.specs.Membership.{IsIn}

-- from the channels that are seen, through those to visit: the channels that are left on the way, in order, and those
-- that are seen then
pub data Walks (next : ℕ → List ℕ) : List ℕ → List ℕ → List ℕ → List ℕ → Type 0 where
  done : (seen : List ℕ) → Walks next seen [] [] seen
  passed : (seen visit left after : List ℕ) (c : ℕ) → IsIn seen c → Walks next seen visit left after
      → Walks next seen (c ∷ visit) left after
  entered : (seen visit inner between left after : List ℕ) (c : ℕ) → (IsIn seen c → ⊥)
      → Walks next (c ∷ seen) (next c) inner between → Walks next between visit left after
      → Walks next seen (c ∷ visit) (inner ++ c ∷ left) after

-- a walk from each of the channels in turn leaves them in this order
abbrev pub IsLeavingOrder : (ℕ → List ℕ) → List ℕ → List ℕ → Type 0
IsLeavingOrder next channels order = (after : List ℕ) × Walks next [] channels order after
