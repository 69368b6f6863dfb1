-- Inner: paths and rings of the dependence. No public clause cites these.
use Rattle.std.specs.Prelude.{◌≡◌, ℕ, suc, ◌-◌, List, length, Some, slice_get}
use Rattle.xm_model.specs.Net.{Network}
use Rattle.xm_order.specs.Dependence.{Depends}
use Rattle.xm_order.specs.declared.signal.Signal.{Signal}

-- distinct signals, each depending on the next
pub record IsPath (net : Network) (path : List Signal) : Type 0 where
  pub distinct : (j k : ℕ) (σ : Signal) → slice_get path j ≡ Some σ → slice_get path k ≡ Some σ → j ≡ k
  pub next : (k : ℕ) (σ τ : Signal) → slice_get path k ≡ Some σ → slice_get path (suc k) ≡ Some τ → Depends net σ τ

-- the last of these signals depends on this one
abbrev pub LastNeeds : Network → List Signal → Signal → Type 0
LastNeeds net path τ = (σ : Signal) → slice_get path (length path - 1) ≡ Some σ → Depends net σ τ

-- a path whose last signal depends on its first
pub record IsRing (net : Network) (ring : List Signal) : Type 0 where
  pub is_path : IsPath net ring
  pub closes : (τ : Signal) → slice_get ring 0 ≡ Some τ → LastNeeds net ring τ
