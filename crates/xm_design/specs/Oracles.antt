-- The sources and sinks of a net, counted as they stand below a primitive, and taken out as a list.
use Rattle.std.specs.Prelude.{◌≡◌, ℕ, true, List, filter, length, slice_get, Some}
use Rattle.xm_model.specs.Component.{Component}
use Rattle.xm_model.specs.Views.{is_oracle, oracles_below}

-- both give one number; and a source or sink stands in the list at the place of its choice in a row
pub record OraclesAgree (prims : List Component) : Type 0 where
  pub count : length (filter is_oracle prims) ≡ oracles_below prims (length prims)
  pub place : (p : ℕ) (m : Component) → slice_get prims p ≡ Some m → is_oracle m ≡ true →
      slice_get (filter is_oracle prims) (oracles_below prims p) ≡ Some m

abbrev pub OneOracleCount : Type 0
OneOracleCount = (prims : List Component) → OraclesAgree prims
