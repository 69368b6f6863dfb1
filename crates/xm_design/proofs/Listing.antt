-- The list of sources and sinks has as many as are counted, each at its place.
use Rattle.std.proofs.Common.{◌≡◌, ℕ, zero, suc, ◌+◌, Bool, true, false, cond, List, [], ◌∷◌, length, slice_get, Some, refl, ap, ◌∙◌, arith}
use Rattle.std.specs.Prelude.{filter}
use Rattle.xm_design.specs.Oracles.{OneOracleCount}
use Rattle.xm_model.specs.Component.{Component}
use Rattle.xm_model.specs.Views.{is_oracle, oracles_below}

counted : (prims : List Component) → length (filter is_oracle prims) ≡ oracles_below prims (length prims)
counted [] = refl
counted (m ∷ ms) = at (is_oracle m) (counted ms) where
  at : (b : Bool) → length (filter is_oracle ms) ≡ oracles_below ms (length ms) → length (cond b (m ∷ filter is_oracle ms) (filter is_oracle ms)) ≡ cond b 1 0 + oracles_below ms (length ms)
  at true rest = omega (arith, rest)
  at false rest = omega (arith, rest)

placed : (prims : List Component) (p : ℕ) (m : Component) → slice_get prims p ≡ Some m → is_oracle m ≡ true → slice_get (filter is_oracle prims) (oracles_below prims p) ≡ Some m
placed [] p m has is = cc
placed (x ∷ ms) zero m has is = let same : x ≡ m = cc in rw (same, is) refl
placed (x ∷ ms) (suc p) m has is = at (is_oracle x) (placed ms p m has is) where
  at : (b : Bool) → slice_get (filter is_oracle ms) (oracles_below ms p) ≡ Some m → slice_get (cond b (x ∷ filter is_oracle ms) (filter is_oracle ms)) (cond b 1 0 + oracles_below ms p) ≡ Some m
  at true rest = ap (slice_get (x ∷ filter is_oracle ms)) (let e : 1 + oracles_below ms p ≡ suc (oracles_below ms p) = omega arith in e) ∙ rest
  at false rest = ap (slice_get (filter is_oracle ms)) (let e : 0 + oracles_below ms p ≡ oracles_below ms p = omega arith in e) ∙ rest

pub one_oracle_count : OneOracleCount
one_oracle_count prims = record { count = counted prims; place = placed prims }
