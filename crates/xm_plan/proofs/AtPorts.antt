-- Sides of equations at one of two ports.
use Rattle.std.proofs.Common.{◌≡◌, ◌≢◌, ◌⊎◌, ℕ, inl, inr, Option, Some, None, List, false, nat_eq, refl, sym, ap}
use Rattle.std.proofs.lemmas.Bool.{ne_eqb}
use Rattle.xm_model.specs.Signals.{through}
use Rattle.xm_model.specs.declared.primitive.SourceMode.{SourceMode}
use Rattle.xm_model.specs.declared.primitive.SourceMode.TheVariants as source_mode
use Rattle.xm_plan.specs.Inner.Operations.{Keeps, kept}

-- the second of two places is not the first
pub not_first : (a b : ℕ) → a ≢ b → nat_eq b a ≡ false
not_first a b apart = ne_eqb b a (λ same. apart (sym same))

-- a map that keeps n colours
pub kept-through : (n : ℕ) (table : List ℕ) (offer : Option ℕ) → Keeps n table → kept n offer ≡ through table offer
kept-through n table None keeps = refl
kept-through n table (Some d) keeps = ap Some (sym (keeps d))

pub not_eager : (mode : SourceMode) → (mode ≡ source_mode.Keep) ⊎ ((mode ≡ source_mode.Free) ⊎ (mode ≡ source_mode.Fair)) → mode ≢ source_mode.Eager
not_eager mode (inl keep) eager = cc
not_eager mode (inr (inl free)) eager = cc
not_eager mode (inr (inr fair)) eager = cc
