-- The lists of the code, read as functions.
use Rattle.std.specs.Prelude.{◌≡◌, ℕ, zero, suc, ◌+◌, cond, Bool, true, false, List, [], ◌∷◌, length, slice_get, Option, Some, None}
use Rattle.xm_model.specs.Component.{Component, Source, Sink, Content, Nothing, content_of}
use Rattle.xm_model.specs.Net.{Network}
use Rattle.xm_model.specs.Signals.{Signals}
use Rattle.xm_model.specs.Frame.{IsFrame}
use Rattle.xm_model.specs.Next.{next, reset}
use Rattle.xm_model.specs.declared.state.Cell.{Cell}
use Rattle.xm_model.specs.declared.state.Choice.{Choice}
use Rattle.xm_model.specs.declared.state.Choice.TheVariants.{Ready}
use Rattle.xm_model.specs.declared.state.Wire.{Wire}

abbrev pub content_or : Option Cell → Content
content_or None = Nothing
content_or (Some cell) = content_of cell

-- what primitive p holds
abbrev pub content_at : List Cell → ℕ → Content
content_at cells p = content_or (slice_get cells p)

-- choices are listed for the sources and sinks alone, in primitive order
abbrev pub is_oracle : Component → Bool
is_oracle (Source _ _ _) = true
is_oracle (Sink _ _) = true
is_oracle _ = false

-- how many sources and sinks stand below primitive p
abbrev pub oracles_below : List Component → ℕ → ℕ
oracles_below [] p = 0
oracles_below (m ∷ ms) zero = 0
oracles_below (m ∷ ms) (suc p) = cond (is_oracle m) 1 0 + oracles_below ms p

abbrev pub choice_or : Option Choice → Choice
choice_or None = Ready false
choice_or (Some choice) = choice

-- the choice for primitive p
abbrev pub choice_at : List Component → List Choice → ℕ → Choice
choice_at prims w p = choice_or (slice_get w (oracles_below prims p))

abbrev pub offer_or : Option Wire → Option ℕ
offer_or None = None
offer_or (Some wire) = wire.offer

abbrev pub ready_or : Option Wire → Bool
ready_or None = false
ready_or (Some wire) = wire.ready

-- what the wires show
abbrev pub signals_of : List Wire → Signals
signals_of wires = record { offer = λ c. offer_or (slice_get wires c); ready = λ c. ready_or (slice_get wires c) }

-- the wires are a frame of the cells under the choices
pub record IsFrameOf (net : Network) (cells : List Cell) (w : List Choice) (wires : List Wire) : Type 0 where
  pub whole : length wires ≡ net.channels
  pub frame : IsFrame net (content_at cells) (choice_at net.prims w) (signals_of wires)

-- the cells are those at reset
pub record IsResetOf (net : Network) (cells : List Cell) : Type 0 where
  pub whole : length cells ≡ length net.prims
  pub same : (p : ℕ) → content_at cells p ≡ reset net p

-- the cells are those after the cycle
pub record IsNextOf (net : Network) (before : List Cell) (φ : Signals) (after : List Cell) : Type 0 where
  pub whole : length after ≡ length net.prims
  pub same : (p : ℕ) → content_at after p ≡ next net (content_at before) φ p
