-- Literals that never hold together.
use Rattle.std.specs.Prelude.{◌≡◌, ℕ, List, [], ◌∷◌, Option, Some, Bool, true, false, ◌&&◌, not, nat_eq, nat_lt}
use Rattle.std.specs.Prelude.{slice_get}
use Rattle.xm_colours.specs.Family.{colours_at}
use Rattle.xm_design.specs.Designed.{Designed}
use Rattle.xm_lits.specs.Inference.{has_colour, idle_all}
use Rattle.xm_lits.specs.declared.literal.Lit.{Lit}
use Rattle.xm_lits.specs.declared.literal.Lit.TheVariants.{Dead, Idle, Has}
use Rattle.xm_model.specs.Component.{Component, Queue, Source}
use Rattle.xm_model.specs.Net.{Network, initiators}
use Rattle.xm_model.specs.declared.primitive.SourceMode.{SourceMode}
use Rattle.xm_model.specs.declared.primitive.SourceMode.TheVariants as source_mode

-- a channel is dead with a colour and idle of it, or dead with two colours
abbrev pub are_opposed : Lit → Lit → Bool
are_opposed (Dead c d) (Idle e f) = nat_eq c e && nat_eq d f
are_opposed (Idle c d) (Dead e f) = nat_eq c e && nat_eq d f
are_opposed (Dead c d) (Dead e f) = nat_eq c e && not (nat_eq d f)
are_opposed _ _ = false

-- it is a queue whose output lacks the colour
abbrev pub lacks_colour : (ℕ → List ℕ) → ℕ → Option Component → Bool
lacks_colour colours d (Some (Queue _ out _ _)) = not (has_colour (colours out) d)
lacks_colour colours d _ = false

-- a channel is dead with a colour outside its set, or a queue has a packet of one outside that of its output
abbrev pub is_outside : Designed → Lit → Bool
is_outside it (Dead c d) = nat_lt c it.net.channels && not (has_colour (colours_at it.colours c) d)
is_outside it (Has q d) = lacks_colour (colours_at it.colours) d (slice_get it.net.prims q)
is_outside it _ = false

-- the mode of a source that offers again and again
abbrev pub offers_again : SourceMode → Bool
offers_again source_mode.Keep = false
offers_again source_mode.Eager = true
offers_again source_mode.Free = false
offers_again source_mode.Fair = true

abbrev pub is_offering : Option Component → Bool
is_offering (Some (Source _ _ mode)) = offers_again mode
is_offering _ = false

-- the one primitive that is listed is an eager or fair source
abbrev pub one_offers : Network → List ℕ → Bool
one_offers net [] = false
one_offers net (p ∷ []) = is_offering (slice_get net.prims p)
one_offers net (p ∷ q ∷ ps) = false

-- an eager or fair source offers on the channel
abbrev pub is_offered : Designed → ℕ → Bool
is_offered it c = one_offers it.net (initiators it.net.prims c)

-- a clash: two literals that are opposed, one that is outside, or idleness of all colours where such a source offers
pub data IsClash (it : Designed) : List Lit → Type 0 where
  two_opposed : (l m : Lit) → are_opposed l m ≡ true → IsClash it (l ∷ m ∷ [])
  one_outside : (l : Lit) → is_outside it l ≡ true → IsClash it (l ∷ [])
  all_idle : (c : ℕ) → is_offered it c ≡ true → IsClash it (idle_all (colours_at it.colours) c)
