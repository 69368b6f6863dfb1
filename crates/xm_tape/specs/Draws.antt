-- The rows of a seeded tape: draws of a linear congruential generator.
use Rattle.std.specs.Prelude.{ℕ, zero, suc, ◌+◌, ◌*◌, ◌/◌, ◌%◌, ◌^◌, ◌==◌, List, [], ◌∷◌, length, slice_get, None}
use Rattle.xm_model.specs.Component.{Component, Fork, Function, Join, Merge, Queue, Sink, Source, Switch}
use Rattle.xm_model.specs.declared.state.Choice.{Choice}
use Rattle.xm_model.specs.declared.state.Choice.TheVariants.{Offer, Ready}
use Rattle.xm_tape.specs.Marks.{oracles_of}

-- the generator's next number, of 64 bits
abbrev pub next_number : ℕ → ℕ
next_number x = (6364136223846793005 * x + 1442695040888963407) % (2 ^ 64)

-- the draw below k that a number is: its upper 31 bits, and their remainder
abbrev pub draw : ℕ → ℕ → ℕ
draw x k = (x / (2 ^ 33)) % k

-- 0 is silence, and r the place r - 1
abbrev pub offer_drawn : List ℕ → ℕ → Choice
offer_drawn colours zero = Offer None
offer_drawn colours (suc r) = Offer (slice_get colours r)

-- the choice that a number is for a source or a sink
abbrev pub choice_drawn : Component → ℕ → Choice
choice_drawn (Source out colours mode) x = offer_drawn colours (draw x (suc (length colours)))
choice_drawn (Sink input mode) x = Ready (draw x 2 == 1)
choice_drawn (Queue input out capacity initial) x = Offer None
choice_drawn (Function input out table) x = Offer None
choice_drawn (Fork input a b ta tb) x = Offer None
choice_drawn (Join a b out pass) x = Offer None
choice_drawn (Switch input a b to_a) x = Offer None
choice_drawn (Merge a b out) x = Offer None

-- a row for these oracles after the number x: each draws from the next number
abbrev pub row_drawn : List Component → ℕ → List Choice
row_drawn [] x = []
row_drawn (m ∷ ms) x = choice_drawn m (next_number x) ∷ row_drawn ms (next_number x)

-- the number after so many draws
abbrev pub number_after : ℕ → ℕ → ℕ
number_after zero x = x
number_after (suc n) x = number_after n (next_number x)

-- so many rows after the number x
abbrev pub rows_drawn : List Component → ℕ → ℕ → List (List Choice)
rows_drawn oracles zero x = []
rows_drawn oracles (suc n) x = row_drawn oracles x ∷ rows_drawn oracles n (number_after (length oracles) x)

abbrev pub seeded_rows : List Component → ℕ → ℕ → List (List Choice)
seeded_rows prims cycles seed = rows_drawn (oracles_of prims) cycles seed
