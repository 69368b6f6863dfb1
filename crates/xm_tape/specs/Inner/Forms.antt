-- Inner: the two forms in which a tape is kept.
use Rattle.std.specs.Prelude.{ℕ, ◌*◌, List, [], ◌∷◌, length, map}
use Rattle.xm_model.specs.Component.{Component, Sink, Source}
use Rattle.xm_model.specs.declared.primitive.SinkMode.TheVariants as sink_mode
use Rattle.xm_model.specs.declared.primitive.SourceMode.TheVariants as source_mode
use Rattle.xm_model.specs.declared.state.Choice.{Choice}
use Rattle.xm_tape.specs.Draws.{number_after, row_drawn, rows_drawn}
use Rattle.xm_tape.specs.Taped.{Taped}
use Rattle.xm_tape.specs.declared.drawn.DrawnTape.{DrawnTape}
use Rattle.xm_tape.specs.declared.drawn.Oracle.{Oracle}
use Rattle.xm_tape.specs.declared.drawn.Oracle.TheVariants as oracle
use Rattle.xm_tape.specs.declared.rows.Form.{Form}
use Rattle.xm_tape.specs.declared.rows.Form.TheVariants as forms

-- a source or a sink of which the same is drawn as of this one: its channel and its mode do not count
abbrev pub drawn_form : Component → Component
drawn_form (Source out colours mode) = Source 0 colours source_mode.Keep
drawn_form (Sink input mode) = Sink 0 sink_mode.Keep
drawn_form m = m

-- the same of what the tape keeps
abbrev pub component_drawn : Oracle → Component
component_drawn oracle.Sink = Sink 0 sink_mode.Keep
component_drawn (oracle.Single colour) = Source 0 (colour ∷ []) source_mode.Keep
component_drawn (oracle.Listed colours) = Source 0 colours.items source_mode.Keep

abbrev pub drawn_of : DrawnTape → Taped
drawn_of tape =
    record { stem = rows_drawn (map component_drawn tape.oracles.items) tape.cycles tape.seed; cycle = []; times = 0 }

abbrev pub taped_of : Form → Taped
taped_of (forms.Written tape) = tape
taped_of (forms.Drawn tape) = drawn_of tape

-- the number after which the row of cycle t is drawn; none for rows that are written
abbrev pub number_at : Form → ℕ → ℕ
number_at (forms.Written tape) t = 0
number_at (forms.Drawn tape) t = number_after (t * length tape.oracles.items) tape.seed

-- the row of cycle t, where it is drawn
abbrev pub drawn_row : Form → ℕ → List Choice
drawn_row (forms.Written tape) t = []
drawn_row (forms.Drawn tape) t =
    row_drawn (map component_drawn tape.oracles.items) (number_after (t * length tape.oracles.items) tape.seed)

-- how many choices of a row are made in place
abbrev pub width_drawn : Form → ℕ
width_drawn (forms.Written tape) = 0
width_drawn (forms.Drawn tape) = length tape.oracles.items
