-- Flow rows of a net: what moved into a primitive, what moved out of it and what is there add up, colour by colour.
use Rattle.std.specs.Prelude.{◌≡◌, ℕ, suc, ◌+◌, ◌^◌, ◌<◌, ◌&&◌, Bool, false, List}
use Rattle.std.specs.Prelude.{[], ◌∷◌, ◌++◌, length, map, slice_get, slice_index, Some, cond, nat_eq}
use Rattle.std.specs.Prelude.{nat_lt, ℤ, pos, neg_ℤ, ◌+ℤ◌, ◌*ℤ◌, All}
use Rattle.xm_colours.specs.Family.{colours_at}
use Rattle.xm_colours.specs.Pairs.{pairs, queue_pairs}
use Rattle.xm_design.specs.Designed.{Designed}
use Rattle.xm_model.specs.Component.{Component, Source, Sink, Queue, Function, Fork, Join, Switch, Merge}
use Rattle.xm_model.specs.Membership.{times}
use Rattle.xm_model.specs.Signals.{at_side}
use Rattle.xm_rows.specs.Row.{IsRow, SparseRow, coefficient}

-- the moves of a colour on a channel so far, and the packets of a colour in a queue
pub data Column : Type 0 where
  Moves : (channel colour : ℕ) → Column
  Count : (queue colour : ℕ) → Column

abbrev pub moves_of : ℕ × ℕ → Column
moves_of it = Moves it.0 it.1

abbrev pub count_of : ℕ × ℕ → Column
count_of it = Count it.0 it.1

-- the columns in order: the pairs of channels and colours, and then the queue pairs
abbrev pub columns : Designed → List Column
columns it =
    map moves_of (pairs (colours_at it.colours) it.net.channels)
    ++ map count_of (queue_pairs (colours_at it.colours) 0 it.net.prims)

abbrev pub same_column : Column → Column → Bool
same_column (Moves c d) (Moves e f) = nat_eq c e && nat_eq d f
same_column (Moves c d) (Count q f) = false
same_column (Count q d) (Moves e f) = false
same_column (Count q d) (Count r f) = nat_eq q r && nat_eq d f

pub record Term : Type 0 where
  pub value : ℤ
  pub column : Column

-- the terms, each a value times its column, add up to the constant
pub record FlowRow : Type 0 where
  pub left : List Term
  pub constant : ℤ

-- what the terms have in a column: those of one column are added
abbrev pub amount : List Term → Column → ℤ
amount [] k = pos 0
amount (e ∷ es) k = cond (same_column e.column k) e.value (pos 0) +ℤ amount es k

-- the terms' values, each times what its column counts
abbrev pub row_value : (Column → ℤ) → List Term → ℤ
row_value at [] = pos 0
row_value at (e ∷ es) = (e.value *ℤ at e.column) +ℤ row_value at es

abbrev pub plus : Column → Term
plus k = record { value = pos 1; column = k }

abbrev pub minus : Column → Term
minus k = record { value = neg_ℤ (pos 1); column = k }

-- the term of moves, left out where the colour is not one of the channel's
abbrev pub if_coloured : (ℕ → List ℕ) → (Column → Term) → ℕ → ℕ → List Term
if_coloured colours sign c d = cond (nat_lt 0 (times d (colours c))) (sign (Moves c d) ∷ []) []

-- what came, less what went and what is there, is less by what was there at first
abbrev pub queue_row : (ℕ → List ℕ) → ℕ → ℕ → ℕ → List ℕ → ℕ → FlowRow
queue_row colours q input out initial d = record {
  left = if_coloured colours plus input d ++ minus (Moves out d) ∷ minus (Count q d) ∷ [];
  constant = neg_ℤ (pos (times d initial));
}

abbrev pub balanced : List Term → FlowRow
balanced left = record { left = left; constant = pos 0 }

-- the colours that a table takes to e
abbrev pub taken_to : List ℕ → ℕ → List ℕ → List ℕ
taken_to table e [] = []
taken_to table e (d ∷ ds) = cond (nat_eq (slice_index table d) e) (d ∷ taken_to table e ds) (taken_to table e ds)

-- what went as e is what came and became e
abbrev pub image_row : (ℕ → List ℕ) → ℕ → List ℕ → ℕ → ℕ → FlowRow
image_row colours input table out e =
    balanced (plus (Moves out e) ∷ map (λ d. minus (Moves input d)) (taken_to table e (colours input)))

-- what went is what came, in each colour of the channel out
abbrev pub same_row : (ℕ → List ℕ) → ℕ → ℕ → ℕ → FlowRow
same_row colours input out d = balanced (plus (Moves out d) ∷ if_coloured colours minus input d)

-- as much came on one side as on the other
abbrev pub sides_row : (ℕ → List ℕ) → ℕ → ℕ → FlowRow
sides_row colours a b = balanced (map (λ d. plus (Moves a d)) (colours a) ++ map (λ d. minus (Moves b d)) (colours b))

-- what went came on one of the sides
abbrev pub merge_row : (ℕ → List ℕ) → ℕ → ℕ → ℕ → ℕ → FlowRow
merge_row colours a b out d =
    balanced (plus (Moves out d) ∷ if_coloured colours minus a d ++ if_coloured colours minus b d)

-- the flow rows of primitive number p
abbrev pub rows_at : (ℕ → List ℕ) → ℕ → Component → List FlowRow
rows_at colours p (Source out cs mode) = []
rows_at colours p (Sink input mode) = []
rows_at colours p (Queue input out capacity initial) = map (queue_row colours p input out initial) (colours out)
rows_at colours p (Function input out table) = map (image_row colours input table out) (colours out)
rows_at colours p (Fork input a b ta tb) =
    map (image_row colours input ta a) (colours a) ++ map (image_row colours input tb b) (colours b)
rows_at colours p (Join a b out pass) =
    map (same_row colours (at_side pass a b) out) (colours out) ++ sides_row colours a b ∷ []
rows_at colours p (Switch input a b to_a) =
    map (same_row colours input a) (colours a) ++ map (same_row colours input b) (colours b)
rows_at colours p (Merge a b out) = map (merge_row colours a b out) (colours out)

-- the rows of primitives that are numbered from p on
abbrev pub rows_from : (ℕ → List ℕ) → ℕ → List Component → List FlowRow
rows_from colours p [] = []
rows_from colours p (m ∷ ms) = rows_at colours p m ++ rows_from colours (suc p) ms

abbrev pub flow_rows : Designed → List FlowRow
flow_rows it = rows_from (colours_at it.colours) 0 it.net.prims

-- the sparse row is the flow row, with each column as its number
pub record IsNumbered (listed : List Column) (row : FlowRow) (sparse : SparseRow) : Type 0 where
  pub within : All (λ e. e.column < length listed) sparse.entries
  pub entries : (j : ℕ) (k : Column) → slice_get listed j ≡ Some k → coefficient sparse.entries j ≡ amount row.left k
  pub constant : sparse.constant ≡ row.constant

-- the sparse rows are the flow rows of the design, in order
pub record AreFlowRows (it : Designed) (rows : List SparseRow) : Type 0 where
  pub whole : length rows ≡ length (flow_rows it)
  pub at : (i : ℕ) (row : FlowRow) (sparse : SparseRow) → slice_get (flow_rows it) i ≡ Some row
      → slice_get rows i ≡ Some sparse → IsNumbered (columns it) row sparse

-- what a list of flow rows is to contracts: the rows, and how many columns of moves and how many of counts they have
pub record Flow : Type 0 where
  pub rows : List SparseRow
  pub moves : ℕ
  pub counts : ℕ

-- the rows are rows, and few
pub record IsKept (flow : Flow) : Type 0 where
  pub rows : All IsRow flow.rows
  pub few : length flow.rows < 2 ^ 20
  pub narrow : flow.moves + flow.counts < 2 ^ 20
