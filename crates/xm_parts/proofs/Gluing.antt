-- A row of a part, put into a state and a frame.
use Rattle.std.proofs.Common.{◌≡◌, ℕ, ◌<◌, true, List, length, map, refl, ap, sym, ◌∙◌, subst, inl, inr, eq-eqb, Some, None, slice_get}
use Rattle.std.specs.Prelude.{Option}
use Rattle.std.proofs.lemmas.Option.{slice_get-map, slice_get_within}
use Rattle.xm_model.specs.Component.{Component, Content, Queue, Source, Sink, Function, Fork, Join, Switch, Merge, content_of}
use Rattle.xm_model.specs.Lemmas.Local.{IsPort}
use Rattle.xm_model.specs.Net.{Network}
use Rattle.xm_model.specs.Ports.{function_output, fork_input, join_output, merge_output, queue_output, sink_input, source_output, switch_input}
use Rattle.xm_model.specs.Signals.{Signals}
use Rattle.xm_model.specs.declared.state.Wire.{Wire}
use Rattle.xm_parts.proofs.Parting.{port_below, slice_get-found}
use Rattle.xm_parts.proofs.Passing.{passing_at, passing_from}
use Rattle.xm_parts.proofs.Stepping.{map_item}
use Rattle.xm_parts.proofs.Touching.{touching}
use Rattle.xm_parts.specs.Gluing.{GlueLaw, HoldsPart, ShowsCells, ShowsWires}
use Rattle.xm_parts.specs.Partition.{channels_in, lies_in, prims_in, touches_at}
use Rattle.xm_parts.specs.Projection.{Row, projection, wire_of}
use Rattle.xm_parts.specs.Rows.{FitsPart, row_of}
use Rattle.xm_parts.specs.declared.row.PartRow.{PartRow}
use Rattle.xm_parts.specs.declared.row.PrimCell.{PrimCell}

touch_within : (net : Network) (label : ℕ → ℕ) (p i : ℕ) → touches_at net label p i ≡ true → i < length net.prims
touch_within net label p i h = by_prim (slice_get net.prims i) refl where
  by_prim : (o : Option Component) → slice_get net.prims i ≡ o → i < length net.prims
  by_prim None is = absurd (let none = rw is at h in cc)
  by_prim (Some m) is = slice_get_within net.prims i m is

module _ (net : Network) (label : ℕ → ℕ) (p : ℕ) (row : PartRow) (fits : FitsPart net label p row) where
  pub prims_below : (k : ℕ) (x : PrimCell) → slice_get row.cells.items k ≡ Some x → x.prim < length net.prims
  prims_below k x at =
      let stands : slice_get (prims_in net label p) k ≡ Some x.prim = ap (λ (xs : List ℕ). slice_get xs k) (sym fits.prims) ∙ rw (slice_get-map (λ (y : PrimCell). y.prim) row.cells.items k, at) refl in
      (passing_from (touches_at net label p) (length net.prims) k x.prim stands).below

  module _ (s : ℕ → Content) (φ : Signals) (is : row_of row ≡ projection net label p s φ) where
    pub shows_cells : ShowsCells row.cells.items s
    shows_cells k x at =
        let image : slice_get (map {B = ℕ × Content} (λ (y : PrimCell). (y.prim, content_of y.cell)) row.cells.items) k ≡ Some (x.prim, content_of x.cell) = rw (slice_get-map {B = ℕ × Content} (λ (y : PrimCell). (y.prim, content_of y.cell)) row.cells.items k, at) refl in
        let found = map_item {Y = ℕ × Content} (λ i. (i, s i)) (prims_in net label p) (map (λ (y : PrimCell). (y.prim, content_of y.cell)) row.cells.items) k (x.prim, content_of x.cell) (sym (ap (λ (r : Row). r.cells) is)) image in
        sym (ap (λ y. y.1) found.2) ∙ ap s (ap (λ y. y.0) found.2)

    pub shows_wires : ShowsWires (channels_in net label p) row.wires.items φ
    shows_wires k c at = ap (λ (r : Row). slice_get r.wires k) is ∙ rw (slice_get-map (wire_of φ) (channels_in net label p) k, at) refl

  pub part_put : (s : ℕ → Content) (φ : Signals) (contents : List Content) (wires : List Wire) →
      ((k : ℕ) (x : PrimCell) → slice_get row.cells.items k ≡ Some x → slice_get contents x.prim ≡ Some (s x.prim)) →
      ((k c : ℕ) → slice_get (channels_in net label p) k ≡ Some c → slice_get wires c ≡ Some (wire_of φ c)) → HoldsPart net label p s φ contents wires
  part_put s φ contents wires cells channels = record {
    contents_are = λ i touch.
        let at = passing_at (touches_at net label p) (length net.prims) i (touch_within net label p i touch) touch in
        let found = map_item (λ (x : PrimCell). x.prim) row.cells.items (prims_in net label p) _ i fits.prims at in
        subst (λ (j : ℕ). slice_get contents j ≡ Some (s j)) found.2 (cells _ found.0 found.1);
    wires_are = λ c below lies. channels _ c (passing_at (lies_in label p) net.channels c below (eq-eqb (label c) p lies));
  }

-- each primitive has a channel
some_port : (m : Component) → (c : ℕ) × IsPort m c
some_port (Source out cs mode) = (out, inl source_output)
some_port (Sink input mode) = (input, inr sink_input)
some_port (Queue input out k ps) = (out, inl queue_output)
some_port (Function input out t) = (out, inl function_output)
some_port (Fork input a b ta tb) = (input, inr fork_input)
some_port (Join a b out pass) = (out, inl join_output)
some_port (Switch input a b t) = (input, inr switch_input)
some_port (Merge a b out) = (out, inl merge_output)

pub glue_law : GlueLaw
glue_law net label count s φ contents wires is_net labels each = record {
  contents_are = λ i below.
      let m = slice_get-found net.prims i below in
      let port = some_port m.0 in
      let channel = port_below net is_net i m.0 port.0 m.1 port.1 in
      (each (label port.0) (labels port.0 channel)).contents_are i (touching net label (label port.0) i port.0 m.0 m.1 port.1 refl);
  wires_are = λ c below. (each (label c) (labels c below)).wires_are c below refl;
}
