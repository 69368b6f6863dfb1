use Rattle.std.proofs.Common.{◌≡◌, ◌<◌, sym, subst, length, map, arith, refl, ◌∙◌, Some, slice_get, slice_index_or}
use Rattle.std.proofs.lemmas.List.{length-map}
use Rattle.std.proofs.lemmas.Option.{slice_get-map, slice_get_read, slice_get_within}
use Rattle.xm_model.specs.Component.{component_of}
use Rattle.xm_model.specs.declared.state.Cell.{Cell}
use Rattle.xm_parts.proofs.CellsAt.{cell_read, cell_set_other, gone_more, prim_read, prim_set}
use Rattle.xm_parts.specs.Inner.Going.{HasGone, HasPlace}
use Rattle.xm_parts.specs.Rows.{cell_in, part_signals}
use Rattle.xm_step.specs.Roomy.{IsRoomyCell}
use Rattle.xm_parts.proofs.step.go_on_all.Goals as goal

there_of : (c : goal.After-index-out-k) → slice_get (map component_of c.args.locals.now) c.loop-k.k ≡ Some (component_of c.index-locals-k.result)
there_of c = rw (slice_get-map component_of c.args.locals.now c.loop-k.k, slice_get_read c.args.locals.now (length c.args.locals.now) c.loop-k.k c.index-locals-k.result refl (omega arith) c.index-locals-k.is) refl

pub go_on-requires-clause-from : goal.go_on-requires-clause-from
go_on-requires-clause-from c =
    let whole = c.requires.from_whole in let count : length (map component_of c.args.locals.now) ≡ length c.args.locals.now = simp length-map in
    subst (λ (x : Cell). IsRoomyCell (component_of c.index-locals-k.result) x) (sym (cell_read c.args.old.now c.loop-k.k c.index-old-k.result (omega arith))) (c.requires.from_roomy c.loop-k.k (component_of c.index-locals-k.result) (there_of c))

pub go_on-requires-clause-to : goal.go_on-requires-clause-to
go_on-requires-clause-to c =
    let whole = c.requires.before_whole in let count : length (map component_of c.args.locals.now) ≡ length c.args.locals.now = simp length-map in
    subst (λ (x : Cell). IsRoomyCell (component_of c.index-locals-k.result) x) (sym (cell_read c.loop-k.out c.loop-k.k c.index-out-k.result (omega arith) ∙ c.loop-k.invariant.rest c.loop-k.k (omega arith)))
    (c.requires.before_roomy c.loop-k.k (component_of c.index-locals-k.result) (there_of c))

pub go_on-requires-clause-place : goal.go_on-requires-clause-place
go_on-requires-clause-place c =
    let whole = c.requires.from_whole in let count : length (map component_of c.args.locals.now) ≡ length c.args.locals.now = simp length-map in
    subst (λ (x : Cell). HasPlace (component_of c.index-locals-k.result) x (part_signals c.args.wires.now c.args.far.now)) (sym (cell_read c.args.old.now c.loop-k.k c.index-old-k.result (omega arith))) (c.requires.has_place c.loop-k.k (component_of c.index-locals-k.result) (there_of c))

pub go_on-requires-clause-own : goal.go_on-requires-clause-own
go_on-requires-clause-own c = c.requires.own c.loop-k.k (component_of c.index-locals-k.result) (there_of c)

pub loop-k-preserved : goal.loop-k-preserved
loop-k-preserved c =
    let whole = c.requires.from_whole in let also = c.requires.before_whole in let count : length (map component_of c.args.locals.now) ≡ length c.args.locals.now = simp length-map in
    let there : slice_get (map component_of c.args.locals.now) c.loop-k.k ≡ Some (component_of c.index-locals-k.result) =
    rw (slice_get-map component_of c.args.locals.now c.loop-k.k, slice_get_read c.args.locals.now (length c.args.locals.now) c.loop-k.k c.index-locals-k.result refl (omega arith) c.index-locals-k.is) refl in
    let went : HasGone (component_of c.index-locals-k.result) (cell_in c.args.old.now c.loop-k.k) c.go_on.new.to (part_signals c.args.wires.now c.args.far.now) =
    subst (λ (x : Cell). HasGone (component_of c.index-locals-k.result) x c.go_on.new.to (part_signals c.args.wires.now c.args.far.now)) (cell_read c.args.old.now c.loop-k.k c.index-old-k.result (omega arith)) c.go_on.ensures in
    record {
      gone = gone_more (map component_of c.args.locals.now) c.args.old.now c.loop-k.out c.loop-k.k (component_of c.index-locals-k.result)
          (record { prim = (slice_index_or c.loop-k.out c.loop-k.k c.index-out-k.result).prim; cell = c.go_on.new.to }) (part_signals c.args.wires.now c.args.far.now) (omega arith) there went c.loop-k.invariant.gone;
      rest = λ k h. cell_set_other c.loop-k.out c.loop-k.k k _ (omega arith) ∙ c.loop-k.invariant.rest k (omega arith);
      prims = λ k. prim_set c.loop-k.out c.loop-k.k k (record { prim = (slice_index_or c.loop-k.out c.loop-k.k c.index-out-k.result).prim; cell = c.go_on.new.to }) (prim_read c.loop-k.out c.loop-k.k c.index-out-k.result (omega arith)) ∙ c.loop-k.invariant.prims k;
    }

pub returns : goal.returns
returns c = record {
  whole = c.loop-k.auto.out;
  prims = c.loop-k.invariant.prims;
  gone = λ k m there.
      let inside : k < length (map component_of c.args.locals.now) = slice_get_within (map component_of c.args.locals.now) k m there in
      let count : length (map component_of c.args.locals.now) ≡ length c.args.locals.now = simp length-map in
      c.loop-k.invariant.gone k m (omega arith) there;
}
