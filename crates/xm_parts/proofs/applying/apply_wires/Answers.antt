use Rattle.std.proofs.Common.{◌<◌, length, get_or, arith, None, false}
use Rattle.std.proofs.lemmas.Option.{slice_get-get_or, slice_get_within}
use Rattle.xm_parts.proofs.Placing.{wire_each, wire_rest}
use Rattle.xm_parts.specs.declared.changes.WireChange.{WireChange}
use Rattle.xm_parts.proofs.applying.apply_wires.Goals as goal

abbrev no_change : WireChange
no_change = record { place = 0; wire = record { offer = None; ready = false } }

pub loop-change-preserved : goal.loop-change-preserved
loop-change-preserved c =
    let wires = c.loop-change.wires in let j = c.loop-change.change-index in
    let it = get_or c.args.changes.now j no_change in
    let at = slice_get-get_or c.args.changes.now j no_change c.loop-change-test.true in
    let inside : it.place < length wires = (let b = c.requires j it at in let long = c.loop-change.auto.wires in omega arith) in
    record {
      each = λ once. wire_each c.args.wires.now c.args.changes.now wires j it at inside once (c.loop-change.invariant.each once);
      rest = wire_rest c.args.wires.now c.args.changes.now wires j it at inside c.loop-change.invariant.rest;
    }

pub returns : goal.returns
returns c = record {
  whole = c.loop-change.auto.wires;
  each = λ once k d at. c.loop-change.invariant.each once k d (let h = slice_get_within c.args.changes.now k d at in let end = c.loop-change-test.false in omega arith) at;
  rest = λ i none. c.loop-change.invariant.rest i (λ k d less at. none k d at);
}
