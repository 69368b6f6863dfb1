use Rattle.std.proofs.Common.{◌∙◌, ap, List, map, arith, sym}
use Rattle.serde_json.specs.Data.{Data, array, string}
use Rattle.serde_json.specs.View.{items_of, view}
use Rattle.serde_json.proofs.Views.{view-Array}
use Rattle.xm_model.specs.Naming.{texts_of}
use Rattle.xm_writer.specs.Writing.{name_data}
use Rattle.xm_writer.proofs.Spelled.{grown, marked_all, marked_more, marked_same}
use Rattle.xm_writer.specs.Lemmas.Values.{view-String}
use Rattle.xm_writer.proofs.members.marked_value.Goals as goal
use Rattle.xm_writer.proofs.members.marked_value.Goals.{then-mark+in_ok-name+in_ok-push, else-mark}

pub loop-i-preserved : goal.loop-i-preserved
loop-i-preserved c =
    elim c.if-mark.branch [
      | then-mark+in_ok-name+in_ok-push w ↦ let more = grown c.loop-i.values.items w.push.new.self.items _ (name_data (texts_of c.args.names.now) c.loop-i.i) w.in_ok-push.ensures.items (view-String w.in_ok-name.name ∙ ap string w.in_ok-name.ensures) in
          rw (w.values-is, more) (marked_more (name_data (texts_of c.args.names.now)) c.args.marks.now c.loop-i.i (map view c.loop-i.values.items) _ c.loop-i-test.true (sym w.if-mark.true) c.loop-i.invariant)
      | else-mark w ↦ rw w.values-is (marked_same (name_data (texts_of c.args.names.now)) c.args.marks.now c.loop-i.i (map view c.loop-i.values.items) _ c.loop-i-test.true (sym w.if-mark.false) c.loop-i.invariant)
    ]

pub returns : goal.returns
returns c =
    view-Array c.loop-i.values
    ∙ ap (λ (ds : List Data). array (items_of ds)) (marked_all (name_data (texts_of c.args.names.now)) c.args.marks.now c.loop-i.i (map view c.loop-i.values.items) _ (omega arith) c.loop-i.invariant)
