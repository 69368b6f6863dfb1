use Rattle.std.proofs.Common.{arith, ◌∙◌, ap}
use Rattle.serde_json.specs.Data.{Data, put, string}
use Rattle.serde_json.specs.View.{members_view}
use Rattle.xm_model.specs.TextLines.{name_at}
use Rattle.xm_model.specs.Naming.{texts_of}
use Rattle.xm_writer.proofs.Spelled.{changed_all, changed_more, changed_same}
use Rattle.xm_writer.specs.Lemmas.Values.{view-String}
use Rattle.xm_writer.proofs.members.changes.Goals as goal
use Rattle.xm_writer.proofs.members.changes.Goals.{then-d-image+in_ok-name+in_ok-put_at_name, else-d-image}

pub loop-d-preserved : goal.loop-d-preserved
loop-d-preserved c =
    elim c.if-d-image.branch [
      | then-d-image+in_ok-name+in_ok-put_at_name w ↦ let put_in = w.in_ok-put_at_name.ensures ∙ ap (λ (d : Data). put (name_at (texts_of c.args.colours.now) c.loop-d.d) d (members_view c.loop-d.members.entries)) (view-String w.in_ok-name.name ∙ ap string w.in_ok-name.ensures) in
          rw (w.members-is, put_in) (changed_more (texts_of c.args.colours.now) c.args.images.now c.loop-d.d c.from-image.result (members_view c.loop-d.members.entries) _ c.loop-d-test.true c.from-image.ensures w.if-d-image.true c.loop-d.invariant)
      | else-d-image w ↦ rw w.members-is (changed_same (texts_of c.args.colours.now) c.args.images.now c.loop-d.d c.from-image.result (members_view c.loop-d.members.entries) _ c.loop-d-test.true c.from-image.ensures w.if-d-image.false c.loop-d.invariant)
    ]

pub returns : goal.returns
returns c = changed_all (texts_of c.args.colours.now) c.args.images.now c.loop-d.d _ _ (omega arith) c.loop-d.invariant
