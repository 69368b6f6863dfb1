use Rattle.std.proofs.Common.{◌≡◌, Ok, length, ap, ◌∙◌, rules, sym}
use Rattle.std.proofs.lemmas.List.{length-map}
use Rattle.xm_model.specs.Steps.{each_from}
use Rattle.xm_tape.specs.Inner.Views.{components_of}
use Rattle.xm_json.specs.Lent.{lent_texts}
use Rattle.xm_tape.specs.Gives.{Fails}
use Rattle.xm_tape.specs.Inner.Flat.{added, row_of, rows_at}
use Rattle.xm_tape.specs.Marks.{oracles_of}
use Rattle.xm_tape.specs.Reading.{repeating, taped_in}
use Rattle.xm_tape.proofs.Fitting.{fits_taped}
use Rattle.xm_tape.proofs.Taking.{both_read, cycle_refused, stem_refused}
use Rattle.xm_tape.proofs.written.WrittenTape.new.Goals as goal

pub returns-in_err-push_marked_rows : goal.returns-in_err-push_marked_rows
returns-in_err-push_marked_rows c =
    let net = c.args.design.now.net in
    let known : components_of c.deref.result.now ≡ oracles_of net.prims = ap components_of c.deref.ensures.value ∙ c.in_ok-oracles.ensures.oracles in
    let refused : Fails c.in_err-push_marked_rows.field-0.0 (taped_in net (repeating (lent_texts c.args.stem.now) (lent_texts c.args.cycle.now) c.args.times)) =
    stem_refused net (lent_texts c.args.stem.now) (lent_texts c.args.cycle.now) c.args.times (components_of c.deref.result.now) known c.in_err-push_marked_rows.field-0.0 c.in_err-push_marked_rows.ensures.exact in
    search (rules, refused)

pub returns-in_err-push_marked_rows-2 : goal.returns-in_err-push_marked_rows-2
returns-in_err-push_marked_rows-2 c =
    let net = c.args.design.now.net in
    let known : components_of c.deref.result.now ≡ oracles_of net.prims = ap components_of c.deref.ensures.value ∙ c.in_ok-oracles.ensures.oracles in
    let same : components_of c.deref-2.result.now ≡ oracles_of net.prims = ap components_of c.deref-2.ensures.value ∙ c.in_ok-oracles.ensures.oracles in
    let refused : Fails c.in_err-push_marked_rows-2.field-0.0 (taped_in net (repeating (lent_texts c.args.stem.now) (lent_texts c.args.cycle.now) c.args.times)) =
    cycle_refused net (lent_texts c.args.stem.now) (lent_texts c.args.cycle.now) c.args.times (components_of c.deref.result.now) (components_of c.deref-2.result.now) known same c.in_err-push_marked_rows-2.field-0.0 _ _ (length-map c.args.stem.now _) c.in_ok-push_marked_rows.ensures.exact c.in_err-push_marked_rows-2.ensures.exact in
    search (rules, refused)

pub returns-clause-exact : goal.returns-clause-exact
returns-clause-exact c =
    let net = c.args.design.now.net in
    let known : components_of c.deref.result.now ≡ oracles_of net.prims = ap components_of c.deref.ensures.value ∙ c.in_ok-oracles.ensures.oracles in
    let same : components_of c.deref-2.result.now ≡ oracles_of net.prims = ap components_of c.deref-2.ensures.value ∙ c.in_ok-oracles.ensures.oracles in
    let again : each_from (row_of (components_of c.deref-2.result.now)) (length c.args.stem.now) (lent_texts c.args.cycle.now) ≡ Ok (rows_at (length c.deref-2.result.now) (length c.args.cycle.now) (added c.push_marked_rows.new.choices.items c.push_marked_rows-2.new.choices.items)) =
    c.in_ok-push_marked_rows-2.ensures.exact in
    both_read net (lent_texts c.args.stem.now) (lent_texts c.args.cycle.now) c.args.times (components_of c.deref.result.now) (components_of c.deref-2.result.now) known same
    (length c.args.stem.now) (length c.args.cycle.now) c.len.result (length c.deref.result.now) (length c.deref-2.result.now) c.new-choices.result.items c.push_marked_rows.new.choices.items c.push_marked_rows-2.new.choices.items
    (c.deref.ensures.len ∙ sym c.len.ensures) (c.deref-2.ensures.len ∙ sym c.len.ensures) c.new-choices.ensures.items (length-map c.args.stem.now _)
    c.in_ok-push_marked_rows.ensures.whole c.in_ok-push_marked_rows.ensures.longer c.in_ok-push_marked_rows-2.ensures.longer c.in_ok-push_marked_rows.ensures.exact again

pub returns-clause-fits : goal.returns-clause-fits
returns-clause-fits c =
    fits_taped c.args.design.now.net (repeating (lent_texts c.args.stem.now) (lent_texts c.args.cycle.now) c.args.times) _ (returns-clause-exact c)
