use Rattle.std.proofs.Common.{length, ltb-true, refl, sym, ◌∙◌}
use Rattle.std.proofs.lemmas.Option.{slice_get_read}
use Rattle.xm_trace.proofs.Labelling.{label_there}
use Rattle.xm_trace.proofs.labels.label_at.Goals as goal

pub returns-in-Some : goal.returns-in-Some
returns-in-Some c channels are =
    let labels = c.args.labels.now in
    let below = ltb-true c.args.channel (length labels) (sym c.in-Some.ensures.lookup.0) in
    c.as_bytes.ensures ∙ label_there channels labels c.args.channel c.in-Some.label.now are (slice_get_read labels (length labels) c.args.channel c.in-Some.label.now refl below c.in-Some.ensures.lookup.1)
