use Rattle.std.proofs.Common.{◌≡◌, Ok, ap, ◌∙◌}
use Rattle.xm_model.specs.Net.{Network}
use Rattle.xm_tape.specs.Inner.Views.{draft_of}
use Rattle.xm_tape.specs.Reading.{cycles_drafted, check_limits}
use Rattle.xm_tape.proofs.Taking.{few, fits, kept_by, small}
use Rattle.xm_tape.proofs.read.read_tape.Goals as goal

kept : (c : goal.Joined-draft-2) → check_limits (cycles_drafted (draft_of c.in_ok-draft.draft)) c.args.design.now.net.channels ≡ Ok tt
kept c = kept_by _ c.cycles.result _ c.channels.result c.cycles.ensures (c.channels.ensures.value ∙ ap (λ (net : Network). net.channels) c.net.ensures.net) c.in_ok-check_limits.ensures

pub returns-clause-fits : goal.returns-clause-fits
returns-clause-fits c = fits c.args.design.now.net (draft_of c.in_ok-draft.draft) c.taped_in.result c.taped_in.ensures

pub returns-clause-few : goal.returns-clause-few
returns-clause-few c = few c.args.design.now.net (draft_of c.in_ok-draft.draft) (kept c) c.taped_in.result c.taped_in.ensures

pub returns-clause-limits : goal.returns-clause-limits
returns-clause-limits c = small c.args.design.now.net (draft_of c.in_ok-draft.draft) (kept c) c.taped_in.result c.taped_in.ensures
