use Rattle.std.proofs.Common.{◌≡◌, ◌≤◌, ℕ, List, map, slice_get, ◌++◌, ◌∙◌, ap, sym, arith}
use Rattle.xm_model.specs.Net.{Network}
use Rattle.std.proofs.lemmas.List.{append-nil}
use Rattle.xm_colours.specs.Family.{colours_at}
use Rattle.xm_lits.proofs.Ends.{no_initiators}
use Rattle.xm_lits.specs.Inference.{by_one, inference_of, offering_rules}
use Rattle.xm_model.specs.Lemmas.PrimitiveFits.{prim_fits}
use Rattle.xm_model.specs.Component.{component_of}
use Rattle.xm_lits.proofs.find.push_offering_rules.Goals as goal

pub returns-then-channel-channels : goal.returns-then-channel-channels
returns-then-channel-channels c =
    let w : c.net-net.result.now.channels ≡ c.args.design.now.net.channels = ap (λ (n : Network). n.channels) c.net-net.ensures.net in
    let short : c.args.design.now.net.channels ≤ c.args.channel = omega (arith, w, c.channels.ensures.value, c.if-channel-channels.true) in
    sym (append-nil (map inference_of c.args.rules.now.items))
    ∙ ap (λ (l : List ℕ). map inference_of c.args.rules.now.items ++ by_one (offering_rules (colours_at c.args.design.now.colours) c.args.channel c.args.colour) c.args.design.now.net l) (sym (no_initiators c.args.design.now.net c.net-net.ensures.design.net c.args.channel short))

pub push_offering-requires : goal.push_offering-requires
push_offering-requires c = prim_fits c.args.design.now.net c.net-net.ensures.design.net c.initiator-p.result (component_of c.prim.result.now) (ap (λ (n : Network). slice_get n.prims c.initiator-p.result) (sym c.net-net.ensures.net) ∙ c.prim.ensures)
