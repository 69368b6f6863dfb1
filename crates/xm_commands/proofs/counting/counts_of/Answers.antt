use Rattle.std.proofs.Common.{◌∙◌, ap, length, sym}
use Rattle.std.proofs.lemmas.List.{length-map}
use Rattle.xm_commands.proofs.Counted.{all_counted, few_delivered, few_moves, on_channels}
use Rattle.xm_model.specs.Component.{component_of}
use Rattle.xm_commands.proofs.counting.counts_of.Goals as goal

pub moves_in-requires : goal.moves_in-requires
moves_in-requires c = few_moves c.args.net.now c.args.tape.now c.args.totals.now c.requires.totals c.is_net.ensures c.requires.few

pub delivered_in-requires-clause-channels : goal.delivered_in-requires-clause-channels
delivered_in-requires-clause-channels c = on_channels c.args.net.now c.args.tape.now c.args.totals.now c.requires.totals

pub delivered_in-requires-clause-few : goal.delivered_in-requires-clause-few
delivered_in-requires-clause-few c = few_delivered c.args.net.now c.args.tape.now c.args.totals.now c.requires.totals c.is_net.ensures c.requires.few

pub returns : goal.returns
returns c = λ are.
    let many = c.len.ensures ∙ sym (length-map c.prims.result.now.items component_of) ∙ ap length c.prims.ensures.prims in
    all_counted c.args.net.now c.args.tape.now c.args.totals.now are c.len.result c.from.result c.from-2.result c.moves_in.result c.delivered_in.result
    many (c.from.ensures ∙ c.channels.ensures.value) (c.from-2.ensures ∙ c.cycles.ensures.number) c.moves_in.ensures c.delivered_in.ensures
