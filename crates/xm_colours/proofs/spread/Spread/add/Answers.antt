use Rattle.std.proofs.Common.{get_or, sym, ◌∙◌, ap}
use Rattle.xm_colours.proofs.Sets.{adds_again, adds_written, refill_set}
use Rattle.xm_colours.proofs.spread.Spread.add.Goals as goal

pub returns-then-contains : goal.returns-then-contains
returns-then-contains c =
    adds_again c.args.self.now.words.items c.args.self.now.pending.items c.args.it _ c.requires.channel c.requires.colour (ap (λ xs. get_or xs c.args.it.channel 0) c.as_slice.ensures)
    (sym c.contains.ensures ∙ c.if-contains.true)

pub returns : goal.returns
returns c =
    adds_written c.args.self.now.words.items c.args.self.now.pending.items c.args.it _ c.requires.channel c.requires.colour (ap (λ xs. get_or xs c.args.it.channel 0) c.as_slice.ensures)
    c.with.result (sym c.contains.ensures ∙ c.if-contains.false) c.with.ensures.same c.with.ensures.others _ _
    (refill_set c.args.self.now.words.items c.put_word.new.words c.as_mut_slice.result.now c.args.it.channel c.with.result c.as_mut_slice.ensures.value c.put_word.ensures) c.in_ok-push.ensures.ok
