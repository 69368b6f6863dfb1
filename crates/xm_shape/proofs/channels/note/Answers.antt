use Rattle.std.proofs.Common.{refl, sym, ◌∙◌}
use Rattle.xm_shape.specs.Lemmas.Uses.{noted}
use Rattle.xm_shape.proofs.channels.note.Goals as goal

pub returns : goal.returns
returns c =
    noted c.args.set.now.keys c.insert_full.new.self.keys c.in_ok-from_str.field-0 c.args.name.now c.in_ok-from_str.ensures.ok c.in_ok-insert_full.ensures.keys

pub returns-then-is_channel : goal.returns-then-is_channel
returns-then-is_channel c = rw (sym c.is_channel.ensures ∙ c.if-is_channel.true) refl
