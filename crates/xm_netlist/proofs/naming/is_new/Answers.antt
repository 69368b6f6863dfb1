use Rattle.xm_shape.specs.Lemmas.Uses.{is_kept, is_told}
use Rattle.xm_netlist.proofs.naming.is_new.Goals as goal

pub returns-clause-told : goal.returns-clause-told
returns-clause-told c =
    is_told c.args.before.now.keys c.in_ok-from_str.field-0 c.args.name.now c.in_ok-new.new c.in_ok-from_str.ensures.ok c.in_ok-new.ensures.added

pub returns-clause-kept : goal.returns-clause-kept
returns-clause-kept c =
    is_kept c.args.before.now.keys c.insert_full.new.self.keys c.in_ok-from_str.field-0 c.args.name.now c.in_ok-new.new c.in_ok-from_str.ensures.ok c.in_ok-new.ensures.added c.in_ok-new.ensures.keys
