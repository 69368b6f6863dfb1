use Rattle.std.proofs.Common.{◌≡◌, ◌++◌, ◌∷◌, []}
use Rattle.xm_lp.specs.declared.decision.Con.{Con}
use Rattle.xm_search.specs.Inner.Named.{AreNamed}
use Rattle.xm_search.proofs.Naming.{on_ok_one, named_pushed}
use Rattle.xm_search.proofs.bounds.push_named.Goals as goal

pub returns-clause-named : goal.returns-clause-named
returns-clause-named c = λ it lemmas path row sign below are.
    let b = c.args.bounds.now in
    let con : Con = record { row = c.args.row; equal = c.args.equal } in
    on_ok_one (c.push-2.new.self.items ≡ b.items.items ++ c.args.item ∷ []) (AreNamed it lemmas path (record { cons = c.push.new.self; items = c.push-2.new.self })) c.push-2.result
    c.push-2.ensures.ok
    (λ items. named_pushed it lemmas path b (record { cons = c.push.new.self; items = c.push-2.new.self }) c.args.item con c.in_ok-push.ensures.ok items
    (record { row = row; sign = sign; is_row = c.entries-entries.ensures.row; below = below }) are)
