use Rattle.std.proofs.Common.{◌≡◌, sym, true, false}
use Rattle.std.proofs.lemmas.List.{append-nil}
use Rattle.xm_colours.specs.Family.{colours_at}
use Rattle.xm_model.specs.Membership.{IsIn}
use Rattle.xm_flow.specs.Inner.Building.{term, unit_of}
use Rattle.xm_flow.proofs.Setting.{inside}
use Rattle.xm_flow.proofs.Terming.{if_absent, if_there}
use Rattle.xm_flow.proofs.terms.push_if.Goals as goal

pub push_move-requires-clause-colour : goal.push_move-requires-clause-colour
push_move-requires-clause-colour c = inside _ _ _ _ c.colours.ensures.value (c.has.ensures.0 c.if-has.true)

pub returns-then-has : goal.returns-then-has
returns-then-has c left made =
    let there = inside _ _ _ _ c.colours.ensures.value (c.has.ensures.0 c.if-has.true) in
    rw (if_there (colours_at c.args.design.now.colours) (term (unit_of c.args.sign)) c.args.c c.args.d there) (c.push_move.ensures left made)

pub returns : goal.returns
returns c left made =
    let absent : IsIn (colours_at c.args.design.now.colours c.args.c) c.args.d → ⊥ =
    λ h. (let yes : c.has.result ≡ true = c.has.ensures.1 (inside _ _ _ _ (sym c.colours.ensures.value) h) in let no : c.has.result ≡ false = c.if-has.false in cc) in
    rw (if_absent (colours_at c.args.design.now.colours) (term (unit_of c.args.sign)) c.args.c c.args.d absent, append-nil) made
