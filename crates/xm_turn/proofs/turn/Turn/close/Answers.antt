use Rattle.std.proofs.Common.{◌≡◌, ◌≤◌, Some, sym, ◌∙◌, subst, ap, refl}
use Rattle.std.specs.Prelude.{IsSome}
use mathlib.Core.Option.{some-injective}
use Rattle.xm_turn.proofs.Keeps.{whole_has_it}
use Rattle.xm_turn.proofs.turn.Turn.close.Goals as goal
use Rattle.xm_turn.proofs.turn.Turn.close.Goals.{After-take}

-- the value that was in the slot, which names the run
found : (g : _) (c : After-take g) → (y : g.row.V.Denot) × (c.take.result ≡ Some y)
    × (c.args.pass.seat.me.0.run ≡ Some (g.V.Named.run y)) × (c.args.pass.seat.me.0.seen ≤ g.V.Named.floor_of y)
found g c =
    let it = whole_has_it g.V.Named.run g.V.Named.floor_of _ _ _ _ _ _ c.requires.pass.1.0 c.requires.pass.0.1 c.requires.whole c.close_with-closed.ensures.values.2 in
    (it.0, some-injective _ _ (sym c.take.ensures.value ∙ it.1), it.2, it.3)

pub unwrap-value-requires : goal.unwrap-value-requires
unwrap-value-requires g c = let f = found g ((goal.at.unwrap-value-requires g c).After-take) in subst IsSome
    (sym f.1) refl

pub returns : goal.returns
returns g c =
    let f = found g ((goal.at.returns g c).After-take) in
    let same : Some f.0 ≡ Some c.unwrap-value.result = sym f.1 ∙ c.unwrap-value.ensures in
    let is : f.0 ≡ c.unwrap-value.result = cc in
    (f.2 ∙ ap (λ y. Some (g.V.Named.run y)) is, subst (λ y. c.args.pass.seat.me.0.seen ≤ g.V.Named.floor_of y) is f.3)
