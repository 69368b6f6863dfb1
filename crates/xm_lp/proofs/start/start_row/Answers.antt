use Rattle.std.proofs.Common.{◌∙◌, ◌++◌, ◌∷◌, [], ap, sym, subst, rules, inl, inr, to_z, of_z, SFits, pos, ℤ}
use Rattle.std.specs.Int.{w128}
use Rattle.std.specs.Prelude.{int_lt}
use Rattle.std.proofs.lemmas.Int.{to_z-of_z}
use Rattle.std.proofs.lemmas.List.{take_all}
use Rattle.xm_model.specs.ListView.{ListView}
use Rattle.xm_rows.specs.declared.row.Entry.{Entry}
use Rattle.xm_rows.specs.Row.{IsRow}
use Rattle.xm_lp.specs.Start.{turned, signed}
use Rattle.xm_lp.proofs.StartRows.{pushed_row, start_is_row, turn_is}
use Rattle.xm_lp.proofs.start.start_row.Goals as goal
use Rattle.xm_lp.proofs.start.start_row.Goals.{then-not-con+in_ok-push-2, else-not-con}

pub new-requires : goal.new-requires
new-requires c =
    let con = c.args.con.now in
    let turn_fits : SFits w128 c.constant-turn.result = search rules in
    let constant_fits : SFits w128 c.constant.result = search rules in
    let signed_fits : SFits w128 c.signed-2.result = search rules in
    let b = int_lt (to_z w128 (of_z w128 c.constant-turn.result)) (pos 0) in
    let is_b = ap (λ (z : ℤ). int_lt z (pos 0)) (to_z-of_z w128 c.constant-turn.result turn_fits ∙ c.constant-turn.ensures.value) ∙ turn_is con.row.constant in
    let given = c.loop-entry.invariant ∙ ap (turned b) (take_all c.loop-entry.entry-index c.entries-entry-items.result.now c.loop-entry-test.false ∙ c.entries-entry-items.ensures.value) in
    let constant = to_z-of_z w128 c.signed-2.result signed_fits ∙ c.signed-2.ensures ∙ ap (signed b) (to_z-of_z w128 c.constant.result constant_fits ∙ c.constant.ensures.value) in
    let whole = pushed_row c.args.slack c.args.own con b c.loop-entry.entries.items c.if-not-con.entries.items c.as_slice.result.now (to_z w128 (of_z w128 c.signed-2.result))
    is_b given
    (elim c.if-not-con.branch [
      | then-not-con+in_ok-push-2 w ↦
          let fits : SFits w128 w.signed-then-not-con.result = search rules in
          inl (
            w.if-not-con.true,
            ap (λ (l : ListView Entry). l.items) w.entries-is ∙ w.in_ok-push-2.ensures.ok
                ∙ ap (λ (z : ℤ). c.loop-entry.entries.items ++ record { column = c.args.slack; value = z } ∷ []) (to_z-of_z w128 w.signed-then-not-con.result fits ∙ w.signed-then-not-con.ensures),
          )
      | else-not-con w ↦ inr (w.if-not-con.false, ap (λ (l : ListView Entry). l.items) w.entries-is)
    ])
    (c.as_slice.ensures ∙ c.in_ok-push-3.ensures.ok) constant in
    subst IsRow (sym whole) (start_is_row c.args.slack c.args.own con c.entries-entry-items.ensures.row c.requires.below c.requires.order)
