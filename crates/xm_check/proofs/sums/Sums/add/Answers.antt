use Rattle.std.proofs.Common.{◌≡◌, ◌++◌, Option, Some, None, List, cond, Bool, length, ℕ, ℤ, ap, sym, ◌∙◌, SFits, rules, map, subst, ◌<◌}
use Rattle.std.specs.Prelude.{All, Result, Ok}
use Rattle.std.specs.Int.{w128}
use Rattle.std.specs.List.{refill}
use Rattle.std.proofs.lemmas.Int.{to_z-of_z}
use Rattle.xm_check.proofs.Adding.{row_from, sums_of}
use Rattle.xm_check.proofs.Touching.{row_touches}
use Rattle.xm_check.specs.Inner.Touched.{AreTouched}
use Rattle.xm_model.specs.Lending.{refill-full}
use Rattle.xm_model.specs.Steps.{demand}
use Rattle.xm_proof.specs.Sums.{Sums, add_entries, add_row, plus_product}
use Rattle.xm_proof.specs.declared.verdict.Reason.{Reason}
use Rattle.xm_proof.specs.declared.verdict.Reason.TheVariants as reason
use Rattle.xm_rows.specs.Row.{SparseRow}
use Rattle.xm_rows.specs.declared.row.Entry.{Entry}
use Rattle.xm_check.proofs.sums.Sums.add.Goals as goal

pub invariant_of-result : goal.invariant_of-result
invariant_of-result c =
    let factor_fits : SFits w128 c.args.factor = search rules in
    let items = c.self.inside.columns.items in
    let touched = c.self.inside.touched.items in
    let h = simp to_z-of_z at c.add_entries.ensures in
    let first : add_entries c.args.factor c.args.entries.now (Some items) ≡ Some c.add_entries.new.columns =
    ap (λ (l : List ℤ). add_entries c.args.factor c.args.entries.now (Some l)) (sym c.as_mut_slice.ensures.value) ∙ h ∙ ap (λ (b : Bool). cond {A = Option (List ℤ)} b (Some c.add_entries.new.columns) None) c.if-not-add_entries.false in
    let size : length c.add_entries.new.columns ≡ length items = c.add_entries.auto.columns ∙ ap length c.as_mut_slice.ensures.value in
    let full : refill (length items) items c.add_entries.new.columns ≡ c.add_entries.new.columns = refill-full (length items) items c.add_entries.new.columns size in
    let within : All (λ (e : Entry). e.column < length items) c.args.entries.now = subst (λ (s : Sums). All (λ (e : Entry). e.column < length s.columns) c.args.entries.now) (sym c.self.view_is) c.requires in
    let more = row_touches c.args.factor c.args.entries.now touched items c.add_entries.new.columns within c.self.invariant first in
    let noted : c.touch.new.touched.items ≡ touched ++ map (λ (e : Entry). e.column) c.args.entries.now = c.in_ok-touch.ensures in
    subst (λ (cs : List ℤ). AreTouched c.touch.new.touched.items cs) (sym full) (subst (λ (ts : List ℕ). AreTouched ts c.add_entries.new.columns) (sym noted) more)

pub returns-in-Some : goal.returns-in-Some
returns-in-Some c =
    let factor_fits : SFits w128 c.args.factor = search rules in
    let constant_fits : SFits w128 c.args.constant = search rules in
    let own_fits : SFits w128 c.self.inside.constant = search rules in
    let z_fits : SFits w128 c.in-Some.constant = search rules in
    let items = c.self.inside.columns.items in
    let h = simp to_z-of_z at c.add_entries.ensures in
    let first : add_entries c.args.factor c.args.entries.now (Some items) ≡ Some c.add_entries.new.columns =
    ap (λ (l : List ℤ). add_entries c.args.factor c.args.entries.now (Some l)) (sym c.as_mut_slice.ensures.value) ∙ h ∙ ap (λ (b : Bool). cond {A = Option (List ℤ)} b (Some c.add_entries.new.columns) None) c.if-not-add_entries.false in
    let u = simp to_z-of_z at c.plus_product.ensures in
    let second : plus_product c.self.inside.constant c.args.factor c.args.constant ≡ Some c.in-Some.constant = sym u ∙ c.in-Some.is in
    let whole = row_from c.args.factor c.args.entries.now c.args.constant (sums_of items c.self.inside.constant) c.add_entries.new.columns c.in-Some.constant first second in
    let size : length c.add_entries.new.columns ≡ length items = c.add_entries.auto.columns ∙ ap length c.as_mut_slice.ensures.value in
    let full : refill (length items) items c.add_entries.new.columns ≡ c.add_entries.new.columns = refill-full (length items) items c.add_entries.new.columns size in
    let row : SparseRow = record { entries = c.args.entries.now; constant = c.args.constant } in
    let sums : add_row c.args.factor row c.args.self ≡ Some (sums_of (refill (length items) items c.add_entries.new.columns) c.in-Some.constant) =
    ap (add_row c.args.factor row) (sym c.self.view_is) ∙ whole ∙ ap (λ (l : List ℤ). Some (sums_of l c.in-Some.constant)) (sym full) in
    let fine : Sums → Result Sums Reason = λ s. Ok s in
    ap (λ (o : Option Sums). demand o reason.Overflow) sums
    ∙ ap (λ (y : ℤ). fine (sums_of (refill (length items) items c.add_entries.new.columns) y)) (sym (to_z-of_z w128 c.in-Some.constant z_fits))
