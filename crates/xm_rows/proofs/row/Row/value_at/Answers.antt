use Rattle.std.proofs.Common.{◌≡◌, ◌≢◌, ℕ, ◌<◌, ◌≤◌, inl, inr, List, length, get_or, pos, sym, ◌∙◌, ap, subst, arith, rules}
use Rattle.std.specs.Int.{w128}
use Rattle.std.specs.List.{AllWithin}
use Rattle.std.proofs.lemmas.Bool.{cases_lt}
use Rattle.std.proofs.lemmas.Int.{to_z-of_z}
use Rattle.std.proofs.lemmas.List.{get_or_default}
use Rattle.xm_rows.specs.declared.row.Entry.{Entry}
use Rattle.xm_rows.specs.Lemmas.Entries.{coefficient_absent, own_at, rising_at}
use Rattle.xm_rows.specs.Row.{IsRising, coefficient}
use Rattle.xm_rows.proofs.row.Row.value_at.Goals as goal

-- no entry lies in the column, where none lies at its place
none_there : (es : List Entry) (p k : ℕ) (e : Entry) → IsRising es → AllWithin (λ f. f.column < k) es 0 p → AllWithin (λ f. k ≤ f.column) es p (length es) →
    (p < length es → (get_or es p e).column ≢ k) → pos 0 ≡ coefficient es k
none_there es p k e up low high other =
    sym (coefficient_absent es k (λ i d within is.
    elim (cases_lt i p) [
      | inl below ↦ let less = low i d (omega arith) below in absurd (omega (arith, less, is))
      | inr past ↦ elim (cases_lt p i) [
        | inl above ↦
            let more = rising_at es p i e d up above within in
            let least = high p e (omega arith) (omega arith) in
            absurd (omega (arith, more, least, is))
        | inr here ↦
            let same : i ≡ p = omega arith in
            let at : p < length es = omega arith in
            absurd (other at (ap (λ (f : Entry). f.column) (get_or_default es p e d at) ∙ ap (λ (n : ℕ). (get_or es n d).column) (sym same) ∙ is))
      ]
    ]))

pub returns-then-place-entries-clause-value : goal.returns-then-place-entries-clause-value
returns-then-place-entries-clause-value c =
    let es = c.entries-entries.result.now in
    let up = subst IsRising (sym c.entries-entries.ensures.value) c.entries-entries.ensures.row.rising in
    let end = c.if-place-entries.true in
    none_there es c.place_of-place.result c.args.column (record { column = 0; value = pos 0 }) up c.place_of-place.ensures.low c.place_of-place.ensures.high
    (λ within. absurd (omega (arith, end, within)))
    ∙ ap (λ (l : List Entry). coefficient l c.args.column) c.entries-entries.ensures.value

pub returns-then-entry-column-clause-value : goal.returns-then-entry-column-clause-value
returns-then-entry-column-clause-value c =
    let es = c.entries-entries.result.now in
    let up = subst IsRising (sym c.entries-entries.ensures.value) c.entries-entries.ensures.row.rising in
    none_there es c.place_of-place.result c.args.column (record { column = 0; value = pos 0 }) up c.place_of-place.ensures.low c.place_of-place.ensures.high
    (λ within. c.if-entry-column.true)
    ∙ ap (λ (l : List Entry). coefficient l c.args.column) c.entries-entries.ensures.value

pub returns-clause-value : goal.returns-clause-value
returns-clause-value c =
    let es = c.entries-entries.result.now in
    let up = subst IsRising (sym c.entries-entries.ensures.value) c.entries-entries.ensures.row.rising in
    let most = c.place_of-place.ensures.within in
    let other = c.if-place-entries.false in
    to_z-of_z w128 _ (search rules)
    ∙ sym (own_at es c.place_of-place.result (record { column = 0; value = pos 0 }) up (omega (arith, most, other)))
    ∙ ap (coefficient es) c.if-entry-column.false ∙ ap (λ (l : List Entry). coefficient l c.args.column) c.entries-entries.ensures.value
