-- A pivot, row by row.
use Rattle.std.proofs.Common.{◌≡◌, ◌≢◌, ℕ, ◌<◌, inl, inr, List, [], ◌∷◌, ◌++◌, length, set, sym, ◌∙◌, ap, subst}
use Rattle.std.proofs.Common.{pos}
use Rattle.std.proofs.lemmas.Bool.{cases_eq}
use Rattle.std.proofs.lemmas.List.{get_or-set_same, get_or-set_other, length-set}
use Rattle.xm_rows.specs.Row.{SparseRow, IsRow, coefficient}
use Rattle.xm_rows.specs.Combination.{IsCancelled, Overflows}
use Rattle.xm_lp.specs.Start.{row_at, no_row}
use Rattle.xm_lp.specs.Pivot.{IsPivoted}
use Rattle.xm_lp.specs.Inner.Part.{IsCleared, IsReplaced, ClearingLeaves, ArePartlyCleared, SomeLeaves}
use Rattle.xm_lp.proofs.Basis.{mixed_by_cancel, mixed_by_keeping, zero_or_other}
use Rattle.xm_model.specs.Membership.{IsIn}
use Rattle.xm_rows.specs.Lemmas.Noting.{in_last, in_left, in_or_not, in_push}

pub unchanged : (rows given : List SparseRow) (h i j : ℕ) → given ≡ rows → coefficient (row_at rows h).entries j ≡
    pos 0 → IsReplaced rows given h i j
unchanged rows given h i j same none =
    record {
      count = ap (λ (l : List SparseRow). length l) same;
      same = λ g other. ap (λ (l : List SparseRow). row_at l g) same;
      cleared = record { cancelled = λ some. absurd (some none); is_row = λ some. absurd (some none); kept = λ none. ap (λ (l : List SparseRow). row_at l h) same };
    }

pub row_set : (rows given : List SparseRow) (h i j : ℕ) (r : SparseRow) → given ≡ set rows h r → h < length rows →
    coefficient (row_at rows h).entries j ≢ pos 0 →
    IsCancelled (row_at rows h) (row_at rows i) j r → IsRow r → IsReplaced rows given h i j
row_set rows given h i j r same lt some c row =
    record {
      count = ap (λ (l : List SparseRow). length l) same ∙ length-set rows h r;
      same = λ g other. ap (λ (l : List SparseRow). row_at l g) same ∙ get_or-set_other rows h g r no_row other;
      cleared = record {
        cancelled = λ some. subst (λ (x : SparseRow). IsCancelled (row_at rows h) (row_at rows i) j x) (sym (ap (λ (l : List SparseRow). row_at l h) same ∙ get_or-set_same rows h r no_row lt)) c;
        is_row = λ some. subst IsRow (sym (ap (λ (l : List SparseRow). row_at l h) same ∙ get_or-set_same rows h r no_row lt)) row;
        kept = λ none. absurd (some none);
      };
    }

-- a cleared row has no entry in the column
cleared_gone : (old pivot new : SparseRow) (j : ℕ) → coefficient pivot.entries j ≢ pos 0 → IsCleared old pivot new j →
    coefficient new.entries j ≡ pos 0
cleared_gone old pivot new j some c =
    elim (zero_or_other (coefficient old.entries j)) [
      | inl none ↦ (mixed_by_keeping old pivot new j none (c.kept none)).gone
      | inr there ↦ (mixed_by_cancel old pivot new j some (c.cancelled there)).gone
    ]

pub cleared_more : (old mid new : List SparseRow) (i j n : ℕ) (seen : List ℕ) → coefficient (row_at old i).entries j ≢ pos 0 →
    ArePartlyCleared old mid i j seen → n ≢ i → IsReplaced mid new n i j → ArePartlyCleared old new i j (seen ++ n ∷ [])
cleared_more old mid new i j n seen some p other r =
    record {
      count = r.count ∙ p.count;
      pivot = r.same i (λ e. other (sym e)) ∙ p.pivot;
      done = λ g inside differ. elim (cases_eq g n) [
        | inl is ↦ subst (λ (k : ℕ). IsCleared (row_at old k) (row_at old i) (row_at new k) j) (sym is) here
        | inr apart ↦ elim (in_push seen n g inside) [
          | inl early ↦ subst (λ (x : SparseRow). IsCleared (row_at old g) (row_at old i) x j) (sym (r.same g apart)) (p.done g early differ)
          | inr is ↦ absurd (apart (sym is))
        ]
      ];
      later = λ g not. r.same g (λ is. not (subst (IsIn (seen ++ n ∷ [])) (sym is) (in_last seen n))) ∙ p.later g (λ early. not (in_left seen (n ∷ []) g early));
    }
  where
    here : IsCleared (row_at old n) (row_at old i) (row_at new n) j
    here =
        elim (in_or_not seen n) [
          | inl again ↦
              let first = p.done n again other in
              let gone = cleared_gone (row_at old n) (row_at old i) (row_at mid n) j some first in
              subst (λ (x : SparseRow). IsCleared (row_at old n) (row_at old i) x j) (sym (r.cleared.kept gone)) first
          | inr not ↦
              subst (λ (x : SparseRow). IsCleared x (row_at old i) (row_at new n) j) (p.later n not)
              (subst (λ (x : SparseRow). IsCleared (row_at mid n) x (row_at new n) j) p.pivot r.cleared)
        ]

pub cleared_passed : (old mid : List SparseRow) (i j n : ℕ) (seen : List ℕ) → ArePartlyCleared old mid i j seen → n ≡ i →
    ArePartlyCleared old mid i j (seen ++ n ∷ [])
cleared_passed old mid i j n seen p is =
    record {
      count = p.count;
      pivot = p.pivot;
      done = λ g inside differ. elim (in_push seen n g inside) [ inl early ↦ p.done g early differ | inr same ↦ absurd (differ (sym same ∙ is)) ];
      later = λ g not. p.later g (λ early. not (in_left seen (n ∷ []) g early));
    }

pub cleared_all : (old new : List SparseRow) (basics given : List ℕ) (i j : ℕ) (list : List ℕ) → ArePartlyCleared old new i j list →
    ((h : ℕ) → h < length old → coefficient (row_at old h).entries j ≢ pos 0 → IsIn list h) → given ≡ set basics i j →
    IsPivoted (record { rows = old; basics = basics }) j i (record { rows = new; basics = given })
cleared_all old new basics given i j list p own is =
    record {
      count = p.count;
      pivot = p.pivot;
      cancelled = λ h lt other some. (p.done h (own h lt some) other).cancelled some;
      are_rows = λ h lt other some. (p.done h (own h lt some) other).is_row some;
      kept = λ h lt other none. elim (in_or_not list h) [ inl inside ↦ (p.done h inside other).kept none | inr not ↦ p.later h not ];
      basics = is;
    }

pub clearing_leaves : (old mid : List SparseRow) (i j n : ℕ) (seen : List ℕ) → coefficient (row_at old i).entries j ≢ pos 0 →
    ArePartlyCleared old mid i j seen → n < length old → n ≢ i → ClearingLeaves mid n i j → SomeLeaves old i j
clearing_leaves old mid i j n seen some p lt other leaves =
    elim (in_or_not seen n) [
      | inl again ↦ absurd (leaves.some (cleared_gone (row_at old n) (row_at old i) (row_at mid n) j some (p.done n again other)))
      | inr not ↦
          let row = p.later n not in (
            n,
            (
              lt,
              (
                other,
                record {
                  some = subst (λ (x : SparseRow). coefficient x.entries j ≢ pos 0) row leaves.some;
                  leaves = subst (λ (x : SparseRow). Overflows x (row_at old i) j) row (subst (λ (x : SparseRow). Overflows (row_at mid n) x j) p.pivot leaves.leaves);
                },
              ),
            ),
          )
    ]
