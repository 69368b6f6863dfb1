use Rattle.std.proofs.Common.{All, ◌≢◌, ℕ, ℤ, ◌+◌, ◌<◌, ◌≤◌, ◌^◌, List, length, get_or, take, [], ◌∷◌, ◌++◌, pos, unsigned_abs, to_z, of_z, arith, rules}
use Rattle.std.specs.Int.{w128}
use Rattle.std.proofs.lemmas.List.{take_more, take_all}
use Rattle.std.proofs.lemmas.List.Elements.{All-head, All-nil, All-more, All-tail, All-weaker}
use Rattle.xm_rows.specs.declared.row.Entry.{Entry}
use Rattle.xm_rows.specs.Row.{IsRising, IsRow, Fits128}
use Rattle.xm_tests.proofs.suites.rows.row.Invariants.{AreEntries}
use Rattle.xm_tests.proofs.suites.rows.row.Goals as goal

rising_push : (es : List Entry) (e : Entry) → IsRising es → All (λ f. f.column < e.column) es → IsRising (es ++ e ∷ [])
rising_push [] e up below = tt
rising_push (f ∷ []) e up below = (All-head (λ f. f.column < e.column) f [] below, tt)
rising_push (f ∷ g ∷ es) e up below = (up.0, rising_push (g ∷ es) e up.1 (All-tail (λ f. f.column < e.column) f (g ∷ es) below))

more : (es : List Entry) (i lowest : ℕ) (none : Entry) → i < length es → AreEntries (take i es) lowest → (get_or es i none).value ≢ pos 0 → Fits128 (get_or es i none).value →
    lowest ≤ (get_or es i none).column → AreEntries (take (i + 1) es) ((get_or es i none).column + 1)
more es i lowest none within h nonzero fits low =
    let e = get_or es i none in
    let below = All-weaker (λ f. f.column < lowest) (λ f. f.column < e.column) (λ f p. omega arith) (take i es) h.below in
    record {
      rising = rw (take_more es i none within) (rising_push (take i es) e h.rising below);
      nonzero = All-more (λ f. f.value ≢ pos 0) es i none within h.nonzero nonzero;
      fit = All-more (λ f. Fits128 f.value) es i none within h.fit fits;
      below = All-more (λ f. f.column < e.column + 1) es i none within (All-weaker (λ f. f.column < e.column) (λ f. f.column < e.column + 1) (λ f p. omega arith) (take i es) below) (omega arith);
    }

whole : (es : List Entry) (i lowest : ℕ) (z : ℤ) → length es ≤ i → AreEntries (take i es) lowest → Fits128 z → IsRow (record { entries = es; constant = z })
whole es i lowest z past h fits = let all = rw (take_all i es past) at h in record { rising = all.rising; nonzero = all.nonzero; fit = all.fit; constant_fits = fits }

pub loop-entry-init : goal.loop-entry-init
loop-entry-init g c =
    record { rising = tt; nonzero = All-nil (λ e. e.value ≢ pos 0); fit = All-nil (λ e. Fits128 e.value); below = All-nil (λ e. e.column < 0) }

pub loop-entry-preserved : goal.loop-entry-preserved
loop-entry-preserved g c =
    let none : Entry = record { column = 0; value = pos 0 } in
    let e = get_or c.args.entries.now c.loop-entry.entry-index none in
    let nonzero : e.value ≢ pos 0 = search rules in
    let fits : unsigned_abs e.value < 2 ^ 127 = search rules in
    let low : c.loop-entry.lowest ≤ e.column = search rules in
    more c.args.entries.now c.loop-entry.entry-index c.loop-entry.lowest none c.loop-entry-test.true c.loop-entry.invariant nonzero fits low

pub new-requires : goal.new-requires
new-requires g c =
    let fits : unsigned_abs (to_z w128 (of_z w128 c.args.constant)) < 2 ^ 127 = search rules in
    whole c.args.entries.now c.loop-entry.entry-index c.loop-entry.lowest _ c.loop-entry-test.false c.loop-entry.invariant fits
