-- The text and the counts of one round after those before it.
use Rattle.std.proofs.Common.{◌≡◌, ℕ, zero, suc, ◌+◌, ◌-◌, ◌≤◌, List, ◌++◌, Option, sym, ap, ap₂, ◌∙◌}
use Rattle.std.proofs.Common.{arith, append_assoc}
use Rattle.std.proofs.Common.{add-suc}
use Rattle.std.proofs.lemmas.List.{append-nil}
use Rattle.std.specs.Io.KnownBytes.{Appends}
use Rattle.xm_io.specs.Bytes.{AppendsFront}
use Rattle.xm_io.specs.Lemmas.Appending.{Appends-then}
use Rattle.xm_io.specs.Lemmas.Fronts.{appends_same, front_more}
use Rattle.xm_work.specs.Counts.{AreCounts}
use Rattle.xm_work.specs.Rounds.{lines}

module _ (line : ℕ → List ℕ) where
  joined : (from n m : ℕ) → lines line from (n + m) ≡ lines line from n ++ lines line (from + n) m
  joined from n zero =
      let same : n + 0 ≡ n = omega arith in
      rw same (sym (append-nil (lines line from n)))
  joined from n (suc m) =
      let later : from + (n + m) ≡ from + n + m = omega arith in
      rw (add-suc n m) (ap₂ (λ (x y : List ℕ). x ++ y) (joined from n m) (ap line later)
      ∙ append_assoc (lines line from n) (lines line (from + n) m) (line (from + n + m)))

  -- the text of n cycles is that of the first k and that of the rest
  parted : (k n : ℕ) → k ≤ n → lines line 0 n ≡ lines line 0 k ++ lines line k (n - k)
  parted k n within =
      let all : n ≡ k + (n - k) = omega arith in
      let begins : 0 + k ≡ k = omega arith in
      ap (lines line 0) all ∙ joined 0 k (n - k) ∙ ap (λ (x : ℕ). lines line 0 k ++ lines line x (n - k)) begins

  module _ (held mid now : Option (List ℕ)) (next end : ℕ) (later : next ≤ end) where
    pub appends_round : Appends held mid (lines line 0 next) → Appends mid now (lines line next (end - next))
        → Appends held now (lines line 0 end)
    appends_round first more =
        appends_same held now (lines line 0 next ++ lines line next (end - next)) (lines line 0 end)
        (sym (parted next end later)) (Appends-then held mid now _ _ first more)

    pub front_round : (n : ℕ) → end ≤ n → Appends held mid (lines line 0 next)
        → AppendsFront mid now (lines line next (end - next)) → AppendsFront held now (lines line 0 n)
    front_round n within first more =
        let rest = lines line end (n - end) in
        front_more held mid now (lines line 0 next) (lines line next (end - next)) rest (lines line 0 n)
        (parted end n within ∙ ap (λ (x : List ℕ). x ++ rest) (parted next end later)) first more

-- counts of a run are those of a run that goes on from it
pub counts_go_on : {N S : Type 0} (is_of : N → S → Type 0) (cycle_of : S → ℕ) (w n : ℕ) (r r' : N) (seen seen' : ℕ)
    (counts : List S) → ((s : S) → is_of r s → is_of r' s) → seen ≤ seen'
    → AreCounts is_of cycle_of w n r seen counts → AreCounts is_of cycle_of w n r' seen' counts
counts_go_on is_of cycle_of w n r r' seen seen' counts goes later it = record {
  few = it.few;
  each = λ i s at. goes s (it.each i s at);
  due = it.due;
  seen_all = λ i s at. let low = it.seen_all i s at in omega arith;
  rise = it.rise;
}
