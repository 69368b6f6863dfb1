-- Lists of colours and the marks of those that are listed.
use Rattle.std.proofs.Common.{◌≡◌, ℕ, zero, suc, ◌+◌, ◌<◌, ◌≤◌, Bool, true, false, List, [], ◌∷◌, length, map, Some, refl, sym, ap, ap₂, ◌∙◌, arith, inl, inr, true≢false}
use Rattle.std.specs.Prelude.{◌||◌, nat_eq, replicate}
use Rattle.std.specs.List.{All, list_any, slice_get}
use Rattle.std.proofs.lemmas.Bool.{cases_eq, eq-eqb, ne_eqb, or_from}
use Rattle.std.proofs.lemmas.List.{length-replicate}
use Rattle.std.proofs.lemmas.List.Elements.{All-cons, All-head, All-nil, All-tail}
use Rattle.std.proofs.lemmas.Option.{slice_get_within}
use Rattle.xm_model.specs.TextLines.{name_at}
use Rattle.xm_shape.specs.Names.{Name, number_in}
use Rattle.xm_netlist.specs.Lemmas.Lengths.{length-marks_of}
use Rattle.xm_netlist.specs.Numbered.{listed_in, marked_from, marks_of}
use Rattle.xm_netlist.specs.Valid.{RisesWithin, are_distinct}
use Rattle.xm_writer.proofs.AgainLists.{any_at, get-replicate, same_by_items, set_each_at}
use Rattle.xm_writer.proofs.AgainNames.{number_again}

turned : (a b : ℕ) → nat_eq a b ≡ nat_eq b a
turned a b = elim (cases_eq a b) [ inl same ↦ rw same refl | inr other ↦ ne_eqb a b other ∙ sym (ne_eqb b a (λ e. other (sym e))) ]

-- ---- the numbers that are marked

marked_later : (i d : ℕ) (marks : List Bool) → i < d → list_any (nat_eq i) (marked_from d marks) ≡ false
marked_later i d [] lt = refl
marked_later i d (true ∷ marks) lt = or_from (nat_eq i d) _ (ne_eqb i d (λ e. omega arith)) (marked_later i (suc d) marks (omega arith))
marked_later i d (false ∷ marks) lt = marked_later i (suc d) marks (omega arith)

marked_at : (d : ℕ) (marks : List Bool) (j k : ℕ) (b : Bool) → j ≡ d + k → slice_get marks k ≡ Some b → list_any (nat_eq j) (marked_from d marks) ≡ b
marked_at d [] j k b e at = absurd cc
marked_at d (true ∷ marks) j zero b e at = rw (eq-eqb j d (omega arith)) cc
marked_at d (true ∷ marks) j (suc k) b e at = rw (ne_eqb j d (λ s. omega arith)) (marked_at (suc d) marks j k b (omega arith) at)
marked_at d (false ∷ marks) j zero b e at = marked_later j (suc d) marks (omega arith) ∙ cc
marked_at d (false ∷ marks) j (suc k) b e at = marked_at (suc d) marks j k b (omega arith) at

pub marked_within : (n d : ℕ) (marks : List Bool) → d + length marks ≤ n → All (λ c. c < n) (marked_from d marks)
marked_within n d [] le = All-nil (λ c. c < n)
marked_within n d (true ∷ marks) le = All-cons (λ c. c < n) d (marked_from (suc d) marks) (omega arith) (marked_within n (suc d) marks (omega arith))
marked_within n d (false ∷ marks) le = marked_within n (suc d) marks (omega arith)

-- ---- the numbers that rise

pub rising_within : (low high : ℕ) (ds : List ℕ) → RisesWithin low high ds → All (λ c. c < high) ds
rising_within low high [] r = All-nil (λ c. c < high)
rising_within low high (d ∷ ds) r = All-cons (λ c. c < high) d ds r.1 (rising_within (suc d) high ds r.2)

rises_later : (i low high : ℕ) (ds : List ℕ) → RisesWithin low high ds → i < low → list_any (nat_eq i) ds ≡ false
rises_later i low high [] r lt = refl
rises_later i low high (d ∷ ds) r lt = or_from (nat_eq i d) _ (ne_eqb i d (λ e. let le = r.0 in omega arith)) (rises_later i (suc d) high ds r.2 (let le = r.0 in omega arith))

marked_is : (c n : ℕ) (marks : List Bool) (ds : List ℕ) → RisesWithin c n ds → n ≡ c + length marks → ((j k : ℕ) (b : Bool) → j ≡ c + k → slice_get marks k ≡ Some b → b ≡ list_any (nat_eq j) ds) → marked_from c marks ≡ ds
marked_is c n [] [] r long each = refl
marked_is c n [] (d ∷ ds) r long each = absurd (let le = r.0 in let lt = r.1 in omega arith)
marked_is c n (true ∷ marks) [] r long each = absurd (true≢false (each c 0 true (omega arith) refl))
marked_is c n (false ∷ marks) [] r long each = marked_is (suc c) n marks [] tt (omega arith) (λ j k b e at. each j (suc k) b (omega arith) at)
marked_is c n (true ∷ marks) (d ∷ ds) r long each =
    elim (cases_eq c d) [
      | inl same ↦ let r_rest : RisesWithin (suc c) n ds = rw same r.2 in
          ap₂ (λ (x : ℕ) (xs : List ℕ). x ∷ xs) same (marked_is (suc c) n marks ds r_rest (omega arith) (λ j k b e at. each j (suc k) b (omega arith) at ∙ (let other = ne_eqb j d (λ s. omega arith) in rw other refl)))
      | inr other ↦ absurd (true≢false (each c 0 true (omega arith) refl ∙ or_from (nat_eq c d) _ (ne_eqb c d other) (rises_later c (suc d) n ds r.2 (let le = r.0 in omega arith))))
    ]
marked_is c n (false ∷ marks) (d ∷ ds) r long each =
    elim (cases_eq c d) [
      | inl same ↦ absurd (true≢false (sym (each c 0 false (omega arith) refl ∙ rw (eq-eqb c d same) refl)))
      | inr other ↦ let le = r.0 in
          let low : suc c ≤ d = omega arith in
          marked_is (suc c) n marks (d ∷ ds) (low, r.1, r.2) (omega arith) (λ j k b e at. each j (suc k) b (omega arith) at)
    ]

-- ---- marks by names

module _ (colours : List Name) (distinct : are_distinct colours ≡ true) where
  any_named : (i : ℕ) (ds : List ℕ) → All (λ d. d < length colours) ds → list_any (λ name. nat_eq (number_in colours name) i) (map (name_at colours) ds) ≡ list_any (nat_eq i) ds
  any_named i [] all = refl
  any_named i (d ∷ ds) all =
      let fits = All-head (λ d. d < length colours) d ds all in
      let first : nat_eq (number_in colours (name_at colours d)) i ≡ nat_eq i d = ap (λ (n : ℕ). nat_eq n i) (number_again colours d distinct fits) ∙ turned d i in
      ap₂ (λ (a b : Bool). a || b) first (any_named i ds (All-tail (λ d. d < length colours) d ds all))

  pub marks_at : (ds : List ℕ) → All (λ d. d < length colours) ds → (i : ℕ) → i < length colours → slice_get (marks_of colours (map (name_at colours) ds)) i ≡ Some (list_any (nat_eq i) ds)
  marks_at ds all i lt =
      set_each_at (number_in colours) (λ (name : Name). true) (map (name_at colours) ds) (replicate (length colours) false) i (list_any (nat_eq i) ds) (omega (arith, length-replicate (length colours) false))
      (λ k name at here. sym (any_at (λ (n : Name). nat_eq (number_in colours n) i) (map (name_at colours) ds) k name at (eq-eqb _ i here)) ∙ any_named i ds all)
      (λ none. get-replicate (length colours) false i lt ∙ ap (λ (b : Bool). Some b) (sym none ∙ any_named i ds all))

  -- the marks of the colours that are marked are the marks
  pub marks_again : (marks : List Bool) → length marks ≡ length colours → marks_of colours (map (name_at colours) (marked_from 0 marks)) ≡ marks
  marks_again marks long =
      same_by_items (marks_of colours (map (name_at colours) (marked_from 0 marks))) marks (length-marks_of colours (map (name_at colours) (marked_from 0 marks)) ∙ sym long)
      (λ i b at. let w = slice_get_within marks i b at in
      marks_at (marked_from 0 marks) (marked_within (length colours) 0 marks (omega arith)) i (omega arith) ∙ ap (λ (x : Bool). Some x) (marked_at 0 marks i i b (omega arith) at))

  -- a list that rises comes back from its marks
  pub listed_again : (ds : List ℕ) → RisesWithin 0 (length colours) ds → listed_in colours (map (name_at colours) ds) ≡ ds
  listed_again ds rises =
      marked_is 0 (length colours) (marks_of colours (map (name_at colours) ds)) ds rises (let l = length-marks_of colours (map (name_at colours) ds) in omega arith)
      (λ j k b e at. let w = slice_get_within (marks_of colours (map (name_at colours) ds)) k b at in
      let same : j ≡ k = omega arith in
      let want = marks_at ds (rising_within 0 (length colours) ds rises) k (let l = length-marks_of colours (map (name_at colours) ds) in omega arith) in
      rw same (let both : Some b ≡ Some (list_any (nat_eq k) ds) = sym at ∙ want in cc))
