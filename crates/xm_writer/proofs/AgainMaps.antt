-- Objects that are made by putting members in: what a map, a list of marks and the entries of `allow` read from them.
use Rattle.std.proofs.Common.{◌≡◌, ℕ, zero, suc, ◌+◌, ◌<◌, Bool, true, false, cond, List, [], ◌∷◌, length, Some, refl, sym, ap, ◌∙◌, subst, arith, inl, inr, Less, Equal, Greater, nat_cmp, true≢false}
use Rattle.std.specs.Prelude.{nat_eq}
use Rattle.std.specs.BTreeMap.{insert_entry}
use Rattle.std.specs.Cmp.Lexicographic.{slice_cmp}
use Rattle.std.specs.List.{All, AllByRecursion, list_any, slice_get}
use Rattle.std.specs.Ordering.{match_ordering}
use Rattle.std.proofs.Math.Bool.{or-true}
use Rattle.std.proofs.lemmas.Bool.{cases_eq, eq-eqb, ne_eqb, or_cases}
use Rattle.std.proofs.lemmas.Map.Text.{is_eq-slice_cmp}
use Rattle.std.proofs.lemmas.Option.{slice_get_within}
use Rattle.serde_json.specs.Data.{Data, Members, member, no_members, put, string}
use Rattle.xm_model.specs.TextLines.{name_at}
use Rattle.xm_shape.specs.NamedNet.{Table}
use Rattle.xm_shape.specs.Lemmas.Equal.{same_names}
use Rattle.xm_shape.specs.Names.{Name, is_among, number_in}
use Rattle.xm_netlist.specs.Lemmas.Lengths.{length-numbers_below, length-set_each}
use Rattle.xm_netlist.specs.Numbered.{images_of, numbers_below}
use Rattle.xm_netlist.specs.Valid.{are_distinct}
use Rattle.xm_writer.specs.Writing.{changes, name_data}
use Rattle.xm_writer.proofs.AgainLists.{at_recursion, every_at, number_below, same_by_items, set_each_at}
use Rattle.xm_writer.proofs.AgainNames.{is_known, number_again}

-- ---- entries by name, in byte order

abbrev pub entered : {X : Type 0} → List (Name × X) → Name → X → List (Name × X)
entered es k v = insert_entry (slice_cmp nat_cmp) es k v

abbrev pub members_from : {X : Type 0} → (X → Data) → List (Name × X) → Members
members_from f [] = no_members
members_from f (e ∷ es) = member e.0 (f e.1) (members_from f es)

same_key : (k l : Name) → slice_cmp nat_cmp k l ≡ Equal → k ≡ l
same_key k l e = same_names k l (sym (is_eq-slice_cmp k l) ∙ rw e refl)

module _ {X : Type 0} (f : X → Data) where
  pub put-entered : (es : List (Name × X)) (k : Name) (v : X) → put k (f v) (members_from f es) ≡ members_from f (entered es k v)
  put-entered [] k v = refl
  put-entered (e ∷ es) k v =
      let later = put-entered es k v in
      elim (slice_cmp nat_cmp k e.0) as (λ o. match_ordering o (member k (f v) (members_from f (e ∷ es))) (member e.0 (f v) (members_from f es)) (member e.0 (f e.1) (put k (f v) (members_from f es))) ≡ members_from f (match_ordering o ((k, v) ∷ e ∷ es) ((e.0, v) ∷ es) (e ∷ entered es k v))) [
        | Less ↦ refl
        | Equal ↦ refl
        | Greater ↦ ap (member e.0 (f e.1)) later
      ]

  -- what holds of the new entry and of the others holds of all
  pub entered-all : (P : Name × X → Type 0) (es : List (Name × X)) (k : Name) (v : X) → AllByRecursion P es → P (k, v) → AllByRecursion P (entered es k v)
  entered-all P [] k v all here = (here, tt)
  entered-all P (e ∷ es) k v all here =
      let later = entered-all P es k v all.1 here in
      elim (slice_cmp nat_cmp k e.0) as (λ o. slice_cmp nat_cmp k e.0 ≡ o → AllByRecursion P (match_ordering o ((k, v) ∷ e ∷ es) ((e.0, v) ∷ es) (e ∷ entered es k v))) [
        | Less ↦ λ _. (here, all)
        | Equal ↦ λ t. (subst (λ (x : Name). P (x, v)) (same_key k e.0 t) here, all.1)
        | Greater ↦ λ _. (all.0, later)
      ] refl

  -- names that were entered stay
  pub entered-kept : (q : Name → Bool) (es : List (Name × X)) (k : Name) (v : X) → list_any (λ e. q e.0) es ≡ true → list_any (λ e. q e.0) (entered es k v) ≡ true
  entered-kept q [] k v t = absurd cc
  entered-kept q (e ∷ es) k v t =
      let cases = or_cases (q e.0) (list_any (λ x. q x.0) es) t in
      let later = entered-kept q es k v in
      elim (slice_cmp nat_cmp k e.0) as (λ o. list_any (λ x. q x.0) (match_ordering o ((k, v) ∷ e ∷ es) ((e.0, v) ∷ es) (e ∷ entered es k v)) ≡ true) [
        | Less ↦ rw t (or-true (q k))
        | Equal ↦ t
        | Greater ↦ elim cases [ inl here ↦ rw here refl | inr there ↦ rw (later there) (or-true (q e.0)) ]
      ]

  pub entered-has : (q : Name → Bool) (es : List (Name × X)) (k : Name) (v : X) → q k ≡ true → list_any (λ e. q e.0) (entered es k v) ≡ true
  entered-has q [] k v t = rw t refl
  entered-has q (e ∷ es) k v t =
      let later = entered-has q es k v t in
      elim (slice_cmp nat_cmp k e.0) as (λ o. slice_cmp nat_cmp k e.0 ≡ o → list_any (λ x. q x.0) (match_ordering o ((k, v) ∷ e ∷ es) ((e.0, v) ∷ es) (e ∷ entered es k v)) ≡ true) [
        | Less ↦ λ _. rw t refl
        | Equal ↦ λ s. let here : q e.0 ≡ true = ap q (sym (same_key k e.0 s)) ∙ t in rw here refl
        | Greater ↦ λ _. rw later (or-true (q e.0))
      ] refl

-- ---- maps

-- the members of a map, with those of the colours from d on that it changes
abbrev pub changed : List Name → ℕ → List ℕ → Table → Table
changed colours d [] t = t
changed colours d (e ∷ es) t = changed colours (suc d) es (cond (nat_eq d e) t (entered t (name_at colours d) (name_at colours e)))

abbrev pub table_of : List Name → List ℕ → Table
table_of colours images = changed colours 0 images []

module _ (colours : List Name) where
  changes-changed : (d : ℕ) (es : List ℕ) (t : Table) → changes colours d es (members_from string t) ≡ members_from string (changed colours d es t)
  changes-changed d [] t = refl
  changes-changed d (e ∷ es) t =
      let stays = changes-changed (suc d) es t in
      let grows = changes-changed (suc d) es (entered t (name_at colours d) (name_at colours e)) in
      elim (nat_eq d e) as (λ b. changes colours (suc d) es (cond b (members_from string t) (put (name_at colours d) (name_data colours e) (members_from string t))) ≡ members_from string (changed colours (suc d) es (cond b t (entered t (name_at colours d) (name_at colours e))))) [
        | true ↦ stays
        | false ↦ ap (changes colours (suc d) es) (put-entered string t (name_at colours d) (name_at colours e)) ∙ grows
      ]

  pub changes-table : (images : List ℕ) → changes colours 0 images no_members ≡ members_from string (table_of colours images)
  changes-table images = changes-changed 0 images []

  changed-all : (P : Name × Name → Type 0) (d : ℕ) (es : List ℕ) (t : Table) → ((j k e : ℕ) → j ≡ d + k → slice_get es k ≡ Some e → P (name_at colours j, name_at colours e)) → AllByRecursion P t → AllByRecursion P (changed colours d es t)
  changed-all P d [] t each all = all
  changed-all P d (e ∷ es) t each all =
      let later = λ (s : Table) (h : AllByRecursion P s). changed-all P (suc d) es s (λ j k x f g. each j (suc k) x (omega arith) g) h in
      let grows = entered-all string P t (name_at colours d) (name_at colours e) all (each d 0 e (omega arith) refl) in
      elim (nat_eq d e) as (λ b. AllByRecursion P (changed colours (suc d) es (cond b t (entered t (name_at colours d) (name_at colours e))))) [
        | true ↦ later t all
        | false ↦ later (entered t (name_at colours d) (name_at colours e)) grows
      ]

  changed-kept : (q : Name → Bool) (d : ℕ) (es : List ℕ) (t : Table) → list_any (λ e. q e.0) t ≡ true → list_any (λ e. q e.0) (changed colours d es t) ≡ true
  changed-kept q d [] t h = h
  changed-kept q d (e ∷ es) t h =
      let stays = changed-kept q (suc d) es t h in
      let grows = changed-kept q (suc d) es (entered t (name_at colours d) (name_at colours e)) (entered-kept string q t (name_at colours d) (name_at colours e) h) in
      elim (nat_eq d e) as (λ b. list_any (λ x. q x.0) (changed colours (suc d) es (cond b t (entered t (name_at colours d) (name_at colours e)))) ≡ true) [ true ↦ stays | false ↦ grows ]

  changed-has : (q : Name → Bool) (d : ℕ) (es : List ℕ) (t : Table) (j k e : ℕ) → j ≡ d + k → slice_get es k ≡ Some e → nat_eq j e ≡ false → q (name_at colours j) ≡ true → list_any (λ x. q x.0) (changed colours d es t) ≡ true
  changed-has q d [] t j k e is at other h = absurd cc
  changed-has q d (x ∷ es) t j zero e is at other h =
      let here : d ≡ j = omega arith in
      let same : x ≡ e = cc in
      let differs : nat_eq d x ≡ false = rw (here, same) other in
      rw (differs, changed) (changed-kept q (suc d) es (entered t (name_at colours d) (name_at colours x)) (entered-has string q t (name_at colours d) (name_at colours x) (rw here h)))
  changed-has q d (x ∷ es) t j (suc k) e is at other h = changed-has q (suc d) es (cond (nat_eq d x) t (entered t (name_at colours d) (name_at colours x))) j k e (omega arith) at other h

  module _ (distinct : are_distinct colours ≡ true) (images : List ℕ) (long : length images ≡ length colours) (fits : All (λ d. d < length colours) images) where
    image_below : (k e : ℕ) → slice_get images k ≡ Some e → (k < length colours) × (e < length colours)
    image_below k e at = (let w = slice_get_within images k e at in omega arith, every_at (λ d. d < length colours) images k e at fits)

    -- colours and images are known
    pub table_names : AllByRecursion (λ (e : Name × Name). (is_among colours e.0 ≡ true) × (is_among colours e.1 ≡ true)) (table_of colours images)
    table_names =
        changed-all (λ (e : Name × Name). (is_among colours e.0 ≡ true) × (is_among colours e.1 ≡ true)) 0 images [] (λ j k e is at. let b = image_below k e at in (is_known colours j (omega arith), is_known colours e b.1)) tt

    pub images_again : images_of colours (table_of colours images) ≡ images
    images_again =
        same_by_items (images_of colours (table_of colours images)) images (length-set_each _ _ (table_of colours images) (numbers_below (length colours)) ∙ length-numbers_below (length colours) ∙ sym long)
        (λ i v at. let w = image_below i v at in
        set_each_at (λ (image : Name × Name). number_in colours image.0) (λ (image : Name × Name). number_in colours image.1) (table_of colours images) (numbers_below (length colours)) i v (omega (arith, length-numbers_below (length colours)))
        (at_each i v at) (λ none. elim (cases_eq i v) [
          | inl same ↦ rw (← same) (number_below (length colours) i w.0)
          | inr other ↦ absurd (true≢false (sym (changed-has (λ n. nat_eq (number_in colours n) i) 0 images [] i i v (omega arith) at (ne_eqb i v other) (eq-eqb _ i (number_again colours i distinct w.0))) ∙ none))
        ]))
      where
        at_each : (i v : ℕ) → slice_get images i ≡ Some v → (k : ℕ) (a : Name × Name) → slice_get (table_of colours images) k ≡ Some a → number_in colours a.0 ≡ i → number_in colours a.1 ≡ v
        at_each i v at k a here =
            at_recursion (λ (e : Name × Name). number_in colours e.0 ≡ i → number_in colours e.1 ≡ v) (table_of colours images) k a here
            (changed-all (λ (e : Name × Name). number_in colours e.0 ≡ i → number_in colours e.1 ≡ v) 0 images [] (λ j l e is got number.
            let b = image_below l e got in
            let same : l ≡ i = omega (arith, number_again colours j distinct (omega arith)) in
            let value : slice_get images i ≡ Some e = rw (← same) got in
            let equal : e ≡ v = cc in
            number_again colours e distinct b.1 ∙ equal) tt)
