-- The entries of `allow`, by the names of their channels and by number.
use Rattle.std.proofs.Common.{◌≡◌, ℕ, zero, suc, ◌+◌, ◌<◌, ◌≤◌, Bool, true, false, cond, List, [], ◌∷◌, length, map, Option, Some, None, refl, sym, ap, ap₂, ◌∙◌, subst, arith, inl, inr, true≢false}
use Rattle.std.specs.Prelude.{◌||◌, nat_eq, replicate, slice_set}
use Rattle.std.specs.List.{AllByRecursion, list_any, slice_get}
use Rattle.std.proofs.lemmas.Bool.{cases_eq, eq-eqb, false_from_ne_true, ne_eqb, or_cases, or_parts}
use Rattle.std.proofs.lemmas.List.{length-replicate}
use Rattle.std.proofs.lemmas.Option.{slice_get_within}
use Rattle.std.proofs.lemmas.Simd.{map-map}
use Rattle.serde_json.specs.Data.{Data, array, no_members, put, string}
use Rattle.serde_json.specs.View.{items_of}
use Rattle.xm_model.specs.TextLines.{name_at}
use Rattle.xm_model.specs.Naming.{Allowed, Naming}
use Rattle.xm_model.specs.Net.{Network}
use Rattle.xm_shape.specs.NamedNet.{AllowEntry}
use Rattle.xm_shape.specs.Names.{Name, number_in}
use Rattle.xm_netlist.specs.Lemmas.Lengths.{length-set_each}
use Rattle.xm_netlist.specs.Numbered.{entries_from, listed_in, set_each, slots_of}
use Rattle.xm_netlist.specs.Valid.{AllowsWithin, RisesWithin, are_distinct}
use Rattle.xm_writer.specs.Writing.{entries_data, names_data}
use Rattle.xm_writer.proofs.AgainLists.{at_recursion, get-replicate, set_each_at}
use Rattle.xm_writer.proofs.AgainMaps.{entered, entered-all, entered-has, entered-kept, members_from, put-entered}
use Rattle.xm_writer.proofs.AgainMarks.{listed_again}
use Rattle.xm_writer.proofs.AgainNames.{number_again}

abbrev pub texts_data : List Name → Data
texts_data names = array (items_of (map string names))

pub names_data-texts : (names : List Name) (ds : List ℕ) → names_data names ds ≡ texts_data (map (name_at names) ds)
names_data-texts names ds = ap (λ (l : List Data). array (items_of l)) (sym (map-map string (name_at names) ds))

-- the entries in byte order of their channels
abbrev pub entry_table : Naming → List Allowed → List (Name × List Name) → List (Name × List Name)
entry_table names [] t = t
entry_table names (e ∷ es) t = entry_table names es (entered t (name_at names.channels e.channel) (map (name_at names.colours) e.colours))

abbrev pub allowing_of : Name × List Name → AllowEntry
allowing_of e = record { channel = e.0; colours = e.1 }

-- the colours of the entry of a channel
abbrev pub allowed_at : List Allowed → ℕ → Option (List ℕ)
allowed_at [] i = None
allowed_at (e ∷ es) i = cond (nat_eq e.channel i) (Some e.colours) (allowed_at es i)

entries-table : (names : Naming) (es : List Allowed) (t : List (Name × List Name)) → entries_data names es (members_from texts_data t) ≡ members_from texts_data (entry_table names es t)
entries-table names [] t = refl
entries-table names (e ∷ es) t =
    ap (entries_data names es) (ap (λ (d : Data). put (name_at names.channels e.channel) d (members_from texts_data t)) (names_data-texts names.colours e.colours) ∙ put-entered texts_data t (name_at names.channels e.channel) (map (name_at names.colours) e.colours))
    ∙ entries-table names es (entered t (name_at names.channels e.channel) (map (name_at names.colours) e.colours))

pub entries_written : (names : Naming) (es : List Allowed) → entries_data names es no_members ≡ members_from texts_data (entry_table names es [])
entries_written names es = entries-table names es []

module _ (names : Naming) where
  pub entry_table-all : (P : Name × List Name → Type 0) (es : List Allowed) (t : List (Name × List Name)) → ((k : ℕ) (e : Allowed) → slice_get es k ≡ Some e → P (name_at names.channels e.channel, map (name_at names.colours) e.colours)) → AllByRecursion P t
      → AllByRecursion P (entry_table names es t)
  entry_table-all P [] t each all = all
  entry_table-all P (e ∷ es) t each all = entry_table-all P es (entered t _ _) (λ k x at. each (suc k) x at) (entered-all texts_data P t (name_at names.channels e.channel) (map (name_at names.colours) e.colours) all (each 0 e refl))

  entry_table-kept : (q : Name → Bool) (es : List Allowed) (t : List (Name × List Name)) → list_any (λ e. q e.0) t ≡ true → list_any (λ e. q e.0) (entry_table names es t) ≡ true
  entry_table-kept q [] t h = h
  entry_table-kept q (e ∷ es) t h = entry_table-kept q es (entered t _ _) (entered-kept texts_data q t (name_at names.channels e.channel) (map (name_at names.colours) e.colours) h)

  entry_table-has : (q : Name → Bool) (es : List Allowed) (t : List (Name × List Name)) → list_any (λ e. q (name_at names.channels e.channel)) es ≡ true → list_any (λ e. q e.0) (entry_table names es t) ≡ true
  entry_table-has q [] t h = absurd cc
  entry_table-has q (e ∷ es) t h =
      elim (or_cases (q (name_at names.channels e.channel)) _ h) [
        | inl here ↦ entry_table-kept q es (entered t _ _) (entered-has texts_data q t (name_at names.channels e.channel) (map (name_at names.colours) e.colours) here)
        | inr later ↦ entry_table-has q es (entered t _ _) later
      ]

-- ---- entries that rise by channel

pub entry_within : (net : Network) (low : ℕ) (es : List Allowed) (k : ℕ) (e : Allowed) → AllowsWithin net low es → slice_get es k ≡ Some e → (low ≤ e.channel) × (e.channel < net.channels) × RisesWithin 0 net.colours e.colours
entry_within net low [] k e h at = absurd cc
entry_within net low (x ∷ es) zero e h at = let same : x ≡ e = cc in subst (λ (y : Allowed). (low ≤ y.channel) × (y.channel < net.channels) × RisesWithin 0 net.colours y.colours) same (h.0, h.1, h.2)
entry_within net low (x ∷ es) (suc k) e h at = let w = entry_within net (suc x.channel) es k e h.3 at in (let le = h.0 in let more = w.0 in omega arith, w.1, w.2)

allowed_is : (net : Network) (low : ℕ) (es : List Allowed) (k : ℕ) (e : Allowed) → AllowsWithin net low es → slice_get es k ≡ Some e → allowed_at es e.channel ≡ Some e.colours
allowed_is net low [] k e h at = absurd cc
allowed_is net low (x ∷ es) zero e h at = let same : x ≡ e = cc in rw (same, eq-eqb e.channel e.channel refl) refl
allowed_is net low (x ∷ es) (suc k) e h at =
    let w = entry_within net (suc x.channel) es k e h.3 at in
    rw (ne_eqb x.channel e.channel (λ s. let more = w.0 in omega arith)) (allowed_is net (suc x.channel) es k e h.3 at)

allowed_none : (es : List Allowed) (i : ℕ) → list_any (λ e. nat_eq e.channel i) es ≡ false → allowed_at es i ≡ None
allowed_none [] i h = refl
allowed_none (e ∷ es) i h = let parts = or_parts (nat_eq e.channel i) _ h in rw (parts.0) (allowed_none es i parts.1)

allowed_below : (net : Network) (low : ℕ) (es : List Allowed) (i : ℕ) → AllowsWithin net low es → i < low → allowed_at es i ≡ None
allowed_below net low [] i h lt = refl
allowed_below net low (e ∷ es) i h lt = rw (ne_eqb e.channel i (λ s. let le = h.0 in omega arith)) (allowed_below net (suc e.channel) es i h.3 (let le = h.0 in omega arith))

abbrev entry : ℕ → List ℕ → Allowed
entry c ds = record { channel = c; colours = ds }

entries_are : (net : Network) (c : ℕ) (slots : List (Option (List ℕ))) (es : List Allowed) → AllowsWithin net c es → net.channels ≡ c + length slots
    → ((j k : ℕ) (s : Option (List ℕ)) → j ≡ c + k → slice_get slots k ≡ Some s → s ≡ allowed_at es j) → entries_from c slots ≡ es
entries_are net c [] [] h long each = refl
entries_are net c [] (e ∷ es) h long each = absurd (let le = h.0 in let lt = h.1 in omega arith)
entries_are net c (None ∷ slots) [] h long each = entries_are net (suc c) slots [] tt (omega arith) (λ j k s eq at. each j (suc k) s (omega arith) at)
entries_are net c (None ∷ slots) (e ∷ es) h long each =
    elim (cases_eq e.channel c) [
      | inl same ↦ absurd (let here : None ≡ Some e.colours = each c 0 None (omega arith) refl ∙ rw (eq-eqb e.channel c same) refl in cc)
      | inr other ↦ let le = h.0 in
          let low : suc c ≤ e.channel = omega arith in
          entries_are net (suc c) slots (e ∷ es) (low, h.1, h.2, h.3) (omega arith) (λ j k s eq at. each j (suc k) s (omega arith) at)
    ]
entries_are net c (Some ds ∷ slots) [] h long each = absurd (let here : Some ds ≡ None = each c 0 (Some ds) (omega arith) refl in cc)
entries_are net c (Some ds ∷ slots) (e ∷ es) h long each =
    elim (cases_eq e.channel c) [
      | inl same ↦ let here : Some ds ≡ Some e.colours = each c 0 (Some ds) (omega arith) refl ∙ rw (eq-eqb e.channel c same) refl in
          let later : AllowsWithin net (suc c) es = rw (← same) h.3 in
          let rest = entries_are net (suc c) slots es later (omega arith) (λ j k s eq at. each j (suc k) s (omega arith) at ∙ (let other = ne_eqb e.channel j (λ t. omega arith) in rw other refl)) in
          let listed : ds ≡ e.colours = cc in
          ap₂ (λ (x : Allowed) (xs : List Allowed). x ∷ xs) (ap₂ entry (sym same) listed) rest
      | inr other ↦ absurd (let le = h.0 in let here : Some ds ≡ None = each c 0 (Some ds) (omega arith) refl ∙ rw (ne_eqb e.channel c other) (allowed_below net (suc e.channel) es c h.3 (omega arith)) in cc)
    ]

-- ---- the slots of the channels

set_each-map : {A B X : Type 0} (place : B → ℕ) (value : B → X) (g : A → B) (items : List A) (xs : List X) → set_each place value (map g items) xs ≡ set_each (λ a. place (g a)) (λ a. value (g a)) items xs
set_each-map place value g [] xs = refl
set_each-map place value g (a ∷ rest) xs = set_each-map place value g rest (slice_set xs (place (g a)) (value (g a)))

module _ (net : Network) (names : Naming) (es : List Allowed) (channels : are_distinct names.channels ≡ true) (colours : are_distinct names.colours ≡ true) (as_many : length names.channels ≡ net.channels) (as_coloured : length names.colours ≡ net.colours) (within : AllowsWithin net 0 es) where
  abbrev table : List (Name × List Name)
  table = entry_table names es []

  listed : (k : ℕ) (e : Allowed) → slice_get es k ≡ Some e → (number_in names.channels (name_at names.channels e.channel) ≡ e.channel) × (listed_in names.colours (map (name_at names.colours) e.colours) ≡ e.colours)
  listed k e at =
      let w = entry_within net 0 es k e within at in
      (number_again names.channels e.channel channels (let lt = w.1 in omega arith), listed_again names.colours colours e.colours (rw as_coloured w.2))

  abbrev IsEntry : ℕ → Name × List Name → Type 0
  IsEntry i e = number_in names.channels e.0 ≡ i → Some (listed_in names.colours e.1) ≡ allowed_at es i

  all_entries : (i : ℕ) → AllByRecursion (IsEntry i) table
  all_entries i = entry_table-all names (IsEntry i) es [] (λ k e at here. let l = listed k e at in ap (λ (ds : List ℕ). Some ds) (l.1) ∙ sym (allowed_is net 0 es k e within at) ∙ ap (allowed_at es) (sym (l.0) ∙ here)) tt

  any_entry : (i : ℕ) (rest : List Allowed) (low : ℕ) → AllowsWithin net low rest → list_any (λ e. nat_eq e.channel i) rest ≡ list_any (λ e. nat_eq (number_in names.channels (name_at names.channels e.channel)) i) rest
  any_entry i [] low h = refl
  any_entry i (e ∷ rest) low h =
      ap₂ (λ (a b : Bool). a || b) (ap (λ (n : ℕ). nat_eq n i) (sym (number_again names.channels e.channel channels (let lt = h.1 in omega arith)))) (any_entry i rest (suc e.channel) h.3)

  slot_at : (i : ℕ) → i < net.channels → slice_get (slots_of names.channels names.colours (map allowing_of table)) i ≡ Some (allowed_at es i)
  slot_at i lt =
      ap (λ l. slice_get l i) (set_each-map (λ (e : AllowEntry). number_in names.channels e.channel) (λ (e : AllowEntry). Some (listed_in names.colours e.colours)) allowing_of table (replicate (length names.channels) None))
      ∙ set_each_at (λ (e : Name × List Name). number_in names.channels e.0) (λ (e : Name × List Name). Some (listed_in names.colours e.1)) table (replicate (length names.channels) None) i (allowed_at es i) (omega (arith, length-replicate {A = Option (List ℕ)} (length names.channels) None))
      (λ k e at here. at_recursion (IsEntry i) table k e at (all_entries i) here)
      (λ none. get-replicate (length names.channels) None i (omega arith) ∙ ap (λ (o : Option (List ℕ)). Some o) (sym (allowed_none es i (false_from_ne_true _ (λ some. true≢false (sym (entry_table-has names (λ n. nat_eq (number_in names.channels n) i) es [] (sym (any_entry i es 0 within) ∙ some)) ∙ none))))))

  length-slots : length (slots_of names.channels names.colours (map allowing_of table)) ≡ net.channels
  length-slots = length-set_each (λ (e : AllowEntry). number_in names.channels e.channel) (λ (e : AllowEntry). Some (listed_in names.colours e.colours)) (map allowing_of table) (replicate (length names.channels) None) ∙ length-replicate (length names.channels) None ∙ as_many

  pub entries_again : entries_from 0 (slots_of names.channels names.colours (map allowing_of table)) ≡ es
  entries_again =
      entries_are net 0 (slots_of names.channels names.colours (map allowing_of table)) es within (let l = length-slots in omega arith)
      (λ j k s e at. let w = slice_get_within (slots_of names.channels names.colours (map allowing_of table)) k s at in
      let same : j ≡ k = omega arith in
      let want = slot_at k (let l = length-slots in omega arith) in
      rw same (let both : Some s ≡ Some (allowed_at es k) = sym at ∙ want in cc))
