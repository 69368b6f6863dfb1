-- A draft whose colours and sizes are right makes a net within its limits.
use Rattle.std.proofs.Common.{◌≡◌, ℕ, zero, suc, ◌<◌, ◌≤◌, true, false, cond, List, [], ◌∷◌, ◌++◌, length, get_or, map, Ok, refl, ◌∙◌, inl, inr, arith}
use Rattle.std.specs.Prelude.{◌||◌, ◌&&◌, nat_le, sum_by, slice_set, codes}
use Rattle.std.specs.List.{All, flat_map}
use Rattle.std.specs.Str.{bytes_eq}
use Rattle.std.proofs.lemmas.Bool.{and_parts, leb-true, or_cases, or_left, or_right}
use Rattle.std.proofs.lemmas.List.{length-map}
use Rattle.std.proofs.lemmas.List.Elements.{All-append, All-cons, All-head, All-map, All-nil, All-set, All-tail, All-weaker}
use Rattle.std.proofs.lemmas.List.Folds.{list_any-append}
use Rattle.std.proofs.lemmas.List.Sums.{sum_by-cons}
use Rattle.std.proofs.lemmas.Slice.Eq.{bytes_eq-Decides}
use Rattle.xm_json.specs.Lemmas.StepFacts.{checked}
use Rattle.xm_model.specs.Net.{FitsComponent, IsColourMap, IsWithinLimits, capacity_of, inputs, outputs}
use Rattle.xm_model.specs.Limits.{most_capacities, most_capacity, most_channels, most_colours, most_primitives, most_source_colours}
use Rattle.xm_shape.specs.NamedNet.{NamedNet, NamedKind, NamedPrimitive, Table, channel_names, channels_of, fork, function, join, merge, queue, sink, source, switch}
use Rattle.xm_shape.specs.Lemmas.Equal.{same_bytes}
use Rattle.xm_json.specs.Path.{member_of, place_of}
use Rattle.xm_json.specs.Holding.{each_holds}
use Rattle.xm_shape.specs.Names.{Name, first_uses, is_among, number_in}
use Rattle.xm_shape.specs.Shape.{net}
use Rattle.xm_shape.specs.declared.fault.Which.{Which}
use Rattle.xm_shape.specs.declared.fault.Which.TheVariants as which
use Rattle.xm_netlist.specs.Lemmas.Lengths.{length-marks_of, length-numbers_below, length-set_each}
use Rattle.xm_netlist.specs.Numbered.{component_in, images_of, net_of, numbers_below, primitive_numbered, set_each}
use Rattle.xm_netlist.specs.Checks.{check_all_known, capacity_in, check_queue_size, check_colours, check_entry_colours, kind_capacity, check_kind_colours, check_queue_packets, check_known, check_sizes, check_offered, check_offers, check_packets, check_primitive_colours, check_room, check_size, check_source_size, check_table}
use Rattle.xm_netlist.specs.Valid.{channel_uses}
use Rattle.xm_netlist.proofs.Passing.{All-back, All-front, both, held}

-- ---- names that are among others

pub number_below : (names : List Name) (n : Name) → is_among names n ≡ true → number_in names n < length names
number_below [] n e = absurd cc
number_below (m ∷ ms) n e =
    elim (bytes_eq n m) as (λ b. (b || is_among ms n) ≡ true → cond b 0 (suc (number_in ms n)) < length (m ∷ ms)) [
      | true ↦ λ first. omega arith
      | false ↦ λ later. (let lt = number_below ms n later in omega arith)
    ] e

among_append : (xs ys : List Name) (n : Name) → (is_among xs n || is_among ys n) ≡ true → is_among (xs ++ ys) n ≡ true
among_append xs ys n e = list_any-append (bytes_eq n) xs ys ∙ e

among_more : (seen : List Name) (x n : Name) → is_among seen n ≡ true → is_among (cond (is_among seen x) seen (seen ++ x ∷ [])) n ≡ true
among_more seen x n e =
    elim (is_among seen x) as (λ b. is_among (cond b seen (seen ++ x ∷ [])) n ≡ true) [
      | true ↦ e
      | false ↦ among_append seen (x ∷ []) n (or_left (is_among seen n) (is_among (x ∷ []) n) e)
    ]

among_itself : (seen : List Name) (x : Name) → is_among (cond (is_among seen x) seen (seen ++ x ∷ [])) x ≡ true
among_itself seen x =
    elim (is_among seen x) as (λ b. is_among seen x ≡ b → is_among (cond b seen (seen ++ x ∷ [])) x ≡ true) [
      | true ↦ λ e. e
      | false ↦ λ e. among_append seen (x ∷ []) x (rw (e, same_bytes x) refl)
    ] refl

seen_before : (seen xs : List Name) (n : Name) → is_among seen n ≡ true → is_among (first_uses seen xs) n ≡ true
seen_before seen [] n e = e
seen_before seen (x ∷ xs) n e = seen_before (cond (is_among seen x) seen (seen ++ x ∷ [])) xs n (among_more seen x n e)

-- each use has its place among the first uses
pub used : (seen xs : List Name) (n : Name) → is_among xs n ≡ true → is_among (first_uses seen xs) n ≡ true
used seen [] n e = absurd cc
used seen (x ∷ xs) n e =
    elim (or_cases (bytes_eq n x) (is_among xs n) e) [
      | inl here ↦ (let is : n ≡ x = (bytes_eq-Decides n x).0 here in rw is (seen_before (cond (is_among seen x) seen (seen ++ x ∷ [])) xs x (among_itself seen x)))
      | inr later ↦ used (cond (is_among seen x) seen (seen ++ x ∷ [])) xs n later
    ]

among_each : (names sub : List Name) → ((n : Name) → is_among sub n ≡ true → is_among names n ≡ true) → All (λ n. is_among names n ≡ true) sub
among_each names [] into = All-nil (λ n. is_among names n ≡ true)
among_each names (n ∷ ns) into =
    All-cons (λ n. is_among names n ≡ true) n ns (into n (or_left (bytes_eq n n) (is_among ns n) (same_bytes n)))
    (among_each names ns (λ m e. into m (or_right (bytes_eq m n) (is_among ns m) e)))

among_all : {A : Type 0} (f : A → List Name) (names : List Name) (xs : List A) → ((n : Name) → is_among (flat_map f xs) n ≡ true → is_among names n ≡ true)
    → All (λ x. All (λ n. is_among names n ≡ true) (f x)) xs
among_all f names [] into = All-nil (λ x. All (λ n. is_among names n ≡ true) (f x))
among_all f names (x ∷ xs) into =
    All-cons (λ x. All (λ n. is_among names n ≡ true) (f x)) x xs (among_each names (f x) (λ n e. into n (among_append (f x) (flat_map f xs) n (or_left (is_among (f x) n) (is_among (flat_map f xs) n) e))))
    (among_all f names xs (λ n e. into n (among_append (f x) (flat_map f xs) n (or_right (is_among (f x) n) (is_among (flat_map f xs) n) e))))

-- the channels of each primitive are among those of the draft
pub all_used : (primitives : List NamedPrimitive) → All (λ primitive. All (λ n. is_among (channel_names primitives) n ≡ true) (channels_of primitive)) primitives
all_used primitives = among_all channels_of (channel_names primitives) primitives (λ n e. used [] (flat_map channels_of primitives) n e)

-- ---- ports

pub ports_numbered : (channels colours : List Name) (name : Name) (kind : NamedKind)
    → channel_uses (component_in channels colours kind) ≡ map (number_in channels) (channels_of (record { name = name; kind = kind }))
ports_numbered channels colours name (source out ds mode) = refl
ports_numbered channels colours name (sink input mode) = refl
ports_numbered channels colours name (queue input out capacity initial) = refl
ports_numbered channels colours name (function input out table) = refl
ports_numbered channels colours name (fork input a b table_a table_b) = refl
ports_numbered channels colours name (join a b out pass) = refl
ports_numbered channels colours name (switch input a b to_a) = refl
ports_numbered channels colours name (merge a b out) = refl

ports_within : (channels colours : List Name) (primitive : NamedPrimitive) → All (λ n. is_among channels n ≡ true) (channels_of primitive)
    → All (λ c. c < length channels) (inputs (primitive_numbered channels colours primitive) ++ outputs (primitive_numbered channels colours primitive))
ports_within channels colours primitive among =
    rw (ports_numbered channels colours primitive.name primitive.kind)
    (All-map (λ c. c < length channels) (number_in channels) (channels_of primitive) (All-weaker (λ n. is_among channels n ≡ true) (λ n. number_in channels n < length channels) (λ n e. number_below channels n e) (channels_of primitive) among))

-- ---- colours

pub all_below : (colours names : List Name) → All (λ n. is_among colours n ≡ true) names → All (λ d. d < length colours) (map (number_in colours) names)
all_below colours names among =
    All-map (λ d. d < length colours) (number_in colours) names (All-weaker (λ n. is_among colours n ≡ true) (λ n. number_in colours n < length colours) (λ n e. number_below colours n e) names among)

pub are_known : (colours : List Name) (path : List ℕ) (names : List Name) → check_all_known colours path names ≡ Ok tt → All (λ n. is_among colours n ≡ true) names
are_known colours path names e = held _ (λ n. is_among colours n ≡ true) (λ i n k. checked (is_among colours n) _ k) 0 names e

pub are_offered : (colours : List Name) (path : List ℕ) (ds names : List Name) → each_holds (check_offered colours path ds) names ≡ Ok tt → All (λ n. is_among colours n ≡ true) names
are_offered colours path ds names e = held _ (λ n. is_among colours n ≡ true) (λ i n k. checked (is_among colours n) _ (both (check_known colours _ n) _ k).0) 0 names e

-- both colours of a member of a map are known
abbrev pub IsKnown : List Name → Name × Name → Type 0
IsKnown colours image = (is_among colours image.0 ≡ true) × (is_among colours image.1 ≡ true)

pub are_mapped : (colours : List Name) (path : List ℕ) (table : Table) → check_table colours path table ≡ Ok tt → All (IsKnown colours) table
are_mapped colours path [] e = All-nil (IsKnown colours)
are_mapped colours path (image ∷ images) e =
    let first = both (check_known colours path image.0) _ e in
    let second = both (check_known colours (member_of path image.0) image.1) _ first.1 in
    All-cons (IsKnown colours) image images (checked (is_among colours image.0) _ first.0, checked (is_among colours image.1) _ second.0) (are_mapped colours path images second.1)

module _ {A X : Type 0} (place : A → ℕ) (value : A → X) where
  pub All-set_each : (P : X → Type 0) (as' : List A) (xs : List X) → All (λ a. P (value a)) as' → All P xs → All P (set_each place value as' xs)
  All-set_each P [] xs new old = old
  All-set_each P (a ∷ rest) xs new old =
      All-set_each P rest (slice_set xs (place a) (value a)) (All-tail (λ a. P (value a)) a rest new)
      (All-set P xs (place a) (value a) (All-head (λ a. P (value a)) a rest new) old)

pub all_numbers_below : (n : ℕ) → All (λ d. d < n) (numbers_below n)
all_numbers_below zero = All-nil (λ d. d < 0)
all_numbers_below (suc n) =
    All-append (λ d. d < suc n) (numbers_below n) (n ∷ []) (All-weaker (λ d. d < n) (λ d. d < suc n) (λ d lt. omega arith) (numbers_below n) (all_numbers_below n))
    (All-cons (λ d. d < suc n) n [] (omega arith) (All-nil (λ d. d < suc n)))

pub is_colour_map : (colours : List Name) (table : Table) → All (IsKnown colours) table → IsColourMap (length colours) (images_of colours table)
is_colour_map colours table known_all = (
  length-set_each (λ (image : Name × Name). number_in colours image.0) (λ (image : Name × Name). number_in colours image.1) table (numbers_below (length colours)) ∙ length-numbers_below (length colours),
  All-set_each (λ (image : Name × Name). number_in colours image.0) (λ (image : Name × Name). number_in colours image.1) (λ d. d < length colours) table (numbers_below (length colours))
      (All-weaker (IsKnown colours) (λ image. number_in colours image.1 < length colours) (λ image e. number_below colours image.1 e.1) table known_all) (all_numbers_below (length colours)),
)

-- ---- sizes

pub within : (it : Which) (low high count : ℕ) → check_size it low high count ≡ Ok tt → (low ≤ count) × (count ≤ high)
within it low high count e =
    let parts = and_parts (nat_le low count) (nat_le count high) (checked (nat_le low count && nat_le count high) _ e) in
    (leb-true low count parts.0, leb-true count high parts.1)

pub small_room : (kind : NamedKind) → check_room kind ≡ Ok tt → kind_capacity kind ≤ most_capacity
small_room (source out ds mode) e = omega arith
small_room (sink input mode) e = omega arith
small_room (queue input out capacity initial) e = (within which.Capacity 1 most_capacity capacity e).1
small_room (function input out table) e = omega arith
small_room (fork input a b table_a table_b) e = omega arith
small_room (join a b out pass) e = omega arith
small_room (switch input a b to_a) e = omega arith
small_room (merge a b out) e = omega arith

pub all_small : (primitives : List NamedPrimitive) → each_holds check_queue_size primitives ≡ Ok tt → All (λ primitive. capacity_in primitive ≤ most_capacity) primitives
all_small primitives e = held check_queue_size (λ (primitive : NamedPrimitive). capacity_in primitive ≤ most_capacity) (λ i primitive room. small_room primitive.kind room) 0 primitives e

pub fits : (channels colours : List Name) (path : List ℕ) (kind : NamedKind) → check_kind_colours colours path kind ≡ Ok tt → check_offers kind ≡ Ok tt → check_room kind ≡ Ok tt → check_packets kind ≡ Ok tt
    → FitsComponent (length colours) (component_in channels colours kind)
fits channels colours path (source out ds mode) known_all offers room packets =
    let few = within which.SourceColours 1 most_source_colours (length ds) offers in
    (omega (arith, few.0, length-map ds (number_in colours)), omega (arith, few.1, length-map ds (number_in colours)), all_below colours ds (are_offered colours _ ds ds known_all))
fits channels colours path (sink input mode) known_all offers room packets = tt
fits channels colours path (queue input out capacity initial) known_all offers room packets =
    let few = within which.Capacity 1 most_capacity capacity room in
    let first = within which.Initial 0 capacity (length initial) packets in
    (few.0, few.1, omega (arith, first.1, length-map initial (number_in colours)), all_below colours initial (are_known colours _ initial known_all))
fits channels colours path (function input out table) known_all offers room packets = is_colour_map colours table (are_mapped colours _ table known_all)
fits channels colours path (fork input a b table_a table_b) known_all offers room packets =
    let two = both (check_table colours (member_of path (codes "map_a")) table_a) (check_table colours (member_of path (codes "map_b")) table_b) known_all in
    (is_colour_map colours table_a (are_mapped colours _ table_a two.0), is_colour_map colours table_b (are_mapped colours _ table_b two.1))
fits channels colours path (join a b out pass) known_all offers room packets = tt
fits channels colours path (switch input a b to_a) known_all offers room packets = length-marks_of colours to_a
fits channels colours path (merge a b out) known_all offers room packets = tt

same_capacity : (channels colours : List Name) (kind : NamedKind) → capacity_of (component_in channels colours kind) ≡ kind_capacity kind
same_capacity channels colours (source out ds mode) = refl
same_capacity channels colours _ = refl

same_capacities : (channels colours : List Name) (primitives : List NamedPrimitive) → sum_by capacity_of (map (primitive_numbered channels colours) primitives) ≡ sum_by capacity_in primitives
same_capacities channels colours [] = refl
same_capacities channels colours (primitive ∷ primitives) =
    rw (sum_by-cons capacity_of (primitive_numbered channels colours primitive) (map (primitive_numbered channels colours) primitives), sum_by-cons capacity_in primitive primitives, same_capacity channels colours primitive.kind, same_capacities channels colours primitives) refl

-- ---- a draft

-- what the tests of colours and of sizes say, one by one
pub record Limits (draft : NamedNet) : Type 0 where
  pub colours : (1 ≤ length draft.colours) × (length draft.colours ≤ most_colours)
  pub primitives : (1 ≤ length draft.primitives) × (length draft.primitives ≤ most_primitives)
  pub channels : (1 ≤ length (channel_names draft.primitives)) × (length (channel_names draft.primitives) ≤ most_channels)
  pub sources : All (λ primitive. check_offers primitive.kind ≡ Ok tt) draft.primitives
  pub capacities : All (λ primitive. check_room primitive.kind ≡ Ok tt) draft.primitives
  pub small : All (λ primitive. capacity_in primitive ≤ most_capacity) draft.primitives
  pub sum : sum_by capacity_in draft.primitives ≤ most_capacities
  pub initial : All (λ primitive. check_packets primitive.kind ≡ Ok tt) draft.primitives

pub limits : (draft : NamedNet) → check_sizes draft ≡ Ok tt → Limits draft
unfolding check_sizes
limits draft e =
    let colours = both (check_size which.Colours 1 most_colours (length draft.colours)) _ e in
    let primitives = both (check_size which.Primitives 1 most_primitives (length draft.primitives)) _ colours.1 in
    let channels = both (check_size which.Channels 1 most_channels (length (channel_names draft.primitives))) _ primitives.1 in
    let sources = both (each_holds check_source_size draft.primitives) _ channels.1 in
    let capacities = both (each_holds check_queue_size draft.primitives) _ sources.1 in
    let total = both (check_size which.CapacitySum 0 most_capacities (sum_by capacity_in draft.primitives)) _ capacities.1 in
    record {
      colours = within which.Colours 1 most_colours (length draft.colours) colours.0;
      primitives = within which.Primitives 1 most_primitives (length draft.primitives) primitives.0;
      channels = within which.Channels 1 most_channels (length (channel_names draft.primitives)) channels.0;
      sources = held check_source_size (λ (primitive : NamedPrimitive). check_offers primitive.kind ≡ Ok tt) (λ i primitive h. h) 0 draft.primitives sources.0;
      capacities = held check_queue_size (λ (primitive : NamedPrimitive). check_room primitive.kind ≡ Ok tt) (λ i primitive h. h) 0 draft.primitives capacities.0;
      small = all_small draft.primitives capacities.0;
      sum = (within which.CapacitySum 0 most_capacities (sum_by capacity_in draft.primitives) total.0).1;
      initial = held check_queue_packets (λ (primitive : NamedPrimitive). check_packets primitive.kind ≡ Ok tt) (λ i primitive h. h) 0 draft.primitives total.1;
    }

-- each primitive's lists and maps have known colours, wherever they stand
abbrev pub IsColoured : List Name → NamedPrimitive → Type 0
IsColoured colours primitive = (path : List ℕ) × (check_kind_colours colours path primitive.kind ≡ Ok tt)

pub primitives_coloured : (draft : NamedNet) → check_colours draft ≡ Ok tt → All (IsColoured draft.colours) draft.primitives
unfolding check_colours
primitives_coloured draft e =
    held (check_primitive_colours draft.colours) (IsColoured draft.colours) (λ i primitive h. (place_of net i, h)) 0 draft.primitives (both (each_holds (check_primitive_colours draft.colours) draft.primitives) (each_holds (check_entry_colours draft.colours) draft.allow) e).0

pub within_limits : (draft : NamedNet) → check_sizes draft ≡ Ok tt → check_colours draft ≡ Ok tt → IsWithinLimits (net_of draft)
unfolding net_of
within_limits draft small known_all =
    let it = limits draft small in
    let names = channel_names draft.primitives in
    let long = length-map draft.primitives (primitive_numbered names draft.colours) in
    let among = all_used draft.primitives in
    let coloured_all = primitives_coloured draft known_all in
    record {
      some_prims = omega (arith, long, it.primitives.0);
      prims = omega (arith, long, it.primitives.1);
      some_channels = it.channels.0;
      channels = it.channels.1;
      some_colours = it.colours.0;
      colours = it.colours.1;
      outputs = All-map (λ m. All (λ c. c < length names) (outputs m)) (primitive_numbered names draft.colours) draft.primitives
          (λ k d lt. All-back (λ c. c < length names) (inputs (primitive_numbered names draft.colours (get_or draft.primitives k d))) _ (ports_within names draft.colours (get_or draft.primitives k d) (among k d lt)));
      inputs = All-map (λ m. All (λ c. c < length names) (inputs m)) (primitive_numbered names draft.colours) draft.primitives
          (λ k d lt. All-front (λ c. c < length names) _ (outputs (primitive_numbered names draft.colours (get_or draft.primitives k d))) (ports_within names draft.colours (get_or draft.primitives k d) (among k d lt)));
      primitives = All-map (FitsComponent (length draft.colours)) (primitive_numbered names draft.colours) draft.primitives
          (λ k d lt. fits names draft.colours (coloured_all k d lt).0 (get_or draft.primitives k d).kind (coloured_all k d lt).1 (it.sources k d lt) (it.capacities k d lt) (it.initial k d lt));
      capacities = omega (arith, same_capacities names draft.colours draft.primitives, it.sum);
    }
