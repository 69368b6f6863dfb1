-- A document that was written passes each test of names, colours, sizes and wiring.
use Rattle.std.proofs.Common.{◌≡◌, ℕ, suc, ◌<◌, ◌≤◌, true, false, List, [], ◌∷◌, length, map, take, Some, Result, Ok, refl, sym, ap, ◌∙◌, arith}
use Rattle.std.specs.Prelude.{⊤, sum_by, option_map}
use Rattle.std.specs.List.{All, AllByRecursion, list_all, slice_get}
use Rattle.std.proofs.lemmas.Bool.{le-leb}
use Rattle.std.proofs.lemmas.List.{length-map, take-map}
use Rattle.std.proofs.lemmas.List.Elements.{All-map, All-weaker}
use Rattle.std.proofs.lemmas.Option.{slice_get-map}
use Rattle.xm_model.specs.TextLines.{name_at}
use Rattle.xm_model.specs.Component.{Component, Fork, Function, Join, Merge, Queue, Sink, Source, Switch}
use Rattle.xm_model.specs.Naming.{Naming}
use Rattle.xm_model.specs.Net.{capacity_of}
use Rattle.xm_model.specs.Limits.{most_capacities, most_capacity, most_channels, most_colours, most_primitives, most_source_colours}
use Rattle.xm_shape.specs.NamedNet.{AllowEntry, NamedKind, NamedPrimitive, Table, channel_names, ports_of}
use Rattle.xm_shape.specs.Fault.{Fault}
use Rattle.xm_json.specs.Path.{place_of}
use Rattle.xm_json.specs.Holding.{each_holds, each_holds_from}
use Rattle.xm_shape.specs.Names.{Name, is_among, is_colour_name, is_name}
use Rattle.xm_shape.specs.Shape.{net}
use Rattle.xm_netlist.specs.Checks.{check_all_known, check_colour_name, check_colours, check_entry_colours, check_kind_colours, check_sizes, name_of, check_names, check_offers, check_packets, check_primitive_colours, check_primitive_name, check_port_names, check_room, check_table}
use Rattle.xm_netlist.specs.Valid.{AreNames, are_distinct}
use Rattle.xm_writer.proofs.AgainAllow.{allowing_of}
use Rattle.xm_writer.proofs.AgainLists.{all_at, every_at, holds}
use Rattle.xm_writer.proofs.AgainMaps.{table_names}
use Rattle.xm_writer.proofs.AgainMarks.{marked_within}
use Rattle.xm_writer.proofs.AgainNames.{distinct-map, distinct_before, is_known, name_is}
use Rattle.xm_writer.proofs.AgainNumbers.{Fits, capacities_again, each_part, length-primitives_read, primitives_read, prims_again}
use Rattle.xm_writer.proofs.AgainParts.{named_by, primitive_read}

-- ---- names

check_colour_names : (colours : List Name) → AreNames is_colour_name colours → each_holds (check_colour_name colours) colours ≡ Ok tt
check_colour_names colours are =
    holds (check_colour_name colours) 0 colours (λ j k x e at. let same : j ≡ k = omega arith in rw (same, all_at is_colour_name colours k x at are.formed, distinct_before colours k x are.distinct at) refl)

module _ (names : Naming) where
  channel_formed : (c : ℕ) → list_all is_name names.channels ≡ true → c < length names.channels → is_name (name_at names.channels c) ≡ true
  channel_formed c formed lt = all_at is_name names.channels c (name_at names.channels c) (name_is names.channels c lt) formed

  HasPorts : NamedPrimitive → Type 0
  HasPorts primitive = (path : List ℕ) → check_port_names path (ports_of primitive.kind) ≡ Ok tt

  ports_formed : list_all is_name names.channels ≡ true → (name : Name) (m : Component) → Fits names m → (path : List ℕ) → check_port_names path (ports_of (primitive_read names name m).kind) ≡ Ok tt
  ports_formed formed name (Source out ds mode) f path = rw (channel_formed out formed (f.ports 0 0 (omega arith))) refl
  ports_formed formed name (Sink input mode) f path = rw (channel_formed input formed (f.ports 0 0 (omega arith))) refl
  ports_formed formed name (Queue input out capacity initial) f path = rw (channel_formed input formed (f.ports 0 0 (omega arith)), channel_formed out formed (f.ports 1 0 (omega arith))) refl
  ports_formed formed name (Function input out table) f path = rw (channel_formed input formed (f.ports 0 0 (omega arith)), channel_formed out formed (f.ports 1 0 (omega arith))) refl
  ports_formed formed name (Fork input a b ta tb) f path =
      rw (channel_formed input formed (f.ports 0 0 (omega arith)), channel_formed a formed (f.ports 1 0 (omega arith)), channel_formed b formed (f.ports 2 0 (omega arith))) refl
  ports_formed formed name (Join a b out pass) f path =
      rw (channel_formed a formed (f.ports 0 0 (omega arith)), channel_formed b formed (f.ports 1 0 (omega arith)), channel_formed out formed (f.ports 2 0 (omega arith))) refl
  ports_formed formed name (Switch input a b to_a) f path =
      rw (channel_formed input formed (f.ports 0 0 (omega arith)), channel_formed a formed (f.ports 1 0 (omega arith)), channel_formed b formed (f.ports 2 0 (omega arith))) refl
  ports_formed formed name (Merge a b out) f path =
      rw (channel_formed a formed (f.ports 0 0 (omega arith)), channel_formed b formed (f.ports 1 0 (omega arith)), channel_formed out formed (f.ports 2 0 (omega arith))) refl

  module _ (ms : List Component) (all : All (Fits names) ms) where
    check_primitive_names : AreNames is_name names.prims → list_all is_name names.channels ≡ true → length names.prims ≡ length ms → each_holds (check_primitive_name (primitives_read names 0 ms)) (primitives_read names 0 ms) ≡ Ok tt
    check_primitive_names are formed long =
        let ports = each_part names (λ primitive. (path : List ℕ) → check_port_names path (ports_of primitive.kind) ≡ Ok tt) (Fits names) (ports_formed formed) 0 ms all in
        holds (check_primitive_name (primitives_read names 0 ms)) 0 (primitives_read names 0 ms) (λ j k primitive e at.
        let same : j ≡ k = omega arith in
        let here : slice_get names.prims k ≡ Some primitive.name = ap (λ l. slice_get l k) (sym (prims_again names ms long)) ∙ slice_get-map name_of (primitives_read names 0 ms) k ∙ ap (option_map name_of) at in
        let before : is_among (map name_of (take k (primitives_read names 0 ms))) primitive.name ≡ false = ap (λ l. is_among l primitive.name) (sym (take-map name_of k (primitives_read names 0 ms)) ∙ ap (take k) (prims_again names ms long)) ∙ distinct_before names.prims k primitive.name are.distinct here in
        rw (same, all_at is_name names.prims k primitive.name here are.formed, before) (every_at (λ primitive. (path : List ℕ) → check_port_names path (ports_of primitive.kind) ≡ Ok tt) (primitives_read names 0 ms) k primitive at ports (place_of net k)))

    pub named_again : (allow : List AllowEntry) → AreNames is_colour_name names.colours → AreNames is_name names.prims → list_all is_name names.channels ≡ true → length names.prims ≡ length ms
        → check_names (record { colours = names.colours; primitives = primitives_read names 0 ms; allow = allow }) ≡ Ok tt
    unfolding check_names
    named_again allow colours prims formed long = rw (check_colour_names names.colours colours, check_primitive_names prims formed long) refl

-- ---- colours

abbrev pub AreKnown : List Name → List Name → Type 0
AreKnown colours names = All (λ (n : Name). is_among colours n ≡ true) names

pub known_names : (colours : List Name) (ds : List ℕ) → All (λ d. d < length colours) ds → AreKnown colours (named_by colours ds)
known_names colours ds all = All-map (λ (n : Name). is_among colours n ≡ true) (name_at colours) ds (All-weaker (λ d. d < length colours) (λ d. is_among colours (name_at colours d) ≡ true) (λ d lt. is_known colours d lt) ds all)

all_are_known : (colours : List Name) (path : List ℕ) (names : List Name) → AreKnown colours names → check_all_known colours path names ≡ Ok tt
all_are_known colours path names all = holds _ 0 names (λ j k x e at. rw (every_at (λ (n : Name). is_among colours n ≡ true) names k x at all) refl)

abbrev TableKnown : List Name → Table → Type 0
TableKnown colours t = AllByRecursion (λ (e : Name × Name). (is_among colours e.0 ≡ true) × (is_among colours e.1 ≡ true)) t

table_is_known : (colours : List Name) (path : List ℕ) (t : Table) → TableKnown colours t → check_table colours path t ≡ Ok tt
table_is_known colours path [] all = refl
table_is_known colours path (e ∷ t) all = let first = all.0 in rw (first.0, first.1) (table_is_known colours path t all.1)

module _ (names : Naming) (colours : are_distinct names.colours ≡ true) where
  kind_known : (name : Name) (m : Component) → Fits names m → (path : List ℕ) → check_kind_colours names.colours path (primitive_read names name m).kind ≡ Ok tt
  kind_known name (Source out ds mode) f path =
      let known = known_names names.colours ds f.fits.2 in
      let distinct = distinct-map names.colours colours ds f.fits.2 f.differs in
      holds _ 0 (named_by names.colours ds) (λ j k x e at. let same : j ≡ k = omega arith in
      rw (every_at (λ (n : Name). is_among names.colours n ≡ true) (named_by names.colours ds) k x at known, same, distinct_before (named_by names.colours ds) k x distinct at) refl)
  kind_known name (Sink input mode) f path = refl
  kind_known name (Queue input out capacity initial) f path = all_are_known names.colours _ (named_by names.colours initial) (known_names names.colours initial f.fits.3)
  kind_known name (Function input out table) f path = table_is_known names.colours _ _ (table_names names.colours colours table f.fits.0 f.fits.1)
  kind_known name (Fork input a b ta tb) f path =
      rw (table_is_known names.colours _ _ (table_names names.colours colours ta f.fits.0.0 f.fits.0.1)) (table_is_known names.colours _ _ (table_names names.colours colours tb f.fits.1.0 f.fits.1.1))
  kind_known name (Join a b out pass) f path = refl
  kind_known name (Switch input a b to_a) f path = all_are_known names.colours _ _ (known_names names.colours _ (marked_within (length names.colours) 0 to_a (let l = f.fits in omega arith)))
  kind_known name (Merge a b out) f path = refl

  pub coloured_again : (ms : List Component) → All (Fits names) ms → (t : List (Name × List Name)) → AllByRecursion (λ (e : Name × List Name). AreKnown names.colours e.1) t
      → check_colours (record { colours = names.colours; primitives = primitives_read names 0 ms; allow = map allowing_of t }) ≡ Ok tt
  unfolding check_colours
  coloured_again ms all t known =
      let forms = each_part names (λ primitive. (path : List ℕ) → check_kind_colours names.colours path primitive.kind ≡ Ok tt) (Fits names) kind_known 0 ms all in
      let primitives : each_holds (check_primitive_colours names.colours) (primitives_read names 0 ms) ≡ Ok tt =
      holds (check_primitive_colours names.colours) 0 (primitives_read names 0 ms) (λ j k primitive e at. every_at (λ primitive. (path : List ℕ) → check_kind_colours names.colours path primitive.kind ≡ Ok tt) (primitives_read names 0 ms) k primitive at forms (place_of net j)) in
      rw primitives (entries_known 0 t known)
    where
      entries_known : (i : ℕ) (t : List (Name × List Name)) → AllByRecursion (λ (e : Name × List Name). AreKnown names.colours e.1) t → each_holds_from (check_entry_colours names.colours) i (map allowing_of t) ≡ Ok tt
      entries_known i [] all = refl
      entries_known i (e ∷ t) all = rw (all_are_known names.colours _ e.1 all.0) (entries_known (suc i) t all.1)

-- ---- sizes

module _ (names : Naming) (ms : List Component) (all : All (Fits names) ms) where
  offers_fit : (name : Name) (m : Component) → Fits names m → check_offers (primitive_read names name m).kind ≡ Ok tt
  offers_fit name (Source out ds mode) f =
      let long = length-map ds (name_at names.colours) in
      let low = f.fits.0 in let high = f.fits.1 in
      rw (long, le-leb 1 (length ds) (omega arith), le-leb (length ds) most_source_colours (omega arith)) refl
  offers_fit name _ f = refl

  room_fits : (name : Name) (m : Component) → Fits names m → check_room (primitive_read names name m).kind ≡ Ok tt
  room_fits name (Queue input out capacity initial) f = let low = f.fits.0 in let high = f.fits.1 in rw (le-leb 1 capacity (omega arith), le-leb capacity most_capacity (omega arith)) refl
  room_fits name _ f = refl

  packets_fit : (name : Name) (m : Component) → Fits names m → check_packets (primitive_read names name m).kind ≡ Ok tt
  packets_fit name (Queue input out capacity initial) f =
      let long = length-map initial (name_at names.colours) in
      let few = f.fits.2 in
      rw (long, le-leb 0 (length initial) (omega arith), le-leb (length initial) capacity few) refl
  packets_fit name _ f = refl

  each_sized : (test : NamedKind → Result ⊤ Fault) → ((name : Name) (m : Component) → Fits names m → test (primitive_read names name m).kind ≡ Ok tt) → each_holds (λ i primitive. test primitive.kind) (primitives_read names 0 ms) ≡ Ok tt
  each_sized test one =
      let passes = each_part names (λ primitive. test primitive.kind ≡ Ok tt) (Fits names) one 0 ms all in
      holds (λ i primitive. test primitive.kind) 0 (primitives_read names 0 ms) (λ j k primitive e at. every_at (λ primitive. test primitive.kind ≡ Ok tt) (primitives_read names 0 ms) k primitive at passes)

  pub limited_again : (allow : List AllowEntry) (channels : ℕ) → length (channel_names (primitives_read names 0 ms)) ≡ channels → 0 < channels → channels ≤ most_channels → 0 < length names.colours → length names.colours ≤ most_colours → 0 < length ms → length ms ≤ most_primitives
      → sum_by capacity_of ms ≤ most_capacities → check_sizes (record { colours = names.colours; primitives = primitives_read names 0 ms; allow = allow }) ≡ Ok tt
  unfolding check_sizes
  limited_again allow channels counted some_channels few_channels some_colours few_colours some_prims few_prims capacities =
      let long = length-primitives_read names 0 ms in
      let sum = capacities_again names 0 ms in
      rw (
        counted,
        long,
        sum,
        le-leb 1 (length names.colours) (omega arith),
        le-leb (length names.colours) most_colours few_colours,
        le-leb 1 (length ms) (omega arith),
        le-leb (length ms) most_primitives few_prims,
        le-leb 1 channels (omega arith),
        le-leb channels most_channels few_channels,
        each_sized check_offers offers_fit,
        each_sized check_room room_fits,
        le-leb 0 (sum_by capacity_of ms) (omega arith),
        le-leb (sum_by capacity_of ms) most_capacities capacities,
      ) (each_sized check_packets packets_fit)
