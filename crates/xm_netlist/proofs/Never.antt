-- Reading a value never finds that it is no JSON.
use Rattle.std.proofs.Common.{◌≡◌, ℕ, suc, Bool, true, false, List, [], ◌∷◌, Option, Some, None, Result, Ok, Err, ap, map, subst, take}
use Rattle.std.specs.Prelude.{⊤, ◌&&◌, codes, cond, length, nat_le, not, option_and_then, sum_by}
use Rattle.serde_json.specs.Data.{Data}
use Rattle.serde_json.specs.Find.{get}
use Rattle.xm_model.specs.Naming.{Naming}
use Rattle.xm_model.specs.Net.{Network}
use Rattle.xm_model.specs.Limits.{most_capacities, most_capacity, most_channels, most_colours, most_primitives, most_source_colours}
use Rattle.xm_model.specs.Steps.{◌>>=◌, check, demand, each, each_from}
use Rattle.xm_model.specs.declared.fault.WiringFault.{WiringFault}
use Rattle.xm_shape.specs.NamedNet.{NamedNet, NamedKind, Port, Table, channel_names, fork, function, join, merge, ports_of, queue, sink, source, switch}
use Rattle.xm_shape.specs.Fault.{Fault, bad_name, limit, not_json, same_name, shape, unknown_colour, unknown_kind}
use Rattle.xm_json.specs.Path.{Path, member_of, place_of}
use Rattle.xm_json.specs.Holding.{each_holds, each_holds_from, refuse}
use Rattle.xm_shape.specs.Names.{Name, is_among, is_colour_name, is_name}
use Rattle.xm_shape.specs.Shape.{kind_of, kind_text_in, named_net_in, net, primitive_at, primitive_of, rest_in, root_in, shaped}
use Rattle.xm_shape.specs.Gives.{Gives}
use Rattle.xm_shape.specs.declared.fault.DocFault.{DocFault}
use Rattle.xm_shape.specs.declared.fault.DocFault.TheVariants as faults
use Rattle.xm_shape.specs.declared.fault.Which.{Which}
use Rattle.xm_shape.specs.declared.fault.Which.TheVariants as which
use Rattle.xm_netlist.specs.Documented.{doc_of}
use Rattle.xm_netlist.specs.Numbered.{naming_in, net_of, check_wiring, wiring_fault_of, wiring_from}
use Rattle.xm_netlist.specs.Reading.{doc_from, document_of, number_net}
use Rattle.xm_netlist.specs.Checks.{check_all_known, capacity_in, check_queue_size, check_colour_name, check_colours, check_entry_colours, check_kind_colours, check_queue_packets, check_known, check_sizes, name_of, check_names, check_offered, check_offers, check_packets, check_primitive_colours, check_primitive_name, check_port_names, check_room, check_size, check_source_size, check_table}
use Rattle.xm_netlist.specs.declared.document.Document.{Document}

-- the step does not find that
abbrev pub Spares : {A : Type 0} → Result A Fault → Type 0
Spares step = step ≡ Err not_json → ⊥

ok : {A : Type 0} (x : A) → Spares (Ok x)
ok x e = cc

bind : {A B : Type 0} (r : Result A Fault) (k : A → Result B Fault) → Spares r → ((x : A) → Spares (k x)) → Spares (r >>= k)
bind (Ok x) k first later = later x
bind {A} (Err f) k first later = λ e. first (let same : f ≡ not_json = cc in let failed : Fault → Result A Fault = λ g. Err g in ap failed same)

demanded : {A : Type 0} (o : Option A) (f : Fault) → (f ≡ not_json → ⊥) → Spares (demand o f)
demanded None f other e = other cc
demanded (Some x) f other e = cc

checked : (b : Bool) (f : Fault) → (f ≡ not_json → ⊥) → Spares (check b f)
checked true f other e = cc
checked false f other e = other cc

all : {A B : Type 0} (f : ℕ → A → Result B Fault) → ((i : ℕ) (x : A) → Spares (f i x)) → (i : ℕ) (xs : List A) → Spares (each_from f i xs)
all f one i [] = ok []
all f one i (x ∷ xs) = bind (f i x) _ (one i x) (λ y. bind (each_from f (suc i) xs) _ (all f one (suc i) xs) (λ ys. ok (y ∷ ys)))

all_hold : {A : Type 0} (f : ℕ → A → Result ⊤ Fault) → ((i : ℕ) (x : A) → Spares (f i x)) → (i : ℕ) (xs : List A) → Spares (each_holds_from f i xs)
all_hold f one i [] = ok tt
all_hold f one i (x ∷ xs) = bind (f i x) _ (one i x) (λ _. all_hold f one (suc i) xs)

-- ---- shapes

reshaped : {A : Type 0} (step : Result A Path) → Spares (shaped step)
reshaped (Ok x) e = cc
reshaped (Err path) e = cc

primitives : (version : ℕ) (path : Path) (d : Data) → Spares (primitive_at version path d)
unfolding primitive_at
primitives version path d =
    bind (shaped (kind_text_in path d)) _ (reshaped (kind_text_in path d)) (λ text.
    bind (demand (kind_of text) (unknown_kind (member_of path (codes "kind")))) _ (demanded (kind_of text) (unknown_kind (member_of path (codes "kind"))) (λ e. cc)) (λ kind.
    reshaped (primitive_of kind version path d)))

drafts : (d : Data) → Spares (named_net_in d)
unfolding named_net_in
drafts d =
    bind (shaped (root_in d)) _ (reshaped (root_in d)) (λ root.
    bind (each (λ i x. primitive_at root.version (place_of net i) x) root.items) _ (all (λ i x. primitive_at root.version (place_of net i) x) (λ i x. primitives root.version (place_of net i) x) 0 root.items) (λ ps.
    bind (shaped (rest_in ps root.allow d)) _ (reshaped (rest_in ps root.allow d)) (λ _. ok (record { colours = root.colours; primitives = ps; allow = root.allow }))))

-- ---- tests

ports : (path : List ℕ) (ps : List Port) → Spares (check_port_names path ps)
ports path [] = ok tt
ports path (port ∷ ps) = bind (check (is_name port.1) (bad_name (member_of path port.0))) _ (checked (is_name port.1) (bad_name (member_of path port.0)) (λ e. cc)) (λ _. ports path ps)

names : (draft : NamedNet) → Spares (check_names draft)
unfolding check_names
names draft =
    bind (each_holds (check_colour_name draft.colours) draft.colours) _
    (all_hold (check_colour_name draft.colours) (λ i name.
    bind (check (is_colour_name name) (bad_name (place_of (codes "colours") i))) _ (checked (is_colour_name name) (bad_name (place_of (codes "colours") i)) (λ e. cc))
    (λ _. checked (not (is_among (take i draft.colours) name)) (same_name (place_of (codes "colours") i)) (λ e. cc))) 0 draft.colours)
    (λ _. all_hold (check_primitive_name draft.primitives) (λ i primitive.
    bind (check (is_name primitive.name) (bad_name (member_of (place_of net i) (codes "name")))) _ (checked (is_name primitive.name) (bad_name (member_of (place_of net i) (codes "name"))) (λ e. cc)) (λ _.
    bind (check (not (is_among (map name_of (take i draft.primitives)) primitive.name)) (same_name (member_of (place_of net i) (codes "name")))) _
    (checked (not (is_among (map name_of (take i draft.primitives)) primitive.name)) (same_name (member_of (place_of net i) (codes "name"))) (λ e. cc)) (λ _. ports (place_of net i) (ports_of primitive.kind)))) 0 draft.primitives)

knows : (colours : List Name) (path : List ℕ) (name : Name) → Spares (check_known colours path name)
knows colours path name = checked (is_among colours name) (unknown_colour path) (λ e. cc)

know_all : (colours : List Name) (path : List ℕ) (ns : List Name) → Spares (check_all_known colours path ns)
know_all colours path ns = all_hold (λ i name. check_known colours (place_of path i) name) (λ i name. knows colours (place_of path i) name) 0 ns

know_table : (colours : List Name) (path : List ℕ) (table : Table) → Spares (check_table colours path table)
know_table colours path [] = ok tt
know_table colours path (image ∷ others) =
    bind (check_known colours path image.0) _ (knows colours path image.0) (λ _.
    bind (check_known colours (member_of path image.0) image.1) _ (knows colours (member_of path image.0) image.1) (λ _. know_table colours path others))

know_kind : (colours : List Name) (path : List ℕ) (kind : NamedKind) → Spares (check_kind_colours colours path kind)
know_kind colours path (source out ds mode) =
    all_hold (check_offered colours (member_of path (codes "colours")) ds) (λ i name.
    bind (check_known colours (place_of (member_of path (codes "colours")) i) name) _ (knows colours (place_of (member_of path (codes "colours")) i) name)
    (λ _. checked (not (is_among (take i ds) name)) (same_name (place_of (member_of path (codes "colours")) i)) (λ e. cc))) 0 ds
know_kind colours path (queue input out capacity initial) = know_all colours (member_of path (codes "initial")) initial
know_kind colours path (function input out table) = know_table colours (member_of path (codes "map")) table
know_kind colours path (fork input a b table_a table_b) =
    bind (check_table colours (member_of path (codes "map_a")) table_a) _ (know_table colours (member_of path (codes "map_a")) table_a) (λ _. know_table colours (member_of path (codes "map_b")) table_b)
know_kind colours path (switch input a b to_a) = know_all colours (member_of path (codes "to_a")) to_a
know_kind colours path _ = ok tt

colours : (draft : NamedNet) → Spares (check_colours draft)
unfolding check_colours
colours draft =
    bind (each_holds (check_primitive_colours draft.colours) draft.primitives) _ (all_hold (check_primitive_colours draft.colours) (λ i primitive. know_kind draft.colours (place_of net i) primitive.kind) 0 draft.primitives)
    (λ _. all_hold (check_entry_colours draft.colours) (λ i entry. know_all draft.colours (member_of (codes "allow") entry.channel) entry.colours) 0 draft.allow)

sizes : (it : Which) (low high count : ℕ) → Spares (check_size it low high count)
sizes it low high count = checked (nat_le low count && nat_le count high) (limit it count) (λ e. cc)

offers : (kind : NamedKind) → Spares (check_offers kind)
offers (source out ds mode) = sizes which.SourceColours 1 most_source_colours (length ds)
offers _ = ok tt

rooms : (kind : NamedKind) → Spares (check_room kind)
rooms (queue input out capacity initial) = sizes which.Capacity 1 most_capacity capacity
rooms _ = ok tt

packets : (kind : NamedKind) → Spares (check_packets kind)
packets (queue input out capacity initial) = sizes which.Initial 0 capacity (length initial)
packets _ = ok tt

limits : (draft : NamedNet) → Spares (check_sizes draft)
unfolding check_sizes
limits draft =
    bind (check_size which.Colours 1 most_colours (length draft.colours)) _ (sizes which.Colours 1 most_colours (length draft.colours)) (λ _.
    bind (check_size which.Primitives 1 most_primitives (length draft.primitives)) _ (sizes which.Primitives 1 most_primitives (length draft.primitives)) (λ _.
    bind (check_size which.Channels 1 most_channels (length (channel_names draft.primitives))) _ (sizes which.Channels 1 most_channels (length (channel_names draft.primitives))) (λ _.
    bind (each_holds check_source_size draft.primitives) _ (all_hold check_source_size (λ i primitive. offers primitive.kind) 0 draft.primitives) (λ _.
    bind (each_holds check_queue_size draft.primitives) _ (all_hold check_queue_size (λ i primitive. rooms primitive.kind) 0 draft.primitives) (λ _.
    bind (check_size which.CapacitySum 0 most_capacities (sum_by capacity_in draft.primitives)) _ (sizes which.CapacitySum 0 most_capacities (sum_by capacity_in draft.primitives)) (λ _.
    all_hold check_queue_packets (λ i primitive. packets primitive.kind) 0 draft.primitives))))))

refused : (naming : Naming) (fault : Option WiringFault) → Spares (refuse (wiring_fault_of naming fault))
refused naming None = ok tt
refused naming (Some fault) = λ e. cc

wires : (network : Network) (naming : Naming) → Spares (check_wiring network naming)
unfolding check_wiring
wires network naming = refused naming (wiring_from network.prims 0 network.channels)

pub never_not_json : (d : Data) → document_of d ≡ Err not_json → ⊥
unfolding document_of number_net
never_not_json d =
    bind (named_net_in d) _ (drafts d) (λ draft.
    bind (check_names draft) _ (names draft) (λ _.
    bind (check_colours draft) _ (colours draft) (λ _.
    bind (check_sizes draft) _ (limits draft) (λ _.
    bind (check_wiring (net_of draft) (naming_in draft)) _ (wires (net_of draft) (naming_in draft)) (λ _. ok (doc_from draft (get (codes "tape") d) (get (codes "proof") d)))))))

pub never : (r : Result Document DocFault) (d : Data) → Gives doc_of r (document_of d) → r ≡ Err faults.NotJson → ⊥
never r d e is = never_not_json d (subst (λ (it : Result Document DocFault). Gives doc_of it (document_of d)) is e)
