-- A document that was written is read again.
use Rattle.std.proofs.Common.{◌≡◌, ℕ, suc, ◌<◌, ◌≤◌, true, List, [], ◌∷◌, length, map, Option, Some, None, Ok, refl, sym, ap, true≢false, ◌∙◌, arith, codes, inl, inr}
use Rattle.std.specs.Prelude.{IfSome}
use Rattle.std.specs.List.{All, AllByRecursion, list_all, list_any}
use Rattle.std.proofs.lemmas.Bool.{cases_Bool, le-leb}
use Rattle.std.proofs.lemmas.List.Elements.{All-append, All-head, All-tail}
use Rattle.serde_json.specs.Data.{Data, array, member, no_members, number, object, unsigned}
use Rattle.serde_json.specs.Find.{get}
use Rattle.serde_json.specs.View.{items_of}
use Rattle.xm_model.specs.TextLines.{name_at}
use Rattle.xm_model.specs.Component.{Component}
use Rattle.xm_model.specs.Lemmas.PrimitiveFits.{prim_fits}
use Rattle.xm_model.specs.Naming.{Naming}
use Rattle.xm_model.specs.Net.{inputs, outputs}
use Rattle.xm_model.specs.Steps.{each, each_from}
use Rattle.xm_shape.specs.NamedNet.{AllowEntry, NamedNet, NamedPrimitive, channel_names}
use Rattle.xm_json.specs.Path.{member_of, place_of}
use Rattle.xm_shape.specs.Names.{Name, is_among}
use Rattle.xm_shape.specs.Shape.{allow_in, are_channels, colours_in, named_net_in, entries_in, rest_in, root_in, net, primitive_at, primitives_in, version_in, whole_member, whole_or_missing}
use Rattle.xm_json.specs.Members.{only}
use Rattle.xm_shape.specs.Versions.{fair_version, first_version, initial_version, newest_version}
use Rattle.xm_netlist.specs.Doc.{Doc}
use Rattle.xm_netlist.specs.Lemmas.FirstFault.{is_wired}
use Rattle.xm_netlist.specs.Numbered.{allow_of, naming_in, net_of}
use Rattle.xm_netlist.specs.Reading.{document_of, number_net}
use Rattle.xm_netlist.specs.Valid.{IsPart, IsValid}
use Rattle.xm_writer.specs.Writing.{data_of, has_packets, is_fair, member_if, object_if, prims_data, version_of}
use Rattle.xm_writer.proofs.AgainAllow.{allowing_of, entries_again, entries_written, entry_table, entry_table-all, entry_within, texts_data}
use Rattle.xm_writer.proofs.AgainLists.{any_at, by_places, every_at}
use Rattle.xm_writer.proofs.AgainMaps.{members_from}
use Rattle.xm_writer.proofs.AgainMarks.{rising_within}
use Rattle.xm_writer.proofs.AgainNames.{is_known}
use Rattle.xm_writer.proofs.AgainNumbers.{Fits, channels_again, components_again, primitives_read, prims_again}
use Rattle.xm_writer.proofs.AgainParts.{Suits, part_again, texts_again}
use Rattle.xm_writer.specs.Lemmas.Values.{list_of-items_of}
use Rattle.xm_writer.proofs.AgainTests.{AreKnown, coloured_again, known_names, limited_again, named_again}

-- ---- the members of the root

parts_read : (version : ℕ) (names : Naming) (i p : ℕ) (ms : List Component) → All (Suits version) ms → each_from (λ i x. primitive_at version (place_of net i) x) i (prims_data names p ms) ≡ Ok (primitives_read names p ms)
parts_read version names i p [] all = refl
parts_read version names i p (m ∷ ms) all =
    rw (part_again version (place_of net i) names (name_at names.prims p) m (All-head (Suits version) m ms all), parts_read version names (suc i) (suc p) ms (All-tail (Suits version) m ms all)) refl

entries_read : (t : List (Name × List Name)) → entries_in (members_from texts_data t) ≡ Ok (map allowing_of t)
entries_read [] = refl
entries_read (e ∷ t) = rw (texts_again (member_of (codes "allow") e.0) e.1, entries_read t) refl

-- the document with these members
abbrev pub root : List (Name × List Name) → List Name → ℕ → List Data → Option Data → Option Data → Data
root t colours version prims tape proof =
    object (member_if (codes "allow") (object_if (members_from texts_data t)) (member (codes "colours") (texts_data colours) (member (codes "net") (array (items_of prims))
    (member_if (codes "proof") proof (member_if (codes "tape") tape (member (codes "version") (number (unsigned version)) no_members))))))

-- its tape and its proof
get_both : (t : List (Name × List Name)) (colours : List Name) (version : ℕ) (prims : List Data) (tape proof : Option Data)
    → (get (codes "tape") (root t colours version prims tape proof) ≡ tape) × (get (codes "proof") (root t colours version prims tape proof) ≡ proof)
get_both [] colours version prims None None = (refl, refl)
get_both [] colours version prims None (Some p) = (refl, refl)
get_both [] colours version prims (Some d) None = (refl, refl)
get_both [] colours version prims (Some d) (Some p) = (refl, refl)
get_both (e ∷ t) colours version prims None None = (refl, refl)
get_both (e ∷ t) colours version prims None (Some p) = (refl, refl)
get_both (e ∷ t) colours version prims (Some d) None = (refl, refl)
get_both (e ∷ t) colours version prims (Some d) (Some p) = (refl, refl)

draft_read : (t : List (Name × List Name)) (colours : List Name) (version : ℕ) (prims : List Data) (tape proof : Option Data) (primitives : List NamedPrimitive) → first_version ≤ version → version ≤ newest_version → each (λ i x. primitive_at version (place_of net i) x) prims ≡ Ok primitives
    → are_channels primitives (map allowing_of t) ≡ true → whole_or_missing tape ≡ true → whole_or_missing proof ≡ true → named_net_in (root t colours version prims tape proof) ≡ Ok (record { colours = colours; primitives = primitives; allow = map allowing_of t })
unfolding named_net_in root_in rest_in version_in colours_in primitives_in allow_in only whole_member
draft_read [] colours version prims None None primitives low high read channels whole_tape whole_proof = rw (le-leb first_version version low, le-leb version newest_version high, texts_again (codes "colours") colours, list_of-items_of prims, read) refl
draft_read [] colours version prims None (Some p) primitives low high read channels whole_tape whole_proof = rw (le-leb first_version version low, le-leb version newest_version high, texts_again (codes "colours") colours, list_of-items_of prims, read, whole_proof) refl
draft_read [] colours version prims (Some d) None primitives low high read channels whole_tape whole_proof = rw (le-leb first_version version low, le-leb version newest_version high, texts_again (codes "colours") colours, list_of-items_of prims, read, whole_tape) refl
draft_read [] colours version prims (Some d) (Some p) primitives low high read channels whole_tape whole_proof = rw (le-leb first_version version low, le-leb version newest_version high, texts_again (codes "colours") colours, list_of-items_of prims, read, whole_tape, whole_proof) refl
draft_read (e ∷ t) colours version prims None None primitives low high read channels whole_tape whole_proof = rw (le-leb first_version version low, le-leb version newest_version high, texts_again (codes "colours") colours, list_of-items_of prims, texts_again (member_of (codes "allow") e.0) e.1, entries_read t, read, channels) refl
draft_read (e ∷ t) colours version prims None (Some p) primitives low high read channels whole_tape whole_proof = rw (le-leb first_version version low, le-leb version newest_version high, texts_again (codes "colours") colours, list_of-items_of prims, texts_again (member_of (codes "allow") e.0) e.1, entries_read t, read, channels, whole_proof) refl
draft_read (e ∷ t) colours version prims (Some d) None primitives low high read channels whole_tape whole_proof = rw (le-leb first_version version low, le-leb version newest_version high, texts_again (codes "colours") colours, list_of-items_of prims, texts_again (member_of (codes "allow") e.0) e.1, entries_read t, read, channels, whole_tape) refl
draft_read (e ∷ t) colours version prims (Some d) (Some p) primitives low high read channels whole_tape whole_proof = rw (le-leb first_version version low, le-leb version newest_version high, texts_again (codes "colours") colours, list_of-items_of prims, texts_again (member_of (codes "allow") e.0) e.1, entries_read t, read, channels, whole_tape, whole_proof) refl

-- ---- what the document has

version_suits : (ms : List Component) → (first_version ≤ version_of ms) × (version_of ms ≤ newest_version) × All (Suits (version_of ms)) ms
version_suits ms =
    elim (cases_Bool (list_any is_fair ms)) [
      | inl fair ↦ rw fair (omega arith, omega arith, by_places (Suits fair_version) ms (λ k m at. record { fair = λ _. omega arith; packets = λ _. omega arith }))
      | inr none ↦ elim (cases_Bool (list_any has_packets ms)) [
        | inl packets ↦ rw (none, packets) (omega arith, omega arith, by_places (Suits initial_version) ms (λ k m at. record { fair = λ is. absurd (true≢false (sym (any_at is_fair ms k m at is) ∙ none)); packets = λ _. omega arith }))
        | inr no_packets ↦ rw (none, no_packets) (omega arith, omega arith, by_places (Suits first_version) ms (λ k m at. record { fair = λ is. absurd (true≢false (sym (any_at is_fair ms k m at is) ∙ none)); packets = λ is. absurd (true≢false (sym (any_at has_packets ms k m at is) ∙ no_packets)) }))
      ]
    ]

whole_part : (o : Option Data) → IfSome o IsPart → whole_or_missing o ≡ true
whole_part None h = refl
whole_part (Some d) h = h.whole

are_known : (channels : List Name) (t : List (Name × List Name)) → AllByRecursion (λ (e : Name × List Name). is_among channels e.0 ≡ true) t → list_all (λ (e : AllowEntry). is_among channels e.channel) (map allowing_of t) ≡ true
are_known channels [] all = refl
are_known channels (e ∷ t) all = rw (all.0) (are_known channels t all.1)

-- the draft that is written
abbrev pub net_read : Doc → NamedNet
net_read doc = record { colours = doc.names.colours; primitives = primitives_read doc.names 0 doc.net.prims; allow = map allowing_of (entry_table doc.names doc.allow []) }

module _ (doc : Doc) (valid : IsValid doc) where
  all_fit : All (Fits doc.names) doc.net.prims
  all_fit =
      by_places (Fits doc.names) doc.net.prims (λ p m at. record {
        ports = rw (valid.named.channels) (All-append (λ c. c < doc.net.channels) (inputs m) (outputs m) (every_at (λ m. All (λ c. c < doc.net.channels) (inputs m)) doc.net.prims p m at valid.net.limits.inputs) (every_at (λ m. All (λ c. c < doc.net.channels) (outputs m)) doc.net.prims p m at valid.net.limits.outputs));
        fits = rw (valid.named.colours) (prim_fits doc.net valid.net p m at);
        differs = valid.sources p m at;
      })

  channels_are : channel_names (primitives_read doc.names 0 doc.net.prims) ≡ doc.names.channels
  channels_are = channels_again doc.names doc.net.prims valid.channels.distinct all_fit (rw (valid.named.channels) valid.numbered)

  colours_known : AllByRecursion (λ (e : Name × List Name). AreKnown doc.names.colours e.1) (entry_table doc.names doc.allow [])
  colours_known =
      entry_table-all doc.names (λ (e : Name × List Name). AreKnown doc.names.colours e.1) doc.allow [] (λ k e at.
      let w = entry_within doc.net 0 doc.allow k e valid.allow at in known_names doc.names.colours e.colours (rw (valid.named.colours) (rising_within 0 doc.net.colours e.colours w.2))) tt

  channels_known : AllByRecursion (λ (e : Name × List Name). is_among doc.names.channels e.0 ≡ true) (entry_table doc.names doc.allow [])
  channels_known =
      entry_table-all doc.names (λ (e : Name × List Name). is_among doc.names.channels e.0 ≡ true) doc.allow [] (λ k e at.
      let w = entry_within doc.net 0 doc.allow k e valid.allow at in is_known doc.names.channels e.channel (let n = valid.named.channels in let lt = w.1 in omega arith)) tt

  same_net : net_of (net_read doc) ≡ doc.net
  unfolding net_of
  same_net = rw (channels_are, components_again doc.names valid.channels.distinct valid.colours.distinct 0 doc.net.prims all_fit, valid.named.channels, valid.named.colours) refl

  same_names : naming_in (net_read doc) ≡ doc.names
  unfolding naming_in
  same_names = rw (prims_again doc.names doc.net.prims valid.named.prims, channels_are) refl

  same_allow : allow_of (net_read doc) ≡ doc.allow
  unfolding allow_of
  same_allow = rw channels_are (entries_again doc.net doc.names doc.allow valid.channels.distinct valid.colours.distinct valid.named.channels valid.named.colours valid.allow)

  abbrev pub table : List (Name × List Name)
  table = entry_table doc.names doc.allow []

  pub data_is : data_of doc ≡ root table doc.names.colours (version_of doc.net.prims) (prims_data doc.names 0 doc.net.prims) doc.tape doc.proof
  unfolding data_of
  data_is = rw (entries_written doc.names doc.allow) refl

  draft_again : named_net_in (data_of doc) ≡ Ok (net_read doc)
  draft_again =
      let v = version_suits doc.net.prims in
      let known : are_channels (primitives_read doc.names 0 doc.net.prims) (map allowing_of table) ≡ true = rw channels_are (are_known doc.names.channels table channels_known) in
      ap named_net_in data_is
      ∙ draft_read table doc.names.colours (version_of doc.net.prims) (prims_data doc.names 0 doc.net.prims) doc.tape doc.proof (primitives_read doc.names 0 doc.net.prims) v.0 v.1 (parts_read (version_of doc.net.prims) doc.names 0 0 doc.net.prims v.2) known
      (whole_part doc.tape valid.tape) (whole_part doc.proof valid.proof)

  numbered_again : number_net (net_read doc) doc.tape doc.proof ≡ Ok doc
  unfolding number_net
  numbered_again =
      let limits = valid.net.limits in
      let channels : length doc.names.channels ≡ doc.net.channels = valid.named.channels in
      let colours : length doc.names.colours ≡ doc.net.colours = valid.named.colours in
      let some_colours = limits.some_colours in
      let few_colours = limits.colours in
      rw (
        named_again doc.names doc.net.prims all_fit (map allowing_of table) valid.colours valid.prims valid.channels.formed valid.named.prims,
        coloured_again doc.names valid.colours.distinct doc.net.prims all_fit table colours_known,
        limited_again doc.names doc.net.prims all_fit (map allowing_of table) doc.net.channels (ap length channels_are ∙ channels) limits.some_channels limits.channels (omega arith) (omega arith) limits.some_prims limits.prims limits.capacities,
        same_net,
        same_names,
        same_allow,
        is_wired doc.net doc.names valid.net.wired,
      ) refl

  pub document_again : document_of (data_of doc) ≡ Ok doc
  unfolding document_of
  document_again =
      let both = get_both table doc.names.colours (version_of doc.net.prims) (prims_data doc.names 0 doc.net.prims) doc.tape doc.proof in
      let tape : get (codes "tape") (data_of doc) ≡ doc.tape = ap (get (codes "tape")) data_is ∙ both.0 in
      let proof : get (codes "proof") (data_of doc) ≡ doc.proof = ap (get (codes "proof")) data_is ∙ both.1 in
      rw (draft_again, tape, proof) numbered_again
