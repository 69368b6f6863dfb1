-- What a draft without a fault makes.
use Rattle.std.proofs.Common.{◌≡◌, ℕ, List, length, map, string_bytes, Result, Ok, Err, Option, refl, sym, ap, subst, ◌∙◌, arith}
use Rattle.std.specs.Prelude.{⊤}
use Rattle.std.proofs.lemmas.List.{length-map}
use Rattle.serde_json.specs.Data.{Data}
use Rattle.xm_model.specs.Component.{component_of}
use Rattle.xm_model.specs.Naming.{allowed_of, naming_of}
use Rattle.xm_model.specs.Net.{IsWithinLimits, Network, network_of}
use Rattle.xm_model.specs.Steps.{◌>>=◌}
use Rattle.xm_model.specs.declared.primitive.Primitive.{Primitive}
use Rattle.xm_shape.specs.NamedNet.{NamedNet, channel_names}
use Rattle.xm_shape.specs.Fault.{Fault}
use Rattle.xm_shape.specs.Names.{Name}
use Rattle.xm_netlist.specs.Doc.{Doc}
use Rattle.xm_netlist.specs.Inner.Making.{AreSound, IsMade, all_tests, last_test}
use Rattle.xm_netlist.specs.Numbered.{allow_of, naming_in, net_of, primitive_numbered}
use Rattle.xm_netlist.specs.Inner.Placed.{AreFew, NumbersOf, numbered_allow, naming_from, numbered_primitive}
use Rattle.xm_netlist.specs.Reading.{doc_from, number_net}
use Rattle.xm_netlist.specs.Checks.{check_colours, check_sizes, check_names}
use Rattle.xm_netlist.specs.declared.numbering.Numbers.{Numbers}
use Rattle.xm_netlist.specs.declared.reading.Made.{Made}
use Rattle.xm_netlist.proofs.Limited.{limits, within_limits}

module _ (draft : NamedNet) (numbers : Numbers) where
  channel_count : NumbersOf draft numbers → length numbers.channels.keys ≡ length (channel_names draft.primitives)
  channel_count placed = sym (length-map numbers.channels.keys string_bytes) ∙ ap length placed.channels

  colour_count : NumbersOf draft numbers → length numbers.colours.keys ≡ length draft.colours
  colour_count placed = sym (length-map numbers.colours.keys string_bytes) ∙ ap length placed.colours

  pub are_few : AreSound draft numbers → AreFew numbers
  are_few sound =
      let it = limits draft sound.limited in
      record { channels = omega (arith, channel_count sound.placed, it.channels.1); colours = omega (arith, colour_count sound.placed, it.colours.1) }

  pub same_net : (prims : List Primitive) (channels colours : ℕ) → AreSound draft numbers → map component_of prims ≡ map (numbered_primitive numbers) draft.primitives → channels ≡ length numbers.channels.keys → colours ≡ length numbers.colours.keys
      → network_of prims channels colours ≡ net_of draft
  unfolding net_of
  same_net prims channels colours sound are many some =
      let prims_are : map component_of prims ≡ map (primitive_numbered (channel_names draft.primitives) draft.colours) draft.primitives =
      are ∙ ap (λ (names : List Name). map (primitive_numbered names (map string_bytes numbers.colours.keys)) draft.primitives) sound.placed.channels
      ∙ ap (λ (names : List Name). map (primitive_numbered (channel_names draft.primitives) names) draft.primitives) sound.placed.colours in
      rw (prims_are, many ∙ channel_count sound.placed, some ∙ colour_count sound.placed) refl

  pub same_names : NumbersOf draft numbers → naming_from numbers ≡ naming_in draft
  unfolding naming_in
  same_names placed = rw (placed.prims, placed.channels, placed.colours) refl

  pub same_allow : NumbersOf draft numbers → numbered_allow numbers draft.allow ≡ allow_of draft
  unfolding allow_of
  same_allow placed = rw (placed.channels, placed.colours) refl

pub net_within : (draft : NamedNet) (numbers : Numbers) (net : Network) → AreSound draft numbers → net ≡ net_of draft → IsWithinLimits net
net_within draft numbers net sound same = subst IsWithinLimits (sym same) (within_limits draft sound.limited sound.coloured)

regroup : (a b c d : Result ⊤ Fault) (doc : Doc) → (a >>= λ _. b >>= λ _. c >>= λ _. d >>= λ _. Ok doc) ≡ ((a >>= λ _. b >>= λ _. c) >>= λ _. d) >>= λ _. Ok doc
regroup (Ok x) (Ok y) (Ok z) d doc = refl
regroup (Ok x) (Ok y) (Err f) d doc = refl
regroup (Ok x) (Err f) c d doc = refl
regroup (Err f) b c d doc = refl

pub numbered_by_tests : (draft : NamedNet) (tape proof : Option Data) → number_net draft tape proof ≡ all_tests draft >>= λ _. Ok (doc_from draft tape proof)
unfolding number_net
numbered_by_tests draft tape proof = regroup (check_names draft) (check_colours draft) (check_sizes draft) (last_test draft) (doc_from draft tape proof)

pub numbered_made : (draft : NamedNet) (it : Made) (tape proof : Option Data) → all_tests draft ≡ Ok tt → IsMade draft it
    → number_net draft tape proof ≡ Ok (record { net = it.net; names = naming_of it.names; allow = map allowed_of it.allow.items; tape = tape; proof = proof })
numbered_made draft it tape proof passed is = numbered_by_tests draft tape proof ∙ rw (passed, is.net, is.names, is.allow) refl
