use Rattle.std.proofs.Common.{◌≡◌, ◌≤◌, ◌∙◌, All, ℕ, List, ap, arith, length, map, subst, sym}
use Rattle.std.proofs.lemmas.Result.{IfOk-weaker}
use Rattle.xm_model.specs.Component.{component_of}
use Rattle.xm_model.specs.Net.{IsFirstFault, Network, network_of}
use Rattle.xm_model.specs.Limits.{most_capacity}
use Rattle.xm_model.specs.declared.primitive.Primitive.{Primitive}
use Rattle.xm_shape.specs.Views.{plain_net_of, named_primitive_of}
use Rattle.xm_shape.specs.declared.named_net.NamedNet as code_draft
use Rattle.xm_shape.specs.declared.named_net.NamedPrimitive as code
use Rattle.xm_netlist.specs.Numbered.{net_of}
use Rattle.xm_netlist.specs.Inner.Placed.{numbered_primitive}
use Rattle.xm_netlist.specs.Checks.{capacity_in}
use Rattle.xm_netlist.specs.Inner.Making.{AreSound}
use Rattle.xm_netlist.specs.declared.numbering.Numbers.{Numbers}
use Rattle.xm_netlist.proofs.Drafts.{are_few, net_within, same_net}
use Rattle.xm_netlist.proofs.Limited.{limits}
use Rattle.xm_netlist.proofs.reading.net_of.Goals as goal

pub components-requires-clause-few : goal.components-requires-clause-few
components-requires-clause-few c = are_few (plain_net_of c.args.draft.now) c.args.numbers.now c.requires

pub components-requires-clause-small : goal.components-requires-clause-small
components-requires-clause-small c =
    subst (λ (ps : List code.NamedPrimitive). All (λ primitive. capacity_in primitive ≤ most_capacity) (map named_primitive_of ps)) (sym c.deref.ensures.value) (limits (plain_net_of c.args.draft.now) c.requires.limited).small

pub overflow_cast-channels : goal.overflow_cast-channels
overflow_cast-channels c = omega (arith, c.len-channels.ensures.len, (are_few (plain_net_of c.args.draft.now) c.args.numbers.now c.requires).channels)

pub overflow_cast-colours : goal.overflow_cast-colours
overflow_cast-colours c = omega (arith, c.len-colours.ensures.len, (are_few (plain_net_of c.args.draft.now) c.args.numbers.now c.requires).colours)

-- the net that was made of the primitives that were lent
same : (draft : code_draft.NamedNet) (numbers : Numbers) (prims : List Primitive) (lent : List code.NamedPrimitive) (channels colours : ℕ) → AreSound (plain_net_of draft) numbers
    → map component_of prims ≡ map (numbered_primitive numbers) (map named_primitive_of lent) → lent ≡ draft.primitives.items → channels ≡ length numbers.channels.keys → colours ≡ length numbers.colours.keys
    → network_of prims channels colours ≡ net_of (plain_net_of draft)
same draft numbers prims lent channels colours sound are is many some =
    same_net (plain_net_of draft) numbers prims channels colours sound (are ∙ ap (λ (ps : List code.NamedPrimitive). map (numbered_primitive numbers) (map named_primitive_of ps)) is) many some

pub new-requires : goal.new-requires
new-requires c =
    net_within (plain_net_of c.args.draft.now) c.args.numbers.now _ c.requires
    (same c.args.draft.now c.args.numbers.now _ _ _ _ c.requires c.in_ok-prims.ensures c.deref.ensures.value c.len-channels.ensures.len c.len-colours.ensures.len)

pub returns-clause-net : goal.returns-clause-net
returns-clause-net c =
    let is = same c.args.draft.now c.args.numbers.now c.in_ok-prims.prims.items c.deref.result.now c.len-channels.result c.len-colours.result c.requires c.in_ok-prims.ensures c.deref.ensures.value c.len-channels.ensures.len c.len-colours.ensures.len in
    IfOk-weaker c.new.result (λ (net : Network). net ≡ network_of c.in_ok-prims.prims.items c.len-channels.result c.len-colours.result) (λ (net : Network). net ≡ net_of (plain_net_of c.args.draft.now)) (λ net e. e ∙ is) c.new.ensures.ok

pub returns-clause-wiring : goal.returns-clause-wiring
returns-clause-wiring c fault refused =
    let is = same c.args.draft.now c.args.numbers.now c.in_ok-prims.prims.items c.deref.result.now c.len-channels.result c.len-colours.result c.requires c.in_ok-prims.ensures c.deref.ensures.value c.len-channels.ensures.len c.len-colours.ensures.len in
    subst (λ (net : Network). IsFirstFault net fault) is (c.new.ensures.wiring fault refused)
