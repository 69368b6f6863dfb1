use Rattle.std.proofs.Common.{◌∙◌, ap, refl}
use Rattle.serde_json.specs.Data.{Members, object}
use Rattle.serde_json.proofs.Views.{view-Object}
use Rattle.xm_model.specs.TextLines.{name_at}
use Rattle.xm_model.specs.Component.{component_of}
use Rattle.xm_model.specs.Naming.{naming_of}
use Rattle.xm_writer.specs.Inner.MemberSteps.{ports_put, rest_put}
use Rattle.xm_writer.proofs.InOrder.{component_in_order}
use Rattle.xm_writer.proofs.primitives.primitive_value.Goals as goal

pub put_name-requires : goal.put_name-requires
put_name-requires c = rw c.as_slice.ensures c.requires.prims

pub returns : goal.returns
returns c =
    let names = naming_of c.args.names.now in
    let m = component_of c.args.prim.now in
    let name = name_at names.prims c.args.p in
    let named = rw (c.new-members.ensures.empty, c.as_slice.ensures) at c.in_ok-put_name.ensures in
    let known = c.in_ok-put_text.ensures ∙ rw (c.kind_name.ensures, named) refl in
    view-Object c.put_rest.new.members
    ∙ ap object (c.in_ok-put_rest.ensures ∙ ap (λ (ms : Members). rest_put names.colours m ms) (c.in_ok-put_ports.ensures ∙ ap (λ (ms : Members). ports_put names.channels m ms) known)) ∙ component_in_order names name m
