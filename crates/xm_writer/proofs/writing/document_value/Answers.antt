use Rattle.std.proofs.Common.{◌∙◌, ap, map, refl}
use Rattle.serde_json.proofs.Views.{view-Object}
use Rattle.xm_model.specs.Component.{component_of}
use Rattle.xm_netlist.specs.Documented.{doc_of}
use Rattle.xm_writer.proofs.InOrder.{root_chain}
use Rattle.xm_writer.proofs.writing.document_value.Goals as goal

pub all_names_value-requires : goal.all_names_value-requires
all_names_value-requires c = rw c.as_slice.ensures c.requires.colours

pub returns : goal.returns
returns c =
    let first = rw c.new-members.ensures.empty at c.in_ok-put.ensures in
    let colours = rw c.as_slice.ensures at c.in_ok-colours.ensures in
    let allow = rw c.as_slice-2.ensures at c.in_ok-allow.ensures in
    let prims = ap (map component_of) c.as_slice-prims.ensures ∙ c.prims.ensures.prims in
    let version = c.from.ensures ∙ rw c.version.ensures refl in
    view-Object c.put_some-3.new.members
    ∙ root_chain (doc_of c.args.document.now) _ _ _ _ _ _ _ _ _ _ _ _ _ version prims c.in_ok-net.ensures colours allow c.in_ok-tape.ensures c.in_ok-proof.ensures first c.in_ok-put_some.ensures c.in_ok-put_some-2.ensures c.in_ok-put-2.ensures
    c.in_ok-put-3.ensures c.in_ok-put_some-3.ensures
