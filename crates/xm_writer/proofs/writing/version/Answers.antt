use Rattle.std.proofs.Common.{◌∙◌, sym, refl}
use Rattle.xm_model.specs.Component.{component_of}
use Rattle.xm_json.specs.Lemmas.Lists.{list_any-map}
use Rattle.xm_writer.specs.Writing.{has_packets, is_fair}
use Rattle.xm_writer.proofs.writing.version.Goals as goal

pub returns-then-any_fair : goal.returns-then-any_fair
returns-then-any_fair c =
    let fair = list_any-map is_fair component_of c.args.prims.now ∙ sym c.any_fair.ensures ∙ c.if-any_fair.true in
    rw fair refl

pub returns-then-any_packets : goal.returns-then-any_packets
returns-then-any_packets c =
    let fair = list_any-map is_fair component_of c.args.prims.now ∙ sym c.any_fair.ensures ∙ c.if-any_fair.false in
    let packets = list_any-map has_packets component_of c.args.prims.now ∙ sym c.any_packets.ensures ∙ c.if-any_packets.true in
    rw (fair, packets) refl

pub returns-else-any_packets : goal.returns-else-any_packets
returns-else-any_packets c =
    let fair = list_any-map is_fair component_of c.args.prims.now ∙ sym c.any_fair.ensures ∙ c.if-any_fair.false in
    let packets = list_any-map has_packets component_of c.args.prims.now ∙ sym c.any_packets.ensures ∙ c.if-any_packets.false in
    rw (fair, packets) refl
