use Rattle.std.proofs.Common.{◌≡◌, sym, ◌∙◌, subst}
use Rattle.xm_model.specs.Component.{Component, component_of}
use Rattle.xm_model.specs.Lemmas.Local.{IsPort}
use Rattle.xm_parts.proofs.Grouping.{all_joined, three_of}
use Rattle.xm_parts.proofs.Parting.{port_below}
use Rattle.xm_parts.specs.Kept.{label_at}
use Rattle.xm_parts.specs.Partition.{by, itself}
use Rattle.xm_parts.proofs.islands_of.join_prim.Goals as goal

pub join-requires-clause-in_a : goal.join-requires-clause-in_a
join-requires-clause-in_a c =
    let m = component_of c.prim.result.now in let of = three_of m c.in-Some.field-0 (sym c.channels_of_prim.ensures ∙ c.in-Some.is) in
    port_below c.args.net.now c.channels-channels.ensures.net c.args.i m c.in-Some.field-0.x c.prim.ensures of.is_x

pub join-requires-clause-in_b : goal.join-requires-clause-in_b
join-requires-clause-in_b c =
    let m = component_of c.prim.result.now in let of = three_of m c.in-Some.field-0 (sym c.channels_of_prim.ensures ∙ c.in-Some.is) in
    port_below c.args.net.now c.channels-channels.ensures.net c.args.i m c.in-Some.field-0.y c.prim.ensures of.is_y

pub join-requires-clause-link : goal.join-requires-clause-link
join-requires-clause-link c =
    let m = component_of c.prim.result.now in let of = three_of m c.in-Some.field-0 (sym c.channels_of_prim.ensures ∙ c.in-Some.is) in
    by c.args.i m c.prim.ensures of.no_queue of.is_x of.is_y itself

pub join-requires-in-Some-clause-in_a : goal.join-requires-in-Some-clause-in_a
join-requires-in-Some-clause-in_a c =
    let m = component_of c.prim.result.now in let of = three_of m c.in-Some.field-0 (sym c.channels_of_prim.ensures ∙ c.in-Some.is) in
    port_below c.args.net.now c.channels-channels.ensures.net c.args.i m c.in-Some.field-0.x c.prim.ensures of.is_x

pub join-requires-in-Some-clause-in_b : goal.join-requires-in-Some-clause-in_b
join-requires-in-Some-clause-in_b c =
    let m = component_of c.prim.result.now in let of = three_of m c.in-Some.field-0 (sym c.channels_of_prim.ensures ∙ c.in-Some.is) in
    port_below c.args.net.now c.channels-channels.ensures.net c.args.i m c.in-Some.field-0.z c.prim.ensures of.is_z

pub join-requires-in-Some-clause-link : goal.join-requires-in-Some-clause-link
join-requires-in-Some-clause-link c =
    let m = component_of c.prim.result.now in let of = three_of m c.in-Some.field-0 (sym c.channels_of_prim.ensures ∙ c.in-Some.is) in
    by c.args.i m c.prim.ensures of.no_queue of.is_x of.is_z itself

pub returns-in-Some-clause-joined : goal.returns-in-Some-clause-joined
returns-in-Some-clause-joined c n d e has q at_d at_e =
    let m = component_of c.prim.result.now in let of = three_of m c.in-Some.field-0 (sym c.channels_of_prim.ensures ∙ c.in-Some.is) in
    let net = c.args.net.now in let f = label_at c.join-in-Some.new.labels in
    let same : n ≡ m = cc (has, c.prim.ensures) in
    let in_x = port_below net c.channels-channels.ensures.net c.args.i m c.in-Some.field-0.x c.prim.ensures of.is_x in
    let in_y = port_below net c.channels-channels.ensures.net c.args.i m c.in-Some.field-0.y c.prim.ensures of.is_y in
    let one : label_at c.join.new.labels c.in-Some.field-0.x ≡ label_at c.join.new.labels c.in-Some.field-0.y = c.join.ensures.joined in
    let two : f c.in-Some.field-0.x ≡ f c.in-Some.field-0.z = c.join-in-Some.ensures.joined in
    all_joined m c.in-Some.field-0 f of (c.join-in-Some.ensures.keeps c.in-Some.field-0.x c.in-Some.field-0.y in_x in_y one) two d e
    (subst (λ (x : Component). IsPort x d) same at_d) (subst (λ (x : Component). IsPort x e) same at_e)
