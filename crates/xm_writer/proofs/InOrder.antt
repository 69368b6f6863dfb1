-- What is put in, member by member, stands in byte order.
use Rattle.std.proofs.Common.{◌≡◌, List, [], ◌∷◌, map, Option, Some, None, refl, ap, codes}
use Rattle.serde_json.specs.Data.{Data, Members, array, member, no_members, number, object, put, string, unsigned}
use Rattle.serde_json.specs.View.{items_of}
use Rattle.xm_model.specs.Component.{Component, Fork, Function, Join, Merge, Queue, Sink, Source, Switch}
use Rattle.xm_model.specs.Naming.{Naming}
use Rattle.xm_model.specs.declared.primitive.SinkMode.TheVariants as sink_mode
use Rattle.xm_model.specs.declared.primitive.SourceMode.TheVariants as source_mode
use Rattle.xm_shape.specs.Names.{Name}
use Rattle.xm_netlist.specs.Doc.{Doc}
use Rattle.xm_writer.specs.Inner.MemberSteps.{kind_name, ports_put, put_if, rest_put}
use Rattle.xm_writer.specs.Writing.{allow_data, component_data, data_of, member_if, name_data, prims_data, table_data, version_of}

function_in_order : (input out name : Data) (table : Option Data)
    → put_if (codes "map") table (put (codes "out") out (put (codes "in") input (put (codes "kind") (string (codes "function")) (put (codes "name") name no_members))))
    ≡ member (codes "in") input (member (codes "kind") (string (codes "function")) (member_if (codes "map") table (member (codes "name") name (member (codes "out") out no_members))))
function_in_order input out name None = refl
function_in_order input out name (Some d) = refl

fork_in_order : (input a b name : Data) (table_a table_b : Option Data)
    → put_if (codes "map_b") table_b (put_if (codes "map_a") table_a (put (codes "b") b (put (codes "a") a (put (codes "in") input (put (codes "kind") (string (codes "fork")) (put (codes "name") name no_members))))))
    ≡ member (codes "a") a (member (codes "b") b (member (codes "in") input (member (codes "kind") (string (codes "fork")) (member_if (codes "map_a") table_a (member_if (codes "map_b") table_b (member (codes "name") name no_members))))))
fork_in_order input a b name None None = refl
fork_in_order input a b name None (Some e) = refl
fork_in_order input a b name (Some d) None = refl
fork_in_order input a b name (Some d) (Some e) = refl

pub component_in_order : (names : Naming) (name : Name) (m : Component) → object (rest_put names.colours m (ports_put names.channels m (put (codes "kind") (string (kind_name m)) (put (codes "name") (string name) no_members)))) ≡ component_data names name m
component_in_order names name (Source out colours source_mode.Keep) = refl
component_in_order names name (Source out colours source_mode.Eager) = refl
component_in_order names name (Source out colours source_mode.Free) = refl
component_in_order names name (Source out colours source_mode.Fair) = refl
component_in_order names name (Sink input sink_mode.Keep) = refl
component_in_order names name (Sink input sink_mode.Free) = refl
component_in_order names name (Queue input out capacity []) = refl
component_in_order names name (Queue input out capacity (d ∷ ds)) = refl
component_in_order names name (Function input out table) = ap object (function_in_order (name_data names.channels input) (name_data names.channels out) (string name) (table_data names.colours table))
component_in_order names name (Fork input a b table_a table_b) =
    ap object (fork_in_order (name_data names.channels input) (name_data names.channels a) (name_data names.channels b) (string name) (table_data names.colours table_a) (table_data names.colours table_b))
component_in_order names name (Join a b out pass) = refl
component_in_order names name (Switch input a b to_a) = refl
component_in_order names name (Merge a b out) = refl

root_in_order : (allow : Option Data) (colours net : Data) (proof tape : Option Data) (version : Data)
    → put_if (codes "allow") allow (put (codes "colours") colours (put (codes "net") net (put_if (codes "proof") proof (put_if (codes "tape") tape (put (codes "version") version no_members)))))
    ≡ member_if (codes "allow") allow (member (codes "colours") colours (member (codes "net") net (member_if (codes "proof") proof (member_if (codes "tape") tape (member (codes "version") version no_members)))))
root_in_order None colours net None None version = refl
root_in_order None colours net None (Some t) version = refl
root_in_order None colours net (Some p) None version = refl
root_in_order None colours net (Some p) (Some t) version = refl
root_in_order (Some a) colours net None None version = refl
root_in_order (Some a) colours net None (Some t) version = refl
root_in_order (Some a) colours net (Some p) None version = refl
root_in_order (Some a) colours net (Some p) (Some t) version = refl

pub root_chain : (doc : Doc) (m1 m2 m3 m4 m5 m6 : Members) (version net colours : Data) (allow tape proof : Option Data) (prims : List Component) → version ≡ number (unsigned (version_of prims)) → prims ≡ doc.net.prims
    → net ≡ array (items_of (prims_data doc.names 0 prims)) → colours ≡ array (items_of (map string doc.names.colours)) → allow ≡ allow_data doc.names doc.allow → tape ≡ doc.tape → proof ≡ doc.proof
    → m1 ≡ put (codes "version") version no_members → m2 ≡ put_if (codes "tape") tape m1 → m3 ≡ put_if (codes "proof") proof m2 → m4 ≡ put (codes "net") net m3 → m5 ≡ put (codes "colours") colours m4 → m6 ≡ put_if (codes "allow") allow m5
    → object m6 ≡ data_of doc
unfolding data_of
root_chain doc m1 m2 m3 m4 m5 m6 version net colours allow tape proof prims v same n c a t p e1 e2 e3 e4 e5 e6 =
    rw (e6, e5, e4, e3, e2, e1, v, n, c, a, t, p, same)
    (ap object (root_in_order (allow_data doc.names doc.allow) (array (items_of (map string doc.names.colours))) (array (items_of (prims_data doc.names 0 doc.net.prims))) doc.proof doc.tape (number (unsigned (version_of doc.net.prims)))))
