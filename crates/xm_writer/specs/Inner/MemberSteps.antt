-- Inner words of the writer, for its private clauses: the members of a document, put in one after another.
use Rattle.std.specs.Prelude.{ℕ, List, Option, Some, None, codes}
use Rattle.serde_json.specs.Data.{Data, Members, number, put, unsigned}
use Rattle.xm_model.specs.Component.{Component, Fork, Function, Join, Merge, Queue, Sink, Source, Switch}
use Rattle.xm_shape.specs.Names.{Name}
use Rattle.xm_netlist.specs.Numbered.{marked_from}
use Rattle.xm_writer.specs.Writing.{initial_data, name_data, names_data, side_data, sink_mode_data, source_mode_data, table_data}

-- the members, with d at k where there is one
abbrev pub put_if : List ℕ → Option Data → Members → Members
put_if k None ms = ms
put_if k (Some d) ms = put k d ms

-- the name of a primitive's kind
abbrev pub kind_name : Component → List ℕ
kind_name (Source out colours mode) = codes "source"
kind_name (Sink input mode) = codes "sink"
kind_name (Queue input out capacity initial) = codes "queue"
kind_name (Function input out table) = codes "function"
kind_name (Fork input a b table_a table_b) = codes "fork"
kind_name (Join a b out pass) = codes "join"
kind_name (Switch input a b to_a) = codes "switch"
kind_name (Merge a b out) = codes "merge"

-- the ports of a queue or a function, of a fork or a switch, and of a join or a merge
abbrev pub in_out_put : List Name → ℕ → ℕ → Members → Members
in_out_put channels input out ms =
    put (codes "out") (name_data channels out) (put (codes "in") (name_data channels input) ms)

abbrev pub in_a_b_put : List Name → ℕ → ℕ → ℕ → Members → Members
in_a_b_put channels input a b ms =
    put (codes "b") (name_data channels b)
    (put (codes "a") (name_data channels a) (put (codes "in") (name_data channels input) ms))

abbrev pub a_b_out_put : List Name → ℕ → ℕ → ℕ → Members → Members
a_b_out_put channels a b out ms =
    put (codes "out") (name_data channels out)
    (put (codes "b") (name_data channels b) (put (codes "a") (name_data channels a) ms))

-- the ports of a primitive
abbrev pub ports_put : List Name → Component → Members → Members
ports_put channels (Source out colours mode) ms = put (codes "out") (name_data channels out) ms
ports_put channels (Sink input mode) ms = put (codes "in") (name_data channels input) ms
ports_put channels (Queue input out capacity initial) ms = in_out_put channels input out ms
ports_put channels (Function input out table) ms = in_out_put channels input out ms
ports_put channels (Fork input a b table_a table_b) ms = in_a_b_put channels input a b ms
ports_put channels (Join a b out pass) ms = a_b_out_put channels a b out ms
ports_put channels (Switch input a b to_a) ms = in_a_b_put channels input a b ms
ports_put channels (Merge a b out) ms = a_b_out_put channels a b out ms

-- what a primitive has besides its name, its kind and its ports
abbrev pub rest_put : List Name → Component → Members → Members
rest_put colours (Source out ds mode) ms =
    put_if (codes "mode") (source_mode_data mode) (put (codes "colours") (names_data colours ds) ms)
rest_put colours (Sink input mode) ms = put_if (codes "mode") (sink_mode_data mode) ms
rest_put colours (Queue input out capacity initial) ms =
    put_if (codes "initial") (initial_data colours initial) (put (codes "capacity") (number (unsigned capacity)) ms)
rest_put colours (Function input out table) ms = put_if (codes "map") (table_data colours table) ms
rest_put colours (Fork input a b table_a table_b) ms =
    put_if (codes "map_b") (table_data colours table_b) (put_if (codes "map_a") (table_data colours table_a) ms)
rest_put colours (Join a b out pass) ms = put (codes "pass") (side_data pass) ms
rest_put colours (Switch input a b to_a) ms = put (codes "to_a") (names_data colours (marked_from 0 to_a)) ms
rest_put colours (Merge a b out) ms = ms
