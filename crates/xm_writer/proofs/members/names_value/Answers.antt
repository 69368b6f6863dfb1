use Rattle.std.proofs.Common.{◌∙◌, ap, List, map, arith}
use Rattle.std.proofs.lemmas.List.{take_all}
use Rattle.serde_json.specs.Data.{Data, array}
use Rattle.serde_json.specs.View.{items_of}
use Rattle.serde_json.proofs.Views.{view-Array}
use Rattle.xm_model.specs.Naming.{texts_of}
use Rattle.xm_writer.specs.Writing.{name_data}
use Rattle.xm_writer.proofs.members.names_value.Goals as goal

pub returns : goal.returns
returns c =
    let whole = take_all c.loop-number.number-index c.args.numbers.now (omega arith) in
    view-Array c.loop-number.values ∙ ap (λ (ds : List Data). array (items_of ds)) (c.loop-number.invariant ∙ ap (map (name_data (texts_of c.args.names.now))) whole)
