use Rattle.std.proofs.Common.{ℕ, ap, ◌∙◌}
use Rattle.std.proofs.Math.ListN.{set}
use Rattle.std.proofs.lemmas.List.{map-set}
use Rattle.xm_model.specs.ListView.{ListView}
use Rattle.xm_rows.specs.Columns.{columns_of}
use Rattle.xm_lp.proofs.places.take.Goals as goal

pub returns-clause-rest : goal.returns-clause-rest
returns-clause-rest c =
    let items = λ (l : ListView ℕ). l.items in
    map-set items c.args.places.now c.args.column c.replace.new.dest
    ∙ ap (set (columns_of c.args.places.now) c.args.column) (ap items c.replace.ensures.after ∙ c.new.ensures.items)
