use Rattle.std.proofs.Common.{ℕ, ◌∙◌, ◌++◌, ap, sym}
use Rattle.xm_model.specs.ListView.{ListView}
use Rattle.xm_rows.specs.Lemmas.Noting.{noted_list, noted_none_list}
use Rattle.xm_rows.proofs.columns.note.Goals as goal

pub returns-then-entry-columns : goal.returns-then-entry-columns
returns-then-entry-columns c = noted_none_list c.args.places.now c.args.entry c.args.columns.now c.if-entry-columns.true

pub returns : goal.returns
returns c =
    noted_list c.args.places.now c.args.entry c.args.columns.now c.index-columns-entry.result c.append.new.list c.if-entry-columns.false c.index-columns-entry.is
    (c.in_ok-append.ensures ∙ ap (λ (l : ListView ℕ). l.items ++ c.args.places.now) (sym c.index-columns-entry.is))
