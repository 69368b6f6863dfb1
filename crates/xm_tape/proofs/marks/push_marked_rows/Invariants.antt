use Rattle.std.proofs.Common.{◌≡◌, ◌+◌, ◌*◌, length, drop}
use Rattle.xm_model.specs.Steps.{each_from}
use Rattle.xm_tape.specs.Inner.Views.{components_of}
use Rattle.xm_json.specs.Lent.{lent_texts}
use Rattle.xm_tape.specs.Inner.Flat.{IsLonger, added, row_of, rows_at}
use Rattle.xm_json.specs.Lemmas.Walk.{with_front}
use Rattle.xm_tape.proofs.marks.push_marked_rows.Given as goal

abbrev pub invariant-loop-i : goal.invariant-loop-i
invariant-loop-i l = record {
  exact :
      with_front (rows_at (length l.oracles) l.i (added l.initial.choices.items l.choices.items)) (each_from (row_of (components_of l.oracles)) (l.first + l.i) (lent_texts (drop l.i l.texts)))
      ≡ each_from (row_of (components_of l.oracles)) l.first (lent_texts l.texts);
  longer : IsLonger l.initial.choices.items l.choices.items;
  whole : length (added l.initial.choices.items l.choices.items) ≡ l.i * length l.oracles;
}
