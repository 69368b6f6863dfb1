use Rattle.std.proofs.Common.{◌≡◌, length, drop}
use Rattle.xm_tape.specs.Inner.Views.{components_of}
use Rattle.xm_tape.specs.Inner.Flat.{IsLonger, added}
use Rattle.xm_tape.specs.Marks.{marks_from}
use Rattle.xm_json.specs.Lemmas.Walk.{with_front}
use Rattle.xm_tape.proofs.marks.push_marks.Given as goal

abbrev pub invariant-loop-o : goal.invariant-loop-o
invariant-loop-o l = record {
  exact : with_front (added l.initial.choices.items l.choices.items) (marks_from l.row l.o (components_of (drop l.o l.oracles)) (drop l.o l.marks)) ≡ marks_from l.row 0 (components_of l.oracles) l.marks;
  longer : IsLonger l.initial.choices.items l.choices.items;
  whole : length (added l.initial.choices.items l.choices.items) ≡ l.o;
}
