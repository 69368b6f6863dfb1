use Rattle.std.proofs.Common.{◌≡◌, ◌*◌, ◌≤◌, length}
use Rattle.xm_colours.specs.Family.{colours_at}
use Rattle.xm_colours.specs.Pairs.{pairs}
use Rattle.xm_colours.specs.Inner.Words.{sets_of}
use Rattle.xm_colours.proofs.colours.Colours.pairs.Given as goal

abbrev pub invariant-loop-word : goal.invariant-loop-word
invariant-loop-word l = record {
  number : l.count ≡ length (pairs (colours_at (sets_of l.word-items)) l.word-index);
  few : l.count ≤ 64 * l.word-index;
}
