use Rattle.std.proofs.Common.{◌≡◌, ℕ, true, map, take}
use Rattle.std.specs.List.{list_all}
use Rattle.xm_model.specs.ListView.{ListView}
use Rattle.xm_options.specs.Inner.Words.{is_plain}
use Rattle.xm_model.specs.Naming.{texts_of}
use Rattle.xm_options.proofs.read.plain_words.Given as goal

abbrev pub invariant-loop-word : goal.invariant-loop-word
invariant-loop-word l = record {
  plain : list_all (λ (word : ListView ℕ). is_plain word.items) (take l.word-index l.words) ≡ true;
  same : map (λ text. text.now) l.texts.items ≡ texts_of (take l.word-index l.words);
}
