use Rattle.std.proofs.Common.{◌≡◌, map, take}
use Rattle.xm_flow.specs.ValidLemma.{lemma_of}
use Rattle.xm_search.proofs.ground.copy_lemmas.Given as goal

abbrev pub invariant-loop-i : goal.invariant-loop-i
invariant-loop-i l = map lemma_of l.list.items ≡ map lemma_of (take l.i l.lemmas)
