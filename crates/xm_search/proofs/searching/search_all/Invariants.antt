use Rattle.xm_search.specs.Inner.Ground.{lemmas_of}
use Rattle.xm_search.specs.Inner.Progress.{IsProgress}
use Rattle.xm_search.proofs.searching.search_all.Given as goal

abbrev pub invariant-loop-place : goal.invariant-loop-place
invariant-loop-place l = record { progress : IsProgress l.design (lemmas_of l.ground) l.order l.budget l.place l.progress }
