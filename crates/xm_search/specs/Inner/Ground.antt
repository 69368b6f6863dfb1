-- What the search of one goal shares with that of the others.
use Rattle.std.specs.Prelude.{◌≡◌, ◌<◌, List, length, map}
use Rattle.xm_design.specs.Designed.{Designed}
use Rattle.xm_flow.specs.ValidLemma.{Lemma, lemma_of}
use Rattle.xm_proof.specs.Tests.{queue_columns}
use Rattle.xm_search.specs.Inner.Named.{AreShared}
use Rattle.xm_search.specs.declared.ground.Ground.{Ground}

abbrev pub lemmas_of : Ground → List Lemma
lemmas_of g = map lemma_of g.lemmas.items

-- the pairs and the constraints are those of the design and the lemmas, which are numbered in 32 bits
pub record IsGround (it : Designed) (g : Ground) : Type 0 where
  pub few : length g.pairs.items < 1048576
  pub few_lemmas : length (lemmas_of g) < 4294967296
  pub pairs : g.pairs.items ≡ queue_columns it
  pub shared : AreShared it (lemmas_of g) g.shared
