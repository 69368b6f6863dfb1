-- Lemmas: goals and proofs that are written are read again.
use Rattle.std.proofs.Common.{◌≡◌, ◌<◌, ◌^◌, ℕ, List, true, Some, Ok, All, length, map, refl}
use Rattle.std.specs.Prelude.{codes}
use Rattle.xm_colours.specs.Family.{Rises, colours_at}
use Rattle.xm_design.specs.Designed.{Designed}
use Rattle.xm_json.specs.Members.{only}
use Rattle.xm_json.specs.Path.{Path, member_of, place_of}
use Rattle.xm_model.specs.Membership.{IsIn}
use Rattle.xm_model.specs.Naming.{Naming}
use Rattle.xm_proof.specs.Argument.{Argument, Refutation}
use Rattle.xm_proof.specs.Form.{are_trees}
use Rattle.xm_proof_reader.specs.Known.{Known, known_by}
use Rattle.xm_proof_reader.specs.Reading.{goal_at, goals_in, items_member, lemma_at, lemmas_in, literal_member, node_at, object_in, proof, proof_in, steps_in, tree_in}
use Rattle.xm_proof.specs.OfNet.{IsGoalOf, IsPlace, IsStepOf}
use Rattle.xm_proof_writer.specs.Writable.{CanBeWritten, HasNames, IsLemmaOf}
use Rattle.xm_proof_writer.specs.Writing.{goal_data, lemma_data, proof_data, step_data}
use Rattle.xm_proof_writer.proofs.Columns.{are_columns}
use Rattle.xm_proof_writer.proofs.Rows.{lemma_again}
use Rattle.xm_proof_writer.proofs.Steps.{each_again, few_mapped, items_again, literal_again, step_again}

-- what is known of a goal that is written
record IsTree (known : Known) (g : Refutation) : Type 0 where
  goal : IsGoalOf known.net g
  short : IsPlace (length g.steps)
  tree : are_trees 1 g.steps ≡ true

are_written : (known : Known) (gs : List Refutation) → All (IsGoalOf known.net) gs → All (λ (g : Refutation). length g.steps < 2 ^ 32) gs → All (λ (g : Refutation). are_trees 1 g.steps ≡ true) gs → All (IsTree known) gs
are_written known gs goals short trees = λ i g lt. record { goal = goals i g lt; short = short i g lt; tree = trees i g lt }

module _ (known : Known) (names : HasNames known) where
  goal_again : (path : Path) (g : Refutation) → IsTree known g → goal_at known path (goal_data known g) ≡ Ok g
  unfolding goal_at literal_member tree_in steps_in items_member only
  goal_again path g is =
      rw (
        literal_again known names (member_of path (codes "goal")) g.lit is.goal.lit,
        items_again (member_of path (codes "tree")) (map (step_data known) g.steps) (few_mapped (step_data known) g.steps is.short),
        each_again (IsStepOf known.net) (λ i x. node_at known (place_of (member_of path (codes "tree")) i) x) (step_data known) (λ i s p. step_again known names (place_of (member_of path (codes "tree")) i) s p) 0 g.steps is.goal.steps,
        is.tree,
      ) refl

module _ (it : Designed) (naming : Naming) (rise : (c : ℕ) → Rises (colours_at it.colours c)) (below : (c d : ℕ) → IsIn (colours_at it.colours c) d → d < it.net.colours) where
  pub proof_again : (a : Argument) → CanBeWritten (known_by it naming) a → proof_in (known_by it naming) (Some (proof_data (known_by it naming) a)) ≡ Ok a
  unfolding proof_in object_in lemmas_in goals_in items_member only proof_data
  proof_again a is =
      let known = known_by it naming in
      rw (
        items_again (member_of proof (codes "lemmas")) (map (lemma_data known) a.lemmas) (few_mapped (lemma_data known) a.lemmas is.formed.few_lemmas),
        each_again (IsLemmaOf known) (λ i x. lemma_at known (place_of (member_of proof (codes "lemmas")) i) x) (lemma_data known)
            (λ i l p. lemma_again known is.names (place_of (member_of proof (codes "lemmas")) i) l p (are_columns it naming rise below l.row.entries p.columns)) 0 a.lemmas is.lemmas,
        items_again (member_of proof (codes "goals")) (map (goal_data known) a.goals) (few_mapped (goal_data known) a.goals is.formed.few_goals),
        each_again (IsTree known) (λ i x. goal_at known (place_of (member_of proof (codes "goals")) i) x) (goal_data known)
            (λ i g p. goal_again known is.names (place_of (member_of proof (codes "goals")) i) g p) 0 a.goals (are_written known a.goals is.goals is.formed.short is.formed.trees),
      ) refl
