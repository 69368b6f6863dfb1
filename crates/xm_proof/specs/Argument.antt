-- Proofs in plain lists: the rooms of the code's lists are left out.
use Rattle.std.specs.Prelude.{ℕ, List, Option, map}
use Rattle.xm_flow.specs.ValidLemma.{Lemma, lemma_of}
use Rattle.xm_lits.specs.declared.inference.RuleName.{RuleName}
use Rattle.xm_lits.specs.declared.literal.Lit.{Lit}
use Rattle.xm_proof.specs.declared.proof.Goal.{Goal}
use Rattle.xm_proof.specs.declared.proof.Item.{Item}
use Rattle.xm_proof.specs.declared.proof.Node.{Node}
use Rattle.xm_proof.specs.declared.proof.Node.TheVariants as node
use Rattle.xm_proof.specs.declared.proof.Proof.{Proof}

-- a step of an argument: go on by a rule of a literal, or end by a clash, an offering source, a sum or an earlier goal
pub data Step : Type 0 where
  Split : (name : RuleName) (on : Lit) (via : Option ℕ) (kids : ℕ) → Step
  Clash : (one : Lit) (other : Option Lit) → Step
  Eager : (channel : ℕ) → Step
  Sum : (items : List Item) → Step
  Cite : (place : ℕ) → Step
  Open : Step

abbrev pub step_of : Node → Step
step_of (node.Split name on via kids) = Split name on via kids
step_of (node.Clash one other) = Clash one other
step_of (node.Eager c) = Eager c
step_of (node.Sum items) = Sum items.items
step_of (node.Cite k) = Cite k
step_of node.Open = Open

-- a literal that never holds, and the steps that refute it
pub record Refutation : Type 0 where
  pub lit : Lit
  pub steps : List Step

abbrev pub refutation_of : Goal → Refutation
refutation_of g = record { lit = g.lit; steps = map step_of g.tree.items }

pub record Argument : Type 0 where
  pub lemmas : List Lemma
  pub goals : List Refutation

abbrev pub argument_of : Proof → Argument
argument_of p = record { lemmas = map lemma_of p.lemmas.items; goals = map refutation_of p.goals.items }

-- the literals of the goals
abbrev pub literals : List Refutation → List Lit
literals gs = map (λ (g : Refutation). g.lit) gs
