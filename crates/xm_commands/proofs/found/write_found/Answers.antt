use Rattle.std.proofs.Common.{◌≡◌, ℕ, List, map, subst, sym}
use Rattle.xm_commands.proofs.Proving.{cited_own, full_own, spent_own}
use Rattle.xm_commands.specs.Inner.Proving.{AreCited}
use Rattle.xm_design.specs.Designed.{Designed}
use Rattle.xm_flow.specs.ValidLemma.{Lemma, lemma_of}
use Rattle.xm_flow.specs.declared.invariant.Invariant.{Invariant}
use Rattle.xm_proof.specs.Argument.{argument_of}
use Rattle.xm_search.specs.Searched.{IsFound}
use Rattle.xm_search.specs.declared.found.Found.{Found}
use Rattle.xm_commands.proofs.found.write_found.Goals as goal

-- what is found, where it is known to be this
found_as : (it : Designed) (lemmas : List Invariant) (budget : ℕ) (f g : Found) → f ≡ g → IsFound it (map lemma_of lemmas) budget f → IsFound it (map lemma_of lemmas) budget g
found_as it lemmas budget f g same = subst (λ (x : Found). IsFound it (map lemma_of lemmas) budget x) same

pub write_proved-requires-clause-cited : goal.write_proved-requires-clause-cited
write_proved-requires-clause-cited g c =
    let full = found_as c.args.prepared.now.design c.args.lemmas.now c.args.budget _ _ c.in-Proved.is c.requires.found in
    cited_own c.args.prepared.now.design (map lemma_of c.args.lemmas.now) (argument_of c.in-Proved.proof) full.form c.requires.cited

pub write_proved-requires-clause-form : goal.write_proved-requires-clause-form
write_proved-requires-clause-form g c =
    (full_own c.args.prepared.now.design (map lemma_of c.args.lemmas.now) c.args.budget (argument_of c.in-Proved.proof)
    (found_as c.args.prepared.now.design c.args.lemmas.now c.args.budget _ _ c.in-Proved.is c.requires.found)).form

pub returns-in-Proved : goal.returns-in-Proved
returns-in-Proved g c =
    c.write_proved.ensures c.args.budget
    (full_own c.args.prepared.now.design (map lemma_of c.args.lemmas.now) c.args.budget (argument_of c.in-Proved.proof)
    (found_as c.args.prepared.now.design c.args.lemmas.now c.args.budget _ _ c.in-Proved.is c.requires.found))

pub write_open-requires-clause-counts : goal.write_open-requires-clause-counts
write_open-requires-clause-counts g c = (found_as c.args.prepared.now.design c.args.lemmas.now c.args.budget _ _ c.in-Open.is c.requires.found).candidate.met.count

pub returns-in-Open : goal.returns-in-Open
returns-in-Open g c =
    c.write_open.ensures c.args.budget (map lemma_of c.args.lemmas.now) c.requires.cited.searched
    (found_as c.args.prepared.now.design c.args.lemmas.now c.args.budget _ _ c.in-Open.is c.requires.found)

pub write_spent-requires-clause-cited : goal.write_spent-requires-clause-cited
write_spent-requires-clause-cited g c =
    let spent = found_as c.args.prepared.now.design c.args.lemmas.now c.args.budget _ _ c.in-Spent.is c.requires.found in
    cited_own c.args.prepared.now.design (map lemma_of c.args.lemmas.now) (argument_of c.in-Spent.partial) spent.form c.requires.cited

pub returns-in-Spent : goal.returns-in-Spent
returns-in-Spent g c =
    let spent = found_as c.args.prepared.now.design c.args.lemmas.now c.args.budget _ _ c.in-Spent.is c.requires.found in
    c.write_spent.ensures c.args.budget (spent_own c.args.prepared.now.design (map lemma_of c.args.lemmas.now) c.args.budget (argument_of c.in-Spent.partial) _ _ spent)

pub write_spent-requires-clause-form : goal.write_spent-requires-clause-form
write_spent-requires-clause-form g c =
    let spent = found_as c.args.prepared.now.design c.args.lemmas.now c.args.budget _ _ c.in-Spent.is c.requires.found in
    (spent_own c.args.prepared.now.design (map lemma_of c.args.lemmas.now) c.args.budget (argument_of c.in-Spent.partial) _ _ spent).form
