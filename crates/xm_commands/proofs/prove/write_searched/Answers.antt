use Rattle.std.proofs.Common.{map, refl}
use Rattle.xm_commands.proofs.Proving.{few_lemmas}
use Rattle.xm_commands.proofs.Refusing.{refused_cause}
use Rattle.xm_commands.specs.declared.command.Command.TheVariants as command
use Rattle.xm_flow.specs.Holding.{pair_count, queue_pair_count}
use Rattle.xm_flow.specs.ValidLemma.{lemma_of}
use Rattle.std.proofs.Common.{◌≤◌, ℕ, subst}
use Rattle.std.proofs.lemmas.List.{length-map}
use Rattle.xm_commands.proofs.prove.write_searched.Goals as goal

pub search-requires-clause-granted : goal.search-requires-clause-granted
search-requires-clause-granted g c = c.requires.cited.searched.granted

pub search-requires-clause-narrow : goal.search-requires-clause-narrow
search-requires-clause-narrow g c = c.requires.cited.searched.invariants.has_flow.narrow

pub search-requires-clause-few : goal.search-requires-clause-few
search-requires-clause-few g c =
    let it = c.args.prepared.now.design in
    let P : ℕ → Type 0 = λ n. n ≤ queue_pair_count it in
    subst P (length-map c.args.lemmas.now lemma_of)
    (few_lemmas (pair_count it) (queue_pair_count it) c.requires.cited.searched.invariants.rows.rows (map lemma_of c.args.lemmas.now) c.requires.cited.searched.invariants.basis)

pub search-requires-clause-within : goal.search-requires-clause-within
search-requires-clause-within g c = λ k d below. (c.requires.cited.searched.invariants.basis.valid k d below).within

pub returns-in-Err : goal.returns-in-Err
returns-in-Err g c =
    refused_cause c.args.bytes.now (command.Prove c.args.budget) _ c.search_refusal.result
    (c.search_refusal.ensures c.args.bytes.now c.args.budget c.requires.prepared.doc c.args.prepared.now.design (map lemma_of c.args.lemmas.now) c.requires.prepared.read c.requires.prepared.design
    c.requires.cited.searched c.in-Err.ensures.fault) refl refl

pub search-requires-clause-low : goal.search-requires-clause-low
search-requires-clause-low g c = c.requires.plain.0

pub search-requires-clause-high : goal.search-requires-clause-high
search-requires-clause-high g c = c.requires.plain.1
