use Rattle.std.proofs.Common.{List, map, refl, subst, sym}
use Rattle.xm_commands.proofs.Refusing.{refused_cause}
use Rattle.xm_commands.specs.Inner.Proving.{AreCited}
use Rattle.xm_commands.specs.declared.command.Command.TheVariants as command
use Rattle.xm_flow.specs.ValidLemma.{lemma_of}
use Rattle.xm_flow.specs.declared.invariant.Invariant.{Invariant}
use Rattle.xm_commands.proofs.prove.search_rows.Goals as goal

pub write_searched-requires-clause-cited : goal.write_searched-requires-clause-cited
write_searched-requires-clause-cited g c =
    let found = c.in-Ok.ensures in
    subst (λ (ls : List Invariant). AreCited c.args.prepared.now.design (map lemma_of ls)) (sym c.as_slice.ensures)
    (record {
      searched = record {
        granted = c.requires.granted;
        invariants = record { rows = c.args.rows.now; has_flow = c.requires.rows; left = found.ends; basis = found.basis };
      };
      ordered = found.ordered;
    })

pub returns-in-Err : goal.returns-in-Err
returns-in-Err g c =
    let is = c.requires.prepared in
    refused_cause c.args.bytes.now (command.Prove c.args.budget) _ c.elimination_refusal.result
    (c.elimination_refusal.ensures c.args.bytes.now (command.Prove c.args.budget) is.doc c.args.prepared.now.design c.args.rows.now is.read is.design c.requires.granted c.requires.rows c.in-Err.ensures.overflow)
    refl refl
