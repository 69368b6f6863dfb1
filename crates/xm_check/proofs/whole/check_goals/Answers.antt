use Rattle.std.proofs.Common.{◌<◌, ◌^◌, All, length, subst, sym}
use Rattle.xm_check.proofs.Pairing.{short_trees}
use Rattle.xm_proof.specs.declared.proof.Goal.{Goal}
use Rattle.xm_check.proofs.whole.check_goals.Goals as goal

pub check_trees-requires-clause-few : goal.check_trees-requires-clause-few
check_trees-requires-clause-few c =
    let s = c.as_slice-goals.ensures in
    let f = c.requires.formed.short in
    subst (All (λ (g : Goal). length g.tree.items < 2 ^ 32)) (sym c.as_slice-goals.ensures) (short_trees c.args.proof.now.goals.items c.requires.formed.short)
