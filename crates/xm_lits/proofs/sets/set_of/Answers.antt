use Rattle.std.proofs.Common.{ℕ, List, sym, subst, ap, ◌∙◌, All, ◌<◌, ◌≡◌}
use Rattle.std.proofs.lemmas.Result.{IfOk-weaker}
use Rattle.xm_colours.specs.Family.{colours_at}
use Rattle.xm_model.specs.ListView.{ListView}
use Rattle.xm_lits.proofs.Rising.{in_at}
use Rattle.xm_lits.proofs.sets.set_of.Goals as goal

pub returns-clause-below : goal.returns-clause-below
returns-clause-below c =
    IfOk-weaker c.colours_of.result (λ (ds : ListView ℕ). ds.items ≡ colours_at c.colours.result.now c.args.channel) (λ (ds : ListView ℕ). All {X = ℕ} (λ d. d < c.args.design.now.net.colours) ds.items)
    (λ ds told. let same = told ∙ ap (λ (cs : List (List ℕ)). colours_at cs c.args.channel) c.colours.ensures.value in subst (λ (l : List ℕ). All {X = ℕ} (λ d. d < c.args.design.now.net.colours) l) (sym same)
    (λ k d h. c.colours.ensures.below c.args.channel _ (in_at (colours_at c.args.design.now.colours c.args.channel) k d h))) (c.colours_of.ensures)
