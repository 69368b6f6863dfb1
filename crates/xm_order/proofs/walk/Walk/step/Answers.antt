use Rattle.std.proofs.Common.{◌≡◌, Some, sym, ◌∙◌, ap, subst}
use Rattle.std.specs.Prelude.{List}
use Rattle.xm_model.specs.ListView.{ListView}
use Rattle.xm_order.proofs.Walking.{Stepped, enter_step, finish_step, in_progress, is_path, last_below, last_needs, needs_in_progress, unseen_from}
use Rattle.xm_order.specs.Dependence.{Depends}
use Rattle.xm_order.specs.Inner.Listed.{ListsAll}
use Rattle.xm_order.specs.Loop.{IsLoop}
use Rattle.xm_order.specs.Inner.Path.{IsPath, LastNeeds}
use Rattle.xm_order.specs.declared.signal.Signal.{Signal}
use Rattle.xm_order.specs.declared.walk.Progress.TheVariants.{Unseen}
use Rattle.xm_order.proofs.walk.Walk.step.Goals as goal
use Rattle.xm_order.proofs.walk.Walk.step.Goals.{in-None+in_ok-finish-in-None, in-Some+in_default+in_ok-enter-in_default}

pub needs_of-requires : goal.needs_of-requires
needs_of-requires c = last_below _ _ _ _ c.requires.walk _ c.last-last.ensures

pub first_undone-requires : goal.first_undone-requires
first_undone-requires c = needs_in_progress _ _ _ _ c.requires.walk c.is_net.ensures c.last-last.result c.as_slice.result.now (rw c.as_slice.ensures c.in_ok-needs.ensures)

pub finish-requires-clause-progress : goal.finish-requires-clause-progress
finish-requires-clause-progress c = in_progress _ _ _ _ c.requires.walk _ (last_below _ _ _ _ c.requires.walk _ c.last-last.ensures)

pub progress_of-requires : goal.progress_of-requires
progress_of-requires c = let need = c.in-Some.ensures.some in needs_in_progress _ _ _ _ c.requires.walk c.is_net.ensures c.last-last.result c.as_slice.result.now (rw c.as_slice.ensures c.in_ok-needs.ensures) need.0 _ need.1

pub enter-requires : goal.enter-requires
enter-requires c = let need = c.in-Some.ensures.some in needs_in_progress _ _ _ _ c.requires.walk c.is_net.ensures c.last-last.result c.as_slice.result.now (rw c.as_slice.ensures c.in_ok-needs.ensures) need.0 _ need.1

pub returns-in-OnPath-clause-looped : goal.returns-in-OnPath-clause-looped
returns-in-OnPath-clause-looped c found e =
    let lists : ListsAll (Depends c.args.net.now c.last-last.result) c.as_slice.result.now = rw c.as_slice.ensures c.in_ok-needs.ensures in
    let need = c.in-Some.ensures.some in
    let depends = last_needs c.args.net.now c.args.self.now.path.items c.last-last.result c.in-Some.next c.last-last.ensures (lists.each need.0 _ need.1) in
    let same = c.as_slice-in-OnPath.ensures in
    let the_loop : IsLoop c.args.net.now c.in_ok-found-in-OnPath.found.items =
    c.in_ok-found-in-OnPath.ensures c.args.net.now (subst (λ (xs : List Signal). IsPath c.args.net.now xs) (sym same) (is_path _ _ _ _ c.requires.walk))
    (subst (λ (xs : List Signal). LastNeeds c.args.net.now xs c.in-Some.next) (sym same) depends) in
    let named : c.in_ok-found-in-OnPath.found ≡ found = cc in
    subst (λ (xs : ListView Signal). IsLoop c.args.net.now xs.items) named the_loop

pub returns : goal.returns
returns c =
    let lists : ListsAll (Depends c.args.net.now c.last-last.result) c.as_slice.result.now = rw c.as_slice.ensures c.in_ok-needs.ensures in
    let s : Stepped c.args.net.now c.args.self.now.progress.items c.match-first_undone.self.done.items c.match-first_undone.self.path.items c.match-first_undone.self.progress.items = elim c.match-first_undone.branch [
      | in-None+in_ok-finish-in-None w ↦ (
          let left = w.in_ok-finish-in-None.ensures in
          rw w.self-is (finish_step c.args.net.now c.args.self.now.done.items c.args.self.now.path.items c.args.self.now.progress.items c.requires.walk _ _ _ c.last-last.result c.last-last.ensures
          (λ τ d. let need = lists.whole τ d in w.in-None.ensures.none need.0 τ need.1) left.done left.path left.progress))
      | in-Some+in_default+in_ok-enter-in_default w ↦ (
          let left = w.in_ok-enter-in_default.ensures in
          let need = w.in-Some.ensures.some in
          let unseen : w.progress_of.result ≡ Unseen = unseen_from w.progress_of.result w.in_default.not-OnPath (λ e. w.in-Some.ensures.undone (w.progress_of.ensures ∙ ap Some e)) in
          rw w.self-is (enter_step c.args.net.now c.args.self.now.done.items c.args.self.now.path.items c.args.self.now.progress.items c.requires.walk _ _ _ w.in-Some.next (w.progress_of.ensures ∙ ap Some unseen)
          (last_needs c.args.net.now c.args.self.now.path.items c.last-last.result w.in-Some.next c.last-last.ensures (lists.each need.0 _ need.1)) left.done left.path left.progress))
    ] in
    record { walk = s.walk; less = s.less; advances = s.advances; looped = λ found e. absurd cc }
