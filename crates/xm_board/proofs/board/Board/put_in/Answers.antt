use Rattle.std.proofs.Common.{◌≡◌, ℕ, suc, ◌+◌, List, ap, sym, subst, ◌∙◌, arith, nat_eq, slice_get, length}
use Rattle.xm_board.proofs.Coming.{board_posted, comes_in, next_long, now_long, pushed_rows, pushed_some}
use Rattle.xm_board.specs.Core.{cycle}
use Rattle.xm_board.specs.Inner.Jobs.{run_in}
use Rattle.xm_board.specs.Inner.Posting.{AreNotedAt, AreTold}
use Rattle.xm_board.specs.declared.two_cycles.TwoCycles.{TwoCycles}
use Rattle.xm_design.specs.Designed.{Designed}
use Rattle.xm_model.specs.Lending.{refill-full}
use Rattle.xm_model.specs.declared.state.Wire.{Wire}
use Rattle.xm_parts.specs.Kept.{label_at}
use Rattle.xm_parts.specs.Partition.{channels_in}
use Rattle.xm_board.proofs.board.Board.put_in.Goals as goal

pub tell-requires-clause-now : goal.tell-requires-clause-now
tell-requires-clause-now c q it at =
    let b = c.self.inside in
    let comes = comes_in (record { run = run_in b.design.now b.parts.now b.tape.now; core = b.core }) c.args.self.now c.args.p c.args.newest c.args.change c.self.view_is (record { part = c.requires.part; out = c.requires.out; newest = c.requires.newest; stands = c.requires.stands }) in
    now_long (run_in b.design.now b.parts.now b.tape.now) b.core c.is_core.ensures c.args.p comes.part comes.out b.far.items c.turn_at.new.far.items c.self.invariant.far_are c.turn_at.ensures q it
    (ap (λ (l : List TwoCycles). slice_get l q) (sym c.as_mut_slice.ensures.value) ∙ at)

pub tell-requires-clause-next : goal.tell-requires-clause-next
tell-requires-clause-next c q it at =
    let b = c.self.inside in
    let comes = comes_in (record { run = run_in b.design.now b.parts.now b.tape.now; core = b.core }) c.args.self.now c.args.p c.args.newest c.args.change c.self.view_is (record { part = c.requires.part; out = c.requires.out; newest = c.requires.newest; stands = c.requires.stands }) in
    next_long (run_in b.design.now b.parts.now b.tape.now) b.core c.is_core.ensures c.args.p comes.part comes.out b.far.items c.turn_at.new.far.items c.self.invariant.far_are c.turn_at.ensures q it
    (ap (λ (l : List TwoCycles). slice_get l q) (sym c.as_mut_slice.ensures.value) ∙ at)

pub rise_if-requires-clause-some : goal.rise_if-requires-clause-some
rise_if-requires-clause-some c =
    let b = c.self.inside in
    let comes = comes_in (record { run = run_in b.design.now b.parts.now b.tape.now; core = b.core }) c.args.self.now c.args.p c.args.newest c.args.change c.self.view_is (record { part = c.requires.part; out = c.requires.out; newest = c.requires.newest; stands = c.requires.stands }) in
    pushed_some b.design.now b.tape.now b.parts.now b.core b.floor b.logs.items b.moves.items b.far.items b.newest.items c.args.p c.args.newest c.args.change c.is_designed.ensures c.fits_hold.ensures c.capacity_law.ensures c.is_core.ensures comes c.self.invariant c.push_at.new.logs.items c.post.new.self c.floor-floor.result c.push_at.ensures c.post.ensures c.floor-floor.ensures

pub rise_if-requires-clause-logs : goal.rise_if-requires-clause-logs
rise_if-requires-clause-logs c =
    let b = c.self.inside in
    let comes = comes_in (record { run = run_in b.design.now b.parts.now b.tape.now; core = b.core }) c.args.self.now c.args.p c.args.newest c.args.change c.self.view_is (record { part = c.requires.part; out = c.requires.out; newest = c.requires.newest; stands = c.requires.stands }) in
    pushed_rows b.design.now b.tape.now b.parts.now b.core b.floor b.logs.items b.moves.items b.far.items b.newest.items c.args.p c.args.newest c.args.change c.is_designed.ensures c.fits_hold.ensures c.capacity_law.ensures c.is_core.ensures comes c.self.invariant c.one_run.ensures c.push_at.new.logs.items c.push_at.ensures

pub invariant_of-self : goal.invariant_of-self
invariant_of-self c =
    let b = c.self.inside in
    let label = label_at b.parts.now.labels in
    let comes = comes_in (record { run = run_in b.design.now b.parts.now b.tape.now; core = b.core }) c.args.self.now c.args.p c.args.newest c.args.change c.self.view_is (record { part = c.requires.part; out = c.requires.out; newest = c.requires.newest; stands = c.requires.stands }) in
    let t : c.cycle-t.result + 1 ≡ suc (cycle b.core c.args.p) = (let e = c.cycle-t.ensures in omega arith) in
    let channels : c.channels.result.now ≡ channels_in b.design.now.net label c.args.p = c.channels.ensures ∙ ap (λ (d : Designed). channels_in d.net label c.args.p) c.self.invariant.set_up.design_is in
    let noted : AreNotedAt b.moves.items c.args.p (suc (cycle b.core c.args.p)) (channels_in b.design.now.net label c.args.p) c.args.newest.row.wires.items c.note_at.new.moves.items =
    subst (λ (k : ℕ). AreNotedAt b.moves.items c.args.p k (channels_in b.design.now.net label c.args.p) c.args.newest.row.wires.items c.note_at.new.moves.items) t
    (subst (λ (cs : List ℕ). AreNotedAt b.moves.items c.args.p (c.cycle-t.result + 1) cs c.args.newest.row.wires.items c.note_at.new.moves.items) channels
    (subst (λ (ws : List Wire). AreNotedAt b.moves.items c.args.p (c.cycle-t.result + 1) c.channels.result.now ws c.note_at.new.moves.items) c.as_slice-wires.ensures c.note_at.ensures)) in
    let lent = c.as_mut_slice.ensures.value in
    let told : AreTold b.design.now.net label c.args.p c.args.newest.row.wires.items (λ q. nat_eq (cycle b.core q) (c.cycle-t.result + 1)) c.turn_at.new.far.items c.tell.new.all =
    subst (λ (l : List TwoCycles). AreTold b.design.now.net label c.args.p c.args.newest.row.wires.items (λ q. nat_eq (cycle b.core q) (c.cycle-t.result + 1)) l c.tell.new.all) lent c.tell.ensures in
    let full = refill-full (length c.turn_at.new.far.items) c.turn_at.new.far.items c.tell.new.all told.whole in
    let told_full = subst (λ (l : List TwoCycles). AreTold b.design.now.net label c.args.p c.args.newest.row.wires.items (λ q. nat_eq (cycle b.core q) (c.cycle-t.result + 1)) c.turn_at.new.far.items l) (sym full) told in
    board_posted b.design.now b.tape.now b.parts.now b.core b.floor b.logs.items b.moves.items b.far.items b.newest.items c.args.p c.args.newest c.args.change c.is_designed.ensures c.fits_hold.ensures c.capacity_law.ensures c.is_core.ensures comes c.self.invariant c.one_run.ensures
    c.post.new.self c.floor-floor.result c.push_at.new.logs.items _ c.note_at.new.moves.items c.turn_at.new.far.items _ _ (λ q. nat_eq (cycle b.core q) (c.cycle-t.result + 1)) c.post.ensures c.floor-floor.ensures c.push_at.ensures c.rise_if.ensures noted c.turn_at.ensures told_full (λ q. ap (nat_eq (cycle b.core q)) t) c.put_newest.ensures
