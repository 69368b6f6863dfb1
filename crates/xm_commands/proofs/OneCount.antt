-- What is counted of a run hangs on its tape alone.
use Rattle.std.proofs.Common.{◌≡◌, ℕ, zero, suc, ◌+◌, ◌<◌, List, length, refl, sym, ap, ap₂, ◌∙◌, subst, arith}
use Rattle.std.specs.Prelude.{if◌then◌else◌}
use Rattle.xm_commands.proofs.OneText.{same_count}
use Rattle.xm_commands.specs.Demonstrating.{IsDemonstration, all_moves, delivered_moves, enters_sink, moves_on, run_counts, sum_below}
use Rattle.xm_generate.specs.Generated.{generated}
use Rattle.xm_model.specs.Net.{IsNet, Network}
use Rattle.xm_model.specs.Run.{moves}
use Rattle.xm_model.specs.Signals.{Signals}
use Rattle.xm_order.specs.Dependence.{IsOrder}
use Rattle.xm_order.specs.OneFrame.{SameFrame}
use Rattle.xm_order.specs.OneRun.{OneRun}
use Rattle.xm_report.specs.Demo.{demo_text}
use Rattle.xm_tape.specs.Taped.{Taped, chosen, cycles_of, rows_of}
use Rattle.xm_trace.specs.Runs.{IsRunOf}

same_sum : (f g : ℕ → ℕ) (n : ℕ) → ((i : ℕ) → i < n → f i ≡ g i) → sum_below f n ≡ sum_below g n
same_sum f g zero same = refl
same_sum f g (suc n) same = ap₂ (λ (a b : ℕ). a + b) (same_sum f g n (λ i here. same i (omega arith))) (same n (omega arith))

module _ (net : Network) (φ ψ : ℕ → Signals) (cycles : ℕ) (same : (t : ℕ) → t < cycles → SameFrame net (φ t) (ψ t)) where
  same_on : (c : ℕ) → c < net.channels → moves_on net φ cycles c ≡ moves_on net ψ cycles c
  same_on c here = same_sum (λ d. moves φ c d cycles) (λ d. moves ψ c d cycles) net.colours (λ d few. same_count net φ ψ cycles same c d cycles here (omega arith))

  same_all : all_moves net φ cycles ≡ all_moves net ψ cycles
  same_all = same_sum (moves_on net φ cycles) (moves_on net ψ cycles) net.channels same_on

  same_delivered : delivered_moves net φ cycles ≡ delivered_moves net ψ cycles
  same_delivered =
      same_sum (λ c. if enters_sink net c then moves_on net φ cycles c else 0) (λ c. if enters_sink net c then moves_on net ψ cycles c else 0) net.channels
      (λ c here. ap (λ (k : ℕ). if enters_sink net c then k else 0) (same_on c here))

  same_counts : run_counts net φ cycles ≡ run_counts net ψ cycles
  same_counts =
      ap₂ (λ (m d : ℕ). record { primitives = length net.prims; channels = net.channels; cycles = cycles; moves = m; delivered = d }) same_all same_delivered

pub one_text : OneRun → (size seed : ℕ) (text other : List ℕ) → IsDemonstration size seed text → IsDemonstration size seed other → text ≡ other
one_text one_run size seed text other a b =
    let net = (generated size seed).net in
    let is_net = subst IsNet a.is_design.net a.is_design.designed.net in
    let is_order = subst (λ (net : Network). IsOrder net a.design.order) a.is_design.net a.is_design.designed.order in
    let one = one_run net a.design.order (cycles_of a.tape) (chosen net.prims (rows_of a.tape)) is_net is_order in
    let tapes : b.tape ≡ a.tape = (let first = a.taped in let second = b.taped in cc) in
    let run = subst (λ (t : Taped). IsRunOf net t b.states b.frames) tapes b.run in
    let frames = one.1 a.states b.states a.frames b.frames a.run run in
    let counts = same_counts net a.frames b.frames (cycles_of a.tape) frames.1 in
    a.same ∙ ap (demo_text size seed) counts ∙ ap (λ (t : Taped). demo_text size seed (run_counts net b.frames (cycles_of t))) (sym tapes) ∙ sym b.same
