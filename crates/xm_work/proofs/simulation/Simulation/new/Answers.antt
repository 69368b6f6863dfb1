use Rattle.std.proofs.Common.{ℕ, sym, ap, ◌∙◌, arith, inl}
use Rattle.std.proofs.lemmas.List.{length-map}
use Rattle.xm_board.specs.Core.{Core}
use Rattle.xm_model.specs.ListView.{ListView}
use Rattle.xm_work.proofs.simulation.Simulation.new.Goals as goal

pub invariant_of-result : goal.invariant_of-result
invariant_of-result c =
    let board = c.in_ok-board.ensures in
    let text = c.in_ok-text.ensures in
    let started = board.core.core_is in
    let target = ap (λ (x : Core). x.target) started in
    let first = ap (λ (x : Core). x.first) started in
    let limits = c.is_net.ensures.limits in
    record {
      run = board.run;
      floor_is = c.floor-floor.ensures;
      within = (let w = c.requires.within in omega (arith, target));
      begun = omega (arith, first);
      named = record {
        channels = length-map c.args.whole.names.now.channels.items (λ (x : ListView ℕ). x.items) ∙ c.requires.channels ∙ sym text.channels;
        colours = length-map c.args.whole.names.now.colours.items (λ (x : ListView ℕ). x.items) ∙ c.requires.colours ∙ sym text.colours;
        few_channels = (let few = limits.channels in omega (arith, text.channels));
        few_colours = (let few = limits.colours in omega (arith, text.colours));
      };
      colours = text.colours;
      channels = text.channels;
      had = λ s φ run. text.had φ;
      told = inl (text.none ∙ sym first);
    }
