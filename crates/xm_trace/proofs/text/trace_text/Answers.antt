use Rattle.std.proofs.Common.{◌≡◌, ◌∙◌, ◌<◌, ◌++◌, ℕ, List, ap, length, subst, sym}
use Rattle.std.proofs.lemmas.List.{length-map}
use Rattle.xm_model.specs.ListView.{ListView}
use Rattle.xm_model.specs.Naming.{naming_of}
use Rattle.xm_trace.specs.Sums.{sum_at, sum_in}
use Rattle.xm_trace.specs.Text.{end_line, sum_lines}
use Rattle.xm_trace.specs.declared.trace.Move.{Move}
use Rattle.xm_trace.proofs.Cycles.{whole_text}
use Rattle.xm_trace.proofs.text.trace_text.Goals as goal

pub returns : goal.returns
returns c φ is =
    let names = naming_of c.args.names.now in
    let channels : length names.channels ≡ c.len.result = length-map c.args.names.now.channels.items (λ (text : ListView ℕ). text.items) ∙ sym c.len.ensures in
    let colours : length names.colours ≡ c.len-2.result = length-map c.args.names.now.colours.items (λ (text : ListView ℕ). text.items) ∙ sym c.len-2.ensures in
    let sums = c.in_ok-sums.sums.items in
    let same : (k d : ℕ) → k < length names.channels → d < length names.colours → sum_at sums (length names.colours) k d ≡ sum_in c.args.trace.now.moves.items k d =
    λ k d below within.
    ap (λ (n : ℕ). sum_at sums n k d) colours
    ∙ c.in_ok-sums.ensures.same k d (subst (λ (n : ℕ). k < n) channels below) (subst (λ (n : ℕ). d < n) colours within)
    ∙ ap (λ (ms : List Move). sum_in ms k d) c.as_slice.ensures in
    let ended = c.in_ok-push_end.ensures
    ∙ ap (λ (xs : List ℕ). c.push_round.new.text.items ++ (sum_lines names (sum_at xs (length names.colours)) (length names.channels) ++ end_line c.args.trace.now.cycles)) c.as_slice-2.ensures in
    whole_text names φ c.args.trace.now.cycles c.args.trace.now.moves.items sums c.new-text.result.items c.push_round.new.text.items c.push_end.new.text.items is same c.new-text.ensures.items (c.in_ok-push_round.ensures φ is) ended
