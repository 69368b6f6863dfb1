use Rattle.std.proofs.Common.{◌++◌, ◌∙◌, ℕ, List, ap, arith, sym}
use Rattle.std.proofs.lemmas.List.{append-nil}
use Rattle.std.specs.List.{flat_map}
use Rattle.xm_colours.specs.Family.{colours_at}
use Rattle.xm_model.specs.TextLines.{name_at}
use Rattle.xm_model.specs.Naming.{naming_of}
use Rattle.xm_report.proofs.Rising.{line_joined, text_goes_on, up_to-all, up_to-none}
use Rattle.xm_report.specs.Check.{colour_text}
use Rattle.xm_report.proofs.check.push_channel.Goals as goal

pub loop-d-init : goal.loop-d-init
loop-d-init c =
    let none = up_to-none 0 (colours_at c.args.colours.now c.args.c) (λ e inside. omega arith) in
    sym (append-nil c.push_name.new.text.items) ∙ ap (λ (l : List ℕ). c.push_name.new.text.items ++ flat_map (colour_text (naming_of c.args.names.now)) l) (sym none)

pub loop-d-preserved : goal.loop-d-preserved
loop-d-preserved c =
    text_goes_on (naming_of c.args.names.now) c.has.result c.loop-d.d (colours_at c.args.colours.now c.args.c) c.push_name.new.text.items c.loop-d.text.items _ c.requires.rise c.has.ensures c.loop-d.invariant c.in_ok-push_colour_if.ensures

pub returns : goal.returns
returns c =
    let all = up_to-all c.loop-d.d (colours_at c.args.colours.now c.args.c) (λ e inside. let low = c.requires.below e inside in omega (arith, low, c.loop-d-test.false)) in
    line_joined (naming_of c.args.names.now) c.args.text.now.items (name_at (naming_of c.args.names.now).channels c.args.c) (colours_at c.args.colours.now c.args.c) c.push_name.new.text.items c.loop-d.text.items _ c.push_bytes.result c.push_bytes.new.self.items (rw c.as_slice.ensures at c.in_ok-push_name.ensures) c.loop-d.invariant all c.push_bytes.ensures.ok
