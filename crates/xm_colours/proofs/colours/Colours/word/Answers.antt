use Rattle.std.proofs.Common.{List, ℕ, ap, sym, ◌∙◌, ltb-false}
use Rattle.xm_colours.proofs.Reading.{set_past}
use Rattle.xm_colours.specs.Family.{colours_at}
use Rattle.xm_colours.specs.Inner.Words.{sets_of}
use Rattle.xm_colours.proofs.colours.Colours.word.Goals as goal

pub returns-in-None : goal.returns-in-None
returns-in-None c =
    let is = ap sets_of c.as_slice.ensures ∙ c.self.view_is in
    ap (λ (s : List (List ℕ)). colours_at s c.args.channel) (sym is) ∙ set_past c.as_slice.result.now c.args.channel (ltb-false _ _ (sym c.in-None.ensures.lookup.0))
