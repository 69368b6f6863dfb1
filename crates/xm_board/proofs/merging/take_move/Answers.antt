use Rattle.std.proofs.Common.{◌≡◌, ◌∷◌, ◌++◌, ◌+◌, [], ℕ, List, get_or, slice_get, set, length, ap, ap₂, sym, subst, ◌∙◌, refl}
use Rattle.std.proofs.lemmas.Option.{slice_get-get_or, slice_get_read}
use Rattle.xm_board.proofs.InOrder.{moved_is, next_is, none_moved, passed_by, took}
use Rattle.xm_board.specs.Inner.Merging.{AreTaken, due}
use Rattle.xm_trace.specs.Moves.{moved_on}
use Rattle.xm_trace.specs.declared.trace.Move.{Move}
use Rattle.xm_board.proofs.merging.take_move.Goals as goal

pub returns-in_ok-push-in-Some-clause-taken : goal.returns-in_ok-push-in-Some-clause-taken
returns-in_ok-push-in-Some-clause-taken c label o left e none are =
    let all = c.args.all.now in let p = c.args.p in let places = c.args.places.now.items in let made = c.args.made.now.items in let t = c.args.t in let ch = c.args.c in
    let it = c.in-Some.it in let place : ℕ = get_or places p 0 in
    let there = slice_get_read all (length all) p c.index-all-p.result refl c.requires.part c.index-all-p.is in
    let at = slice_get-get_or places p 0 c.requires.places in
    let is = next_is label p t ch o made left c.index-all-p.result.items place e none (are.each p c.index-all-p.result there) (are.place p place at) in
    let same = ap₂ (λ (xs : List Move) (ys : List ℕ). due t ch (slice_get xs (get_or ys p 0))) c.as_slice-2.ensures c.as_slice.ensures in
    let moved = moved_is t ch o it (sym (c.in-Some.ensures.due ∙ (same ∙ is))) in
    let put : c.put_place.new.places.items ≡ set places p (place + 1) = c.put_place.ensures ∙ ap (λ (ys : List ℕ). set places p (get_or ys p 0 + 1)) c.as_slice.ensures in
    subst (λ (ms : List Move). AreTaken label all made (moved_on t ch o) left c.put_place.new.places.items ms) (sym c.in_ok-push-in-Some.ensures.ok)
    (subst (λ (ns : List ℕ). AreTaken label all made (moved_on t ch o) left ns (made ++ it ∷ [])) (sym put) (took label all places made t ch p o left it place e are moved c.requires.places at))

pub returns-in-None-clause-taken : goal.returns-in-None-clause-taken
returns-in-None-clause-taken c label o left e none are =
    let all = c.args.all.now in let p = c.args.p in let places = c.args.places.now.items in let made = c.args.made.now.items in let t = c.args.t in let ch = c.args.c in
    let place : ℕ = get_or places p 0 in
    let there = slice_get_read all (length all) p c.index-all-p.result refl c.requires.part c.index-all-p.is in
    let at = slice_get-get_or places p 0 c.requires.places in
    let is = next_is label p t ch o made left c.index-all-p.result.items place e none (are.each p c.index-all-p.result there) (are.place p place at) in
    let same = ap₂ (λ (xs : List Move) (ys : List ℕ). due t ch (slice_get xs (get_or ys p 0))) c.as_slice-2.ensures c.as_slice.ensures in
    passed_by label all places made t ch o left are (none_moved t ch o (sym (c.in-None.ensures.due ∙ (same ∙ is))))
