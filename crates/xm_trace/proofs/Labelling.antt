-- The label of a channel among the labels of all, and a pair's text among those of all pairs.
use Rattle.std.proofs.Common.{◌≡◌, ℕ, zero, suc, ◌+◌, ◌-◌, ◌*◌, ◌<◌, List, [], ◌∷◌, ◌++◌, Some, length, get_or, slice_get, refl, ap, ap₂, sym, subst, ◌∙◌, arith, length-append}
use Rattle.std.proofs.Math.ListN.{get_or-map}
use Rattle.std.proofs.lemmas.List.{get_or-append_right, get_or_append_left, get_or_default, length-map}
use Rattle.xm_model.specs.TextLines.{name_at}
use Rattle.xm_model.specs.ListView.{ListView}
use Rattle.xm_model.specs.Naming.{texts_of}
use Rattle.xm_trace.specs.Inner.Labels.{AreLabels, ArePaired, label_text, labelled_of}
use Rattle.xm_trace.specs.Inner.Pieces.{before_each, pairs_text, piece_text, pieces_text}
use Rattle.xm_trace.specs.Text.{move_label}
use Rattle.xm_trace.specs.declared.labels.MoveTexts.{MoveTexts}
use Rattle.xm_trace.specs.declared.trace.Move.{Move}

pub label_there : (channels labels : List (ListView ℕ)) (c : ℕ) (label : ListView ℕ) → AreLabels channels labels → slice_get labels c ≡ Some label → label.items ≡ move_label (name_at (texts_of channels) c)
label_there [] [] c label are at = absurd cc
label_there [] (l ∷ ls) c label are at = absurd cc
label_there (n ∷ ns) [] c label are at = absurd cc
label_there (n ∷ ns) (l ∷ ls) zero label are at = let same : l ≡ label = cc in cc
label_there (n ∷ ns) (l ∷ ls) (suc c) label are at = label_there ns ls c label (cc) at

pub pair_at : (labels colours : List (List ℕ)) (c d : ℕ) → d < length colours → c * length colours + d < length (pairs_text colours labels) → get_or (pairs_text colours labels) (c * length colours + d) [] ≡ get_or labels c [] ++ get_or colours d []
pair_at [] colours c d within below = absurd (omega arith)
pair_at (l ∷ ls) colours zero d within below =
    let first = before_each colours l in
    let many : length first ≡ length colours = length-map colours (λ (x : List ℕ). l ++ x) in
    let place : zero * length colours + d ≡ d = omega arith in
    ap (λ (i : ℕ). get_or (first ++ pairs_text colours ls) i []) place
    ∙ get_or_append_left first (pairs_text colours ls) [] d (omega arith)
    ∙ get_or_default first d [] (l ++ []) (omega arith)
    ∙ get_or-map (λ (x : List ℕ). l ++ x) colours d []
pair_at (l ∷ ls) colours (suc c) d within below =
    let first = before_each colours l in
    let many : length first ≡ length colours = length-map colours (λ (x : List ℕ). l ++ x) in
    let place : suc c * length colours + d ≡ length first + (c * length colours + d) = omega arith in
    let whole = length-append first (pairs_text colours ls) in
    let rest : suc c * length colours + d - length first ≡ c * length colours + d = omega arith in
    get_or-append_right first (pairs_text colours ls) (length first) (suc c * length colours + d) [] refl (omega arith)
    ∙ ap (λ (i : ℕ). get_or (pairs_text colours ls) i []) rest
    ∙ pair_at ls colours c d within (omega arith)

pub paired_text : (texts : MoveTexts) (it : Move) (colour many : ℕ) → ArePaired texts → colour ≡ it.colour → it.colour < texts.width → many ≡ length texts.pairs.list.items → it.channel * texts.width + colour < many →
    get_or (pieces_text texts.pairs) (it.channel * texts.width + colour) [] ≡ label_text (labelled_of texts) it
paired_text texts it colour many paired same within all below =
    let labels = pieces_text texts.channels in
    let colours = pieces_text texts.colours in
    let place : it.channel * texts.width + colour ≡ it.channel * length colours + it.colour = ap₂ (λ (w d : ℕ). it.channel * w + d) paired.width same in
    let whole : many ≡ length (pairs_text colours labels) = all ∙ sym (length-map texts.pairs.list.items piece_text) ∙ ap length paired.pairs in
    ap (λ (i : ℕ). get_or (pieces_text texts.pairs) i []) place
    ∙ ap (λ (xs : List (List ℕ)). get_or xs (it.channel * length colours + it.colour) []) paired.pairs
    ∙ pair_at labels colours it.channel it.colour (subst (λ (n : ℕ). it.colour < n) paired.width within)
    (subst (λ (n : ℕ). it.channel * length colours + it.colour < n) whole (subst (λ (i : ℕ). i < many) place below))
