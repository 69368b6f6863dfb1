-- Inner: what stands before the colour of a move, for each channel. No public clause cites this.
use Rattle.std.specs.Prelude.{◌≡◌, ℕ, ◌+◌, ◌<◌, ◌≤◌, List, [], ◌++◌, length, map, slice_index_or}
use Rattle.xm_model.specs.ListView.{ListView}
use Rattle.xm_model.specs.Naming.{texts_of}
use Rattle.xm_trace.specs.Inner.Pieces.{AreWithin, pairs_text, pieces_text}
use Rattle.xm_trace.specs.Labels.{Labelled}
use Rattle.xm_trace.specs.Text.{move_label}
use Rattle.xm_trace.specs.declared.labels.MoveTexts.{MoveTexts}
use Rattle.xm_trace.specs.declared.trace.Move.{Move}

-- the labels of these channels, by number
abbrev pub AreLabels : List (ListView ℕ) → List (ListView ℕ) → Type 0
AreLabels channels labels = texts_of labels ≡ map move_label (texts_of channels)

abbrev pub labelled_of : MoveTexts → Labelled
labelled_of texts = record { channels = pieces_text texts.channels; colours = pieces_text texts.colours }

-- the pairs, where there are some, are those of all channels with all colours
pub record ArePaired (texts : MoveTexts) : Type 0 where
  pub width : texts.width ≡ length (pieces_text texts.colours)
  pub pairs : pieces_text texts.pairs ≡ pairs_text (pieces_text texts.colours) (pieces_text texts.channels)

-- no text needs more room than is noted, and a pair none more than its two texts
pub record AreReady (texts : MoveTexts) : Type 0 where
  pub channels : AreWithin texts.channels
  pub colours : AreWithin texts.colours
  pub pairs : AreWithin texts.pairs
  pub narrow : texts.pairs.widest ≤ texts.channels.widest + texts.colours.widest
  pub paired : 0 < texts.width → ArePaired texts

-- how many bytes a move needs at most
abbrev pub move_room : MoveTexts → ℕ
move_room texts = texts.channels.widest + texts.colours.widest

-- the text of a move: its label and its colour
abbrev pub label_text : Labelled → Move → List ℕ
label_text labels m = slice_index_or labels.channels m.channel [] ++ slice_index_or labels.colours m.colour []
