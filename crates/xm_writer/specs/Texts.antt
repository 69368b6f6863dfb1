-- Names that are texts, so that they can be written.
use Rattle.std.specs.Prelude.{◌≡◌, ◌<◌, ℕ, List, length}
use Rattle.std.specs.List.{All}
use Rattle.std.specs.Str.{IsUtf8}
use Rattle.xm_model.specs.Naming.{Naming}
use Rattle.xm_model.specs.TextLines.{name_at}
use Rattle.xm_netlist.specs.Doc.{Doc}
use Rattle.xm_netlist.specs.Valid.{IsValid}
use Rattle.xm_shape.specs.Names.{Name, number_in}

-- each name is text
abbrev pub AreTexts : List Name → Type 0
AreTexts names = All IsUtf8 names

pub record HasTexts (names : Naming) : Type 0 where
  pub prims : AreTexts names.prims
  pub channels : AreTexts names.channels
  pub colours : AreTexts names.colours

-- each name stands first at its own number
abbrev pub IsFound : List Name → Type 0
IsFound names = (i : ℕ) → i < length names → number_in names (name_at names i) ≡ i

-- each name is a text, and is found again
pub record AreFound (names : Naming) : Type 0 where
  pub texts : HasTexts names
  pub prims : IsFound names.prims
  pub channels : IsFound names.channels
  pub colours : IsFound names.colours

-- those of a valid document are
abbrev pub NamesFound : Type 0
NamesFound = (doc : Doc) → IsValid doc → AreFound doc.names
