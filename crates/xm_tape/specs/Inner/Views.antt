-- What lent primitives show, and the code's draft of a tape.
use Rattle.std.specs.Prelude.{◌<◌, ◌^◌, List, length, map}
use Rattle.xm_json.specs.Lent.{lent_texts}
use Rattle.xm_model.specs.Component.{Component, component_of}
use Rattle.xm_model.specs.declared.primitive.Primitive.{Primitive}
use Rattle.xm_tape.specs.Reading.{Draft, repeating, seeded, written}
use Rattle.xm_tape.specs.declared.draft.Draft as code
use Rattle.xm_tape.specs.declared.draft.Draft.TheVariants as drafts
use denote.Ref.{Bor}

abbrev pub draft_of : code.Draft → Draft
draft_of (drafts.Written rows) = written (lent_texts rows.items)
draft_of (drafts.Repeating stem cycle times) = repeating (lent_texts stem.items) (lent_texts cycle.items) times
draft_of (drafts.Seeded cycles seed) = seeded cycles seed

-- a cycle that comes again is short enough to be counted
abbrev pub IsShort : Draft → Type 0
IsShort (written rows) = Unit {0}
IsShort (repeating stem cycle times) = length cycle < 2 ^ 31
IsShort (seeded cycles seed) = Unit {0}

-- what lent primitives show
abbrev pub components_of : List (Bor Primitive) → List Component
components_of prims = map (λ prim. component_of prim.now) prims
