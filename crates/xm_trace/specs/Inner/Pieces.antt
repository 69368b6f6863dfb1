-- Inner: texts that are put into lines often. No public clause cites this.
use Rattle.std.specs.Prelude.{ℕ, ◌≤◌, List, ◌++◌, length, map, take}
use Rattle.std.specs.List.{All, flat_map}
use Rattle.xm_trace.specs.declared.pieces.Piece.{Piece}
use Rattle.xm_trace.specs.declared.pieces.Piece.TheVariants as pieces
use Rattle.xm_trace.specs.declared.pieces.Pieces.{Pieces}

abbrev pub piece_text : Piece → List ℕ
piece_text (pieces.Short bytes len) = take len bytes
piece_text (pieces.Long text) = text.items

abbrev pub piece_len : Piece → ℕ
piece_len (pieces.Short bytes len) = len
piece_len (pieces.Long text) = length text.items

-- how many bytes are written for it
abbrev pub piece_room : Piece → ℕ
piece_room (pieces.Short bytes len) = length bytes
piece_room (pieces.Long text) = length text.items

abbrev pub pieces_text : Pieces → List (List ℕ)
pieces_text them = map piece_text them.list.items

-- each ends within the bytes that are written for it, and none needs more room than is noted
abbrev pub AreWithin : Pieces → Type 0
AreWithin them =
    All (λ piece. (piece_len piece ≤ piece_room piece) × (piece_room piece ≤ them.widest)) them.list.items

-- the text before each of the others
abbrev pub before_each : List (List ℕ) → List ℕ → List (List ℕ)
before_each others first = map (λ (other : List ℕ). first ++ other) others

-- each of the first texts before each of the others
abbrev pub pairs_text : List (List ℕ) → List (List ℕ) → List (List ℕ)
pairs_text others firsts = flat_map (before_each others) firsts
