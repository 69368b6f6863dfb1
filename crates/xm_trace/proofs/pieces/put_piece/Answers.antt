use Rattle.std.proofs.Common.{◌≡◌, ◌≤◌, ◌+◌, ◌++◌, ◌∙◌, ℕ, List, ap, arith, length, length-take-le, refl, sym, take, take-append-drop}
use Rattle.std.proofs.Math.Seq.{take-append-add}
use Rattle.std.proofs.lemmas.List.{take-append-le}
use Rattle.xm_trace.specs.Inner.Pieces.{piece_text}
use Rattle.xm_trace.proofs.pieces.put_piece.Goals as goal

-- the front of what was written
shorter : (at n m : ℕ) (old new bytes : List ℕ) → at ≤ length old → n ≤ m → length bytes ≡ m → at + m ≤ length new → take (at + m) new ≡ take at old ++ bytes → take (at + n) new ≡ take at old ++ take n bytes
shorter at n m old new bytes within few many room written =
    let front : length (take at old) ≡ at = length-take-le at old within in
    let behind : at + n ≤ length (take (at + m) new) = omega (arith, length-take-le (at + m) new room) in
    ap (take (at + n)) (sym (take-append-drop (at + m) new))
    ∙ take-append-le (at + n) (take (at + m) new) _ behind
    ∙ ap (take (at + n)) written
    ∙ ap (λ (i : ℕ). take (i + n) (take at old ++ bytes)) (sym front)
    ∙ take-append-add (take at old) bytes n

pub returns-in-Short-clause-text : goal.returns-in-Short-clause-text
returns-in-Short-clause-text c =
    let bytes = c.in-Short.bytes in
    let few : c.in-Short.len ≤ length bytes = rw c.in-Short.is at c.requires.short in
    let room : c.args.at + length bytes ≤ length c.args.out.now = rw c.in-Short.is at c.requires.room in
    ap (λ (n : ℕ). take (c.args.at + n) c.put_short.new.out) c.from.ensures
    ∙ shorter c.args.at c.in-Short.len (length bytes) c.args.out.now c.put_short.new.out bytes (omega arith) few refl (omega (arith, c.put_short.ensures.len)) c.put_short.ensures.text
    ∙ ap (λ (x : List ℕ). take c.args.at c.args.out.now ++ x) (ap piece_text (sym c.in-Short.is))
