-- One take or one write after another.
use Rattle.std.proofs.Common.{◌≡◌, ℕ, ◌+◌, ◌-◌, ◌<◌, ◌≤◌, min, List, [], ◌++◌, take, drop, length, Option, Some, None, sym, ap, ◌∙◌, append_assoc, arith}
use Rattle.std.specs.Io.KnownBytes.{Appends, Consumes}
use Rattle.std.proofs.lemmas.List.{take_all, take_at, drop-drop, take-append-drop, length-take-le, length-drop, drop_all}
use Rattle.std.proofs.Math.Seq.{take-add}
use Rattle.xm_io.specs.Lemmas.Appending.{Appends-then}

pub Consumes-then : (a b c : Option (List ℕ)) (x y : List ℕ) → Consumes a b x → Consumes b c y → Consumes a c (x ++ y)
Consumes-then None b c x y p q = tt
Consumes-then (Some a) None c x y p q = absurd p
Consumes-then (Some a) (Some b) None x y p q = absurd q
Consumes-then (Some a) (Some b) (Some c) x y p q = p ∙ ap (λ (r : List ℕ). x ++ r) q ∙ sym (append_assoc x y c)

rest_is : (text : List ℕ) (done : ℕ) → take (length text - done) (drop done text) ≡ drop done text
rest_is text done = take_all _ _ (omega (arith, length-drop done text))

pub write_goes_on : (old mid new : Option (List ℕ)) (text : List ℕ) (done n : ℕ) → Appends old mid (take done text) → Appends mid new (take n (take (length text - done) (drop done text)))
    → Appends old new (take (done + n) text)
write_goes_on old mid new text done n p q =
    let q' : Appends mid new (take n (drop done text)) = rw (← rest_is text done) q in
    rw (take-add done n text) (Appends-then old mid new (take done text) (take n (drop done text)) p q')

-- A call that put the first n bytes of what is left to the front of the buffer.
pub gives_front : (items left part buffer now : List ℕ) (at n : ℕ) → drop at items ≡ left → part ≡ drop at items → n ≤ length part
    → now ≡ take n part ++ drop n buffer → left ≡ take n now ++ drop (at + n) items
gives_front items left part buffer now at n is_left is_part within filled =
    let len : length (take n part) ≡ n = length-take-le n part within in
    let front : take n now ≡ take n part = ap (take n) filled ∙ take_at (take n part) (drop n buffer) n len in
    let after : drop (at + n) items ≡ drop n part = sym (drop-drop n at items) ∙ ap (drop n) (sym is_part) in
    sym is_left ∙ sym is_part ∙ sym (take-append-drop n part) ∙ cc (front, after)

-- A call that put none, though there was room for one.
pub at_end : (items part buffer : List ℕ) (at most n : ℕ) → part ≡ drop at items → n ≡ min (min (length part) most) (length buffer) → 1 ≤ most
    → n ≡ 0 → 0 < length buffer → drop (at + n) items ≡ []
at_end items part buffer at most n is_part least some none room =
    sym (drop-drop n at items) ∙ ap (drop n) (sym is_part) ∙ drop_all n part (omega arith)
