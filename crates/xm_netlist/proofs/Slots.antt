-- The slots of channels, as they are filled.
use Rattle.std.proofs.Common.{◌≡◌, ℕ, zero, suc, ◌+◌, ◌<◌, List, ◌∷◌, Bor, length, get_or, map, drop, replicate, string_bytes, Option, Some, None, refl, sym, ap, ◌∙◌}
use Rattle.std.specs.Prelude.{slice_set}
use Rattle.std.specs.List.{refill}
use Rattle.std.proofs.lemmas.List.{length-map, length-replicate, map-set}
use Rattle.xm_model.specs.Lending.{refill-full}
use Rattle.xm_shape.specs.NamedNet as plain
use Rattle.xm_shape.specs.Views.{allow_entry_of, names_of}
use Rattle.xm_shape.specs.Names.{number_in}
use Rattle.xm_json.specs.Lemmas.Lists.{cut_at}
use Rattle.xm_shape.specs.declared.named_net.AllowEntry.{AllowEntry}
use Rattle.xm_netlist.specs.Numbered.{slots_of}
use Rattle.xm_netlist.specs.Inner.Placed.{slot_of, plain_slots_of, slots_with}
use Rattle.xm_netlist.specs.declared.numbering.Numbers.{Numbers}

-- the entry at i took its slot
pub slot_set : (numbers : Numbers) (slots new : List (Option (Bor AllowEntry))) (es : List AllowEntry) (i : ℕ) (x : AllowEntry) (r : Bor AllowEntry) (place : ℕ) (total : List (Option (List ℕ))) → i < length es → x ≡ get_or es i x → r.now ≡ x
    → place ≡ number_in (names_of numbers.channels.keys) (string_bytes x.channel) → new ≡ slice_set slots place (Some r)
    → slots_with numbers (map allow_entry_of (drop i es)) (plain_slots_of numbers slots) ≡ total → slots_with numbers (map allow_entry_of (drop (i + 1) es)) (plain_slots_of numbers new) ≡ total
slot_set numbers slots new es i x r place total lt is shows at step so_far =
    let cut = cut_at es i x x lt is in
    let mapped : plain_slots_of numbers new ≡ slice_set (plain_slots_of numbers slots) (number_in (names_of numbers.channels.keys) (string_bytes x.channel)) (slot_of numbers (Some r)) =
    ap (plain_slots_of numbers) step ∙ map-set (slot_of numbers) slots place (Some r) ∙ ap (λ (p : ℕ). slice_set (plain_slots_of numbers slots) p (slot_of numbers (Some r))) at in
    let one : slots_with numbers (map allow_entry_of (drop i es)) (plain_slots_of numbers slots) ≡ slots_with numbers (map allow_entry_of (drop (i + 1) es)) (plain_slots_of numbers new) =
    rw (cut, mapped, shows) refl in
    sym one ∙ so_far

map_none : (numbers : Numbers) (n : ℕ) → plain_slots_of numbers (replicate n None) ≡ replicate n None
map_none numbers zero = refl
map_none numbers (suc n) = ap (λ (l : List (Option (List ℕ))). None ∷ l) (map_none numbers n)

-- the slots that were lent are written back
pub slots_made : (numbers : Numbers) (held lent new : List (Option (Bor AllowEntry))) (n : ℕ) (es : List plain.AllowEntry) → length new ≡ length lent → lent ≡ held → held ≡ replicate n None → n ≡ length numbers.channels.keys
    → plain_slots_of numbers new ≡ slots_with numbers es (plain_slots_of numbers lent) → plain_slots_of numbers (refill (length held) held new) ≡ slots_of (names_of numbers.channels.keys) (names_of numbers.colours.keys) es
slots_made numbers held lent new n es long same fresh count step =
    let none : plain_slots_of numbers lent ≡ replicate (length (names_of numbers.channels.keys)) None =
    ap (plain_slots_of numbers) (same ∙ fresh) ∙ map_none numbers n ∙ ap (λ (k : ℕ). replicate k None) (count ∙ sym (length-map numbers.channels.keys string_bytes)) in
    ap (plain_slots_of numbers) (refill-full (length held) held new (long ∙ ap length same)) ∙ step ∙ ap (slots_with numbers es) none

pub slots_count : (held lent new : List (Option (Bor AllowEntry))) (n count : ℕ) → length new ≡ length lent → lent ≡ held → held ≡ replicate n None → n ≡ count → length (refill (length held) held new) ≡ count
slots_count held lent new n count long same fresh is =
    ap length (refill-full (length held) held new (long ∙ ap length same)) ∙ long ∙ ap length (same ∙ fresh) ∙ length-replicate n None ∙ is
