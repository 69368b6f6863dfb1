use Rattle.std.proofs.Common.{◌≡◌, ◌∷◌, [], ◌++◌, ◌∙◌, List, Result, Ok, sym, codes}
use Rattle.std.proofs.lemmas.List.{map_push}
use Rattle.serde_json.specs.Data.{Data, Members, member}
use Rattle.xm_shape.specs.NamedNet.{AllowEntry}
use Rattle.xm_shape.specs.Views.{allow_entry_of}
use Rattle.xm_json.specs.Path.{Path, member_of}
use Rattle.xm_json.specs.Values.{texts_at}
use Rattle.xm_shape.specs.Names.{Name}
use Rattle.xm_shape.specs.Shape.{entries_in}
use Rattle.xm_json.specs.Lemmas.Walk.{regroup, with_front}
use Rattle.xm_shape.proofs.shape.entries_of.Goals as goal

-- the entry of channel k was read
next_entry : (front : List AllowEntry) (k : Name) (d : Data) (ms : Members) (colours : List Name) (total : Result (List AllowEntry) Path) → texts_at (member_of (codes "allow") k) d ≡ Ok colours
    → with_front front (entries_in (member k d ms)) ≡ total → with_front (front ++ record { channel = k; colours = colours } ∷ []) (entries_in ms) ≡ total
next_entry front k d ms colours total ok so_far = sym (regroup front (record { channel = k; colours = colours }) (entries_in ms)) ∙ rw ok at so_far

pub loop-key-preserved : goal.loop-key-preserved
loop-key-preserved c =
    let so_far = rw c.in-Some.ensures.steps at c.loop-key.invariant.2 in
    let ok = rw c.as_str.ensures.value at c.in_ok-colours.ensures in
    (tt, tt, rw (c.in_ok-push.ensures.items, map_push allow_entry_of c.loop-key.entries.items, c.in_ok-channel.ensures.cases) (next_entry _ _ _ _ _ _ ok so_far))
