use Rattle.std.proofs.Common.{◌≡◌, ◌∷◌, [], ◌++◌, ◌∙◌, List, Result, Ok, sym}
use Rattle.std.proofs.lemmas.List.{map_push}
use Rattle.xm_json.specs.Path.{Path}
use Rattle.xm_json.specs.Lemmas.Walk.{regroup, with_front}
use Rattle.xm_model.specs.Steps.{◌>>=◌}
use Rattle.xm_shape.specs.NamedNet.{Table}
use Rattle.xm_shape.specs.Views.{map_entry_of, table_of}
use Rattle.xm_shape.specs.Names.{Name}
use Rattle.xm_shape.proofs.members.map_entries_of.Goals as goal

-- the image of colour k was read
next_image : (front : Table) (k image : Name) (read : Result Name Path) (rest total : Result Table Path) → read ≡ Ok image
    → with_front front (read >>= λ image. rest >>= λ images. Ok ((k, image) ∷ images)) ≡ total → with_front (front ++ (k, image) ∷ []) rest ≡ total
next_image front k image read rest total ok so_far = sym (regroup front (k, image) rest) ∙ rw ok at so_far

pub loop-key-preserved : goal.loop-key-preserved
loop-key-preserved c =
    let so_far = rw c.in-Some.ensures.steps at c.loop-key.invariant.2 in
    let ok = rw c.as_str.ensures.value at c.in_ok-image.ensures.image in
    (tt, tt, rw (c.in_ok-push.ensures.items, map_push map_entry_of c.loop-key.images.items, c.in_ok-image.ensures.colour, c.as_str.ensures.value) (next_image (table_of c.loop-key.images.items) _ _ _ _ _ ok so_far))
