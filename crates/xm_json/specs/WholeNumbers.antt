-- Numbers within a value.
use Rattle.std.specs.Prelude.{Bool, true, ◌&&◌, ◌||◌, is_some}
use Rattle.serde_json.specs.Data.{Data, null, boolean, number, string, array, object, Num, Items, no_items, item, Members, no_members, member}
use Rattle.serde_json.specs.Find.{as_i64, as_u64}

-- each number in the value is whole, with or without a sign, and of 64 bits
abbrev pub is_whole : Num → Bool
is_whole n = is_some (as_u64 n) || is_some (as_i64 n)

abbrev mutual
  pub has_whole : Data → Bool
  has_whole null = true
  has_whole (boolean b) = true
  has_whole (number n) = is_whole n
  has_whole (string s) = true
  has_whole (array ds) = items_have_whole ds
  has_whole (object ms) = members_have_whole ms

  pub items_have_whole : Items → Bool
  items_have_whole no_items = true
  items_have_whole (item d ds) = has_whole d && items_have_whole ds

  pub members_have_whole : Members → Bool
  members_have_whole no_members = true
  members_have_whole (member k d ms) = has_whole d && members_have_whole ms
