-- A member nests less deep than its object.
use Rattle.std.proofs.Common.{ℕ, suc, ◌≤◌, List, Option, Some, None, arith, Ordering, Less, Equal, Greater}
use Rattle.std.specs.Prelude.{IfSome}
use Rattle.std.specs.Ordering.{match_ordering, nat_cmp}
use Rattle.std.specs.Cmp.Lexicographic.{slice_cmp}
use Rattle.serde_json.specs.Data.{Data, Members, array, boolean, depth, member, members_depth, no_members, null, number, object, string}
use Rattle.serde_json.specs.Find.{get, get_member}

shallow_at : (o : Ordering) (e : Data) (found : Option Data) (n : ℕ) → IfSome found (λ d. depth d ≤ n) → depth e ≤ n → IfSome (match_ordering o found (Some e) found) (λ d. depth d ≤ n)
shallow_at Less e found n rest here = rest
shallow_at Equal e found n rest here = here
shallow_at Greater e found n rest here = rest

weaker : (o : Option Data) (n m : ℕ) → n ≤ m → IfSome o (λ d. depth d ≤ n) → IfSome o (λ d. depth d ≤ m)
weaker None n m le h = tt
weaker (Some d) n m le h = omega arith

shallow_member : (k : List ℕ) (ms : Members) → IfSome (get_member k ms) (λ d. depth d ≤ members_depth ms)
shallow_member k no_members = tt
shallow_member k (member l e ms) = shallow_at (slice_cmp nat_cmp k l) e (get_member k ms) _ (weaker (get_member k ms) (members_depth ms) _ (omega arith) (shallow_member k ms)) (omega arith)

pub shallow_get : (k : List ℕ) (d : Data) (n : ℕ) → depth d ≤ suc n → IfSome (get k d) (λ e. depth e ≤ n)
shallow_get k null n h = tt
shallow_get k (boolean b) n h = tt
shallow_get k (number x) n h = tt
shallow_get k (string s) n h = tt
shallow_get k (array ds) n h = tt
shallow_get k (object ms) n h = weaker (get_member k ms) (members_depth ms) n (omega arith) (shallow_member k ms)
