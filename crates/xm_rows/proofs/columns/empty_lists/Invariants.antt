use Rattle.std.proofs.Common.{◌≡◌, [], length, All}
use Rattle.xm_rows.proofs.columns.empty_lists.Given as goal

abbrev pub invariant-loop : goal.invariant-loop
invariant-loop l = record { empty : All (λ m. m.items ≡ []) l.lists.items; whole : length l.lists.items ≡ l.counter }
