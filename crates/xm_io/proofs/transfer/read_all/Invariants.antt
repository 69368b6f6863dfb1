use Rattle.std.proofs.Common.{◌≡◌, ◌≤◌, length}
use Rattle.std.specs.Io.KnownBytes.{Consumes}
use Rattle.xm_io.proofs.transfer.read_all.Given as goal

abbrev pub invariant-loop : goal.invariant-loop
invariant-loop g l = record {
  within : length l.text.items ≤ l.limit;
  turns : l.counter ≤ length l.text.items;
  taken : Consumes (g.S.Source.left l.initial.source) (g.S.Source.left l.source) l.text.items;
  unharmed : g.S.Source.faults l.source ≡ g.S.Source.faults l.initial.source;
}
