use Rattle.std.proofs.Common.{◌≡◌, ◌≢◌, ◌<◌, ℕ, slice_get, Some}
use Rattle.xm_parts.specs.declared.changes.WireChange.{WireChange}
use Rattle.xm_parts.proofs.applying.apply_wires.Given as goal

abbrev pub invariant-loop-change : goal.invariant-loop-change
invariant-loop-change l = record {
  each : ((j k : ℕ) (c d : WireChange) → slice_get l.changes j ≡ Some c → slice_get l.changes k ≡ Some d → c.place ≡ d.place → j ≡ k) →
      (k : ℕ) (c : WireChange) → k < l.change-index → slice_get l.changes k ≡ Some c → slice_get l.wires c.place ≡ Some c.wire;
  rest : (i : ℕ) → ((k : ℕ) (c : WireChange) → k < l.change-index → slice_get l.changes k ≡ Some c → c.place ≢ i) → slice_get l.wires i ≡ slice_get l.initial.wires i;
}
