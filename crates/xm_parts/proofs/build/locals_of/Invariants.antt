use Rattle.std.proofs.Common.{◌≡◌, ◌+◌, map}
use Rattle.xm_model.specs.Component.{component_of}
use Rattle.xm_parts.specs.Inner.Built.{AreRenamedTo}
use Rattle.xm_parts.specs.Kept.{label_at, port_place}
use Rattle.xm_parts.specs.Partition.{is_cut}
use Rattle.xm_parts.specs.Passing.{place}
use Rattle.xm_parts.proofs.build.locals_of.Given as goal

abbrev pub invariant-loop-i : goal.invariant-loop-i
invariant-loop-i l = record {
  far : l.far ≡ l.own + place (is_cut l.net (label_at l.labels) l.p) l.i;
  locals : AreRenamedTo l.net (label_at l.labels) l.p (port_place l.net (label_at l.labels) l.p) l.i (map component_of l.made.items);
}
