-- Why there are no invariants, from the faults that were found.
use Rattle.std.specs.Prelude.{◌≡◌, ◌<◌}
use Rattle.xm_design.specs.Designed.{Designed}
use Rattle.xm_elim.specs.Elimination.{ElimOverflows, OnOverflow}
use Rattle.xm_elim.specs.declared.fault.ElimFault.{ElimFault}
use Rattle.xm_flow.specs.FlowRows.{Flow}
use Rattle.xm_flow.specs.Holding.{most_pairs, pair_count, queue_pair_count}
use Rattle.xm_flow.specs.declared.build.FlowFault.{FlowFault}
use Rattle.xm_flow.specs.declared.build.FlowFault.TheVariants as fault

-- the design has too many pairs; want of memory says nothing
abbrev pub IsFlowFault : Designed → FlowFault → Type 0
IsFlowFault design (fault.TooWide pairs) = (pairs ≡ pair_count design) × (most_pairs < pairs)
IsFlowFault design fault.OutOfMemory = Unit {0}

-- the elimination of these flow rows leaves 128 bits; want of memory says nothing
abbrev pub IsOverflow : Designed → Flow → ElimFault → Type 0
IsOverflow design rows = OnOverflow (ElimOverflows (pair_count design) (queue_pair_count design) rows.rows)
