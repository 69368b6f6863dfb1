use Rattle.std.proofs.Common.{◌≡◌, ◌≤◌, take}
use Rattle.xm_model.specs.Membership.{times}
use Rattle.xm_report.proofs.snap.count_of.Given as goal

abbrev pub invariant-loop-i : goal.invariant-loop-i
invariant-loop-i l = record { now : l.count ≡ times l.d (take l.i l.packets); few : l.count ≤ l.i }
