-- What a simulation holds may go to another thread.
use denote.Param.Send.{IsSend, IsSync, sendable}
use Rattle.std.proofs.Crossing.{crosses}
use Rattle.std.proofs.option.Option.TheSendSync.{the_send as option_send}
use Rattle.xm_board.specs.contracts.board.Board.{the_row as board_row}
use Rattle.xm_board.proofs.board_core.BoardCore.TheSendSync.{the_send as core_send}
use Rattle.xm_board.proofs.newest.Newest.TheSendSync.{the_send as newest_send}
use Rattle.xm_board.proofs.row_log.RowLog.TheSendSync.{the_send as log_send}
use Rattle.xm_board.proofs.two_cycles.TwoCycles.TheSendSync.{the_send as two_send}
use Rattle.xm_design.proofs.design.Design.TheSendSync.{the_sync as design_sync}
use Rattle.xm_model.proofs.list.List.TheSendSync.{the_send as list_send, the_sync as list_sync}
use Rattle.xm_model.proofs.primitive.Primitive.TheSendSync.{the_sync as prim_sync}
use Rattle.xm_model.proofs.naming.Names.TheSendSync.{the_sync as names_sync}
use Rattle.xm_model.proofs.text.Text.TheSendSync.{the_send as text_send}
use Rattle.xm_parts.proofs.part.Cut.TheSendSync.{the_sync as cut_sync}
use Rattle.xm_parts.specs.contracts.part.Part.{the_row as part_row}
use Rattle.xm_parts.specs.contracts.parts.Parts.{the_row as parts_row}
use Rattle.xm_plan.proofs.operation.Operation.TheSendSync.{the_sync as op_sync}
use Rattle.xm_plan.specs.contracts.plan.Plan.{the_row as plan_row}
use Rattle.xm_tape.proofs.tape.Tape.TheSendSync.{the_sync as tape_sync}
use Rattle.xm_trace.proofs.run_text.RunText.TheSendSync.{the_send as run_text_send}
use Rattle.xm_work.specs.contracts.simulation.Simulation.{the_row as simulation_row}
use Rattle.xm_trace.proofs.trace.Move.TheSendSync.{the_send as move_send}

plan_sync : IsSync plan_row
plan_sync = search (list_sync, op_sync, sendable, crosses) depth 12

part_sync : IsSync part_row
part_sync = search (list_sync, prim_sync, cut_sync, plan_sync, sendable, crosses) depth 12

parts_sync : IsSync parts_row
parts_sync = search (list_sync, part_sync, sendable, crosses) depth 12

board_send : (κ : _) → IsSend (board_row κ)
board_send κ = search (core_send, newest_send, log_send, two_send, design_sync, tape_sync, parts_sync, list_send, option_send, move_send, sendable, crosses) depth 30

pub simulation_send : (κ : _) → IsSend (simulation_row κ)
simulation_send κ = search (board_send, design_sync, names_sync, tape_sync, parts_sync, run_text_send, text_send, list_send, sendable, crosses) depth 30
