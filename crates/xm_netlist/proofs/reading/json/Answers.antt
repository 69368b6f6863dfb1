use Rattle.std.proofs.Common.{◌∙◌, sym, true≢false}
use Rattle.xm_netlist.specs.Lemmas.Json.{json_known, json_refused}
use Rattle.xm_netlist.proofs.reading.json.Goals as goal

pub returns-in-Ok-clause-read : goal.returns-in-Ok-clause-read
returns-in-Ok-clause-read c = json_known c.args.bytes.now _ c.in-Ok.ensures.ok.0 c.in-Ok.ensures.ok.1

pub returns-else-is_memory-clause-read : goal.returns-else-is_memory-clause-read
returns-else-is_memory-clause-read c =
    json_refused c.args.bytes.now (c.in-Err.ensures.err (λ memory. absurd (true≢false (sym (c.is_memory.ensures.1 memory) ∙ c.if-is_memory.false))))
