-- Inner: what the verdict on a proof comes from, and why there is none.
use Rattle.std.specs.Prelude.{Result, option_map}
use Rattle.serde_json.specs.View.{view}
use Rattle.xm_commands.specs.declared.prepared.Prepared.{Prepared}
use Rattle.xm_json.specs.Path.{Path}
use Rattle.xm_model.specs.Naming.{naming_of}
use Rattle.xm_model.specs.Net.{Network}
use Rattle.xm_persist.specs.Rights.{IsFirstUngranted}
use Rattle.xm_persist.specs.declared.fault.PersistFault.{PersistFault}
use Rattle.xm_persist.specs.declared.fault.PersistFault.TheVariants as fault
use Rattle.xm_proof.specs.Argument.{Argument}
use Rattle.xm_proof_reader.specs.Known.{known_by}
use Rattle.xm_proof_reader.specs.Reading.{proof_in}

-- the proof of what was prepared, or the path where its form is first broken
abbrev pub proof_read : Prepared → Result Argument Path
proof_read it = proof_in (known_by it.design (naming_of it.names)) (option_map view it.proof)

-- the channel is the first that is granted no persistent initiator; want of memory says nothing
abbrev pub IsPersistFault : Network → PersistFault → Type 0
IsPersistFault net (fault.NotPersistent c) = IsFirstUngranted net c
IsPersistFault net fault.OutOfMemory = Unit {0}
