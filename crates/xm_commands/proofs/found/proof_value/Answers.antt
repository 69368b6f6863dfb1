use Rattle.std.proofs.Common.{subst, sym}
use Rattle.xm_commands.proofs.Proving.{value_of}
use Rattle.xm_commands.specs.Inner.Proving.{known_in}
use Rattle.xm_proof.specs.Argument.{argument_of}
use Rattle.xm_proof_reader.specs.Known.{Known}
use Rattle.xm_proof_reader.specs.Views.{known_of}
use Rattle.xm_proof_writer.specs.Writable.{CanBeWritten}
use Rattle.xm_commands.proofs.found.proof_value.Goals as goal

pub write_proof-requires : goal.write_proof-requires
write_proof-requires c = subst (λ (k : Known). CanBeWritten k (argument_of c.args.proof.now)) (sym c.in_ok-known.ensures) c.requires

pub returns : goal.returns
returns c =
    let wrote = c.write_proof.ensures in
    value_of (known_of c.in_ok-known.known) (known_in c.args.prepared.now) (argument_of c.args.proof.now) c.write_proof.result c.in_ok-known.ensures wrote.value wrote.again wrote.part
