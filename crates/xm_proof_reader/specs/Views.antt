-- What the code knows, as definitions see it.
use Rattle.xm_model.specs.Naming.{texts_of}
use Rattle.xm_proof_reader.specs.Known as plain
use Rattle.xm_proof_reader.specs.declared.known.Known.{Known}

abbrev pub known_of : Known → plain.Known
known_of known = plain.known_by known.design.now (record {
  prims = texts_of known.prims.names.now;
  channels = texts_of known.channels.names.now;
  colours = texts_of known.colours.names.now;
})
