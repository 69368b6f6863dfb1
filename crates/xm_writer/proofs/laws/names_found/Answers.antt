use Rattle.xm_writer.proofs.AgainNames.{number_again}
use Rattle.xm_writer.proofs.AgainText.{has_texts}
use Rattle.xm_writer.proofs.laws.names_found.Goals as goal

pub returns : goal.returns
returns c = λ doc valid. record {
  texts = has_texts doc valid;
  prims = λ i lt. number_again doc.names.prims i valid.prims.distinct lt;
  channels = λ i lt. number_again doc.names.channels i valid.channels.distinct lt;
  colours = λ i lt. number_again doc.names.colours i valid.colours.distinct lt;
}
