use Rattle.std.proofs.Common.{◌∙◌, string_bytes, sym}
use Rattle.std.specs.Str.{bytes_eq}
use Rattle.xm_json.specs.Lemmas.Lists.{list_any-map}
use Rattle.xm_shape.proofs.channels.is_channel.Goals as goal

pub returns : goal.returns
returns c = c.contains.ensures ∙ sym (list_any-map (bytes_eq c.args.name.now) string_bytes c.args.channels.now.keys)
