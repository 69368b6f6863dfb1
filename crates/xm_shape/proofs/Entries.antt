-- The channels that entries of `allow` name.
use Rattle.std.proofs.Common.{◌≡◌, Bool, List, map, string_bytes, sym, ◌∙◌}
use Rattle.std.specs.List.{list_all}
use Rattle.std.proofs.lemmas.List.Folds.{list_all-map}
use Rattle.xm_shape.specs.NamedNet as plain
use Rattle.xm_shape.specs.NamedNet.{channel_names}
use Rattle.xm_shape.specs.Views.{allow_entry_of}
use Rattle.xm_shape.specs.Names.{Name, is_among}
use Rattle.xm_shape.specs.Shape.{are_channels}
use Rattle.xm_shape.specs.declared.named_net.AllowEntry.{AllowEntry}

pub are_channels-known : (channels : List Name) (primitives : List plain.NamedPrimitive) (entries : List AllowEntry) (passes : Bool) → channels ≡ channel_names primitives
    → passes ≡ list_all (λ e. is_among channels (string_bytes e.channel)) entries → are_channels primitives (map allow_entry_of entries) ≡ passes
are_channels-known channels primitives entries passes known tested =
    list_all-map (λ e. is_among (channel_names primitives) e.channel) allow_entry_of entries ∙ rw (← known) (sym tested)
