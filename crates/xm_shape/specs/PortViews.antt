-- The code's ports, in plain lists.
use Rattle.std.specs.Prelude.{List, Option, ◌∷◌, ◌++◌, map, option_map}
use Rattle.xm_shape.specs.Names.{Name}
use Rattle.std.specs.Option.{option_to_list}
use Rattle.xm_shape.specs.NamedNet as plain
use Rattle.xm_shape.specs.declared.channels.Port.{Port}
use Rattle.xm_shape.specs.declared.channels.Ports.{Ports}

abbrev pub port_of : Port → plain.Port
port_of port = (port.key.now, port.channel.now)

abbrev pub plain_ports_of : Ports → List plain.Port
plain_ports_of ports =
    port_of ports.first ∷ option_to_list (option_map port_of ports.second)
    ++ option_to_list (option_map port_of ports.third)

abbrev pub plain_channels_of : Option Port → List Name
plain_channels_of port = map (λ (p : plain.Port). p.1) (option_to_list (option_map port_of port))
