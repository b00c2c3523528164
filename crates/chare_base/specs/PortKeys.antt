-- Ports by their places among the entries and the reductions.
use Rattle.chare_base.specs.declared.message.Port.{Port}
use Rattle.chare_base.specs.declared.rules.ports.PortKey.{PortKey}
use Rattle.chare_base.specs.declared.rules.ports.PortKey.TheVariants.{Entry, Total}
use Rattle.chare_base.specs.Ports.{entry_port, total_port}

abbrev pub port_of : PortKey → Port
port_of (Entry x) = entry_port x
port_of (Total r) = total_port r
