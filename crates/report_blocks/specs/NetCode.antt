-- For proofs alone: a reader may skip this file. How a proof tells networks apart.
use Rattle.std.specs.Coded.{Coded}
use Rattle.chain_net.specs.declared.net.Net.{Net}
use Rattle.chain_net.specs.contracts.net.Net as net

abbrev pub net_code : Coded Net
net_code = net.the_row.coded
