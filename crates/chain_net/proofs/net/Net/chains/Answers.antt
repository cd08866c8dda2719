use Rattle.std.proofs.Common.{◌∙◌, ap, map}
use Rattle.chain_state.specs.PartOf.{part_of}
use Rattle.chain_net.proofs.Members.{parts}
use Rattle.chain_net.proofs.net.Net.chains.Goals as goal

pub returns : goal.returns
returns c = ap (map part_of) c.as_slice.ensures.value ∙ parts c.args.self.now.rules.items c.args.self.now.chains.items c.args.self.now.ruled
