use Rattle.std.proofs.Common.{◌≡◌, ◌++◌, drop}
use Rattle.chain_net.specs.Links.{found_links}
use Rattle.chain_net.proofs.links.all_links.Given as goal

abbrev pub invariant-loop-entry : goal.invariant-loop-entry
invariant-loop-entry l = l.all.items ++ found_links l.names l.chains (drop l.entry-index l.entries) ≡ found_links l.names l.chains l.entries
