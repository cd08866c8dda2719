use Rattle.std.proofs.Common.{◌∙◌, ap, sym, List}
use Rattle.std.specs.Prelude.{option_map, find}
use Rattle.chain_net.specs.declared.links.Link.{Link}
use Rattle.chain_net.specs.Links.{waits_at}
use Rattle.chain_net.proofs.Standing.{found_link}
use Rattle.chain_net.proofs.net.Net.next_channel.Goals as goal

pub returns-in_err-link : goal.returns-in_err-link
returns-in_err-link c =
    let n = c.args.self.now in
    c.from_residual.ensures ∙ ap (option_map (λ (x : Link). (x.from, x.to))) c.in_err-link.ensures
    ∙ ap (λ (ls : List Link). option_map (λ (x : Link). (x.from, x.to)) (find (waits_at n.chains.items) ls)) n.linked
    ∙ sym (found_link n.rules.items n.chains.items n.names.items n.ruled n.named n.spec.channels)

pub returns : goal.returns
returns c =
    let n = c.args.self.now in
    ap (option_map (λ (x : Link). (x.from, x.to))) c.in_ok-link.ensures
    ∙ ap (λ (ls : List Link). option_map (λ (x : Link). (x.from, x.to)) (find (waits_at n.chains.items) ls)) n.linked
    ∙ sym (found_link n.rules.items n.chains.items n.names.items n.ruled n.named n.spec.channels)
