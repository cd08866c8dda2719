use Rattle.std.proofs.Common.{◌∙◌, ap}
use Rattle.chain_net.specs.Links.{link_of}
use Rattle.chain_net.proofs.Standing.{given_none, given_one}
use Rattle.chain_net.proofs.links.all_links.Goals.{in-Some+in_ok-push, in_default}
use Rattle.chain_net.proofs.links.all_links.Goals as goal

pub loop-entry-preserved : goal.loop-entry-preserved
loop-entry-preserved c =
    let f = link_of c.args.names.now c.args.chains.now in
    let xs = c.args.entries.now in
    let i = c.loop-entry.entry-index in
    let all = c.loop-entry.all.items in
    let now = c.match-link_of.all.items in
    let entry = c.entry-item.result in
    elim c.match-link_of.branch [
      | in-Some+in_ok-push w ↦ given_one f xs i c.loop-entry-test.true all now c.loop-entry.invariant entry w.in-Some.link (ap (λ v. v.items) w.all-is ∙ w.in_ok-push.ensures.items) (w.in-Some.ensures ∙ ap f c.entry-item.is)
      | in_default w ↦ given_none f xs i c.loop-entry-test.true all now c.loop-entry.invariant entry (ap (λ v. v.items) w.all-is) (w.in_default.ensures ∙ ap f c.entry-item.is)
    ]
