use Rattle.std.specs.Prelude.{find}
use Rattle.chain_ids.specs.Chains.{same_chain}
use Rattle.network_spec.specs.declared.chain.ChainSpec.{ChainSpec}
use Rattle.chain_state.specs.PartOf.{part_of}
use Rattle.chain_net.proofs.Openings.{entry_found, opened_as, one_more}
use Rattle.chain_net.proofs.opening.all_states.Goals as goal

pub loop-entry-preserved : goal.loop-entry-preserved
loop-entry-preserved c =
    let spec = c.args.spec.now in
    let e = c.entry-item.result in
    let cs = c.items-chains.result.now in
    let i = c.loop-entry.entry-index in
    let found = entry_found spec.chains cs c.items-chains.ensures c.requires.openable.order i e c.loop-entry-test.true c.entry-item.is in
    one_more spec c.loop-entry.states.items c.push.new.self.items c.in_ok-open.field-0 cs i e c.loop-entry-test.true c.entry-item.is c.in_ok-push.ensures.items
    (opened_as spec (part_of c.in_ok-open.field-0) (find (λ (d : ChainSpec). same_chain d.chain e.chain) spec.chains) e found c.in_ok-open.ensures.opened) c.loop-entry.invariant
