use Rattle.std.proofs.Common.{refl, sym, ◌∙◌, subst}
use Rattle.xcm_program.specs.declared.instruction.Instruction.TheOpen.{Instruction-F}
use Rattle.exec_base.specs.Sending.{IsForwardable}
use Rattle.chain_state.proofs.Locked.{amount_here, moved_asset, one_forwardable}
use Rattle.chain_state.proofs.state.ChainState.ready_request.Goals as goal

pub encoded_to-requires : goal.encoded_to-requires
encoded_to-requires c =
    let named = moved_asset c.args.locker.now c.path.result c.args.asset.now c.in-Some.seen (sym c.in_ok-seen.ensures ∙ c.in-Some.is) in
    let some = amount_here (Instruction-F.RequestUnlock c.args.asset.now c.args.locker.now) c.requires.forwardable in
    record { forwardable = subst IsForwardable (sym c.in_ok-program.ensures) (one_forwardable (Instruction-F.UnlockAsset c.in-Some.seen c.in_ok-target.target) refl named.0 (named.1 ∙ some)) }
