use Rattle.std.proofs.Common.{◌≡◌, ◌+◌, ◌-◌, ◌≤◌, ◌^◌, None, subst, arith}
use Rattle.amounts.specs.Amounts.{amount}
use Rattle.asset_bundles.specs.Totals.{total_value, wide_value}
use Rattle.exec_base.specs.Host.{fees_above}
use Rattle.chain_state.specs.PartOf.{part_of}
use Rattle.chain_state.proofs.Settled.{share_above, share_within, share_free, barred_coins, none_in}
use Rattle.chain_state.proofs.state.ChainState.share.Goals as goal

pub returns : goal.returns
returns c =
    let p = part_of c.args.self.now in
    let id = c.args.id.now in
    let held = c.amount-held.result in
    let paid = c.args.paid in
    let kept = total_value c.args.kept in
    let fits = c.parted.result.0 in
    let rest = wide_value c.parted.result.1 in
    let above : rest ≡ amount (fees_above p) (id, None) = share_above p (id, None) held paid kept rest c.amount-held.ensures.amount c.amount-held.type_inv c.requires.paid c.requires.kept c.parted.ensures.above in
    record {
      within = share_within p (id, None) paid kept rest fits c.requires.paid c.requires.kept above c.parted.ensures.fits;
      above = above;
      free = barred_coins p.held p.fee_account id fits (subst (λ n. n + fits ≤ 2 ^ 128 - 1) c.amount-held.ensures.amount
          (share_free held paid kept rest fits (2 ^ 128 - 1) (let small = c.amount-held.type_inv in omega (arith, small)) c.parted.ensures.above c.parted.ensures.fits));
    }

pub returns-then-kept-eq0-2-clause-within : goal.returns-then-kept-eq0-2-clause-within
returns-then-kept-eq0-2-clause-within c =
    let no_kept : total_value c.args.kept ≡ 0 = let high = c.if-kept-eq0.true in let low = c.if-kept-eq0-2.true in omega (arith, high, low) in
    (none_in (part_of c.args.self.now) (c.args.id.now, None) _ _ c.requires.paid c.requires.kept c.if-paid-eq0.true no_kept).0

pub returns-then-kept-eq0-2-clause-above : goal.returns-then-kept-eq0-2-clause-above
returns-then-kept-eq0-2-clause-above c =
    let no_kept : total_value c.args.kept ≡ 0 = let high = c.if-kept-eq0.true in let low = c.if-kept-eq0-2.true in omega (arith, high, low) in
    (none_in (part_of c.args.self.now) (c.args.id.now, None) _ _ c.requires.paid c.requires.kept c.if-paid-eq0.true no_kept).1
