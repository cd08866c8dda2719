use Rattle.std.proofs.Common.{◌≡◌, ◌∙◌, length, sym, arith}
use Rattle.document_entries.specs.Forms.{next_index}
use Rattle.network_config.proofs.Summing.{share_added, shares_end}
use Rattle.network_config.proofs.sums.add_shares.Goals as goal

pub loop-balance-preserved : goal.loop-balance-preserved
loop-balance-preserved c =
    let index : c.saturating_add-index.result ≡ next_index c.loop-balance.index = c.saturating_add-index.ensures in
    rw (c.in_ok-add_share.ensures, index) (share_added _ _ _ c.loop-balance.balance-index _ _ _ _ c.loop-balance-test.true c.balance-item.is c.share_of.ensures ∙ c.loop-balance.invariant)

pub returns : goal.returns
returns c = let all : length c.args.accounts.now ≡ c.loop-balance.balance-index = omega arith in sym (shares_end _ _ _ c.loop-balance.balance-index _ _ all) ∙ c.loop-balance.invariant
