use Rattle.std.proofs.Common.{◌≡◌, ◌∙◌, ◌+◌, sym}
use Rattle.std.specs.Prelude.{nat_lt, true, if◌then◌else◌}
use Rattle.std.specs.Ordering.{eq_by_cmp}
use Rattle.document_entries.specs.Entries.{amount_limit}
use Rattle.network_config.specs.Totals.{total_key_cmp, total_key_of, total_under_key}
use Rattle.network_config.proofs.Summing.{sum_told, sum_exact}
use Rattle.network_config.proofs.sums.add_total.Goals as goal

pub returns-in-Ok-clause-added : goal.returns-in-Ok-clause-added
returns-in-Ok-clause-added c = λ q.
    let key : c.key_of-key.result ≡ total_key_of c.args.share.now = c.key_of-key.ensures in
    let told : c.total_in.result ≡ total_under_key c.args.totals.now.entries (total_key_of c.args.share.now) = rw key at c.total_in.ensures in
    let below : nat_lt c.saturating_add-sum.result amount_limit ≡ true = sym c.is_within.ensures ∙ c.if-not-is_within.false in
    let exact : c.saturating_add-sum.result ≡ c.total_in.result + c.args.share.now.amount = sum_exact _ _ c.saturating_add-sum.ensures below in
    c.in-Ok.ensures q
    ∙ (λ i. if eq_by_cmp total_key_cmp (key i) q then (exact ∙ (λ j. told j + c.args.share.now.amount)) i else total_under_key c.args.totals.now.entries q)

pub returns-in-Ok-clause-below : goal.returns-in-Ok-clause-below
returns-in-Ok-clause-below c =
    let key : c.key_of-key.result ≡ total_key_of c.args.share.now = c.key_of-key.ensures in
    let told : c.total_in.result ≡ total_under_key c.args.totals.now.entries (total_key_of c.args.share.now) = rw key at c.total_in.ensures in
    let below : nat_lt c.saturating_add-sum.result amount_limit ≡ true = sym c.is_within.ensures ∙ c.if-not-is_within.false in
    sym (λ i. nat_lt (told i + c.args.share.now.amount) amount_limit) ∙ sum_told _ _ true c.saturating_add-sum.ensures below
