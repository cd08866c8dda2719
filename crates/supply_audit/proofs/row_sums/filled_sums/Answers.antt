use Rattle.std.proofs.Common.{◌≡◌, ◌∙◌, List, length, drop, ap, sym, subst}
use Rattle.std.specs.Prelude.{map}
use Rattle.std.specs.List.{IsDistinct}
use Rattle.std.specs.Ordering.{eq_by_cmp}
use Rattle.asset_lists.specs.Listed.{listed_cmp}
use Rattle.asset_bundles.specs.declared.totals.Total.{Total}
use Rattle.trust_tables.specs.Trust.{listing}
use Rattle.ledgers.specs.Ledgers.{Accounts}
use Rattle.chain_queues.specs.Queues.{outgoing_of}
use Rattle.chain_state.specs.Known.{apart_there}
use Rattle.chain_state.specs.PartOf.{part_of}
use Rattle.supply_audit.specs.Found.{sum_in_row}
use Rattle.supply_audit.proofs.Found.{all_sent, as_many, whole}
use Rattle.supply_audit.proofs.row_sums.filled_sums.Goals as goal

pub add_channels-requires-clause-sums : goal.add_channels-requires-clause-sums
add_channels-requires-clause-sums c =
    let p = part_of c.args.chain.now in
    let listed : c.ledger.result.now.listed ≡ listing p.rows = ap (λ (l : Accounts). l.listed) c.ledger.ensures.ledger in (
      ap length c.deref_mut.ensures.value ∙ c.in_ok-sums.ensures.count ∙ ap length c.rows-rows.ensures ∙ as_many p.rows ∙ sym (ap length listed),
      subst (IsDistinct (eq_by_cmp listed_cmp)) (sym listed) (apart_there c.args.chain.now),
    )

pub add_channels-requires-clause-listed : goal.add_channels-requires-clause-listed
add_channels-requires-clause-listed c =
    ap (λ (l : Accounts). l.listed) c.ledger.ensures.ledger ∙ sym (ap listing c.rows-rows.ensures)

pub returns : goal.returns
returns c =
    let p = part_of c.args.chain.now in
    let new = c.add_channels.new.sums in
    let listed : c.ledger.result.now.listed ≡ listing p.rows = ap (λ (l : Accounts). l.listed) c.ledger.ensures.ledger in
    let channels : map outgoing_of c.channels.result.now ≡ p.channels = c.channels.ensures ∙ c.queues.ensures.channels in
    let many : length c.deref_mut.result.now ≡ length c.ledger.result.now.listed =
    ap length c.deref_mut.ensures.value ∙ c.in_ok-sums.ensures.count ∙ ap length c.rows-rows.ensures ∙ as_many p.rows ∙ sym (ap length listed) in
    let back = whole c.in_ok-sums.sums.len new (drop (length new) c.in_ok-sums.sums.items) (c.add_channels.ensures.sums.0 ∙ sym many ∙ c.deref_mut.ensures.len) in
    let sent = all_sent c.args.what c.args.to p c.ledger.result.now.listed (map outgoing_of c.channels.result.now) c.deref_mut.result.now new listed channels
    (λ row. ap (λ (xs : List Total). sum_in_row xs row) c.deref_mut.ensures.value ∙ c.in_ok-sums.ensures.zero row) c.add_channels.ensures.sums.0 c.add_channels.ensures.rise in
    λ row. ap (λ (xs : List Total). sum_in_row xs row) back ∙ sent row
