use Rattle.std.proofs.Common.{◌≡◌, ◌++◌, List, sym, ap, ◌∙◌, subst}
use Rattle.std.specs.Prelude.{None}
use Rattle.asset_lists.specs.declared.units.Asset.{Asset}
use Rattle.asset_bundles.specs.Bundles.{rows_of}
use Rattle.asset_bundles.specs.Totals.{wide_value}
use Rattle.ledgers.specs.Ledgers.{barred}
use Rattle.chain_state.specs.Fees.{Fee, some_row}
use Rattle.chain_state.specs.PartOf.{part_of}
use Rattle.chain_state.specs.Settling.{some_coins}
use Rattle.chain_state.proofs.Settled.{lone_paid, lone_kept, lone_within, lone_above}
use Rattle.chain_state.proofs.state.ChainState.lone_share.Goals as goal

pub share-fits-requires : goal.share-fits-requires
share-fits-requires c = record {
  paid = lone_paid (part_of c.args.self.now) c.args.id.now c.args.paid c.requires.paid c.requires.clear;
  kept = lone_kept (part_of c.args.self.now) c.args.id.now c.args.paid c.requires.paid c.requires.clear;
}

pub returns : goal.returns
returns c =
    let p = part_of c.args.self.now in
    let id = c.args.id.now in
    let fits = c.share-fits.result.0 in
    let rest = wide_value c.share-fits.result.1 in
    let coins = c.in_ok-push_coins.ensures ∙ ap (λ (xs : List Asset). xs ++ some_coins id fits) c.new-within.ensures.items in
    let above = c.in_ok-push_above.ensures ∙ ap (λ (xs : List Fee). xs ++ some_row (id, None) rest) c.new-above.ensures.items in
    record {
      within = ap rows_of coins ∙ lone_within p id c.args.paid c.requires.paid c.requires.clear fits c.share-fits.ensures.within;
      free = subst (λ (xs : List Asset). barred p.held p.fee_account xs ≡ None) (sym coins) c.share-fits.ensures.free;
      above = above ∙ lone_above p id c.args.paid c.requires.paid c.requires.clear rest c.share-fits.ensures.above;
    }
