-- A teleport and a withdrawal leave the holding, and a lost teleport is booked.
use Rattle.std.specs.Prelude.{◌≡◌, ℕ, ◌+◌, ◌≤◌, Bool, true, false, if◌then◌else◌, List, Option, Some, refl}
use Rattle.std.proofs.Common.{sym, ap, ◌∙◌, arith}
use Rattle.amounts.specs.Amounts.{total, merge}
use Rattle.amounts.proofs.Lemmas.AmountLaws.{total_alike}
use Rattle.amounts.proofs.Lemmas.{total-merge}
use Rattle.asset_bundles.specs.declared.book.Cause.{Cause}
use Rattle.asset_bundles.specs.Bundles.{Bundle}
use Rattle.asset_bundles.proofs.Lemmas.Bundles.{unit_keys}
use Rattle.asset_bundles.specs.Books.{burned_for}
use Rattle.asset_lists.specs.Listed.{listed_of}
use Rattle.asset_bundles.proofs.Lemmas.{burn_keys, burned_for_total}
use Rattle.chain_ids.specs.declared.chain.ChainId.{ChainId}
use Rattle.trust_tables.specs.declared.rows.AssetRow.{AssetRow}
use Rattle.trust_tables.specs.declared.rows.AssetRole.TheVariants.{Derivative}
use Rattle.chain_ids.specs.Chains.{same_chain}
use Rattle.law_coherence.specs.UniversalAssets.{UniversalAsset, Choice, every, is_asset_at, is_unit_at, is_burn_at}
use Rattle.law_coherence.specs.Networks.{context_of, IsIn, asset_of_row, is_home}
use Rattle.law_coherence.specs.Parts.{Cargo, Withdrawal, Teleport, Part, stock, account_amount, held_for, burned, in_bundle}
use Rattle.law_coherence.specs.Channels.{has_channel, cargo_pushed, front, cargo_popped}
use Rattle.law_coherence.specs.Checking.{account_in, checking_at, risen}
use Rattle.law_coherence.proofs.Lemmas.Checking.{risen_by_none}
use Rattle.law_coherence.specs.Moves.{IsSent, IsLost}
use Rattle.plain_lists.proofs.Lemmas.Facts.{and_true as every_or}

abbrev pub GoodsSent : ChainId → Cargo → Bundle → List (Option ℕ) → Part → Part
GoodsSent to cargo left checking p = record p { holding = left; checking = checking; outgoing = cargo_pushed to cargo p.outgoing }

nothing_more : (b : Bool) (n : ℕ) → n + (if b then 0 else 0) ≤ n
nothing_more true n = omega arith
nothing_more false n = omega arith

module _ (to : ChainId) (b left : Bundle) (p : Part) (linked : has_channel to p.outgoing ≡ true) (whole : p.holding ≡ merge left b) where
  given : (a : UniversalAsset) (choice : Choice) → in_bundle p.table a choice p.holding ≡ in_bundle p.table a choice left + in_bundle p.table a choice b
  given a choice = ap (total (is_unit_at (context_of p.table) a choice)) whole ∙ total-merge unit_keys (is_unit_at (context_of p.table) a choice) left b

  pub teleport_sent : (checking : List (Option ℕ)) → ((a : UniversalAsset) → account_in p.table a p.table.rows checking ≡ risen (in_bundle p.table a every b) (checking_at a p))
      → IsSent to (Teleport b) p (GoodsSent to (Teleport b) left checking p)
  unfolding stock burned account_amount
  teleport_sent checking raised = record {
    table = refl;
    linked = linked;
    outgoing = refl;
    kept = λ a. let x = given a every in omega (arith, x);
    less = λ a choice. let x = given a choice in omega (arith, x);
    covered = λ chain a count number foreign_chain. nothing_more (same_chain to chain) (held_for chain a count p);
    raised = raised;
    foreign = λ a home. refl;
  }

  pub withdrawal_sent : ((a : UniversalAsset) → is_home a p.table ≡ true → in_bundle p.table a every b ≡ 0) → IsSent to (Withdrawal b) p (GoodsSent to (Withdrawal b) left p.checking p)
  unfolding stock burned account_amount
  withdrawal_sent away = record {
    table = refl;
    linked = linked;
    outgoing = refl;
    kept = λ a. let x = given a every in omega (arith, x);
    less = λ a choice. let x = given a choice in omega (arith, x);
    covered = λ chain a count number foreign_chain. nothing_more (same_chain to chain) (held_for chain a count p);
    raised = λ a. sym (risen_by_none (checking_at a p));
    foreign = away;
  }

abbrev pub TeleportLost : ChainId → Bundle → Part → Part
TeleportLost to b p = record p { burns = merge p.burns (burned_for Cause.LostTeleport b); outgoing = cargo_popped to p.outgoing }

pub teleport_lost : (to : ChainId) (b : Bundle) (p : Part) → front to p.outgoing ≡ Some (Teleport b)
    → ((row : AssetRow) (chain : ChainId) (choice : Choice) → IsIn p.table.rows row → row.role ≡ Derivative chain → in_bundle p.table (asset_of_row p.table row) choice b ≡ 0)
    → IsLost to (Teleport b) p (TeleportLost to b p)
unfolding stock burned account_amount
teleport_lost to b p first native = record {
  table = refl;
  checking = refl;
  first = first;
  outgoing = refl;
  burns_now = λ a.
      let all = total-merge burn_keys (is_burn_at (context_of p.table) a) p.burns (burned_for Cause.LostTeleport b) in
      let books = burned_for_total (is_asset_at (context_of p.table) a) Cause.LostTeleport b in
      let same : total (is_unit_at (context_of p.table) a every) b ≡ total (λ u. is_asset_at (context_of p.table) a (listed_of u)) b =
      total_alike (is_unit_at (context_of p.table) a every) (λ u. is_asset_at (context_of p.table) a (listed_of u)) b (λ u. every_or (is_asset_at (context_of p.table) a (listed_of u))) in
      omega (arith, all, books, same);
  stock_same = λ a choice. refl;
  held_same = λ chain a count. refl;
  native = native;
}
