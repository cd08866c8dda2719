-- A delivery's first instruction as a move: the list of a teleport or of a deposit comes to the receiver's holding.
use Rattle.std.specs.Prelude.{◌≡◌, ℕ, ◌+◌, List, Option, Some, refl}
use Rattle.std.proofs.Common.{arith}
use Rattle.amounts.specs.Amounts.{total, merge}
use Rattle.amounts.proofs.Lemmas.AmountLaws.{total_alike}
use Rattle.amounts.proofs.Lemmas.{total-merge}
use Rattle.asset_lists.specs.declared.units.Asset.{Asset}
use Rattle.asset_bundles.specs.Bundles.{bundle_of}
use Rattle.asset_bundles.specs.Books.{given_up}
use Rattle.asset_lists.specs.Listed.{listed_of}
use Rattle.asset_lists.specs.Listed.{listed_of}
use Rattle.asset_bundles.specs.Joins.{Joined, Excess}
use Rattle.asset_bundles.proofs.Lemmas.{burn_keys}
use Rattle.law_coherence.specs.UniversalAssets.{UniversalAsset, Choice, every, is_asset_at, is_unit_at, is_burn_at}
use Rattle.law_coherence.specs.Networks.{context_of}
use Rattle.law_coherence.specs.Parts.{Cargo, Part, chain_of_part, stock, account_amount, burned, teleported, deposited_amount}
use Rattle.law_coherence.specs.Channels.{front, cargo_popped}
use Rattle.law_coherence.specs.Checking.{account_in, checking_at, risen}
use Rattle.law_coherence.specs.Moves.{IsReceived}
use Rattle.asset_bundles.proofs.Lemmas.{given_up_total, joined_total}
use Rattle.plain_lists.proofs.Lemmas.Facts.{and_true as every_or}

abbrev pub WithoutFront : Part → Part → Part
WithoutFront q p = record p { outgoing = cargo_popped (chain_of_part q) p.outgoing }

abbrev pub WithList : List Asset → List (Option ℕ) → Part → Part
WithList new checking q = record q { holding = Joined q.holding (bundle_of new); burns = merge q.burns (given_up q.holding (bundle_of new)); checking = checking }

-- the list is of the cargo
abbrev pub IsListFor : Cargo → List Asset → Part → Part → Type 0
IsListFor cargo new p q = (a : UniversalAsset) (choice : Choice) → total (is_unit_at (context_of q.table) a choice) (bundle_of new) ≡ teleported p.table a choice cargo + deposited_amount p.table a choice cargo

-- what is teleported is taken out of the checking accounts
abbrev pub AreLowered : Cargo → List (Option ℕ) → Part → Part → Type 0
AreLowered cargo checking p q = (a : UniversalAsset) → checking_at a q ≡ risen (teleported p.table a every cargo) (account_in q.table a q.table.rows checking)

pub list_received : (cargo : Cargo) (new : List Asset) (checking : List (Option ℕ)) (p q : Part) → front (chain_of_part q) p.outgoing ≡ Some cargo → IsListFor cargo new p q → AreLowered cargo checking p q
    → IsReceived cargo p (WithoutFront q p) q (WithList new checking q)
unfolding stock burned account_amount
list_received cargo new checking p q first same lowered = record {
  table = refl;
  checking = refl;
  first = first;
  outgoing = refl;
  burns_now = λ a. refl;
  stock_same = λ a choice. refl;
  held_same = λ chain a count. refl;
  there = refl;
  there_outgoing = refl;
  kept = λ a.
      let got = joined_total (is_unit_at (context_of q.table) a every) q.holding (bundle_of new) in
      let rest : total (is_unit_at (context_of q.table) a every) (Excess q.holding (bundle_of new)) ≡ total (λ u. is_asset_at (context_of q.table) a (listed_of u)) (Excess q.holding (bundle_of new)) =
      total_alike (is_unit_at (context_of q.table) a every) (λ u. is_asset_at (context_of q.table) a (listed_of u)) (Excess q.holding (bundle_of new)) (λ u. every_or (is_asset_at (context_of q.table) a (listed_of u))) in
      let books = given_up_total (is_asset_at (context_of q.table) a) q.holding (bundle_of new) in
      let all = total-merge burn_keys (is_burn_at (context_of q.table) a) q.burns (given_up q.holding (bundle_of new)) in
      let list = same a every in
      omega (arith, got, rest, books, all, list);
  more = λ a choice.
      let got = joined_total (is_unit_at (context_of q.table) a choice) q.holding (bundle_of new) in
      let list = same a choice in
      omega (arith, got, list);
  covered = λ chain a count number foreign. omega arith;
  lowered = lowered;
}
