-- Lemmas: a message's list that came, and that memory was refused to be joined with: it is among the parked bundles. A reader may skip this file.
use Rattle.std.proofs.Common.{◌≡◌, ℕ, ◌+◌, List, [], ◌∷◌, ◌++◌, Option, Some, refl, sym, ap, ◌∙◌, arith}
use Rattle.std.specs.Prelude.{◌≢◌}
use Rattle.std.proofs.lemmas.List.Sums.{sum_by_push}
use Rattle.amounts.specs.Amounts.{total, difference, IsWithin}
use Rattle.amounts.proofs.Lemmas.{total-difference}
use Rattle.asset_lists.specs.declared.units.Asset.{Asset}
use Rattle.asset_bundles.specs.Bundles.{Bundle, bundle_of}
use Rattle.ledgers.specs.Ledgers.{Holder, held_by}
use Rattle.ledgers.proofs.Lemmas.{holder_keys, held_by_total}
use Rattle.trust_tables.specs.Accounts.{IsChain, sovereign_account}
use Rattle.law_coherence.specs.UniversalAssets.{UniversalAsset, Choice, every, is_unit_at}
use Rattle.law_coherence.specs.Networks.{context_of}
use Rattle.law_coherence.specs.Parts.{Cargo, Withdrawal, Part, chain_of_part, in_bundle, stock, account_amount, burned}
use Rattle.law_coherence.specs.Channels.{front}
use Rattle.law_coherence.specs.Moves.{IsReceived}
use Rattle.law_coherence.proofs.Lemmas.Landings.{WithoutFront, IsListFor, AreLowered}
use Rattle.law_coherence.proofs.Lemmas.Accounts.{paid_received}

-- goods are parked
abbrev pub Aside : Bundle → Part → Part
Aside goods q = record q { parked = q.parked ++ goods ∷ [] }

-- the list is drawn from the sender's account
abbrev pub Drawn : Part → List Asset → Part → Part
Drawn p assets q = record q { held = difference q.held (held_by (sovereign_account (chain_of_part q) (chain_of_part p)) (bundle_of assets)) }

pub list_aside : (cargo : Cargo) (new : List Asset) (checking : List (Option ℕ)) (p q : Part) → front (chain_of_part q) p.outgoing ≡ Some cargo → IsListFor cargo new p q → AreLowered cargo checking p q
    → IsReceived cargo p (WithoutFront q p) q (Aside (bundle_of new) (record q { checking = checking }))
unfolding stock burned account_amount
list_aside cargo new checking p q first same lowered = record {
  table = refl;
  checking = refl;
  first = first;
  outgoing = refl;
  burns_now = λ a. refl;
  stock_same = λ a choice. refl;
  held_same = λ chain a count. refl;
  there = refl;
  there_outgoing = refl;
  kept = λ a. let put = sum_by_push (in_bundle q.table a every) q.parked (bundle_of new) in let list = same a every in omega (arith, put, list);
  more = λ a choice. let put = sum_by_push (in_bundle q.table a choice) q.parked (bundle_of new) in let list = same a choice in omega (arith, put, list);
  covered = λ chain a count number foreign. omega arith;
  lowered = lowered;
}

pub paid_aside : (goods : Bundle) (assets : List Asset) (p q : Part) → front (chain_of_part q) p.outgoing ≡ Some (Withdrawal goods) → IsChain (chain_of_part p) → chain_of_part p ≢ chain_of_part q
    → IsWithin (held_by (sovereign_account (chain_of_part q) (chain_of_part p)) (bundle_of assets)) q.held
    → ((a : UniversalAsset) (choice : Choice) → total (is_unit_at (context_of q.table) a choice) (bundle_of assets) ≡ total (is_unit_at (context_of p.table) a choice) goods)
    → IsReceived (Withdrawal goods) p (WithoutFront q p) q (Aside (bundle_of assets) (Drawn p assets q))
unfolding stock burned account_amount
paid_aside goods assets p q first number_p apart within same_goods =
    let account = sovereign_account (chain_of_part q) (chain_of_part p) in
    let gone : (a : UniversalAsset) (choice : Choice) → total (λ (h : Holder). is_unit_at (context_of q.table) a choice h.1) (difference q.held (held_by account (bundle_of assets))) + total (is_unit_at (context_of q.table) a choice) (bundle_of assets)
    ≡ total (λ (h : Holder). is_unit_at (context_of q.table) a choice h.1) q.held = λ a choice.
    ap (λ k. total (λ (h : Holder). is_unit_at (context_of q.table) a choice h.1) (difference q.held (held_by account (bundle_of assets))) + k) (sym (held_by_total (λ (h : Holder). is_unit_at (context_of q.table) a choice h.1) account (bundle_of assets)))
    ∙ total-difference holder_keys (λ (h : Holder). is_unit_at (context_of q.table) a choice h.1) q.held (held_by account (bundle_of assets)) within in
    let paid = paid_received goods assets p q first number_p apart within same_goods in
    record {
      table = refl;
      checking = refl;
      first = first;
      outgoing = refl;
      burns_now = λ a. refl;
      stock_same = λ a choice. refl;
      held_same = λ chain a count. refl;
      there = refl;
      there_outgoing = refl;
      kept = λ a. let put = sum_by_push (in_bundle q.table a every) q.parked (bundle_of assets) in let x = gone a every in omega (arith, put, x);
      more = λ a choice. let put = sum_by_push (in_bundle q.table a choice) q.parked (bundle_of assets) in let x = gone a choice in omega (arith, put, x);
      covered = paid.covered;
      lowered = paid.lowered;
    }
