-- Lemmas on the definitions of `specs/Calls.antt`: what proofs cite.
use Rattle.std.proofs.Common.{◌≡◌, inl, inr, ℕ, zero, suc, ◌+◌, ◌-◌, ◌^◌, ◌<◌, ◌≤◌, Bool, true, false, ◌&&◌, List, [], ◌∷◌, length, Option, Some, None, get_or, refl, sym, ap, ◌∙◌, subst, arith}
use Rattle.std.proofs.lemmas.Bool.{cases_Bool}
use Rattle.std.specs.Prelude.{◌++◌, nat_le, is_some, if◌then◌else◌, remove, position, IsTrue, min}
use Rattle.std.specs.Option.{option_map_or}
use Rattle.std.specs.List.{sum_by}
use Rattle.std.specs.Ordering.{eq_by_cmp}
use Rattle.std.proofs.lemmas.Bool.Decides.{nat_tests}
use Rattle.std.proofs.lemmas.List.Quantifiers.{position-Some}
use Rattle.std.proofs.lemmas.List.Sums.{sum_by-cons, sum_by_push}
use Rattle.amounts.specs.Amounts.{amount, total, empty, rows, merge, map_keys, IsWithin}
use Rattle.amounts.proofs.Lemmas.AmountLaws.{total-empty, total-rows, total_alike, same_amounts}
use Rattle.amounts.specs.Rows.{sum_where}
use Rattle.amounts.proofs.Lemmas.{key_same, same_key, amount-merge, amount_at_most, total-merge, total-difference, total-map_keys, total-single, total_none}
use Rattle.locations.specs.declared.relative.Location.{Location}
use Rattle.operands.specs.declared.weight.Weight.{Weight}
use Rattle.asset_lists.specs.declared.units.Asset.{Asset}
use Rattle.asset_lists.specs.declared.units.Fun.{Fun}
use Rattle.asset_lists.specs.Lists.{IsAssetList}
use Rattle.asset_lists.specs.Units.{Unit, unit_of, unit_cmp, amount_of}
use Rattle.asset_lists.specs.Listed.{Listed, listed_cmp, listed_of}
use Rattle.asset_bundles.specs.declared.book.Cause.{Cause}
use Rattle.asset_bundles.specs.Bundles.{Bundle, bundle_of, held_assets, assets_of_rows}
use Rattle.asset_bundles.proofs.Lemmas.Bundles.{unit_keys}
use Rattle.asset_bundles.proofs.Lemmas.BundleLaws.{bundle_of-none, total-bundle_of}
use Rattle.asset_bundles.specs.Changed.{with_amounts}
use Rattle.asset_bundles.proofs.Lemmas.Changed.{amount-with_amounts}
use Rattle.asset_bundles.specs.Joins.{Joined, Excess}
use Rattle.asset_bundles.specs.Books.{Burn, Burns, burned_for, given_up, excess_cause, is_unit_where, is_unit_of, is_burn_where, most_burned, AreTotals, Booked}
use Rattle.asset_bundles.proofs.Lemmas.Books.{is_burn_of}
use Rattle.asset_bundles.proofs.Lemmas.{listed_keys, burn_keys, burned_for_total, given_up_total, joined_total, booked_below}
use Rattle.trust_tables.specs.Accounts.{account_of}
use Rattle.trust_tables.specs.Trust.{row_of}
use Rattle.ledgers.proofs.Lemmas.{account_keys, holder_keys, held_by_total}
use Rattle.ledgers.specs.Ledgers.{Holder, Held, account_cmp, is_account, held_by, Withdrawn, Deposited, shortage}
use Rattle.asset_bundles.specs.declared.trap.Trap.{Trap}
use Rattle.asset_bundles.specs.Traps.{Store, with_trapped, trapped_where}
use Rattle.weight_trader.specs.Purchases.{Line, coin_of, paying, unspent_at, excess, Bought, paid_goods, AreWithinEnd}
use Rattle.weight_trader.specs.Refunds.{refund_of, goods_of, Refunded, Closed}
use Rattle.weight_trader.specs.Laws.{Purchase, Refund, Closing, MovesAreKept, paid_by, saturated_by, unspent_by}
use Rattle.call_dispatch.specs.Spelling.{AnyCall}
use Rattle.row_ledger.proofs.Lemmas.AccountLaws.{total_called, more_called}
use Rattle.exec_base.specs.Calls.{floors_of, held_dispatched}
use Rattle.exec_base.specs.declared.event.Event.{Event}
use Rattle.chain_ids.specs.declared.chain.ChainId.{ChainId}
use Rattle.channel_parts.specs.declared.cargo.Cargo.TheVariants.{Nothing}
use Rattle.asset_pools.specs.declared.exchanges.Exchange.{Exchange}
use Rattle.asset_pools.specs.Exchanges.{pool_account, held_after, goods_after}
use Rattle.asset_pools.proofs.Lemmas.Keeping.{exchange_says, exchange_keeps_total, exchange_spares}
use Rattle.exec_base.specs.Pools.{exchange_at, exchanged, exchange_goods}
use Rattle.exec_base.specs.Part.{DeliveredCargo, ChainPart, accounts_of, book_of}
use Rattle.exec_base.specs.Host.{asset_unlocked, asset_noted, Arrival, ByWithdrawal, arrival_of, is_cargo, cargo_after, first_fault, at_account, floor_of, debit_fault, credit_fault, given, got, withdraw_refusal, withdrawn, deposit_refusal, deposited, transfer_refusal, transferred, received, answered, is_query, unspent, bought, booked, burned_lines, above, refund_goods, refunded, bundles_joined, burnt, is_trap, claim_refusal, claimed, trapped, parked, all_fees, fees_above, fees_within, settled_burns, settled, fee_held, fees_with, fee_kept, fee_drawn, told}
use Rattle.exec_rules.proofs.Lemmas.AnswerLaws.{unless_held, unless_next, none_first, none_next, goods_of_trap, found_somewhere}
use Rattle.law_runs.specs.Sums.{Kept, kept_of, in_kept, in_places, burned_where, Sum, none, most, HasRoom}
use Rattle.law_runs.proofs.Lemmas.Sums.{account_total, sum_of, with, nobody, only, Call}
use Rattle.law_runs.specs.Calls.{Withdraws, Trapping}
use Rattle.plain_lists.proofs.Lemmas.Facts.{at_most_not_above as not_less, false_where_not_true as not_true}

-- ---- changes one after another
nothing_gone : (t : Unit → Bool) → total {R = unit_cmp} t empty ≡ 0
nothing_gone t = total-empty unit_keys t

pub call_then : (may : List ℕ → Type 0) (a b c : Sum) (p q r : ChainPart) → Call may a b p q → Call may b c q r → Call may a c p r
call_then may a b c p q r x y = record {
  site = y.site ∙ x.site;
  rows = y.rows ∙ x.rows;
  channels = y.channels ∙ x.channels;
  checking = y.checking ∙ x.checking;
  cargo = λ h. y.cargo (x.cargo h);
  gone = merge x.gone y.gone;
  amounts = λ t. let one = x.amounts t in let two = y.amounts t in let sum = total-merge unit_keys t x.gone y.gone in omega (arith, one, two, sum);
  books = λ test. let one = x.books test in let two = y.books test in let sum = total-merge unit_keys (is_unit_where test) x.gone y.gone in omega (arith, one, two, sum);
  accounts = λ who t others. let one = x.accounts who t others in let two = y.accounts who t others in omega (arith, one, two);
}

-- the same with other goods in hand
pub call_with : (may : List ℕ → Type 0) (a b c d : Sum) (p q : ChainPart) → Call may a b p q → ((t : Unit → Bool) → c t + b t ≡ d t + a t) → Call may c d p q
call_with may a b c d p q x same = record {
  site = x.site;
  rows = x.rows;
  channels = x.channels;
  checking = x.checking;
  cargo = x.cargo;
  gone = x.gone;
  amounts = λ t. let one = x.amounts t in let hand = same t in omega (arith, one, hand);
  books = x.books;
  accounts = x.accounts;
}

pub call_by : (less more : List ℕ → Type 0) (a b : Sum) (p q : ChainPart) → Call less a b p q → ((who : List ℕ) → less who → more who) → Call more a b p q
call_by less more a b p q x wider = record {
  site = x.site;
  rows = x.rows;
  channels = x.channels;
  checking = x.checking;
  cargo = x.cargo;
  gone = x.gone;
  amounts = x.amounts;
  books = x.books;
  accounts = λ who t others. x.accounts who t (λ h. others (wider who h));
}

-- where at most a cargo ends
pub still_by : (p q : ChainPart) → record (kept_of q) { cargo = Nothing } ≡ record (kept_of p) { cargo = Nothing } → (p.cargo.cargo ≡ Nothing → q.cargo.cargo ≡ Nothing) → Call nobody none none p q
unfolding in_kept
still_by p q same cargo = record {
  site = ap (λ (k : Kept). k.site) same;
  rows = ap (λ (k : Kept). k.rows) same;
  channels = ap (λ (k : Kept). k.channels) same;
  checking = ap (λ (k : Kept). k.checking) same;
  cargo = cargo;
  gone = empty;
  amounts = λ t. let e : in_places t q ≡ in_places t p = ap (in_kept t) same in let n = nothing_gone t in omega (arith, e, n);
  books = λ test. let e : burned_where test q ≡ burned_where test p = ap (λ (k : Kept). total (is_burn_where test) k.burns) same in let n = nothing_gone (is_unit_where test) in omega (arith, e, n);
  accounts = λ who t others. let e : account_total who t q ≡ account_total who t p = ap (λ (k : Kept). total (λ (h : Holder). is_account who h && t h.1) k.held) same in omega (arith, e);
}

pub still : (p q : ChainPart) → kept_of q ≡ kept_of p → Call nobody none none p q
still p q same = still_by p q (ap (λ (k : Kept). record k { cargo = Nothing }) same) (λ h. ap (λ (k : Kept). k.cargo) same ∙ h)

-- ---- room
pub room_kept : (may : List ℕ → Type 0) (a b : Sum) (p q : ChainPart) → Call may a b p q → HasRoom a p → HasRoom b q
room_kept may a b p q x room k =
    let one = x.amounts (is_unit_of k) in
    let two = x.books (eq_by_cmp listed_cmp k) in
    let le = room k in
    omega (arith, one, two, le)

pub room_with : (a b : Sum) (p : ChainPart) → HasRoom a p → ((t : Unit → Bool) → b t ≤ a t) → HasRoom b p
room_with a b p room less k = let le = room k in let fewer = less (is_unit_of k) in omega (arith, le, fewer)

pub most_is : most ≡ 2 ^ 127
unfolding most
most_is = refl

burn_passes : (k : Burn) → IsTrue (is_burn_of k.0 k)
burn_passes k = same_key listed_keys k.0

-- burns that are part of what goes in pass no maximum
pub below : (p : ChainPart) (ins : Sum) (more : Burns) → HasRoom ins p → ((k : Listed) → total (is_burn_of k) more ≤ ins (is_unit_of k)) → AreTotals (merge p.burns more)
below p ins more room part k =
    let sum = amount-merge burn_keys p.burns more k in
    let old = amount_at_most burn_keys (is_burn_of k.0) p.burns k (burn_passes k) in
    let new = amount_at_most burn_keys (is_burn_of k.0) more k (burn_passes k) in
    let of_goods = part k.0 in
    let all = room k.0 in
    let end = most_is in
    omega (arith, sum, old, new, of_goods, all, end)

-- ---- booking
booked_kept : (t : Unit → Bool) (p : ChainPart) (more : Burns) (lines : List Event) → in_places t (booked p more lines) ≡ in_places t p
unfolding booked in_kept
booked_kept t p more lines = refl

booked_burns : (test : Listed → Bool) (p : ChainPart) (more : Burns) (lines : List Event) → AreTotals (merge p.burns more) → burned_where test (booked p more lines) ≡ burned_where test p + total (is_burn_where test) more
unfolding booked
booked_burns test p more lines below = ap (total (is_burn_where test)) (booked_below (book_of p) more below) ∙ total-merge burn_keys (is_burn_where test) p.burns more

booked_accounts : (who : List ℕ) (t : Unit → Bool) (p : ChainPart) (more : Burns) (lines : List Event) → account_total who t (booked p more lines) ≡ account_total who t p
unfolding booked
booked_accounts who t p more lines = refl

booked_site : (p : ChainPart) (more : Burns) (lines : List Event) → (booked p more lines).site ≡ p.site
unfolding booked
booked_site p more lines = refl

booked_rows : (p : ChainPart) (more : Burns) (lines : List Event) → (booked p more lines).rows ≡ p.rows
unfolding booked
booked_rows p more lines = refl

booked_channels : (p : ChainPart) (more : Burns) (lines : List Event) → (booked p more lines).channels ≡ p.channels
unfolding booked
booked_channels p more lines = refl

booked_checking : (p : ChainPart) (more : Burns) (lines : List Event) → (booked p more lines).checking ≡ p.checking
unfolding booked
booked_checking p more lines = refl

booked_cargo : (p : ChainPart) (more : Burns) (lines : List Event) → (booked p more lines).cargo.cargo ≡ p.cargo.cargo
unfolding booked
booked_cargo p more lines = refl

-- goods are burned that came in
pub burning : (p : ChainPart) (gone : Bundle) (more : Burns) (lines : List Event) → HasRoom (sum_of gone) p → ((test : Listed → Bool) → total (is_burn_where test) more ≡ total (is_unit_where test) gone) → Call nobody (sum_of gone) none p (booked p more lines)
burning p gone more lines room same =
    let ends : AreTotals (merge p.burns more) = below p (sum_of gone) more room (λ k. let e = same (eq_by_cmp listed_cmp k) in omega (arith, e)) in
    record {
      site = booked_site p more lines;
      rows = booked_rows p more lines;
      channels = booked_channels p more lines;
      checking = booked_checking p more lines;
      cargo = λ h. booked_cargo p more lines ∙ h;
      gone = gone;
      amounts = λ t. let e = booked_kept t p more lines in omega (arith, e);
      books = λ test. let e = booked_burns test p more lines ends in let s = same test in omega (arith, e, s);
      accounts = λ who t others. let e = booked_accounts who t p more lines in omega (arith, e);
    }

pub joining : (p : ChainPart) (into goods : Bundle) → HasRoom (with (sum_of into) (sum_of goods)) p → Call nobody (with (sum_of into) (sum_of goods)) (sum_of (Joined into goods)) p (bundles_joined p into goods)
unfolding bundles_joined
joining p into goods room =
    call_with nobody (sum_of (Excess into goods)) none (with (sum_of into) (sum_of goods)) (sum_of (Joined into goods)) p (bundles_joined p into goods)
    (burning p (Excess into goods) (given_up into goods) (burned_lines p (λ (unit : Unit). excess_cause unit.1) (Excess into goods))
    (room_with (with (sum_of into) (sum_of goods)) (sum_of (Excess into goods)) p room (λ t. let e = joined_total t into goods in omega (arith, e)))
    (λ test. given_up_total test into goods))
    (λ t. let e = joined_total t into goods in omega (arith, e))

pub burn : (p : ChainPart) (goods : Bundle) → HasRoom (sum_of goods) p → Call nobody (sum_of goods) none p (burnt p goods)
unfolding burnt
burn p goods room = burning p goods (burned_for Cause.BurnAsset goods) (burned_lines p (λ unit. Cause.BurnAsset) goods) room (λ test. burned_for_total test Cause.BurnAsset goods)

-- ---- what changes no amount
pub telling : (p : ChainPart) (e : Event) → Call nobody none none p (told p e)
unfolding told
telling p e = still p (told p e) refl

ends_or_stays : (b : Bool) (sender : ChainId) (taken : DeliveredCargo) → taken.cargo ≡ Nothing → (if b then (record { sender = sender; cargo = Nothing }) else taken).cargo ≡ Nothing
ends_or_stays true sender taken h = refl
ends_or_stays false sender taken h = h

cargo_stays : (p : ChainPart) (arrival : Arrival) (list : List Asset) → p.cargo.cargo ≡ Nothing → (cargo_after p arrival list).cargo ≡ Nothing
unfolding cargo_after
cargo_stays p arrival list h = ends_or_stays (is_cargo p arrival list) p.cargo.sender p.cargo h

-- but for the checking accounts
received_kept : (p : ChainPart) (list : List Asset) (teleport : Bool) → record (kept_of (received p list teleport)) { cargo = Nothing } ≡ record (kept_of p) { cargo = Nothing; checking = (received p list teleport).checking }
unfolding received
received_kept p list teleport = refl

received_cargo : (p : ChainPart) (list : List Asset) (teleport : Bool) → p.cargo.cargo ≡ Nothing → (received p list teleport).cargo.cargo ≡ Nothing
unfolding received
received_cargo p list teleport h = cargo_stays p (arrival_of teleport) list h

pub receiving : (p : ChainPart) (list : List Asset) (teleport : Bool) → Call nobody none none (record p { checking = (received p list teleport).checking }) (received p list teleport)
receiving p list teleport = still_by (record p { checking = (received p list teleport).checking }) (received p list teleport) (received_kept p list teleport) (received_cargo p list teleport)

none_received : (p : ChainPart) (teleport : Bool) → (received p [] teleport).checking ≡ p.checking
unfolding received
none_received p true = refl
none_received p false = refl

-- where nothing comes, they stay
pub receiving_none : (p : ChainPart) (list : List Asset) (teleport : Bool) → list ≡ [] → Call nobody none none p (received p list teleport)
receiving_none p list teleport empty_list =
    subst (λ (checking : List (Option ℕ)). Call nobody none none (record p { checking = checking }) (received p list teleport))
    (ap (λ (xs : List Asset). (received p xs teleport).checking) empty_list ∙ none_received p teleport) (receiving p list teleport)

answered_at : (p : ChainPart) (query : ℕ) (o : Option ℕ)
    → kept_of (option_map_or (λ (place : ℕ). record p { queries = remove p.queries place; pending_events = p.pending_events ++ Event.Answered query ∷ [] }) o (record p { pending_events = p.pending_events ++ Event.Ignored query ∷ [] })) ≡ kept_of p
answered_at p query None = refl
answered_at p query (Some place) = refl

pub answering : (p : ChainPart) (from : Location) (query : ℕ) → Call nobody none none p (answered p from query)
unfolding answered
answering p from query = still p (answered p from query) (answered_at p query (position (is_query query from) p.queries))

-- locks and notes are beside all amounts
pub unlocking : (p : ChainPart) (a : Asset) (target from : Location) → Call nobody none none p (asset_unlocked p a target from)
unfolding asset_unlocked
unlocking p a target from = still p (asset_unlocked p a target from) refl

pub noting : (p : ChainPart) (a : Asset) (owner from : Location) → Call nobody none none p (asset_noted p a owner from)
unfolding asset_noted
noting p a owner from = still p (asset_noted p a owner from) refl

-- ---- accounts and bundles
no_account_gives : (p : ChainPart) (a : Asset) → debit_fault p None a ≡ None → ⊥
no_account_gives p a h = let k = unless_next (is_some (row_of p.rows a)) _ _ h in absurd cc

no_account_takes : (p : ChainPart) (a : Asset) → credit_fault p None a ≡ None → ⊥
no_account_takes p a h = let k = unless_next (is_some (row_of p.rows a)) _ _ h in absurd cc

holds_enough : (p : ChainPart) (who : List ℕ) (a : Asset) → debit_fault p (Some who) a ≡ None → nat_le (amount_of a) (amount p.held (who, unit_of a)) ≡ true
holds_enough p who a h = enough (amount_of a) (floor_of p who (unit_of a)) _ (unless_held _ _ _ (unless_next (is_some (row_of p.rows a)) _ _ h))
  where
    enough : (n f m : ℕ) → nat_le (n + f) m ≡ true → nat_le n m ≡ true
    enough n f m h = grind (arith, nat_tests, h)

pub no_shortage : (p : ChainPart) (who : List ℕ) (list : List Asset) → first_fault (debit_fault p (Some who)) list ≡ None → shortage p.held who list ≡ None
no_shortage p who [] h = refl
no_shortage p who (a ∷ rest) h =
    ap (λ (b : Bool). if b then Some (amount p.held (who, unit_of a)) else shortage p.held who rest) (not_less _ _ (holds_enough p who a (none_first _ _ h)))
    ∙ no_shortage p who rest (none_next _ _ h)

pub total_nothing : (t : Unit → Bool) → total t (bundle_of []) ≡ 0
total_nothing t = ap (total t) bundle_of-none ∙ total-empty unit_keys t

apart : (a b : List ℕ) → (a ≡ b → ⊥) → eq_by_cmp account_cmp a b ≡ false
apart a b n = not_true (eq_by_cmp account_cmp a b) (λ t. n (key_same account_keys a b t))

none_of_other : (who other : List ℕ) (t : Unit → Bool) (goods : Bundle) → (who ≡ other → ⊥) → total (λ unit. is_account who (other, unit) && t unit) goods ≡ 0
none_of_other who other t goods n = total_none unit_keys (λ unit. is_account who (other, unit) && t unit) goods (λ unit held. ap (λ (b : Bool). b && t unit) (apart who other n))

all_of_account : (who : List ℕ) (t : Unit → Bool) (goods : Bundle) → total (λ unit. is_account who (who, unit) && t unit) goods ≡ total t goods
all_of_account who t goods = total_alike (λ unit. is_account who (who, unit) && t unit) t goods (λ unit. ap (λ (b : Bool). b && t unit) (same_key account_keys who))

total_more : (t : Holder → Bool) (held : Held) (who : List ℕ) (goods : Bundle) → total t (merge held (held_by who goods)) ≡ total t held + total (λ unit. t (who, unit)) goods
total_more t held who goods =
    let sum = total-merge holder_keys t held (held_by who goods) in
    let same = held_by_total t who goods in
    omega (arith, sum, same)

-- the accounts are others
held_kept : (t : Unit → Bool) (p : ChainPart) (held : Held) (n : ℕ) → total (λ (h : Holder). t h.1) held + n ≡ total (λ (h : Holder). t h.1) p.held → in_places t (record p { held = held }) + n ≡ in_places t p
unfolding in_kept
held_kept t p held n e = omega (arith, e)

held_more : (t : Unit → Bool) (p : ChainPart) (held : Held) (n : ℕ) → total (λ (h : Holder). t h.1) held ≡ total (λ (h : Holder). t h.1) p.held + n → in_places t (record p { held = held }) ≡ in_places t p + n
unfolding in_kept
held_more t p held n e = omega (arith, e)

module _ (withdraws : Withdraws) where
  taken_from : (p : ChainPart) (o : Option (List ℕ)) (list : List Asset) (t : Unit → Bool) → IsAssetList list → first_fault (debit_fault p o) list ≡ None
      → total (λ (h : Holder). t h.1) (at_account o (λ account. (Withdrawn account list (accounts_of p)).held) p.held) + total t (bundle_of list) ≡ total (λ (h : Holder). t h.1) p.held
  taken_from p None [] t in_order ok = omega (arith, total_nothing t)
  taken_from p None (a ∷ rest) t in_order ok = absurd (no_account_gives p a (none_first _ _ ok))
  taken_from p (Some who) list t in_order ok = withdraws (accounts_of p) who list (λ (h : Holder). t h.1) in_order (no_shortage p who list ok)

  others_keep : (p : ChainPart) (o : Option (List ℕ)) (list : List Asset) (who : List ℕ) (t : Unit → Bool) → IsAssetList list → first_fault (debit_fault p o) list ≡ None → (o ≡ Some who → ⊥)
      → total (λ (h : Holder). is_account who h && t h.1) (at_account o (λ account. (Withdrawn account list (accounts_of p)).held) p.held) ≡ account_total who t p
  others_keep p None list who t in_order ok other = refl
  others_keep p (Some from) list who t in_order ok other =
      let less = withdraws (accounts_of p) from list (λ (h : Holder). is_account who h && t h.1) in_order (no_shortage p from list ok) in
      let zeros = none_of_other who from t (bundle_of list) (λ e. other (ap Some (sym e))) in
      omega (arith, less, zeros)

  pub giving : (p : ChainPart) (list : List Asset) (who : Location) → IsAssetList list → first_fault (debit_fault p (account_of who p.site)) list ≡ None
      → Call (only (account_of who p.site)) none (sum_of (bundle_of list)) p (given p list who)
  giving p list who in_order ok =
      let held = at_account (account_of who p.site) (λ account. (Withdrawn account list (accounts_of p)).held) p.held in
      record {
        site = refl;
        rows = refl;
        channels = refl;
        checking = refl;
        cargo = λ h. h;
        gone = empty;
        amounts = λ t.
            let e = held_kept t p held (total t (bundle_of list)) (taken_from p (account_of who p.site) list t in_order ok) in
            let n = nothing_gone t in
            omega (arith, e, n);
        books = λ test. let n = nothing_gone (is_unit_where test) in omega (arith, n);
        accounts = λ other t others. let e = others_keep p (account_of who p.site) list other t in_order ok others in omega (arith, e);
      }

  withdrawn_same : (p : ChainPart) (list : List Asset) (who : Location) → record (kept_of (withdrawn p list who)) { cargo = Nothing } ≡ record (kept_of (given p list who)) { cargo = Nothing }
  unfolding withdrawn
  withdrawn_same p list who = refl

  withdrawn_cargo : (p : ChainPart) (list : List Asset) (who : Location) → (given p list who).cargo.cargo ≡ Nothing → (withdrawn p list who).cargo.cargo ≡ Nothing
  unfolding withdrawn
  withdrawn_cargo p list who h = cargo_stays p ByWithdrawal list h

  pub withdrawing : (p : ChainPart) (list : List Asset) (who : Location) → IsAssetList list → withdraw_refusal p list who ≡ None → Call (only (account_of who p.site)) none (sum_of (bundle_of list)) p (withdrawn p list who)
  unfolding withdraw_refusal
  withdrawing p list who in_order ok =
      let q = given p list who in
      let goods = sum_of (bundle_of list) in
      call_then (only (account_of who p.site)) none goods goods p q (withdrawn p list who) (giving p list who in_order ok)
      (call_with (only (account_of who p.site)) none none goods goods q (withdrawn p list who)
      (call_by nobody (only (account_of who p.site)) none none q (withdrawn p list who) (still_by q (withdrawn p list who) (withdrawn_same p list who) (withdrawn_cargo p list who)) (λ account h. absurd h)) (λ t. omega arith))

  pub drawing : (p : ChainPart) (list : List Asset) (who : Location) → IsAssetList list → withdraw_refusal p list who ≡ None → Call (only (account_of who p.site)) none (sum_of (bundle_of list)) p (fee_drawn p list who)
  unfolding withdraw_refusal fee_drawn
  drawing p list who in_order ok = giving p list who in_order ok

got_total : (p : ChainPart) (o : Option (List ℕ)) (goods : Bundle) (t : Unit → Bool) → (o ≡ None → total t goods ≡ 0)
    → total (λ (h : Holder). t h.1) (at_account o (λ account. (Deposited account goods (accounts_of p)).held) p.held) ≡ total (λ (h : Holder). t h.1) p.held + total t goods
got_total p None goods t zero_of = let z = zero_of refl in omega (arith, z)
got_total p (Some who) goods t zero_of = total_more (λ (h : Holder). t h.1) p.held who goods

got_accounts : (p : ChainPart) (o : Option (List ℕ)) (goods : Bundle) (who : List ℕ) (t : Unit → Bool)
    → account_total who t p ≤ total (λ (h : Holder). is_account who h && t h.1) (at_account o (λ account. (Deposited account goods (accounts_of p)).held) p.held)
got_accounts p None goods who t = omega arith
got_accounts p (Some other) goods who t = let e = total_more (λ (h : Holder). is_account who h && t h.1) p.held other goods in omega (arith, e)

-- the account that gets the goods has them
pub got_at : (p : ChainPart) (o : Option (List ℕ)) (goods : Bundle) (who : List ℕ) (t : Unit → Bool) → o ≡ Some who
    → account_total who t p + total t goods ≤ total (λ (h : Holder). is_account who h && t h.1) (at_account o (λ account. (Deposited account goods (accounts_of p)).held) p.held)
got_at p None goods who t e = absurd cc
got_at p (Some other) goods who t e =
    let same : other ≡ who = cc in
    let more = total_more (λ (h : Holder). is_account who h && t h.1) p.held other goods in
    let all = all_of_account who t goods in
    let moved : total (λ unit. is_account who (other, unit) && t unit) goods ≡ total (λ unit. is_account who (who, unit) && t unit) goods = ap (λ (a : List ℕ). total (λ unit. is_account who (a, unit) && t unit) goods) same in
    omega (arith, more, all, moved)

pub getting : (p : ChainPart) (goods : Bundle) (who : Location) → ((t : Unit → Bool) → account_of who p.site ≡ None → total t goods ≡ 0) → Call nobody (sum_of goods) none p (got p goods who)
getting p goods who zero_of =
    let held = at_account (account_of who p.site) (λ account. (Deposited account goods (accounts_of p)).held) p.held in
    record {
      site = refl;
      rows = refl;
      channels = refl;
      checking = refl;
      cargo = λ h. h;
      gone = empty;
      amounts = λ t.
          let e = held_more t p held (total t goods) (got_total p (account_of who p.site) goods t (zero_of t)) in
          let n = nothing_gone t in
          omega (arith, e, n);
      books = λ test. let n = nothing_gone (is_unit_where test) in omega (arith, n);
      accounts = λ other t others. got_accounts p (account_of who p.site) goods other t;
    }

-- where there is no account, nothing is taken in
no_units : (es : List (Unit × ℕ)) (p : ChainPart) (t : Unit → Bool) → first_fault (credit_fault p None) (assets_of_rows es) ≡ None → sum_where t es ≡ 0
no_units [] p t h = refl
no_units (e ∷ es) p t h = absurd (no_account_takes p _ (none_first _ _ h))

no_goods : (p : ChainPart) (o : Option (List ℕ)) (goods : Bundle) (t : Unit → Bool) → first_fault (credit_fault p o) (held_assets goods) ≡ None → o ≡ None → total t goods ≡ 0
unfolding held_assets
no_goods p o goods t h e =
    sym (total-rows t goods) ∙ no_units (rows goods) p t (subst (λ (o : Option (List ℕ)). first_fault (credit_fault p o) (assets_of_rows (rows goods)) ≡ None) e h)

no_list : (p : ChainPart) (o : Option (List ℕ)) (list : List Asset) (t : Unit → Bool) → first_fault (credit_fault p o) list ≡ None → o ≡ None → total t (bundle_of list) ≡ 0
no_list p o [] t h e = total_nothing t
no_list p o (a ∷ rest) t h e = absurd (no_account_takes p a (none_first _ _ (subst (λ (o : Option (List ℕ)). first_fault (credit_fault p o) (a ∷ rest) ≡ None) e h)))

pub depositing : (p : ChainPart) (goods : Bundle) (who : Location) → deposit_refusal p goods who ≡ None → Call nobody (sum_of goods) none p (deposited p goods who)
unfolding deposit_refusal deposited
depositing p goods who ok = getting p goods who (λ t. no_goods p (account_of who p.site) goods t ok)

module _ (withdraws : Withdraws) where
  pub transferring : (p : ChainPart) (list : List Asset) (from to : Location) → IsAssetList list → transfer_refusal p list from to ≡ None → Call (only (account_of from p.site)) none none p (transferred p list from to)
  unfolding transfer_refusal transferred
  transferring p list from to in_order ok =
      let q = given p list from in
      call_then (only (account_of from p.site)) none (sum_of (bundle_of list)) none p q (got q (bundle_of list) to)
      (giving withdraws p list from in_order (none_first _ _ ok))
      (call_by nobody (only (account_of from p.site)) (sum_of (bundle_of list)) none q (got q (bundle_of list) to)
      (getting q (bundle_of list) to (λ t. no_list q (account_of to q.site) list t (none_next _ _ ok))) (λ who h. absurd h))

  -- the account that gets the list has it, where it isn't the giver's
  pub put_by_transfer : (p : ChainPart) (list : List Asset) (from to : Location) → IsAssetList list → transfer_refusal p list from to ≡ None → (who : List ℕ) (t : Unit → Bool) → account_of to p.site ≡ Some who → (account_of from p.site ≡ Some who → ⊥)
      → account_total who t p + total t (bundle_of list) ≤ account_total who t (transferred p list from to)
  unfolding transfer_refusal transferred
  put_by_transfer p list from to in_order ok who t account others =
      let kept = others_keep withdraws p (account_of from p.site) list who t in_order (none_first _ _ ok) others in
      let came = got_at (given p list from) (account_of to p.site) (bundle_of list) who t account in
      omega (arith, kept, came)

-- ---- traps
traps_more : (t : Unit → Bool) (p : ChainPart) (store : Store) (n : ℕ) → trapped_where t store.traps ≡ trapped_where t p.traps.traps + n → in_places t (record p { traps = store }) ≡ in_places t p + n
unfolding in_kept
traps_more t p store n e = omega (arith, e)

traps_less : (t : Unit → Bool) (p : ChainPart) (store : Store) (n : ℕ) → trapped_where t store.traps + n ≡ trapped_where t p.traps.traps → in_places t (record p { traps = store }) + n ≡ in_places t p
unfolding in_kept
traps_less t p store n e = omega (arith, e)

trapped_kept : (p : ChainPart) (goods : Bundle) (origin : Location) → kept_of (trapped p goods origin) ≡ kept_of (record p { traps = with_trapped p.traps origin goods })
unfolding trapped
trapped_kept p goods origin = refl

pub trapping_goods : Trapping → (p : ChainPart) (goods : Bundle) (origin : Location) → Call nobody (sum_of goods) none p (trapped p goods origin)
trapping_goods law p goods origin =
    let q : ChainPart = record p { traps = with_trapped p.traps origin goods } in
    let x : Call nobody (sum_of goods) none p q = record {
      site = refl;
      rows = refl;
      channels = refl;
      checking = refl;
      cargo = λ h. h;
      gone = empty;
      amounts = λ t. let e = traps_more t p (with_trapped p.traps origin goods) (total t goods) (law t p.traps origin goods) in let n = nothing_gone t in omega (arith, e, n);
      books = λ test. let n = nothing_gone (is_unit_where test) in omega (arith, n);
      accounts = λ who t others. omega arith;
    } in
    call_then nobody (sum_of goods) none none p q (trapped p goods origin) x (still q (trapped p goods origin) (trapped_kept p goods origin))

removed : (f : Trap → ℕ) (xs : List Trap) (i : ℕ) (d : Trap) → i < length xs → sum_by f (remove xs i) + f (get_or xs i d) ≡ sum_by f xs
removed f [] i d h = absurd (omega (arith, h))
removed f (x ∷ xs) zero d h = let one = sum_by-cons f x xs in omega (arith, one)
removed f (x ∷ xs) (suc i) d h =
    let rest = removed f xs i d (omega (arith, h)) in
    let whole_sum = sum_by-cons f x xs in
    let left = sum_by-cons f x (remove xs i) in
    omega (arith, rest, whole_sum, left)

claimed_at : (list : List Asset) (origin : Location) (t : Unit → Bool) (place : ℕ) (xs : List Trap) → position (is_trap list origin) xs ≡ Some place → trapped_where t (remove xs place) + total t (bundle_of list) ≡ trapped_where t xs
claimed_at list origin t place [] at = absurd cc
claimed_at list origin t place (x ∷ xs) at =
    let first = position-Some (is_trap list origin) (x ∷ xs) place x at in
    let goods = goods_of_trap list origin (get_or (x ∷ xs) place x) first.1 in
    let sum = removed (λ (trap : Trap). total t trap.goods) (x ∷ xs) place x first.0 in
    let same = ap (total t) goods in
    omega (arith, sum, same)

claiming_at : (p : ChainPart) (list : List Asset) (origin : Location) (o : Option ℕ) → position (is_trap list origin) p.traps.traps ≡ o → (o ≡ None → ⊥)
    → Call nobody none (sum_of (bundle_of list)) p (option_map_or (λ (place : ℕ). record p { traps = record p.traps { traps = remove p.traps.traps place } }) o p)
claiming_at p list origin None at some = absurd (some refl)
claiming_at p list origin (Some place) at some = record {
  site = refl;
  rows = refl;
  channels = refl;
  checking = refl;
  cargo = λ h. h;
  gone = empty;
  amounts = λ t.
      let e = traps_less t p (record p.traps { traps = remove p.traps.traps place }) (total t (bundle_of list)) (claimed_at list origin t place p.traps.traps at) in
      let n = nothing_gone t in
      omega (arith, e, n);
  books = λ test. let n = nothing_gone (is_unit_where test) in omega (arith, n);
  accounts = λ who t others. omega arith;
}

pub claiming : (p : ChainPart) (list : List Asset) (origin : Location) → claim_refusal p list origin ≡ None → Call nobody none (sum_of (bundle_of list)) p (claimed p list origin)
unfolding claimed
claiming p list origin ok = claiming_at p list origin (position (is_trap list origin) p.traps.traps) refl (found_somewhere p list origin ok)

-- ---- the trader
lines_kept : (t : Unit → Bool) (p : ChainPart) (lines : List Line) → in_places t (record p { lines = lines }) + total t (paid_goods p.lines) ≡ in_places t p + total t (paid_goods lines)
unfolding in_kept
lines_kept t p lines = omega arith

with_lines : (p : ChainPart) (lines : List Line) (a b : Sum) → ((t : Unit → Bool) → total t (paid_goods lines) + b t ≡ total t (paid_goods p.lines) + a t) → Call nobody a b p (record p { lines = lines })
with_lines p lines a b same = record {
  site = refl;
  rows = refl;
  channels = refl;
  checking = refl;
  cargo = λ h. h;
  gone = empty;
  amounts = λ t. let e = lines_kept t p lines in let s = same t in let n = nothing_gone t in omega (arith, e, s, n);
  books = λ test. let n = nothing_gone (is_unit_where test) in omega (arith, n);
  accounts = λ who t others. omega arith;
}

pub refunding : MovesAreKept → (p : ChainPart) (w : Weight) → AreWithinEnd p.lines → Call nobody none (sum_of (refund_goods p w)) p (refunded p w)
unfolding refunded refund_goods
refunding law p w within = with_lines p (Refunded w p.lines) none (sum_of (goods_of (refund_of w p.lines))) (λ t.
    let kept = ap (total t) (law (Refund w) p.lines within).1 in
    let given = total-merge unit_keys t (goods_of (refund_of w p.lines)) (paid_goods (Refunded w p.lines)) in
    let before = total-merge unit_keys t (paid_goods p.lines) empty in
    let n = nothing_gone t in
    omega (arith, kept, given, before, n))

abbrev above_at : Weight → Line → Bundle
above_at w line = above (listed_of (coin_of line.rate)) (excess w line)

above_total : (t : Unit → Bool) (w : Weight) (line : Line) → total t (above_at w line) ≡ total t (saturated_by w (Some line))
above_total t w line =
    let one = total-bundle_of t (record { id = (listed_of (coin_of line.rate)).0; fun = Fun.Fungible (excess w line) } ∷ []) in
    let single_is = total-single unit_keys t (coin_of line.rate) (excess w line) in
    omega (arith, one, single_is)

buying_at : MovesAreKept → (p : ChainPart) (w : Weight) (payment : Bundle) (o : Option Line) → paying w payment p.lines ≡ o → AreWithinEnd p.lines → HasRoom (sum_of payment) p
    → Call nobody (sum_of payment) (sum_of (option_map_or (λ (line : Line). unspent_at w payment line) o payment)) p
    (option_map_or (λ (line : Line). booked (record p { lines = Bought w payment p.lines }) (burned_for Cause.Saturated (above_at w line)) (burned_lines p (λ unit. Cause.Saturated) (above_at w line))) o p)
buying_at law p w payment None e within room = call_with nobody none none (sum_of payment) (sum_of payment) p p (still p p refl) (λ t. omega arith)
buying_at law p w payment (Some line) e within room =
    let q : ChainPart = record p { lines = Bought w payment p.lines } in
    let paid : Call nobody (sum_of payment) (with (sum_of (above_at w line)) (sum_of (unspent_at w payment line))) p q =
    with_lines p (Bought w payment p.lines) (sum_of payment) (with (sum_of (above_at w line)) (sum_of (unspent_at w payment line))) (λ t.
    let kept = law (Purchase w payment) p.lines within in
    let payment_is : total t payment ≡ total t (merge (unspent_at w payment line) (merge (paid_by w (Some line)) (saturated_by w (Some line)))) =
    ap (total t) kept.0 ∙ ap (λ (o : Option Line). total t (merge (unspent_by w payment o) (merge (paid_by w o) (saturated_by w o)))) e in
    let paid_is : total t (merge empty (paid_goods (Bought w payment p.lines))) ≡ total t (merge (paid_goods p.lines) (paid_by w (Some line))) =
    ap (total t) kept.1 ∙ ap (λ (o : Option Line). total t (merge (paid_goods p.lines) (paid_by w o))) e in
    let parts = total-merge unit_keys t (unspent_at w payment line) (merge (paid_by w (Some line)) (saturated_by w (Some line))) in
    let rest = total-merge unit_keys t (paid_by w (Some line)) (saturated_by w (Some line)) in
    let after = total-merge unit_keys t empty (paid_goods (Bought w payment p.lines)) in
    let before = total-merge unit_keys t (paid_goods p.lines) (paid_by w (Some line)) in
    let n = nothing_gone t in
    let more = above_total t w line in
    omega (arith, payment_is, paid_is, parts, rest, after, before, n, more)) in
    let room_q = room_kept nobody (sum_of payment) (with (sum_of (above_at w line)) (sum_of (unspent_at w payment line))) p q paid room in
    let burned = burning q (above_at w line) (burned_for Cause.Saturated (above_at w line)) (burned_lines p (λ unit. Cause.Saturated) (above_at w line))
    (room_with (with (sum_of (above_at w line)) (sum_of (unspent_at w payment line))) (sum_of (above_at w line)) q room_q (λ t. omega arith))
    (λ test. burned_for_total test Cause.Saturated (above_at w line)) in
    let r = booked q (burned_for Cause.Saturated (above_at w line)) (burned_lines p (λ unit. Cause.Saturated) (above_at w line)) in
    call_then nobody (sum_of payment) (with (sum_of (above_at w line)) (sum_of (unspent_at w payment line))) (sum_of (unspent_at w payment line)) p q r paid
    (call_with nobody (sum_of (above_at w line)) none (with (sum_of (above_at w line)) (sum_of (unspent_at w payment line))) (sum_of (unspent_at w payment line)) q r burned (λ t. omega arith))

pub buying : MovesAreKept → (p : ChainPart) (w : Weight) (payment : Bundle) → AreWithinEnd p.lines → HasRoom (sum_of payment) p → Call nobody (sum_of payment) (sum_of (unspent p w payment)) p (bought p w payment)
unfolding bought unspent
buying law p w payment within room = buying_at law p w payment (paying w payment p.lines) refl within room

-- ---- parked bundles
parked_more : (t : Unit → Bool) (p : ChainPart) (goods : Bundle) → in_places t (parked p goods) ≡ in_places t p + total t goods
unfolding parked in_kept
parked_more t p goods = let e = sum_by_push (λ (b : Bundle). total t b) p.parked goods in omega (arith, e)

parked_rest : (p : ChainPart) (goods : Bundle) → record (kept_of (parked p goods)) { parked = p.parked } ≡ kept_of p
unfolding parked
parked_rest p goods = refl

pub parking_goods : (p : ChainPart) (goods : Bundle) → Call nobody (sum_of goods) none p (parked p goods)
parking_goods p goods =
    let same = parked_rest p goods in
    record {
      site = ap (λ (k : Kept). k.site) same;
      rows = ap (λ (k : Kept). k.rows) same;
      channels = ap (λ (k : Kept). k.channels) same;
      checking = ap (λ (k : Kept). k.checking) same;
      cargo = λ h. ap (λ (k : Kept). k.cargo) same ∙ h;
      gone = empty;
      amounts = λ t. let e = parked_more t p goods in let n = nothing_gone t in omega (arith, e, n);
      books = λ test. let e : burned_where test (parked p goods) ≡ burned_where test p = ap (λ (k : Kept). total (is_burn_where test) k.burns) same in let n = nothing_gone (is_unit_where test) in omega (arith, e, n);
      accounts = λ who t others. let e : account_total who t (parked p goods) ≡ account_total who t p = ap (λ (k : Kept). total (λ (h : Holder). is_account who h && t h.1) k.held) same in omega (arith, e);
    }

-- ---- fees
slot_kept : (t : Unit → Bool) (p : ChainPart) (goods : Bundle) → in_places t (fee_held p goods) + total t p.fee_slot ≡ in_places t p + total t goods
unfolding fee_held in_kept
slot_kept t p goods = omega arith

slot_rest : (p : ChainPart) (goods : Bundle) → record (kept_of (fee_held p goods)) { slot = p.fee_slot } ≡ kept_of p
unfolding fee_held
slot_rest p goods = refl

pub holding_fee : (p : ChainPart) (goods : Bundle) → p.fee_slot ≡ empty → Call nobody (sum_of goods) none p (fee_held p goods)
holding_fee p goods slot =
    let same = slot_rest p goods in
    record {
      site = ap (λ (k : Kept). k.site) same;
      rows = ap (λ (k : Kept). k.rows) same;
      channels = ap (λ (k : Kept). k.channels) same;
      checking = ap (λ (k : Kept). k.checking) same;
      cargo = λ h. ap (λ (k : Kept). k.cargo) same ∙ h;
      gone = empty;
      amounts = λ t. let e = slot_kept t p goods in let s = ap (total t) slot in let n = nothing_gone t in omega (arith, e, s, n);
      books = λ test. let e : burned_where test (fee_held p goods) ≡ burned_where test p = ap (λ (k : Kept). total (is_burn_where test) k.burns) same in let n = nothing_gone (is_unit_where test) in omega (arith, e, n);
      accounts = λ who t others. let e : account_total who t (fee_held p goods) ≡ account_total who t p = ap (λ (k : Kept). total (λ (h : Holder). is_account who h && t h.1) k.held) same in omega (arith, e);
    }

fees_total : (t : Unit → Bool) (fees more : Bundle) → ((u : Unit) → amount fees u + amount more u ≤ most_burned) → total t (fees_with fees more) ≡ total t fees + total t more
unfolding fees_with
fees_total t fees more ends =
    let same : with_amounts (λ (unit : Unit) n. min n (most_burned - amount fees unit)) more ≡ more = same_goods (with_amounts (λ (unit : Unit) n. min n (most_burned - amount fees unit)) more) more (λ u.
    let a = amount-with_amounts unit_keys (λ (unit : Unit) n. min n (most_burned - amount fees unit)) (λ unit. omega arith) more u in
    let le = ends u in
    omega (arith, a, le)) in
    let m = total-merge unit_keys t fees (with_amounts (λ (unit : Unit) n. min n (most_burned - amount fees unit)) more) in
    let e = ap (total t) same in
    omega (arith, m, e)
  where
    same_goods : (m n : Bundle) → ((u : Unit) → amount m u ≡ amount n u) → m ≡ n
    same_goods m n h = same_amounts unit_keys m n h

kept_places : (t : Unit → Bool) (p : ChainPart) → in_places t (fee_kept p) + (total t p.fees + total t p.fee_slot) ≡ in_places t p + total t (fees_with p.fees p.fee_slot)
unfolding fee_kept in_kept
kept_places t p = let n = nothing_gone t in omega (arith, n)

kept_rest : (p : ChainPart) → record (kept_of (fee_kept p)) { slot = p.fee_slot; fees = p.fees } ≡ kept_of p
unfolding fee_kept
kept_rest p = refl

fees_in_places : (t : Unit → Bool) (p : ChainPart) → total t p.fees + total t p.fee_slot ≤ in_places t p
unfolding in_kept
fees_in_places t p = omega arith

unit_passes : (u : Unit) → IsTrue (is_unit_of (listed_of u) u)
unit_passes u = same_key listed_keys (listed_of u)

pub keeping : (p : ChainPart) → HasRoom none p → Call nobody none none p (fee_kept p)
keeping p room =
    let same = kept_rest p in
    let ends : (u : Unit) → amount p.fees u + amount p.fee_slot u ≤ most_burned = λ u.
    let a = amount_at_most unit_keys (is_unit_of (listed_of u)) p.fees u (unit_passes u) in
    let b = amount_at_most unit_keys (is_unit_of (listed_of u)) p.fee_slot u (unit_passes u) in
    let c = fees_in_places (is_unit_of (listed_of u)) p in
    let d = room (listed_of u) in
    let end = most_is in
    omega (arith, a, b, c, d, end) in
    record {
      site = ap (λ (k : Kept). k.site) same;
      rows = ap (λ (k : Kept). k.rows) same;
      channels = ap (λ (k : Kept). k.channels) same;
      checking = ap (λ (k : Kept). k.checking) same;
      cargo = λ h. ap (λ (k : Kept). k.cargo) same ∙ h;
      gone = empty;
      amounts = λ t. let e = kept_places t p in let s = fees_total t p.fees p.fee_slot ends in let n = nothing_gone t in omega (arith, e, s, n);
      books = λ test. let e : burned_where test (fee_kept p) ≡ burned_where test p = ap (λ (k : Kept). total (is_burn_where test) k.burns) same in let n = nothing_gone (is_unit_where test) in omega (arith, e, n);
      accounts = λ who t others. let e : account_total who t (fee_kept p) ≡ account_total who t p = ap (λ (k : Kept). total (λ (h : Holder). is_account who h && t h.1) k.held) same in omega (arith, e);
    }

-- ---- settlement
account_in_places : (t : Unit → Bool) (p : ChainPart) → total (λ (h : Holder). t h.1) p.held ≤ in_places t p
unfolding in_kept
account_in_places t p = omega arith

account_ends : (p : ChainPart) → HasRoom none p → (who : List ℕ) (u : Unit) → amount p.held (who, u) ≤ 2 ^ 128 - 1
account_ends p room who u =
    let a = amount_at_most holder_keys (λ (h : Holder). is_unit_of (listed_of u) h.1) p.held (who, u) (unit_passes u) in
    let b = account_in_places (is_unit_of (listed_of u)) p in
    let c = room (listed_of u) in
    let end = most_is in
    omega (arith, a, b, c, end)

above_within : (p : ChainPart) → HasRoom none p → IsWithin (fees_above p) (all_fees p)
above_within p room unit =
    let le = account_ends p room p.fee_account unit in
    let over = amount-with_amounts unit_keys (λ (unit : Unit) n. (amount p.held (p.fee_account, unit) + n) - (2 ^ 128 - 1)) (λ unit. let l = account_ends p room p.fee_account unit in omega (arith, l)) (all_fees p) unit in
    omega (arith, over, le)

abbrev settled_held : ChainPart → Held
settled_held p = merge p.held (map_keys (λ (unit : Unit). (p.fee_account, unit)) (fees_within p))

settled_places : (t : Unit → Bool) (p : ChainPart) → in_places t (settled p) + (total (λ (h : Holder). t h.1) p.held + total t (paid_goods p.lines) + total t p.fees)
    ≡ in_places t p + (total (λ (h : Holder). t h.1) (settled_held p) + total t (paid_goods (Closed p.lines)))
unfolding settled in_kept
settled_places t p = let n = nothing_gone t in omega (arith, n)

settled_burns_are : (test : Listed → Bool) (p : ChainPart) → AreTotals (merge p.burns (settled_burns p)) → burned_where test (settled p) ≡ burned_where test p + total (is_unit_where test) (fees_above p)
unfolding settled
settled_burns_are test p ends =
    let e : total (is_burn_where test) (Booked (book_of p) (settled_burns p)).burns ≡ total (is_burn_where test) p.burns + total (is_burn_where test) (settled_burns p) =
    ap (total (is_burn_where test)) (booked_below (book_of p) (settled_burns p) ends) ∙ total-merge burn_keys (is_burn_where test) p.burns (settled_burns p) in
    let s = burned_for_total test Cause.Saturated (fees_above p) in
    omega (arith, e, s)

settled_accounts : (who : List ℕ) (t : Unit → Bool) (p : ChainPart) → account_total who t p ≤ account_total who t (settled p)
unfolding settled
settled_accounts who t p = let e = total-merge holder_keys (λ (h : Holder). is_account who h && t h.1) p.held (map_keys (λ (unit : Unit). (p.fee_account, unit)) (fees_within p)) in omega (arith, e)

settled_site : (p : ChainPart) → (settled p).site ≡ p.site
unfolding settled
settled_site p = refl

settled_rows : (p : ChainPart) → (settled p).rows ≡ p.rows
unfolding settled
settled_rows p = refl

settled_channels : (p : ChainPart) → (settled p).channels ≡ p.channels
unfolding settled
settled_channels p = refl

settled_checking : (p : ChainPart) → (settled p).checking ≡ p.checking
unfolding settled
settled_checking p = refl

settled_cargo : (p : ChainPart) → (settled p).cargo.cargo ≡ p.cargo.cargo
unfolding settled
settled_cargo p = refl

all_fees_in_places : (t : Unit → Bool) (p : ChainPart) → total t (all_fees p) ≤ in_places t p
unfolding in_kept
all_fees_in_places t p = let e = total-merge unit_keys t (paid_goods p.lines) p.fees in omega (arith, e)

pub settling : MovesAreKept → (p : ChainPart) → AreWithinEnd p.lines → HasRoom none p → Call nobody none none p (settled p)
settling law p within room =
    let inside = above_within p room in
    let parts : (t : Unit → Bool) → total t (fees_within p) + total t (fees_above p) ≡ total t (all_fees p) = λ t. total-difference unit_keys t (all_fees p) (fees_above p) inside in
    let ends : AreTotals (merge p.burns (settled_burns p)) = burns_end (λ k.
    let s = burned_for_total (eq_by_cmp listed_cmp k) Cause.Saturated (fees_above p) in
    let a = parts (is_unit_of k) in
    let b = all_fees_in_places (is_unit_of k) p in
    omega (arith, s, a, b)) in
    record {
      site = settled_site p;
      rows = settled_rows p;
      channels = settled_channels p;
      checking = settled_checking p;
      cargo = λ h. settled_cargo p ∙ h;
      gone = fees_above p;
      amounts = λ t.
          let e = settled_places t p in
          let held = total-merge holder_keys (λ (h : Holder). t h.1) p.held (map_keys (λ (unit : Unit). (p.fee_account, unit)) (fees_within p)) in
          let came = total-map_keys {S = unit_cmp} holder_keys (λ (h : Holder). t h.1) (λ (unit : Unit). (p.fee_account, unit)) (fees_within p) in
          let part = parts t in
          let fees = total-merge unit_keys t (paid_goods p.lines) p.fees in
          let closing = ap (total t) (law Closing p.lines within).1 in
          let closing_before = total-merge unit_keys t (paid_goods p.lines) (paid_goods (Closed p.lines)) in
          let closing_after = total-merge unit_keys t (paid_goods p.lines) empty in
          let n = nothing_gone t in
          omega (arith, e, held, came, part, fees, closing, closing_before, closing_after, n);
      books = λ test. settled_burns_are test p ends;
      accounts = λ who t others. settled_accounts who t p;
    }
  where
    burns_end : ((k : Listed) → total (is_burn_of k) (settled_burns p) ≤ in_places (is_unit_of k) p) → AreTotals (merge p.burns (settled_burns p))
    burns_end part k =
        let sum = amount-merge burn_keys p.burns (settled_burns p) k in
        let old = amount_at_most burn_keys (is_burn_of k.0) p.burns k (burn_passes k) in
        let new = amount_at_most burn_keys (is_burn_of k.0) (settled_burns p) k (burn_passes k) in
        let of_goods = part k.0 in
        let all = room k.0 in
        let end = most_is in
        omega (arith, sum, old, new, of_goods, all, end)

-- ---- calls of the chain
-- amounts that moved between accounts, and only one account's fell
held_call : (p : ChainPart) (held : Held) (who : List ℕ)
    → ((t : Unit → Bool) → total (λ (h : Holder). t h.1) held ≡ total (λ (h : Holder). t h.1) p.held)
    → ((t : Holder → Bool) → ((u : Unit) → t (who, u) ≡ false) → total t p.held ≤ total t held)
    → Call (λ w. w ≡ who) none none p (record p { held = held })
unfolding in_kept
held_call p held who sums others = record {
  site = refl;
  rows = refl;
  channels = refl;
  checking = refl;
  cargo = λ h. h;
  gone = empty;
  amounts = λ t. let same = sums t in let z = nothing_gone t in omega (arith, same, z);
  books = λ test. let z = nothing_gone (is_unit_where test) in omega (arith, z);
  accounts = λ w t other. others (λ (h : Holder). is_account w h && t h.1) (λ u. ap (λ (b : Bool). b && t u) (apart w other));
}
  where
    apart : (w : List ℕ) → (w ≡ who → ⊥) → eq_by_cmp account_cmp w who ≡ false
    apart w other =
        elim (cases_Bool (eq_by_cmp account_cmp w who)) [
          | inl same ↦ absurd (other (key_same account_keys w who same))
          | inr is ↦ is
        ]

pub dispatching : (p : ChainPart) (who : List ℕ) (c : AnyCall) → Call (λ w. w ≡ who) none none p (record p { held = held_dispatched p who c })
dispatching p who c = held_call p (held_dispatched p who c) who
    (λ t. total_called p.rows p.held (floors_of p) who c (λ (h : Holder). t h.1) (λ a b u. refl))
    (λ t without. more_called p.rows p.held (floors_of p) who c t without)

-- ---- exchanges

-- the account of a pool
abbrev pub of_a_pool : List ℕ → Type 0
of_a_pool who = (place : ℕ) × (who ≡ pool_account place)

exchanging_by : (p : ChainPart) (give : Bundle) (want : List Asset) (maximal : Bool) (o : Option Exchange) → exchange_at p give want maximal ≡ o
    → Call of_a_pool (sum_of give) (sum_of (option_map_or (λ (e : Exchange). goods_after e give) o give)) p (option_map_or (λ (e : Exchange). record p { held = held_after e p.held }) o p)
unfolding in_kept
exchanging_by p give want maximal None is = call_with of_a_pool none none (sum_of give) (sum_of give) p p (call_by nobody of_a_pool none none p p (still p p refl) (λ who h. absurd h)) (λ t. omega arith)
exchanging_by p give want maximal (Some e) is =
    let made = exchange_says p.pools p.held give want maximal e is in
    record {
      site = refl;
      rows = refl;
      channels = refl;
      checking = refl;
      cargo = λ h. h;
      gone = empty;
      amounts = λ t. let both = exchange_keeps_total p.pools p.held give e made (λ (h : Holder). t h.1) t (λ unit. refl) in let z = nothing_gone t in omega (arith, both, z);
      books = λ test. let z = nothing_gone (is_unit_where test) in omega (arith, z);
      accounts = λ who t other. exchange_spares p.pools p.held give e made who t (λ same. other (e.place, sym same));
    }

pub exchanging : (p : ChainPart) (give : Bundle) (want : List Asset) (maximal : Bool) → Call of_a_pool (sum_of give) (sum_of (exchange_goods p give want maximal)) p (exchanged p give want maximal)
unfolding exchanged exchange_goods
exchanging p give want maximal = exchanging_by p give want maximal (exchange_at p give want maximal) refl
