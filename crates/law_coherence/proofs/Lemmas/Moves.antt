-- Lemmas on the definitions of `specs/Moves.antt`: what proofs cite.
use Rattle.std.specs.Prelude.{◌≡◌, ◌≢◌, ℕ, ◌+◌, ◌≤◌, Bool, true, false, if◌then◌else◌, Some, refl}
use Rattle.std.proofs.Common.{sym, ap, ◌∙◌, arith}
use Rattle.chain_ids.specs.declared.chain.ChainId.{ChainId}
use Rattle.trust_tables.specs.Accounts.{IsChain}
use Rattle.chain_ids.specs.Chains.{same_chain}
use Rattle.law_coherence.specs.UniversalAssets.{UniversalAsset, Choice, every, just}
use Rattle.law_coherence.specs.Networks.{Table, asset_of_row, is_home}
use Rattle.law_coherence.specs.Parts.{Cargo, Part, chain_of_part, Count, Whole, Only, choice_of, debt, stock, burned, teleported, deposited_amount, withdrawn_amount, in_channels, in_channels_to, flight, deposits, withdrawals, own, home, alive}
use Rattle.chain_ids.proofs.Lemmas.{same_chain_itself, different_chains}
use Rattle.law_coherence.proofs.Lemmas.Channels.{in_channels-pushed, in_channels_to-pushed, in_channels-popped, in_channels_to-popped}
use Rattle.law_coherence.specs.Checking.{checking_at}
use Rattle.law_coherence.proofs.Lemmas.Checking.{same_accounts, account_rises, account_stays, account_falls, home_of_account}
use Rattle.law_coherence.specs.Steps.{IsSafe, IsExchange}
use Rattle.law_coherence.specs.Moves.{for_chain, IsInternal, IsSent, IsLost, IsReceived, IsTrusted}

-- ---- tools
home_kept : (a : UniversalAsset) (p q : Part) → q.table ≡ p.table → (is_home a p.table ≡ true → own a q ≡ own a p) → home a q ≡ home a p
unfolding home
home_kept a p q table same =
    ap (λ (t : Table). if is_home a t then own a q else 0) table
    ∙ elim (is_home a p.table) as (λ b. is_home a p.table ≡ b → (if b then own a q else 0) ≡ (if b then own a p else 0)) [ true ↦ λ t. same t | false ↦ λ t. refl ] refl

alive_kept : (a : UniversalAsset) (choice : Choice) (p q : Part) → q.table ≡ p.table → stock a choice q + flight a choice q ≤ stock a choice p + flight a choice p → alive a choice q ≤ alive a choice p
unfolding alive
alive_kept a choice p q table le =
    let at : (if is_home a q.table then stock a choice q + flight a choice q else 0) ≡ (if is_home a p.table then stock a choice q + flight a choice q else 0) = ap (λ (t : Table). if is_home a t then stock a choice q + flight a choice q else 0) table in
    let same : (if is_home a p.table then stock a choice q + flight a choice q else 0) ≤ (if is_home a p.table then stock a choice p + flight a choice p else 0) =
    elim (is_home a p.table) as (λ b. (if b then stock a choice q + flight a choice q else 0) ≤ (if b then stock a choice p + flight a choice p else 0)) [ true ↦ le | false ↦ omega arith ] in
    omega (arith, at, same)

flight_at : (a : UniversalAsset) (choice : Choice) (p q : Part) → q.table ≡ p.table → flight a choice q ≡ in_channels (teleported p.table a choice) q.outgoing
flight_at a choice p q table = ap (λ (t : Table). in_channels (teleported t a choice) q.outgoing) table

deposits_at : (chain : ChainId) (a : UniversalAsset) (count : Count) (p q : Part) → q.table ≡ p.table → deposits chain a count q ≡ in_channels_to chain (deposited_amount p.table a (choice_of count)) q.outgoing
deposits_at chain a count p q table = ap (λ (t : Table). in_channels_to chain (deposited_amount t a (choice_of count)) q.outgoing) table

withdrawals_at : (chain : ChainId) (a : UniversalAsset) (count : Count) (p q : Part) → q.table ≡ p.table → withdrawals chain a count q ≡ in_channels_to chain (withdrawn_amount p.table a (choice_of count)) q.outgoing
withdrawals_at chain a count p q table = ap (λ (t : Table). in_channels_to chain (withdrawn_amount t a (choice_of count)) q.outgoing) table

for_chain_some : (to chain : ChainId) (n : ℕ) → for_chain to chain n ≤ n
for_chain_some to chain n = elim (same_chain to chain) as (λ b. (if b then n else 0) ≤ n) [ true ↦ omega arith | false ↦ omega arith ]

for_chain_of_nothing : (to chain : ChainId) (n : ℕ) → n ≡ 0 → for_chain to chain n ≡ 0
for_chain_of_nothing to chain n none = let le = for_chain_some to chain n in omega (arith, le, none)

-- what is counted, from the sums of the whole and of some instances
debt_at_most : (a : UniversalAsset) (count : Count) (p q : Part) (left came : Choice → ℕ) → stock a every q + burned a q + left every ≤ stock a every p + burned a p + came every
    → ((choice : Choice) → stock a choice q + left choice ≤ stock a choice p + came choice) → debt a count q + left (choice_of count) ≤ debt a count p + came (choice_of count)
debt_at_most a Whole p q left came whole some = whole
debt_at_most a (Only instance) p q left came whole some = some (just (Some instance))

abbrev nothing : Choice → ℕ
nothing choice = 0

pub internal_safe : (p q : Part) → IsInternal p q → IsSafe p q
internal_safe p q h = record {
  keeps = record {
    table = h.table;
    owing = λ row chain count inside role other.
        let a = asset_of_row p.table row in
        let same : withdrawals chain a count q ≡ withdrawals chain a count p = withdrawals_at chain a count p q h.table ∙ ap (in_channels_to chain (withdrawn_amount p.table a (choice_of count))) h.outgoing in
        let kept = h.kept a in
        let le : debt a count q + 0 ≤ debt a count p + 0 = debt_at_most a count p q nothing nothing (omega (arith, kept)) (λ choice. let less = h.less a choice in omega (arith, less)) in
        omega (arith, same, le);
    covering = λ chain a count number foreign other.
        let same : deposits chain a count q ≡ deposits chain a count p = deposits_at chain a count p q h.table ∙ ap (in_channels_to chain (deposited_amount p.table a (choice_of count))) h.outgoing in
        let le = h.covered chain a count number foreign in
        omega (arith, same, le);
  };
  owned = λ a. home_kept a p q h.table (λ t.
      let same : flight a every q ≡ flight a every p = flight_at a every p q h.table ∙ ap (in_channels (teleported p.table a every)) h.outgoing in
      let kept = h.kept a in
      omega (arith, same, kept));
  rare = λ a choice. alive_kept a choice p q h.table (
      let same : flight a choice q ≡ flight a choice p = flight_at a choice p q h.table ∙ ap (in_channels (teleported p.table a choice)) h.outgoing in
      let less = h.less a choice in
      omega (arith, same, less));
  accounted = λ a.
      let same : flight a every q ≡ flight a every p = flight_at a every p q h.table ∙ ap (in_channels (teleported p.table a every)) h.outgoing in
      account_stays (checking_at a p) (checking_at a q) (flight a every p) (flight a every q) (stock a every p) (stock a every q) (same_accounts a p q h.table h.checking) (omega (arith, same)) (h.less a every);
}

pub sent_safe : (to : ChainId) (cargo : Cargo) (p q : Part) → IsSent to cargo p q → IsSafe p q
sent_safe to cargo p q h = record {
  keeps = record {
    table = h.table;
    owing = λ row chain count inside role other.
        let a = asset_of_row p.table row in
        let now : withdrawals chain a count q ≡ withdrawals chain a count p + for_chain to chain (withdrawn_amount p.table a (choice_of count) cargo) =
        withdrawals_at chain a count p q h.table ∙ ap (in_channels_to chain (withdrawn_amount p.table a (choice_of count))) h.outgoing ∙ in_channels_to-pushed chain (withdrawn_amount p.table a (choice_of count)) to cargo p.outgoing h.linked in
        let some = for_chain_some to chain (withdrawn_amount p.table a (choice_of count) cargo) in
        let kept = h.kept a in
        let le : debt a count q + (teleported p.table a (choice_of count) cargo + withdrawn_amount p.table a (choice_of count) cargo) ≤ debt a count p + 0 =
        debt_at_most a count p q (λ choice. teleported p.table a choice cargo + withdrawn_amount p.table a choice cargo) nothing (omega (arith, kept)) (λ choice. let less = h.less a choice in omega (arith, less)) in
        omega (arith, now, some, le);
    covering = λ chain a count number foreign other.
        let now : deposits chain a count q ≡ deposits chain a count p + for_chain to chain (deposited_amount p.table a (choice_of count) cargo) =
        deposits_at chain a count p q h.table ∙ ap (in_channels_to chain (deposited_amount p.table a (choice_of count))) h.outgoing ∙ in_channels_to-pushed chain (deposited_amount p.table a (choice_of count)) to cargo p.outgoing h.linked in
        let le = h.covered chain a count number foreign in
        omega (arith, now, le);
  };
  owned = λ a. home_kept a p q h.table (λ t.
      let now : flight a every q ≡ flight a every p + teleported p.table a every cargo =
      flight_at a every p q h.table ∙ ap (in_channels (teleported p.table a every)) h.outgoing ∙ in_channels-pushed (teleported p.table a every) to cargo p.outgoing h.linked in
      let kept = h.kept a in
      let none = h.foreign a t in
      omega (arith, now, kept, none));
  rare = λ a choice. alive_kept a choice p q h.table (
      let now : flight a choice q ≡ flight a choice p + teleported p.table a choice cargo =
      flight_at a choice p q h.table ∙ ap (in_channels (teleported p.table a choice)) h.outgoing ∙ in_channels-pushed (teleported p.table a choice) to cargo p.outgoing h.linked in
      let less = h.less a choice in
      omega (arith, now, less));
  accounted = λ a.
      let now : flight a every q ≡ flight a every p + teleported p.table a every cargo =
      flight_at a every p q h.table ∙ ap (in_channels (teleported p.table a every)) h.outgoing ∙ in_channels-pushed (teleported p.table a every) to cargo p.outgoing h.linked in
      let less = h.less a every in
      account_rises (teleported p.table a every cargo) (checking_at a p) (checking_at a q) (flight a every p) (flight a every q) (stock a every p) (stock a every q) (h.raised a) (omega (arith, now)) (omega (arith, less));
}

pub lost_safe : (to : ChainId) (cargo : Cargo) (p q : Part) → IsLost to cargo p q → IsSafe p q
lost_safe to cargo p q h = record {
  keeps = record {
    table = h.table;
    owing = λ row chain count inside role other.
        let a = asset_of_row p.table row in
        let at = withdrawals_at chain a count p q h.table ∙ ap (in_channels_to chain (withdrawn_amount p.table a (choice_of count))) h.outgoing in
        let now = in_channels_to-popped chain (withdrawn_amount p.table a (choice_of count)) to cargo p.outgoing h.first in
        let same = h.stock_same a every in
        let books = h.burns_now a in
        let le : debt a count q + 0 ≤ debt a count p + teleported p.table a (choice_of count) cargo =
        debt_at_most a count p q nothing (λ choice. teleported p.table a choice cargo) (omega (arith, same, books)) (λ choice. let each = h.stock_same a choice in omega (arith, each)) in
        let none = h.native row chain (choice_of count) inside role in
        omega (arith, at, now, le, none);
    covering = λ chain a count number foreign other.
        let at = deposits_at chain a count p q h.table ∙ ap (in_channels_to chain (deposited_amount p.table a (choice_of count))) h.outgoing in
        let now = in_channels_to-popped chain (deposited_amount p.table a (choice_of count)) to cargo p.outgoing h.first in
        let same = h.held_same chain a count in
        omega (arith, at, now, same);
  };
  owned = λ a. home_kept a p q h.table (λ t.
      let at = flight_at a every p q h.table ∙ ap (in_channels (teleported p.table a every)) h.outgoing in
      let now = in_channels-popped (teleported p.table a every) to cargo p.outgoing h.first in
      let books = h.burns_now a in
      let same = h.stock_same a every in
      omega (arith, at, now, books, same));
  rare = λ a choice. alive_kept a choice p q h.table (
      let at = flight_at a choice p q h.table ∙ ap (in_channels (teleported p.table a choice)) h.outgoing in
      let now = in_channels-popped (teleported p.table a choice) to cargo p.outgoing h.first in
      let same = h.stock_same a choice in
      omega (arith, at, now, same));
  accounted = λ a.
      let at = flight_at a every p q h.table ∙ ap (in_channels (teleported p.table a every)) h.outgoing in
      let now = in_channels-popped (teleported p.table a every) to cargo p.outgoing h.first in
      let same = h.stock_same a every in
      account_stays (checking_at a p) (checking_at a q) (flight a every p) (flight a every q) (stock a every p) (stock a every q) (same_accounts a p q h.table h.checking) (omega (arith, at, now)) (omega (arith, same));
}

two_homes : (s r : Bool) (os os' or or' t : ℕ) → (s ≡ false → t ≡ 0) → (r ≡ false → t ≡ 0) → (s ≡ true → os' + t ≡ os) → (r ≡ true → or' ≡ or + t)
    → (if s then os' else 0) + (if r then or' else 0) ≡ (if s then os else 0) + (if r then or else 0)
two_homes true true os os' or or' t a b c d = let x = c refl in let y = d refl in omega (arith, x, y)
two_homes true false os os' or or' t a b c d = let x = b refl in let y = c refl in omega (arith, x, y)
two_homes false true os os' or or' t a b c d = let x = a refl in let y = d refl in omega (arith, x, y)
two_homes false false os os' or or' t a b c d = refl

both_homes : (a : UniversalAsset) (p p' q q' : Part) (t : ℕ) → p'.table ≡ p.table → q'.table ≡ q.table → (is_home a p.table ≡ false → t ≡ 0) → (is_home a q.table ≡ false → t ≡ 0)
    → own a p' + t ≡ own a p → (is_home a q.table ≡ true → own a q' ≡ own a q + t) → home a p' + home a q' ≡ home a p + home a q
unfolding home
both_homes a p p' q q' t pt qt none_p none_q gone came =
    ap (λ (x : Table). (if is_home a x then own a p' else 0) + (if is_home a q'.table then own a q' else 0)) pt
    ∙ ap (λ (x : Table). (if is_home a p.table then own a p' else 0) + (if is_home a x then own a q' else 0)) qt
    ∙ two_homes (is_home a p.table) (is_home a q.table) (own a p) (own a p') (own a q) (own a q') t none_p none_q (λ x. gone) came

two_alive : (s r : Bool) (os os' or or' t : ℕ) → (s ≡ false → t ≡ 0) → os' + t ≤ os → (r ≡ true → or' ≤ or + t)
    → (if s then os' else 0) + (if r then or' else 0) ≤ (if s then os else 0) + (if r then or else 0)
two_alive true true os os' or or' t a c d = let y = d refl in omega (arith, c, y)
two_alive true false os os' or or' t a c d = omega (arith, c)
two_alive false true os os' or or' t a c d = let x = a refl in let y = d refl in omega (arith, x, y)
two_alive false false os os' or or' t a c d = omega arith

both_alive : (a : UniversalAsset) (choice : Choice) (p p' q q' : Part) (t : ℕ) → p'.table ≡ p.table → q'.table ≡ q.table → (is_home a p.table ≡ false → t ≡ 0)
    → (stock a choice p' + flight a choice p') + t ≤ stock a choice p + flight a choice p → (is_home a q.table ≡ true → stock a choice q' + flight a choice q' ≤ (stock a choice q + flight a choice q) + t)
    → alive a choice p' + alive a choice q' ≤ alive a choice p + alive a choice q
unfolding alive
both_alive a choice p p' q q' t pt qt none_p gone came =
    let at_p : (if is_home a p'.table then stock a choice p' + flight a choice p' else 0) ≡ (if is_home a p.table then stock a choice p' + flight a choice p' else 0) = ap (λ (x : Table). if is_home a x then stock a choice p' + flight a choice p' else 0) pt in
    let at_q : (if is_home a q'.table then stock a choice q' + flight a choice q' else 0) ≡ (if is_home a q.table then stock a choice q' + flight a choice q' else 0) = ap (λ (x : Table). if is_home a x then stock a choice q' + flight a choice q' else 0) qt in
    let both = two_alive (is_home a p.table) (is_home a q.table) (stock a choice p + flight a choice p) (stock a choice p' + flight a choice p') (stock a choice q + flight a choice q) (stock a choice q' + flight a choice q') t none_p gone came in
    omega (arith, at_p, at_q, both)

-- a chain that loses something has so much less, where it is at home, and one that it comes to has no more than that more
less_alive : (a : UniversalAsset) (p p' : Part) (t : ℕ) → p'.table ≡ p.table → (is_home a p.table ≡ false → t ≡ 0) → (stock a every p' + flight a every p') + t ≤ stock a every p + flight a every p → alive a every p' + t ≤ alive a every p
unfolding alive
less_alive a p p' t table none gone =
    let at : alive a every p' ≡ (if is_home a p.table then stock a every p' + flight a every p' else 0) = ap (λ (x : Table). if is_home a x then stock a every p' + flight a every p' else 0) table in
    let le : (if is_home a p.table then stock a every p' + flight a every p' else 0) + t ≤ (if is_home a p.table then stock a every p + flight a every p else 0) =
    elim (is_home a p.table) as (λ b. is_home a p.table ≡ b → (if b then stock a every p' + flight a every p' else 0) + t ≤ (if b then stock a every p + flight a every p else 0)) [
      | true ↦ λ h. gone
      | false ↦ λ h. let z = none h in omega (arith, z)
    ] refl in
    omega (arith, at, le)

more_alive : (a : UniversalAsset) (q q' : Part) (t : ℕ) → q'.table ≡ q.table → (is_home a q.table ≡ true → stock a every q' + flight a every q' ≤ (stock a every q + flight a every q) + t) → alive a every q' ≤ alive a every q + t
unfolding alive
more_alive a q q' t table came =
    let at : alive a every q' ≡ (if is_home a q.table then stock a every q' + flight a every q' else 0) = ap (λ (x : Table). if is_home a x then stock a every q' + flight a every q' else 0) table in
    let le : (if is_home a q.table then stock a every q' + flight a every q' else 0) ≤ (if is_home a q.table then stock a every q + flight a every q else 0) + t =
    elim (is_home a q.table) as (λ b. is_home a q.table ≡ b → (if b then stock a every q' + flight a every q' else 0) ≤ (if b then stock a every q + flight a every q else 0) + t) [
      | true ↦ λ h. came h
      | false ↦ λ h. omega arith
    ] refl in
    omega (arith, at, le)

pub received_safe : (cargo : Cargo) (p p' q q' : Part) → chain_of_part p ≢ chain_of_part q → IsChain (chain_of_part p) → IsReceived cargo p p' q q' → IsTrusted cargo p q → IsExchange p p' q q'
received_safe cargo p p' q q' apart number h trust =
    let to = chain_of_part q in
    let own_withdrawals : (chain : ChainId) (a : UniversalAsset) (count : Count) → withdrawals chain a count p' + for_chain to chain (withdrawn_amount p.table a (choice_of count) cargo) ≡ withdrawals chain a count p = λ chain a count.
    ap (λ n. n + for_chain to chain (withdrawn_amount p.table a (choice_of count) cargo)) (withdrawals_at chain a count p p' h.table ∙ ap (in_channels_to chain (withdrawn_amount p.table a (choice_of count))) h.outgoing)
    ∙ in_channels_to-popped chain (withdrawn_amount p.table a (choice_of count)) to cargo p.outgoing h.first in
    let own_deposits : (chain : ChainId) (a : UniversalAsset) (count : Count) → deposits chain a count p' + for_chain to chain (deposited_amount p.table a (choice_of count) cargo) ≡ deposits chain a count p = λ chain a count.
    ap (λ n. n + for_chain to chain (deposited_amount p.table a (choice_of count) cargo)) (deposits_at chain a count p p' h.table ∙ ap (in_channels_to chain (deposited_amount p.table a (choice_of count))) h.outgoing)
    ∙ in_channels_to-popped chain (deposited_amount p.table a (choice_of count)) to cargo p.outgoing h.first in
    let own_flight : (a : UniversalAsset) (choice : Choice) → flight a choice p' + teleported p.table a choice cargo ≡ flight a choice p = λ a choice.
    ap (λ n. n + teleported p.table a choice cargo) (flight_at a choice p p' h.table ∙ ap (in_channels (teleported p.table a choice)) h.outgoing)
    ∙ in_channels-popped (teleported p.table a choice) to cargo p.outgoing h.first in
    let other_withdrawals : (chain : ChainId) (a : UniversalAsset) (count : Count) → withdrawals chain a count q' ≡ withdrawals chain a count q = λ chain a count.
    withdrawals_at chain a count q q' h.there ∙ ap (in_channels_to chain (withdrawn_amount q.table a (choice_of count))) h.there_outgoing in
    let other_deposits : (chain : ChainId) (a : UniversalAsset) (count : Count) → deposits chain a count q' ≡ deposits chain a count q = λ chain a count.
    deposits_at chain a count q q' h.there ∙ ap (in_channels_to chain (deposited_amount q.table a (choice_of count))) h.there_outgoing in
    let other_flight : (a : UniversalAsset) (choice : Choice) → flight a choice q' ≡ flight a choice q = λ a choice.
    flight_at a choice q q' h.there ∙ ap (in_channels (teleported q.table a choice)) h.there_outgoing in
    record {
      first = record {
        table = h.table;
        owing = λ row chain count inside role other.
            let a = asset_of_row p.table row in
            let now = own_withdrawals chain a count in
            let same = h.stock_same a every in
            let books = h.burns_now a in
            let le : debt a count p' + 0 ≤ debt a count p + 0 = debt_at_most a count p p' nothing nothing (omega (arith, same, books)) (λ choice. let each = h.stock_same a choice in omega (arith, each)) in
            omega (arith, now, le);
        covering = λ chain a count n foreign other.
            let now = own_deposits chain a count in let same = h.held_same chain a count in omega (arith, now, same);
      };
      second = record {
        table = h.there;
        owing = λ row chain count inside role other.
            let a = asset_of_row q.table row in
            let now = other_withdrawals chain a count in
            let kept = h.kept a in
            let more : debt a count q' + 0 ≤ debt a count q + (teleported p.table a (choice_of count) cargo + deposited_amount p.table a (choice_of count) cargo) =
            debt_at_most a count q q' nothing (λ choice. teleported p.table a choice cargo + deposited_amount p.table a choice cargo) (omega (arith, kept)) (λ choice. let each = h.more a choice in omega (arith, each)) in
            let none = trust.native_there row chain (choice_of count) inside role in
            let nothing = trust.owed_here row chain (choice_of count) inside role other in
            omega (arith, now, more, none, nothing);
        covering = λ chain a count n foreign other.
            let now = other_deposits chain a count in
            let le = h.covered chain a count n foreign in
            let none : for_chain (chain_of_part p) chain (withdrawn_amount p.table a (choice_of count) cargo) ≡ 0 = ap (λ b. if b then withdrawn_amount p.table a (choice_of count) cargo else 0) (different_chains (chain_of_part p) chain (λ same. other (sym same))) in
            omega (arith, now, le, none);
      };
      there = λ row count inside role.
          let a = asset_of_row p.table row in
          let gone = own_withdrawals to a count in
          let self : for_chain to to (withdrawn_amount p.table a (choice_of count) cargo) ≡ withdrawn_amount p.table a (choice_of count) cargo = ap (λ b. if b then withdrawn_amount p.table a (choice_of count) cargo else 0) (same_chain_itself to) in
          let same = h.stock_same a every in
          let books = h.burns_now a in
          let debts : debt a count p' + 0 ≤ debt a count p + 0 = debt_at_most a count p p' nothing nothing (omega (arith, same, books)) (λ choice. let each = h.stock_same a choice in omega (arith, each)) in
          let le = h.covered (chain_of_part p) a count number apart in
          let paid : for_chain (chain_of_part p) (chain_of_part p) (withdrawn_amount p.table a (choice_of count) cargo) ≡ withdrawn_amount p.table a (choice_of count) cargo = ap (λ b. if b then withdrawn_amount p.table a (choice_of count) cargo else 0) (same_chain_itself (chain_of_part p)) in
          let deps : deposits (chain_of_part p') a count q' ≡ deposits (chain_of_part p) a count q = ap (λ (t : Table). deposits t.site.chain a count q') h.table ∙ other_deposits (chain_of_part p) a count in
          let chains : withdrawals (chain_of_part q') a count p' ≡ withdrawals to a count p' = ap (λ (t : Table). withdrawals t.site.chain a count p') h.there in
          omega (arith, gone, self, debts, le, paid, deps, chains);
      back = λ row count inside role.
          let a = asset_of_row q.table row in
          let gone = own_deposits to a count in
          let self : for_chain to to (deposited_amount p.table a (choice_of count) cargo) ≡ deposited_amount p.table a (choice_of count) cargo = ap (λ b. if b then deposited_amount p.table a (choice_of count) cargo else 0) (same_chain_itself to) in
          let kept = h.kept a in
          let more : debt a count q' + 0 ≤ debt a count q + (teleported p.table a (choice_of count) cargo + deposited_amount p.table a (choice_of count) cargo) =
          debt_at_most a count q q' nothing (λ choice. teleported p.table a choice cargo + deposited_amount p.table a choice cargo) (omega (arith, kept)) (λ choice. let each = h.more a choice in omega (arith, each)) in
          let none = trust.native_there row (chain_of_part p) (choice_of count) inside role in
          let same = h.held_same to a count in
          let wds : withdrawals (chain_of_part p') a count q' ≡ withdrawals (chain_of_part p) a count q = ap (λ (t : Table). withdrawals t.site.chain a count q') h.table ∙ other_withdrawals (chain_of_part p) a count in
          let chains : deposits (chain_of_part q') a count p' ≡ deposits to a count p' = ap (λ (t : Table). deposits t.site.chain a count p') h.there in
          omega (arith, gone, self, more, none, same, wds, chains);
      owned = λ a.
          let gone = own_flight a every in
          let stays = h.stock_same a every in
          let books = h.burns_now a in
          let same = other_flight a every in
          let kept = h.kept a in
          both_homes a p p' q q' (teleported p.table a every cargo) h.table h.there (trust.home_here a every) (trust.home_there a)
          (omega (arith, gone, stays, books))
          (λ t. let none = trust.foreign_there a every t in omega (arith, same, kept, none));
      rare = λ a choice.
          let gone = own_flight a choice in
          let stays = h.stock_same a choice in
          let same = other_flight a choice in
          let more = h.more a choice in
          both_alive a choice p p' q q' (teleported p.table a choice cargo) h.table h.there (trust.home_here a choice)
          (omega (arith, gone, stays))
          (λ t. let none = trust.foreign_there a choice t in omega (arith, same, more, none));
      accounted = λ a.
          let gone = own_flight a every in
          let stays = h.stock_same a every in
          let same = other_flight a every in
          let more = h.more a every in
          let away = less_alive a p p' (teleported p.table a every cargo) h.table (trust.home_here a every) (omega (arith, gone, stays)) in
          account_falls (teleported p.table a every cargo) (checking_at a q) (checking_at a q') (flight a every q + alive a every p) (flight a every q' + alive a every p') (stock a every q) (stock a every q') (h.lowered a)
          (omega (arith, away, same)) (λ n is.
          let home : is_home a q.table ≡ true = ap (is_home a) (sym h.there) ∙ home_of_account a q' n is in
          let none = trust.foreign_there a every home in
          omega (arith, more, none));
      accounted_back = λ a.
          let gone = own_flight a every in
          let stays = h.stock_same a every in
          let same = other_flight a every in
          let more = h.more a every in
          let there = more_alive a q q' (teleported p.table a every cargo) h.there (λ t. let none = trust.foreign_there a every t in omega (arith, same, more, none)) in
          account_stays (checking_at a p) (checking_at a p') (flight a every p + alive a every q) (flight a every p' + alive a every q') (stock a every p) (stock a every p') (same_accounts a p p' h.table h.checking)
          (omega (arith, gone, there)) (omega (arith, stays));
    }
