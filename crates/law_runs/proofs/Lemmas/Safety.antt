-- Lemmas on the definitions of `specs/Safety.antt`: what proofs cite.
use Rattle.std.proofs.Common.{◌≡◌, ℕ, ◌+◌, ◌≤◌, Bool, true, false, List, [], ◌∷◌, Some, map, refl, sym, ap, ◌∙◌, subst, arith}
use Rattle.std.specs.Prelude.{find, if◌then◌else◌}
use Rattle.std.specs.Ordering.{eq_by_cmp}
use Rattle.amounts.specs.Amounts.{total, merge}
use Rattle.amounts.proofs.Lemmas.AmountLaws.{total_alike}
use Rattle.amounts.proofs.Lemmas.{total-merge}
use Rattle.locations.specs.declared.relative.Location.{Location}
use Rattle.asset_lists.specs.declared.units.Asset.{Asset}
use Rattle.asset_lists.specs.Units.{Unit}
use Rattle.asset_lists.specs.Listed.{Listed, listed_cmp, listed_of}
use Rattle.asset_bundles.specs.Bundles.{Bundle}
use Rattle.asset_bundles.proofs.Lemmas.Bundles.{unit_keys}
use Rattle.asset_bundles.specs.Books.{is_unit_where}
use Rattle.chain_ids.specs.declared.chain.ChainId.{ChainId}
use Rattle.chain_ids.specs.Chains.{same_chain}
use Rattle.chain_ids.proofs.Lemmas.{same_chain_told}
use Rattle.trust_tables.specs.declared.chains.Site.{Site}
use Rattle.trust_tables.specs.declared.rows.AssetRow.{AssetRow}
use Rattle.trust_tables.specs.Chains.{path_of_site, location_of}
use Rattle.trust_tables.proofs.Lemmas.ChainLaws.{account_of-location_of}
use Rattle.trust_tables.specs.Accounts.{account_of, sovereign_account}
use Rattle.weight_trader.specs.Purchases.{paid_goods}
use Rattle.xcm_program.specs.declared.instruction.Instruction.{Instruction}
use Rattle.plain_lists.specs.Firsts.{change_first}
use Rattle.channel_parts.specs.declared.cargo.Cargo as carried
use Rattle.channel_parts.specs.declared.channel.Channel.{Channel}
use Rattle.channel_parts.specs.Channels.{Waiting, Outgoing, with_waiting}
use Rattle.exec_base.specs.Part.{ChainPart}
use Rattle.exec_base.specs.Sending.{channel_to_location, leads_to_location}
use Rattle.exec_base.specs.Host.{fee_to}
use Rattle.asset_lists.specs.Lists.{IsAssetList}
use Rattle.std.specs.Option.{option_and_then}
use Rattle.exec_rules.specs.Machine.{Machine}
use Rattle.law_coherence.specs.UniversalAssets.{UniversalAsset, Choice, every, is_asset_at, is_unit_at}
use Rattle.trust_tables.specs.declared.rows.AssetRole.TheVariants.{Derivative}
use Rattle.law_coherence.specs.Networks.{Table, context_of, IsIn, asset_of_row, is_home}
use Rattle.law_coherence.specs.Parts.{Cargo, Nothing, Deposit, Withdrawal, Teleport, Part, Count, choice_of, debt, withdrawals, stock, account_amount, held_for, burned, deposited_amount, withdrawn_amount, teleported}
use Rattle.law_coherence.specs.Checking.{account_in, checking_at, risen}
use Rattle.law_coherence.proofs.Lemmas.Checking.{accounted_then}
use Rattle.law_coherence.specs.Steps.{none_but, IsSafe}
use Rattle.law_coherence.specs.Moves.{IsInternal, IsSent}
use Rattle.law_coherence.proofs.Lemmas.Moves.{internal_safe, sent_safe}
use Rattle.law_runs.specs.Views.{table_of, cargo_of, channel_of, seen, view}
use Rattle.law_runs.specs.Sums.{in_kept, in_places, burned_where, HasRoom}
use Rattle.law_runs.proofs.Lemmas.Sums.{account_total, with, Call}
use Rattle.law_runs.proofs.Lemmas.Posts.{on_its_way, put_there, Posted, named_told, sends_there}
use Rattle.law_runs.specs.Safety.{origins, Spares, IsSpared, hold, IsTrustedCargo, IsRunnable, AreTrustedAt, links_of, AreFees, Safely}
use Rattle.plain_lists.proofs.Lemmas.Facts.{all_with_last, and_true as every_or, same_some}

-- goods moved inside the chain
abbrev pub Turn : Machine → Machine → Type 0
Turn m n = Call (origins m) (hold m) (hold n) m.part n.part

-- something was sent
pub record Sends (m n : Machine) : Type 0 where
  pub name : Location
  pub channel : Outgoing
  pub found : channel_to_location m.part name ≡ Some channel
  pub program : List Instruction
  pub cargo : carried.Cargo
  pub queued : n.part.channels ≡ change_first (leads_to_location m.part name) (with_waiting program cargo) m.part.channels
  pub call : Call (origins m) (hold m) (with (hold n) (on_its_way (cargo_of cargo))) m.part (record n.part { channels = m.part.channels; checking = m.part.checking })
  pub put : (who : List ℕ) (t : Unit → Bool) → account_of name m.part.site ≡ Some who → (origins m who → ⊥) → account_total who t m.part + put_there (cargo_of cargo) t ≤ account_total who t n.part
  -- what is teleported is put into the checking accounts
  pub raised : (a : UniversalAsset) → account_in (table_of m.part) a m.part.rows n.part.checking ≡ risen (teleported (table_of m.part) a every (cargo_of cargo)) (checking_at a (view m))
  -- what is at home here isn't withdrawn from here
  pub foreign : (a : UniversalAsset) → is_home a (table_of m.part) ≡ true → withdrawn_amount (table_of m.part) a every (cargo_of cargo) ≡ 0
  pub trusted : IsTrustedCargo m.part.site m.part.rows name cargo
  pub runnable : IsRunnable program

-- ---- lemmas: the view's sums

abbrev unit_at : Site → UniversalAsset → Choice → Unit → Bool
unit_at s a choice = is_unit_at (path_of_site s) a choice

abbrev asset_at : Site → UniversalAsset → Listed → Bool
asset_at s a = is_asset_at (path_of_site s) a

stock_seen : (a : UniversalAsset) (choice : Choice) (h : Bundle) (p : ChainPart) → stock a choice (seen h p) ≡ in_places (unit_at p.site a choice) p + total (unit_at p.site a choice) h
unfolding stock in_kept
stock_seen a choice h p =
    let t = unit_at p.site a choice in
    let x = total-merge unit_keys t (merge (paid_goods p.lines) p.fees) p.fee_slot in
    let y = total-merge unit_keys t (paid_goods p.lines) p.fees in
    omega (arith, x, y)

pub stock_of : (a : UniversalAsset) (choice : Choice) (h : Bundle) (p : ChainPart) (s : Site) → p.site ≡ s → stock a choice (seen h p) ≡ in_places (unit_at s a choice) p + total (unit_at s a choice) h
stock_of a choice h p s e = stock_seen a choice h p ∙ ap (λ (s : Site). in_places (unit_at s a choice) p + total (unit_at s a choice) h) e

burned_seen : (a : UniversalAsset) (h : Bundle) (p : ChainPart) → burned a (seen h p) ≡ burned_where (asset_at p.site a) p
unfolding burned
burned_seen a h p = refl

pub burned_of : (a : UniversalAsset) (h : Bundle) (p : ChainPart) (s : Site) → p.site ≡ s → burned a (seen h p) ≡ burned_where (asset_at s a) p
burned_of a h p s e = burned_seen a h p ∙ ap (λ (s : Site). burned_where (asset_at s a) p) e

held_seen : (chain : ChainId) (a : UniversalAsset) (count : Count) (h : Bundle) (p : ChainPart) → held_for chain a count (seen h p) ≡ account_total (sovereign_account p.site.chain chain) (unit_at p.site a (choice_of count)) p
unfolding account_amount
held_seen chain a count h p = refl

pub held_of : (chain : ChainId) (a : UniversalAsset) (count : Count) (h : Bundle) (p : ChainPart) (s : Site) → p.site ≡ s
    → held_for chain a count (seen h p) ≡ account_total (sovereign_account s.chain chain) (unit_at s a (choice_of count)) p
held_of chain a count h p s e = held_seen chain a count h p ∙ ap (λ (s : Site). account_total (sovereign_account s.chain chain) (unit_at s a (choice_of count)) p) e

pub whole_units : (s : Site) (a : UniversalAsset) (b : Bundle) → total (unit_at s a every) b ≡ total (is_unit_where (asset_at s a)) b
whole_units s a b = total_alike (unit_at s a every) (is_unit_where (asset_at s a)) b (λ u. every_or (asset_at s a (listed_of u)))

pub same_table : (p q : ChainPart) → q.site ≡ p.site → q.rows ≡ p.rows → table_of q ≡ table_of p
same_table p q site rows = λ i. record { site = site i; rows = rows i }

-- ---- trust
pub same_trust : (s t : Site) (rows rest : List AssetRow) (cs ds : List Outgoing) → t ≡ s → rest ≡ rows → ds ≡ cs → AreTrustedAt s rows cs → AreTrustedAt t rest ds
same_trust s t rows rest cs ds site same channels all =
    subst (λ (s : Site). AreTrustedAt s rest ds) (sym site) (subst (λ (r : List AssetRow). AreTrustedAt s r ds) (sym same) (subst (AreTrustedAt s rows) (sym channels) all))

pub trust_put : (p : ChainPart) (name : Location) (c : Outgoing) → channel_to_location p name ≡ Some c → (program : List Instruction) (cargo : carried.Cargo) → IsTrustedCargo p.site p.rows name cargo → IsRunnable program → (cs : List Outgoing)
    → AreTrustedAt p.site p.rows cs → AreTrustedAt p.site p.rows (change_first (leads_to_location p name) (with_waiting program cargo) cs)
trust_put p name c found program cargo trusted runnable [] all = tt
trust_put p name c found program cargo trusted runnable (d ∷ cs) all =
    elim (leads_to_location p name d) as (λ b. leads_to_location p name d ≡ b → AreTrustedAt p.site p.rows (if b then with_waiting program cargo d ∷ cs else d ∷ change_first (leads_to_location p name) (with_waiting program cargo) cs)) [
      | true ↦ λ t. (
        (λ other named.
            let same : name ≡ other = same_some name other (sym (named_told (location_of p.site.chain d.channel.to) name t) ∙ named) in
            all_with_last (λ (x : Waiting). IsTrustedCargo p.site p.rows other x.cargo × IsRunnable x.program) d.queue (record { number = d.next; program = program; cargo = cargo }) (all.0 other named)
            (subst (λ (l : Location). IsTrustedCargo p.site p.rows l cargo) same trusted, runnable)),
        all.1,
      )
      | false ↦ λ t. (all.0, trust_put p name c found program cargo trusted runnable cs all.1)
    ] refl

pub links_put : (test : Outgoing → Bool) (program : List Instruction) (cargo : carried.Cargo) (cs : List Outgoing) → links_of (change_first test (with_waiting program cargo) cs) ≡ links_of cs
links_put test program cargo [] = refl
links_put test program cargo (c ∷ cs) =
    elim (test c) as (λ b. links_of (if b then with_waiting program cargo c ∷ cs else c ∷ change_first test (with_waiting program cargo) cs) ≡ links_of (c ∷ cs)) [
      | true ↦ refl
      | false ↦ ap (λ (ls : List Channel). c.channel ∷ ls) (links_put test program cargo cs)
    ]

-- a fee that is found is in order
pub fee_in_order : (p : ChainPart) (dest : Location) (fee : Asset) → AreFees p.channels → fee_to p dest ≡ Some fee → IsAssetList (fee ∷ [])
fee_in_order p dest fee all e = found_fee p.channels all e
  where
    found_fee : (cs : List Outgoing) → AreFees cs → option_and_then (λ (c : Outgoing). c.channel.fee) (find (leads_to_location p dest) cs) ≡ Some fee → IsAssetList (fee ∷ [])
    found_fee [] all e = absurd cc
    found_fee (c ∷ cs) all e =
        elim (leads_to_location p dest c) as (λ b. option_and_then (λ (c : Outgoing). c.channel.fee) (if b then Some c else find (leads_to_location p dest) cs) ≡ Some fee → IsAssetList (fee ∷ [])) [
          | true ↦ λ h. all.0 fee h
          | false ↦ λ h. found_fee cs all.1 h
        ] e

-- ---- inside the chain
module _ (may : List ℕ → Type 0) (m n : Machine) (spared : Spares may m.part.site) (x : Call may (hold m) (hold n) m.part n.part) where
  moved_internal : IsInternal (view m) (view n)
  moved_internal =
      let s = m.part.site in
      record {
        table = same_table m.part n.part x.site x.rows;
        checking = x.checking;
        outgoing = ap (map channel_of) x.channels;
        kept = λ a.
            let before = stock_of a every m.regs.holding m.part s refl in
            let after = stock_of a every n.regs.holding n.part s x.site in
            let old = burned_of a m.regs.holding m.part s refl in
            let new = burned_of a n.regs.holding n.part s x.site in
            let moved = x.amounts (unit_at s a every) in
            let books = x.books (asset_at s a) in
            let whole = whole_units s a x.gone in
            omega (arith, before, after, old, new, moved, books, whole);
        less = λ a choice.
            let before = stock_of a choice m.regs.holding m.part s refl in
            let after = stock_of a choice n.regs.holding n.part s x.site in
            let moved = x.amounts (unit_at s a choice) in
            omega (arith, before, after, moved);
        covered = λ chain a count number foreign.
            let before = held_of chain a count m.regs.holding m.part s refl in
            let after = held_of chain a count n.regs.holding n.part s x.site in
            let stays = x.accounts (sovereign_account s.chain chain) (unit_at s a (choice_of count)) (spared chain number foreign) in
            omega (arith, before, after, stays);
      }

  pub moved_safely : Safely m n
  moved_safely = record {
    site = x.site;
    rows = x.rows;
    safe = internal_safe (view m) (view n) moved_internal;
    units = λ t. let moved = x.amounts t in omega (arith, moved);
    burns = λ test. let moved = x.amounts (is_unit_where test) in let books = x.books test in omega (arith, moved, books);
    trusted = λ all. same_trust m.part.site n.part.site m.part.rows n.part.rows m.part.channels n.part.channels x.site x.rows x.channels all;
    links = ap links_of x.channels;
    cargo = x.cargo;
  }

pub turn_safely : (m n : Machine) → IsSpared m → Turn m n → Safely m n
turn_safely m n spared x = moved_safely (origins m) m n spared x

-- ---- a message
way_is : (t : Table) (a : UniversalAsset) (choice : Choice) (c : Cargo) → on_its_way c (is_unit_at (context_of t) a choice) ≡ teleported t a choice c + withdrawn_amount t a choice c
way_is t a choice Nothing = refl
way_is t a choice (Deposit b) = refl
way_is t a choice (Withdrawal b) = omega arith
way_is t a choice (Teleport b) = omega arith

put_is : (t : Table) (a : UniversalAsset) (choice : Choice) (c : Cargo) → put_there c (is_unit_at (context_of t) a choice) ≡ deposited_amount t a choice c
put_is t a choice Nothing = refl
put_is t a choice (Deposit b) = refl
put_is t a choice (Withdrawal b) = refl
put_is t a choice (Teleport b) = refl

whole_way : (s : Site) (a : UniversalAsset) (c : Cargo) → on_its_way c (unit_at s a every) ≡ on_its_way c (is_unit_where (asset_at s a))
whole_way s a Nothing = refl
whole_way s a (Deposit b) = refl
whole_way s a (Withdrawal b) = whole_units s a b
whole_way s a (Teleport b) = whole_units s a b

module _ (m n : Machine) (spared : IsSpared m) (x : Sends m n) where
  places_muted : (t : Unit → Bool) → in_places t (record n.part { channels = m.part.channels; checking = m.part.checking }) ≡ in_places t n.part
  unfolding in_kept
  places_muted t = refl

  posted : Posted x.name x.channel.channel.to (cargo_of x.cargo) m.part n.part
  posted = sends_there m.part n.part x.name x.program x.cargo x.channel x.found x.queued

  sent_internal : IsSent x.channel.channel.to (cargo_of x.cargo) (view m) (view n)
  sent_internal =
      let s = m.part.site in
      record {
        table = same_table m.part n.part x.call.site x.call.rows;
        linked = posted.linked;
        outgoing = posted.pushed_there;
        kept = λ a.
            let before = stock_of a every m.regs.holding m.part s refl in
            let after = stock_of a every n.regs.holding n.part s x.call.site in
            let old = burned_of a m.regs.holding m.part s refl in
            let new = burned_of a n.regs.holding n.part s x.call.site in
            let moved = x.call.amounts (unit_at s a every) in
            let same = places_muted (unit_at s a every) in
            let books = x.call.books (asset_at s a) in
            let whole = whole_units s a x.call.gone in
            let way = way_is (table_of m.part) a every (cargo_of x.cargo) in
            omega (arith, before, after, old, new, moved, same, books, whole, way);
        less = λ a choice.
            let before = stock_of a choice m.regs.holding m.part s refl in
            let after = stock_of a choice n.regs.holding n.part s x.call.site in
            let moved = x.call.amounts (unit_at s a choice) in
            let same = places_muted (unit_at s a choice) in
            let way = way_is (table_of m.part) a choice (cargo_of x.cargo) in
            omega (arith, before, after, moved, same, way);
        covered = λ chain a count number foreign.
            let before = held_of chain a count m.regs.holding m.part s refl in
            let after = held_of chain a count n.regs.holding n.part s x.call.site in
            let who = sovereign_account s.chain chain in
            let stays = x.call.accounts who (unit_at s a (choice_of count)) (spared chain number foreign) in
            let put = put_is (table_of m.part) a (choice_of count) (cargo_of x.cargo) in
            elim (same_chain x.channel.channel.to chain) as (λ b. same_chain x.channel.channel.to chain ≡ b → held_for chain a count (view m) + (if b then deposited_amount (table_of m.part) a (choice_of count) (cargo_of x.cargo) else 0) ≤ held_for chain a count (view n)) [
              | true ↦ λ t.
                  let there : x.channel.channel.to ≡ chain = same_chain_told x.channel.channel.to chain t in
                  let account : account_of x.name s ≡ Some who = account_of-location_of s chain x.name (ap (location_of s.chain) (sym there) ∙ posted.named) in
                  let got = x.put who (unit_at s a (choice_of count)) account (spared chain number foreign) in
                  omega (arith, before, after, put, got)
              | false ↦ λ t. omega (arith, before, after, stays)
            ] refl;
        raised = λ a. ap (λ (t : Table). account_in t a t.rows n.part.checking) (same_table m.part n.part x.call.site x.call.rows) ∙ x.raised a;
        foreign = x.foreign;
      }

  pub sends_safely : Safely m n
  sends_safely = record {
    site = x.call.site;
    rows = x.call.rows;
    safe = sent_safe x.channel.channel.to (cargo_of x.cargo) (view m) (view n) sent_internal;
    units = λ t. let moved = x.call.amounts t in let same = places_muted t in omega (arith, moved, same);
    burns = λ test. let moved = x.call.amounts (is_unit_where test) in let same = places_muted (is_unit_where test) in let books = x.call.books test in omega (arith, moved, same, books);
    trusted = λ all. same_trust m.part.site n.part.site m.part.rows n.part.rows _ n.part.channels x.call.site x.call.rows x.queued
        (trust_put m.part x.name x.channel x.found x.program x.cargo x.trusted x.runnable m.part.channels all);
    links = ap links_of x.queued ∙ links_put (leads_to_location m.part x.name) x.program x.cargo m.part.channels;
    cargo = x.call.cargo;
  }

-- ---- one after another
pub safe_after : (p q r : Part) → IsSafe p q → IsSafe q r → IsSafe p r
safe_after p q r x y = record {
  keeps = record {
    table = y.keeps.table ∙ x.keeps.table;
    owing = λ row chain count inside role other.
        let one = x.keeps.owing row chain count inside role other in
        let two = second row chain count inside role other in
        omega (arith, one, two);
    covering = λ chain a count number foreign other.
        let one = x.keeps.covering chain a count number foreign other in
        let two = y.keeps.covering chain a count number (λ same. foreign (same ∙ ap (λ (t : Table). t.site.chain) x.keeps.table)) other in
        omega (arith, one, two);
  };
  owned = λ a. y.owned a ∙ x.owned a;
  rare = λ a choice. let one = x.rare a choice in let two = y.rare a choice in omega (arith, one, two);
  accounted = λ a. accounted_then (checking_at a p) (checking_at a q) (checking_at a r) _ _ _ _ _ _ (x.accounted a) (y.accounted a);
}
  where
    second : (row : AssetRow) (chain : ChainId) (count : Count) → IsIn p.table.rows row → row.role ≡ Derivative chain → (none_but chain → ⊥)
        → debt (asset_of_row p.table row) count r + withdrawals chain (asset_of_row p.table row) count r ≤ debt (asset_of_row p.table row) count q + withdrawals chain (asset_of_row p.table row) count q
    second row chain count inside role other =
        subst (λ (t : Table). debt (asset_of_row t row) count r + withdrawals chain (asset_of_row t row) count r ≤ debt (asset_of_row t row) count q + withdrawals chain (asset_of_row t row) count q) x.keeps.table
        (y.keeps.owing row chain count (subst (λ (t : Table). IsIn t.rows row) (sym x.keeps.table) inside) role other)

pub safely_then : (m n k : Machine) → Safely m n → Safely n k → Safely m k
safely_then m n k x y = record {
  site = y.site ∙ x.site;
  rows = y.rows ∙ x.rows;
  safe = safe_after (view m) (view n) (view k) x.safe y.safe;
  units = λ t. let one = x.units t in let two = y.units t in omega (arith, one, two);
  burns = λ test. let one = x.burns test in let two = y.burns test in omega (arith, one, two);
  trusted = λ all. y.trusted (x.trusted all);
  links = y.links ∙ x.links;
  cargo = λ h. y.cargo (x.cargo h);
}

pub keeps_room : (m n : Machine) → Safely m n → HasRoom (hold m) m.part → HasRoom (hold n) n.part
keeps_room m n x room k = let one = x.burns (eq_by_cmp listed_cmp k) in let le = room k in omega (arith, one, le)
