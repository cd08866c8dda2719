-- Lemmas: the calls that send. A reader may skip this file.
use Rattle.std.proofs.Common.{◌≡◌, ℕ, ◌+◌, ◌<◌, ◌≤◌, Bool, true, false, List, [], ◌∷◌, Option, Some, None, refl, sym, ap, ◌∙◌, subst, arith}
use Rattle.std.specs.Prelude.{IsTrue, ◌&&◌, ◌||◌, nat_eq, nat_le, length}
use Rattle.std.specs.List.{AllByRecursion, list_any}
use Rattle.std.specs.Option.{option_map, option_and_then, option_map_or}
use Rattle.std.specs.Ordering.{eq_by_cmp}
use Rattle.amounts.specs.Amounts.{amount, total, rows, from_rows}
use Rattle.amounts.proofs.Lemmas.AmountLaws.{rows_positive}
use Rattle.amounts.specs.Rows.{amount_if, sum_where, IsPositive}
use Rattle.amounts.proofs.Lemmas.{key_same, same_key, from_rows-rows, amount-rows}
use Rattle.locations.specs.declared.relative.Location.{Location}
use Rattle.operands.specs.declared.error.XcmError.TheVariants as error
use Rattle.operands.specs.declared.query.QueryInfo.{QueryInfo}
use Rattle.operands.specs.declared.query.Response.{Response}
use Rattle.asset_lists.specs.declared.units.Asset.{Asset}
use Rattle.asset_lists.specs.declared.units.AssetId.{AssetId}
use Rattle.asset_lists.specs.declared.units.Instance.{Instance}
use Rattle.asset_lists.specs.declared.units.Fun.{Fun}
use Rattle.std.proofs.lemmas.Bool.{and_parts}
use Rattle.std.proofs.lemmas.Bool.Decides.{nat_tests}
use Rattle.std.proofs.lemmas.List.Sorted.{list_any-IsPermutation}
use Rattle.std.specs.List.Sorted.{IsPermutation}
use Rattle.locations.specs.declared.grammar.Junction.{Junction}
use Rattle.asset_lists.specs.Lists.{IsAssetList, has_zero, is_rising, in_order}
use Rattle.asset_lists.proofs.Lemmas.{in_order_moves}
use Rattle.asset_lists.specs.Moves.{reanchored_id, moved, both, all_reanchored, list_if, reanchored_list}
use Rattle.asset_lists.specs.Units.{Unit, unit_of, unit_cmp, amount_of, amount_in, is_zero}
use Rattle.asset_bundles.specs.declared.shipment.Way.{Way}
use Rattle.asset_bundles.specs.Bundles.{Bundle, bundle_of, rows_of, fun_of, assets_of_rows, held_assets, IsGoods}
use Rattle.asset_bundles.proofs.Lemmas.Bundles.{unit_keys}
use Rattle.asset_bundles.specs.Books.{AreListed}
use Rattle.asset_bundles.specs.Joins.{most_of, IsWithinMost}
use Rattle.asset_bundles.proofs.Lemmas.{asset_of_unit}
use Rattle.trust_tables.specs.Accounts.{account_of}
use Rattle.trust_tables.specs.Trust.{listing, is_reserve, is_partner}
use Rattle.xcm_program.specs.declared.instruction.Instruction.{Instruction, roll-Instruction}
use Rattle.xcm_program.specs.declared.instruction.Instruction.TheOpen.{Instruction-F}
use Rattle.xcm_program.specs.Everywhere.{AllInside}
use Rattle.xcm_program.specs.Measure.{inner, deep_count}
use Rattle.xcm_program.proofs.Lemmas.{IsOfLayer, everywhere_made}
use Rattle.trust_tables.specs.Chains.{path_of_site}
use Rattle.plain_lists.specs.Firsts.{change_first}
use Rattle.channel_parts.specs.declared.cargo.Cargo as carried
use Rattle.channel_parts.specs.declared.cargo.Cargo.TheVariants as cargos
use Rattle.channel_parts.specs.Channels.{Outgoing, with_waiting, away}
use Rattle.exec_base.specs.Part.{ChainPart}
use Rattle.asset_locks.specs.LockMaps.{NoteKey, LocksAndNotes, noted}
use Rattle.exec_base.specs.Sending.{named_refusal, named_sent, channel_to_location, leads_to_location, is_sendable, channel_refusal, send_refusal, sent, led_by, listed_refusal, listed_program, deposit_program, away_program}
use Rattle.exec_base.specs.Host.{lock_key, is_lockable, place_seen, asset_seen, note_program, lock_refusal, asset_locked, account_place, request_key, unlock_program, request_refusal, asset_requested, first_fault, debit_fault, trust_fault, deposit_refusal, deposited, transfer_refusal, withdraw_refusal, transferred, transfer_out_refusal, transferred_out, deposit_out_refusal, deposited_out, is_teleport, changed_all, ship_refusal, shipped, seen_from, querier_seen, report_program, report_refusal, respond_refusal, responded}
use Rattle.exec_rules.specs.Machine.{Machine, machine}
use Rattle.exec_rules.specs.Holdings.{with_holding}
use Rattle.exec_rules.proofs.Lemmas.AnswerLaws.{unless_held, unless_next, none_first, none_next, withdrawn_is_listed}
use Rattle.law_coherence.specs.UniversalAssets.{UniversalAsset, every}
use Rattle.law_coherence.specs.Networks.{Table, IsIn, Agrees}
use Rattle.law_coherence.proofs.Lemmas.Trusting.{of_reserve}
use Rattle.law_coherence.proofs.Lemmas.Cargoes.{IsForeign, withdrawal_foreign}
use Rattle.law_coherence.specs.Checking.{account_in, risen}
use Rattle.law_coherence.specs.Parts.{in_bundle}
use Rattle.law_runs.specs.Views.{table_of, view}
use Rattle.law_runs.specs.Sums.{kept_of, none}
use Rattle.law_runs.proofs.Lemmas.Sums.{account_total, sum_of, with, nobody, only}
use Rattle.law_runs.specs.Calls.{Withdraws}
use Rattle.law_runs.proofs.Lemmas.Calls.{call_then, call_with, call_by, still, depositing, transferring, got_at, put_by_transfer}
use Rattle.law_runs.proofs.Lemmas.Posts.{routed_send, routed_list}
use Rattle.law_runs.proofs.Lemmas.Checks.{same_checks, list_raises}
use Rattle.law_runs.specs.Safety.{HasList, AreLists, origins, hold, IsRunnable}
use Rattle.law_runs.proofs.Lemmas.Safety.{Sends}
use Rattle.plain_lists.proofs.Lemmas.Facts.{neither_true as or_false, told_at_most as at_most}

-- ---- the assets of a bundle whose instances are held once
abbrev AreWithin : List (Unit × ℕ) → Type 0
AreWithin rs = (u : Unit) → sum_where (eq_by_cmp unit_cmp u) rs ≤ most_of u.1

tail_within : (r : Unit × ℕ) (rs : List (Unit × ℕ)) → AreWithin (r ∷ rs) → AreWithin rs
tail_within r rs within u = let all = within u in omega (arith, all)

head_within : (r : Unit × ℕ) (rs : List (Unit × ℕ)) → AreWithin (r ∷ rs) → r.1 ≤ most_of r.0.1
head_within r rs within =
    let all = within r.0 in
    let counted : amount_if (eq_by_cmp unit_cmp r.0 r.0) r.1 ≡ r.1 = ap (λ b. amount_if b r.1) (same_key unit_keys r.0) in
    omega (arith, all, counted)

row_back : (id : AssetId) (o : Option Instance) (n : ℕ) → 0 < n → n ≤ most_of o → ◌≡◌ {A = Unit × ℕ} (unit_of (record { id = id; fun = fun_of o n }), amount_of (record { id = id; fun = fun_of o n })) ((id, o), n)
row_back id None n some le = refl
row_back id (Some instance) n some le = let one : 1 ≡ n = omega (arith, some, le) in λ i. ((id, Some instance), one i)

rows_back : (rs : List (Unit × ℕ)) → IsPositive rs → AreWithin rs → rows_of (assets_of_rows rs) ≡ rs
rows_back [] positive within = refl
rows_back (r ∷ rs) positive within = λ i. row_back r.0.0 r.0.1 r.1 positive.0 (head_within r rs within) i ∷ rows_back rs positive.1 (tail_within r rs within) i

pub goods_back : (b : Bundle) → IsWithinMost b → IsGoods b
unfolding held_assets bundle_of
goods_back b within =
    ap from_rows (rows_back (rows b) (rows_positive b) (λ u. let e = amount-rows unit_keys b u in let le = within u in omega (arith, e, le)))
    ∙ from_rows-rows unit_keys b

-- goods leave what is held, and the rest stays
pub record Leaves (m : Machine) (rest goods : Bundle) : Type 0 where
  pub sums : (t : Unit → Bool) → total t rest + total t goods ≡ total t m.regs.holding
  pub within : IsWithinMost goods

-- ---- an asset of each unit
find_trusted : (P : Asset → Type 0) (xs : List Asset) (u : Unit) → AllByRecursion P xs → list_any (λ a. eq_by_cmp unit_cmp u (unit_of a)) xs ≡ true → (a : Asset) × P a × (u ≡ unit_of a)
find_trusted P [] u all some = absurd cc
find_trusted P (a ∷ xs) u all some =
    elim (eq_by_cmp unit_cmp u (unit_of a)) as (λ b. eq_by_cmp unit_cmp u (unit_of a) ≡ b → (b || list_any (λ a. eq_by_cmp unit_cmp u (unit_of a)) xs) ≡ true → (a : Asset) × P a × (u ≡ unit_of a)) [
      | true ↦ λ t h. (a, all.0, key_same unit_keys u (unit_of a) t)
      | false ↦ λ t h. find_trusted P xs u all.1 h
    ] refl some

-- of each unit of the goods, what holds of each asset of their list
pub each_unit : (P : Asset → Type 0) (b : Bundle) → IsGoods b → AllByRecursion P (held_assets b) → (u : Unit) → 0 < amount b u → (a : Asset) × P a × (u ≡ unit_of a)
each_unit P b goods all u held = find_trusted P (held_assets b) u all (asset_of_unit (held_assets b) u (subst (λ (c : Bundle). 0 < amount c u) (sym goods) held))

-- ---- lists as the receiver names them
pub HasList-IsOfLayer : IsOfLayer HasList
HasList-IsOfLayer X Y f (Instruction-F.WithdrawAsset list) = refl
HasList-IsOfLayer X Y f _ = refl

-- what was named and put in order
pub record IsNamedList (target : Location) (context : List Junction) (xs new : List Asset) : Type 0 where
  pub all : List Asset
  pub moved : all_reanchored target context xs ≡ Some all
  pub is : new ≡ in_order all
  pub rising : is_rising new ≡ true

named_by : (o : Option (List Asset)) (new : List Asset) → option_and_then (λ (all : List Asset). list_if (is_rising (in_order all)) (in_order all)) o ≡ Some new → (all : List Asset) × (o ≡ Some all) × (new ≡ in_order all) × (is_rising new ≡ true)
named_by None new e = absurd cc
named_by (Some all) new e =
    elim (is_rising (in_order all)) as (λ b. is_rising (in_order all) ≡ b → list_if b (in_order all) ≡ Some new → (found : List Asset) × (Some all ≡ Some found) × (new ≡ in_order found) × (is_rising new ≡ true)) [
      | true ↦ λ t h. let same : in_order all ≡ new = same_list (in_order all) new h in (all, refl, sym same, subst (λ (xs : List Asset). is_rising xs ≡ true) same t)
      | false ↦ λ t h. absurd cc
    ] refl e
  where
    same_list : (x y : List Asset) → Some x ≡ Some y → x ≡ y
    same_list x y e = cc

pub named_list : (target : Location) (context : List Junction) (xs new : List Asset) → reanchored_list target context xs ≡ Some new → IsNamedList target context xs new
unfolding reanchored_list
named_list target context xs new e = let found = named_by (all_reanchored target context xs) new e in record { all = found.0; moved = found.1; is = found.2; rising = found.3 }

moved_fun : (o : Option AssetId) (a b : Asset) → option_map (λ id. record { id = id; fun = a.fun }) o ≡ Some b → b.fun ≡ a.fun
moved_fun None a b e = absurd cc
moved_fun (Some id) a b e = ap (λ (x : Asset). x.fun) (sym (same_asset (record { id = id; fun = a.fun }) b e))
  where
    same_asset : (x y : Asset) → Some x ≡ Some y → x ≡ y
    same_asset x y e = cc

zero_by : (a : Asset) (o : Option Asset) (q : Option (List Asset)) (all : List Asset) → is_zero a ≡ false → ((b : Asset) → o ≡ Some b → b.fun ≡ a.fun) → ((ys : List Asset) → q ≡ Some ys → has_zero ys ≡ false) → both o q ≡ Some all → has_zero all ≡ false
zero_by a None q all h fun tail e = absurd cc
zero_by a (Some b) None all h fun tail e = absurd cc
zero_by a (Some b) (Some ys) all h fun tail e =
    let same : b ∷ ys ≡ all = cc in
    let head : is_zero b ≡ false = ap (λ (f : Fun). nat_eq (amount_in f) 0) (fun b refl) ∙ h in
    subst (λ (zs : List Asset). has_zero zs ≡ false) same (ap (λ (c : Bool). c || has_zero ys) head ∙ tail ys refl)

no_zero_moved : (target : Location) (context : List Junction) (xs all : List Asset) → all_reanchored target context xs ≡ Some all → has_zero xs ≡ false → has_zero all ≡ false
no_zero_moved target context [] all e h = let same : [] ≡ all = cc in subst (λ (ys : List Asset). has_zero ys ≡ false) same refl
no_zero_moved target context (a ∷ xs) all e h =
    let parts = or_false (is_zero a) (has_zero xs) h in
    zero_by a (moved target context a) (all_reanchored target context xs) all parts.0 (λ b at. moved_fun (reanchored_id target context a.id) a b at) (λ ys rest. no_zero_moved target context xs ys rest parts.1) e

no_zero_held : (rs : List (Unit × ℕ)) → IsPositive rs → has_zero (assets_of_rows rs) ≡ false
no_zero_held [] positive = refl
no_zero_held (r ∷ rs) positive = ap (λ (b : Bool). b || has_zero (assets_of_rows rs)) (not_zero r.0.1 r.1 positive.0) ∙ no_zero_held rs positive.1
  where
    not_zero : (o : Option Instance) (n : ℕ) → 0 < n → nat_eq (amount_in (fun_of o n)) 0 ≡ false
    not_zero None n some = grind (arith, nat_tests, some)
    not_zero (Some instance) n some = refl

pub named_in_order : (target : Location) (context : List Junction) (goods : Bundle) (new : List Asset) → reanchored_list target context (held_assets goods) ≡ Some new → length new ≤ 20 → IsAssetList new
unfolding held_assets
named_in_order target context goods new e few =
    let found = named_list target context (held_assets goods) new e in
    let zero_free = no_zero_moved target context (held_assets goods) found.all found.moved (no_zero_held (rows goods) (rows_positive goods)) in
    record {
      few = few;
      no_zero = sym (list_any-IsPermutation is_zero found.all new (subst (IsPermutation found.all) (sym found.is) (in_order_moves found.all))) ∙ zero_free;
      rising = found.rising;
    }

module _ (n : List Table) (agrees : Agrees n) where
  pub foreign_units : (t : Table) → IsIn n t → (name : Location) (b : Bundle) → IsGoods b → AllByRecursion (λ (a : Asset). IsTrue (is_reserve t.rows t.site a name)) (held_assets b) → (u : Unit) → 0 < amount b u → IsForeign t u
  foreign_units t t_in name b goods all u held =
      let found = each_unit (λ (a : Asset). IsTrue (is_reserve t.rows t.site a name)) b goods all u held in
      let owed = of_reserve n agrees t t_in found.0 name found.1 in
      subst (IsForeign t) (sym found.2) (record { row = owed.2.twin.row; listed = owed.2.twin.listed; of = owed.2.twin.unit; reserve = owed.0.site.chain; derivative = owed.2.here })

  -- ---- programs that are sent
  few_of_refusal : (o : Option Outgoing) (few : Bool) (program : List Instruction) → channel_refusal o few program ≡ None → (few ≡ true) × (deep_count program ≤ 100)
  few_of_refusal None few program h = absurd cc
  few_of_refusal (Some c) few program h =
      let test = unless_held (few && is_sendable c program) error.ExceedsMaxMessageSize _ h in
      let parts = and_parts few (is_sendable c program) test in
      let more = and_parts (nat_le (deep_count program) 100) _ parts.1 in
      (parts.0, at_most (deep_count program) 100 more.0)

  few_sent : (p : ChainPart) (dest : Location) (few : Bool) (program : List Instruction) → send_refusal p dest few program ≡ None → (few ≡ true) × (deep_count program ≤ 100)
  unfolding send_refusal
  few_sent p dest few program h = few_of_refusal (channel_to_location p dest) few program h

  led : (first : Instruction-F Instruction) → HasList Instruction first → inner first ≡ None → (xcm : List Instruction) → AllByRecursion AreLists xcm → AllByRecursion AreLists (led_by first xcm)
  led first fits flat xcm nested = (
    everywhere_made HasList HasList-IsOfLayer first fits (subst (AllInside AreLists) (sym flat) tt),
    (everywhere_made HasList HasList-IsOfLayer Instruction-F.ClearOrigin tt tt, nested),
  )

  deposit_runs : (p : ChainPart) (dest : Location) (xcm : List Instruction) → AllByRecursion AreLists xcm → (o : Option (List Asset)) → listed_refusal p dest (λ a. deposit_program a xcm) o ≡ None → IsRunnable (listed_program (λ a. deposit_program a xcm) o)
  deposit_runs p dest xcm nested None ok = absurd cc
  deposit_runs p dest xcm nested (Some list) ok = record {
    few = let few = (few_sent p dest (nat_le (length list) 20) (deposit_program list xcm) ok).1 in omega (arith, few);
    lists = led (Instruction-F.ReserveAssetDeposited list) tt refl xcm nested;
  }

  away_lists : (way : Way) (list : List Asset) → IsAssetList list → (xcm : List Instruction) → AllByRecursion AreLists xcm → AllByRecursion AreLists (away_program way list xcm)
  away_lists Way.Withdrawal list fits xcm nested = led (Instruction-F.WithdrawAsset list) fits refl xcm nested
  away_lists Way.Teleport list fits xcm nested = led (Instruction-F.ReceiveTeleportedAsset list) fits refl xcm nested

  shipped_runs : (p : ChainPart) (goods : Bundle) (way : Way) (dest : Location) (xcm : List Instruction) → AllByRecursion AreLists xcm → (o : Option (List Asset)) → seen_from p dest (held_assets goods) ≡ o
      → listed_refusal p dest (λ a. away_program way a xcm) o ≡ None → IsRunnable (listed_program (λ a. away_program way a xcm) o)
  shipped_runs p goods way dest xcm nested None e ok = absurd cc
  shipped_runs p goods way dest xcm nested (Some list) e ok =
      let few = few_sent p dest (nat_le (length list) 20) (away_program way list xcm) ok in
      record {
        few = let le = few.1 in omega (arith, le);
        lists = away_lists way list (named_in_order dest (path_of_site p.site) goods list e (at_most (length list) 20 few.0)) xcm nested;
      }

  report_runs : (p : ChainPart) (info : QueryInfo) (answer : Response) (seen : Option Location) → send_refusal p info.destination true (report_program info answer seen) ≡ None → IsRunnable (report_program info answer seen)
  report_runs p info answer seen ok = record {
    few = let few = (few_sent p info.destination true (report_program info answer seen) ok).1 in omega (arith, few);
    lists = (everywhere_made HasList HasList-IsOfLayer (Instruction-F.QueryResponse info.query_id answer info.max_weight seen) tt tt, tt);
  }

  -- ---- what is on its way
  pub reserves_hold : (p : ChainPart) (name : Location) (list : List Asset) → first_fault (trust_fault p name false) list ≡ None → AllByRecursion (λ (a : Asset). IsTrue (is_reserve p.rows p.site a name)) list
  reserves_hold p name [] h = tt
  reserves_hold p name (a ∷ list) h = (unless_held _ _ _ (none_first (trust_fault p name false a) (first_fault (trust_fault p name false) list) h), reserves_hold p name list (none_next (trust_fault p name false a) (first_fault (trust_fault p name false) list) h))

  pub partners_hold : (p : ChainPart) (name : Location) (list : List Asset) → first_fault (trust_fault p name true) list ≡ None → AllByRecursion (λ (a : Asset). IsTrue (is_partner p.rows p.site a name)) list
  partners_hold p name [] h = tt
  partners_hold p name (a ∷ list) h = (unless_held _ _ _ (none_first (trust_fault p name true a) (first_fault (trust_fault p name true) list) h), partners_hold p name list (none_next (trust_fault p name true a) (first_fault (trust_fault p name true) list) h))

  shipped_queued : (p : ChainPart) (goods : Bundle) (way : Way) (dest : Location) (xcm : List Instruction)
      → (shipped p goods way dest xcm).channels ≡ change_first (leads_to_location p dest) (with_waiting (listed_program (λ a. away_program way a xcm) (seen_from p dest (held_assets goods))) (away way goods)) p.channels
  unfolding shipped sent
  shipped_queued p goods way dest xcm = refl

  shipped_kept : (p : ChainPart) (goods : Bundle) (way : Way) (dest : Location) (xcm : List Instruction) → kept_of (record (shipped p goods way dest xcm) { channels = p.channels; checking = p.checking }) ≡ kept_of p
  unfolding shipped sent
  shipped_kept p goods way dest xcm = refl

  shipped_accounts : (who : List ℕ) (t : Unit → Bool) (p : ChainPart) (goods : Bundle) (way : Way) (dest : Location) (xcm : List Instruction) → account_total who t (shipped p goods way dest xcm) ≡ account_total who t p
  unfolding shipped sent
  shipped_accounts who t p goods way dest xcm = refl

  -- the checking accounts
  withdrawal_checks : (p : ChainPart) (goods : Bundle) (dest : Location) (xcm : List Instruction) → (shipped p goods Way.Withdrawal dest xcm).checking ≡ p.checking
  unfolding shipped sent
  withdrawal_checks p goods dest xcm = refl

  teleport_checks : (p : ChainPart) (goods : Bundle) (dest : Location) (xcm : List Instruction) → (shipped p goods Way.Teleport dest xcm).checking ≡ changed_all (λ n a. n + a) (held_assets goods) p.rows p.checking
  unfolding shipped sent
  teleport_checks p goods dest xcm = refl

  accounts_raised : (p : ChainPart) → IsIn n (table_of p) → (name : Location) (goods : Bundle) → IsGoods goods → AllByRecursion (λ (a : Asset). IsTrue (is_partner p.rows p.site a name)) (held_assets goods) → (checking : List (Option ℕ))
      → checking ≡ changed_all (λ n a. n + a) (held_assets goods) p.rows p.checking → (a : UniversalAsset) → account_in (table_of p) a p.rows checking ≡ risen (in_bundle (table_of p) a every goods) (account_in (table_of p) a p.rows p.checking)
  accounts_raised p p_in name goods whole partners checking changed a =
      ap (account_in (table_of p) a p.rows) changed
      ∙ list_raises (table_of p) name a (λ x y x_in y_in path. agrees.paths_apart (table_of p) x y p_in x_in y_in path) (held_assets goods) p.checking partners
      ∙ ap (λ (b : Bundle). risen (in_bundle (table_of p) a every b) (account_in (table_of p) a p.rows p.checking)) whole

  ship_faults : (p : ChainPart) (goods : Bundle) (way : Way) (dest : Location) (xcm : List Instruction) → ship_refusal p goods way dest xcm ≡ None
      → (first_fault (trust_fault p dest (is_teleport way)) (held_assets goods) ≡ None) × (listed_refusal p dest (λ a. away_program way a xcm) (seen_from p dest (held_assets goods)) ≡ None)
  unfolding ship_refusal
  ship_faults p goods way dest xcm ok = (none_first _ _ ok, none_next _ _ (none_next _ _ ok))

  pub withdrawal_sends : (m : Machine) (rest goods : Bundle) (dest : Location) (xcm : List Instruction) → Leaves m rest goods → IsIn n (table_of m.part) → AllByRecursion AreLists xcm → ship_refusal m.part goods Way.Withdrawal dest xcm ≡ None
      → Sends m (machine (with_holding m.regs rest) (shipped m.part goods Way.Withdrawal dest xcm))
  withdrawal_sends m rest goods dest xcm leaves there nested ok =
      let faults = ship_faults m.part goods Way.Withdrawal dest xcm ok in
      let routed = routed_list m.part dest (λ a. away_program Way.Withdrawal a xcm) (seen_from m.part dest (held_assets goods)) faults.1 in
      let whole = goods_back goods leaves.within in
      let reserves = reserves_hold m.part dest (held_assets goods) faults.0 in
      let q : ChainPart = record (shipped m.part goods Way.Withdrawal dest xcm) { channels = m.part.channels; checking = m.part.checking } in
      record {
        name = dest;
        channel = routed.0;
        found = routed.1;
        program = listed_program (λ a. away_program Way.Withdrawal a xcm) (seen_from m.part dest (held_assets goods));
        cargo = away Way.Withdrawal goods;
        queued = shipped_queued m.part goods Way.Withdrawal dest xcm;
        call = call_with (origins m) none none (hold m) (with (sum_of rest) (sum_of goods)) m.part q
            (call_by nobody (origins m) none none m.part q (still m.part q (shipped_kept m.part goods Way.Withdrawal dest xcm)) (λ who h. absurd h))
            (λ t. let e = leaves.sums t in omega (arith, e));
        put = λ who t account others. let e = shipped_accounts who t m.part goods Way.Withdrawal dest xcm in omega (arith, e);
        raised = λ a. same_checks m.part _ a (withdrawal_checks m.part goods dest xcm);
        foreign = λ a home. withdrawal_foreign n agrees (view m) goods there (foreign_units (table_of m.part) there dest goods whole reserves) a home;
        trusted = (whole, reserves);
        runnable = shipped_runs m.part goods Way.Withdrawal dest xcm nested (seen_from m.part dest (held_assets goods)) refl faults.1;
      }

  pub teleport_sends : (m : Machine) (rest goods : Bundle) (dest : Location) (xcm : List Instruction) → Leaves m rest goods → IsIn n (table_of m.part) → AllByRecursion AreLists xcm → ship_refusal m.part goods Way.Teleport dest xcm ≡ None
      → Sends m (machine (with_holding m.regs rest) (shipped m.part goods Way.Teleport dest xcm))
  teleport_sends m rest goods dest xcm leaves there nested ok =
      let faults = ship_faults m.part goods Way.Teleport dest xcm ok in
      let routed = routed_list m.part dest (λ a. away_program Way.Teleport a xcm) (seen_from m.part dest (held_assets goods)) faults.1 in
      let whole = goods_back goods leaves.within in
      let q : ChainPart = record (shipped m.part goods Way.Teleport dest xcm) { channels = m.part.channels; checking = m.part.checking } in
      record {
        name = dest;
        channel = routed.0;
        found = routed.1;
        program = listed_program (λ a. away_program Way.Teleport a xcm) (seen_from m.part dest (held_assets goods));
        cargo = away Way.Teleport goods;
        queued = shipped_queued m.part goods Way.Teleport dest xcm;
        call = call_with (origins m) none none (hold m) (with (sum_of rest) (sum_of goods)) m.part q
            (call_by nobody (origins m) none none m.part q (still m.part q (shipped_kept m.part goods Way.Teleport dest xcm)) (λ who h. absurd h))
            (λ t. let e = leaves.sums t in omega (arith, e));
        put = λ who t account others. let e = shipped_accounts who t m.part goods Way.Teleport dest xcm in omega (arith, e);
        raised = accounts_raised m.part there dest goods whole (partners_hold m.part dest (held_assets goods) faults.0) _ (teleport_checks m.part goods dest xcm);
        foreign = λ a home. refl;
        trusted = (whole, partners_hold m.part dest (held_assets goods) faults.0);
        runnable = shipped_runs m.part goods Way.Teleport dest xcm nested (seen_from m.part dest (held_assets goods)) refl faults.1;
      }

  -- ---- a deposit from the holding
  deposited_queued : (p : ChainPart) (goods : Bundle) (dest : Location) (xcm : List Instruction)
      → (deposited_out p goods dest xcm).channels ≡ change_first (leads_to_location p dest) (with_waiting (listed_program (λ a. deposit_program a xcm) (seen_from p dest (held_assets goods))) (cargos.Deposit (held_assets goods))) p.channels
  unfolding deposited_out deposited sent
  deposited_queued p goods dest xcm = refl

  deposited_kept : (p : ChainPart) (goods : Bundle) (dest : Location) (xcm : List Instruction) → kept_of (record (deposited_out p goods dest xcm) { channels = p.channels; checking = p.checking }) ≡ kept_of (deposited p goods dest)
  unfolding deposited_out deposited sent
  deposited_kept p goods dest xcm = refl

  deposited_checks : (p : ChainPart) (goods : Bundle) (dest : Location) (xcm : List Instruction) → (deposited_out p goods dest xcm).checking ≡ p.checking
  unfolding deposited_out deposited sent
  deposited_checks p goods dest xcm = refl

  deposit_put : (p : ChainPart) (goods : Bundle) (dest : Location) (xcm : List Instruction) (who : List ℕ) (t : Unit → Bool) → account_of dest p.site ≡ Some who → account_total who t p + total t goods ≤ account_total who t (deposited_out p goods dest xcm)
  unfolding deposited_out deposited sent
  deposit_put p goods dest xcm who t account = got_at p (account_of dest p.site) goods who t account

  deposit_faults : (p : ChainPart) (goods : Bundle) (dest : Location) (xcm : List Instruction) → deposit_out_refusal p goods dest xcm ≡ None
      → (deposit_refusal p goods dest ≡ None) × (listed_refusal p dest (λ a. deposit_program a xcm) (seen_from p dest (held_assets goods)) ≡ None)
  unfolding deposit_out_refusal
  deposit_faults p goods dest xcm ok = (none_first _ _ ok, none_next _ _ ok)

  pub deposit_sends : (m : Machine) (rest goods : Bundle) (dest : Location) (xcm : List Instruction) → Leaves m rest goods → AreListed (listing m.part.rows) goods → AllByRecursion AreLists xcm → deposit_out_refusal m.part goods dest xcm ≡ None
      → Sends m (machine (with_holding m.regs rest) (deposited_out m.part goods dest xcm))
  deposit_sends m rest goods dest xcm leaves listed nested ok =
      let faults = deposit_faults m.part goods dest xcm ok in
      let routed = routed_list m.part dest (λ a. deposit_program a xcm) (seen_from m.part dest (held_assets goods)) faults.1 in
      let whole = goods_back goods leaves.within in
      let p = deposited m.part goods dest in
      let q : ChainPart = record (deposited_out m.part goods dest xcm) { channels = m.part.channels; checking = m.part.checking } in
      record {
        name = dest;
        channel = routed.0;
        found = routed.1;
        program = listed_program (λ a. deposit_program a xcm) (seen_from m.part dest (held_assets goods));
        cargo = cargos.Deposit (held_assets goods);
        queued = deposited_queued m.part goods dest xcm;
        call = call_with (origins m) (sum_of goods) none (hold m) (with (sum_of rest) none) m.part q
            (call_by nobody (origins m) (sum_of goods) none m.part q
            (call_then nobody (sum_of goods) none none m.part p q (depositing m.part goods dest faults.0) (still p q (deposited_kept m.part goods dest xcm))) (λ who h. absurd h))
            (λ t. let e = leaves.sums t in omega (arith, e));
        put = λ who t account others.
            let got = deposit_put m.part goods dest xcm who t account in
            let same = ap (total t) whole in
            omega (arith, got, same);
        raised = λ a. same_checks m.part _ a (deposited_checks m.part goods dest xcm);
        foreign = λ a home. refl;
        trusted = subst (AreListed (listing m.part.rows)) (sym whole) listed;
        runnable = deposit_runs m.part dest xcm nested (seen_from m.part dest (held_assets goods)) faults.1;
      }

  -- ---- a deposit from an account
  transferred_queued : (p : ChainPart) (list : List Asset) (from dest : Location) (xcm : List Instruction)
      → (transferred_out p list from dest xcm).channels ≡ change_first (leads_to_location p dest) (with_waiting (listed_program (λ a. deposit_program a xcm) (seen_from p dest list)) (cargos.Deposit list)) p.channels
  unfolding transferred_out transferred sent
  transferred_queued p list from dest xcm = refl

  transferred_kept : (p : ChainPart) (list : List Asset) (from dest : Location) (xcm : List Instruction) → kept_of (record (transferred_out p list from dest xcm) { channels = p.channels; checking = p.checking }) ≡ kept_of (transferred p list from dest)
  unfolding transferred_out transferred sent
  transferred_kept p list from dest xcm = refl

  transferred_accounts : (who : List ℕ) (t : Unit → Bool) (p : ChainPart) (list : List Asset) (from dest : Location) (xcm : List Instruction) → account_total who t (transferred_out p list from dest xcm) ≡ account_total who t (transferred p list from dest)
  unfolding transferred_out sent
  transferred_accounts who t p list from dest xcm = refl

  transferred_checks : (p : ChainPart) (list : List Asset) (from dest : Location) (xcm : List Instruction) → (transferred_out p list from dest xcm).checking ≡ p.checking
  unfolding transferred_out transferred sent
  transferred_checks p list from dest xcm = refl

  transfer_faults : (p : ChainPart) (list : List Asset) (from dest : Location) (xcm : List Instruction) → transfer_out_refusal p list from dest xcm ≡ None
      → (transfer_refusal p list from dest ≡ None) × (listed_refusal p dest (λ a. deposit_program a xcm) (seen_from p dest list) ≡ None)
  unfolding transfer_out_refusal
  transfer_faults p list from dest xcm ok = (none_first _ _ ok, none_next _ _ ok)

  gives : (p : ChainPart) (list : List Asset) (from : Location) → first_fault (debit_fault p (account_of from p.site)) list ≡ None → withdraw_refusal p list from ≡ None
  unfolding withdraw_refusal
  gives p list from h = h

  list_listed : (p : ChainPart) (list : List Asset) (from dest : Location) → transfer_refusal p list from dest ≡ None → AreListed (listing p.rows) (bundle_of list)
  unfolding transfer_refusal
  list_listed p list from dest ok = withdrawn_is_listed p list from (gives p list from (none_first _ _ ok))

  pub transfer_sends : Withdraws → (m : Machine) (list : List Asset) (who dest : Location) (xcm : List Instruction) → m.regs.origin ≡ Some who → IsAssetList list → AllByRecursion AreLists xcm → transfer_out_refusal m.part list who dest xcm ≡ None
      → Sends m (machine m.regs (transferred_out m.part list who dest xcm))
  transfer_sends law m list who dest xcm is in_order nested ok =
      let faults = transfer_faults m.part list who dest xcm ok in
      let routed = routed_list m.part dest (λ a. deposit_program a xcm) (seen_from m.part dest list) faults.1 in
      let p = transferred m.part list who dest in
      let q : ChainPart = record (transferred_out m.part list who dest xcm) { channels = m.part.channels; checking = m.part.checking } in
      record {
        name = dest;
        channel = routed.0;
        found = routed.1;
        program = listed_program (λ a. deposit_program a xcm) (seen_from m.part dest list);
        cargo = cargos.Deposit list;
        queued = transferred_queued m.part list who dest xcm;
        call = call_with (origins m) none none (hold m) (with (hold m) none) m.part q
            (call_then (origins m) none none none m.part p q
            (call_by (only (account_of who m.part.site)) (origins m) none none m.part p (transferring law m.part list who dest in_order faults.0) (λ account e. (who, is, e)))
            (call_by nobody (origins m) none none p q (still p q (transferred_kept m.part list who dest xcm)) (λ account h. absurd h)))
            (λ t. omega arith);
        put = λ account t there others.
            let got = put_by_transfer law m.part list who dest in_order faults.0 account t there (λ e. others (who, is, e)) in
            let same = transferred_accounts account t m.part list who dest xcm in
            omega (arith, got, same);
        raised = λ a. same_checks m.part _ a (transferred_checks m.part list who dest xcm);
        foreign = λ a home. refl;
        trusted = list_listed m.part list who dest faults.0;
        runnable = deposit_runs m.part dest xcm nested (seen_from m.part dest list) faults.1;
      }

  -- ---- reports
  sent_queued : (p : ChainPart) (dest : Location) (program : List Instruction) (cargo : carried.Cargo) → (sent p dest program cargo).channels ≡ change_first (leads_to_location p dest) (with_waiting program cargo) p.channels
  unfolding sent
  sent_queued p dest program cargo = refl

  sent_kept : (p : ChainPart) (dest : Location) (program : List Instruction) (cargo : carried.Cargo) → kept_of (record (sent p dest program cargo) { channels = p.channels; checking = p.checking }) ≡ kept_of p
  unfolding sent
  sent_kept p dest program cargo = refl

  sent_accounts : (who : List ℕ) (t : Unit → Bool) (p : ChainPart) (dest : Location) (program : List Instruction) (cargo : carried.Cargo) → account_total who t (sent p dest program cargo) ≡ account_total who t p
  unfolding sent
  sent_accounts who t p dest program cargo = refl

  sent_checks : (p : ChainPart) (dest : Location) (program : List Instruction) (cargo : carried.Cargo) → (sent p dest program cargo).checking ≡ p.checking
  unfolding sent
  sent_checks p dest program cargo = refl

  -- whatever the locks are then
  nothing_goes : (m : Machine) (locked : LocksAndNotes) (dest : Location) (program : List Instruction) (c : Outgoing) → channel_to_location m.part dest ≡ Some c → IsRunnable program
      → Sends m (machine m.regs (sent (record m.part { locked = locked }) dest program cargos.Nothing))
  nothing_goes m locked dest program c found runnable =
      let p : ChainPart = record m.part { locked = locked } in
      let q : ChainPart = record (sent p dest program cargos.Nothing) { channels = m.part.channels; checking = m.part.checking } in
      record {
        name = dest;
        channel = c;
        found = found;
        program = program;
        cargo = cargos.Nothing;
        queued = sent_queued p dest program cargos.Nothing;
        call = call_with (origins m) none none (hold m) (with (hold m) none) m.part q (call_by nobody (origins m) none none m.part q (still m.part q (sent_kept p dest program cargos.Nothing)) (λ who h. absurd h)) (λ t. omega arith);
        put = λ who t account others. let e : account_total who t (sent p dest program cargos.Nothing) ≡ account_total who t m.part = sent_accounts who t p dest program cargos.Nothing in omega (arith, e);
        raised = λ a. same_checks m.part _ a (sent_checks p dest program cargos.Nothing);
        foreign = λ a home. refl;
        trusted = tt;
        runnable = runnable;
      }

  pub nothing_sends : (m : Machine) (dest : Location) (program : List Instruction) (c : Outgoing) → channel_to_location m.part dest ≡ Some c → IsRunnable program → Sends m (machine m.regs (sent m.part dest program cargos.Nothing))
  nothing_sends m dest program c found runnable = nothing_goes m m.part.locked dest program c found runnable

  report_by : (m : Machine) (info : QueryInfo) (answer : Response) (o : Option (Option Location)) → report_refusal m.part info answer o ≡ None
      → Sends m (machine m.regs (option_map_or (λ (seen : Option Location). sent m.part info.destination (report_program info answer seen) cargos.Nothing) o m.part))
  report_by m info answer None ok = absurd cc
  report_by m info answer (Some seen) ok =
      let routed = routed_send m.part info.destination true (report_program info answer seen) ok in
      nothing_sends m info.destination (report_program info answer seen) routed.0 routed.1 (report_runs m.part info answer seen ok)

  pub report_sends : (m : Machine) (info : QueryInfo) (answer : Response) (querier : Option Location) → respond_refusal m.part info answer querier ≡ None → Sends m (machine m.regs (responded m.part info answer querier))
  unfolding respond_refusal responded
  report_sends m info answer querier ok = report_by m info answer (querier_seen m.part info.destination querier) ok

  -- ---- of locks
  named_goes : (m : Machine) (locked : LocksAndNotes) (dest : Location) (o : Option (List Instruction)) → named_refusal m.part dest o ≡ None → ((program : List Instruction) → o ≡ Some program → AllByRecursion AreLists program)
      → Sends m (machine m.regs (named_sent (record m.part { locked = locked }) dest o))
  named_goes m locked dest None ok lists = absurd cc
  named_goes m locked dest (Some program) ok lists =
      let routed = routed_send m.part dest true program ok in
      nothing_goes m locked dest program routed.0 routed.1 (record { few = let few = (few_sent m.part dest true program ok).1 in omega (arith, few); lists = lists program refl })

  same_program : (a b : List Instruction) → Some a ≡ Some b → a ≡ b
  same_program a b e = cc

  one_told : (first : Instruction-F Instruction) (program : List Instruction) → HasList Instruction first → inner first ≡ None → Some (roll-Instruction first ∷ []) ≡ Some program → AllByRecursion AreLists program
  one_told first program fits flat e = subst (AllByRecursion AreLists) (same_program _ program e) (everywhere_made HasList HasList-IsOfLayer first fits (subst (AllInside AreLists) (sym flat) tt), tt)

  note_lists : (o : Option Asset) (place : Option Location) (program : List Instruction)
      → option_and_then (λ (asset : Asset). option_map (λ (place : Location). roll-Instruction (Instruction-F.NoteUnlockable asset place) ∷ []) place) o ≡ Some program → AllByRecursion AreLists program
  note_lists None place program e = absurd (cc e)
  note_lists (Some asset) None program e = absurd (cc e)
  note_lists (Some asset) (Some place) program e = one_told (Instruction-F.NoteUnlockable asset place) program tt refl e

  unlock_lists : (key : Option NoteKey) (o : Option Asset) (program : List Instruction)
      → option_and_then (λ (k : NoteKey). option_map (λ (asset : Asset). roll-Instruction (Instruction-F.UnlockAsset asset (account_place k.2)) ∷ []) o) key ≡ Some program → AllByRecursion AreLists program
  unlock_lists None o program e = absurd (cc e)
  unlock_lists (Some k) None program e = absurd (cc e)
  unlock_lists (Some k) (Some asset) program e = one_told (Instruction-F.UnlockAsset asset (account_place k.2)) program tt refl e

  pub lock_sends : (m : Machine) (a : Asset) (owner unlocker : Location) → lock_refusal m.part a owner unlocker ≡ None → Sends m (machine m.regs (asset_locked m.part a owner unlocker))
  unfolding lock_refusal asset_locked
  lock_sends m a owner unlocker ok =
      named_goes m _ unlocker (note_program m.part a owner unlocker) (unless_next (option_map_or (is_lockable m.part a) (lock_key m.part a owner unlocker) false) _ _ (unless_next m.part.locks _ _ ok))
      (λ program e. note_lists (asset_seen m.part unlocker a) (place_seen m.part unlocker owner) program e)

  pub request_sends : (m : Machine) (a : Asset) (owner locker : Location) → request_refusal m.part a owner locker ≡ None → Sends m (machine m.regs (asset_requested m.part a owner locker))
  unfolding request_refusal asset_requested
  request_sends m a owner locker ok =
      named_goes m _ locker (unlock_program m.part a (request_key a owner locker) locker)
      (unless_next (option_map_or (λ (k : NoteKey). nat_le (amount_of a) (noted k m.part.locked)) (request_key a owner locker) false) _ _ (unless_next m.part.locks _ _ ok))
      (λ program e. unlock_lists (request_key a owner locker) (asset_seen m.part locker a) program e)
