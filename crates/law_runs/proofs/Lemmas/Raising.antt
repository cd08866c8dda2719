-- Lemmas: where each checking account, with all that its chain has, is below its maximum, no teleport of what is held is refused for it.
-- A reader may skip this file.
use Rattle.std.proofs.Common.{◌≡◌, ℕ, zero, suc, ◌+◌, ◌-◌, ◌^◌, ◌<◌, ◌≤◌, Bool, true, false, List, [], ◌∷◌, length, Option, Some, None, get_or, refl, sym, ap, ◌∙◌, subst, arith}
use Rattle.std.specs.Prelude.{IsTrue, ◌&&◌, find, is_some, nat_le, position, if◌then◌else◌, slice_get}
use Rattle.std.specs.List.{AllByRecursion}
use Rattle.std.specs.Option.{option_and_then, option_map_or}
use Rattle.std.specs.Ordering.{eq_by_cmp}
use Rattle.std.proofs.lemmas.Bool.{and_from}
use Rattle.std.proofs.lemmas.Bool.Decides.{nat_tests}
use Rattle.std.proofs.lemmas.List.Quantifiers.{position-Some}
use Rattle.amounts.specs.Rows.{amount_if, sum_where, IsPositive}
use Rattle.amounts.specs.Amounts.{amount, total, rows, IsWithin}
use Rattle.amounts.proofs.Lemmas.AmountLaws.{rows_positive}
use Rattle.amounts.proofs.Lemmas.{same_key, amount-rows, amount-difference, amount_at_most}
use Rattle.locations.specs.declared.relative.Location.{Location}
use Rattle.locations.specs.Order.{junctions_cmp}
use Rattle.locations.proofs.Lemmas.OrderLaws.{junctions_decides}
use Rattle.operands.specs.declared.error.XcmError.{XcmError}
use Rattle.operands.specs.declared.error.XcmError.TheVariants as error
use Rattle.asset_lists.specs.declared.units.Asset.{Asset}
use Rattle.asset_lists.specs.declared.units.AssetId.{AssetId}
use Rattle.asset_lists.specs.declared.units.Instance.{Instance}
use Rattle.asset_lists.specs.declared.filters.Filter.{Filter}
use Rattle.asset_lists.specs.Listed.{kind_of, same_kind}
use Rattle.asset_lists.proofs.Lemmas.{same_kind_says}
use Rattle.asset_lists.specs.Units.{Unit, unit_of, unit_cmp, amount_of}
use Rattle.asset_bundles.specs.declared.shipment.Way.{Way}
use Rattle.asset_bundles.specs.Bundles.{Bundle, fun_of, assets_of_rows, held_assets}
use Rattle.asset_bundles.proofs.Lemmas.Bundles.{unit_keys}
use Rattle.asset_bundles.proofs.Lemmas.{Taken-within}
use Rattle.trust_tables.specs.declared.chains.Site.{Site}
use Rattle.trust_tables.specs.declared.rows.AssetRow.{AssetRow}
use Rattle.trust_tables.specs.Trust.{is_row_of, row_of, is_partner_role, holds_of, is_partner}
use Rattle.trust_tables.proofs.Lemmas.TrustLaws.{is_row_of_says, row_at-position}
use Rattle.xcm_program.specs.declared.instruction.Instruction.{Instruction}
use Rattle.xcm_program.specs.declared.instruction.Instruction.TheOpen.{Instruction-F}
use Rattle.channel_parts.specs.Channels.{Outgoing}
use Rattle.exec_base.specs.Part.{ChainPart}
use Rattle.exec_base.specs.Sending.{unless, or_else, is_sendable, channel_refusal, channel_to_location, send_refusal, listed_refusal}
use Rattle.exec_base.specs.Host.{first_fault, with_account, debit_fault, withdraw_refusal, trust_fault, checking_of, raise_fault, seen_from, ship_refusal, fee_held, fee_drawn, fee_to}
use Rattle.exec_rules.specs.Machine.{Machine, machine}
use Rattle.exec_rules.specs.Holdings.{with_origin, at_origin, holds_asset, payment_of, holding_paid, taken_of}
use Rattle.exec_rules.specs.Fees.{fee_refusal, after_fee, refused_around}
use Rattle.exec_rules.specs.Instructions.{refused}
use Rattle.law_coherence.specs.UniversalAssets.{UniversalAsset, leads_to_path, every, is_unit_at}
use Rattle.law_coherence.specs.Networks.{Table, context_of, IsIn, path_of_row, asset_of_row, is_native_row, Agrees}
use Rattle.law_coherence.specs.Parts.{stock}
use Rattle.law_coherence.specs.Checking.{account_in, checking_at}
use Rattle.law_runs.specs.Views.{table_of, view}
use Rattle.law_runs.proofs.Lemmas.Checks.{partner_native, found_partner, of_row, another}
use Rattle.law_runs.proofs.Lemmas.Shipping.{partners_hold}
use Rattle.plain_lists.proofs.Lemmas.Facts.{false_not_true as not_false}

-- each account, with all that the chain has of its asset, is below its maximum
abbrev pub MayRise : Machine → Type 0
MayRise m = (a : UniversalAsset) (amount : ℕ) → checking_at a (view m) ≡ Some amount → amount + stock a every (view m) < 2 ^ 128 - 1

-- ---- refusals for other reasons
abbrev IsOther : Option XcmError → Type 0
IsOther o = o ≡ Some error.NotDepositable → ⊥

some_error : (e f : XcmError) → Some e ≡ Some f → e ≡ f
some_error e f h = cc

none_other : IsOther None
none_other h = absurd cc

unless_other : (b : Bool) (e : XcmError) (o : Option XcmError) → (e ≡ error.NotDepositable → ⊥) → IsOther o → IsOther (unless b e o)
unless_other true e o n other h = other h
unless_other false e o n other h = n (some_error e error.NotDepositable h)

else_other : (a b : Option XcmError) → IsOther a → (a ≡ None → IsOther b) → IsOther (or_else a b)
else_other None b x y h = y refl h
else_other (Some e) b x y h = x h

first_other : (fault : Asset → Option XcmError) → ((a : Asset) → IsOther (fault a)) → (list : List Asset) → IsOther (first_fault fault list)
first_other fault other [] = none_other
first_other fault other (a ∷ list) = else_other (fault a) (first_fault fault list) (other a) (λ e. first_other fault other list)

channel_other : (o : Option Outgoing) (few : Bool) (program : List Instruction) → IsOther (channel_refusal o few program)
channel_other None few program = λ h. absurd cc
channel_other (Some c) few program = unless_other (few && is_sendable c program) error.ExceedsMaxMessageSize _ (λ e. absurd cc) (unless_other _ error.Transport None (λ e. absurd cc) none_other)

listed_other : (p : ChainPart) (dest : Location) (program : List Asset → List Instruction) (o : Option (List Asset)) → IsOther (listed_refusal p dest program o)
unfolding send_refusal
listed_other p dest program None = λ h. absurd cc
listed_other p dest program (Some list) = channel_other (channel_to_location p dest) (nat_le (length list) 20) (program list)

account_other : (o : Option (List ℕ)) (rule : List ℕ → Option XcmError) → ((who : List ℕ) → IsOther (rule who)) → IsOther (with_account o rule)
account_other None rule other = λ h. absurd cc
account_other (Some who) rule other = other who

give_other : (p : ChainPart) (o : Option (List ℕ)) (a : Asset) → IsOther (debit_fault p o a)
give_other p o a = unless_other (is_some (row_of p.rows a)) error.AssetNotFound _ (λ e. absurd cc) (account_other o _ (λ who. unless_other _ error.FailedToTransactAsset None (λ e. absurd cc) none_other))

withdraw_other : (p : ChainPart) (list : List Asset) (who : Location) → IsOther (withdraw_refusal p list who)
unfolding withdraw_refusal
withdraw_other p list who = first_other (debit_fault p _) (give_other p _) list

origin_other : (o : Option Location) (rule : Location → Option XcmError) → ((who : Location) → IsOther (rule who)) → IsOther (with_origin o rule)
origin_other None rule other = λ h. absurd cc
origin_other (Some who) rule other = other who

either_other : (b : Bool) (x y : Option XcmError) → IsOther x → IsOther y → IsOther (if b then x else y)
either_other true x y h k = h
either_other false x y h k = k

fee_other : (m : Machine) (fee : Asset) → IsOther (fee_refusal m fee)
fee_other m fee = either_other m.regs.fees_mode _ _ (origin_other m.regs.origin _ (λ who. withdraw_other m.part (fee ∷ []) who)) (unless_other (holds_asset m fee) error.NotHoldingFees None (λ e. absurd cc) none_other)

-- ---- a chain with a fee aside
record IsBehindFee (m k : Machine) : Type 0 where
  site : k.part.site ≡ m.part.site
  rows : k.part.rows ≡ m.part.rows
  checking : k.part.checking ≡ m.part.checking
  within : IsWithin k.regs.holding m.regs.holding

fee_by : (m : Machine) (fee : Asset) (b : Bool) (o : Option Location)
    → IsBehindFee m (if b then at_origin o (λ who. machine m.regs (fee_held (fee_drawn m.part (fee ∷ []) who) (payment_of fee))) m else machine (holding_paid m fee).regs (fee_held m.part (payment_of fee)))
unfolding fee_held fee_drawn
fee_by m fee true None = record { site = refl; rows = refl; checking = refl; within = λ u. omega arith }
fee_by m fee true (Some who) = record { site = refl; rows = refl; checking = refl; within = λ u. omega arith }
fee_by m fee false o = record { site = refl; rows = refl; checking = refl; within = λ u. let e = amount-difference unit_keys m.regs.holding (payment_of fee) u in omega (arith, e) }

behind_fee : (m : Machine) (fee : Asset) → IsBehindFee m (after_fee m fee)
behind_fee m fee = fee_by m fee m.regs.fees_mode m.regs.origin

-- ---- the assets of a bundle have no more than the bundle
abbrev AreAmong : Bundle → List Asset → Type 0
AreAmong b list = AllByRecursion (λ (x : Asset). amount_of x ≤ amount b (unit_of x)) list

unit_back : (id : AssetId) (o : Option Instance) (n : ℕ) → ◌≡◌ {A = Unit} (unit_of (record { id = id; fun = fun_of o n })) (id, o)
unit_back id None n = refl
unit_back id (Some instance) n = refl

amount_back : (id : AssetId) (o : Option Instance) (n : ℕ) → 0 < n → amount_of (record { id = id; fun = fun_of o n }) ≤ n
amount_back id None n some = omega arith
amount_back id (Some instance) n some = omega (arith, some)

rows_among : (b : Bundle) (rs : List (Unit × ℕ)) → IsPositive rs → ((u : Unit) → sum_where (eq_by_cmp unit_cmp u) rs ≤ amount b u) → AreAmong b (assets_of_rows rs)
rows_among b [] positive most = tt
rows_among b (r ∷ rs) positive most =
    let x : Asset = record { id = r.0.0; fun = fun_of r.0.1 r.1 } in
    let passes : eq_by_cmp unit_cmp (unit_of x) r.0 ≡ true = subst (λ (u : Unit). eq_by_cmp unit_cmp u r.0 ≡ true) (sym (unit_back r.0.0 r.0.1 r.1)) (same_key unit_keys r.0) in
    let counted : amount_if (eq_by_cmp unit_cmp (unit_of x) r.0) r.1 ≡ r.1 = ap (λ c. amount_if c r.1) passes in
    let few = amount_back r.0.0 r.0.1 r.1 positive.0 in
    let all = most (unit_of x) in
    (omega (arith, counted, few, all), rows_among b rs positive.1 (λ u. let whole = most u in omega (arith, whole)))

held_among : (b : Bundle) → AreAmong b (held_assets b)
unfolding held_assets
held_among b = rows_among b (rows b) (rows_positive b) (λ u. let e = amount-rows unit_keys b u in omega (arith, e))

more_among : (b c : Bundle) → IsWithin b c → (list : List Asset) → AreAmong b list → AreAmong c list
more_among b c within [] all = tt
more_among b c within (x ∷ list) all = (let le = within (unit_of x) in let few = all.0 in omega (arith, le, few), more_among b c within list all.1)

-- ---- the account of an asset that may be teleported
module _ (t : Table) (name : Location) (a : UniversalAsset) where
  -- the account that a host finds of an asset
  found_at : (x : Asset) (rows : List AssetRow) (checking : List (Option ℕ)) (place : ℕ) (d : AssetRow) → ((u v : AssetRow) → IsIn rows u → IsIn rows v → path_of_row t u ≡ path_of_row t v → u ≡ v)
      → holds_of (is_partner_role t.site.chain name) (find (is_row_of x) rows) ≡ true → place < length rows → is_row_of x (get_or rows place d) ≡ true → ((k : ℕ) → k < place → is_row_of x (get_or rows k d) ≡ false)
      → is_unit_at (context_of t) a every (unit_of x) ≡ true → option_and_then (λ (c : Option ℕ). c) (slice_get checking place) ≡ account_in t a rows checking
  found_at x [] checking place d apart trusted inside here before of = absurd (omega (arith, inside))
  found_at x (row ∷ rows) [] place d apart trusted inside here before of = refl
  found_at x (row ∷ rows) (account ∷ checking) zero d apart trusted inside here before of =
      let partner : is_partner_role t.site.chain name row.role ≡ true = sym (ap (λ (b : Bool). holds_of (is_partner_role t.site.chain name) (if b then Some row else find (is_row_of x) rows)) here) ∙ trusted in
      let native : is_native_row t a row ≡ true = sym (of_row t name a x row here (partner_native t.site.chain name row.role partner)) ∙ of in
      sym (ap (λ (b : Bool). if b then account else account_in t a rows checking) native)
  found_at x (row ∷ rows) (account ∷ checking) (suc place) d apart trusted inside here before of =
      let other : is_row_of x row ≡ false = before 0 (omega arith) in
      let rest = sym (ap (λ (b : Bool). holds_of (is_partner_role t.site.chain name) (if b then Some row else find (is_row_of x) rows)) other) ∙ trusted in
      let foreign : is_native_row t a row ≡ false = not_native (is_native_row t a row) (λ native. not_false (is_unit_at (context_of t) a every (unit_of x)) (another t name a x row rows apart other native (found_partner t.site.chain name x rows rest)) of) in
      found_at x rows checking place d (λ u v u_in v_in path. apart u v (suc u_in.0, u_in.1) (suc v_in.0, v_in.1) path) rest (omega (arith, inside)) here (λ k lt. before (suc k) (omega (arith, lt))) of
      ∙ sym (ap (λ (b : Bool). if b then account else account_in t a rows checking) foreign)
    where
      not_native : (b : Bool) → (b ≡ true → ⊥) → b ≡ false
      not_native true n = absurd (n refl)
      not_native false n = refl

-- an asset is of its row's
asset_of_its_row : (t : Table) (x : Asset) (row : AssetRow) → is_row_of x row ≡ true → is_unit_at (context_of t) (asset_of_row t row) every (unit_of x) ≡ true
asset_of_its_row t x row is =
    let told = (is_row_of_says x row).0 is in
    let path : eq_by_cmp junctions_cmp (path_of_row t row) (path_of_row t row) ≡ true = (junctions_decides (path_of_row t row) (path_of_row t row)).1 refl in
    let kinds : same_kind row.kind row.kind ≡ true = (same_kind_says row.kind row.kind).1 refl in
    let there : leads_to_path (context_of t) (path_of_row t row) x.id ≡ true = ap (leads_to_path (context_of t) (path_of_row t row)) told.0 ∙ path in
    let kind : same_kind (kind_of (unit_of x).1) row.kind ≡ true = ap (λ k. same_kind k row.kind) told.1 ∙ kinds in
    and_from (leads_to_path (context_of t) (path_of_row t row) x.id && same_kind (kind_of (unit_of x).1) row.kind) true (and_from (leads_to_path (context_of t) (path_of_row t row) x.id) (same_kind (kind_of (unit_of x).1) row.kind) there kind) refl

module _ (p : ChainPart) (name : Location) (apart : (u v : AssetRow) → IsIn p.rows u → IsIn p.rows v → path_of_row (table_of p) u ≡ path_of_row (table_of p) v → u ≡ v) where
  -- a found row's account
  found_account : (x : Asset) (a : UniversalAsset) (o : Option ℕ) → position (is_row_of x) p.rows ≡ o → is_partner p.rows p.site x name ≡ true → is_unit_at (context_of (table_of p)) a every (unit_of x) ≡ true
      → option_and_then (λ (place : ℕ). option_and_then (λ (c : Option ℕ). c) (slice_get p.checking place)) o ≡ account_in (table_of p) a p.rows p.checking
  found_account x a None at trusted of =
      let none_found : None ≡ row_of p.rows x = sym (ap (option_and_then (slice_get p.rows)) at) ∙ row_at-position p.rows x in
      absurd (not_false false refl (ap (holds_of (is_partner_role p.site.chain name)) none_found ∙ trusted))
  found_account x a (Some place) at trusted of =
      let row = found_partner p.site.chain name x p.rows trusted in
      let first = position-Some (is_row_of x) p.rows place row.0 at in
      found_at (table_of p) name a x p.rows p.checking place row.0 apart trusted first.0 first.1 first.2 of

  checking_found : (x : Asset) (a : UniversalAsset) → is_partner p.rows p.site x name ≡ true → is_unit_at (context_of (table_of p)) a every (unit_of x) ≡ true → checking_of p x ≡ account_in (table_of p) a p.rows p.checking
  checking_found x a trusted of = found_account x a (position (is_row_of x) p.rows) refl trusted of

same_raise : (p q : ChainPart) → q.rows ≡ p.rows → q.checking ≡ p.checking → (x : Asset) → raise_fault q x ≡ raise_fault p x
same_raise p q rows_same checking_same x = λ i. unless
    (option_map_or (λ (n : ℕ). nat_le (n + amount_of x) (2 ^ 128 - 1)) (option_and_then (λ (place : ℕ). option_and_then (λ (c : Option ℕ). c) (slice_get (checking_same i) place)) (position (is_row_of x) (rows_same i))) true)
    error.NotDepositable None

has_room : (n : ℕ) (o : Option ℕ) → ((amount : ℕ) → o ≡ Some amount → amount + n < 2 ^ 128 - 1) → unless (option_map_or (λ (amount : ℕ). nat_le (amount + n) (2 ^ 128 - 1)) o true) error.NotDepositable None ≡ None
has_room n None room = refl
has_room n (Some amount) room =
    let le = room amount refl in
    let test : nat_le (amount + n) (2 ^ 128 - 1) ≡ true = grind (arith, nat_tests, le) in
    ap (λ (b : Bool). unless b error.NotDepositable None) test

holding_in_stock : (a : UniversalAsset) (m : Machine) → total (is_unit_at (context_of (table_of m.part)) a every) m.regs.holding ≤ stock a every (view m)
unfolding stock
holding_in_stock a m = omega arith

module _ (n : List Table) (agrees : Agrees n) (m : Machine) (there : IsIn n (table_of m.part)) (room : MayRise m) where
  one_rises : (name : Location) (x : Asset) → is_partner m.part.rows m.part.site x name ≡ true → amount_of x ≤ amount m.regs.holding (unit_of x) → raise_fault m.part x ≡ None
  one_rises name x trusted among =
      let row = found_partner m.part.site.chain name x m.part.rows trusted in
      let a = asset_of_row (table_of m.part) row.0 in
      let of = asset_of_its_row (table_of m.part) x row.0 row.2 in
      let account = checking_found m.part name (λ u v u_in v_in path. agrees.paths_apart (table_of m.part) u v there u_in v_in path) x a trusted of in
      has_room (amount_of x) (checking_of m.part x) (λ held is.
      let below = room a held (sym account ∙ is) in
      let some = amount_at_most unit_keys (is_unit_at (context_of (table_of m.part)) a every) m.regs.holding (unit_of x) of in
      let here = holding_in_stock a m in
      omega (arith, below, some, here, among))

  all_rise : (k : Machine) → IsBehindFee m k → (name : Location) (list : List Asset) → AllByRecursion (λ (x : Asset). IsTrue (is_partner m.part.rows m.part.site x name)) list → AreAmong m.regs.holding list → first_fault (raise_fault k.part) list ≡ None
  all_rise k same name [] partners among = refl
  all_rise k same name (x ∷ list) partners among =
      ap (λ (o : Option XcmError). or_else o (first_fault (raise_fault k.part) list)) (same_raise m.part k.part same.rows same.checking x ∙ one_rises name x partners.0 among.0)
      ∙ all_rise k same name list partners.1 among.1

  same_partners : (k : Machine) → IsBehindFee m k → (name : Location) (list : List Asset) → AllByRecursion (λ (x : Asset). IsTrue (is_partner k.part.rows k.part.site x name)) list → AllByRecursion (λ (x : Asset). IsTrue (is_partner m.part.rows m.part.site x name)) list
  same_partners k same name list partners =
      subst (λ (s : Site). AllByRecursion (λ (x : Asset). IsTrue (is_partner m.part.rows s x name)) list) same.site
      (subst (λ (r : List AssetRow). AllByRecursion (λ (x : Asset). IsTrue (is_partner r k.part.site x name)) list) same.rows partners)

  ship_other : (k : Machine) → IsBehindFee m k → (filter : Filter) (dest : Location) (xcm : List Instruction) → IsOther (ship_refusal k.part (taken_of k filter) Way.Teleport dest xcm)
  unfolding ship_refusal
  ship_other k same filter dest xcm =
      let goods = taken_of k filter in
      let list = held_assets goods in
      else_other (first_fault (trust_fault k.part dest true) list) _ (first_other (trust_fault k.part dest true) (λ a. unless_other _ error.UntrustedTeleportLocation None (λ e. absurd cc) none_other) list) (λ trusted.
      let partners = same_partners k same dest list (partners_hold n agrees k.part dest list trusted) in
      let among = more_among goods m.regs.holding (λ u. let some = Taken-within filter k.regs.holding u in let less = same.within u in omega (arith, some, less)) list (held_among goods) in
      else_other (first_fault (raise_fault k.part) list) _ (λ h. none_other (sym (all_rise k same dest list partners among) ∙ h)) (λ e. listed_other k.part dest _ (seen_from k.part dest list)))

  around_other : (o : Option Asset) (rule : Machine → Option XcmError) → ((k : Machine) → IsBehindFee m k → IsOther (rule k)) → IsOther (refused_around o m rule)
  around_other None rule other = other m (record { site = refl; rows = refl; checking = refl; within = λ u. omega arith })
  around_other (Some fee) rule other = else_other (fee_refusal m fee) (rule (after_fee m fee)) (fee_other m fee) (λ ok. other (after_fee m fee) (behind_fee m fee))

  pub teleport_rises : (filter : Filter) (dest : Location) (xcm : List Instruction) → refused (Instruction-F.InitiateTeleport filter dest xcm) m ≡ Some error.NotDepositable → ⊥
  teleport_rises filter dest xcm = around_other (fee_to m.part dest) _ (λ k same. ship_other k same filter dest xcm)
