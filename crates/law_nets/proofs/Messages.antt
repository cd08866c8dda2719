-- Lemmas: what a message that is admitted asks for first isn't refused. A reader may skip this file.
use Rattle.std.proofs.Common.{◌≡◌, ℕ, ◌≤◌, true, List, [], length, Option, Some, None, Ok, map, refl, ap, ◌∙◌, subst, arith}
use Rattle.std.specs.Prelude.{IsTrue, slice_get}
use Rattle.std.specs.List.{AllByRecursion}
use Rattle.amounts.specs.Amounts.{empty, rows, from_rows, plus_all}
use Rattle.amounts.proofs.Lemmas.{rows-from_rows}
use Rattle.locations.specs.declared.relative.Location.{Location}
use Rattle.operands.specs.declared.error.XcmError.{XcmError}
use Rattle.asset_lists.specs.declared.units.Asset.{Asset}
use Rattle.asset_lists.specs.Units.{Unit}
use Rattle.asset_bundles.specs.declared.shipment.Way.{Way}
use Rattle.asset_bundles.specs.declared.shipment.Shipment.{Shipment}
use Rattle.asset_bundles.specs.Bundles.{Bundle, held_assets, IsGoods}
use Rattle.asset_bundles.proofs.Lemmas.Bundles.{unit_keys}
use Rattle.trust_tables.specs.Chains.{location_of}
use Rattle.trust_tables.proofs.Lemmas.ChainLaws.{account_of-location_of}
use Rattle.trust_tables.specs.Accounts.{sovereign_account}
use Rattle.weight_trader.specs.Purchases.{no_weight}
use Rattle.xcm_program.specs.declared.instruction.Instruction.{Instruction, roll-Instruction, out-roll-Instruction}
use Rattle.xcm_program.specs.declared.instruction.Instruction.TheOpen.{Instruction-F}
use Rattle.xcm_program.proofs.Lemmas.{everywhere_open}
use Rattle.channel_parts.specs.declared.cargo.Cargo as carried
use Rattle.channel_parts.specs.declared.cargo.Cargo.TheVariants as cargos
use Rattle.exec_base.specs.declared.event.Event.{Event}
use Rattle.exec_base.specs.Part.{ChainPart}
use Rattle.exec_base.specs.Sending.{or_else, led_by, away_program}
use Rattle.exec_base.specs.Host.{ByWithdrawal, ByTeleport, fits_call, cargo_list, first_fault, floor_of, debit_fault, withdraw_refusal, trust_fault, lower_fault, receive_refusal, told}
use Rattle.exec_rules.specs.Machine.{Machine}
use Rattle.exec_rules.specs.Holdings.{has_room}
use Rattle.exec_rules.specs.declared.rules.ChainRules.{ChainRules}
use Rattle.exec_rules.specs.declared.admission.Admitted.{Admitted}
use Rattle.exec_rules.specs.Admission.{admitted}
use Rattle.exec_rules.specs.Execution.{first_machine}
use Rattle.network_steps.specs.Acting.{begun}
use Rattle.law_steps.specs.Shapes.{named_there, IsLedBy, IsShape}
use Rattle.law_coherence.specs.Networks.{IsIn, Agrees}
use Rattle.law_coherence.specs.Channels as queues
use Rattle.law_coherence.specs.Checking.{AllChecked}
use Rattle.law_coherence.specs.Parts.{Withdrawal, Teleport, WorldView, Backed}
use Rattle.law_coherence.specs.Steps.{tables_of}
use Rattle.law_coherence.proofs.Lemmas.Steps.{table_at}
use Rattle.law_runs.specs.Safety as runs
use Rattle.law_runs.specs.Safety.{AreLists, AreTrusted}
use Rattle.law_runs.proofs.Lemmas.Shipping.{HasList-IsOfLayer}
use Rattle.law_runs.specs.Sums.{none}
use Rattle.law_runs.specs.Views.{table_of, cargo_of, channel_of, seen}
use Rattle.law_steps.proofs.Lemmas.Admitting.{admitted_lists}
use Rattle.law_steps.proofs.Lemmas.Landing.{names}
use Rattle.law_steps.specs.Rooms.{AllListed}
use Rattle.law_nets.specs.Paid.{IsLedByAccepted}
use Rattle.law_nets.proofs.Payments.{passes, all_paid}
use Rattle.law_nets.proofs.Receipts.{all_taken}
use Rattle.plain_lists.proofs.Lemmas.Facts.{at_most_told as within}

-- ---- nothing is held yet
none_held : length (rows (empty {R = Rattle.asset_lists.specs.Units.unit_cmp})) ≡ 0
unfolding from_rows plus_all
none_held = ap length (rows-from_rows unit_keys [] tt tt)

room_first : (rules : ChainRules) (origin : Location) (p : ChainPart) (n : ℕ) → 20 ≤ rules.max_holding → n ≤ 20 → has_room (first_machine rules origin p) n ≡ true
room_first rules origin p n much few = let z = none_held in within _ _ (omega (arith, z, much, few))

-- what is admitted begins with a teleport with this list, and ClearOrigin, and the chain's part takes the list from the origin
pub record IsTakenIn (named : Option (List Asset)) (a : Admitted) (p : ChainPart) (origin : Location) : Type 0 where
  pub list : List Asset
  pub behind : List Instruction
  pub carried : named ≡ Some list
  pub leads : a.program ≡ led_by (Instruction-F.ReceiveTeleportedAsset list) behind
  pub taken : receive_refusal p list origin true ≡ None

-- what a delivered message begins with
abbrev begins : carried.Cargo → Event → ChainPart → ChainPart → ChainPart
begins cargo e ps pr = told (begun ps.site.chain cargo pr) e

module _ (v : WorldView) (agrees : Agrees (tables_of v)) (backed : Backed v) (checked : AllChecked v) (i j : ℕ) (ps pr : ChainPart) (at_i : slice_get v i ≡ Some (seen empty ps)) (at_j : slice_get v j ≡ Some (seen empty pr)) (apart : i ≡ j → ⊥) (listed : AllListed none pr)
    (rules : ChainRules) (cargo : carried.Cargo) (program : List Instruction) (e : Event)
    (front : queues.front pr.site.chain (map channel_of ps.channels) ≡ Some (cargo_of cargo)) (name origin : Location) (leads : location_of ps.site.chain pr.site.chain ≡ Some name) (back : location_of pr.site.chain ps.site.chain ≡ Some origin)
    (runnable : runs.IsRunnable program) (trusts : runs.IsTrustedCargo ps.site ps.rows name cargo) where
  s_in : IsIn (tables_of v) (table_of ps)
  s_in = (i, table_at v i (seen empty ps) at_i)

  t_in : IsIn (tables_of v) (table_of pr)
  t_in = (j, table_at v j (seen empty pr) at_j)

  abbrev m0 : Machine
  m0 = first_machine rules origin (begins cargo e ps pr)

  abbrev Admits : Admitted → Type 0
  Admits a = admitted rules origin no_weight (begins cargo e ps pr).queries program ≡ Ok a

  -- the list of what it begins with
  list_fits : (a : Admitted) → Admits a → (l : Instruction-F Instruction) (behind : List Instruction) → a.program ≡ led_by l behind → runs.HasList Instruction l
  list_fits a ok l behind is =
      let all = subst (AllByRecursion AreLists) is (admitted_lists rules origin no_weight (begins cargo e ps pr).queries program runnable.lists a ok) in
      subst (runs.HasList Instruction) (out-roll-Instruction l) (everywhere_open runs.HasList HasList-IsOfLayer (roll-Instruction l) all.0).0

  -- ---- a teleport
  or_none : (a b : Option XcmError) → a ≡ None → b ≡ None → or_else a b ≡ None
  or_none None b h k = k
  or_none (Some x) b h k = absurd cc

  taken_there : (new : List Asset) → first_fault (trust_fault pr origin true) new ≡ None → first_fault (lower_fault pr) new ≡ None → receive_refusal (begins cargo e ps pr) new origin true ≡ None
  unfolding receive_refusal told
  taken_there new trust lower = or_none (first_fault (trust_fault pr origin true) new) (first_fault (lower_fault pr) new) trust lower

  teleport_done : (a : Admitted) → Admits a → (units : Bundle) → cargo_of cargo ≡ Teleport units → cargo_list cargo ≡ held_assets units → IsGoods units → AreTrusted ps.site ps.rows name Way.Teleport (held_assets units)
      → IsLedBy ps.site pr.site.chain (held_assets units) (away_program Way.Teleport) a.program → IsTakenIn (named_there ps.site pr.site.chain (cargo_list cargo)) a (begins cargo e ps pr) origin
  teleport_done a ok units carries same whole partners s =
      let named = names (tables_of v) agrees (table_of ps) (table_of pr) s_in t_in name origin leads back (held_assets units) s.list s.named in
      let taken = all_taken v agrees checked i j ps pr at_i at_j apart name origin leads back units (front ∙ ap Some carries) s.list named whole partners in
      record {
        list = s.list;
        behind = s.behind;
        carried = ap (named_there ps.site pr.site.chain) same ∙ s.named;
        leads = s.is;
        taken = taken_there s.list taken.0 taken.1;
      }

  teleport_by_way : (a : Admitted) → Admits a → (shipment : Shipment) (way : Way) → shipment.way ≡ way → cargo ≡ cargos.Away shipment → IsTrue (fits_call ByTeleport (cargos.Away (record { way = way; units = shipment.units })))
      → IsGoods shipment.units → AreTrusted ps.site ps.rows name way (held_assets shipment.units) → IsLedBy ps.site pr.site.chain (held_assets shipment.units) (away_program way) a.program
      → IsTakenIn (named_there ps.site pr.site.chain (cargo_list cargo)) a (begins cargo e ps pr) origin
  teleport_by_way a ok shipment Way.Withdrawal by carries kind whole reserves s = absurd cc
  teleport_by_way a ok shipment Way.Teleport by carries kind whole partners s =
      teleport_done a ok shipment.units (ap cargo_of carries ∙ ap (λ (w : Way). cargo_of (cargos.Away (record { way = w; units = shipment.units }))) by) (ap cargo_list carries) whole partners s

  teleport_by_cargo : (a : Admitted) → Admits a → (c : carried.Cargo) → cargo ≡ c → IsTrue (fits_call ByTeleport c) → runs.IsTrustedCargo ps.site ps.rows name c → IsShape ps.site pr.site.chain a.program c
      → IsTakenIn (named_there ps.site pr.site.chain (cargo_list cargo)) a (begins cargo e ps pr) origin
  teleport_by_cargo a ok cargos.Nothing carries kind trusted s = absurd cc
  teleport_by_cargo a ok (cargos.Deposit list) carries kind trusted s = absurd cc
  teleport_by_cargo a ok (cargos.Away shipment) carries kind trusted s = teleport_by_way a ok shipment shipment.way refl carries kind trusted.0 trusted.1 s

  pub teleport_taken : (a : Admitted) → admitted rules origin no_weight (told (begun ps.site.chain cargo pr) e).queries program ≡ Ok a → IsTrue (fits_call ByTeleport cargo) → IsShape ps.site pr.site.chain a.program cargo
      → IsTakenIn (named_there ps.site pr.site.chain (cargo_list cargo)) a (told (begun ps.site.chain cargo pr) e) origin
  teleport_taken a ok kind shape = teleport_by_cargo a ok cargo refl kind trusts shape

  -- ---- with room
  module _ (much : 20 ≤ rules.max_holding) (free : (unit : Unit) → floor_of pr (sovereign_account pr.site.chain ps.site.chain) unit ≡ 0) where
    -- ---- a withdrawal
    paid_there : (new : List Asset) → first_fault (debit_fault pr (Some (sovereign_account pr.site.chain ps.site.chain))) new ≡ None → withdraw_refusal (begins cargo e ps pr) new origin ≡ None
    unfolding withdraw_refusal told
    paid_there new h = ap (λ (o : Option (List ℕ)). first_fault (debit_fault pr o) new) (account_of-location_of pr.site ps.site.chain origin back) ∙ h

    withdrawal_done : (a : Admitted) → Admits a → (units : Bundle) → cargo_of cargo ≡ Withdrawal units → cargo_list cargo ≡ held_assets units → IsGoods units → AreTrusted ps.site ps.rows name Way.Withdrawal (held_assets units)
        → IsLedBy ps.site pr.site.chain (held_assets units) (away_program Way.Withdrawal) a.program → IsLedByAccepted Instruction-F.WithdrawAsset (named_there ps.site pr.site.chain (cargo_list cargo)) a m0
    withdrawal_done a ok units carries same whole reserves s =
        let fits = list_fits a ok (Instruction-F.WithdrawAsset s.list) s.behind s.is in
        let named = names (tables_of v) agrees (table_of ps) (table_of pr) s_in t_in name origin leads back (held_assets units) s.list s.named in
        let paid = all_paid v agrees backed i j ps pr at_i at_j listed name origin leads back units (front ∙ ap Some carries) free s.list named whole reserves in
        record {
          list = s.list;
          behind = s.behind;
          carried = ap (named_there ps.site pr.site.chain) same ∙ s.named;
          leads = s.is;
          accepted = passes (has_room m0 (length s.list)) _ _ (room_first rules origin (begins cargo e ps pr) (length s.list) much fits.few) (paid_there s.list paid);
        }

    by_way : (a : Admitted) → Admits a → (shipment : Shipment) (way : Way) → shipment.way ≡ way → cargo ≡ cargos.Away shipment → IsTrue (fits_call ByWithdrawal (cargos.Away (record { way = way; units = shipment.units })))
        → IsGoods shipment.units → AreTrusted ps.site ps.rows name way (held_assets shipment.units) → IsLedBy ps.site pr.site.chain (held_assets shipment.units) (away_program way) a.program
        → IsLedByAccepted Instruction-F.WithdrawAsset (named_there ps.site pr.site.chain (cargo_list cargo)) a m0
    by_way a ok shipment Way.Withdrawal by carries kind whole reserves s =
        withdrawal_done a ok shipment.units (ap cargo_of carries ∙ ap (λ (w : Way). cargo_of (cargos.Away (record { way = w; units = shipment.units }))) by) (ap cargo_list carries) whole reserves s
    by_way a ok shipment Way.Teleport by carries kind whole partners s = absurd cc

    by_cargo : (a : Admitted) → Admits a → (c : carried.Cargo) → cargo ≡ c → IsTrue (fits_call ByWithdrawal c) → runs.IsTrustedCargo ps.site ps.rows name c → IsShape ps.site pr.site.chain a.program c
        → IsLedByAccepted Instruction-F.WithdrawAsset (named_there ps.site pr.site.chain (cargo_list cargo)) a m0
    by_cargo a ok cargos.Nothing carries kind trusted s = absurd cc
    by_cargo a ok (cargos.Deposit list) carries kind trusted s = absurd cc
    by_cargo a ok (cargos.Away shipment) carries kind trusted s = by_way a ok shipment shipment.way refl carries kind trusted.0 trusted.1 s

    pub withdrawal_accepted : (a : Admitted) → admitted rules origin no_weight (told (begun ps.site.chain cargo pr) e).queries program ≡ Ok a → IsTrue (fits_call ByWithdrawal cargo) → IsShape ps.site pr.site.chain a.program cargo
        → IsLedByAccepted Instruction-F.WithdrawAsset (named_there ps.site pr.site.chain (cargo_list cargo)) a (first_machine rules origin (told (begun ps.site.chain cargo pr) e))
    withdrawal_accepted a ok kind shape = by_cargo a ok cargo refl kind trusts shape

  module _ (much : 20 ≤ rules.max_holding) where
    -- ---- a teleport that is taken in
    pub teleport_accepted : (a : Admitted) → admitted rules origin no_weight (told (begun ps.site.chain cargo pr) e).queries program ≡ Ok a → IsTrue (fits_call ByTeleport cargo) → IsShape ps.site pr.site.chain a.program cargo
        → IsLedByAccepted Instruction-F.ReceiveTeleportedAsset (named_there ps.site pr.site.chain (cargo_list cargo)) a (first_machine rules origin (told (begun ps.site.chain cargo pr) e))
    teleport_accepted a ok kind shape =
        let s = teleport_taken a ok kind shape in
        let fits = list_fits a ok (Instruction-F.ReceiveTeleportedAsset s.list) s.behind s.leads in
        record {
          list = s.list;
          behind = s.behind;
          carried = s.carried;
          leads = s.leads;
          accepted = passes (has_room m0 (length s.list)) _ _ (room_first rules origin (begins cargo e ps pr) (length s.list) much fits.few) s.taken;
        }
