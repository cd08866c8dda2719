-- What a call of a chain's host refuses doesn't depend on a frame, where no send on the frame's channel answers Transport.
use Rattle.std.proofs.Common.{◌≡◌, Bool, true, false, List, length, Option, Some, None, refl, sym, ap, ◌∙◌}
use Rattle.std.specs.Prelude.{if◌then◌else◌, nat_le}
use Rattle.std.specs.Option.{option_map_or}
use Rattle.chain_ids.specs.declared.chain.ChainId.{ChainId}
use Rattle.chain_ids.proofs.Lemmas.{same_chain_told}
use Rattle.locations.specs.declared.relative.Location.{Location}
use Rattle.operands.specs.declared.error.XcmError.{XcmError}
use Rattle.operands.specs.declared.error.XcmError.TheVariants as error
use Rattle.operands.specs.declared.query.QueryInfo.{QueryInfo}
use Rattle.operands.specs.declared.query.Response.{Response}
use Rattle.asset_lists.specs.declared.units.Asset.{Asset}
use Rattle.asset_lists.specs.Units.{amount_of}
use Rattle.asset_bundles.specs.Bundles.{Bundle, held_assets}
use Rattle.asset_bundles.specs.declared.shipment.Way.{Way}
use Rattle.trust_tables.specs.Trust.{is_location_of}
use Rattle.xcm_program.specs.declared.instruction.Instruction.{Instruction}
use Rattle.channel_parts.specs.declared.channel.Channel.{Channel}
use Rattle.asset_locks.specs.LockMaps.{NoteKey, noted}
use Rattle.exec_base.specs.Part.{ChainPart}
use Rattle.exec_base.specs.Sending.{unless, or_else, send_refusal, listed_refusal, deposit_program, away_program, named_refusal}
use Rattle.exec_base.specs.Host.{is_lockable, lock_key, note_program, lock_refusal, request_key, unlock_program, request_refusal, first_fault, trust_fault, raise_fault, is_teleport, deposit_refusal, transfer_refusal, seen_from, transfer_out_refusal, deposit_out_refusal, ship_refusal, report_program, report_refusal, querier_seen, respond_refusal, fee_held, fee_drawn}
use Rattle.exec_rules.specs.Machine.{Machine, machine}
use Rattle.exec_rules.specs.Holdings.{at_origin}
use Rattle.exec_rules.specs.Fees.{after_fee}
use Rattle.law_independence.proofs.Channels.{IsNoTransport, refused_popped}
use Rattle.law_independence.proofs.Calls.{framed, querier_framed}

-- ---- refusals that come one after the other
pub or_else_same : (on : Bool) (a b c : Option XcmError) → (IsNoTransport on b → c ≡ b) → IsNoTransport on (or_else a b) → or_else a c ≡ or_else a b
or_else_same on None b c h no_transport = h no_transport
or_else_same on (Some e) b c h no_transport = refl

module _ (to : ChainId) (lost : Bundle) where
  abbrev pub framed_machine : Machine → Machine
  framed_machine m = machine m.regs (framed to lost m.part)

  -- ---- the fee of sending
  if_framed : (b : Bool) (x y u v : Machine) → x ≡ framed_machine u → y ≡ framed_machine v → (if b then x else y) ≡ framed_machine (if b then u else v)
  if_framed true x y u v h k = h
  if_framed false x y u v h k = k

  origin_framed : (o : Option Location) (f g : Location → Machine) (m : Machine) → ((who : Location) → g who ≡ framed_machine (f who)) → at_origin o g (framed_machine m) ≡ framed_machine (at_origin o f m)
  origin_framed None f g m h = refl
  origin_framed (Some who) f g m h = h who

  pub fee_framed : (m : Machine) (fee : Asset) → after_fee (framed_machine m) fee ≡ framed_machine (after_fee m fee)
  unfolding fee_held fee_drawn
  fee_framed m fee = if_framed m.regs.fees_mode _ _ _ _ (origin_framed m.regs.origin _ _ m (λ who. refl)) refl

  -- ---- sends
  abbrev pub here_to : ChainPart → Location → Bool
  here_to p dest = is_location_of p.site.chain to dest

  send_refused : (p : ChainPart) (dest : Location) (few : Bool) (program : List Instruction) → IsNoTransport (here_to p dest) (send_refusal p dest few program) → send_refusal (framed to lost p) dest few program ≡ send_refusal p dest few program
  unfolding send_refusal
  send_refused p dest few program no_transport =
      refused_popped (λ (c : Channel). is_location_of p.site.chain c.to dest) to (here_to p dest) (λ c same on. sym (ap (λ (d : ChainId). is_location_of p.site.chain d dest) (same_chain_told c.to to same)) ∙ on) few program p.channels no_transport

  listed_refused : (p : ChainPart) (dest : Location) (program : List Asset → List Instruction) (o : Option (List Asset)) → IsNoTransport (here_to p dest) (listed_refusal p dest program o)
      → listed_refusal (framed to lost p) dest program o ≡ listed_refusal p dest program o
  listed_refused p dest program None no_transport = refl
  listed_refused p dest program (Some list) no_transport = send_refused p dest (nat_le (length list) 20) (program list) no_transport

  transfer_refused : (p : ChainPart) (list : List Asset) (from who : Location) → transfer_refusal (framed to lost p) list from who ≡ transfer_refusal p list from who
  unfolding transfer_refusal
  transfer_refused p list from who = refl

  pub transfer_out_refused : (p : ChainPart) (list : List Asset) (from dest : Location) (program : List Instruction) → IsNoTransport (here_to p dest) (transfer_out_refusal p list from dest program)
      → transfer_out_refusal (framed to lost p) list from dest program ≡ transfer_out_refusal p list from dest program
  unfolding transfer_out_refusal
  transfer_out_refused p list from dest program no_transport =
      ap (λ a. or_else a (listed_refusal (framed to lost p) dest (λ l. deposit_program l program) (seen_from p dest list))) (transfer_refused p list from dest)
      ∙ or_else_same (here_to p dest) (transfer_refusal p list from dest) _ _ (listed_refused p dest (λ l. deposit_program l program) (seen_from p dest list)) no_transport

  deposit_refused : (p : ChainPart) (goods : Bundle) (who : Location) → deposit_refusal (framed to lost p) goods who ≡ deposit_refusal p goods who
  unfolding deposit_refusal
  deposit_refused p goods who = refl

  pub deposit_out_refused : (p : ChainPart) (goods : Bundle) (dest : Location) (program : List Instruction) → IsNoTransport (here_to p dest) (deposit_out_refusal p goods dest program)
      → deposit_out_refusal (framed to lost p) goods dest program ≡ deposit_out_refusal p goods dest program
  unfolding deposit_out_refusal
  deposit_out_refused p goods dest program no_transport =
      ap (λ a. or_else a (listed_refusal (framed to lost p) dest (λ l. deposit_program l program) (seen_from p dest (held_assets goods)))) (deposit_refused p goods dest)
      ∙ or_else_same (here_to p dest) (deposit_refusal p goods dest) _ _ (listed_refused p dest (λ l. deposit_program l program) (seen_from p dest (held_assets goods))) no_transport

  pub ship_refused : (p : ChainPart) (goods : Bundle) (way : Way) (dest : Location) (program : List Instruction) → IsNoTransport (here_to p dest) (ship_refusal p goods way dest program)
      → ship_refusal (framed to lost p) goods way dest program ≡ ship_refusal p goods way dest program
  unfolding ship_refusal
  ship_refused p goods way dest program no_transport =
      let trusted = first_fault (trust_fault p dest (is_teleport way)) (held_assets goods) in
      let raised = if is_teleport way then first_fault (raise_fault p) (held_assets goods) else None in
      or_else_same (here_to p dest) trusted _ _
      (λ q. or_else_same (here_to p dest) raised _ _ (listed_refused p dest (λ l. away_program way l program) (seen_from p dest (held_assets goods))) q) no_transport

  -- ---- locks
  unless_refused : (b : Bool) (e : XcmError) (on : Bool) (x y : Option XcmError) → (IsNoTransport on x → y ≡ x) → IsNoTransport on (unless b e x) → unless b e y ≡ unless b e x
  unless_refused true e on x y same quiet = same quiet
  unless_refused false e on x y same quiet = refl

  named_refused : (p : ChainPart) (dest : Location) (o : Option (List Instruction)) → IsNoTransport (here_to p dest) (named_refusal p dest o) → named_refusal (framed to lost p) dest o ≡ named_refusal p dest o
  named_refused p dest None quiet = refl
  named_refused p dest (Some program) quiet = send_refused p dest true program quiet

  pub lock_refused : (p : ChainPart) (a : Asset) (owner unlocker : Location) → IsNoTransport (here_to p unlocker) (lock_refusal p a owner unlocker) → lock_refusal (framed to lost p) a owner unlocker ≡ lock_refusal p a owner unlocker
  unfolding lock_refusal
  lock_refused p a owner unlocker quiet =
      unless_refused p.locks error.LockError (here_to p unlocker) _ _
      (λ q. unless_refused (option_map_or (is_lockable p a) (lock_key p a owner unlocker) false) error.LockError (here_to p unlocker) _ _ (named_refused p unlocker (note_program p a owner unlocker)) q) quiet

  pub request_refused : (p : ChainPart) (a : Asset) (owner locker : Location) → IsNoTransport (here_to p locker) (request_refusal p a owner locker) → request_refusal (framed to lost p) a owner locker ≡ request_refusal p a owner locker
  unfolding request_refusal
  request_refused p a owner locker quiet =
      unless_refused p.locks error.LockError (here_to p locker) _ _
      (λ q. unless_refused (option_map_or (λ (k : NoteKey). nat_le (amount_of a) (noted k p.locked)) (request_key a owner locker) false) error.LockError (here_to p locker) _ _
      (named_refused p locker (unlock_program p a (request_key a owner locker) locker)) q) quiet

  -- ---- reports
  report_by : (p : ChainPart) (info : QueryInfo) (response : Response) (o : Option (Option Location)) → IsNoTransport (here_to p info.destination) (report_refusal p info response o)
      → report_refusal (framed to lost p) info response o ≡ report_refusal p info response o
  report_by p info response None no_transport = refl
  report_by p info response (Some querier) no_transport = send_refused p info.destination true (report_program info response querier) no_transport

  pub respond_refused : (p : ChainPart) (info : QueryInfo) (response : Response) (querier : Option Location) → IsNoTransport (here_to p info.destination) (respond_refusal p info response querier)
      → respond_refusal (framed to lost p) info response querier ≡ respond_refusal p info response querier
  unfolding respond_refusal
  respond_refused p info response querier no_transport =
      ap (report_refusal (framed to lost p) info response) (querier_framed to lost p info.destination querier) ∙ report_by p info response (querier_seen p info.destination querier) no_transport
