-- What a call of an instruction does to accounts: none falls but the speaker's, and a pool's.
use Rattle.std.specs.Option.{option_map_or}
use Rattle.std.proofs.Common.{◌≡◌, ◌⊎◌, ℕ, List, [], ◌∷◌, Option, Some, None, Result, Ok, Err, ⊎_elim, refl, sym, ap, ◌∙◌, subst}
use Rattle.operands.specs.declared.error.XcmError.{XcmError}
use Rattle.locations.specs.declared.relative.Location.{Location}
use Rattle.operands.specs.declared.weight.Weight.{Weight}
use Rattle.asset_lists.specs.Listed.{listed_of}
use Rattle.asset_bundles.specs.Bundles.{Bundle}
use Rattle.asset_bundles.specs.Books.{burned_for, given_up}
use Rattle.asset_bundles.specs.declared.book.Cause.{Cause}
use Rattle.weight_trader.specs.Purchases.{Line, coin_of, paying, excess, Bought}
use Rattle.trust_tables.specs.Accounts.{account_of}
use Rattle.ledgers.specs.Ledgers.{Held}
use Rattle.xcm_program.specs.declared.instruction.Instruction.{Instruction, out-Instruction, roll-Instruction, out-roll-Instruction}
use Rattle.xcm_program.specs.declared.instruction.Instruction.TheOpen.{Instruction-F}
use Rattle.exec_base.specs.declared.settings.Settings.{Settings}
use Rattle.asset_pools.specs.Spending.{IsSpeaker}
use Rattle.exec_base.specs.Part.{ChainPart, book_of}
use Rattle.exec_base.specs.Sending.{sent}
use Rattle.exec_base.specs.Host.{above, booked, burned_lines, bundles_joined, burnt, bought, settled, settled_burns, withdrawn, deposited, transferred, transferred_out, deposited_out, fee_drawn}
use Rattle.exec_rules.specs.Machine.{Machine, Performed}
use Rattle.exec_rules.specs.Run.{Halted}
use Rattle.exec_rules.specs.Stopping.{PartwayOnOom, LeftOnOom, leaves_on_oom}
use Rattle.exec_rules.specs.Instructions.{done, xcm}
use Rattle.exec_rules.specs.HostCalls.{MachineWithGoods, MachineCall, after}
use Rattle.exec_rules.proofs.Lemmas.Footprints.{settings_after}
use Rattle.exec_rules.specs.Reasons.{IsFrom, IsFirstCall, SpeaksBy, Moment, HasReason}
use Rattle.exec_rules.proofs.Lemmas.ReasonLaws.{each_keeps}
use Rattle.exec_rules.proofs.Lemmas.KeptLaws.{halted_keeps}
use Rattle.law_authority.specs.Origins.{speaker_at, speaker_of, SpendsOnly, KeepsBurns}
use Rattle.law_authority.proofs.Lowering.{LowersOnly, same_lowers, given_lowers, got_lowers, moved_lowers, dispatched_lowers, settled_lowers}
use Rattle.law_authority.proofs.Lemmas.SpendingLaws.{same_burns, booked_burns, same_spends, then_spends}
use Rattle.law_authority.proofs.Spending.{spends_by, exchanged_spends}

-- the account that speaks is the origin's
spoken : (m : Machine) (t : MachineWithGoods) (who : Location) (new : Held) → m.regs.origin ≡ Some who → LowersOnly (account_of who t.part.site) t.part.held new → LowersOnly (speaker_at t.part.site m.regs.origin) t.part.held new
spoken m t who new is h = subst (λ (o : Option Location). LowersOnly (speaker_at t.part.site o) t.part.held new) (sym is) h

-- the account of the origin's location
by_account : (m : Machine) (t : MachineWithGoods) (account : List ℕ) (new : Held) → IsFirstCall m t → SpeaksBy m account → LowersOnly (Some account) t.part.held new → LowersOnly (speaker_at t.part.site m.regs.origin) t.part.held new
by_account m t account new first speaks h =
    let there : account_of speaks.0 t.part.site ≡ Some account = ap (λ (u : MachineWithGoods). account_of speaks.0 u.part.site) first ∙ speaks.2 in
    spoken m t speaks.0 new speaks.1 (subst (λ (o : Option (List ℕ)). LowersOnly o t.part.held new) (sym there) h)

-- what a purchase burns
bought_burns : (p : ChainPart) (w : Weight) (payment : Bundle) (o : Option Line) → KeepsBurns p.burns (option_map_or (λ (line : Line).
    let goods = above (listed_of (coin_of line.rate)) (excess w line) in
    booked (record p { lines = Bought w payment p.lines }) (burned_for Cause.Saturated goods) (burned_lines p (λ unit. Cause.Saturated) goods)) o p).burns
unfolding booked
bought_burns p w payment None = same_burns p.burns
bought_burns p w payment (Some line) = booked_burns (book_of p) (burned_for Cause.Saturated (above (listed_of (coin_of line.rate)) (excess w line)))

-- what was burned stays burned by any call
pub call_burns : (c : MachineCall) (t : MachineWithGoods) → KeepsBurns t.part.burns (after c t).part.burns
unfolding bundles_joined burnt bought settled booked
call_burns MachineCall.Join t = booked_burns (book_of t.part) (given_up t.regs.holding t.goods)
call_burns MachineCall.Burn t = booked_burns (book_of t.part) (burned_for Cause.BurnAsset t.goods)
call_burns (MachineCall.Buy w) t = bought_burns t.part w t.goods (paying w t.goods t.part.lines)
call_burns MachineCall.Settle t = booked_burns (book_of t.part) (settled_burns t.part)
call_burns c t = same_burns t.part.burns

pub call_spends : (moment : Moment) (l : Instruction-F Instruction) (m : Machine) (c : MachineCall) (t : MachineWithGoods) → HasReason moment l m t c → SpendsOnly (speaker_at t.part.site m.regs.origin) t.part (after c t).part
unfolding withdrawn deposited transferred transferred_out deposited_out fee_drawn sent
call_spends moment l m (MachineCall.Withdraw list who) t asks = spends_by _ t.part _ refl (spoken m t who _ asks.1 (given_lowers t.part list who)) (call_burns (MachineCall.Withdraw list who) t)
call_spends moment l m (MachineCall.Draw fee who) t asks = spends_by _ t.part _ refl (spoken m t who _ asks.1 (given_lowers t.part (fee ∷ []) who)) (call_burns (MachineCall.Draw fee who) t)
call_spends moment l m (MachineCall.Transfer list from to) t asks = spends_by _ t.part _ refl (spoken m t from _ asks.1 (moved_lowers t.part list from to)) (call_burns (MachineCall.Transfer list from to) t)
call_spends moment l m (MachineCall.TransferOut list from dest xcm) t asks = spends_by _ t.part _ refl (spoken m t from _ asks.1 (moved_lowers t.part list from dest)) (call_burns (MachineCall.TransferOut list from dest xcm) t)
call_spends moment l m (MachineCall.Dispatch account c) t asks = spends_by _ t.part _ refl (by_account m t account _ asks.0 asks.1 (dispatched_lowers t.part account c)) (call_burns (MachineCall.Dispatch account c) t)
call_spends moment l m (MachineCall.Exchange want maximal) t asks = exchanged_spends _ t.part t.goods want maximal
call_spends moment l m (MachineCall.Deposit who) t asks = spends_by _ t.part _ refl (got_lowers _ t.part t.goods who) (call_burns (MachineCall.Deposit who) t)
call_spends moment l m (MachineCall.DepositOut dest xcm) t asks = spends_by _ t.part _ refl (got_lowers _ t.part t.goods dest) (call_burns (MachineCall.DepositOut dest xcm) t)
call_spends moment l m MachineCall.Settle t asks = spends_by _ t.part _ refl (settled_lowers _ t.part) (call_burns MachineCall.Settle t)
call_spends moment l m c t asks = spends_by _ t.part (after c t).part (settings_after c t) (same_lowers _ t.part.held) (call_burns c t)

-- ---- an instruction, accepted or not, and where memory is refused in it
module _ (x : Instruction) (m : Machine) where
  abbrev Spoken : MachineWithGoods → Type 0
  Spoken t = SpendsOnly (speaker_of m) m.part t.part

  spoken_then : (c : MachineCall) (t : MachineWithGoods) → HasReason Moment.Inside (out-Instruction x) m t c → IsFrom m t → Spoken t → Spoken (after c t)
  spoken_then c t asks from h = then_spends (IsSpeaker (speaker_of m)) m.part t.part (after c t).part h
      (subst (λ (s : Settings). SpendsOnly (speaker_at s.site m.regs.origin) t.part (after c t).part) from.settings (call_spends Moment.Inside (out-Instruction x) m c t asks))

  pub done_spends : SpendsOnly (speaker_of m) m.part (xcm.done x m).part
  done_spends = each_keeps (out-Instruction x) m Spoken spoken_then (λ t from h. h) (same_spends (IsSpeaker (speaker_of m)) m.part)

  pub halted_spends : (now : Machine) → Halted xcm leaves_on_oom x m now → SpendsOnly (speaker_of m) m.part now.part
  halted_spends now h = halted_keeps x m Spoken (λ c t asks from ok k. spoken_then c t asks from k) (λ t from k. k) now h (same_spends (IsSpeaker (speaker_of m)) m.part)

-- ---- ClearOrigin lowers nothing
module _ (s : Option (List ℕ)) (a : ChainPart) (m : Machine) (h : SpendsOnly s a m.part) where
  as_was : (now k : Machine) → now ≡ k → SpendsOnly s a k.part → SpendsOnly s a now.part
  as_was now k e h = subst (λ (n : Machine). SpendsOnly s a n.part) (sym e) h

  clear_spilled : (now : Machine) (l : Instruction-F Instruction) → l ≡ Instruction-F.ClearOrigin → LeftOnOom l m now → SpendsOnly s a now.part
  clear_spilled now l is spilt = ⊎_elim (λ (e : now ≡ m). as_was now m e h) (λ (stops : PartwayOnOom l m now). absurd (subst (λ (k : Instruction-F Instruction). PartwayOnOom k m now) is stops)) spilt

  clear_performed : (now : Machine) (answer : Result (Unit {0}) XcmError) → Performed xcm (roll-Instruction Instruction-F.ClearOrigin) m answer now → SpendsOnly s a now.part
  clear_performed now (Ok tt') p =
      as_was now (xcm.done (roll-Instruction Instruction-F.ClearOrigin) m) p.1
      (subst (λ (l : Instruction-F Instruction). SpendsOnly s a (done l m).part) (sym (out-roll-Instruction Instruction-F.ClearOrigin)) h)
  clear_performed now (Err e) p = as_was now m p.1 h

  pub clear_halted : (now : Machine) → Halted xcm leaves_on_oom (roll-Instruction Instruction-F.ClearOrigin) m now → SpendsOnly s a now.part
  clear_halted now k =
      ⊎_elim (λ (spilt : leaves_on_oom (roll-Instruction Instruction-F.ClearOrigin) m now). clear_spilled now (out-Instruction (roll-Instruction Instruction-F.ClearOrigin)) (out-roll-Instruction Instruction-F.ClearOrigin) spilt)
      (λ (p : (answer : Result (Unit {0}) XcmError) × Performed xcm (roll-Instruction Instruction-F.ClearOrigin) m answer now). clear_performed now p.0 p.1) k
