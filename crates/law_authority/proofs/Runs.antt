-- What each call keeps of accounts and of the origin register, the run keeps, and its end, also where memory is refused.
use Rattle.std.proofs.Common.{◌≡◌, ◌⊎◌, ℕ, List, [], ◌∷◌, ◌++◌, Option, Some, None, ⊎_elim, inl, inr, refl, sym, ap, ◌∙◌, subst, append_assoc}
use Rattle.std.proofs.lemmas.List.{append-nil}
use Rattle.amounts.specs.Amounts.{empty}
use Rattle.locations.specs.declared.grammar.Junction.{Junction}
use Rattle.locations.specs.declared.relative.Location.{Location}
use Rattle.operands.specs.declared.weight.Weight.{Weight}
use Rattle.trust_tables.specs.declared.chains.Site.{Site}
use Rattle.asset_pools.specs.Spending.{IsSpeaker}
use Rattle.xcm_program.specs.declared.instruction.Instruction.{Instruction}
use Rattle.xcm_program.specs.declared.instruction.Instruction.TheOpen.{Instruction-F}
use Rattle.exec_base.specs.declared.registers.Registers.{Registers}
use Rattle.exec_base.specs.Part.{ChainPart}
use Rattle.exec_rules.specs.Machine.{Machine}
use Rattle.exec_rules.specs.Run.{Stage, machine_of, Reaches}
use Rattle.exec_rules.specs.Outcome.{abandoned, finished, HaltedAtEnd}
use Rattle.exec_rules.specs.Origins.{descended}
use Rattle.exec_rules.specs.Instructions.{xcm}
use Rattle.exec_rules.specs.Stopping.{leaves_on_oom}
use Rattle.exec_rules.specs.declared.rules.ChainRules.{ChainRules}
use Rattle.exec_rules.specs.declared.admission.Admitted.{Admitted}
use Rattle.exec_rules.specs.Execution.{started, first_stage, executed, IsAbandoned}
use Rattle.exec_rules.specs.HostCalls.{MachineWithGoods, MachineCall, after}
use Rattle.exec_rules.specs.Reasons.{IsFrom, Moment, HasReason, TurnsOrigin}
use Rattle.exec_rules.proofs.Lemmas.Reasons.{ComesAtEnd}
use Rattle.exec_rules.specs.Kept.{IsKeptByCalls}
use Rattle.exec_rules.proofs.Lemmas.Kept.{IsKeptAtEnd}
use Rattle.exec_rules.proofs.Lemmas.KeptLaws.{any_kind, abandoned_kept, finished_kept, at_end_kept, keeps_run, keeps_executed, keeps_abandoned}
use Rattle.network_steps.specs.Acting.{caller}
use Rattle.law_authority.specs.Origins.{speaker_at, SpendsOnly, IsAtOrBelow}
use Rattle.law_authority.proofs.Lowering.{settled_lowers}
use Rattle.law_authority.proofs.Lemmas.SpendingLaws.{then_burns, same_spends, then_spends, none_spends}
use Rattle.law_authority.proofs.Spending.{spends_by}
use Rattle.law_authority.proofs.Acts.{call_burns, call_spends}

-- ---- the origin register of a run
longer : (first who : Location) (path : List Junction) → IsAtOrBelow first (Some who) → IsAtOrBelow first (Some (descended who path))
longer first who path h = (h.0 ++ path, ap (λ (l : Location). descended l path) h.1 ∙ ap (λ (js : List Junction). let l : Location = record first { interior = js } in l) (append_assoc first.interior h.0 path))

below_turned : (first : Location) (old new : Option Location) → TurnsOrigin old new → IsAtOrBelow first old → IsAtOrBelow first new
below_turned first old new turns h =
    ⊎_elim (λ (e : new ≡ old). subst (IsAtOrBelow first) (sym e) h)
    (λ (rest : (new ≡ None) ⊎ ((who : Location) × (path : List Junction) × (old ≡ Some who) × (new ≡ Some (descended who path)))).
    ⊎_elim (λ (e : new ≡ None). subst (IsAtOrBelow first) (sym e) tt)
    (λ (d : (who : Location) × (path : List Junction) × (old ≡ Some who) × (new ≡ Some (descended who path))). subst (IsAtOrBelow first) (sym d.3) (longer first d.0 d.1 (subst (IsAtOrBelow first) d.2 h))) rest) turns

starts_at : (origin : Location) → IsAtOrBelow origin (Some origin)
starts_at origin = ([], ap (λ (js : List Junction). let l : Location = record origin { interior = js } in l) (sym (append-nil origin.interior)))

origin_after : (c : MachineCall) (t : MachineWithGoods) → (after c t).regs.origin ≡ t.regs.origin
origin_after (MachineCall.Take filter) t = refl
origin_after _ t = refl

below_is_kept : (first : Location) → IsKeptByCalls any_kind (λ (t : MachineWithGoods). IsAtOrBelow first t.regs.origin)
below_is_kept first = record {
  refunds = tt;
  called = λ x l is q moment m t c k asks from ok h. subst (IsAtOrBelow first) (sym (origin_after c t)) h;
  turned = λ t r turns h. below_turned first t.regs.origin r.origin turns.origin h;
}

pub reached_below : (rules : ChainRules) (origin : Location) (a : Admitted) (p : ChainPart) (g : Stage) → Reaches xcm (first_stage rules origin a p) g → IsAtOrBelow origin (machine_of g).regs.origin
reached_below rules origin a p g r = keeps_run (λ (t : MachineWithGoods). IsAtOrBelow origin t.regs.origin) (below_is_kept origin) rules origin a p g r (starts_at origin)

-- ---- the end of a run lowers nothing
module _ (s : Option (List ℕ)) (start : ChainPart) where
  abbrev pub Lowered : MachineWithGoods → Type 0
  Lowered t = SpendsOnly s start t.part

  end_lowers : (c : MachineCall) (t : MachineWithGoods) → ComesAtEnd c → Lowered t → Lowered (after c t)
  end_lowers (MachineCall.Withdraw list who) t comes h = absurd comes
  end_lowers (MachineCall.Draw fee who) t comes h = absurd comes
  end_lowers (MachineCall.Transfer list from to) t comes h = absurd comes
  end_lowers (MachineCall.TransferOut list from dest xcm) t comes h = absurd comes
  end_lowers (MachineCall.Dispatch account c) t comes h = absurd comes
  end_lowers (MachineCall.Exchange want maximal) t comes h = absurd comes
  end_lowers (MachineCall.Deposit who) t comes h = absurd comes
  end_lowers (MachineCall.DepositOut dest xcm) t comes h = absurd comes
  end_lowers MachineCall.Settle t comes h = then_spends (IsSpeaker s) start t.part (after MachineCall.Settle t).part h (spends_by s t.part (after MachineCall.Settle t).part refl (settled_lowers s t.part) (call_burns MachineCall.Settle t))
  end_lowers c t comes h = record { settings = h.settings; spends = h.spends; burns = then_burns start.burns t.part.burns (after c t).part.burns h.burns (call_burns c t) }

  pub lowered_at_end : IsKeptAtEnd Lowered
  lowered_at_end = record { closing = λ m t c k asks comes from ok h. end_lowers c t comes h; closed = λ t r holding origin h. h }

pub finished_lowers : (s : Option (List ℕ)) (m : Machine) → SpendsOnly s m.part (finished xcm m)
finished_lowers s m = (finished_kept (Lowered s m.part) (lowered_at_end s m.part) m (same_spends (IsSpeaker s) m.part)).kept

pub at_end_lowers : (s : Option (List ℕ)) (m : Machine) (now : ChainPart) → HaltedAtEnd xcm leaves_on_oom m now → SpendsOnly s m.part now
at_end_lowers s m now h = (at_end_kept (Lowered s m.part) (lowered_at_end s m.part) m now h (same_spends (IsSpeaker s) m.part)).kept

pub abandoned_lowers : (s : Option (List ℕ)) (start : ChainPart) (m : Machine) (now : ChainPart) → now ≡ abandoned m.regs m.part → SpendsOnly s start m.part → SpendsOnly s start now
abandoned_lowers s start m now is h = (abandoned_kept (Lowered s start) (lowered_at_end s start) m now is h).kept

-- ---- without an origin
pub record HasNoSpeaker (may : Option (List ℕ)) (start : ChainPart) (t : MachineWithGoods) : Type 0 where
  pub silent : t.regs.origin ≡ None
  pub lowers : SpendsOnly may start t.part

no_speaker_turned : (old new : Option Location) → TurnsOrigin old new → old ≡ None → new ≡ None
no_speaker_turned old new turns h =
    ⊎_elim (λ (e : new ≡ old). e ∙ h)
    (λ (rest : (new ≡ None) ⊎ ((who : Location) × (path : List Junction) × (old ≡ Some who) × (new ≡ Some (descended who path)))).
    ⊎_elim (λ (e : new ≡ None). e)
    (λ (d : (who : Location) × (path : List Junction) × (old ≡ Some who) × (new ≡ Some (descended who path))). absurd (let no_way : None ≡ Some d.0 = sym h ∙ d.2 in cc)) rest) turns

-- what a call lowers where nobody speaks
no_speaker_called : (may : Option (List ℕ)) (start : ChainPart) (l : Instruction-F Instruction) (m : Machine) (t : MachineWithGoods) (c : MachineCall) (moment : Moment) → HasReason moment l m t c → IsFrom m t → HasNoSpeaker may start t → HasNoSpeaker may start (after c t)
no_speaker_called may start l m t c moment asks from q =
    let silent : m.regs.origin ≡ None = sym (ap (λ (r : Registers). r.origin) from.regs) ∙ q.silent in
    record {
      silent = origin_after c t ∙ q.silent;
      lowers = then_spends (IsSpeaker may) start t.part (after c t).part q.lowers (none_spends may t.part (after c t).part
          (subst (λ (o : Option Location). SpendsOnly (speaker_at t.part.site o) t.part (after c t).part) silent (call_spends moment l m c t asks)));
    }

pub no_speaker_is_kept : (may : Option (List ℕ)) (start : ChainPart) → IsKeptByCalls any_kind (HasNoSpeaker may start)
no_speaker_is_kept may start = record {
  refunds = tt;
  called = λ x l is q moment m t c k asks from ok h. no_speaker_called may start l m t c moment asks from h;
  turned = λ t r turns h. record { silent = no_speaker_turned t.regs.origin r.origin turns.origin h.silent; lowers = h.lowers };
}

-- ---- a local caller
pub record SpeaksForCaller (account : List ℕ) (site : Site) (start : ChainPart) (t : MachineWithGoods) : Type 0 where
  pub there : t.part.site ≡ site
  pub below : IsAtOrBelow (caller account) t.regs.origin
  pub lowers : SpendsOnly (Some account) start t.part

either_spends : (s t : Option (List ℕ)) (a b : ChainPart) → (s ≡ None) ⊎ (s ≡ t) → SpendsOnly s a b → SpendsOnly t a b
either_spends s t a b which h =
    ⊎_elim (λ (e : s ≡ None). none_spends t a b (subst (λ (o : Option (List ℕ)). SpendsOnly o a b) e h)) (λ (e : s ≡ t). subst (λ (o : Option (List ℕ)). SpendsOnly o a b) e h) which

below_speaks : (account : List ℕ) (site : Site) (path : List Junction) → (speaker_at site (Some (descended (caller account) path)) ≡ None) ⊎ (speaker_at site (Some (descended (caller account) path)) ≡ Some account)
below_speaks account site [] = inr refl
below_speaks account site (j ∷ path) = inl refl

local_speaks : (account : List ℕ) (site : Site) (o : Option Location) → IsAtOrBelow (caller account) o → (speaker_at site o ≡ None) ⊎ (speaker_at site o ≡ Some account)
local_speaks account site None h = inl refl
local_speaks account site (Some who) h = subst (λ (l : Location). (speaker_at site (Some l) ≡ None) ⊎ (speaker_at site (Some l) ≡ Some account)) (sym h.1) (below_speaks account site h.0)

-- what a call lowers of its speaker's account, it lowers of the caller's
local_called : (account : List ℕ) (site : Site) (start : ChainPart) (l : Instruction-F Instruction) (m : Machine) (t : MachineWithGoods) (c : MachineCall) (moment : Moment) → HasReason moment l m t c → IsFrom m t → SpeaksForCaller account site start t → SpeaksForCaller account site start (after c t)
local_called account site start l m t c moment asks from v =
    let same : t.regs.origin ≡ m.regs.origin = ap (λ (r : Registers). r.origin) from.regs in
    let speaks = local_speaks account t.part.site m.regs.origin (subst (IsAtOrBelow (caller account)) same v.below) in
    record {
      there = sym (from_site c t) ∙ v.there;
      below = subst (IsAtOrBelow (caller account)) (sym (origin_after c t)) v.below;
      lowers = then_spends (IsSpeaker (Some account)) start t.part (after c t).part v.lowers (either_spends (speaker_at t.part.site m.regs.origin) (Some account) t.part (after c t).part speaks (call_spends moment l m c t asks));
    }
  where
    from_site : (c : MachineCall) (t : MachineWithGoods) → t.part.site ≡ (after c t).part.site
    from_site (MachineCall.Take filter) t = refl
    from_site _ t = refl

local_is_kept : (account : List ℕ) (site : Site) (start : ChainPart) → IsKeptByCalls any_kind (SpeaksForCaller account site start)
local_is_kept account site start = record {
  refunds = tt;
  called = λ x l is q moment m t c k asks from ok h. local_called account site start l m t c moment asks from h;
  turned = λ t r turns h. record { there = h.there; below = below_turned (caller account) t.regs.origin r.origin turns.origin h.below; lowers = h.lowers };
}

module _ (rules : ChainRules) (account : List ℕ) (credit : Weight) (program : List Instruction) (p : ChainPart) where
  abbrev Kept : MachineWithGoods → Type 0
  Kept = SpeaksForCaller account p.site p

  local_start : Kept (record { regs = started rules (caller account); part = p; goods = empty })
  local_start = record { there = refl; below = starts_at (caller account); lowers = same_spends (IsSpeaker (Some account)) p }

  -- an execution for an account lowers that account alone, and pools'
  pub local_lowers : SpendsOnly (Some account) p (executed rules (caller account) credit program p).1
  local_lowers = (keeps_executed Kept (local_is_kept account p.site p) rules (caller account) credit program p local_start).kept.lowers

  pub local_stopped : (now : ChainPart) → IsAbandoned rules (caller account) credit program p now → SpendsOnly (Some account) p now
  local_stopped now h = (keeps_abandoned Kept (local_is_kept account p.site p) rules (caller account) credit program p now h local_start).kept.lowers
