-- Lemmas: a program that a chain runs for its own account is a safe change of that chain. A reader may skip this file.
use Rattle.std.proofs.Common.{◌≡◌, ◌+◌, List, [], ◌∷◌, Some, Ok, refl, sym, ap, ◌∙◌, subst, arith}
use Rattle.std.specs.List.{AllByRecursion}
use Rattle.amounts.specs.Amounts.{total, empty}
use Rattle.amounts.proofs.Lemmas.AmountLaws.{amount-empty, total-empty}
use Rattle.locations.specs.declared.relative.Location.{Location}
use Rattle.operands.specs.declared.weight.Weight.{Weight}
use Rattle.asset_lists.specs.Listed.{Listed}
use Rattle.asset_bundles.specs.Bundles.{Bundle}
use Rattle.asset_bundles.proofs.Lemmas.Bundles.{unit_keys}
use Rattle.asset_bundles.specs.Books.{is_unit_where, is_unit_of, AreListed}
use Rattle.asset_bundles.specs.Joins.{IsWithinMost}
use Rattle.chain_ids.specs.declared.chain.ChainId.{ChainId}
use Rattle.trust_tables.specs.declared.rows.AssetRow.{AssetRow}
use Rattle.trust_tables.specs.Trust.{listing}
use Rattle.xcm_program.specs.declared.instruction.Instruction.{Instruction}
use Rattle.channel_parts.specs.declared.cargo.Cargo.TheVariants as cargos
use Rattle.channel_parts.specs.declared.channel.Channel.{Channel}
use Rattle.exec_base.specs.declared.event.Part.TheVariants as parts
use Rattle.exec_base.specs.Part.{ChainPart}
use Rattle.exec_rules.specs.Machine.{Machine}
use Rattle.exec_rules.specs.Run.{Stage, begin, run, still_to_run, machine_of}
use Rattle.exec_rules.specs.Accounts.{IsBalanced}
use Rattle.exec_rules.specs.Keeping.{IsAheadOf}
use Rattle.exec_rules.proofs.Lemmas.KeepingLaws.{begin_machine}
use Rattle.exec_rules.specs.Outcome.{finished}
use Rattle.exec_rules.specs.Instructions.{xcm}
use Rattle.exec_rules.specs.Readiness.{IsAtRest}
use Rattle.exec_rules.specs.declared.rules.ChainRules.{ChainRules}
use Rattle.exec_rules.specs.declared.admission.Admitted.{Admitted}
use Rattle.exec_rules.specs.Admission.{admitted}
use Rattle.exec_rules.specs.Execution.{first_machine, first_stage, last_machine}
use Rattle.network_steps.specs.Acting.{begun, ended}
use Rattle.law_coherence.specs.Networks.{Table, IsIn, Agrees}
use Rattle.law_coherence.specs.Steps.{IsSafe}
use Rattle.law_runs.specs.Views.{table_of, seen}
use Rattle.law_runs.specs.Sums.{in_kept, in_places, burned_where, none, HasRoom}
use Rattle.law_runs.specs.Safety.{AreLists, IsRunnable, HasFee, AreTrustedAt, links_of, hold, Safely}
use Rattle.law_runs.proofs.Lemmas.Safety.{safely_then}
use Rattle.law_runs.specs.Accepted.{IsCaller, IsOwnOrigin}
use Rattle.law_runs.proofs.Lemmas.Accepted.{caller_spared}
use Rattle.law_runs.specs.Runs.{IsSafeAt}
use Rattle.law_runs.proofs.Lemmas.Runs.{steps_go, emptied, finished_safely}
use Rattle.law_steps.specs.Rooms.{unlisted, AllListed}
use Rattle.law_steps.proofs.Lemmas.Admitting.{admitted_lists}
use Rattle.law_steps.specs.Soundness.{IsLink, IsSoundPart, LawsBelow}

-- ---- parts that differ in what is told, and in what is delivered
pub begun_sound : (sender : ChainId) (p : ChainPart) → IsSoundPart p → IsSoundPart (begun sender cargos.Nothing p)
unfolding in_kept
begun_sound sender p s = record {
  rest = record { order = record { traps = s.rest.order.traps; rates = s.rest.order.rates; paid = s.rest.order.paid; pools = s.rest.order.pools; unparked = s.rest.order.unparked }; slot = s.rest.slot };
  cargo = refl;
  listed = s.listed;
  trusted = s.trusted;
  links = s.links;
}

pub ended_sound : (p : ChainPart) → IsSoundPart p → IsSoundPart (ended p)
unfolding in_kept
ended_sound p s = record {
  rest = record { order = record { traps = s.rest.order.traps; rates = s.rest.order.rates; paid = s.rest.order.paid; pools = s.rest.order.pools; unparked = s.rest.order.unparked }; slot = s.rest.slot };
  cargo = refl;
  listed = s.listed;
  trusted = s.trusted;
  links = s.links;
}

pub fees_of_links : (here : ChainId) (cs : List Channel) → AllByRecursion (IsLink here) cs → AllByRecursion HasFee cs
fees_of_links here [] all = tt
fees_of_links here (c ∷ cs) all = (all.0.fee, fees_of_links here cs all.1)

-- what a chain is after a safe change, between runs
pub sound_after : (m k : Machine) → Safely m k → k.regs.holding ≡ empty → AllListed (hold m) m.part → m.part.cargo.cargo ≡ cargos.Nothing → AreTrustedAt m.part.site m.part.rows m.part.channels
    → AllByRecursion (IsLink m.part.site.chain) (links_of m.part.channels) → IsAtRest k.part → IsSoundPart k.part
sound_after m k x none_held listed cargo trusted links rest = record {
  rest = rest;
  cargo = x.cargo cargo;
  listed = subst (λ (r : List AssetRow). burned_where (unlisted r) k.part + (in_places (is_unit_where (unlisted r)) k.part + 0) ≡ 0) (sym x.rows)
      (let le = x.burns (unlisted m.part.rows) in omega (arith, le, listed));
  trusted = x.trusted trusted;
  links = subst (λ (c : ChainId). AllByRecursion (IsLink c) (links_of k.part.channels)) (sym (ap (λ s. s.chain) x.site)) (subst (AllByRecursion (IsLink m.part.site.chain)) (sym x.links) links);
}

-- the same where a message was delivered, whatever is left of its cargo
pub sound_ended : (m k : Machine) → Safely m k → k.regs.holding ≡ empty → AllListed (hold m) m.part → AreTrustedAt m.part.site m.part.rows m.part.channels
    → AllByRecursion (IsLink m.part.site.chain) (links_of m.part.channels) → IsAtRest k.part → IsSoundPart (ended k.part)
unfolding in_kept
sound_ended m k x none_held listed trusted links rest = record {
  rest = record { order = record { traps = rest.order.traps; rates = rest.order.rates; paid = rest.order.paid; pools = rest.order.pools; unparked = rest.order.unparked }; slot = rest.slot };
  cargo = refl;
  listed = subst (λ (r : List AssetRow). burned_where (unlisted r) k.part + (in_places (is_unit_where (unlisted r)) k.part + 0) ≡ 0) (sym x.rows)
      (let le = x.burns (unlisted m.part.rows) in omega (arith, le, listed));
  trusted = x.trusted trusted;
  links = subst (λ (c : ChainId). AllByRecursion (IsLink c) (links_of k.part.channels)) (sym (ap (λ s. s.chain) x.site)) (subst (AllByRecursion (IsLink m.part.site.chain)) (sym x.links) links);
}

pub nothing_listed : (p : ChainPart) → AllListed none p → (b : Bundle) → b ≡ empty → AllListed (λ t. total t b) p
nothing_listed p listed b e = let z = ap (total (is_unit_where (unlisted p.rows))) e ∙ total-empty unit_keys (is_unit_where (unlisted p.rows)) in omega (arith, listed, z)

pub none_listed : (listed : List Listed) → AreListed listed empty
none_listed listed u some = let z = amount-empty unit_keys u in absurd (omega (arith, z, some))

pub none_above : IsWithinMost empty
none_above u = let z = amount-empty unit_keys u in omega (arith, z)

pub no_ahead : (program : List Instruction) (m : Machine) → m.regs.handler ≡ [] → m.regs.appendix ≡ [] → AllByRecursion AreLists program → IsAheadOf AreLists (begin parts.Program program m)
no_ahead [] m h a all = record { ahead_hold = tt; handler_holds = subst (AllByRecursion AreLists) (sym h) tt; appendix_holds = subst (AllByRecursion AreLists) (sym a) tt }
no_ahead (x ∷ behind) m h a all = record { ahead_hold = all; handler_holds = subst (AllByRecursion AreLists) (sym h) tt; appendix_holds = subst (AllByRecursion AreLists) (sym a) tt }

-- a safe change of the chain, which is sound again
pub record ActsSafely (p q : ChainPart) : Type 0 where
  pub safe : IsSafe (seen empty p) (seen empty q)
  pub sound : IsSoundPart q

module _ (laws : LawsBelow) (n : List Table) (agrees : Agrees n) where
  -- from a machine on which a run may go on to the end
  pub run_safely : (g : Stage) (w : Weight) → IsBalanced w g → IsAheadOf AreLists g → IsSafeAt n (machine_of g) → Safely (machine_of g) (emptied laws.withdraws laws.moves laws.stays n agrees (machine_of (run xcm g)))
  run_safely g w balanced ahead safe =
      let there = steps_go laws.withdraws laws.moves laws.stays n agrees laws.orderly w (still_to_run g) g balanced ahead safe in
      let m = machine_of (run xcm g) in
      safely_then (machine_of g) m (emptied laws.withdraws laws.moves laws.stays n agrees m) there.1
      (finished_safely laws.withdraws laws.moves laws.stays n agrees laws.trapping m there.0.steady there.0.fine.room)

  -- ---- for the chain's own account
  module _ (rules : ChainRules) (origin : Location) (caller : IsCaller origin) (p : ChainPart) (there : IsIn n (table_of p)) (sound : IsSoundPart p) (room : HasRoom none p) where
    own_origin : IsOwnOrigin (Some origin)
    own_origin l e = let same : origin ≡ l = cc in subst IsCaller same caller

    pub begins : IsSafeAt n (first_machine rules origin p)
    begins = record {
      fine = record {
        spared = caller_spared (first_machine rules origin p) own_origin;
        room = λ k. let le = room k in let z = total-empty unit_keys (is_unit_of k) in omega (arith, le, z);
        listed = none_listed (listing p.rows);
        within = none_above;
        there = there;
      };
      own_origin = own_origin;
      steady = record { rest = sound.rest; holding = none_listed (listing p.rows) };
      fees = fees_of_links p.site.chain (links_of p.channels) sound.links;
    }

    pub admitted_safely : (credit : Weight) (program : List Instruction) (a : Admitted) → IsRunnable program → admitted rules origin credit p.queries program ≡ Ok a → ActsSafely p (finished xcm (last_machine rules origin a p))
    admitted_safely credit program a runs e =
        let weighed = laws.weighs rules origin credit p.queries program a runs.few e in
        let g = first_stage rules origin a p in
        let first : machine_of g ≡ first_machine rules origin p = begin_machine parts.Program a.program (first_machine rules origin p) in
        let ahead = no_ahead a.program (first_machine rules origin p) refl refl (admitted_lists rules origin credit p.queries program runs.lists a e) in
        let k = emptied laws.withdraws laws.moves laws.stays n agrees (machine_of (run xcm g)) in
        let safely = subst (λ (m : Machine). Safely m k) first (run_safely g a.weight (laws.balances rules origin a p weighed) ahead (subst (IsSafeAt n) (sym first) begins)) in
        record {
          safe = safely.safe;
          sound = sound_after (first_machine rules origin p) k safely refl (nothing_listed p sound.listed empty refl) sound.cargo sound.trusted sound.links (laws.rests rules origin a p weighed sound.rest);
        }
