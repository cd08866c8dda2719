-- A local execution, by its cases.
use Rattle.std.proofs.Common.{◌≡◌, ℕ, Bool, true, false, List, [], Option, Some, None, Result, Ok, Err, sym, ap, ◌∙◌, subst, inr, ⊎_elim}
use Rattle.std.specs.Prelude.{if◌then◌else◌, slice_get, slice_set}
use Rattle.std.specs.Option.{option_map_or}
use Rattle.chain_ids.specs.declared.chain.ChainId.{ChainId}
use Rattle.xcm_program.specs.declared.instruction.Instruction.{Instruction}
use Rattle.xcm_program.specs.declared.outcome.Outcome.{Outcome}
use Rattle.std.specs.Prelude.{◌⊎◌, IfOk, OnOk}
use Rattle.std.specs.declared.alloc.AllocError.{AllocError}
use Rattle.versioned_xcm.specs.declared.faults.MessageFault.{MessageFault}
use Rattle.versioned_xcm.specs.declared.faults.MessageFault.TheVariants.{Memory}
use Rattle.versioned_xcm.specs.Reading.{message_of}
use Rattle.channel_parts.specs.declared.cargo.Cargo.TheVariants.{Nothing}
use Rattle.exec_base.specs.Part.{ChainPart}
use Rattle.network_steps.specs.declared.step_result.StepResult.{StepResult}
use Rattle.network_steps.specs.Worlds.{Member, World, place_of, with_part, unchanged}
use Rattle.network_steps.specs.Acting.{begun, Acted, acted, caller}
use Rattle.exec_rules.specs.declared.rules.ChainRules.{ChainRules}
use Rattle.chain_state.specs.declared.state.ChainState.{ChainState}
use Rattle.chain_state.specs.PartOf.{part_of}
use Rattle.chain_net.specs.Chains.{member_in, world_in}
use Rattle.chain_net.specs.Nets.{told_at}
use Rattle.law_nets.specs.Stops.{IsStoppedHere, ExecStops}
use Rattle.chain_net.proofs.Members.{member_at, set_member, got_set}
use Rattle.asset_pools.specs.Exchanges.{is_pool_account}
use Rattle.network_steps.specs.Steps.{is_sovereign, exec_read, exec_by, exec_at, exec}

module _ (w : World) (chain : ChainId) (account bytes : List ℕ) where
  pub exec_nowhere : place_of w chain ≡ None → exec w chain account bytes ≡ unchanged StepResult.NoSuchChain w
  unfolding exec
  exec_nowhere at = ap (λ o. exec_at w o account bytes) at

  pub exec_whole : (i : ℕ) → place_of w chain ≡ Some i → is_sovereign account ≡ true → exec w chain account bytes ≡ unchanged StepResult.SovereignCaller w
  unfolding exec
  exec_whole i at whole =
      ap (λ o. exec_at w o account bytes) at
      ∙ ap (λ (b : Bool). if b then unchanged StepResult.SovereignCaller w else option_map_or (λ (m : Member). exec_by w i m account (message_of bytes)) (slice_get w i) (unchanged StepResult.NoSuchChain w)) whole

  pub exec_there : (i : ℕ) (m : Member) (read : Result (List Instruction) MessageFault) → place_of w chain ≡ Some i → is_sovereign account ≡ false → slice_get w i ≡ Some m → is_pool_account m.part.pools account ≡ false → message_of bytes ≡ read
      → exec w chain account bytes ≡ exec_read w i m account read
  unfolding exec
  exec_there i m read at local is own reading =
      ap (λ o. exec_at w o account bytes) at
      ∙ ap (λ (b : Bool). if b then unchanged StepResult.SovereignCaller w else option_map_or (λ (m : Member). exec_by w i m account (message_of bytes)) (slice_get w i) (unchanged StepResult.NoSuchChain w)) local
      ∙ ap (λ o. option_map_or (λ (m : Member). exec_by w i m account (message_of bytes)) o (unchanged StepResult.NoSuchChain w)) is
      ∙ ap (exec_by w i m account) reading
      ∙ ap (λ (b : Bool). if b then unchanged StepResult.SovereignCaller w else exec_read w i m account read) own

  pub exec_pool : (i : ℕ) (m : Member) → place_of w chain ≡ Some i → is_sovereign account ≡ false → slice_get w i ≡ Some m → is_pool_account m.part.pools account ≡ true
      → exec w chain account bytes ≡ unchanged StepResult.SovereignCaller w
  unfolding exec
  exec_pool i m at local is pool =
      ap (λ o. exec_at w o account bytes) at
      ∙ ap (λ (b : Bool). if b then unchanged StepResult.SovereignCaller w else option_map_or (λ (m : Member). exec_by w i m account (message_of bytes)) (slice_get w i) (unchanged StepResult.NoSuchChain w)) local
      ∙ ap (λ o. option_map_or (λ (m : Member). exec_by w i m account (message_of bytes)) o (unchanged StepResult.NoSuchChain w)) is
      ∙ ap (λ (b : Bool). if b then unchanged StepResult.SovereignCaller w else exec_read w i m account (message_of bytes)) pool

-- ---- on the chains themselves
module _ (rs : List ChainRules) (ss : List ChainState) (i : ℕ) (r : ChainRules) (s new : ChainState) (chain : ChainId) (account bytes : List ℕ) (program : List Instruction) where
  abbrev world : World
  world = world_in rs ss

  abbrev left : Acted
  left = acted r (caller account) r.limit program (begun (part_of s).site.chain Nothing (part_of s))

  told_new : (w : World) (m y : Member) → slice_get w i ≡ Some m → told_at (Some i) (slice_set w i y) ≡ y.part.events
  told_new w m y at = ap (λ (o : Option Member). option_map_or (λ (m : Member). m.part.events) o []) (got_set w i m y at)

  pub exec_ran : (outcome : Outcome) → place_of world chain ≡ Some i → is_sovereign account ≡ false → slice_get rs i ≡ Some r → slice_get ss i ≡ Some s → is_pool_account (part_of s).pools account ≡ false → message_of bytes ≡ Ok program
      → outcome ≡ left.outcome → part_of new ≡ left.part
      → exec world chain account bytes ≡ record { answer = StepResult.Ran outcome; trace = told_at (Some i) (world_in rs (slice_set ss i new)); world = world_in rs (slice_set ss i new) }
  exec_ran outcome at local is_rules is_state own read same_outcome same_part =
      let is = member_at rs ss i r s is_rules is_state in
      let set = set_member rs ss i r new is_rules in
      let same_world : slice_set world i (with_part left.part (member_in r s)) ≡ world_in rs (slice_set ss i new) = ap (λ (p : ChainPart). slice_set world i (record { rules = r; part = p })) (sym same_part) ∙ sym set in
      let same_trace : left.part.events ≡ told_at (Some i) (world_in rs (slice_set ss i new)) =
      sym (told_new world (member_in r s) (with_part left.part (member_in r s)) is) ∙ ap (told_at (Some i)) same_world in
      exec_there world chain account bytes i (member_in r s) (Ok program) at local is own read
      ∙ (λ k. record { answer = StepResult.Ran (sym same_outcome k); trace = same_trace k; world = same_world k })

  pub exec_stopped : place_of world chain ≡ Some i → is_sovereign account ≡ false → slice_get rs i ≡ Some r → slice_get ss i ≡ Some s → is_pool_account (part_of s).pools account ≡ false → message_of bytes ≡ Ok program
      → IsStoppedHere r account program (part_of s) (part_of new) → ExecStops world chain account bytes (world_in rs (slice_set ss i new))
  exec_stopped at local is_rules is_state own read stopped = inr (record {
    place = i;
    member = member_in r s;
    program = program;
    found = at;
    is = member_at rs ss i r s is_rules is_state;
    local = local;
    own = own;
    read = read;
    part = part_of new;
    stopped = stopped;
    rest = set_member rs ss i r new is_rules;
  })

same_state : (o : Option ChainState) (s here : ChainState) → o ≡ Some s → o ≡ Some here → here ≡ s
same_state o s here e f = let both : Some here ≡ Some s = sym f ∙ e in cc

-- the chain that was looked at is the one that runs
pub own_of : (ss : List ChainState) (i : ℕ) (s here : ChainState) (account : List ℕ) (pool : Bool) → slice_get ss i ≡ Some s → slice_get ss i ≡ Some here → pool ≡ is_pool_account (part_of here).pools account → is_pool_account (part_of s).pools account ≡ pool
own_of ss i s here account pool is is_here told = sym (told ∙ ap (λ (x : ChainState). is_pool_account (part_of x).pools account) (same_state (slice_get ss i) s here is is_here))

pub read_is : (program : List Instruction) (read : Result (List Instruction) MessageFault) → (Ok program ≡ Err Memory) ⊎ (Ok program ≡ read) → read ≡ Ok program
read_is program read h = ⊎_elim (λ (e : ◌≡◌ {A = Result (List Instruction) MessageFault} (Ok program) (Err Memory)). absurd cc) (λ e. sym e) h

pub fault_is : (fault : MessageFault) (read : Result (List Instruction) MessageFault) → (fault ≡ Memory → ⊥) → (◌≡◌ {A = Result (List Instruction) MessageFault} (Err fault) (Err Memory)) ⊎ (Err fault ≡ read) → read ≡ Err fault
fault_is fault read other h = ⊎_elim (λ (e : ◌≡◌ {A = Result (List Instruction) MessageFault} (Err fault) (Err Memory)). absurd (other cc)) (λ e. sym e) h

pub by_answer : (r : Result StepResult AllocError) (fault : MessageFault) (X : StepResult → Type 0) → IfOk r (λ a. a ≡ StepResult.Message fault) → OnOk r (fault ≡ Memory → ⊥) → ((fault ≡ Memory → ⊥) → X (StepResult.Message fault)) → IfOk r X
by_answer (Ok a) fault X e other h = subst X (sym e) (h other)
by_answer (Err f) fault X e other h = tt
