-- What is kept of a supply block stays right while chains are marked and steps are run.
use Rattle.std.proofs.Common.{◌≡◌, ◌∙◌, ℕ, true, false, List, length, nat_lt, cond, Option, Some, None, refl, sym, ap, subst}
use Rattle.std.specs.Prelude.{slice_get, OnOk, Result, Ok, Err}
use Rattle.std.specs.List.{position_or_len}
use Rattle.std.specs.Option.{option_map, option_map_or}
use Rattle.std.proofs.lemmas.Bool.{false≢true}
use Rattle.std.proofs.lemmas.Option.{slice_get-map}
use Rattle.chain_ids.specs.declared.chain.ChainId.{ChainId}
use Rattle.chain_ids.specs.Chains.{same_chain}
use Rattle.law_coherence.specs.Networks.{Table}
use Rattle.exec_base.specs.Part.{ChainPart}
use Rattle.chain_queues.specs.Queues.{channel_to}
use Rattle.network_steps.specs.declared.step_result.StepResult.{StepResult}
use Rattle.network_steps.specs.Worlds.{Member, chain_of, World, place_of, parts_of, Stepped, unchanged}
use Rattle.network_steps.specs.Steps.{Link, exec_at, exec, delivery_of, deliver, claim_on, claim, next_world}
use Rattle.network_steps.specs.Steps as steps
use Rattle.supply_audit.specs.Places.{chain_table}
use Rattle.supply_audit.specs.Covers.{number_of}
use Rattle.supply_audit.proofs.Lemmas.PlaceLaws.{position_map}
use Rattle.supply_audit.specs.Stale.{is_stale}
use Rattle.report_text.specs.Kept.{Sheet}
use Rattle.report_text.specs.Marks.{IsMarked}
use Rattle.report_text.specs.Plan.{plan_of}
use Rattle.report_text.specs.Sheets.{IsFilledSheet, IsWrittenOf, IsSheetOf}
use Rattle.report_blocks.specs.Tables.{world_tables, IsKeptOf, IsChangedIn, CountsAsChanged}
use Rattle.report_blocks.proofs.Listed.{KeepsSettings, tables_kept}

-- ---- marks

pub marked_keeps : (number : ℕ) (old new : Sheet) (parts : List ChainPart) → IsMarked number old new → IsSheetOf parts old → IsSheetOf parts new
marked_keeps number old new parts m s =
    (s.0, record { supplies = m.supplies ∙ s.1.supplies; backings = m.backings ∙ s.1.backings }, λ chain fresh. s.2 chain (m.others chain fresh))

pub marked_others : (number : ℕ) (old new : Sheet) → IsMarked number old new → (n : ℕ) → IsChangedIn old n → IsChangedIn new n
marked_others number old new m n changed = λ chain fresh. changed chain (m.others chain fresh)

-- where every chain counts as changed
module _ (new : Sheet) (all : (chain : ℕ) → is_stale new.stale chain ≡ true) where
  pub all_changed : (number : ℕ) → IsChangedIn new number
  all_changed number = λ chain fresh is. absurd (false≢true (sym fresh ∙ all chain))

  pub all_keeps : (old : Sheet) (parts : List ChainPart) → new.supplies ≡ old.supplies → new.backings ≡ old.backings → IsSheetOf parts old → IsSheetOf parts new
  all_keeps old parts supplies backings s =
      (s.0, record { supplies = supplies ∙ s.1.supplies; backings = backings ∙ s.1.backings }, λ chain fresh. absurd (false≢true (sym fresh ∙ all chain)))

-- lines that were just written
pub written_kept : (parts : List ChainPart) (w : World) (sheet : Sheet) → parts ≡ parts_of w → IsWrittenOf parts sheet → IsSheetOf (parts_of w) sheet
written_kept parts w sheet same is = subst (λ (ps : List ChainPart). IsSheetOf ps sheet) same (parts, is, λ chain fresh. refl)

-- ---- steps

number_is : (w : World) (chain : ChainId) (i : ℕ) → place_of w chain ≡ Some i → number_of (world_tables w) chain ≡ i
number_is w chain i at =
    let n = position_or_len (λ (m : Member). same_chain (chain_of m) chain) w in
    let same : number_of (world_tables w) chain ≡ n =
    position_map chain_table (λ (t : Table). same_chain t.site.chain chain) (parts_of w) ∙ position_map (λ (m : Member). m.part) (λ (p : ChainPart). same_chain p.site.chain chain) w in
    let found : n ≡ i = elim (nat_lt n (length w)) as (λ b. cond b (Some n) None ≡ Some i → n ≡ i) [ true ↦ λ e. cc | false ↦ λ e. absurd cc ] at in
    same ∙ found

-- what a law says of the chains that a step doesn't reach
pub record KeepsOthers : Type 0 where
  pub exec : (w : World) (chain : ChainId) (account bytes : List ℕ) (i k : ℕ) → place_of w chain ≡ Some i → (k ≡ i → ⊥) → slice_get (exec w chain account bytes).world k ≡ slice_get w k
  pub deliver : (w : World) (from to : ChainId) (i j k : ℕ) → place_of w from ≡ Some i → place_of w to ≡ Some j → (k ≡ i → ⊥) → (k ≡ j → ⊥) → slice_get (deliver w from to).world k ≡ slice_get w k
  pub claim : (w : World) (from to : ChainId) (bytes : List ℕ) (i k : ℕ) → place_of w from ≡ Some i → (k ≡ i → ⊥) → slice_get (claim w from to bytes).world k ≡ slice_get w k

module _ (others : KeepsOthers) (w : World) where
  exec_others : (chain : ChainId) (account bytes : List ℕ) (k : ℕ) → (k ≡ number_of (world_tables w) chain → ⊥) → slice_get (exec w chain account bytes).world k ≡ slice_get w k
  unfolding exec
  exec_others chain account bytes k apart =
      elim (place_of w chain) as (λ o. place_of w chain ≡ o → slice_get (exec_at w (place_of w chain) account bytes).world k ≡ slice_get w k) [
        | None ↦ λ at. ap (λ o. slice_get (exec_at w o account bytes).world k) at
        | Some i ↦ λ at. others.exec w chain account bytes i k at (λ e. apart (e ∙ sym (number_is w chain i at)))
      ] refl

  -- a step between two chains, of which one isn't there
  abbrev pair : Option ℕ → Option ℕ → (ℕ → ℕ → Member → Member → Stepped) → Stepped
  pair first second f =
      let none = unchanged StepResult.NoSuchChain w in
      option_map_or (λ (i : ℕ). option_map_or (λ (j : ℕ). option_map_or (λ (s : Member). option_map_or (λ (r : Member). f i j s r) (slice_get w j) none) (slice_get w i) none) second none) first none

  pair_others : (first second : Option ℕ) (f : ℕ → ℕ → Member → Member → Stepped) (k : ℕ)
      → ((i j : ℕ) → first ≡ Some i → second ≡ Some j → slice_get (pair first second f).world k ≡ slice_get w k) → slice_get (pair first second f).world k ≡ slice_get w k
  pair_others None second f k law = refl
  pair_others (Some i) None f k law = refl
  pair_others (Some i) (Some j) f k law = law i j refl refl

  deliver_others : (from to : ChainId) (k : ℕ) → (k ≡ number_of (world_tables w) from → ⊥) → (k ≡ number_of (world_tables w) to → ⊥) → slice_get (deliver w from to).world k ≡ slice_get w k
  unfolding deliver
  deliver_others from to k apart apart_too =
      pair_others (place_of w from) (place_of w to) (λ i j s r. delivery_of w i j s r (channel_to (chain_of r) s.part.channels)) k
      (λ i j from_i to_j. others.deliver w from to i j k from_i to_j (λ e. apart (e ∙ sym (number_is w from i from_i))) (λ e. apart_too (e ∙ sym (number_is w to j to_j))))

  claim_others : (from to : ChainId) (bytes : List ℕ) (k : ℕ) → (k ≡ number_of (world_tables w) from → ⊥) → slice_get (claim w from to bytes).world k ≡ slice_get w k
  unfolding claim
  claim_others from to bytes k apart =
      pair_others (place_of w from) (place_of w to) (λ i j s r. claim_on w i s (chain_of r) (channel_to (chain_of r) s.part.channels) bytes) k
      (λ i j from_i to_j. others.claim w from to bytes i k from_i (λ e. apart (e ∙ sym (number_is w from i from_i))))

-- what is kept stays right where only chains changed that count as changed
still_kept : (kept : Option Sheet) (w now : World) → world_tables now ≡ world_tables w
    → ((k : ℕ) → ((number : ℕ) → CountsAsChanged kept number → k ≡ number → ⊥) → slice_get now k ≡ slice_get w k) → IsKeptOf kept w → IsKeptOf kept now
still_kept None w now tables same right = tt
still_kept (Some sheet) w now tables same right =
    let part = λ (m : Member). m.part in (
      right.0,
      subst (λ (ts : List Table). IsFilledSheet (plan_of ts) right.0 sheet) (sym tables) right.1,
      λ chain fresh.
          slice_get-map part now chain
          ∙ ap (option_map part) (same chain (λ number changed. changed chain fresh))
          ∙ sym (slice_get-map part w chain)
          ∙ right.2 chain fresh,
    )

module _ (keeps : KeepsSettings) (others : KeepsOthers) (order : List Link) (kept : Option Sheet) (w now : World) (right : IsKeptOf kept w) where
  pub kept_exec : (chain : ChainId) (account bytes : List ℕ) → now ≡ (exec w chain account bytes).world → CountsAsChanged kept (number_of (world_tables w) chain) → IsKeptOf kept now
  kept_exec chain account bytes is marked =
      still_kept kept w now (ap world_tables is ∙ tables_kept keeps order w (steps.Exec chain account bytes))
      (λ k apart. ap (λ x. slice_get x k) is ∙ exec_others others w chain account bytes k (apart (number_of (world_tables w) chain) marked)) right

  pub kept_deliver : (from to : ChainId) → now ≡ (deliver w from to).world → CountsAsChanged kept (number_of (world_tables w) from) → CountsAsChanged kept (number_of (world_tables w) to) → IsKeptOf kept now
  kept_deliver from to is marked marked_too =
      still_kept kept w now (ap world_tables is ∙ tables_kept keeps order w (steps.Deliver from to))
      (λ k apart. ap (λ x. slice_get x k) is ∙ deliver_others others w from to k (apart (number_of (world_tables w) from) marked) (apart (number_of (world_tables w) to) marked_too)) right

  pub kept_claim : (from to : ChainId) (bytes : List ℕ) → now ≡ (claim w from to bytes).world → CountsAsChanged kept (number_of (world_tables w) from) → IsKeptOf kept now
  kept_claim from to bytes is marked =
      still_kept kept w now (ap world_tables is ∙ tables_kept keeps order w (steps.Claim from to bytes))
      (λ k apart. ap (λ x. slice_get x k) is ∙ claim_others others w from to bytes k (apart (number_of (world_tables w) from) marked)) right

module _ (keeps : KeepsSettings) (order : List Link) (kept : Option Sheet) (w now : World) (right : IsKeptOf kept w) where
  pub kept_drain : now ≡ next_world order w steps.Drain → ((number : ℕ) → CountsAsChanged kept number) → IsKeptOf kept now
  kept_drain is marked =
      still_kept kept w now (ap world_tables is ∙ tables_kept keeps order w steps.Drain)
      (λ k apart. absurd (apart k (marked k) refl)) right

-- what holds whatever comes holds where a call succeeds
pub whatever : {T E P : Type 0} (r : Result T E) → P → OnOk r P
whatever (Ok x) p = p
whatever (Err e) p = tt
