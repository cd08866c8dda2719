-- What a chain sends, as conservation sees it. This project's own vocabulary; the lemmas are for proofs, and a reader may skip them.
-- ---- what a message carries of the units that pass
use Rattle.std.proofs.Common.{◌≡◌, ℕ, Bool, true, false, List, [], ◌∷◌, Option, Some, None, map, refl, sym, ap, ◌∙◌, subst}
use Rattle.std.specs.Prelude.{◌||◌, find, if◌then◌else◌, nat_le, length}
use Rattle.std.proofs.lemmas.List.{map-append}
use Rattle.amounts.specs.Amounts.{total}
use Rattle.locations.specs.declared.relative.Location.{Location}
use Rattle.locations.proofs.Lemmas.OrderLaws.{location_decides}
use Rattle.asset_lists.specs.declared.units.Asset.{Asset}
use Rattle.asset_lists.specs.Units.{Unit}
use Rattle.chain_ids.specs.declared.chain.ChainId.{ChainId}
use Rattle.chain_ids.specs.Chains.{same_chain}
use Rattle.chain_ids.proofs.Lemmas.{same_chain_told, same_chain_itself}
use Rattle.trust_tables.specs.Chains.{location_of}
use Rattle.trust_tables.proofs.Lemmas.ChainLaws.{chain_of_one}
use Rattle.trust_tables.specs.Trust.{has_location, is_location_of}
use Rattle.xcm_program.specs.declared.instruction.Instruction.{Instruction}
use Rattle.plain_lists.specs.Firsts.{change_first}
use Rattle.channel_parts.specs.declared.cargo.Cargo as carried
use Rattle.channel_parts.specs.Channels.{Waiting, Outgoing, with_waiting}
use Rattle.exec_base.specs.Part.{ChainPart}
use Rattle.exec_base.specs.Sending.{channel_to_location, leads_to_location, channel_refusal, send_refusal, listed_refusal}
use Rattle.law_coherence.specs.Parts.{Cargo, Nothing, Deposit, Withdrawal, Teleport, Channel}
use Rattle.law_coherence.specs.Channels.{has_channel, with_last, cargo_pushed}
use Rattle.law_runs.specs.Views.{cargo_of, channel_of}
use Rattle.plain_lists.proofs.Lemmas.Facts.{same_bools as both_ways, same_some}

-- on its way; a deposit is in the receiver's account
abbrev pub on_its_way : Cargo → (Unit → Bool) → ℕ
on_its_way Nothing t = 0
on_its_way (Deposit b) t = 0
on_its_way (Withdrawal b) t = total t b
on_its_way (Teleport b) t = total t b

-- put into the receiver's account
abbrev pub put_there : Cargo → (Unit → Bool) → ℕ
put_there Nothing t = 0
put_there (Deposit b) t = total t b
put_there (Withdrawal b) t = 0
put_there (Teleport b) t = 0

-- ---- a message that was sent

-- it went last into the first channel that leads to the chain, which the sender names so
pub record Posted (name : Location) (to : ChainId) (cargo : Cargo) (p q : ChainPart) : Type 0 where
  pub named : location_of p.site.chain to ≡ Some name
  pub linked : has_channel to (map channel_of p.channels) ≡ true
  pub pushed_there : map channel_of q.channels ≡ cargo_pushed to cargo (map channel_of p.channels)

-- ---- lemmas
pub named_told : (o : Option Location) (l : Location) → has_location o l ≡ true → o ≡ Some l
named_told None l e = absurd cc
named_told (Some n) l e = ap Some ((location_decides n l).0 e)

told_named : (o : Option Location) (l : Location) → o ≡ Some l → has_location o l ≡ true
told_named None l e = absurd cc
told_named (Some n) l e = (location_decides n l).1 (same_some n l e)

-- a location names one chain
names_one : (here to chain : ChainId) (l : Location) → location_of here to ≡ Some l → is_location_of here chain l ≡ same_chain chain to
names_one here to chain l named = both_ways (is_location_of here chain l) (same_chain chain to)
    (λ t. subst (λ (c : ChainId). same_chain c to ≡ true) (chain_of_one here to chain l named (named_told (location_of here chain) l t)) (same_chain_itself to))
    (λ t. told_named (location_of here chain) l (ap (location_of here) (same_chain_told chain to t) ∙ named))

queue_put : (program : List Instruction) (cargo : carried.Cargo) (c : Outgoing) → channel_of (with_waiting program cargo c) ≡ with_last (cargo_of cargo) (channel_of c)
queue_put program cargo c =
    ap (λ (q : List Cargo). let r : Channel = record { to = c.channel.to; queue = q } in r)
    (map-append (λ (m : Waiting). cargo_of m.cargo) c.queue (record { number = c.next; program = program; cargo = cargo } ∷ []))

module _ (p : ChainPart) (dest : Location) (to : ChainId) (named : location_of p.site.chain to ≡ Some dest) where
  leads_same : (c : Outgoing) → leads_to_location p dest c ≡ same_chain c.channel.to to
  leads_same c = names_one p.site.chain to c.channel.to dest named

  posts_map : (program : List Instruction) (cargo : carried.Cargo) (cs : List Outgoing) → map channel_of (change_first (leads_to_location p dest) (with_waiting program cargo) cs) ≡ cargo_pushed to (cargo_of cargo) (map channel_of cs)
  posts_map program cargo [] = refl
  posts_map program cargo (c ∷ cs) =
      ap (λ (b : Bool). map channel_of (if b then with_waiting program cargo c ∷ cs else c ∷ change_first (leads_to_location p dest) (with_waiting program cargo) cs)) (leads_same c)
      ∙ elim (same_chain c.channel.to to) as (λ b. map channel_of (if b then with_waiting program cargo c ∷ cs else c ∷ change_first (leads_to_location p dest) (with_waiting program cargo) cs)
      ≡ (if b then with_last (cargo_of cargo) (channel_of c) ∷ map channel_of cs else channel_of c ∷ cargo_pushed to (cargo_of cargo) (map channel_of cs))) [
        | true ↦ ap (λ (d : Channel). d ∷ map channel_of cs) (queue_put program cargo c)
        | false ↦ ap (λ (ds : List Channel). channel_of c ∷ ds) (posts_map program cargo cs)
      ]

  found_linked : (cs : List Outgoing) (c : Outgoing) → find (leads_to_location p dest) cs ≡ Some c → has_channel to (map channel_of cs) ≡ true
  found_linked [] c e = absurd cc
  found_linked (x ∷ cs) c e =
      elim (same_chain x.channel.to to) as (λ b. leads_to_location p dest x ≡ b → (b || has_channel to (map channel_of cs)) ≡ true) [
        | true ↦ λ t. refl
        | false ↦ λ t. found_linked cs c (sym (ap (λ (b : Bool). if b then Some x else find (leads_to_location p dest) cs) t) ∙ e)
      ] (leads_same x)

  pub posts : (q : ChainPart) (program : List Instruction) (cargo : carried.Cargo) (c : Outgoing) → channel_to_location p dest ≡ Some c → q.channels ≡ change_first (leads_to_location p dest) (with_waiting program cargo) p.channels
      → Posted dest to (cargo_of cargo) p q
  posts q program cargo c found queued = record { named = named; linked = found_linked p.channels c found; pushed_there = ap (map channel_of) queued ∙ posts_map program cargo p.channels }

-- the chain of the channel that is found is the destination
found_names : (p : ChainPart) (dest : Location) (cs : List Outgoing) (c : Outgoing) → find (leads_to_location p dest) cs ≡ Some c → location_of p.site.chain c.channel.to ≡ Some dest
found_names p dest [] c e = absurd cc
found_names p dest (x ∷ cs) c e =
    elim (leads_to_location p dest x) as (λ b. leads_to_location p dest x ≡ b → (if b then Some x else find (leads_to_location p dest) cs) ≡ Some c → location_of p.site.chain c.channel.to ≡ Some dest) [
      | true ↦ λ t h. subst (λ (y : Outgoing). location_of p.site.chain y.channel.to ≡ Some dest) (same_some x c h) (named_told (location_of p.site.chain x.channel.to) dest t)
      | false ↦ λ t h. found_names p dest cs c h
    ] refl e

pub channel_names : (p : ChainPart) (dest : Location) (c : Outgoing) → channel_to_location p dest ≡ Some c → location_of p.site.chain c.channel.to ≡ Some dest
channel_names p dest c found = found_names p dest p.channels c found

pub sends_there : (p q : ChainPart) (dest : Location) (program : List Instruction) (cargo : carried.Cargo) (c : Outgoing) → channel_to_location p dest ≡ Some c
    → q.channels ≡ change_first (leads_to_location p dest) (with_waiting program cargo) p.channels → Posted dest c.channel.to (cargo_of cargo) p q
sends_there p q dest program cargo c found queued = posts p dest c.channel.to (channel_names p dest c found) q program cargo c found queued

-- ---- a channel is there where nothing is refused
routed : (o : Option Outgoing) (few : Bool) (program : List Instruction) → channel_refusal o few program ≡ None → (c : Outgoing) × (o ≡ Some c)
routed None few program h = absurd cc
routed (Some c) few program h = (c, refl)

pub routed_send : (p : ChainPart) (dest : Location) (few : Bool) (program : List Instruction) → send_refusal p dest few program ≡ None → (c : Outgoing) × (channel_to_location p dest ≡ Some c)
unfolding send_refusal
routed_send p dest few program h = routed (channel_to_location p dest) few program h

pub routed_list : (p : ChainPart) (dest : Location) (program : List Asset → List Instruction) (o : Option (List Asset)) → listed_refusal p dest program o ≡ None → (c : Outgoing) × (channel_to_location p dest ≡ Some c)
routed_list p dest program None h = absurd cc
routed_list p dest program (Some list) h = routed_send p dest (nat_le (length list) 20) (program list) h
