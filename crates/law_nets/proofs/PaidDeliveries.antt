-- Lemmas: so it is of each message that is delivered in a world that steps lead to. A reader may skip this file.
use Rattle.std.proofs.Common.{◌≡◌, inl, inr, ℕ, zero, suc, ◌≤◌, true, List, [], ◌∷◌, Some, refl, sym, ap, ◌∙◌, subst}
use Rattle.std.specs.Prelude.{IsTrue, slice_get}
use Rattle.std.specs.List.{AllByRecursion}
use Rattle.std.proofs.lemmas.Bool.{cases_Bool}
use Rattle.asset_lists.specs.Units.{Unit}
use Rattle.trust_tables.specs.Accounts.{IsChain, sovereign_account}
use Rattle.trust_tables.proofs.Lemmas.ChainLaws.{IsSovereign-sovereign_account}
use Rattle.amounts.specs.Amounts.{empty}
use Rattle.asset_lists.specs.declared.units.Asset.{Asset}
use Rattle.asset_bundles.specs.declared.shipment.Way.{Way}
use Rattle.asset_bundles.specs.declared.shipment.Shipment.{Shipment}
use Rattle.trust_tables.specs.declared.chains.Site.{Site}
use Rattle.channel_parts.specs.declared.cargo.Cargo.{Cargo}
use Rattle.channel_parts.specs.declared.cargo.Cargo.TheVariants as cargos
use Rattle.weight_trader.specs.Purchases.{no_weight}
use Rattle.exec_base.specs.declared.event.Event.{Event}
use Rattle.exec_base.specs.Host.{Arrival, ByWithdrawal, ByTeleport, arrives_by, fits_call, cargo_list, is_cargo, floor_of, told}
use Rattle.exec_base.specs.Part.{ChainPart}
use Rattle.exec_rules.specs.Machine.{Machine}
use Rattle.exec_rules.specs.Run.{machine_of}
use Rattle.exec_rules.specs.declared.admission.Admitted.{Admitted}
use Rattle.exec_rules.specs.Admission.{admitted}
use Rattle.network_steps.specs.Worlds as networks
use Rattle.network_steps.specs.Worlds.{chain_of}
use Rattle.network_steps.specs.Acting.{lost_by, lost_of}
use Rattle.network_steps.specs.Steps.{is_sovereign, run_for, Link, Step, worlds}
use Rattle.law_steps.specs.Shapes.{named_there, AllShaped}
use Rattle.law_coherence.specs.Networks.{IsIn}
use Rattle.law_coherence.proofs.Lemmas.Histories.{safe_history}
use Rattle.law_coherence.specs.Steps.{tables_of}
use Rattle.law_coherence.proofs.Lemmas.Steps.{table_at}
use Rattle.law_runs.specs.Views.{table_of, seen}
use Rattle.law_steps.proofs.Lemmas.Bounds.{agrees_now, checked_now}
use Rattle.law_steps.proofs.Lemmas.Fates.{ComesBy, comes_by, fate_of}
use Rattle.law_steps.proofs.Lemmas.Insides.{all_at}
use Rattle.law_steps.specs.Reading.{Decodes}
use Rattle.law_steps.proofs.Lemmas.Reading.{not_sovereign}
use Rattle.law_steps.proofs.Lemmas.Receptions.{Fate, Left, Landed}
use Rattle.law_steps.specs.Soundness.{LawsBelow}
use Rattle.law_steps.specs.Stepping.{ShapeLaws}
use Rattle.law_steps.proofs.Lemmas.Stepping.{Front, front_of, seen_at, worlds_reached, first_reached}
use Rattle.law_steps.proofs.Lemmas.Stops.{StandsAs}
use Rattle.law_steps.specs.Views.{views}
use Rattle.law_steps.specs.Worlds.{IsFirst, IsDelivery, arrives}
use Rattle.law_steps.proofs.Lemmas.Worlds.{IsReached}
use Rattle.law_authority.specs.Floors.{NoSovereignLocks, NoneSovereign}
use Rattle.law_nets.specs.Paid.{sender_name, Admits, IsPaid, IsAdmittedReceipt, HaveRoom}
use Rattle.law_nets.proofs.Losses.{cargo_ends}
use Rattle.law_nets.proofs.Messages.{withdrawal_accepted, teleport_accepted}
use Rattle.law_nets.proofs.Rooms.{KeepSettings, worlds_have_room, room_at}

-- the call of the kind that fits finds its cargo
abbrev pub MatchesCargoes : Type 0
MatchesCargoes = (here : Site) (p : ChainPart) (cargo : Cargo) (arrival : Arrival) (list : List Asset) → p.site.network ≡ here.network → p.cargo.sender ≡ here.chain → p.cargo.cargo ≡ cargo → fits_call arrival cargo ≡ true
    → named_there here p.site.chain (cargo_list cargo) ≡ Some list → is_cargo p arrival list ≡ true

-- the laws of the locks of whole chains' accounts
abbrev pub FreeWorlds : Type 0
FreeWorlds = (order : List Link) (w : networks.World) (steps : List Step) → AllShaped w → NoneSovereign w → AllByRecursion NoneSovereign (worlds order w steps)

abbrev pub NoFloor : Type 0
NoFloor = (p : ChainPart) (who : List ℕ) (unit : Unit) → NoSovereignLocks p.locked → is_sovereign who ≡ true → floor_of p who unit ≡ 0

free_at : (w : networks.World) (k : ℕ) (m : networks.Member) → slice_get w k ≡ Some m → NoneSovereign w → NoSovereignLocks m.part.locked
free_at [] k m e all = absurd cc
free_at (x ∷ w) zero m e all = let same : x ≡ m = cc in subst (λ (y : networks.Member). NoSovereignLocks y.part.locked) same all.0
free_at (x ∷ w) (suc k) m e all = free_at w k m e all.1

module _ (laws : LawsBelow) (shapes : ShapeLaws) (decodes : Decodes) (keep : KeepSettings) (matches : MatchesCargoes) (order : List Link) (w : networks.World) (steps : List Step) (f : IsFirst w) (rooms : HaveRoom w) (d : IsDelivery order w steps) where
  reached : IsReached (views w) d.world
  reached = all_at (IsReached (views w)) (worlds order w steps) d.at d.world (worlds_reached laws shapes decodes (views w) f.genesis order w steps (first_reached w f)) d.reached

  much : 20 ≤ d.receiver.rules.max_holding
  much = room_at d.world d.to d.receiver d.receives (all_at HaveRoom (worlds order w steps) d.at d.world (worlds_have_room keep order w steps rooms) d.reached)

  front : Front d.from d.to d.sender d.receiver d.message
  front = front_of laws shapes decodes (views w) f.genesis d.world reached d.from d.to d.sender d.receiver d.channel d.message d.sends d.receives d.leads d.oldest

  -- the receiver locked nothing on a whole chain's account
  chain_number : IsChain (chain_of d.sender)
  chain_number = (agrees_now (views w) f.genesis (views d.world) reached.history).network.chains (table_of d.sender.part) (d.from, table_at (views d.world) d.from (seen empty d.sender.part) (seen_at d.world d.from d.sender d.sends))

  whole_chain : is_sovereign (sovereign_account (chain_of d.receiver) (chain_of d.sender)) ≡ true
  whole_chain =
      let account = sovereign_account (chain_of d.receiver) (chain_of d.sender) in
      elim (cases_Bool (is_sovereign account)) [ inl t ↦ t | inr own ↦ absurd (not_sovereign account own (IsSovereign-sovereign_account (chain_of d.receiver) (chain_of d.sender) chain_number)) ]

  module _ (free : FreeWorlds) (none : NoFloor) (unlocked : NoneSovereign w) where
    free_there : (unit : Unit) → floor_of d.receiver.part (sovereign_account (chain_of d.receiver) (chain_of d.sender)) unit ≡ 0
    free_there unit =
        let there : NoneSovereign d.world = all_at NoneSovereign (worlds order w steps) d.at d.world (free order w steps f.shaped unlocked) d.reached in
        none d.receiver.part (sovereign_account (chain_of d.receiver) (chain_of d.sender)) unit (free_at d.world d.to d.receiver d.receives there) whole_chain

    pub withdrawal_paid : (a : Admitted) → IsTrue (fits_call ByWithdrawal d.message.cargo) → Admits d a → IsPaid d a
    withdrawal_paid a kind ok =
        withdrawal_accepted (views d.world) (agrees_now (views w) f.genesis (views d.world) reached.history) ((safe_history (views w) (views d.world) f.genesis.agrees reached.history).backed f.genesis.backed)
        (checked_now (views w) f.genesis (views d.world) reached.history)
        d.from d.to d.sender.part d.receiver.part (seen_at d.world d.from d.sender d.sends) (seen_at d.world d.to d.receiver d.receives) front.apart (reached.parts d.to d.receiver d.receives).listed
        d.receiver.rules d.message.cargo d.message.program (Event.Message (chain_of d.sender) (chain_of d.receiver) d.message.number) front.first front.name (sender_name d) front.there front.back front.runs front.trusted much free_there a ok kind
        (shapes.admits d.sender.part.site (chain_of d.receiver) d.message.program d.message.cargo d.receiver.rules (sender_name d) no_weight (arrives d.sender d.receiver d.message).queries a front.shape ok)

  pub teleport_received : (a : Admitted) → IsTrue (fits_call ByTeleport d.message.cargo) → Admits d a → IsAdmittedReceipt d a
  teleport_received a kind ok =
      teleport_accepted (views d.world) (agrees_now (views w) f.genesis (views d.world) reached.history) ((safe_history (views w) (views d.world) f.genesis.agrees reached.history).backed f.genesis.backed)
      (checked_now (views w) f.genesis (views d.world) reached.history)
      d.from d.to d.sender.part d.receiver.part (seen_at d.world d.from d.sender d.sends) (seen_at d.world d.to d.receiver d.receives) front.apart (reached.parts d.to d.receiver d.receives).listed
      d.receiver.rules d.message.cargo d.message.program (Event.Message (chain_of d.sender) (chain_of d.receiver) d.message.number) front.first front.name (sender_name d) front.there front.back front.runs front.trusted much a ok kind
      (shapes.admits d.sender.part.site (chain_of d.receiver) d.message.program d.message.cargo d.receiver.rules (sender_name d) no_weight (arrives d.sender d.receiver d.message).queries a front.shape ok)

  -- ---- what is left of its cargo
  abbrev p0 : ChainPart
  p0 = arrives d.sender d.receiver d.message

  found : (list : List Asset) → IsTrue (fits_call ByTeleport d.message.cargo) → named_there d.sender.part.site (chain_of d.receiver) (cargo_list d.message.cargo) ≡ Some list → is_cargo (arrives d.sender d.receiver d.message) ByTeleport list ≡ true
  unfolding told
  found list kind named =
      let v = views d.world in
      let s_in : IsIn (tables_of v) (table_of d.sender.part) = (d.from, table_at v d.from (seen empty d.sender.part) (seen_at d.world d.from d.sender d.sends)) in
      let t_in : IsIn (tables_of v) (table_of d.receiver.part) = (d.to, table_at v d.to (seen empty d.receiver.part) (seen_at d.world d.to d.receiver d.receives)) in
      matches d.sender.part.site (arrives d.sender d.receiver d.message) d.message.cargo ByTeleport list
      ((agrees_now (views w) f.genesis v reached.history).network.one_network (table_of d.receiver.part) (table_of d.sender.part) t_in s_in) refl refl kind named

  -- a teleport that is admitted has ended
  not_left : (a : Admitted) → Admits d a → IsTrue (fits_call ByTeleport d.message.cargo) → ((m : Machine) → StandsAs d.receiver.rules (sender_name d) a (arrives d.sender d.receiver d.message) m → m.part.cargo.cargo ≡ d.message.cargo) → cargos.Nothing ≡ d.message.cargo
  not_left a ok kind stays =
      let r = teleport_received a kind ok in
      let ends = cargo_ends d.receiver.rules (sender_name d) (arrives d.sender d.receiver d.message) r.list r.accepted (found r.list kind r.carried) a r.behind r.leads in
      sym ends.2 ∙ stays (machine_of ends.0) (inl (ends.0, ends.1, refl))

  by_way : (shipment : Shipment) (way : Way) → shipment.way ≡ way → d.message.cargo ≡ cargos.Away shipment → (IsTrue (fits_call ByTeleport d.message.cargo) → cargos.Nothing ≡ d.message.cargo) → lost_by way shipment.units ≡ empty
  by_way shipment Way.Withdrawal by carries gone = refl
  by_way shipment Way.Teleport by carries gone =
      let kind : IsTrue (fits_call ByTeleport d.message.cargo) = ap (fits_call ByTeleport) carries ∙ ap (λ (way : Way). arrives_by way ByTeleport) by in
      let no : cargos.Nothing ≡ cargos.Away shipment = gone kind ∙ carries in
      absurd cc

  by_cargo : (c : Cargo) → d.message.cargo ≡ c → (IsTrue (fits_call ByTeleport d.message.cargo) → cargos.Nothing ≡ d.message.cargo) → lost_of c ≡ empty
  by_cargo cargos.Nothing carries gone = refl
  by_cargo (cargos.Deposit list) carries gone = refl
  by_cargo (cargos.Away shipment) carries gone = by_way shipment shipment.way refl carries gone

  abbrev FateOf : Type 0
  FateOf = Fate d.sender.part d.receiver.part d.message.cargo (run_for d.sender d.receiver d.message).left (run_for d.sender d.receiver d.message).part
      (ComesBy laws shapes.admits (views w) f.genesis (views d.world) reached.history d.from d.to d.sender.part d.receiver.part (seen_at d.world d.from d.sender d.sends) (seen_at d.world d.to d.receiver d.receives) front.apart
      (reached.parts d.from d.sender d.sends) (reached.parts d.to d.receiver d.receives) d.receiver.rules d.message.cargo d.message.program (Event.Message (chain_of d.sender) (chain_of d.receiver) d.message.number) front.first front.name (sender_name d) front.there front.back front.runs front.trusted
      (admitted d.receiver.rules (sender_name d) no_weight (arrives d.sender d.receiver d.message).queries d.message.program))

  by_fate : (a : Admitted) → Admits d a → FateOf → lost_of (run_for d.sender d.receiver d.message).left ≡ empty
  by_fate a ok (Left is safe sound inside) =
      let gone : IsTrue (fits_call ByTeleport d.message.cargo) → cargos.Nothing ≡ d.message.cargo = λ kind. not_left a ok kind (λ m c. (inside m
      (comes_by laws shapes.admits (views w) f.genesis (views d.world) reached.history d.from d.to d.sender.part d.receiver.part (seen_at d.world d.from d.sender d.sends) (seen_at d.world d.to d.receiver d.receives) front.apart
      (reached.parts d.from d.sender d.sends) (reached.parts d.to d.receiver d.receives) d.receiver.rules d.message.cargo d.message.program (Event.Message (chain_of d.sender) (chain_of d.receiver) d.message.number) front.first front.name (sender_name d) front.there front.back front.runs front.trusted a ok m c)).0) in
      ap lost_of is ∙ by_cargo d.message.cargo refl gone
  by_fate a ok (Landed mid gone exchange safe sound inside) = ap lost_of gone

  pub none_lost : (a : Admitted) → Admits d a → lost_of (run_for d.sender d.receiver d.message).left ≡ empty
  none_lost a ok = by_fate a ok
      (fate_of laws shapes.admits (views w) f.genesis (views d.world) reached.history d.from d.to d.sender.part d.receiver.part (seen_at d.world d.from d.sender d.sends) (seen_at d.world d.to d.receiver d.receives) front.apart
      (reached.parts d.from d.sender d.sends) (reached.parts d.to d.receiver d.receives) d.receiver.rules d.message.cargo d.message.program (Event.Message (chain_of d.sender) (chain_of d.receiver) d.message.number) front.first front.name (sender_name d) front.there front.back front.runs front.trusted front.shape)
