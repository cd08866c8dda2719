-- Where memory was refused to a step: nothing was burned in excess. A reader may skip this file.
use Rattle.std.proofs.Common.{◌≡◌, ⊎_elim, ℕ, zero, suc, Bool, true, false, List, [], ◌∷◌, refl, ap, sym, ◌∙◌, subst, arith}
use Rattle.std.specs.Prelude.{slice_set}
use Rattle.std.specs.Ordering.{eq_by_cmp}
use Rattle.std.proofs.lemmas.Bool.{false_from_ne_true}
use Rattle.amounts.specs.Amounts.{amount}
use Rattle.amounts.proofs.Lemmas.{key_same, amount-map_keys, total_none}
use Rattle.asset_lists.specs.Units.{Unit, unit_cmp}
use Rattle.asset_lists.specs.Listed.{listed_of}
use Rattle.asset_bundles.specs.declared.book.Cause.{Cause}
use Rattle.asset_bundles.specs.Bundles.{Bundle}
use Rattle.asset_bundles.proofs.Lemmas.Bundles.{unit_keys}
use Rattle.asset_bundles.specs.Books.{Burn, burn_cmp, burned_for}
use Rattle.asset_bundles.proofs.Lemmas.{burn_keys, amount-Booked}
use Rattle.chain_ids.specs.declared.chain.ChainId.{ChainId}
use Rattle.xcm_program.specs.declared.instruction.Instruction.{Instruction}
use Rattle.exec_base.specs.Part.{ChainPart, book_of}
use Rattle.exec_rules.specs.Execution.{IsAbandoned}
use Rattle.network_steps.specs.Worlds.{Member, World, with_part}
use Rattle.network_steps.specs.Acting.{caller, lost_of, booking_lost}
use Rattle.network_steps.specs.Steps.{without_message, Link, Step, last_world}
use Rattle.law_steps.proofs.Lemmas.Insides.{all_at}
use Rattle.law_steps.specs.Worlds.{IsExecution, begins, IsDelivery, StopsAt}
use Rattle.law_nets.specs.Excess.{NoExcess, NoExcessIn, NoExcessEver}
use Rattle.law_nets.specs.Stops.{ExecStopsAt, ExecStops, DeliverStops, DrainStops}
use Rattle.law_nets.proofs.Lasts.{all_last}
use Rattle.law_nets.proofs.Stopped.{stopped_execution, stopped_delivery, stops_so, steps_with, last_of_drain}

-- ---- what is lost is burned for a cause of its own
is_lost : Cause → Bool
is_lost Cause.LostTeleport = true
is_lost _ = false

not_for : (goods : Bundle) (k : Burn) → is_lost k.1 ≡ false → amount (burned_for Cause.LostTeleport goods) k ≡ 0
unfolding burned_for is_lost
not_for goods k other =
    amount-map_keys {S = unit_cmp} burn_keys (λ (unit : Unit). (listed_of unit, Cause.LostTeleport)) goods k
    ∙ total_none unit_keys (λ (unit : Unit). eq_by_cmp burn_cmp k (listed_of unit, Cause.LostTeleport)) goods (λ u held.
    false_from_ne_true (eq_by_cmp burn_cmp k (listed_of u, Cause.LostTeleport)) (λ t.
    let same : k.1 ≡ Cause.LostTeleport = ap (λ (b : Burn). b.1) (key_same burn_keys k (listed_of u, Cause.LostTeleport) t) in
    let no_way : false ≡ true = sym other ∙ ap is_lost same in
    absurd cc))

still_none : (p : ChainPart) (goods : Bundle) (k : Burn) → is_lost k.1 ≡ false → amount p.burns k ≡ 0 → amount (booking_lost goods p).burns k ≡ 0
still_none p goods k other none =
    let booked = amount-Booked (book_of p) (burned_for Cause.LostTeleport goods) k in
    let nothing = not_for goods k other in
    omega (arith, booked, nothing, none)

lost_none : (p : ChainPart) (goods : Bundle) → NoExcess p.burns → NoExcess (booking_lost goods p).burns
unfolding is_lost
lost_none p goods none = record {
  saturated = λ asset. still_none p goods (asset, Cause.Saturated) refl (none.saturated asset);
  merged = λ asset. still_none p goods (asset, Cause.Merged) refl (none.merged asset);
}

-- ---- one chain of a world
set_none : (w : World) (k : ℕ) (m : Member) → NoExcessIn w → NoExcess m.part.burns → NoExcessIn (slice_set w k m)
set_none [] k m all one = tt
set_none (x ∷ w) zero m all one = (one, all.1)
set_none (x ∷ w) (suc k) m all one = (all.0, set_none w k m all.1 one)

-- ---- what is left
module _ (order : List Link) (first : World) (none : (steps : List Step) → NoExcessEver order first steps)
    (stopped_here : (steps : List Step) (account : List ℕ) (program : List Instruction) (x : IsExecution order first steps account program) (now : ChainPart)
    → IsAbandoned x.member.rules (caller account) x.member.rules.limit program (begins x.member) now → NoExcess now.burns)
    (stopped_there : (steps : List Step) (d : IsDelivery order first steps) (now : ChainPart) → StopsAt d.sender d.receiver d.message now → NoExcess now.burns) where
  last_none : (steps : List Step) → NoExcessIn (last_world order first steps)
  last_none steps = all_last NoExcessIn order first steps (none steps)

  pub exec_none : (steps : List Step) (chain : ChainId) (account bytes : List ℕ) (now : World) → ExecStops (last_world order first steps) chain account bytes now → NoExcessIn now
  exec_none steps chain account bytes now h = ⊎_elim
      (λ (e : now ≡ last_world order first steps). subst NoExcessIn (sym e) (last_none steps))
      (λ (s : ExecStopsAt (last_world order first steps) chain account bytes now).
      let here : NoExcess s.stopped.0.burns = stopped_here steps account s.program (stopped_execution order first steps chain account bytes now s) s.stopped.0 s.stopped.1 in
      subst NoExcessIn (sym s.rest) (set_none (last_world order first steps) s.place (with_part s.part s.member) (last_none steps) (subst (λ (p : ChainPart). NoExcess p.burns) (sym s.stopped.2) here))) h

  pub deliver_none : (steps : List Step) (from to : ChainId) (now : World) → DeliverStops (last_world order first steps) from to now → NoExcessIn now
  deliver_none steps from to now s =
      let w = last_world order first steps in
      let there : NoExcess s.stopped.0.burns = stopped_there steps (stopped_delivery order first steps from to now s) s.stopped.0 (stops_so order first steps from to now s) in
      let sent : NoExcess s.sender.part.burns = all_at (λ (m : Member). NoExcess m.part.burns) w s.sender_place s.sender (last_none steps) s.is_sender in
      let sender = with_part (booking_lost (lost_of s.left) (without_message to s.sender.part)) s.sender in
      let lost : NoExcess sender.part.burns = lost_none (without_message to s.sender.part) (lost_of s.left) sent in
      subst NoExcessIn (sym s.rest) (set_none (slice_set w s.sender_place sender) s.receiver_place (with_part s.part s.receiver) (set_none w s.sender_place sender (last_none steps) lost)
      (subst (λ (p : ChainPart). NoExcess p.burns) (sym s.stopped.2) there))

  pub drain_none : (steps : List Step) (now : World) → DrainStops order (last_world order first steps) now → NoExcessIn now
  drain_none steps now s = deliver_none (steps_with order first steps s.made) s.link.0 s.link.1 now (last_of_drain order first steps now s)
