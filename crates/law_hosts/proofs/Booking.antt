-- What is booked, joined, burned and parked, and what changes no amount.
use Rattle.std.proofs.Common.{◌≡◌, ℕ, ◌+◌, Bool, List, [], ◌∷◌, Option, Some, None, refl, ap, ◌∙◌, arith}
use Rattle.std.specs.Prelude.{◌++◌, ◌-◌, min, remove, position}
use Rattle.std.specs.Option.{option_map_or}
use Rattle.std.proofs.lemmas.List.Sums.{sum_by_push}
use Rattle.amounts.specs.Amounts.{amount, total, merge, empty}
use Rattle.amounts.proofs.Lemmas.AmountLaws.{total-empty, same_amounts}
use Rattle.amounts.proofs.Lemmas.{total-merge}
use Rattle.locations.specs.declared.relative.Location.{Location}
use Rattle.asset_lists.specs.Units.{Unit, unit_cmp}
use Rattle.asset_lists.specs.Listed.{Listed}
use Rattle.asset_bundles.specs.declared.book.Cause.{Cause}
use Rattle.asset_bundles.specs.Bundles.{Bundle}
use Rattle.asset_bundles.proofs.Lemmas.Bundles.{unit_keys}
use Rattle.asset_bundles.specs.Books.{Burns, burned_for, given_up, excess_cause, is_unit_where, is_burn_where, most_burned}
use Rattle.asset_bundles.proofs.Lemmas.Changed.{amount-with_amounts}
use Rattle.asset_bundles.specs.Joins.{Joined, Excess}
use Rattle.asset_bundles.proofs.Lemmas.{burn_keys, burned_for_total, given_up_total, joined_total, booked_below}
use Rattle.exec_base.specs.declared.event.Event.{Event}
use Rattle.exec_base.specs.Part.{ChainPart, book_of}
use Rattle.exec_base.specs.Host.{booked, burned_lines, bundles_joined, burnt, parked, fee_held, fee_taken, fees_with, fee_kept, told, answered, is_query}
use Rattle.law_hosts.specs.Wholes.{on_chain, burn_total_where, whole, Conserves, BooksBelow, KeepsBelow}

-- where nothing goes in or out, the whole stays
pub keeps_whole : (p q : ChainPart) → ((test : Listed → Bool) → whole test q ≡ whole test p) → Conserves empty empty p q
keeps_whole p q same test = ap (λ (n : ℕ). n + total {R = unit_cmp} (is_unit_where test) empty) (same test)

-- ---- booking
burned_booked : (test : Listed → Bool) (p : ChainPart) (more : Burns) (lines : List Event) → BooksBelow p more → burn_total_where test (booked p more lines) ≡ burn_total_where test p + total (is_burn_where test) more
unfolding booked
burned_booked test p more lines below = ap (total (is_burn_where test)) (booked_below (book_of p) more below) ∙ total-merge burn_keys (is_burn_where test) p.burns more

on_chain_booked : (t : Unit → Bool) (p : ChainPart) (more : Burns) (lines : List Event) → on_chain t (booked p more lines) ≡ on_chain t p
unfolding booked on_chain
on_chain_booked t p more lines = refl

pub whole_booked : (test : Listed → Bool) (p : ChainPart) (more : Burns) (lines : List Event) → BooksBelow p more → whole test (booked p more lines) ≡ whole test p + total (is_burn_where test) more
whole_booked test p more lines below =
    let stays = on_chain_booked (is_unit_where test) p more lines in
    let burns = burned_booked test p more lines below in
    omega (arith, stays, burns)

pub conserves_join : (p : ChainPart) (into goods : Bundle) → BooksBelow p (given_up into goods) → Conserves (merge into goods) (Joined into goods) p (bundles_joined p into goods)
unfolding bundles_joined
conserves_join p into goods below test =
    let all = whole_booked test p (given_up into goods) (burned_lines p (λ (unit : Unit). excess_cause unit.1) (Excess into goods)) below in
    let above = given_up_total test into goods in
    let both = joined_total (is_unit_where test) into goods in
    let sum = total-merge unit_keys (is_unit_where test) into goods in
    omega (arith, all, above, both, sum)

pub conserves_burn : (p : ChainPart) (goods : Bundle) → BooksBelow p (burned_for Cause.BurnAsset goods) → Conserves goods empty p (burnt p goods)
unfolding burnt
conserves_burn p goods below test =
    let all = whole_booked test p (burned_for Cause.BurnAsset goods) (burned_lines p (λ unit. Cause.BurnAsset) goods) below in
    let same = burned_for_total test Cause.BurnAsset goods in
    let none = total-empty unit_keys (is_unit_where test) in
    omega (arith, all, same, none)

pub conserves_park : (p : ChainPart) (goods : Bundle) → Conserves goods empty p (parked p goods)
unfolding parked on_chain
conserves_park p goods test =
    let more = sum_by_push (λ (b : Bundle). total (is_unit_where test) b) p.parked goods in
    let none = total-empty unit_keys (is_unit_where test) in
    omega (arith, more, none)

-- ---- what changes no amount
told_whole : (p : ChainPart) (e : Event) (test : Listed → Bool) → whole test (told p e) ≡ whole test p
unfolding told on_chain
told_whole p e test = refl

pub conserves_told : (p : ChainPart) (e : Event) → Conserves empty empty p (told p e)
conserves_told p e = keeps_whole p (told p e) (told_whole p e)

answered_whole : (p : ChainPart) (query : ℕ) (o : Option ℕ) (test : Listed → Bool)
    → whole test (option_map_or (λ (place : ℕ). record p { queries = remove p.queries place; pending_events = p.pending_events ++ Event.Answered query ∷ [] }) o (record p { pending_events = p.pending_events ++ Event.Ignored query ∷ [] })) ≡ whole test p
unfolding on_chain
answered_whole p query None test = refl
answered_whole p query (Some place) test = refl

pub conserves_answer : (p : ChainPart) (from : Location) (query : ℕ) → Conserves empty empty p (answered p from query)
unfolding answered
conserves_answer p from query = keeps_whole p (answered p from query) (answered_whole p query (position (is_query query from) p.queries))

-- ---- the fee slot
pub conserves_held_fee : (p : ChainPart) (goods : Bundle) → p.fee_slot ≡ empty → Conserves goods empty p (fee_held p goods)
unfolding fee_held on_chain
conserves_held_fee p goods slot test =
    let slot_none = ap (total (is_unit_where test)) slot in
    let none = total-empty unit_keys (is_unit_where test) in
    omega (arith, slot_none, none)

pub conserves_taken_fee : (p : ChainPart) → Conserves empty p.fee_slot p (fee_taken p)
unfolding fee_taken on_chain
conserves_taken_fee p test =
    let none = total-empty unit_keys (is_unit_where test) in
    omega (arith, none)

-- sums that don't reach their maximum
fees_below : (p : ChainPart) → KeepsBelow p → fees_with p.fees p.fee_slot ≡ merge p.fees p.fee_slot
unfolding fees_with
fees_below p below = ap (merge p.fees) (same_amounts unit_keys _ _ (λ unit.
    let kept = amount-with_amounts unit_keys (λ (u : Unit) n. min n (most_burned - amount p.fees u)) (λ u. omega arith) p.fee_slot unit in
    let le = below unit in
    omega (arith, kept, le)))

pub conserves_kept_fee : (p : ChainPart) → KeepsBelow p → Conserves empty empty p (fee_kept p)
unfolding fee_kept on_chain
conserves_kept_fee p below test =
    let kept = ap (total (is_unit_where test)) (fees_below p below) in
    let more = total-merge unit_keys (is_unit_where test) p.fees p.fee_slot in
    let none = total-empty unit_keys (is_unit_where test) in
    omega (arith, kept, more, none)
