-- What goes into traps and out of them.
use Rattle.std.proofs.Common.{◌≡◌, ℕ, zero, suc, ◌+◌, ◌<◌, Bool, List, [], ◌∷◌, length, Option, Some, None, get_or, refl, ap, arith}
use Rattle.std.specs.Prelude.{remove, position}
use Rattle.std.specs.Option.{option_map_or}
use Rattle.std.specs.List.{sum_by}
use Rattle.std.proofs.lemmas.List.Quantifiers.{position-Some}
use Rattle.std.proofs.lemmas.List.Sums.{sum_by-cons}
use Rattle.amounts.specs.Amounts.{total, empty}
use Rattle.amounts.proofs.Lemmas.AmountLaws.{total-empty}
use Rattle.locations.specs.declared.relative.Location.{Location}
use Rattle.asset_lists.specs.declared.units.Asset.{Asset}
use Rattle.asset_lists.specs.Units.{Unit}
use Rattle.asset_bundles.specs.Bundles.{Bundle, bundle_of}
use Rattle.asset_bundles.proofs.Lemmas.Bundles.{unit_keys}
use Rattle.asset_bundles.specs.Books.{is_unit_where, is_burn_where}
use Rattle.asset_bundles.specs.declared.trap.Trap.{Trap}
use Rattle.asset_bundles.specs.Traps.{Store, with_trapped, trapped_where}
use Rattle.exec_base.specs.Part.{ChainPart}
use Rattle.exec_base.specs.Host.{is_trap, claim_refusal, claimed, trapped}
use Rattle.exec_rules.proofs.Lemmas.AnswerLaws.{goods_of_trap, found_somewhere}
use Rattle.law_hosts.specs.Wholes.{on_chain, Conserves}

-- the law of the trap store
abbrev pub Traps : Type 0
Traps = (p : Unit → Bool) (store : Store) (origin : Location) (goods : Bundle) → trapped_where p (with_trapped store origin goods).traps ≡ trapped_where p store.traps + total p goods

pub conserves_trap : Traps → (p : ChainPart) (goods : Bundle) (origin : Location) → Conserves goods empty p (trapped p goods origin)
unfolding trapped on_chain
conserves_trap law p goods origin test =
    let more = law (is_unit_where test) p.traps origin goods in
    let none = total-empty unit_keys (is_unit_where test) in
    omega (arith, more, none)

-- ---- a claim
removed : (f : Trap → ℕ) (xs : List Trap) (i : ℕ) (d : Trap) → i < length xs → sum_by f (remove xs i) + f (get_or xs i d) ≡ sum_by f xs
removed f [] i d h = absurd (omega (arith, h))
removed f (x ∷ xs) zero d h = let one = sum_by-cons f x xs in omega (arith, one)
removed f (x ∷ xs) (suc i) d h =
    let rest = removed f xs i d (omega (arith, h)) in
    let whole_sum = sum_by-cons f x xs in
    let left = sum_by-cons f x (remove xs i) in
    omega (arith, rest, whole_sum, left)

-- what is claimed isn't among the traps any more
claimed_total : (p : ChainPart) (list : List Asset) (origin : Location) (t : Unit → Bool) (o : Option ℕ) → position (is_trap list origin) p.traps.traps ≡ o → (o ≡ None → ⊥)
    → trapped_where t (option_map_or (λ (place : ℕ). record p { traps = record p.traps { traps = remove p.traps.traps place } }) o p).traps.traps + total t (bundle_of list) ≡ trapped_where t p.traps.traps
claimed_total p list origin t None at some = absurd (some refl)
claimed_total p list origin t (Some place) at some = claimed_at p.traps.traps at
  where
    claimed_at : (xs : List Trap) → position (is_trap list origin) xs ≡ Some place → trapped_where t (remove xs place) + total t (bundle_of list) ≡ trapped_where t xs
    claimed_at [] at = absurd cc
    claimed_at (x ∷ xs) at =
        let first = position-Some (is_trap list origin) (x ∷ xs) place x at in
        let goods = goods_of_trap list origin (get_or (x ∷ xs) place x) first.1 in
        let sum = removed (λ (trap : Trap). total t trap.goods) (x ∷ xs) place x first.0 in
        let same = ap (total t) goods in
        omega (arith, sum, same)

claimed_kept : (p : ChainPart) (o : Option ℕ) (t : Unit → Bool)
    → on_chain t (option_map_or (λ (place : ℕ). record p { traps = record p.traps { traps = remove p.traps.traps place } }) o p) + trapped_where t p.traps.traps
    ≡ on_chain t p + trapped_where t (option_map_or (λ (place : ℕ). record p { traps = record p.traps { traps = remove p.traps.traps place } }) o p).traps.traps
unfolding on_chain
claimed_kept p None t = omega arith
claimed_kept p (Some place) t = omega arith

claimed_burns : (p : ChainPart) (o : Option ℕ) → (option_map_or (λ (place : ℕ). record p { traps = record p.traps { traps = remove p.traps.traps place } }) o p).burns ≡ p.burns
claimed_burns p None = refl
claimed_burns p (Some place) = refl

pub conserves_claim : (p : ChainPart) (list : List Asset) (origin : Location) → claim_refusal p list origin ≡ None → Conserves empty (bundle_of list) p (claimed p list origin)
unfolding claimed
conserves_claim p list origin ok test =
    let t = is_unit_where test in
    let o = position (is_trap list origin) p.traps.traps in
    let places = claimed_kept p o t in
    let traps = claimed_total p list origin t o refl (found_somewhere p list origin ok) in
    let burns = ap (total (is_burn_where test)) (claimed_burns p o) in
    let none = total-empty unit_keys t in
    omega (arith, places, traps, burns, none)
