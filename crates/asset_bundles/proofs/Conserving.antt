-- What is trapped is all there, and a claim takes out just what it names.
use Rattle.std.proofs.Common.{◌≡◌, ℕ, zero, suc, ◌+◌, ◌*◌, ◌≤◌, Bool, List, [], ◌∷◌, ◌++◌, length, length-drop, take, drop, refl, sym, ap, ◌∙◌, arith}
use Rattle.std.proofs.lemmas.List.{take-append-drop}
use Rattle.std.proofs.lemmas.List.Sums.{sum_by-cons, sum_by-append}
use Rattle.amounts.specs.Rows.{sum_where}
use Rattle.amounts.specs.Amounts.{total, rows, from_rows}
use Rattle.amounts.proofs.Lemmas.AmountLaws.{total-rows}
use Rattle.amounts.proofs.Lemmas.{total-from_rows}
use Rattle.locations.specs.declared.relative.Location.{Location}
use Rattle.asset_lists.specs.declared.units.Asset.{Asset}
use Rattle.asset_lists.specs.Units.{Unit}
use Rattle.asset_bundles.specs.Bundles.{Bundle, bundle_of}
use Rattle.asset_bundles.proofs.Lemmas.Bundles.{unit_keys}
use Rattle.asset_bundles.specs.declared.trap.Trap.{Trap}
use Rattle.asset_bundles.specs.Traps.{Store, traps_of, pieces_of, number_after, piece_count, with_trapped, IsClaimed, trapped_where, AreNumbered}
use Rattle.asset_bundles.specs.Oldest.{IsTaken}
use Rattle.asset_bundles.proofs.Claiming.{is_claimed}

joined : (p : Unit → Bool) (xs ys : List (Unit × ℕ)) → sum_where p (xs ++ ys) ≡ sum_where p xs + sum_where p ys
joined p [] ys = omega arith
joined p (r ∷ xs) ys = let rest = joined p xs ys in omega (arith, rest)

cut : (p : Unit → Bool) (n : ℕ) (xs : List (Unit × ℕ)) → sum_where p (take n xs) + sum_where p (drop n xs) ≡ sum_where p xs
cut p n xs = sym (joined p (take n xs) (drop n xs)) ∙ ap (sum_where p) (take-append-drop n xs)

enough : (n : ℕ) → n ≤ 20 * piece_count n
enough n = grind arith

all_pieces : (p : Unit → Bool) (count number : ℕ) (origin : Location) (xs : List (Unit × ℕ)) → length xs ≤ 20 * count → trapped_where p (traps_of count number origin xs) ≡ sum_where p xs
all_pieces p zero number origin [] h = refl
all_pieces p zero number origin (r ∷ xs) h = absurd (omega (arith, h))
all_pieces p (suc count) number origin xs h =
    let shorter = length-drop 20 xs in
    let rest = all_pieces p count (number_after number) origin (drop 20 xs) (omega (arith, h, shorter)) in
    let first = total-from_rows unit_keys p (take 20 xs) in
    let sums = sum_by-cons (λ (t : Trap). total p t.goods) (record { number = number; origin = origin; goods = from_rows (take 20 xs) }) (traps_of count (number_after number) origin (drop 20 xs)) in
    let parts = cut p 20 xs in
    omega (arith, rest, first, sums, parts)

pub pieces_total : (p : Unit → Bool) (number : ℕ) (origin : Location) (goods : Bundle) → trapped_where p (pieces_of number origin goods) ≡ total p goods
pieces_total p number origin goods = all_pieces p (piece_count (length (rows goods))) number origin (rows goods) (enough (length (rows goods))) ∙ total-rows p goods

pub trapped_kept : (p : Unit → Bool) (store : Store) (origin : Location) (goods : Bundle) → trapped_where p (with_trapped store origin goods).traps ≡ trapped_where p store.traps + total p goods
trapped_kept p store origin goods =
    let sums = sum_by-append (λ (t : Trap). total p t.goods) store.traps (pieces_of store.next origin goods) in
    let pieces = pieces_total p store.next origin goods in
    omega (arith, sums, pieces)

pub claimed_given : (p : Unit → Bool) (list : List Asset) (origin : Location) (old new : Store) → IsClaimed list origin old new
    → trapped_where p new.traps + total p (bundle_of list) ≡ trapped_where p old.traps
claimed_given p list origin old new claim =
    let f : Trap → ℕ = λ t. total p t.goods in
    let whole = sum_by-append f claim.front (claim.trap ∷ claim.back) in
    let one = sum_by-cons f claim.trap claim.back in
    let left = sum_by-append f claim.front claim.back in
    let before = ap (trapped_where p) claim.before in
    let after = ap (trapped_where p) claim.after in
    let goods = ap (total p) claim.fits.1 in
    omega (arith, whole, one, left, before, after, goods)

-- one trap taken out
pub one_less : (p : Unit → Bool) (list : List Asset) (origin : Location) (before after : List Trap) (t : Trap) → IsTaken list origin before t after
    → trapped_where p before ≡ trapped_where p after + total p t.goods
one_less p list origin before after t taken =
    let claim = claimed_given p list origin (record { traps = before; next = 0 }) (record { traps = after; next = 0 }) (is_claimed list origin (record { traps = before; next = 0 }) (record { traps = after; next = 0 }) t taken refl) in
    let goods : total p t.goods ≡ total p (bundle_of list) = ap (total p) taken.fits.1 in
    omega (arith, claim, goods)

numbered : (count number : ℕ) (origin : Location) (xs : List (Unit × ℕ)) → AreNumbered number (traps_of count number origin xs)
numbered zero number origin xs = tt
numbered (suc count) number origin xs = (refl, numbered count (number_after number) origin (drop 20 xs))

pub pieces_numbered : (number : ℕ) (origin : Location) (goods : Bundle) → AreNumbered number (pieces_of number origin goods)
pieces_numbered number origin goods = numbered (piece_count (length (rows goods))) number origin (rows goods)
