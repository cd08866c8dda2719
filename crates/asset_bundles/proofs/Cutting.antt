-- Bundles cut in pieces.
use Rattle.std.proofs.Common.{◌≡◌, ℕ, zero, suc, ◌+◌, ◌-◌, ◌*◌, ◌^◌, ◌<◌, ◌≤◌, List, [], ◌∷◌, ◌++◌, length, take, drop, refl, sym, ap, ◌∙◌, subst, arith}
use Rattle.std.specs.Prelude.{min}
use Rattle.std.specs.List.{AllByRecursion}
use Rattle.std.proofs.lemmas.List.{drop-drop}
use Rattle.amounts.specs.Amounts.{from_rows}
use Rattle.locations.specs.declared.relative.Location.{Location}
use Rattle.asset_lists.specs.declared.units.Asset.{Asset}
use Rattle.asset_lists.specs.Units.{Unit}
use Rattle.asset_bundles.specs.Bundles.{rows_of, bundle_of, IsHolding}
use Rattle.asset_bundles.proofs.Lemmas.BundleLaws.{rows-holding, rows_of-take, rows_of-drop, rest_holding}
use Rattle.asset_bundles.proofs.Holding.{piece_is_list}
use Rattle.asset_bundles.specs.declared.trap.Trap.{Trap}
use Rattle.asset_bundles.specs.Traps.{traps_of, pieces_of, piece_count, number_after, IsPiece}

append_one : {X : Type 0} (xs : List X) (y : X) (ys : List X) → (xs ++ y ∷ []) ++ ys ≡ xs ++ y ∷ ys
append_one [] y ys = refl
append_one (x ∷ xs) y ys = ap (λ zs. x ∷ zs) (append_one xs y ys)

further : (done left : ℕ) → done < left → left - done ≡ suc (left - (done + 1))
further done left h = omega (arith, h)

behind : (done : ℕ) (units : List (Unit × ℕ)) → drop 20 (drop (done * 20) units) ≡ drop ((done + 1) * 20) units
behind done units = drop-drop 20 (done * 20) units ∙ ap (λ n. drop n units) (omega arith)

-- the next piece is trapped after those before it
pub next_piece : (traps more whole : List Trap) (t : Trap) (count done number next : ℕ) (origin : Location) (units : List (Unit × ℕ))
    → more ≡ traps ++ t ∷ [] → t ≡ record { number = number; origin = origin; goods = from_rows (take 20 (drop (done * 20) units)) } → next ≡ number_after number → done < count
    → traps ++ traps_of (count - done) number origin (drop (done * 20) units) ≡ whole
    → more ++ traps_of (count - (done + 1)) next origin (drop ((done + 1) * 20) units) ≡ whole
next_piece traps more whole t count done number next origin units grown trap step h so_far =
    let rest : List Trap = traps_of (count - (done + 1)) (number_after number) origin (drop 20 (drop (done * 20) units)) in
    let same : traps_of (count - (done + 1)) next origin (drop ((done + 1) * 20) units) ≡ rest =
    ap (λ n. traps_of (count - (done + 1)) n origin (drop ((done + 1) * 20) units)) step ∙ ap (traps_of (count - (done + 1)) (number_after number) origin) (sym (behind done units)) in
    ap (λ ts. ts ++ traps_of (count - (done + 1)) next origin (drop ((done + 1) * 20) units)) grown
    ∙ ap (λ ts. (traps ++ t ∷ []) ++ ts) same
    ∙ append_one traps t rest
    ∙ ap (λ x. traps ++ x ∷ rest) trap
    ∙ ap (λ n. traps ++ traps_of n number origin (drop (done * 20) units)) (sym (further done count h))
    ∙ so_far

pub next_number : (number count done next goal : ℕ) → next ≡ number_after number → done < count
    → min (number + (count - done)) (2 ^ 64 - 1) ≡ goal → min (next + (count - (done + 1))) (2 ^ 64 - 1) ≡ goal
next_number number count done next goal step h so_far = grind (arith, step, h, so_far)

pub no_further : (number next : ℕ) → next ≡ number_after number → next ≤ 2 ^ 64 - 1
no_further number next step = grind (arith, step)

-- ---- what a piece is
piece_goods : (xs : List Asset) → from_rows (take 20 (rows_of xs)) ≡ bundle_of (take 20 xs)
unfolding bundle_of
piece_goods xs = ap from_rows (sym (rows_of-take 20 xs))

are_pieces : (count number : ℕ) (origin : Location) (xs : List Asset) → IsHolding xs → AllByRecursion (IsPiece origin) (traps_of count number origin (rows_of xs))
are_pieces zero number origin xs h = tt
are_pieces (suc count) number origin xs h = (
  (refl, (take 20 xs, piece_is_list xs h, piece_goods xs)),
  subst (λ rs. AllByRecursion (IsPiece origin) (traps_of count (number_after number) origin rs)) (rows_of-drop 20 xs) (are_pieces count (number_after number) origin (drop 20 xs) (rest_holding 20 xs h)),
)

pub all_are_pieces : (number : ℕ) (origin : Location) (xs : List Asset) → IsHolding xs → AllByRecursion (IsPiece origin) (pieces_of number origin (bundle_of xs))
all_are_pieces number origin xs h =
    subst (λ rs. AllByRecursion (IsPiece origin) (traps_of (piece_count (length rs)) number origin rs)) (sym (rows-holding xs h)) (are_pieces (piece_count (length (rows_of xs))) number origin xs h)
