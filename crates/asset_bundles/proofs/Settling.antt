-- The running sums after traps came or went, written back in place.
use Rattle.std.proofs.Common.{◌≡◌, ℕ, zero, suc, List, [], ◌∷◌, ◌++◌, map, length, take, refl, ap, ◌∙◌, arith}
use Rattle.std.specs.Prelude.{min}
use Rattle.asset_lists.specs.declared.units.Asset.{Asset}
use Rattle.locations.specs.declared.relative.Location.{Location}
use Rattle.asset_lists.specs.Listed.{Listed}
use Rattle.asset_bundles.specs.Bundles.{Bundle, is_asset}
use Rattle.asset_bundles.specs.Books.{most_burned, AreListed}
use Rattle.asset_bundles.specs.declared.trap.Trap.{Trap}
use Rattle.asset_bundles.specs.Traps.{Store, trapped_amount, with_trapped, pieces_of}
use Rattle.asset_bundles.specs.Sums.{SumRow, sum_at, keys_in, raised_sum_row, settled_sum_row}
use Rattle.asset_bundles.specs.Oldest.{IsTaken}
use Rattle.asset_bundles.proofs.SumRows.{sums_raised, sums_settled}
use Rattle.asset_bundles.proofs.Conserving.{one_less, trapped_kept}

front_of : {X : Type 0} (n : ℕ) (xs ys : List X) → length xs ≡ n → take n (xs ++ ys) ≡ xs
front_of zero [] ys h = refl
front_of zero (x ∷ xs) ys h = absurd (omega (arith, h))
front_of (suc n) [] ys h = absurd (omega (arith, h))
front_of (suc n) (x ∷ xs) ys h = ap (λ zs. x ∷ zs) (front_of n xs ys (omega (arith, h)))

length_changed : (f : SumRow → SumRow) (rows : List SumRow) → length (map f rows) ≡ length rows
length_changed f [] = refl
length_changed f (r ∷ rows) = ap (λ n. suc n) (length_changed f rows)

written : (f : SumRow → SumRow) (n : ℕ) (rows now rest : List SumRow) → length rows ≡ n → now ≡ map f rows → take n (now ++ rest) ≡ map f rows
written f n rows now rest len changed =
    let same : length now ≡ n = ap length changed ∙ length_changed f rows ∙ len in
    front_of n now rest same ∙ changed

pub settled_sums : (rows now rest : List SumRow) (n : ℕ) (list : List Asset) (origin : Location) (before after : List Trap) (t : Trap) → length rows ≡ n → now ≡ map (settled_sum_row t.goods after) rows
    → IsTaken list origin before t after → ((k : Listed) → sum_at k rows ≡ min (trapped_amount k.0 k.1 before) most_burned)
    → (k : Listed) → sum_at k (take n (now ++ rest)) ≡ min (trapped_amount k.0 k.1 after) most_burned
settled_sums rows now rest n list origin before after t len changed taken sums k =
    ap (sum_at k) (written (settled_sum_row t.goods after) n rows now rest len changed)
    ∙ sums_settled rows t.goods before after sums (λ j. one_less (is_asset j.0 j.1) list origin before after t taken) k

pub raised_sums : (rows now rest : List SumRow) (n : ℕ) (store : Store) (origin : Location) (goods : Bundle) (after : List Trap) → length rows ≡ n → now ≡ map (raised_sum_row goods) rows
    → AreListed (keys_in rows) goods → after ≡ (with_trapped store origin goods).traps → ((k : Listed) → sum_at k rows ≡ min (trapped_amount k.0 k.1 store.traps) most_burned)
    → (k : Listed) → sum_at k (take n (now ++ rest)) ≡ min (trapped_amount k.0 k.1 after) most_burned
raised_sums rows now rest n store origin goods after len changed listed more sums k =
    ap (sum_at k) (written (raised_sum_row goods) n rows now rest len changed)
    ∙ sums_raised rows goods store.traps after listed sums (λ j. ap (trapped_amount j.0 j.1) more ∙ trapped_kept (is_asset j.0 j.1) store origin goods) k

pub is_trapped : (store : Store) (origin : Location) (goods : Bundle) (more traps : List Trap) (next : ℕ) → traps ≡ store.traps ++ more → more ≡ pieces_of store.next origin goods
    → next ≡ (with_trapped store origin goods).next → record { traps = traps; next = next } ≡ with_trapped store origin goods
is_trapped store origin goods more traps next joined pieces number =
    let all : traps ≡ (with_trapped store origin goods).traps = joined ∙ ap (λ ts. store.traps ++ ts) pieces in
    λ i. record { traps = all i; next = number i }
