-- That figures at positions stay the same where no position is at a chain that has changed. A reader can skip it.
use Rattle.std.specs.Prelude.{◌≡◌, ℕ, zero, suc, ◌+◌, ◌<◌, Bool, true, false, List, [], ◌∷◌, length, Option, None, Some, refl}
use Rattle.std.proofs.Common.{sym, ap, ◌∙◌, set, arith}
use Rattle.std.proofs.lemmas.Bool.{or_parts}
use Rattle.std.proofs.lemmas.List.Sums.{sum_by-cons}
use Rattle.trust_tables.specs.Accounts.{sovereign_account}
use Rattle.exec_base.specs.Part.{ChainPart}
use Rattle.supply_audit.specs.declared.figures.Carried.TheVariants.{Teleports, Deposits, Withdrawals}
use Rattle.supply_audit.specs.declared.figures.Figure.{Figure}
use Rattle.supply_audit.specs.declared.figures.Figure.TheVariants.{Placed, Burned, Account, Sent}
use Rattle.supply_audit.specs.declared.place.Place.{Place}
use Rattle.supply_audit.specs.RowPlaces.{place_share, share_in, over_places, placed_over, flight_over, burned_over}
use Rattle.supply_audit.specs.Covered.{Covered}
use Rattle.supply_audit.specs.Covers.{of_cover, held_at, coming_at, standing_at, own_touched, kept_touched}
use Rattle.supply_audit.specs.Stale.{is_stale, are_touched, Agree}

module _ (stale : List Bool) (before parts : List ChainPart) (agree : Agree stale before parts) where
  pub same_over : (f : Figure) (places : List Place) → are_touched stale places ≡ false → over_places f parts places ≡ over_places f before places
  same_over f [] none = refl
  same_over f (place ∷ places) none =
      let both = or_parts (is_stale stale place.chain) (are_touched stale places) none in
      let here : place_share f parts place ≡ place_share f before place = ap (share_in f place.row) (agree place.chain both.0) in
      let rest = same_over f places both.1 in
      sum_by-cons (place_share f parts) place places ∙ (λ i. here i + rest i) ∙ sym (sum_by-cons (place_share f before) place places)

  pub same_placed : (places : List Place) → are_touched stale places ≡ false → placed_over parts places ≡ placed_over before places
  same_placed places none = same_over Placed places none

  pub same_flight : (places : List Place) → are_touched stale places ≡ false → flight_over parts places ≡ flight_over before places
  same_flight places none = same_over (Sent Teleports None) places none

  pub same_burned : (places : List Place) → are_touched stale places ≡ false → burned_over parts places ≡ burned_over before places
  same_burned places none = same_over Burned places none

  pub same_held : (cover : Option Covered) → kept_touched stale cover ≡ false → of_cover (held_at parts) cover ≡ of_cover (held_at before) cover
  same_held None none = refl
  same_held (Some c) none = same_over (Account (sovereign_account c.there c.here)) c.kept none

  pub same_coming : (cover : Option Covered) → kept_touched stale cover ≡ false → of_cover (coming_at parts) cover ≡ of_cover (coming_at before) cover
  same_coming None none = refl
  same_coming (Some c) none = same_over (Sent Deposits (Some c.here)) c.kept none

  pub same_standing : (cover : Option Covered) → own_touched stale cover ≡ false → of_cover (standing_at parts) cover ≡ of_cover (standing_at before) cover
  same_standing None none = refl
  same_standing (Some c) none =
      let placed = same_over Placed c.own none in
      let leaving = same_over (Sent Withdrawals (Some c.there)) c.own none in
      λ i. placed i + leaving i

-- ---- a chain that counts as changed from now on

-- a chain that doesn't count has a flag
pub has_flag : (stale : List Bool) (chain : ℕ) → is_stale stale chain ≡ false → chain < length stale
has_flag [] chain fresh = absurd cc
has_flag (b ∷ stale) zero fresh = omega arith
has_flag (b ∷ stale) (suc chain) fresh = let rest = has_flag stale chain fresh in omega (arith, rest)

-- nor did it before
pub unmarked : (stale : List Bool) (number chain : ℕ) → is_stale (set stale number true) chain ≡ false → is_stale stale chain ≡ false
unmarked [] number chain fresh = fresh
unmarked (b ∷ stale) zero zero fresh = absurd cc
unmarked (b ∷ stale) zero (suc chain) fresh = fresh
unmarked (b ∷ stale) (suc number) zero fresh = fresh
unmarked (b ∷ stale) (suc number) (suc chain) fresh = unmarked stale number chain fresh

-- and it is another one
pub marked_apart : (stale : List Bool) (number : ℕ) → number < length stale → is_stale (set stale number true) number ≡ false → ⊥
marked_apart [] number inside fresh = absurd (omega (arith, inside))
marked_apart (b ∷ stale) zero inside fresh = absurd cc
marked_apart (b ∷ stale) (suc number) inside fresh = marked_apart stale number (omega (arith, inside)) fresh
