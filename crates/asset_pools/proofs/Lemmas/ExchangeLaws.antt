-- For proofs alone: a reader may skip this file. What an exchange that is made says, and what it keeps.
use Rattle.std.proofs.Common.{◌≡◌, ℕ, zero, suc, ◌+◌, ◌-◌, ◌*◌, ◌<◌, ◌≤◌, Bool, true, false, cond, ◌⊎◌, inl, inr, List, [], ◌∷◌, Option, Some, None, refl, sym, subst, arith}
use Rattle.std.specs.Prelude.{nat_lt, nat_le, ◌&&◌, if◌then◌else◌, find, option_and_then}
use Rattle.std.specs.List.{range_with_len}
use Rattle.std.proofs.Math.Nat.{mul-pos}
use Rattle.std.proofs.lemmas.Bool.{cases_lt}
use Rattle.std.proofs.lemmas.Bool.Decides.{nat_tests}
use Rattle.asset_pools.specs.declared.deal.Deal.{Deal}
use Rattle.asset_pools.specs.Pools.{out, reserve_end, best_out, pays, least_in, IsLeast, deal_of_all, deal_of_least, deal_at}
use Rattle.asset_pools.specs.Trading.{Reserves, AreUsable, product_of, swapped, Request, with_deal, traded, reserves_after, reserves_after_all}
use Rattle.asset_pools.proofs.Lemmas.Products.{pays_from, out_below, out_more, product_kept, no_gain}
use Rattle.plain_lists.proofs.Lemmas.Facts.{both_true as two, told_at_most as is_at_most, told_below as is_below}

-- the reserves of a pool that gives something for a: nothing is 0, and no reserve reaches its end
pub record IsBest (x y g a o : ℕ) : Type 0 where
  pub first : 0 < x
  pub second : 0 < y
  pub given : 0 < a
  pub second_end : y < reserve_end
  pub first_end : x + a < reserve_end
  pub is : o ≡ out x y g a

pub record IsLeastIn (x y g w a : ℕ) : Type 0 where
  pub first : 0 < x
  pub wanted : 0 < w
  pub below : w < y
  pub second_end : y < reserve_end
  pub first_end : x + a < reserve_end
  pub least : IsLeast x y g w a

-- an exchange takes no more than the holding has, gives no less than is wanted, and leaves both reserves above 0 and below their end
pub record IsDeal (x y g h w : ℕ) (d : Deal) : Type 0 where
  pub first : 0 < x
  pub has : d.to_pool ≤ h
  pub wanted : w ≤ d.to_holding
  pub some : 0 < d.to_holding
  pub fair : d.to_holding ≤ out x y g d.to_pool
  pub below : d.to_holding < y
  pub second_end : y < reserve_end
  pub first_end : x + d.to_pool < reserve_end

module _ {A : Type 0} where
  if_some : (b : Bool) (v o : A) → (if b then Some v else None) ≡ Some o → (b ≡ true) × (v ≡ o)
  if_some true v o h = (refl, cc)
  if_some false v o h = absurd (cc)

  if_some_of : (b : Bool) (e : Option A) (o : A) → (if b then e else None) ≡ Some o → (b ≡ true) × (e ≡ Some o)
  if_some_of true e o h = (refl, h)
  if_some_of false e o h = absurd (cc)

  and_then_some : {B : Type 0} (f : A → Option B) (o : Option A) (d : B) → option_and_then f o ≡ Some d → (v : A) × (o ≡ Some v) × (f v ≡ Some d)
  and_then_some f None d h = absurd (cc)
  and_then_some f (Some v) d h = (v, refl, h)

five : (a b c d e : Bool) → (a && b && c && d && e) ≡ true → (a ≡ true) × (b ≡ true) × (c ≡ true) × (d ≡ true) × (e ≡ true)
five true true true true true h = (refl, refl, refl, refl, refl)
five true true true true false h = absurd (cc)
five true true true false e h = absurd (cc)
five true true false d e h = absurd (cc)
five true false c d e h = absurd (cc)
five false b c d e h = absurd (cc)

four : (a b c d : Bool) → (a && b && c && d) ≡ true → (a ≡ true) × (b ≡ true) × (c ≡ true) × (d ≡ true)
four true true true true h = (refl, refl, refl, refl)
four true true true false h = absurd (cc)
four true true false d h = absurd (cc)
four true false c d h = absurd (cc)
four false b c d h = absurd (cc)

isnt_at_most : (m n : ℕ) → nat_le m n ≡ false → n < m
isnt_at_most m n h = grind (arith, nat_tests)

pub best_says : (x y g a o : ℕ) → best_out x y g a ≡ Some o → IsBest x y g a o
best_says x y g a o h =
    let said = if_some _ _ _ h in
    let t = five _ _ _ _ _ said.0 in
    record { first = is_below _ _ t.0; second = is_below _ _ t.1; given = is_below _ _ t.2; second_end = is_below _ _ t.3; first_end = is_below _ _ t.4; is = sym said.1 }

-- ---- the first number of a range that passes a test

pub record IsFirst (p : ℕ → Bool) (a n k : ℕ) : Type 0 where
  pub from : a ≤ k
  pub below : k < a + n
  pub passes : p k ≡ true
  pub least : (j : ℕ) → a ≤ j → j < k → p j ≡ false

cond_some : (b : Bool) (a : ℕ) (o : Option ℕ) (k : ℕ) → cond b (Some a) o ≡ Some k → ((b ≡ true) × (a ≡ k)) ⊎ ((b ≡ false) × (o ≡ Some k))
cond_some true a o k h = inl (refl, cc)
cond_some false a o k h = inr (refl, h)

pub first-find : (p : ℕ → Bool) (a n k : ℕ) → find p (range_with_len a n) ≡ Some k → IsFirst p a n k
first-find p a zero k h = absurd (cc)
first-find p a (suc n) k h =
    elim (cond_some (p a) a (find p (range_with_len (a + 1) n)) k h) [
      | inl here ↦ record { from = omega arith; below = omega arith; passes = subst (λ (j : ℕ). p j ≡ true) here.1 here.0; least = λ j from less. absurd (omega arith) }
      | inr later ↦
          let rest = first-find p (a + 1) n k later.1 in
          record { from = omega arith; below = omega arith; passes = rest.passes; least = λ j from less. earlier p a k later.0 rest.least j from less }
    ]
  where
    earlier : (p : ℕ → Bool) (a k : ℕ) → p a ≡ false → ((j : ℕ) → a + 1 ≤ j → j < k → p j ≡ false) → (j : ℕ) → a ≤ j → j < k → p j ≡ false
    earlier p a k fails later j from less = elim (cases_lt a j) [ inl above ↦ later j (omega arith) less | inr same ↦ subst (λ (i : ℕ). p i ≡ false) (omega arith) fails ]

pub least_says : (x y g w a : ℕ) → least_in x y g w ≡ Some a → IsLeastIn x y g w a
unfolding least_in
least_says x y g w a h =
    let said = if_some_of _ _ _ h in
    let t = four _ _ _ _ said.0 in
    let first = first-find (pays x y g w) 0 (reserve_end - x) a said.1 in
    record {
      first = is_below _ _ t.0;
      wanted = is_below _ _ t.1;
      below = is_below _ _ t.2;
      second_end = is_below _ _ t.3;
      first_end = omega arith;
      least = record { pays = is_at_most _ _ first.passes; least = λ b less. isnt_at_most _ _ (first.least b (omega arith) less) };
    }

deal_says_all : (x y g h w : ℕ) (d : Deal) → deal_at x y g h w true ≡ Some d → IsDeal x y g h w d
deal_says_all x y g h w d made =
    let got = and_then_some (deal_of_all h w) (best_out x y g h) d made in
    let best = best_says x y g h got.0 got.1 in
    let said = if_some _ _ _ got.2 in
    let t = two _ _ said.0 in
    let P : Deal → Type 0 = λ e. IsDeal x y g h w e in
    let below = out_below x y g h best.first best.second in
    subst P said.1 (record {
      first = best.first;
      has = omega arith;
      wanted = is_at_most _ _ t.1;
      some = is_below _ _ t.0;
      fair = omega arith;
      below = omega arith;
      second_end = best.second_end;
      first_end = best.first_end;
    })

deal_says_least : (x y g h w : ℕ) (d : Deal) → deal_at x y g h w false ≡ Some d → IsDeal x y g h w d
deal_says_least x y g h w d made =
    let got = and_then_some (deal_of_least h w) (least_in x y g w) d made in
    let least = least_says x y g w got.0 got.1 in
    let said = if_some _ _ _ got.2 in
    let P : Deal → Type 0 = λ e. IsDeal x y g h w e in
    subst P said.1 (record {
      first = least.first;
      has = is_at_most _ _ said.0;
      wanted = omega arith;
      some = least.wanted;
      fair = least.least.pays;
      below = least.below;
      second_end = least.second_end;
      first_end = least.first_end;
    })

pub deal_says : (x y g h w : ℕ) (maximal : Bool) (d : Deal) → deal_at x y g h w maximal ≡ Some d → IsDeal x y g h w d
deal_says x y g h w true d made = deal_says_all x y g h w d made
deal_says x y g h w false d made = deal_says_least x y g h w d made

-- nothing counts of what is given: there is no deal
none_made : (x y h w : ℕ) (maximal : Bool) (o : Option Deal) → deal_at x y 0 h w maximal ≡ o → o ≡ None
none_made x y h w maximal None made = refl
none_made x y h w maximal (Some d) made =
    let said = deal_says x y 0 h w maximal d made in
    let some : 0 < out x y 0 d.to_pool = omega (arith, said.some, said.fair) in
    let paid : 1 * x * 1000 ≤ d.to_pool * ((y - 1) * 0) = pays_from x (y - 1) 1 0 d.to_pool said.first (subst (λ (r : ℕ). 1 ≤ out x r 0 d.to_pool) (let below = said.below in omega arith) some) in
    absurd (omega (arith, paid, said.first))

pub no_share : (x y h w : ℕ) (maximal : Bool) → deal_at x y 0 h w maximal ≡ None
no_share x y h w maximal = none_made x y h w maximal (deal_at x y 0 h w maximal) refl

-- ---- products

pub best_keeps : (x y g a o : ℕ) → g ≤ 1000 → best_out x y g a ≡ Some o → x * y ≤ (x + a) * (y - o)
best_keeps x y g a o all h =
    let best = best_says x y g a o h in
    let below = out_below x y g a best.first best.second in
    product_kept x y g a o all best.first (omega arith) (omega arith)

pub least_keeps : (x y g w a : ℕ) → g ≤ 1000 → least_in x y g w ≡ Some a → x * y ≤ (x + a) * (y - w)
least_keeps x y g w a all h = let least = least_says x y g w a h in product_kept x y g a w all least.first (omega arith) least.least.pays

pub deal_keeps : (x y g h w : ℕ) (maximal : Bool) (d : Deal) → g ≤ 1000 → deal_at x y g h w maximal ≡ Some d → x * y ≤ (x + d.to_pool) * (y - d.to_holding)
deal_keeps x y g h w maximal d all made =
    let said = deal_says x y g h w maximal d made in
    product_kept x y g d.to_pool d.to_holding all said.first (omega arith) said.fair

with_deal_keeps : (r : Reserves) (o : Option Deal) → ((d : Deal) → o ≡ Some d → product_of r ≤ (r.first + d.to_pool) * (r.second - d.to_holding)) → product_of r ≤ product_of (with_deal r o)
with_deal_keeps r None kept = omega arith
with_deal_keeps r (Some d) kept = kept d refl

either_way : (b : Bool) (r s t : Reserves) → product_of (swapped r) ≤ product_of s → product_of r ≤ product_of t → product_of r ≤ product_of (if b then swapped s else t)
either_way true r s t back forth = omega (arith, back)
either_way false r s t back forth = forth

module _ (g : ℕ) (all : g ≤ 1000) where
  pub exchange_keeps : (q : Request) (r : Reserves) → product_of r ≤ product_of (traded g q r)
  exchange_keeps q r = with_deal_keeps r (deal_at r.first r.second g q.has q.wants q.maximal) (λ d made. deal_keeps r.first r.second g q.has q.wants q.maximal d all made)

  pub request_keeps : (q : Request) (r : Reserves) → product_of r ≤ product_of (reserves_after g q r)
  request_keeps q r = either_way q.is_turned r (traded g q (swapped r)) (traded g q r) (exchange_keeps q (swapped r)) (exchange_keeps q r)

  pub requests_keep : (qs : List Request) (r : Reserves) → product_of r ≤ product_of (reserves_after_all g qs r)
  requests_keep [] r = omega arith
  requests_keep (q ∷ qs) r = let first = request_keeps q r in let rest = requests_keep qs (reserves_after g q r) in omega (arith, first, rest)

-- ---- reserves

with_deal_within : (r : Reserves) (o : Option Deal) → ((d : Deal) → o ≡ Some d → AreUsable (with_deal r (Some d))) → AreUsable r → AreUsable (with_deal r o)
with_deal_within r None made within = within
with_deal_within r (Some d) made within = made d refl

turned_within : (r : Reserves) → AreUsable r → AreUsable (swapped r)
turned_within r within = record { first_some = within.second_some; second_some = within.first_some; first_end = within.second_end; second_end = within.first_end }

either_within : (b : Bool) (s t : Reserves) → AreUsable s → AreUsable t → AreUsable (if b then swapped s else t)
either_within true s t back forth = turned_within s back
either_within false s t back forth = forth

pub exchange_within : (g : ℕ) (q : Request) (r : Reserves) → AreUsable r → AreUsable (traded g q r)
exchange_within g q r within =
    with_deal_within r (deal_at r.first r.second g q.has q.wants q.maximal)
    (λ d made. let said = deal_says r.first r.second g q.has q.wants q.maximal d made in
    record { first_some = omega (arith, said.first); second_some = omega (arith, said.below); first_end = said.first_end; second_end = omega (arith, said.second_end) })
    within

pub request_within : (g : ℕ) (q : Request) (r : Reserves) → AreUsable r → AreUsable (reserves_after g q r)
request_within g q r within =
    either_within q.is_turned (traded g q (swapped r)) (traded g q r) (exchange_within g q (swapped r) (turned_within r within)) (exchange_within g q r within)

pub requests_within : (g : ℕ) (qs : List Request) (r : Reserves) → AreUsable r → AreUsable (reserves_after_all g qs r)
requests_within g [] r within = within
requests_within g (q ∷ qs) r within = requests_within g qs (reserves_after g q r) (request_within g q r within)

-- ---- more, and back

pub best_more : (x y g a b o p : ℕ) → best_out x y g a ≡ Some o → best_out x y g b ≡ Some p → a ≤ b → o ≤ p
best_more x y g a b o p less_gives more_gives more =
    let less = best_says x y g a o less_gives in
    let grown = out_more x y g a b less.first less.second more in
    omega (arith, less.is, (best_says x y g b p more_gives).is, grown)

pub least_more : (x y g v w a b : ℕ) → least_in x y g v ≡ Some a → least_in x y g w ≡ Some b → v ≤ w → a ≤ b
least_more x y g v w a b less_costs more_costs more =
    let less = least_says x y g v a less_costs in
    let paid : w ≤ out x y g b = (least_says x y g w b more_costs).least.pays in
    elim (cases_lt b a) [ inl short ↦ absurd (omega (arith, less.least.least b short, paid)) | inr enough ↦ enough ]

if_true : (b : Bool) (v : ℕ) → b ≡ true → (if b then Some v else None) ≡ Some v
if_true true v h = refl
if_true false v h = absurd (cc)

all_five : (x y a : ℕ) → 0 < x → 0 < y → 0 < a → y < reserve_end → x + a < reserve_end → (nat_lt 0 x && nat_lt 0 y && nat_lt 0 a && nat_lt y reserve_end && nat_lt (x + a) reserve_end) ≡ true
all_five x y a x_some y_some a_some small near = grind (arith, nat_tests)

-- what pays for something is something
given_some : (x v w g a : ℕ) → 0 < x → 0 < w → w ≤ out x (v + w) g a → 0 < a
given_some x v w g zero some wanted paid = let more : 0 < w * x = mul-pos wanted some in absurd (omega (arith, pays_from x v w g 0 some paid, more))
given_some x v w g (suc a) some wanted paid = omega arith

pub least_gives : (x y g w a : ℕ) → least_in x y g w ≡ Some a → (o : ℕ) × (best_out x y g a ≡ Some o) × (w ≤ o)
least_gives x y g w a h =
    let said = least_says x y g w a h in
    let given : 0 < a = given_some x (y - w) w g a said.first said.wanted (subst (λ (r : ℕ). w ≤ out x r g a) (omega arith) said.least.pays) in
    (out x y g a, if_true _ (out x y g a) (all_five x y a said.first (omega arith) given said.second_end said.first_end), said.least.pays)

pub round_trips : (x y g h w f v : ℕ) (m n : Bool) (d e : Deal) → g ≤ 1000 → deal_at x y g h w m ≡ Some d
    → deal_at (y - d.to_holding) (x + d.to_pool) g f v n ≡ Some e → e.to_pool ≤ d.to_holding → e.to_holding ≤ d.to_pool
round_trips x y g h w f v m n d e all there back taken =
    let first = deal_says x y g h w m d there in
    let second = deal_says (y - d.to_holding) (x + d.to_pool) g f v n e back in
    no_gain x y d.to_pool d.to_holding e.to_pool e.to_holding (omega (arith, first.below)) (omega (arith, first.below)) taken (omega (arith, second.below))
    (deal_keeps x y g h w m d all there) (deal_keeps (y - d.to_holding) (x + d.to_pool) g f v n e all back)
