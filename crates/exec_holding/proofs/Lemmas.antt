-- Lemmas that proofs cite, in this crate and above it: one asset that is held or isn't; goods that may be joined; a fee that goes back leaves
-- all as it was; the instruction inside a fee. A reader of the contracts may skip this file.
use Rattle.std.proofs.Common.{◌≡◌, ℕ, ◌+◌, ◌<◌, ◌≤◌, Bool, true, false, List, [], ◌∷◌, length, Option, Some, None, Result, Ok, Err, refl, sym, ap, ◌∙◌, subst, inl, inr, arith}
use Rattle.std.specs.Prelude.{◌⊎◌, nat_le, is_some, if◌then◌else◌, ⊤}
use Rattle.std.specs.Ordering.{eq_by_cmp}
use Rattle.std.specs.declared.alloc.AllocError.{AllocError}
use Rattle.std.proofs.lemmas.Bool.Decides.{nat_tests}
use Rattle.amounts.specs.Rows.{amount_if}
use Rattle.amounts.specs.Amounts.{amount, merge, difference, empty, IsWithin}
use Rattle.amounts.proofs.Lemmas.{key_same, same_key, merge-difference, amount-map_keys}
use Rattle.locations.specs.declared.relative.Location.{Location}
use Rattle.operands.specs.declared.error.XcmError.{XcmError}
use Rattle.operands.specs.declared.error.XcmError.TheVariants as error
use Rattle.asset_lists.specs.declared.units.Asset.{Asset}
use Rattle.asset_lists.specs.declared.units.AssetId.{AssetId}
use Rattle.asset_lists.specs.declared.units.Fun.{Fun}
use Rattle.asset_lists.specs.declared.units.Instance.{Instance}
use Rattle.asset_lists.specs.Units.{Unit, unit_cmp, unit_of, amount_of, is_zero}
use Rattle.asset_lists.specs.Listed.{Listed}
use Rattle.asset_bundles.specs.Bundles.{Bundle, bundle_of}
use Rattle.asset_bundles.proofs.Lemmas.Bundles.{unit_keys}
use Rattle.asset_bundles.proofs.Lemmas.BundleLaws.{amount-bundle_of, total-bundle_of}
use Rattle.asset_bundles.specs.Books.{AreListed}
use Rattle.asset_bundles.specs.Joins.{most_of, Joined, Excess, IsWithinMost}
use Rattle.asset_bundles.proofs.Lemmas.{amount-Joined, amount-Excess, listed_excess}
use Rattle.trust_tables.specs.Trust.{listing, row_of}
use Rattle.trust_tables.specs.Accounts.{account_of}
use Rattle.ledgers.specs.Ledgers.{Holder, holder_cmp, held_by}
use Rattle.ledgers.proofs.Lemmas.{holder_keys}
use Rattle.exec_base.specs.declared.faults.HostFault.{HostFault}
use Rattle.exec_base.specs.declared.faults.HostFault.TheVariants.{Xcm, Memory}
use Rattle.exec_base.specs.Answers.{TakesGoodsOrRefuses}
use Rattle.exec_base.specs.Part.{ChainPart}
use Rattle.exec_base.specs.Sending.{unless, or_else}
use Rattle.exec_base.specs.Host.{first_fault, floor_of, debit_fault, at_account, withdraw_refusal, deposit_refusal, deposited, fee_to, is_price, IsPrice, IsFeeOf, IsFeeOrNothing, fee_held, fee_taken, fee_drawn, bundles_joined, booked}
use Rattle.exec_rules.specs.Machine.{Machine, machine}
use Rattle.exec_rules.specs.Holdings.{with_origin, at_origin, with_holding, holds_asset, payment_of, holding_paid, holding_more}
use Rattle.exec_rules.proofs.Lemmas.HoldingLaws.{payment_within}
use Rattle.exec_rules.proofs.Lemmas.AnswerLaws.{unless_held, unless_next, none_first}
use Rattle.exec_rules.specs.Fees.{fee_refusal, after_fee, keeping_fee, refused_around, done_around}
use Rattle.exec_rules.specs.Stopping.{fee_parked, StopsAround}
use Rattle.exec_rules.specs.Readiness.{IsSteady}
use Rattle.exec_holding.specs.Holding.{RanTo, IsJoinable, IsReturnable, IsPaymentTaken}
use Rattle.exec_holding.specs.Charging.{paying_account, payer, FitsBack, SlotFitsBack, IsRefundable, slot_returned, fee_returned, Begins, CanEnd, Ends}
use Rattle.plain_lists.proofs.Lemmas.Facts.{at_most_told as le_true, told_at_most as le_of}

-- ---- one asset that is held, or isn't
amount_one : (a : Asset) (u : Unit) → amount (payment_of a) u ≡ amount_if (eq_by_cmp unit_cmp u (unit_of a)) (amount_of a)
amount_one a u = let all = amount-bundle_of (a ∷ []) u in omega (arith, all)

within_says : (a : Asset) (b : Bundle) → IsWithin (payment_of a) b → amount_of a ≤ amount b (unit_of a)
within_says a b within =
    let one = amount_one a (unit_of a) in
    let same : amount_if (eq_by_cmp unit_cmp (unit_of a) (unit_of a)) (amount_of a) ≡ amount_of a = ap (λ (t : Bool). amount_if t (amount_of a)) (same_key unit_keys (unit_of a)) in
    let le = within (unit_of a) in
    omega (arith, one, same, le)

if_within : (b : Bool) (n m : ℕ) → (b ≡ true → n ≤ m) → amount_if b n ≤ m
if_within true n m h = h refl
if_within false n m h = omega arith

says_within : (a : Asset) (b : Bundle) → amount_of a ≤ amount b (unit_of a) → IsWithin (payment_of a) b
says_within a b le u =
    subst (λ (n : ℕ). n ≤ amount b u) (sym (amount_one a u))
    (if_within (eq_by_cmp unit_cmp u (unit_of a)) (amount_of a) (amount b u) (λ t. subst (λ (v : Unit). amount_of a ≤ amount b v) (sym (key_same unit_keys u (unit_of a) t)) le))

pub one_is_held : (a : Asset) (b : Bundle) → IsWithin (bundle_of (a ∷ [])) b → nat_le (amount_of a) (amount b (unit_of a)) ≡ true
one_is_held a b within = le_true _ _ (within_says a b within)

not_held : (a : Asset) (b : Bundle) (t : Bool) → nat_le (amount_of a) (amount b (unit_of a)) ≡ t → (IsWithin (payment_of a) b → ⊥) → t ≡ false
not_held a b true is none = absurd (none (says_within a b (le_of _ _ is)))
not_held a b false is none = refl

pub one_not_held : (a : Asset) (b : Bundle) → (IsWithin (bundle_of (a ∷ [])) b → ⊥) → nat_le (amount_of a) (amount b (unit_of a)) ≡ false
one_not_held a b none = not_held a b (nat_le (amount_of a) (amount b (unit_of a))) refl none

pub taken_one : (a : Asset) (list : List Asset) (old goods new : Bundle) → list ≡ a ∷ [] → IsWithin (bundle_of list) old → goods ≡ bundle_of list → new ≡ difference old (bundle_of list) → merge new goods ≡ old
    → IsWithinMost (merge new goods) → IsPaymentTaken a old goods new
taken_one a list old goods new is within taken left whole fits = record {
  held = one_is_held a old (subst (λ (xs : List Asset). IsWithin (bundle_of xs) old) is within);
  goods = taken ∙ ap bundle_of is;
  left = left ∙ ap (λ (xs : List Asset). difference old (bundle_of xs)) is;
  whole = whole;
  fits = fits;
}

-- ---- goods that may be joined
none_parked : (p : ChainPart) → p.parked ≡ [] → length p.parked < 4
none_parked p none = let few = ap (λ (xs : List Bundle). length xs) none in omega (arith, few)

-- listed goods beside what is listed
pub joinable : (p : ChainPart) (holding goods : Bundle) → AreListed (listing p.rows) holding → AreListed (listing p.rows) goods → p.parked ≡ [] → IsJoinable holding p goods
joinable p holding goods held more none = record { listed = listed_excess (listing p.rows) holding goods held more; few = none_parked p none }

-- where the join leaves a listed holding, what it gives up is listed
most_some : (o : Option Instance) → 0 < most_of o
most_some None = omega arith
most_some (Some instance) = omega arith

excess_by_joined : (listed : List Listed) (m n : Bundle) → AreListed listed (Joined m n) → AreListed listed (Excess m n)
excess_by_joined listed m n all u some =
    let kept = amount-Joined m n u in
    let above = amount-Excess m n u in
    let most = most_some u.1 in
    all u (omega (arith, kept, above, most, some))

-- what is left where goods were joined was a chain to which they could be joined
pub joinable_before : (m : Machine) (p : ChainPart) (goods : Bundle) → IsSteady (holding_more m p goods) → IsJoinable m.regs.holding p goods
unfolding bundles_joined booked
joinable_before m p goods steady = record {
  listed = excess_by_joined (listing p.rows) m.regs.holding goods steady.holding;
  few = none_parked p steady.rest.order.unparked;
}

pub joinable_at : (holding : Bundle) (p q : ChainPart) (goods more : Bundle) → IsJoinable holding q more → goods ≡ more → p ≡ q → IsJoinable holding p goods
joinable_at holding p q goods more can same is = subst (λ (x : ChainPart). IsJoinable holding x goods) (sym is) (subst (λ (b : Bundle). IsJoinable holding q b) (sym same) can)

-- goods that were taken, and are handed back by a call that is refused
pub returnable : (holding goods back : Bundle) (p q : ChainPart) → IsWithinMost (merge holding goods) → back ≡ goods → q ≡ p → p.parked ≡ [] → IsReturnable holding q back
returnable holding goods back p q fits same is none = record {
  fits = subst (λ (b : Bundle). IsWithinMost (merge holding b)) (sym same) fits;
  few = subst (λ (x : ChainPart). length x.parked < 4) (sym is) (none_parked p none);
}

-- ---- a fee
price_is_some : (f : Fun) (id : AssetId) → is_price f ≡ true → is_zero (record { id = id; fun = f }) ≡ false
price_is_some (Fun.Fungible n) id h = grind (arith, nat_tests, h)
price_is_some (Fun.NonFungible instance) id h = absurd cc

pub price_some : (fee : Asset) → IsPrice fee → is_zero fee ≡ false
price_some fee h = price_is_some fee.fun fee.id h

-- it is one of the chain's, also where it was drawn from an account
pub fee_is_known : (p : ChainPart) (dest : Location) (fee : Asset) → fee_to p dest ≡ Some fee → IsFeeOf p (payment_of fee)
fee_is_known p dest fee is = (dest, fee, is, refl)

drawn_fee : (p : ChainPart) (list : List Asset) (who : Location) (goods : Bundle) → IsFeeOf p goods → IsFeeOrNothing (fee_drawn p list who) goods
unfolding fee_drawn
drawn_fee p list who goods (dest, fee, is, same) = inr (dest, fee, is, same)

pub drawn_known : (p q : ChainPart) (fee : Asset) (who : Location) (goods : Bundle) → q ≡ fee_drawn p (fee ∷ []) who → goods ≡ payment_of fee → IsFeeOf p (payment_of fee) → IsFeeOrNothing q goods
drawn_known p q fee who goods is same known =
    subst (λ (x : ChainPart). IsFeeOrNothing x goods) (sym is) (subst (λ (b : Bundle). IsFeeOrNothing (fee_drawn p (fee ∷ []) who) b) (sym same) (drawn_fee p (fee ∷ []) who (payment_of fee) known))

slot_drawn : (p : ChainPart) (list : List Asset) (who : Location) → (fee_drawn p list who).fee_slot ≡ p.fee_slot
unfolding fee_drawn
slot_drawn p list who = refl

pub drawn_slot : (p q : ChainPart) (fee : Asset) (who : Location) → q ≡ fee_drawn p (fee ∷ []) who → p.fee_slot ≡ empty → q.fee_slot ≡ empty
drawn_slot p q fee who is slot = ap (λ (x : ChainPart). x.fee_slot) is ∙ slot_drawn p (fee ∷ []) who ∙ slot

pub held_known : (p : ChainPart) (fee : Asset) (goods : Bundle) → goods ≡ payment_of fee → IsFeeOf p (payment_of fee) → IsFeeOrNothing p goods
held_known p fee goods same known = subst (λ (b : Bundle). IsFeeOrNothing p b) (sym same) (inr known)

-- ---- a fee that goes back leaves all as it was
amount_drawn : (who : List ℕ) (a : Asset) (q : Holder) → amount (held_by who (payment_of a)) q ≡ amount_if (eq_by_cmp holder_cmp q (who, unit_of a)) (amount_of a)
unfolding held_by
amount_drawn who a q =
    let moved = amount-map_keys {S = unit_cmp} holder_keys (λ (unit : Unit). (who, unit)) (payment_of a) q in
    let one = total-bundle_of (λ (unit : Unit). eq_by_cmp holder_cmp q (who, unit)) (a ∷ []) in
    omega (arith, moved, one)

drawn_within : (p : ChainPart) (who : List ℕ) (a : Asset) → nat_le (amount_of a) (amount p.held (who, unit_of a)) ≡ true → IsWithin (held_by who (payment_of a)) p.held
drawn_within p who a enough q =
    subst (λ (n : ℕ). n ≤ amount p.held q) (sym (amount_drawn who a q))
    (if_within (eq_by_cmp holder_cmp q (who, unit_of a)) (amount_of a) (amount p.held q)
    (λ t. subst (λ (h : Holder). amount_of a ≤ amount p.held h) (sym (key_same holder_keys q (who, unit_of a) t)) (le_of _ _ enough)))

drawn_back : (p : ChainPart) (o : Option (List ℕ)) (fee : Asset) → first_fault (debit_fault p o) (fee ∷ []) ≡ None
    → at_account o (λ who. merge (at_account o (λ w. difference p.held (held_by w (payment_of fee))) p.held) (held_by who (payment_of fee))) (at_account o (λ w. difference p.held (held_by w (payment_of fee))) p.held) ≡ p.held
drawn_back p None fee ok = refl
drawn_back p (Some who) fee ok =
    merge-difference holder_keys p.held (held_by who (payment_of fee))
    (drawn_within p who fee (enough _ (floor_of p who (unit_of fee)) _ (unless_held _ _ _ (unless_next (is_some (row_of p.rows fee)) _ _ (none_first _ _ ok)))))
  where
    enough : (n f m : ℕ) → nat_le (n + f) m ≡ true → nat_le n m ≡ true
    enough n f m h = grind (arith, nat_tests, h)

to_account : (m : Machine) (fee : Asset) (who : Location) → m.part.fee_slot ≡ empty → withdraw_refusal m.part (fee ∷ []) who ≡ None
    → slot_returned (Some who) (machine m.regs (fee_held (fee_drawn m.part (fee ∷ []) who) (payment_of fee))) ≡ m
unfolding fee_held fee_taken fee_drawn deposited withdraw_refusal
to_account m fee who slot ok = λ i. record {
  regs = m.regs;
  part = record m.part { fee_slot = sym slot i; held = drawn_back m.part (account_of who m.part.site) fee ok i };
}

to_holding : (m : Machine) (fee : Asset) → m.part.fee_slot ≡ empty → holds_asset m fee ≡ true
    → slot_returned None (machine (holding_paid m fee).regs (fee_held m.part (payment_of fee))) ≡ m
unfolding fee_held fee_taken
to_holding m fee slot held = λ i. record {
  regs = with_holding m.regs (merge-difference unit_keys m.regs.holding (payment_of fee) (payment_within m fee held) i);
  part = record m.part { fee_slot = sym slot i };
}

-- the same by the mode and the origin
refusal_by : Bool → Option Location → Machine → Asset → Option XcmError
refusal_by true o m fee = with_origin o (λ who. withdraw_refusal m.part (fee ∷ []) who)
refusal_by false o m fee = unless (holds_asset m fee) error.NotHoldingFees None

after_by : Bool → Option Location → Machine → Asset → Machine
after_by true o m fee = at_origin o (λ who. machine m.regs (fee_held (fee_drawn m.part (fee ∷ []) who) (payment_of fee))) m
after_by false o m fee = machine (holding_paid m fee).regs (fee_held m.part (payment_of fee))

refusal_is : (mode : Bool) (o : Option Location) (m : Machine) (fee : Asset)
    → refusal_by mode o m fee ≡ (if mode then with_origin o (λ who. withdraw_refusal m.part (fee ∷ []) who) else unless (holds_asset m fee) error.NotHoldingFees None)
unfolding refusal_by
refusal_is true o m fee = refl
refusal_is false o m fee = refl

after_is : (mode : Bool) (o : Option Location) (m : Machine) (fee : Asset)
    → (if mode then at_origin o (λ who. machine m.regs (fee_held (fee_drawn m.part (fee ∷ []) who) (payment_of fee))) m else machine (holding_paid m fee).regs (fee_held m.part (payment_of fee))) ≡ after_by mode o m fee
unfolding after_by
after_is true o m fee = refl
after_is false o m fee = refl

back_by : (mode : Bool) (o : Option Location) (m : Machine) (fee : Asset) → m.part.fee_slot ≡ empty → refusal_by mode o m fee ≡ None → slot_returned (paying_account mode o) (after_by mode o m fee) ≡ m
unfolding refusal_by after_by
back_by true None m fee slot ok = absurd cc
back_by true (Some who) m fee slot ok = to_account m fee who slot ok
back_by false o m fee slot ok = to_holding m fee slot (unless_held _ _ _ ok)

same_payer_by : (mode : Bool) (o : Option Location) (m : Machine) (fee : Asset) → payer (after_by mode o m fee) ≡ payer m
unfolding after_by
same_payer_by true None m fee = refl
same_payer_by true (Some who) m fee = refl
same_payer_by false o m fee = refl

same_payer : (m : Machine) (fee : Asset) → payer (after_fee m fee) ≡ payer m
same_payer m fee = ap payer (after_is m.regs.fees_mode m.regs.origin m fee) ∙ same_payer_by m.regs.fees_mode m.regs.origin m fee

pub fee_goes_back : (m k : Machine) (fee : Asset) → m.part.fee_slot ≡ empty → fee_refusal m fee ≡ None → k ≡ after_fee m fee → fee_returned k ≡ m
fee_goes_back m k fee slot ok same =
    ap fee_returned same
    ∙ ap (λ (o : Option Location). slot_returned o (after_fee m fee)) (same_payer m fee)
    ∙ ap (slot_returned (payer m)) (after_is m.regs.fees_mode m.regs.origin m fee)
    ∙ back_by m.regs.fees_mode m.regs.origin m fee slot (refusal_is m.regs.fees_mode m.regs.origin m fee ∙ ok)

account_fits : (m : Machine) (fee : Asset) (who : Location) → deposit_refusal (fee_drawn m.part (fee ∷ []) who) (payment_of fee) who ≡ None
    → SlotFitsBack (Some who) (machine m.regs (fee_held (fee_drawn m.part (fee ∷ []) who) (payment_of fee)))
unfolding deposit_refusal fee_held fee_taken fee_drawn
account_fits m fee who fits = fits

holding_fits : (m : Machine) (fee : Asset) → holds_asset m fee ≡ true → IsWithinMost m.regs.holding → SlotFitsBack None (machine (holding_paid m fee).regs (fee_held m.part (payment_of fee)))
unfolding fee_held
holding_fits m fee held fits = subst IsWithinMost (sym (merge-difference unit_keys m.regs.holding (payment_of fee) (payment_within m fee held))) fits

fits_by : (mode : Bool) (o : Option Location) (m : Machine) (fee : Asset) → refusal_by mode o m fee ≡ None → FitsBack (paying_account mode o) m fee → SlotFitsBack (paying_account mode o) (after_by mode o m fee)
unfolding refusal_by after_by
fits_by true None m fee ok fits = absurd cc
fits_by true (Some who) m fee ok fits = account_fits m fee who fits
fits_by false o m fee ok fits = holding_fits m fee (unless_held _ _ _ ok) fits

parked_by : (mode : Bool) (o : Option Location) (m : Machine) (fee : Asset) → (after_by mode o m fee).part.parked ≡ m.part.parked
unfolding after_by fee_held fee_drawn
parked_by true None m fee = refl
parked_by true (Some who) m fee = refl
parked_by false o m fee = refl

refundable_by : (m : Machine) (fee : Asset) (n : Machine) → n ≡ after_by m.regs.fees_mode m.regs.origin m fee → m.part.parked ≡ [] → refusal_by m.regs.fees_mode m.regs.origin m fee ≡ None → FitsBack (payer m) m fee → IsRefundable n
refundable_by m fee n is none ok fits =
    let after = after_by m.regs.fees_mode m.regs.origin m fee in
    subst IsRefundable (sym is) (record {
      fits = subst (λ (o : Option Location). SlotFitsBack o after) (sym (same_payer_by m.regs.fees_mode m.regs.origin m fee)) (fits_by m.regs.fees_mode m.regs.origin m fee ok fits);
      few = let few = ap (λ (xs : List Bundle). length xs) (parked_by m.regs.fees_mode m.regs.origin m fee ∙ none) in omega (arith, few);
    })

pub fee_refundable : (m k : Machine) (fee : Asset) → m.part.parked ≡ [] → fee_refusal m fee ≡ None → k ≡ after_fee m fee → FitsBack (payer m) m fee → IsRefundable k
fee_refundable m k fee none ok same fits =
    refundable_by m fee k (same ∙ after_is m.regs.fees_mode m.regs.origin m fee) none (refusal_is m.regs.fees_mode m.regs.origin m fee ∙ ok) fits

-- ---- a fee on its way back
by_mode : (m : Machine) → m.regs.fees_mode ≡ false → payer m ≡ None
by_mode m off = ap (λ (mode : Bool). paying_account mode m.regs.origin) off

no_account : (mode : Bool) → paying_account mode None ≡ None
no_account true = refl
no_account false = refl

by_origin : (m : Machine) → m.regs.origin ≡ None → payer m ≡ None
by_origin m none = ap (paying_account m.regs.fees_mode) none ∙ no_account m.regs.fees_mode

slot_to_holding : (m : Machine) (goods : Bundle) (p : ChainPart) → IsRefundable m → payer m ≡ None → goods ≡ m.part.fee_slot → p ≡ fee_taken m.part → IsReturnable m.regs.holding p goods
unfolding fee_taken
slot_to_holding m goods p refundable none same is = record {
  fits = subst (λ (b : Bundle). IsWithinMost (merge m.regs.holding b)) (sym same) (subst (λ (o : Option Location). SlotFitsBack o m) none refundable.fits);
  few = subst (λ (x : ChainPart). length x.parked < 4) (sym is) refundable.few;
}

pub slot_by_mode : (m : Machine) (goods : Bundle) (p : ChainPart) → IsRefundable m → m.regs.fees_mode ≡ false → goods ≡ m.part.fee_slot → p ≡ fee_taken m.part → IsReturnable m.regs.holding p goods
slot_by_mode m goods p refundable off same is = slot_to_holding m goods p refundable (by_mode m off) same is

pub slot_by_origin : (m : Machine) (goods : Bundle) (p : ChainPart) → IsRefundable m → m.regs.origin ≡ None → goods ≡ m.part.fee_slot → p ≡ fee_taken m.part → IsReturnable m.regs.holding p goods
slot_by_origin m goods p refundable none same is = slot_to_holding m goods p refundable (by_origin m none) same is

refused_keeps : (refusal : Option XcmError) (goods back : Bundle) (after before now : ChainPart) (fault : HostFault) → TakesGoodsOrRefuses {A = ⊤} refusal goods tt after before (Err (back, fault)) now → now ≡ before
refused_keeps refusal goods back after before now (Xcm e) step = step.2
refused_keeps refusal goods back after before now Memory step = step.1

pub few_after_refusal : (m : Machine) (refusal : Option XcmError) (goods back : Bundle) (after before now : ChainPart) (fault : HostFault) → IsRefundable m → before ≡ fee_taken m.part
    → TakesGoodsOrRefuses {A = ⊤} refusal goods tt after before (Err (back, fault)) now → length now.parked < 4
unfolding fee_taken
few_after_refusal m refusal goods back after before now fault refundable is step =
    subst (λ (x : ChainPart). length x.parked < 4) (sym (refused_keeps refusal goods back after before now fault step ∙ is)) refundable.few

-- ---- the instruction inside a fee
other_answer : (x y : Result ⊤ XcmError) → ◌≡◌ {A = Result (Result ⊤ XcmError) AllocError} (Ok x) (Ok y) → x ≡ y
other_answer x y e = cc

-- the fee itself was refused
pub not_begun : (o : Option Asset) (m now : Machine) (rule : Machine → Option XcmError) (change : Machine → Machine) (e : XcmError) → Begins o m (Err e) now → RanTo (refused_around o m rule) (done_around o m change) m (Err e) now
not_begun None m now rule change e begun = absurd (let h = begun.0 in cc)
not_begun (Some fee) m now rule change e begun = (ap (λ (r : Option XcmError). or_else r (rule (after_fee m fee))) begun.0, begun.1)

-- it can end
pub can_end : (o : Option Asset) (m n k : Machine) (rule : Machine → Option XcmError) (change : Machine → Machine) (charged : Bool) (inside : Result ⊤ XcmError)
    → m.part.parked ≡ [] → Begins o m (Ok charged) n → RanTo (rule n) (change n) n inside k → CanEnd charged inside k
can_end o m n k rule change false inside none begun ran = tt
can_end o m n k rule change true (Ok u) none begun ran = tt
can_end None m n k rule change true (Err e) none begun ran = absurd (let h = begun.1 in cc)
can_end (Some fee) m n k rule change true (Err e) none begun ran = fee_refundable m k fee none begun.0 (ran.1 ∙ begun.2) begun.3

ended_without : (m k now : Machine) (rule : Machine → Option XcmError) (change : Machine → Machine) (inside answer : Result ⊤ XcmError)
    → RanTo (rule m) (change m) m inside k → answer ≡ inside → now ≡ k → RanTo (rule m) (change m) m answer now
ended_without m k now rule change inside answer ran same is =
    subst (λ (a : Result ⊤ XcmError). RanTo (rule m) (change m) m a now) (sym same) (subst (λ (x : Machine). RanTo (rule m) (change m) m inside x) (sym is) ran)

ended_with : (fee : Asset) (m n k now : Machine) (rule : Machine → Option XcmError) (change : Machine → Machine) (inside answer : Result ⊤ XcmError)
    → m.part.fee_slot ≡ empty → fee_refusal m fee ≡ None → n ≡ after_fee m fee → RanTo (rule n) (change n) n inside k → Ends true inside k (Ok answer) now
    → RanTo (refused_around (Some fee) m rule) (done_around (Some fee) m change) m answer now
ended_with fee m n k now rule change (Ok u) (Ok v) slot ok same ran ended = (
  ap (λ (r : Option XcmError). or_else r (rule (after_fee m fee))) ok ∙ ap rule (sym same) ∙ ran.0,
  ended.1 ∙ ap keeping_fee (ran.1 ∙ ap change same),
)
ended_with fee m n k now rule change (Ok u) (Err e) slot ok same ran ended = absurd (let h = ended.0 in cc)
ended_with fee m n k now rule change (Err e) (Ok v) slot ok same ran ended = absurd (let h = ended.0 in cc)
ended_with fee m n k now rule change (Err e) (Err d) slot ok same ran ended = (
  ap (λ (r : Option XcmError). or_else r (rule (after_fee m fee))) ok ∙ ap rule (sym same) ∙ ran.0 ∙ (let h = ended.0 in cc),
  ended.1 ∙ fee_goes_back m k fee slot ok (ran.1 ∙ same),
)

-- it ended: the instruction with its fee ran
pub ended : (o : Option Asset) (m n k now : Machine) (rule : Machine → Option XcmError) (change : Machine → Machine) (charged : Bool) (inside answer : Result ⊤ XcmError)
    → m.part.fee_slot ≡ empty → Begins o m (Ok charged) n → RanTo (rule n) (change n) n inside k → Ends charged inside k (Ok answer) now
    → RanTo (refused_around o m rule) (done_around o m change) m answer now
ended None m n k now rule change true inside answer slot begun ran ends = absurd (let h = begun.1 in cc)
ended None m n k now rule change false inside answer slot begun ran ends =
    ended_without m k now rule change inside answer (subst (λ (x : Machine). RanTo (rule x) (change x) x inside k) begun.2 ran) (other_answer answer inside ends.0) ends.1
ended (Some fee) m n k now rule change true inside answer slot begun ran ends = ended_with fee m n k now rule change inside answer slot begun.0 begun.2 ran ends
ended (Some fee) m n k now rule change false inside answer slot begun ran ends = absurd (let h = begun.1 in cc)

-- out of memory stopped the instruction inside
pub stopped_inside : (o : Option Asset) (m n now : Machine) (charged : Bool) (inside : Machine → Machine → Type 0) → Begins o m (Ok charged) n → (now ≡ n) ⊎ inside n now → (now ≡ m) ⊎ StopsAround o m inside now
stopped_inside None m n now charged inside begun (inl same) = inl (same ∙ begun.2)
stopped_inside None m n now charged inside begun (inr stops) = inr (subst (λ (x : Machine). inside x now) begun.2 stops)
stopped_inside (Some fee) m n now charged inside begun (inl same) = inr (begun.0, inl (same ∙ begun.2))
stopped_inside (Some fee) m n now charged inside begun (inr stops) = inr (begun.0, inr (inl (subst (λ (x : Machine). inside x now) begun.2 stops)))

-- or the fee's way back
pub stopped_ending : (o : Option Asset) (m n k now : Machine) (rule : Machine → Option XcmError) (change : Machine → Machine) (charged : Bool) (answer : Result ⊤ XcmError) (a : AllocError) (inside : Machine → Machine → Type 0)
    → Begins o m (Ok charged) n → RanTo (rule n) (change n) n answer k → Ends charged answer k (Err a) now → (now ≡ m) ⊎ StopsAround o m inside now
stopped_ending o m n k now rule change false answer a inside begun ran ends = absurd (let h = ends.0 in cc)
stopped_ending o m n k now rule change true (Ok u) a inside begun ran ends = absurd (let h = ends.0 in cc)
stopped_ending None m n k now rule change true (Err e) a inside begun ran ends = absurd (let h = begun.1 in cc)
stopped_ending (Some fee) m n k now rule change true (Err e) a inside begun ran ends = inr (begun.0, inr (inr (ends ∙ ap fee_parked (ran.1 ∙ begun.2))))
