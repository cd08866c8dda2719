-- What comes into the holding may be joined to what is held; and a list is held where each of its assets is.
use Rattle.std.proofs.Common.{◌≡◌, ℕ, ◌≤◌, Bool, true, false, ◌↔◌, List, [], ◌∷◌, length, Option, Some, None, refl, sym, ap, ◌∙◌, subst, arith}
use Rattle.std.specs.Prelude.{nat_le, if◌then◌else◌, unwrap_or}
use Rattle.std.specs.List.{list_all}
use Rattle.std.specs.FinMap.{find}
use Rattle.std.specs.Ordering.{eq_by_cmp}
use Rattle.std.proofs.lemmas.Bool.{and_parts, and_from, leb-true, le-leb}
use Rattle.amounts.specs.Rows.{amount_if, sum_where}
use Rattle.amounts.specs.Amounts.{amount, difference, IsWithin}
use Rattle.amounts.proofs.Lemmas.{same_key, key_same}
use Rattle.locations.specs.declared.relative.Location.{Location}
use Rattle.operands.specs.declared.error.XcmError.TheVariants as error
use Rattle.operands.specs.declared.weight.Weight.{Weight}
use Rattle.operands.specs.declared.weight.WeightLimit.{WeightLimit}
use Rattle.operands.specs.declared.weight.WeightLimit.TheVariants.{Limited}
use Rattle.asset_lists.specs.declared.units.Asset.{Asset}
use Rattle.asset_lists.specs.declared.filters.Filter.{Filter}
use Rattle.asset_lists.specs.Units.{Unit, unit_of, amount_of, unit_cmp, is_zero}
use Rattle.asset_bundles.specs.Bundles.{Bundle, rows_of, bundle_of, found, IsHolding}
use Rattle.asset_bundles.proofs.Lemmas.Bundles.{unit_keys}
use Rattle.asset_bundles.specs.Filters.{Left}
use Rattle.asset_bundles.proofs.Lemmas.BundleLaws.{found-holding, amount-bundle_of}
use Rattle.xcm_program.specs.declared.instruction.Instruction.{Instruction, roll-Instruction, out-roll-Instruction}
use Rattle.xcm_program.specs.declared.instruction.Instruction.TheOpen.{Instruction-F}
use Rattle.xcm_program.specs.Conversions.{HasAmount}
use Rattle.xcm_program.proofs.Lemmas.{amounts_open}
use Rattle.exec_base.specs.Part.{ChainPart}
use Rattle.exec_base.specs.Sending.{unless}
use Rattle.exec_base.specs.Host.{withdraw_refusal, withdrawn, receive_refusal, received, claim_refusal, claimed, buy_refusal, bought, unspent, refunded, refund_goods}
use Rattle.exec_base.specs.Pools.{exchange_refusal, exchanged, exchange_goods}
use Rattle.exec_rules.specs.Machine.{Machine}
use Rattle.exec_rules.specs.Holdings.{with_origin, at_origin, has_room, with_room, holds_asset, holds_list, holding_more, taken_of, holding_left, holding_paid, payment_of, is_ticket, not_refunded, refund_now, refund_refusal, refund_done, refund_joined}
use Rattle.exec_rules.proofs.Lemmas.AnswerLaws.{withdrawn_is_listed, received_is_listed}
use Rattle.exec_rules.specs.Instructions.{refused, done, refusal_of, xcm}
use Rattle.exec_rules.specs.Readiness.{IsSteady, IsSoundInstruction}
use Rattle.exec_holding.specs.Holding.{IsJoinable}
use Rattle.exec_holding.proofs.Lemmas.{joinable, joinable_before, joinable_at}
use Rattle.plain_lists.proofs.Lemmas.Facts.{same_bools as same_test}

-- ---- withdrawals and arrivals
withdrawn_joins : (m : Machine) (list : List Asset) (who : Location) → IsSteady m → withdraw_refusal m.part list who ≡ None → IsJoinable m.regs.holding (withdrawn m.part list who) (bundle_of list)
unfolding withdrawn
withdrawn_joins m list who steady ok = joinable _ m.regs.holding (bundle_of list) steady.holding (withdrawn_is_listed m.part list who ok) steady.rest.order.unparked

pub withdrawn_joinable : (m : Machine) (p : ChainPart) (list : List Asset) (who : Location) (goods : Bundle) → IsSteady m → withdraw_refusal m.part list who ≡ None → goods ≡ bundle_of list → p ≡ withdrawn m.part list who
    → IsJoinable m.regs.holding p goods
withdrawn_joinable m p list who goods steady ok same is = joinable_at m.regs.holding p (withdrawn m.part list who) goods (bundle_of list) (withdrawn_joins m list who steady ok) same is

received_joins : (m : Machine) (list : List Asset) (who : Location) (teleport : Bool) → IsSteady m → receive_refusal m.part list who teleport ≡ None → IsJoinable m.regs.holding (received m.part list teleport) (bundle_of list)
unfolding received
received_joins m list who teleport steady ok = joinable _ m.regs.holding (bundle_of list) steady.holding (received_is_listed m.part list who teleport ok) steady.rest.order.unparked

pub received_joinable : (m : Machine) (p : ChainPart) (list : List Asset) (who : Location) (teleport : Bool) (goods : Bundle) → IsSteady m → receive_refusal m.part list who teleport ≡ None → goods ≡ bundle_of list → p ≡ received m.part list teleport
    → IsJoinable m.regs.holding p goods
received_joinable m p list who teleport goods steady ok same is = joinable_at m.regs.holding p (received m.part list teleport) goods (bundle_of list) (received_joins m list who teleport steady ok) same is

-- ---- where the law is needed that instructions leave a steady machine
abbrev pub LeavesSteady : Type 0
LeavesSteady = (x : Instruction) (m : Machine) → IsSteady m → refusal_of x m ≡ None → IsSteady (xcm.done x m)

done_steady : LeavesSteady → (l : Instruction-F Instruction) (m : Machine) → IsSteady m → refused l m ≡ None → IsSteady (done l m)
done_steady law l m steady ok =
    subst (λ (k : Instruction-F Instruction). IsSteady (done k m)) (out-roll-Instruction l)
    (law (roll-Instruction l) m steady (ap (λ (k : Instruction-F Instruction). refused k m) (out-roll-Instruction l) ∙ ok))

claim_is_fine : (m : Machine) (list : List Asset) (ticket who : Location) → m.regs.origin ≡ Some who → has_room m (length list) ≡ true → is_ticket ticket ≡ true → claim_refusal m.part list who ≡ None
    → refused (Instruction-F.ClaimAsset list ticket) m ≡ None
claim_is_fine m list ticket who origin room is ok =
    ap (λ (o : Option Location). with_origin o (λ w. with_room m (length list) (unless (is_ticket ticket) error.UnknownClaim (claim_refusal m.part list w)))) origin
    ∙ ap (λ (b : Bool). unless b error.HoldingWouldOverflow (unless (is_ticket ticket) error.UnknownClaim (claim_refusal m.part list who))) room
    ∙ ap (λ (b : Bool). unless b error.UnknownClaim (claim_refusal m.part list who)) is ∙ ok

pub claimed_joinable : LeavesSteady → (m : Machine) (p : ChainPart) (list : List Asset) (ticket who : Location) (goods : Bundle) → IsSteady m
    → m.regs.origin ≡ Some who → has_room m (length list) ≡ true → is_ticket ticket ≡ true → claim_refusal m.part list who ≡ None → goods ≡ bundle_of list → p ≡ claimed m.part list who
    → IsJoinable m.regs.holding p goods
claimed_joinable law m p list ticket who goods steady origin room is ok same now =
    joinable_at m.regs.holding p (claimed m.part list who) goods (bundle_of list)
    (joinable_before m (claimed m.part list who) (bundle_of list)
    (subst IsSteady (ap (λ (o : Option Location). at_origin o (λ w. holding_more m (claimed m.part list w) (bundle_of list)) m) origin)
    (done_steady law (Instruction-F.ClaimAsset list ticket) m steady (claim_is_fine m list ticket who origin room is ok))))
    same now

bought_joins : LeavesSteady → (m : Machine) (fees : Asset) (w : Weight) → IsSteady m → holds_asset m fees ≡ true → buy_refusal m.part w (payment_of fees) ≡ None
    → IsJoinable (holding_paid m fees).regs.holding (bought m.part w (payment_of fees)) (unspent m.part w (payment_of fees))
bought_joins law m fees w steady held ok =
    joinable_before (holding_paid m fees) (bought m.part w (payment_of fees)) (unspent m.part w (payment_of fees))
    (done_steady law (Instruction-F.BuyExecution fees (Limited w)) m steady (ap (λ (b : Bool). unless b error.NotHoldingFees (buy_refusal m.part w (payment_of fees))) held ∙ ok))

pub bought_joinable : LeavesSteady → (m : Machine) (p : ChainPart) (fees : Asset) (w : Weight) (left payment rest : Bundle) → IsSteady m → holds_asset m fees ≡ true
    → payment ≡ payment_of fees → left ≡ difference m.regs.holding (payment_of fees) → buy_refusal m.part w payment ≡ None → rest ≡ unspent m.part w payment → p ≡ bought m.part w payment
    → IsJoinable left p rest
bought_joinable law m p fees w left payment rest steady held pays lefts ok rests now =
    subst (λ (b : Bundle). IsJoinable b p rest) (sym lefts)
    (joinable_at (holding_paid m fees).regs.holding p (bought m.part w (payment_of fees)) rest (unspent m.part w (payment_of fees))
    (bought_joins law m fees w steady held (sym (ap (buy_refusal m.part w) pays) ∙ ok))
    (rests ∙ ap (unspent m.part w) pays) (now ∙ ap (bought m.part w) pays))

exchanged_joins : LeavesSteady → (m : Machine) (filter : Filter) (want : List Asset) (maximal : Bool) → IsSteady m → has_room m (length want) ≡ true → exchange_refusal m.part (taken_of m filter) want maximal ≡ None
    → IsJoinable (Left filter m.regs.holding) (exchanged m.part (taken_of m filter) want maximal) (exchange_goods m.part (taken_of m filter) want maximal)
exchanged_joins law m filter want maximal steady room ok =
    let give = taken_of m filter in
    joinable_before (holding_left m filter m.part) (exchanged m.part give want maximal) (exchange_goods m.part give want maximal)
    (done_steady law (Instruction-F.ExchangeAsset filter want maximal) m steady (ap (λ (b : Bool). unless b error.HoldingWouldOverflow (exchange_refusal m.part give want maximal)) room ∙ ok))

-- what was taken is exchanged, and what came of it may be joined to what was left
pub exchanged_joinable : LeavesSteady → (m : Machine) (p : ChainPart) (filter : Filter) (want : List Asset) (maximal : Bool) (left give got : Bundle) → IsSteady m → has_room m (length want) ≡ true
    → give ≡ taken_of m filter → left ≡ Left filter m.regs.holding → exchange_refusal m.part give want maximal ≡ None → got ≡ exchange_goods m.part give want maximal → p ≡ exchanged m.part give want maximal
    → IsJoinable left p got
exchanged_joinable law m p filter want maximal left give got steady room gives lefts ok gots now =
    subst (λ (b : Bundle). IsJoinable b p got) (sym lefts)
    (joinable_at (Left filter m.regs.holding) p (exchanged m.part (taken_of m filter) want maximal) got (exchange_goods m.part (taken_of m filter) want maximal)
    (exchanged_joins law m filter want maximal steady room (sym (ap (λ (b : Bundle). exchange_refusal m.part b want maximal) gives) ∙ ok))
    (gots ∙ ap (λ (b : Bundle). exchange_goods m.part b want maximal) gives) (now ∙ ap (λ (b : Bundle). exchanged m.part b want maximal) gives))

refund_steady : (m : Machine) (given : Location × ℕ) → IsSteady (refund_done m (Some given)) → IsSteady (refund_joined m)
refund_steady m given steady = record { rest = steady.rest; holding = steady.holding }

pub refunded_joinable : LeavesSteady → (m : Machine) (p : ChainPart) (given : Location × ℕ) (goods : Bundle) → IsSteady m → refund_now m ≡ Some given → refund_refusal m (Some given) ≡ None
    → goods ≡ refund_goods m.part (not_refunded m) → p ≡ refunded m.part (not_refunded m) → IsJoinable m.regs.holding p goods
refunded_joinable law m p given goods steady some ok same now =
    joinable_at m.regs.holding p (refunded m.part (not_refunded m)) goods (refund_goods m.part (not_refunded m))
    (joinable_before m (refunded m.part (not_refunded m)) (refund_goods m.part (not_refunded m))
    (refund_steady m given (subst (λ (o : Option (Location × ℕ)). IsSteady (refund_done m o)) some
    (done_steady law Instruction-F.RefundSurplus m steady (ap (refund_refusal m) some ∙ ok)))))
    same now

-- the fees of a sound purchase are no amount of 0
pub fees_some : (fees : Asset) (limit : WeightLimit) → IsSoundInstruction (roll-Instruction (Instruction-F.BuyExecution fees limit)) → is_zero fees ≡ false
fees_some fees limit sound =
    subst (λ (k : Instruction-F Instruction). HasAmount Instruction k) (out-roll-Instruction (Instruction-F.BuyExecution fees limit))
    (amounts_open (roll-Instruction (Instruction-F.BuyExecution fees limit)) sound.amounts.0).0

-- ---- all of a list is held
found_at_most : (b : Bundle) (list : List Asset) → list_all (λ a. nat_le (amount_of a) (amount b (unit_of a))) list ≡ true → (u : Unit) → found u list ≤ amount b u
found_at_most b [] all u = omega arith
found_at_most b (a ∷ list) all u =
    let parts = and_parts (nat_le (amount_of a) (amount b (unit_of a))) (list_all (λ x. nat_le (amount_of x) (amount b (unit_of x))) list) all in
    elim (eq_by_cmp unit_cmp u (unit_of a)) as (λ t. eq_by_cmp unit_cmp u (unit_of a) ≡ t → unwrap_or (if t then Some (amount_of a) else find unit_cmp u (rows_of list)) 0 ≤ amount b u) [
      | true ↦ λ t. subst (λ (v : Unit). amount_of a ≤ amount b v) (sym (key_same unit_keys u (unit_of a) t)) (leb-true (amount_of a) (amount b (unit_of a)) parts.0)
      | false ↦ λ t. found_at_most b list parts.1 u
    ] refl

within_by : (b : Bundle) (list : List Asset) → IsHolding list → list_all (λ a. nat_le (amount_of a) (amount b (unit_of a))) list ≡ true → IsWithin (bundle_of list) b
within_by b list once all u =
    let less = found_at_most b list all u in
    let there = found-holding list u once in
    omega (arith, less, there)

held_up_to : (most : Unit → ℕ) (list : List Asset) → ((u : Unit) → sum_where (eq_by_cmp unit_cmp u) (rows_of list) ≤ most u)
    → list_all (λ a. nat_le (amount_of a) (most (unit_of a))) list ≡ true
held_up_to most [] within = refl
held_up_to most (a ∷ list) within =
    let all = within (unit_of a) in
    let here : amount_if (eq_by_cmp unit_cmp (unit_of a) (unit_of a)) (amount_of a) ≡ amount_of a = ap (λ b. amount_if b (amount_of a)) (same_key unit_keys (unit_of a)) in
    and_from _ _ (le-leb (amount_of a) (most (unit_of a)) (omega (arith, all, here)))
    (held_up_to most list (λ u. let more = within u in omega (arith, more)))

all_by : (b : Bundle) (list : List Asset) → IsWithin (bundle_of list) b → list_all (λ a. nat_le (amount_of a) (amount b (unit_of a))) list ≡ true
all_by b list within = held_up_to (amount b) list (λ u. let le = within u in let there = amount-bundle_of list u in omega (arith, le, there))

-- whether the bundle has all of the list is whether each asset is held
pub contains_is : (m : Machine) (list : List Asset) (b : Bool) → IsHolding list → (b ≡ true) ↔ IsWithin (bundle_of list) m.regs.holding → b ≡ holds_list m list
contains_is m list b once says = same_test b (holds_list m list) (λ t. all_by m.regs.holding list (says.0 t)) (λ t. says.1 (within_by m.regs.holding list once t))
