-- What goes between accounts and bundles.
use Rattle.std.proofs.Common.{◌≡◌, ℕ, ◌+◌, Bool, true, ◌&&◌, List, [], ◌∷◌, Option, Some, None, refl, sym, ap, ◌∙◌, subst, arith}
use Rattle.std.specs.Prelude.{nat_le, is_some, if◌then◌else◌}
use Rattle.std.proofs.lemmas.Bool.Decides.{nat_tests}
use Rattle.amounts.specs.Amounts.{amount, total, empty, rows, merge}
use Rattle.amounts.proofs.Lemmas.AmountLaws.{total-empty, total-rows}
use Rattle.amounts.specs.Rows.{sum_where}
use Rattle.amounts.proofs.Lemmas.{total-merge}
use Rattle.locations.specs.declared.relative.Location.{Location}
use Rattle.asset_lists.specs.declared.units.Asset.{Asset}
use Rattle.asset_lists.specs.Lists.{IsAssetList}
use Rattle.asset_lists.specs.Units.{Unit, unit_of, amount_of}
use Rattle.asset_lists.specs.Listed.{Listed}
use Rattle.asset_bundles.specs.Bundles.{Bundle, bundle_of, held_assets, assets_of_rows}
use Rattle.asset_bundles.proofs.Lemmas.Bundles.{unit_keys}
use Rattle.asset_bundles.proofs.Lemmas.BundleLaws.{bundle_of-none}
use Rattle.asset_bundles.specs.Books.{is_unit_where}
use Rattle.trust_tables.specs.Accounts.{account_of}
use Rattle.trust_tables.specs.Trust.{row_of}
use Rattle.ledgers.proofs.Lemmas.{holder_keys, held_by_total}
use Rattle.ledgers.specs.Ledgers.{Holder, Held, Accounts, is_account, held_by, Withdrawn, Deposited, shortage}
use Rattle.exec_base.specs.Part.{ChainPart, accounts_of}
use Rattle.exec_base.specs.Host.{first_fault, at_account, floor_of, debit_fault, credit_fault, given, got, withdraw_refusal, withdrawn, deposit_refusal, deposited, transfer_refusal, transferred, received, fee_drawn}
use Rattle.exec_rules.proofs.Lemmas.AnswerLaws.{unless_held, unless_next, none_first, none_next}
use Rattle.law_hosts.specs.Wholes.{on_chain, whole, Conserves}
use Rattle.plain_lists.proofs.Lemmas.Facts.{at_most_not_above as not_less}

-- ---- tests that passed
no_account_gives : (p : ChainPart) (a : Asset) → debit_fault p None a ≡ None → ⊥
no_account_gives p a h = let k = unless_next (is_some (row_of p.rows a)) _ _ h in absurd cc

no_account_takes : (p : ChainPart) (a : Asset) → credit_fault p None a ≡ None → ⊥
no_account_takes p a h = let k = unless_next (is_some (row_of p.rows a)) _ _ h in absurd cc

holds_enough : (p : ChainPart) (who : List ℕ) (a : Asset) → debit_fault p (Some who) a ≡ None → nat_le (amount_of a) (amount p.held (who, unit_of a)) ≡ true
holds_enough p who a h = enough (amount_of a) (floor_of p who (unit_of a)) _ (unless_held _ _ _ (unless_next (is_some (row_of p.rows a)) _ _ h))
  where
    enough : (n f m : ℕ) → nat_le (n + f) m ≡ true → nat_le n m ≡ true
    enough n f m h = grind (arith, nat_tests, h)

pub no_shortage : (p : ChainPart) (who : List ℕ) (list : List Asset) → first_fault (debit_fault p (Some who)) list ≡ None → shortage p.held who list ≡ None
no_shortage p who [] h = refl
no_shortage p who (a ∷ rest) h =
    ap (λ (b : Bool). if b then Some (amount p.held (who, unit_of a)) else shortage p.held who rest) (not_less _ _ (holds_enough p who a (none_first _ _ h)))
    ∙ no_shortage p who rest (none_next _ _ h)

-- ---- accounts
abbrev pub of_units : (Unit → Bool) → Holder → Bool
of_units t h = t h.1

-- the law of the ledger
abbrev pub Withdraws : Type 0
Withdraws = (ledger : Accounts) (who : List ℕ) (assets : List Asset) (p : Holder → Bool) → IsAssetList assets → shortage ledger.held who assets ≡ None
    → total p (Withdrawn who assets ledger).held + total (λ unit. p (who, unit)) (bundle_of assets) ≡ total p ledger.held

total_none : (t : Unit → Bool) → total t (bundle_of []) ≡ 0
total_none t = ap (total t) bundle_of-none ∙ total-empty unit_keys t

-- what an account gave is the list
pub total_given : Withdraws → (p : ChainPart) (o : Option (List ℕ)) (list : List Asset) (t : Unit → Bool) → IsAssetList list → first_fault (debit_fault p o) list ≡ None
    → total (of_units t) (at_account o (λ account. (Withdrawn account list (accounts_of p)).held) p.held) + total t (bundle_of list) ≡ total (of_units t) p.held
total_given law p None [] t in_order ok = omega (arith, total_none t)
total_given law p None (a ∷ rest) t in_order ok = absurd (no_account_gives p a (none_first _ _ ok))
total_given law p (Some who) list t in_order ok = law (accounts_of p) who list (of_units t) in_order (no_shortage p who list ok)

-- what an account got is the goods
pub total_more : (t : Holder → Bool) (held : Held) (who : List ℕ) (goods : Bundle) → total t (merge held (held_by who goods)) ≡ total t held + total (λ unit. t (who, unit)) goods
total_more t held who goods =
    let sum = total-merge holder_keys t held (held_by who goods) in
    let same = held_by_total t who goods in
    omega (arith, sum, same)

pub total_got : (p : ChainPart) (o : Option (List ℕ)) (goods : Bundle) (t : Unit → Bool) → (o ≡ None → total t goods ≡ 0)
    → total (of_units t) (at_account o (λ account. (Deposited account goods (accounts_of p)).held) p.held) ≡ total (of_units t) p.held + total t goods
total_got p None goods t none = omega (arith, none refl)
total_got p (Some who) goods t none = total_more (of_units t) p.held who goods

-- where there is no account, nothing is taken in
no_units : (es : List (Unit × ℕ)) (p : ChainPart) (t : Unit → Bool) → first_fault (credit_fault p None) (assets_of_rows es) ≡ None → sum_where t es ≡ 0
no_units [] p t h = refl
no_units (e ∷ es) p t h = absurd (no_account_takes p _ (none_first _ _ h))

no_goods : (p : ChainPart) (o : Option (List ℕ)) (goods : Bundle) (t : Unit → Bool) → first_fault (credit_fault p o) (held_assets goods) ≡ None → o ≡ None → total t goods ≡ 0
unfolding held_assets
no_goods p o goods t h e =
    sym (total-rows t goods) ∙ no_units (rows goods) p t (subst (λ (o : Option (List ℕ)). first_fault (credit_fault p o) (assets_of_rows (rows goods)) ≡ None) e h)

no_list : (p : ChainPart) (o : Option (List ℕ)) (list : List Asset) (t : Unit → Bool) → first_fault (credit_fault p o) list ≡ None → o ≡ None → total t (bundle_of list) ≡ 0
no_list p o [] t h e = total_none t
no_list p o (a ∷ rest) t h e = absurd (no_account_takes p a (none_first _ _ (subst (λ (o : Option (List ℕ)). first_fault (credit_fault p o) (a ∷ rest) ≡ None) e h)))

-- ---- the calls
pub conserves_given : Withdraws → (p : ChainPart) (list : List Asset) (who : Location) → IsAssetList list → first_fault (debit_fault p (account_of who p.site)) list ≡ None
    → Conserves empty (bundle_of list) p (given p list who)
unfolding on_chain
conserves_given law p list who in_order ok test =
    let less = total_given law p (account_of who p.site) list (is_unit_where test) in_order ok in
    let none = total-empty unit_keys (is_unit_where test) in
    omega (arith, less, none)

whole_withdrawn : (p : ChainPart) (list : List Asset) (who : Location) (test : Listed → Bool) → whole test (withdrawn p list who) ≡ whole test (given p list who)
unfolding withdrawn on_chain
whole_withdrawn p list who test = refl

pub conserves_withdrawal : Withdraws → (p : ChainPart) (list : List Asset) (who : Location) → IsAssetList list → withdraw_refusal p list who ≡ None → Conserves empty (bundle_of list) p (withdrawn p list who)
unfolding withdraw_refusal
conserves_withdrawal law p list who in_order ok test =
    ap (λ (n : ℕ). n + total (is_unit_where test) (bundle_of list)) (whole_withdrawn p list who test) ∙ conserves_given law p list who in_order ok test

pub conserves_drawn_fee : Withdraws → (p : ChainPart) (list : List Asset) (who : Location) → IsAssetList list → withdraw_refusal p list who ≡ None → Conserves empty (bundle_of list) p (fee_drawn p list who)
unfolding withdraw_refusal fee_drawn
conserves_drawn_fee law p list who in_order ok = conserves_given law p list who in_order ok

pub whole_got : (p : ChainPart) (goods : Bundle) (who : Location) (test : Listed → Bool) → (account_of who p.site ≡ None → total (is_unit_where test) goods ≡ 0)
    → whole test (got p goods who) ≡ whole test p + total (is_unit_where test) goods
unfolding on_chain
whole_got p goods who test none = let more = total_got p (account_of who p.site) goods (is_unit_where test) none in omega (arith, more)

pub conserves_deposit : (p : ChainPart) (goods : Bundle) (who : Location) → deposit_refusal p goods who ≡ None → Conserves goods empty p (deposited p goods who)
unfolding deposit_refusal deposited
conserves_deposit p goods who ok test =
    let more = whole_got p goods who test (no_goods p (account_of who p.site) goods (is_unit_where test) ok) in
    let none = total-empty unit_keys (is_unit_where test) in
    omega (arith, more, none)

pub conserves_transfer : Withdraws → (p : ChainPart) (list : List Asset) (from to : Location) → IsAssetList list → transfer_refusal p list from to ≡ None → Conserves empty empty p (transferred p list from to)
unfolding transfer_refusal transferred
conserves_transfer law p list from to in_order ok test =
    let less = conserves_given law p list from in_order (none_first _ _ ok) test in
    let more = whole_got (given p list from) (bundle_of list) to test (no_list (given p list from) (account_of to p.site) list (is_unit_where test) (none_next _ _ ok)) in
    let none = total-empty unit_keys (is_unit_where test) in
    omega (arith, less, more, none)

pub received_whole : (p : ChainPart) (list : List Asset) (teleport : Bool) (test : Listed → Bool) → whole test (received p list teleport) ≡ whole test p
unfolding received on_chain
received_whole p list teleport test = refl

-- ---- one account
abbrev pub of_account : List ℕ → (Unit → Bool) → Holder → Bool
of_account who t h = is_account who h && t h.1
