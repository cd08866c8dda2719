-- What moves between accounts lower.
use Rattle.std.proofs.Common.{◌≡◌, ◌⊎◌, ℕ, ◌<◌, ◌≤◌, Bool, true, false, List, Option, Some, None, inl, inr, sym, ap, ◌∙◌, arith, true≢false, ltb-true, ltb-false}
use Rattle.std.specs.Prelude.{nat_lt}
use Rattle.std.specs.Ordering.{eq_by_cmp}
use Rattle.std.proofs.lemmas.Bool.{cases_Bool}
use Rattle.amounts.specs.Amounts.{amount, total, merge, difference}
use Rattle.amounts.proofs.Lemmas.AmountLaws.{amount-total}
use Rattle.amounts.proofs.Lemmas.{same_key, key_same, amount-merge}
use Rattle.locations.specs.declared.relative.Location.{Location}
use Rattle.asset_lists.specs.declared.units.Asset.{Asset}
use Rattle.asset_lists.specs.Units.{Unit}
use Rattle.asset_bundles.specs.Bundles.{Bundle, bundle_of}
use Rattle.trust_tables.specs.Accounts.{account_of}
use Rattle.ledgers.specs.Ledgers.{Holder, account_cmp, holder_cmp, Held, held_by, Withdrawn, Deposited}
use Rattle.ledgers.proofs.Lemmas.{account_keys, holder_keys, less_other}
use Rattle.call_dispatch.specs.Spelling.{AnyCall}
use Rattle.row_ledger.proofs.Lemmas.AccountLaws.{more_called}
use Rattle.exec_base.specs.Calls.{floors_of, held_dispatched}
use Rattle.exec_base.specs.Part.{ChainPart, accounts_of}
use Rattle.exec_base.specs.Host.{at_account, given, got, settled}

-- ---- the relation
-- no account but this one, or none at all, has less of any unit than before
abbrev pub LowersOnly : Option (List ℕ) → Held → Held → Type 0
LowersOnly speaker old new = (who : List ℕ) (unit : Unit) → amount new (who, unit) < amount old (who, unit) → speaker ≡ Some who

pub raises_lower : (s : Option (List ℕ)) (a b : Held) → ((h : Holder) → amount a h ≤ amount b h) → LowersOnly s a b
raises_lower s a b more = λ who unit less. absurd (let m = more (who, unit) in omega (arith, m, less))

pub same_lowers : (s : Option (List ℕ)) (a : Held) → LowersOnly s a a
same_lowers s a = raises_lower s a a (λ h. omega arith)

pub then_lowers : (s : Option (List ℕ)) (a b c : Held) → LowersOnly s a b → LowersOnly s b c → LowersOnly s a c
then_lowers s a b c h k = λ who unit less. elim (cases_Bool (nat_lt (amount b (who, unit)) (amount a (who, unit)))) [
  | inl lower ↦ h who unit (ltb-true _ _ lower)
  | inr higher ↦ k who unit (let m = ltb-false _ _ higher in omega (arith, m, less))
]

-- ---- out of an account
other_unless : (held : Held) (who : List ℕ) (goods : Bundle) (one : List ℕ) (unit : Unit) → (who ≡ one → ⊥) → amount (difference held (held_by who goods)) (one, unit) ≡ amount held (one, unit)
other_unless held who goods one unit apart = less_other held who goods (one, unit) (λ e. absurd (apart e))

out_lowers : (held : Held) (who : List ℕ) (goods : Bundle) → LowersOnly (Some who) held (difference held (held_by who goods))
out_lowers held who goods = λ one unit less. elim (cases_Bool (eq_by_cmp account_cmp who one)) [
  | inl same ↦ ap Some (key_same account_keys who one same)
  | inr apart ↦ absurd (let kept = other_unless held who goods one unit (λ e. true≢false (sym (same_key account_keys who) ∙ ap (eq_by_cmp account_cmp who) e ∙ apart)) in omega (arith, kept, less))
]

at_account_lowers : (o : Option (List ℕ)) (change : List ℕ → Held) (held : Held) → ((who : List ℕ) → LowersOnly (Some who) held (change who)) → LowersOnly o held (at_account o change held)
at_account_lowers None change held h = same_lowers None held
at_account_lowers (Some who) change held h = h who

pub given_lowers : (p : ChainPart) (list : List Asset) (who : Location) → LowersOnly (account_of who p.site) p.held (given p list who).held
given_lowers p list who = at_account_lowers (account_of who p.site) (λ account. (Withdrawn account list (accounts_of p)).held) p.held (λ account. out_lowers p.held account (bundle_of list))

-- ---- into an account
into_raises : (held : Held) (who : List ℕ) (goods : Bundle) (h : Holder) → amount held h ≤ amount (merge held (held_by who goods)) h
into_raises held who goods h = let sum = amount-merge holder_keys held (held_by who goods) h in omega (arith, sum)

at_account_raises : (o : Option (List ℕ)) (change : List ℕ → Held) (held : Held) → ((who : List ℕ) (h : Holder) → amount held h ≤ amount (change who) h) → (h : Holder) → amount held h ≤ amount (at_account o change held) h
at_account_raises None change held raises h = omega arith
at_account_raises (Some who) change held raises h = raises who h

got_raises : (p : ChainPart) (goods : Bundle) (who : Location) (h : Holder) → amount p.held h ≤ amount (got p goods who).held h
got_raises p goods who h = at_account_raises (account_of who p.site) (λ account. (Deposited account goods (accounts_of p)).held) p.held (λ account. into_raises p.held account goods) h

pub got_lowers : (s : Option (List ℕ)) (p : ChainPart) (goods : Bundle) (who : Location) → LowersOnly s p.held (got p goods who).held
got_lowers s p goods who = raises_lower s p.held (got p goods who).held (got_raises p goods who)

-- ---- from one account to another
pub moved_lowers : (p : ChainPart) (list : List Asset) (from to : Location) → LowersOnly (account_of from p.site) p.held (got (given p list from) (bundle_of list) to).held
moved_lowers p list from to =
    then_lowers (account_of from p.site) p.held (given p list from).held (got (given p list from) (bundle_of list) to).held (given_lowers p list from)
    (got_lowers (account_of from p.site) (given p list from) (bundle_of list) to)

-- ---- settlement
merged_raises : (held more : Held) (h : Holder) → amount held h ≤ amount (merge held more) h
merged_raises held more h = let sum = amount-merge holder_keys held more h in omega (arith, sum)

pub settled_lowers : (s : Option (List ℕ)) (p : ChainPart) → LowersOnly s p.held (settled p).held
unfolding settled
settled_lowers s p = raises_lower s p.held _ (merged_raises p.held _)

-- ---- calls of the chain
caller_alone : (who : List ℕ) (old new : Held) → ((t : Holder → Bool) → ((u : Unit) → t (who, u) ≡ false) → total t old ≤ total t new) → LowersOnly (Some who) old new
caller_alone who old new others w unit less = by_case (cases_Bool (eq_by_cmp account_cmp w who))
  where
    apart : eq_by_cmp account_cmp w who ≡ false → (u : Unit) → eq_by_cmp holder_cmp (w, unit) (who, u) ≡ false
    apart other u =
        elim (cases_Bool (eq_by_cmp holder_cmp (w, unit) (who, u))) [
          | inl same ↦ absurd (let keys : (w, unit) ≡ (who, u) = key_same holder_keys (w, unit) (who, u) same in
              let e : eq_by_cmp account_cmp w who ≡ true = ap (λ (h : Holder). eq_by_cmp account_cmp w h.0) (sym keys) ∙ same_key account_keys w in cc)
          | inr is ↦ is
        ]

    by_case : (eq_by_cmp account_cmp w who ≡ true) ⊎ (eq_by_cmp account_cmp w who ≡ false) → Some who ≡ Some w
    by_case (inl same) = ap Some (sym (key_same account_keys w who same))
    by_case (inr other) = absurd (
        let more = others (eq_by_cmp holder_cmp (w, unit)) (apart other) in
        let was = amount-total holder_keys old (w, unit) in
        let now = amount-total holder_keys new (w, unit) in
        omega (arith, less, more, was, now))

pub dispatched_lowers : (p : ChainPart) (who : List ℕ) (c : AnyCall) → LowersOnly (Some who) p.held (held_dispatched p who c)
dispatched_lowers p who c = caller_alone who p.held _ (λ t without. more_called p.rows p.held (floors_of p) who c t without)
