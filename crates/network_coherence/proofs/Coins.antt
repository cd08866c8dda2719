-- What nobody holds has no unit, and what has amounts is one unit.
use Rattle.std.specs.Prelude.{◌≡◌, ℕ, nat_lt, nat_eq, Bool, true, false, ◌&&◌, List, [], ◌∷◌, Option, Some, None, if◌then◌else◌, refl}
use Rattle.std.specs.List.{list_any}
use Rattle.std.specs.Option.{option_or}
use Rattle.std.proofs.Common.{true≢false, ap, sym, ◌∙◌, arith}
use Rattle.std.proofs.lemmas.Bool.{or_parts, or_from, and_left, and_right, false_from_ne_true, ltb-true, ne_eqb}
use Rattle.amounts.specs.Amounts.{rows, total}
use Rattle.amounts.proofs.Lemmas.AmountLaws.{rows_positive, total-rows}
use Rattle.locations.specs.declared.grammar.Junction.{Junction}
use Rattle.asset_lists.specs.declared.units.Instance.{Instance}
use Rattle.asset_lists.specs.declared.units.Kind.{Kind}
use Rattle.asset_lists.specs.declared.units.Kind.TheVariants.{Fungible, Class}
use Rattle.asset_lists.specs.Units.{Unit}
use Rattle.asset_lists.specs.Listed.{same_kind}
use Rattle.ledgers.specs.Ledgers.{Holder, is_account}
use Rattle.chain_ids.specs.declared.chain.ChainId.{ChainId}
use Rattle.trust_tables.specs.declared.rows.AssetRow.{AssetRow}
use Rattle.trust_tables.specs.Accounts.{sovereign_account}
use Rattle.law_coherence.specs.UniversalAssets.{UniversalAsset, every, just, leads_to_path, is_unit_at}
use Rattle.law_coherence.specs.Networks.{context_of, path_of_row, is_native_role}
use Rattle.law_coherence.specs.Causes.{ChainEntry, InstanceTwice, chain_of_entry, amount_at, amount_for, any_instance, shares_instance, is_short, when}
use Rattle.network_coherence.specs.Parts.{first_sharing, row_sharing}
use Rattle.network_coherence.proofs.Totals.{some_row}
use Rattle.plain_lists.proofs.Lemmas.Facts.{never_below_zero as never_below}

pub fungible_told : (k : Kind) → same_kind k Fungible ≡ true → k ≡ Fungible
fungible_told Fungible e = refl
fungible_told Class e = absurd (true≢false (sym e))

none_of_both : {X : Type 0} (p q : X → Bool) (xs : List X) → list_any p xs ≡ false → list_any (λ x. p x && q x) xs ≡ false
none_of_both p q [] e = refl
none_of_both p q (x ∷ xs) e =
    let parts = or_parts (p x) (list_any p xs) e in
    or_from (p x && q x) (list_any (λ y. p y && q y) xs) (and_left (p x) (q x) parts.0) (none_of_both p q xs parts.1)

-- ---- nobody holds it
none_held : (a : UniversalAsset) (e : ChainEntry) (test : Option Instance → Bool) → amount_at a every e ≡ 0 → any_instance a e test ≡ false
none_held a e test nothing =
    let unit : Holder → Bool = λ h. is_unit_at (context_of e.table) a every h.1 in
    let no_row : list_any (λ (row : Holder × ℕ). unit row.0) (rows e.held) ≡ false =
    some_row unit unit (rows e.held) (rows_positive e.held) ∙ ap (nat_lt 0) (total-rows unit e.held ∙ nothing) in
    none_of_both (λ (row : Holder × ℕ). unit row.0) (λ (row : Holder × ℕ). test row.0.1.1) (rows e.held) no_row

pub nothing_short : (a : UniversalAsset) (e r : ChainEntry) → amount_at a every e ≡ 0 → is_short a e (Some r) ≡ false
nothing_short a e r nothing =
    let kept = amount_for (chain_of_entry e) a every r in
    let test : Option Instance → Bool = λ instance. nat_eq (amount_for (chain_of_entry e) a (just instance) r) 0 in
    or_from (nat_lt kept (amount_at a every e)) (any_instance a e test) (ap (nat_lt kept) nothing ∙ never_below kept) (none_held a e test nothing)

-- ---- it has amounts
module _ (path : List Junction) where
  abbrev pub coin : UniversalAsset
  coin = (path, Fungible)

  no_class : (context : List Junction) (u : Unit) (b : Bool) → ((leads_to_path context path u.0 && same_kind Class Fungible) && b) ≡ false
  no_class context u b = and_left (leads_to_path context path u.0 && false) b (and_right (leads_to_path context path u.0) false refl)

  no_unit : (context : List Junction) (u : Unit) (test : Option Instance → Bool) → test None ≡ false → (is_unit_at context coin every u && test u.1) ≡ false
  no_unit context (id, None) test none = and_right (is_unit_at context coin every (id, None)) (test None) none
  no_unit context (id, Some instance) test none = and_left (is_unit_at context coin every (id, Some instance)) (test (Some instance)) (no_class context (id, Some instance) true)

  no_units : (context : List Junction) (test : Option Instance → Bool) → test None ≡ false → (es : List (Holder × ℕ))
      → list_any (λ (row : Holder × ℕ). is_unit_at context coin every row.0.1 && test row.0.1.1) es ≡ false
  no_units context test none [] = refl
  no_units context test none (row ∷ es) =
      or_from (is_unit_at context coin every row.0.1 && test row.0.1.1) (list_any (λ (r : Holder × ℕ). is_unit_at context coin every r.0.1 && test r.0.1.1) es)
      (no_unit context row.0.1 test none) (no_units context test none es)

  no_instance : (e : ChainEntry) (test : Option Instance → Bool) → test None ≡ false → any_instance coin e test ≡ false
  no_instance e test none = no_units (context_of e.table) test none (rows e.held)

  just_one : (context : List Junction) (u : Unit) → is_unit_at context coin (just None) u ≡ is_unit_at context coin every u
  just_one context (id, None) = refl
  just_one context (id, Some instance) = no_class context (id, Some instance) (just None (Some instance)) ∙ sym (no_class context (id, Some instance) true)

  one_amount : (chain : ChainId) (r : ChainEntry) → amount_for chain coin (just None) r ≡ amount_for chain coin every r
  one_amount chain r = λ i. total (λ (h : Holder). is_account (sovereign_account (chain_of_entry r) chain) h && just_one (context_of r.table) h.1 i) r.held

  pub all_covered : (e r : ChainEntry) → (amount_for (chain_of_entry e) coin every r ≡ 0 → ⊥) → nat_lt (amount_for (chain_of_entry e) coin every r) (amount_at coin every e) ≡ false
      → is_short coin e (Some r) ≡ false
  all_covered e r some enough =
      let kept = amount_for (chain_of_entry e) coin every r in
      let test : Option Instance → Bool = λ instance. nat_eq (amount_for (chain_of_entry e) coin (just instance) r) 0 in
      or_from (nat_lt kept (amount_at coin every e)) (any_instance coin e test) enough
      (no_instance e test (ap (λ n. nat_eq n 0) (one_amount (chain_of_entry e) r) ∙ ne_eqb kept 0 some))

  pub none_shared : (e d : ChainEntry) → shares_instance coin e d ≡ false
  none_shared e d = and_right _ _ (no_instance e _ refl)

-- no later chain shares an instance of what has amounts
none_later : (e : ChainEntry) (x : AssetRow) → x.kind ≡ Fungible → (later : List ChainEntry) → first_sharing e x later ≡ None
none_later e x is [] = refl
none_later e x is (d ∷ later) =
    let apart : shares_instance (path_of_row e.table x, x.kind) e d ≡ false = ap (λ k. shares_instance (path_of_row e.table x, k) e d) is ∙ none_shared (path_of_row e.table x) e d in
    ap (λ b. option_or (when b (InstanceTwice, chain_of_entry e, chain_of_entry d)) (first_sharing e x later)) apart ∙ none_later e x is later

pub none_sharing : (e : ChainEntry) (later : List ChainEntry) (x : AssetRow) → same_kind x.kind Fungible ≡ true → None ≡ row_sharing e later x
none_sharing e later x told =
    let none = none_later e x (fungible_told x.kind told) later in
    sym (elim (is_native_role x.role) as (λ b. (if b then first_sharing e x later else None) ≡ None) [ true ↦ none | false ↦ refl ])
