-- The lines of checking accounts, one after the other.
use Rattle.std.proofs.Common.{◌≡◌, ◌∙◌, ℕ, zero, suc, ◌+◌, ◌<◌, ◌≤◌, min, List, [], ◌∷◌, ◌++◌, length, drop, get_or, Option, refl, sym, ap, arith, append_assoc, add-one}
use Rattle.chain_ids.specs.declared.chain.ChainId.{ChainId}
use Rattle.trust_tables.specs.declared.rows.AssetRow.{AssetRow}
use Rattle.step_text.specs.Blocks.{checking_if, checking_text}

no_amounts : (chain : ChainId) (listed : List AssetRow) → checking_text chain listed [] ≡ []
unfolding checking_text
no_amounts chain [] = refl
no_amounts chain (row ∷ listed) = refl

no_rows : (chain : ChainId) (amounts : List (Option ℕ)) → checking_text chain [] amounts ≡ []
unfolding checking_text
no_rows chain amounts = refl

-- the first of what is left
first_left : (chain : ChainId) (listed : List AssetRow) (amounts : List (Option ℕ)) (i : ℕ) (row : AssetRow) (d : Option ℕ) → i < length listed → i < length amounts
    → checking_text chain (drop i listed) (drop i amounts) ≡ checking_if chain (get_or listed i row) (get_or amounts i d) ++ checking_text chain (drop (suc i) listed) (drop (suc i) amounts)
unfolding checking_text
first_left chain [] amounts i row d l m = absurd (omega arith)
first_left chain (r ∷ rs) [] i row d l m = absurd (omega arith)
first_left chain (r ∷ rs) (a ∷ amounts) zero row d l m = refl
first_left chain (r ∷ rs) (a ∷ amounts) (suc i) row d l m = first_left chain rs amounts i row d (omega arith) (omega arith)

pub checking_more : (chain : ChainId) (listed : List AssetRow) (amounts : List (Option ℕ)) (i : ℕ) (row : AssetRow) (d : Option ℕ) (old new whole : List ℕ)
    → i < length listed → i < length amounts → row ≡ get_or listed i row → new ≡ old ++ checking_if chain row (get_or amounts i d)
    → old ++ checking_text chain (drop i listed) (drop i amounts) ≡ whole → new ++ checking_text chain (drop (i + 1) listed) (drop (i + 1) amounts) ≡ whole
checking_more chain listed amounts i row d old new whole l m r n w =
    let rest = checking_text chain (drop (suc i) listed) (drop (suc i) amounts) in
    let line : checking_if chain row (get_or amounts i d) ≡ checking_if chain (get_or listed i row) (get_or amounts i d) = ap (λ x. checking_if chain x (get_or amounts i d)) r in
    rw add-one (ap (λ t. t ++ rest) n
    ∙ append_assoc old (checking_if chain row (get_or amounts i d)) rest
    ∙ ap (λ t. old ++ (t ++ rest)) line
    ∙ ap (λ t. old ++ t) (sym (first_left chain listed amounts i row d l m)) ∙ w)

-- nothing is left where one of the lists has ended
pub none_left : (chain : ChainId) (listed : List AssetRow) (amounts : List (Option ℕ)) (i : ℕ) → min (length listed) (length amounts) ≤ i
    → checking_text chain (drop i listed) (drop i amounts) ≡ []
none_left chain [] amounts zero l = no_rows chain amounts
none_left chain [] amounts (suc i) l = no_rows chain (drop (suc i) amounts)
none_left chain (r ∷ rs) [] zero l = no_amounts chain (r ∷ rs)
none_left chain (r ∷ rs) [] (suc i) l = no_amounts chain (drop i rs)
none_left chain (r ∷ rs) (a ∷ amounts) zero l = absurd (omega arith)
none_left chain (r ∷ rs) (a ∷ amounts) (suc i) l = none_left chain rs amounts i (omega arith)
