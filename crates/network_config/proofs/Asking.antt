-- Queries, entry by entry: what earlier entries are of tells which say the same.
use Rattle.std.proofs.Common.{◌≡◌, ◌∙◌, ℕ, ◌+◌, ◌<◌, List, [], ◌∷◌, ◌++◌, length, get_or, take, drop, refl, ap, sym, Bool, true, false, Option, Ok}
use Rattle.std.specs.Prelude.{not, ◌&&◌, ◌||◌, ◌==◌}
use Rattle.std.specs.List.{list_any}
use Rattle.std.specs.Option.{option_cmp}
use Rattle.std.specs.Ordering.{nat_cmp, eq_by_cmp, is_eq}
use Rattle.std.proofs.lemmas.Bool.{eqb-true, eq-eqb}
use Rattle.std.proofs.lemmas.List.{take_more, get_or_default}
use Rattle.chain_ids.specs.declared.chain.ChainId.{ChainId}
use Rattle.chain_ids.specs.declared.chain.ChainId.TheVariants.{Relay, Para}
use Rattle.chain_ids.specs.Chains.{same_chain}
use Rattle.network_spec.specs.declared.chain.ChainSpec.{ChainSpec}
use Rattle.document_entries.specs.declared.fault.Section.TheVariants.{Queries}
use Rattle.document_entries.specs.declared.stop.Stop.{Stop}
use Rattle.document_entries.specs.Answers.{FailsWith}
use Rattle.document_entries.specs.Forms.{next_index}
use Rattle.network_config.specs.References.{is_other_chain, flaw_at, document_place, each_in, query_flaws}
use Rattle.network_config.specs.Queries.{QueryKey, query_key_cmp, parachain_number, query_key_of, is_asked, query_flaws_beside}
use Rattle.network_config.proofs.Summing.{numbers_same}
use Rattle.network_config.proofs.Checking.{checked, refused}
use Rattle.network_config.proofs.Holding.{itself, stops_with}
use Rattle.plain_lists.proofs.Lemmas.Facts.{equal_then as then_says, same_bools as same_tests}

numbers_tie : (m n : ℕ) → is_eq (nat_cmp m n) ≡ (m == n)
numbers_tie m n = same_tests _ _ (λ t. eq-eqb m n (numbers_same m n t)) (λ t. itself m n (eqb-true m n t))

chains_tie : (a b : ChainId) → is_eq (option_cmp nat_cmp (parachain_number a) (parachain_number b)) ≡ same_chain a b
chains_tie Relay Relay = refl
chains_tie Relay (Para n) = refl
chains_tie (Para m) Relay = refl
chains_tie (Para m) (Para n) = numbers_tie m n

keys_tie : (o q : ℕ × ChainId) → eq_by_cmp query_key_cmp (query_key_of o) (query_key_of q) ≡ ((o.0 == q.0) && same_chain o.1 q.1)
keys_tie o q = then_says (nat_cmp o.0 q.0) (option_cmp nat_cmp (parachain_number o.1) (parachain_number q.1)) ∙ (λ i. numbers_tie o.0 q.0 i && chains_tie o.1 q.1 i)

abbrev pub of_query : QueryKey → ℕ × ChainId → Bool
of_query key o = eq_by_cmp query_key_cmp (query_key_of o) key

same_any : (q : ℕ × ChainId) (xs : List (ℕ × ChainId)) → list_any (of_query (query_key_of q)) xs ≡ list_any (λ (o : ℕ × ChainId). (o.0 == q.0) && same_chain o.1 q.1) xs
same_any q [] = refl
same_any q (x ∷ xs) = λ i. keys_tie x q i || same_any q xs i

flaws_same : (chains : List ChainSpec) (here : ChainId) (earlier : List (ℕ × ChainId)) (query : ℕ × ChainId) (keys : List QueryKey) → ((q : QueryKey) → is_asked keys q ≡ list_any (of_query q) earlier)
    → query_flaws_beside chains here keys query ≡ query_flaws chains here earlier query
flaws_same chains here earlier query keys asked = λ i. record { repeated = (asked (query_key_of query) ∙ same_any query earlier) i; bad = not (is_other_chain chains here query.1); past = false }

any_push : (f : ℕ × ChainId → Bool) (xs : List (ℕ × ChainId)) (x : ℕ × ChainId) → list_any f (xs ++ x ∷ []) ≡ (f x || list_any f xs)
any_push f [] x = refl
any_push f (y ∷ ys) x = ap (λ b. f y || b) (any_push f ys x) ∙ swapped (f y) (f x) (list_any f ys)
  where
    swapped : (a b c : Bool) → (a || (b || c)) ≡ (b || (a || c))
    swapped true true c = refl
    swapped true false c = refl
    swapped false true c = refl
    swapped false false c = refl

asked_more : (old new : List QueryKey) (xs : List (ℕ × ChainId)) (k : ℕ) (x : ℕ × ChainId) → k < length xs → x ≡ get_or xs k x
    → ((q : QueryKey) → is_asked new q ≡ (eq_by_cmp query_key_cmp (query_key_of x) q || is_asked old q)) → ((q : QueryKey) → is_asked old q ≡ list_any (of_query q) (take k xs))
    → (q : QueryKey) → is_asked new q ≡ list_any (of_query q) (take (k + 1) xs)
asked_more old new xs k x l e added asked q = rw (take_more xs k x l, ← e) (added q ∙ ap (λ b. of_query q x || b) (asked q) ∙ sym (any_push (of_query q) (take k xs) x))

-- the entry at an index
module _ (chains : List ChainSpec) (here : ChainId) (chain : Option ℕ) (xs : List (ℕ × ChainId)) (k i : ℕ) (d : ℕ × ChainId) (keys : List QueryKey) (l : k < length xs)
    (entries : each_in (query_flaws chains here) chain Queries 0 [] xs ≡ each_in (query_flaws chains here) chain Queries i (take k xs) (drop k xs))
    (asked : (q : QueryKey) → is_asked keys q ≡ list_any (of_query q) (take k xs)) where
  pub query_refused : (stop : Stop) → FailsWith stop (flaw_at (document_place chain Queries i) (query_flaws_beside chains here keys (get_or xs k d))) → FailsWith stop (each_in (query_flaws chains here) chain Queries 0 [] xs)
  query_refused stop s =
      let same = flaws_same chains here (take k xs) (get_or xs k d) keys asked in
      stops_with stop (flaw_at (document_place chain Queries i) (query_flaws_beside chains here keys (get_or xs k d))) (each_in (query_flaws chains here) chain Queries 0 [] xs) s (λ fault e.
      entries ∙ refused (query_flaws chains here) chain Queries xs k i (get_or xs k d) fault l (get_or_default xs k d (get_or xs k d) l) (ap (flaw_at (document_place chain Queries i)) (sym same) ∙ e))

  pub query_checked : flaw_at (document_place chain Queries i) (query_flaws_beside chains here keys (get_or xs k d)) ≡ Ok tt
      → each_in (query_flaws chains here) chain Queries 0 [] xs ≡ each_in (query_flaws chains here) chain Queries (next_index i) (take (k + 1) xs) (drop (k + 1) xs)
  query_checked e =
      let same = flaws_same chains here (take k xs) (get_or xs k d) keys asked in
      entries ∙ checked (query_flaws chains here) chain Queries xs k i (get_or xs k d) l (get_or_default xs k d (get_or xs k d) l) (ap (flaw_at (document_place chain Queries i)) (sym same) ∙ e)

  pub query_added : (new : List QueryKey) → ((q : QueryKey) → is_asked new q ≡ (eq_by_cmp query_key_cmp (query_key_of (get_or xs k d)) q || is_asked keys q)) → (q : QueryKey) → is_asked new q ≡ list_any (of_query q) (take (k + 1) xs)
  query_added new added = asked_more keys new xs k (get_or xs k d) l (get_or_default xs k d (get_or xs k d) l) added asked
