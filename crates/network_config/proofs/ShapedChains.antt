-- For proofs alone: a reader may skip this file. What the forms of chains and of the document give is in its ranges.
use Rattle.std.specs.Prelude.{ℕ, ◌+◌, ◌<◌, ◌^◌, List, [], ◌∷◌, length, bytes_eq, codes, Bool, true, false, ◌&&◌, ◌||◌, nat_le, Option, Some, None, is_some, is_none, Result, Ok, Err, is_ok, ⊤, if◌then◌else◌}
use Rattle.std.specs.List.{list_any, list_all, AllByRecursion}
use Rattle.std.specs.Option.{option_map}
use Rattle.std.proofs.Common.{◌≡◌, ◌∙◌, refl, sym, ap, subst, arith}
use Rattle.std.proofs.lemmas.Bool.{and_parts, and_from, leb-true, false≢true}
use Rattle.serde_json.specs.Data.{Data, null, boolean, number, string, array, object, Items, no_items, item}
use Rattle.serde_json.specs.Find.{as_object, get}
use Rattle.locations.specs.declared.grammar.NetworkId.{NetworkId}
use Rattle.locations.specs.declared.grammar.NetworkId.TheVariants.{ByGenesis, Polkadot, Kusama, Westend, Rococo, Wococo}
use Rattle.chain_ids.specs.declared.chain.ChainId.{ChainId}
use Rattle.chain_ids.specs.declared.chain.ChainId.TheVariants.{Relay, Para}
use Rattle.chain_ids.specs.Chains.{same_chain}
use Rattle.trust_tables.specs.Accounts.{IsChain}
use Rattle.trust_tables.specs.declared.rows.AssetRow.{AssetRow}
use Rattle.network_spec.specs.declared.chain.Balance.{Balance}
use Rattle.network_spec.specs.declared.chain.ChainSpec.{ChainSpec}
use Rattle.network_spec.specs.declared.network.NetworkSpec.{NetworkSpec}
use Rattle.document_entries.specs.declared.fault.NetworkFault.{NetworkFault}
use Rattle.document_entries.specs.declared.fault.NetworkFault.TheVariants.{BadValue, LimitPassed}
use Rattle.document_entries.specs.declared.fault.Place.{Place}
use Rattle.document_entries.specs.declared.fault.Section.{Section}
use Rattle.document_entries.specs.declared.fault.Section.TheVariants.{Rates, Assets, Accounts, Pallets, Queries, Pools}
use Rattle.document_entries.specs.Forms.{Form, ◌>>=◌, ◌>>◌, or_fault, where_true, fields, of_optional, defaulted, number_within, text, bytes32_form, bytes32, prepended_result, next_index, entries, count, list_field}
use Rattle.document_entries.specs.Entries.{made, u32, rate, asset_row, account, pallet, query, pool, channel_entry}
use Rattle.network_config.specs.declared.head.ChainHead.{ChainHead}
use Rattle.network_config.specs.declared.head.Served.{Served}
use Rattle.network_config.specs.Chains.{top, fields_of, in_chain, channel_at, para_field, weight_field, no_account, chain_head, flag_or_false, short_list, checked_lists, entries_field, barriers_field, chain_fields, with_head, own_chain_fields, chain_entry}
use Rattle.network_config.specs.Document.{network_of_text, network_id_form, has_fees, is_relay_entry, has_relay, chain_count, chains_list, top_fields, shapes}
use Rattle.network_config.specs.Valid.{is_between, fits_rate, fits_role, fits_asset, fits_pallet, fits_pool, fits_chain, fits_channel, is_named}
use Rattle.network_config.proofs.Lemmas.Faultless.{ok_both}
use Rattle.network_config.proofs.Lemmas.Arranged.{is_relay}
use Rattle.network_config.proofs.Shaped.{Gives, ok_gives, err_gives, one_by_one, with_first, after, after_ok, weaker, where_gives, defaulted_gives, number_gives, rate_gives, asset_gives, account_gives, pallet_gives, pool_gives, channel_gives}

-- ---- lists of entries

-- each element beside what is made of it
abbrev pub Match : {X : Type 0} → (Data → X → Type 0) → Items → List X → Type 0
Match R no_items [] = ⊤
Match R no_items (x ∷ xs) = ⊥
Match R (item v vs) [] = ⊥
Match R (item v vs) (x ∷ xs) = R v x × Match R vs xs

module _ {X : Type 0} (R : Data → X → Type 0) where
  onto_gives : (v : Data) (vs : Items) (x : X) (r : Result (List X) NetworkFault) → R v x → Gives (Match R vs) r → Gives (Match R (item v vs)) (prepended_result x r)
  onto_gives v vs x (Ok xs) h g = ok_gives (Match R (item v vs)) (x ∷ xs) (h, g.given xs refl)
  onto_gives v vs x (Err fault) h g = err_gives (Match R (item v vs)) fault

  pub entries_gives : (form : ℕ → Data → Result X NetworkFault) → ((i : ℕ) (v : Data) → Gives (R v) (form i v)) → (i : ℕ) (items : Items) → Gives (Match R items) (entries form i items)
  unfolding entries
  entries_gives form k i no_items = ok_gives (Match R no_items) [] tt
  entries_gives form k i (item v vs) =
      with_first (form i v) _ (k i v) (λ x h. onto_gives v vs x (entries form (next_index i) vs) h (entries_gives form k (next_index i) vs))

  pub match_length : (items : Items) (xs : List X) → Match R items xs → length xs ≡ count items
  match_length no_items [] m = refl
  match_length no_items (x ∷ xs) m = absurd m
  match_length (item v vs) [] m = absurd m
  match_length (item v vs) (x ∷ xs) m = let rest = match_length vs xs m.1 in omega (arith, rest)

  pub match_all : (P : X → Type 0) → ((v : Data) (x : X) → R v x → P x) → (items : Items) (xs : List X) → Match R items xs → AllByRecursion P xs
  match_all P k no_items [] m = tt
  match_all P k no_items (x ∷ xs) m = tt_of m
    where
      tt_of : ⊥ → AllByRecursion P (x ∷ xs)
      tt_of e = absurd e
  match_all P k (item v vs) [] m = tt
  match_all P k (item v vs) (x ∷ xs) m = (k v x m.0, match_all P k vs xs m.1)

  pub match_test : (p : X → Bool) → ((v : Data) (x : X) → R v x → p x ≡ true) → (items : Items) (xs : List X) → Match R items xs → list_all p xs ≡ true
  match_test p k no_items [] m = refl
  match_test p k no_items (x ∷ xs) m = absurd m
  match_test p k (item v vs) [] m = refl
  match_test p k (item v vs) (x ∷ xs) m = and_from (p x) (list_all p xs) (k v x m.0) (match_test p k vs xs m.1)

-- ---- fields that are lists

abbrev IsShort : ℕ → Items → Type 0
IsShort most items = nat_le (count items) most ≡ true

ok_where : {X : Type 0} (fault : NetworkFault) (b : Bool) (x : X) → is_ok (where_true fault b x) ≡ true → b ≡ true
ok_where fault true x h = refl
ok_where fault false x h = h

short_gives : (name : List ℕ) (most : ℕ) (place : Place) (value : Data) → is_ok (short_list name most place value) ≡ true → Gives (IsShort most) (list_field name place value)
unfolding short_list
short_gives name most place value h =
    record {
      given = λ items e.
          ok_where (LimitPassed place) (nat_le (count items) most) items (subst (λ (r : Result Items NetworkFault). is_ok (r >>= λ listed. where_true (LimitPassed place) (nat_le (count listed) most) listed) ≡ true) e h);
    }

module _ {X : Type 0} (p : X → Bool) (name : List ℕ) (section : Section) (form : Form X) (chain : ℕ) (value : Data) (k : (place : Place) (v : Data) → Gives (λ x. p x ≡ true) (form place v)) where
  read_gives : (items : Items) → Gives (Match (λ v x. p x ≡ true) items) (entries (λ index. form (in_chain chain section index)) 0 items)
  read_gives items = entries_gives (λ v x. p x ≡ true) (λ index. form (in_chain chain section index)) (λ i v. k (in_chain chain section i) v) 0 items

  field_gives : Gives (λ xs. list_all p xs ≡ true) (entries_field name section form chain value)
  field_gives =
      one_by_one (list_field name (fields_of chain) value) _ (λ items e.
      weaker _ (entries (λ index. form (in_chain chain section index)) 0 items) (λ xs m. match_test (λ v x. p x ≡ true) p (λ v x e. e) items xs m) (read_gives items))

  short_field_gives : (most : ℕ) → Gives (IsShort most) (list_field name (fields_of chain) value) → Gives (λ xs. (list_all p xs ≡ true) × (nat_le (length xs) most ≡ true)) (entries_field name section form chain value)
  short_field_gives most short =
      with_first (list_field name (fields_of chain) value) _ short (λ items few.
      weaker _ (entries (λ index. form (in_chain chain section index)) 0 items) (λ xs m.
      (match_test (λ v x. p x ≡ true) p (λ v x e. e) items xs m, subst (λ n. nat_le n most ≡ true) (sym (match_length (λ v x. p x ≡ true) items xs m)) few)) (read_gives items))

-- ---- a chain's own fields

abbrev IsNamed : Option Data → ChainId → Type 0
IsNamed o c = IsChain c × (same_chain c Relay ≡ is_none o)

in_32_bits : (n : ℕ) → is_between 0 4294967295 n ≡ true → n < 2 ^ 32
in_32_bits n h = let most = leb-true n 4294967295 (and_parts (nat_le 0 n) (nat_le n 4294967295) h).1 in omega (arith, most)

para_gives : (place : Place) (o : Option Data) → Gives (IsNamed o) (of_optional Relay (made Para u32) place o)
para_gives place None = ok_gives (IsNamed None) Relay (tt, refl)
para_gives place (Some v) = with_first (u32 place v) _ (number_gives 0 4294967295 place v) (λ n w. ok_gives (IsNamed (Some v)) (Para n) (in_32_bits n w, refl))

pub record FitsHead (o : Option Data) (chain_head : ChainHead) : Type 0 where
  pub rules : (is_between 1 100 chain_head.rules.max_instructions && is_between 20 64 chain_head.max_holding) ≡ true
  pub named : IsChain chain_head.chain
  pub relay : same_chain chain_head.chain Relay ≡ is_none o

head_gives : (place : Place) (value : Data) → Gives (FitsHead (get (codes "para") value)) (chain_head place value)
unfolding chain_head
head_gives place value =
    with_first (para_field place value) _ (para_gives place (get (codes "para") value)) (λ chain n.
    one_by_one (weight_field (codes "unit_weight") 1000 100 place value) _ (λ unit e.
    one_by_one (weight_field (codes "max_weight") 1000000000000 5242880 place value) _ (λ limit f.
    with_first (defaulted (codes "max_instructions") 100 (number_within 1 100) place value) _
    (defaulted_gives (codes "max_instructions") 100 (number_within 1 100) place value refl (number_gives 1 100 place)) (λ max_instructions i.
    with_first (defaulted (codes "max_holding") 64 (number_within 20 64) place value) _
    (defaulted_gives (codes "max_holding") 64 (number_within 20 64) place value refl (number_gives 20 64 place)) (λ max_holding h.
    one_by_one (defaulted (codes "fee_account") no_account bytes32_form place value) _ (λ fee_account g.
    ok_gives _ _ (record { rules = and_from (is_between 1 100 max_instructions) (is_between 20 64 max_holding) i h; named = n.0; relay = n.1 })))))))

pub record FitsLists (place : Place) (value : Data) : Type 0 where
  pub assets : Gives (IsShort 128) (list_field (codes "assets") place value)
  pub pallets : Gives (IsShort 64) (list_field (codes "pallets") place value)

abbrev HasFewPools : Place → Data → Type 0
HasFewPools place value = Gives (IsShort 16) (list_field (codes "pools") place value)

lists_give : (place : Place) (value : Data) → is_ok (checked_lists place value) ≡ true → FitsLists place value
unfolding checked_lists
lists_give place value h =
    let rest = parts (list_field (codes "barriers") place value) _ h in
    let rest = parts (list_field (codes "rates") place value) _ rest.1 in
    let assets = parts (short_list (codes "assets") 128 place value) _ rest.1 in
    let rest = parts (list_field (codes "accounts") place value) _ assets.1 in
    let pallets = parts (short_list (codes "pallets") 64 place value) _ rest.1 in
    record { assets = short_gives (codes "assets") 128 place value assets.0; pallets = short_gives (codes "pallets") 64 place value pallets.0 }
  where
    parts : {A B : Type 0} (r : Result A NetworkFault) (s : Result B NetworkFault) → is_ok (r >> s) ≡ true → (is_ok r ≡ true) × (is_ok s ≡ true)
    parts r s h = and_parts (is_ok r) (is_ok s) (sym (ok_both r s) ∙ h)

abbrev FitsOwn : Place → Data → ChainHead × Served → Type 0
FitsOwn place value own =
    FitsHead (get (codes "para") value) own.0 × FitsLists place value × HasFewPools place value × (is_some (as_object value) ≡ true)

is_object : (names : List (List ℕ)) (place : Place) (value : Data) → is_ok (fields names place value) ≡ true → is_some (as_object value) ≡ true
unfolding fields
is_object names place null h = absurd (false≢true h)
is_object names place (boolean b) h = absurd (false≢true h)
is_object names place (number n) h = absurd (false≢true h)
is_object names place (string s) h = absurd (false≢true h)
is_object names place (array items) h = absurd (false≢true h)
is_object names place (object ms) h = refl

own_gives : (more : Bool) (place : Place) (value : Data) → Gives (FitsOwn place value) (own_chain_fields more place value)
unfolding own_chain_fields
own_gives more place value =
    after_ok (fields (chain_fields more) place value) _ (λ o.
    with_first (chain_head place value) _ (head_gives place value) (λ h fits.
    after_ok (checked_lists place value) _ (λ l.
    one_by_one (flag_or_false (codes "calls") place value) _ (λ calls c.
    one_by_one (flag_or_false (codes "locks") place value) _ (λ locks k.
    after_ok (short_list (codes "pools") 16 place value) _ (λ p.
    ok_gives (FitsOwn place value) (h, record { calls = calls; locks = locks })
    (fits, lists_give place value l, short_gives (codes "pools") 16 place value p, is_object (chain_fields more) place value o)))))))

-- ---- a chain

pub record FitsChain (value : Data) (c : ChainSpec) : Type 0 where
  pub fits : fits_chain c ≡ true
  pub named : IsChain c.chain
  pub relay : is_relay c ≡ is_relay_entry value

pub chain_gives : (more : Bool) (chain : ℕ) (value : Data) → Gives (FitsChain value) (chain_entry more chain value)
unfolding chain_entry
chain_gives more chain value =
    with_first (own_chain_fields more (fields_of chain) value) _ (own_gives more (fields_of chain) value) (λ h own.
    one_by_one (barriers_field chain value) _ (λ barriers e.
    with_first (entries_field (codes "rates") Rates rate chain value) _ (field_gives fits_rate (codes "rates") Rates rate chain value rate_gives) (λ rates r.
    with_first (entries_field (codes "assets") Assets asset_row chain value) _
    (short_field_gives (λ (row : AssetRow). fits_role row.kind row.role) (codes "assets") Assets asset_row chain value asset_gives 128 own.1.assets) (λ assets a.
    with_first (entries_field (codes "accounts") Accounts account chain value) _
    (field_gives (λ (b : Balance). fits_asset b.asset) (codes "accounts") Accounts account chain value account_gives) (λ accounts b.
    with_first (entries_field (codes "pallets") Pallets pallet chain value) _ (short_field_gives fits_pallet (codes "pallets") Pallets pallet chain value pallet_gives 64 own.1.pallets) (λ pallets p.
    one_by_one (entries_field (codes "queries") Queries query chain value) _ (λ queries q.
    with_first (entries_field (codes "pools") Pools pool chain value) _ (short_field_gives fits_pool (codes "pools") Pools pool chain value pool_gives 16 own.2) (λ pools s.
    ok_gives (FitsChain value) (with_head h.0 barriers rates assets accounts pallets queries pools h.1) (record {
      fits = all_fit h.0 barriers rates assets accounts pallets queries pools h.1 own.0.rules a.1 p.1 s.1 r a.0 b p.0 s.0;
      named = own.0.named;
      relay = own.0.relay ∙ ap (λ b. b && is_none (get (codes "para") value)) (sym own.3);
    })))))))))
  where
    all_fit : (h : ChainHead) (barriers : List _) (rates : List _) (assets : List _) (accounts : List _) (pallets : List _) (queries : List _) (pools : List _) (served : Served)
        → (is_between 1 100 h.rules.max_instructions && is_between 20 64 h.max_holding) ≡ true → nat_le (length assets) 128 ≡ true → nat_le (length pallets) 64 ≡ true → nat_le (length pools) 16 ≡ true
        → list_all fits_rate rates ≡ true → list_all (λ (row : AssetRow). fits_role row.kind row.role) assets ≡ true → list_all (λ (b : Balance). fits_asset b.asset) accounts ≡ true → list_all fits_pallet pallets ≡ true
        → list_all fits_pool pools ≡ true → fits_chain (with_head h barriers rates assets accounts pallets queries pools served) ≡ true
    all_fit h barriers rates assets accounts pallets queries pools served l m n o r a b p q =
        and_from _ _ l (and_from _ _ (and_from _ _ m (and_from _ _ n o)) (and_from _ _ r (and_from _ _ a (and_from _ _ b (and_from _ _ p q)))))

-- ---- the document

pub record Shape (spec : NetworkSpec) : Type 0 where
  pub network : is_named spec.network ≡ true
  pub chains : nat_le (if list_any is_relay spec.chains then length spec.chains else length spec.chains + 1) 64 ≡ true
  pub channels : nat_le (length spec.channels) 256 ≡ true
  pub fit_chains : list_all fits_chain spec.chains ≡ true
  pub fit_channels : list_all fits_channel spec.channels ≡ true
  pub named : AllByRecursion (λ (c : ChainSpec). IsChain c.chain) spec.chains

-- the network that a text means, if it means one, can be named
abbrev HasName : Option NetworkId → Type 0
HasName None = ⊤
HasName (Some n) = is_named n ≡ true

either_named : (b : Bool) (n : NetworkId) (o : Option NetworkId) → is_named n ≡ true → HasName o → HasName (if b then Some n else o)
either_named true n o h k = h
either_named false n o h k = k

hash_named : (o : Option (List ℕ)) → HasName (option_map ByGenesis o)
hash_named None = tt
hash_named (Some hash) = refl

text_named : (s : List ℕ) → HasName (network_of_text s)
text_named s =
    either_named (bytes_eq s (codes "Polkadot")) Polkadot _ refl (either_named (bytes_eq s (codes "Kusama")) Kusama _ refl
    (either_named (bytes_eq s (codes "Westend")) Westend _ refl (either_named (bytes_eq s (codes "Rococo")) Rococo _ refl
    (either_named (bytes_eq s (codes "Wococo")) Wococo _ refl (hash_named (bytes32 s))))))

named_gives : (fault : NetworkFault) (o : Option NetworkId) → HasName o → Gives (λ n. is_named n ≡ true) (or_fault fault o)
named_gives fault None h = err_gives _ fault
named_gives fault (Some n) h = ok_gives _ n h

network_gives : (place : Place) (value : Data) → Gives (λ n. is_named n ≡ true) (network_id_form place value)
unfolding network_id_form
network_gives place value = one_by_one (text place value) _ (λ s e. named_gives (BadValue place) (network_of_text s) (text_named s))

few_give : (place : Place) (value : Data) → Gives (λ items. nat_le (chain_count items) 64 ≡ true) (chains_list place value)
unfolding chains_list
few_give place value = one_by_one (list_field (codes "chains") place value) _ (λ items e. where_gives (LimitPassed place) (nat_le (chain_count items) 64) items (λ h. h))

few_channels : (place : Place) (value : Data) → Gives (IsShort 256) (short_list (codes "channels") 256 place value)
unfolding short_list
few_channels place value = one_by_one (list_field (codes "channels") place value) _ (λ items e. where_gives (LimitPassed place) (nat_le (count items) 256) items (λ h. h))

match_relay : (items : Items) (cs : List ChainSpec) → Match FitsChain items cs → list_any is_relay cs ≡ has_relay items
match_relay no_items [] m = refl
match_relay no_items (c ∷ cs) m = absurd m
match_relay (item v vs) [] m = absurd m
match_relay (item v vs) (c ∷ cs) m = λ i. m.0.relay i || match_relay vs cs m.1 i

pub shapes_give : (value : Data) → Gives Shape (shapes value)
unfolding shapes
shapes_give value =
    after (fields top_fields top value) _
    (with_first (defaulted (codes "network") Polkadot network_id_form top value) _ (defaulted_gives (codes "network") Polkadot network_id_form top value refl (network_gives top)) (λ id named.
    with_first (chains_list top value) _ (few_give top value) (λ chain_items few.
    with_first (short_list (codes "channels") 256 top value) _ (few_channels top value) (λ channel_items short.
    one_by_one (defaulted (codes "format") false has_fees top value) _ (λ fees f.
    with_first (entries (chain_entry fees) 0 chain_items) _ (entries_gives FitsChain (chain_entry fees) (chain_gives fees) 0 chain_items) (λ chains m.
    with_first (entries (λ index. channel_entry fees (channel_at index)) 0 channel_items) _
    (entries_gives (λ v c. fits_channel c ≡ true) (λ index. channel_entry fees (channel_at index)) (λ i v. channel_gives fees (channel_at i) v) 0 channel_items) (λ channels n.
    ok_gives Shape (record { network = id; chains = chains; channels = channels }) (record {
      network = named;
      chains = subst (λ count. nat_le count 64 ≡ true) (sym (counted chain_items chains m)) few;
      channels = subst (λ count. nat_le count 256 ≡ true) (sym (match_length (λ v c. fits_channel c ≡ true) channel_items channels n)) short;
      fit_chains = match_test FitsChain fits_chain (λ v c h. h.fits) chain_items chains m;
      fit_channels = match_test (λ v c. fits_channel c ≡ true) fits_channel (λ v c h. h) channel_items channels n;
      named = match_all FitsChain (λ (c : ChainSpec). IsChain c.chain) (λ v c h. h.named) chain_items chains m;
    }))))))))
  where
    counted : (items : Items) (cs : List ChainSpec) → Match FitsChain items cs → (if list_any is_relay cs then length cs else length cs + 1) ≡ chain_count items
    counted items cs m = λ i. if match_relay items cs m i then match_length FitsChain items cs m i else match_length FitsChain items cs m i + 1
