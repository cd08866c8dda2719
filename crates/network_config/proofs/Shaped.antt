-- For proofs alone: a reader may skip this file. What the forms of a document's entries give is in its ranges.
use Rattle.std.specs.Prelude.{ℕ, ◌<◌, List, [], ◌∷◌, length, codes, Bool, true, false, not, ◌&&◌, ◌==◌, nat_lt, nat_le, Option, Some, None, Result, Ok, Err, is_ok, ⊤}
use Rattle.std.specs.Option.{option_map}
use Rattle.std.specs.Str.{is_utf8}
use Rattle.std.specs.Str.Parse.{digits_value}
use Rattle.std.proofs.Common.{◌≡◌, refl, ap, subst, arith}
use Rattle.std.proofs.lemmas.Bool.{and_parts, and_from, lt-ltb, not-true, eqb-false, false≢true}
use Rattle.serde_json.specs.Data.{Data}
use Rattle.serde_json.specs.Find.{get}
use Rattle.operands.specs.declared.version.Version.TheVariants.{V4}
use Rattle.asset_lists.specs.declared.units.Asset.{Asset}
use Rattle.asset_lists.specs.declared.units.AssetId.TheVariants.{Concrete}
use Rattle.asset_lists.specs.declared.units.Fun.{Fun}
use Rattle.asset_lists.specs.declared.units.Fun.TheVariants.{Fungible, NonFungible}
use Rattle.asset_lists.specs.declared.units.Kind.{Kind}
use Rattle.asset_lists.specs.declared.units.Kind.TheVariants as kinds
use Rattle.trust_tables.specs.declared.rows.AssetRole.{AssetRole}
use Rattle.trust_tables.specs.declared.rows.AssetRole.TheVariants.{Native, Derivative}
use Rattle.trust_tables.specs.declared.rows.AssetRow.{AssetRow}
use Rattle.weight_trader.specs.declared.rate.Rate.{Rate}
use Rattle.operands.specs.declared.pallet.PalletInfo.{PalletInfo}
use Rattle.asset_pools.specs.declared.pool.Pool.{Pool}
use Rattle.network_spec.specs.declared.chain.Balance.{Balance}
use Rattle.network_spec.specs.declared.network.ChannelSpec.{ChannelSpec}
use Rattle.document_entries.specs.declared.fault.NetworkFault.{NetworkFault}
use Rattle.document_entries.specs.declared.fault.NetworkFault.TheVariants.{MissingField, BadValue, LimitPassed}
use Rattle.document_entries.specs.declared.fault.Place.{Place}
use Rattle.document_entries.specs.Forms.{Form, ◌>>=◌, ◌>>◌, or_fault, where_true, fields, is_decimal, required_field, needed, of_optional, defaulted, some_of, optional_field, whole_number, number_within, text, bytes32_form, chain, each, is_chain_kind, decimal_below}
use Rattle.document_entries.specs.Entries.{both_fault, one_of, either, made, rate_limit, amount_limit, positive_amount_form, location_form, instance_form, rate, kind, native, with_checking, asset_row, account, u32, pallet_name, pallet, pool, fee, version, channel_fields, channel_entry}
use Rattle.network_config.specs.Valid.{is_between, fits_rate, fits_role, fits_fun, fits_asset, fits_pallet, fits_pool, fits_fee, fits_channel}

-- ---- what is given, where something is

pub record Gives {X : Type 0} (P : X → Type 0) (r : Result X NetworkFault) : Type 0 where
  pub given : (x : X) → r ≡ Ok x → P x

refused : {X : Type 0} (fault : NetworkFault) (x : X) → ◌≡◌ {A = Result X NetworkFault} (Err fault) (Ok x) → ⊥
refused {X = X} fault x e = false≢true (ap (is_ok {T = X} {E = NetworkFault}) e)

value_of : {X : Type 0} → X → Result X NetworkFault → X
value_of d (Ok x) = x
value_of d (Err fault) = d

same_value : {X : Type 0} (x y : X) → ◌≡◌ {A = Result X NetworkFault} (Ok x) (Ok y) → x ≡ y
unfolding value_of
same_value x y e = ap (value_of x) e

pub ok_gives : {X : Type 0} (P : X → Type 0) (x : X) → P x → Gives P (Ok x)
ok_gives P x p = record { given = λ y e. subst P (same_value x y e) p }

pub err_gives : {X : Type 0} (P : X → Type 0) (fault : NetworkFault) → Gives P (Err fault)
err_gives P fault = record { given = λ y e. absurd (refused fault y e) }

pub one_by_one : {A B : Type 0} {Q : B → Type 0} (r : Result A NetworkFault) (f : A → Result B NetworkFault) → ((x : A) → r ≡ Ok x → Gives Q (f x)) → Gives Q (r >>= f)
one_by_one (Ok x) f k = k x refl
one_by_one {Q = Q} (Err fault) f k = err_gives Q fault

pub with_first : {A B : Type 0} {P : A → Type 0} {Q : B → Type 0} (r : Result A NetworkFault) (f : A → Result B NetworkFault) → Gives P r → ((x : A) → P x → Gives Q (f x)) → Gives Q (r >>= f)
with_first r f g k = one_by_one r f (λ x e. k x (g.given x e))

pub after_ok : {A B : Type 0} {Q : B → Type 0} (r : Result A NetworkFault) (s : Result B NetworkFault) → (is_ok r ≡ true → Gives Q s) → Gives Q (r >> s)
after_ok (Ok x) s k = k refl
after_ok {Q = Q} (Err fault) s k = err_gives Q fault

pub after : {A B : Type 0} {Q : B → Type 0} (r : Result A NetworkFault) (s : Result B NetworkFault) → Gives Q s → Gives Q (r >> s)
after r s g = after_ok r s (λ o. g)

pub weaker : {A : Type 0} {P : A → Type 0} (Q : A → Type 0) (r : Result A NetworkFault) → ((x : A) → P x → Q x) → Gives P r → Gives Q r
weaker Q r k g = record { given = λ x e. k x (g.given x e) }

pub anything_gives : {X : Type 0} {r : Result X NetworkFault} → Gives (λ x. ⊤) r
anything_gives = record { given = λ x e. tt }

pub where_gives : {A : Type 0} {P : A → Type 0} (fault : NetworkFault) (b : Bool) (x : A) → (b ≡ true → P x) → Gives P (where_true fault b x)
where_gives {P = P} fault true x k = ok_gives P x (k refl)
where_gives {P = P} fault false x k = err_gives P fault

-- ---- fields

pub needed_gives : {X : Type 0} {P : X → Type 0} (name : List ℕ) (form : Form X) (place : Place) (value : Data) → ((v : Data) → Gives P (form place v)) → Gives P (needed name form place value)
needed_gives name form place value k = one_by_one (required_field name place value) (form place) (λ v e. k v)

pub optional_gives : {X : Type 0} {P : X → Type 0} (missing : X) (form : Form X) (place : Place) (o : Option Data) → P missing → ((v : Data) → Gives P (form place v)) → Gives P (of_optional missing form place o)
optional_gives {P = P} missing form place None m k = ok_gives P missing m
optional_gives missing form place (Some v) m k = k v

pub defaulted_gives : {X : Type 0} {P : X → Type 0} (name : List ℕ) (missing : X) (form : Form X) (place : Place) (value : Data) → P missing → ((v : Data) → Gives P (form place v))
    → Gives P (defaulted name missing form place value)
defaulted_gives name missing form place value m k = optional_gives missing form place (get name value) m k

pub made_gives : {X Y : Type 0} {P : Y → Type 0} (f : X → Y) (form : Form X) (place : Place) (value : Data) → Gives (λ x. P (f x)) (form place value) → Gives P (made f form place value)
made_gives {P = P} f form place value g = with_first (form place value) (λ x. Ok (f x)) g (λ x p. ok_gives P (f x) p)

one_gives : {X : Type 0} {P : X → Type 0} (place : Place) (form other : Form X) (a b : Option Data) → ((v : Data) → Gives P (form place v)) → ((v : Data) → Gives P (other place v))
    → Gives P (one_of place (option_map (form place) a) (option_map (other place) b))
one_gives {P = P} place form other None None j k = err_gives P (MissingField place)
one_gives place form other (Some x) None j k = j x
one_gives place form other None (Some y) j k = k y
one_gives {P = P} place form other (Some x) (Some y) j k = err_gives P (both_fault place (form place x) (other place y))

pub either_gives : {X : Type 0} {P : X → Type 0} (name : List ℕ) (form : Form X) (other_name : List ℕ) (other : Form X) (place : Place) (value : Data)
    → ((v : Data) → Gives P (form place v)) → ((v : Data) → Gives P (other place v)) → Gives P (either name form other_name other place value)
either_gives name form other_name other place value j k = one_gives place form other (get name value) (get other_name value) j k

-- ---- numbers

pub number_gives : (low high : ℕ) (place : Place) (value : Data) → Gives (λ n. is_between low high n ≡ true) (number_within low high place value)
unfolding number_within
number_gives low high place value = one_by_one (whole_number place value) _ (λ n e. where_gives (BadValue place) (is_between low high n) n (λ t. t))

pub decimal_gives : (limit : ℕ) (place : Place) (value : Data) → Gives (λ n. nat_lt n limit ≡ true) (decimal_below limit place value)
unfolding decimal_below
decimal_gives limit place value =
    one_by_one (text place value) _ (λ digits e.
    one_by_one (where_true (BadValue place) (is_decimal digits) (digits_value 10 digits)) _ (λ n d. where_gives (LimitPassed place) (nat_lt n limit) n (λ t. t)))

abbrev pub IsAmount : ℕ → Type 0
IsAmount n = (nat_lt 0 n && nat_lt n amount_limit) ≡ true

not_zero : (n : ℕ) → not (n == 0) ≡ true → nat_lt 0 n ≡ true
not_zero n h = lt-ltb 0 n (above n (eqb-false n 0 (not-true (n == 0) h)))
  where
    above : (n : ℕ) → (n ≡ 0 → ⊥) → 0 < n
    above n e = grind arith

pub amount_gives : (place : Place) (value : Data) → Gives IsAmount (positive_amount_form place value)
unfolding positive_amount_form
amount_gives place value =
    with_first (decimal_below amount_limit place value) _ (decimal_gives amount_limit place value) (λ n below.
    where_gives (BadValue place) (not (n == 0)) n (λ t. and_from (nat_lt 0 n) (nat_lt n amount_limit) (not_zero n t) below))

-- ---- rates

pub rate_gives : (place : Place) (value : Data) → Gives (λ (r : Rate). fits_rate r ≡ true) (rate place value)
unfolding rate
rate_gives place value =
    let number : (name : List ℕ) → Gives (λ n. nat_lt n rate_limit ≡ true) (needed name (decimal_below rate_limit) place value) = λ name. needed_gives name (decimal_below rate_limit) place value (decimal_gives rate_limit place) in
    after (fields (codes "asset" ∷ codes "per_second" ∷ codes "per_mb" ∷ []) place value) _
    (one_by_one (needed (codes "asset") location_form place value) _ (λ asset e.
    with_first (needed (codes "per_second") (decimal_below rate_limit) place value) _ (number (codes "per_second")) (λ per_second p.
    with_first (needed (codes "per_mb") (decimal_below rate_limit) place value) _ (number (codes "per_mb")) (λ per_mb q.
    ok_gives _ (record { asset = asset; per_second = per_second; per_mb = per_mb }) (and_from (nat_lt per_second rate_limit) (nat_lt per_mb rate_limit) p q)))))

-- ---- assets

abbrev Fits : Kind → AssetRole → Type 0
Fits kind role = fits_role kind role ≡ true

abbrev IsBelow : Option ℕ → Type 0
IsBelow None = ⊤
IsBelow (Some n) = nat_lt n amount_limit ≡ true

below_gives : (place : Place) (value : Data) → Gives IsBelow (optional_field (codes "checking") (decimal_below amount_limit) place value)
below_gives place value =
    defaulted_gives (codes "checking") None (some_of (decimal_below amount_limit)) place value tt (λ v.
    with_first (decimal_below amount_limit place v) (λ x. Ok (Some x)) (decimal_gives amount_limit place v) (λ n b. ok_gives IsBelow (Some n) b))

checking_gives : (place : Place) (kind : Kind) (checking : Option ℕ) (role : AssetRole) → Fits kind role → IsBelow checking → Gives (Fits kind) (with_checking place kind checking role)
checking_gives place kind None role f b = ok_gives (Fits kind) role f
checking_gives place kinds.Fungible (Some checking) (Native partners before) f b = ok_gives (Fits kinds.Fungible) (Native partners (Some checking)) b
checking_gives place kinds.Fungible (Some checking) (Derivative reserve) f b = err_gives (Fits kinds.Fungible) (BadValue place)
checking_gives place kinds.Class (Some checking) role f b = err_gives (Fits kinds.Class) (BadValue place)

-- a role that says nothing of a checking account fits each kind
abbrev FitsAll : AssetRole → Type 0
FitsAll role = (kind : Kind) → Fits kind role

native_gives : (place : Place) (value : Data) → Gives FitsAll (made native (each is_chain_kind chain) place value)
native_gives place value = with_first (each is_chain_kind chain place value) _ anything_gives (λ partners a. ok_gives FitsAll (native partners) (λ kind. refl))

derivative_gives : (place : Place) (value : Data) → Gives FitsAll (made Derivative chain place value)
derivative_gives place value = with_first (chain place value) _ anything_gives (λ reserve a. ok_gives FitsAll (Derivative reserve) (λ kind. refl))

pub asset_gives : (place : Place) (value : Data) → Gives (λ (row : AssetRow). fits_role row.kind row.role ≡ true) (asset_row place value)
unfolding asset_row
asset_gives place value =
    after (fields (codes "id" ∷ codes "kind" ∷ codes "native" ∷ codes "reserve" ∷ codes "checking" ∷ []) place value) _
    (one_by_one (needed (codes "id") location_form place value) _ (λ id e.
    one_by_one (defaulted (codes "kind") kinds.Fungible kind place value) _ (λ asset_kind f.
    with_first (either (codes "native") (made native (each is_chain_kind chain)) (codes "reserve") (made Derivative chain) place value) _
    (either_gives (codes "native") (made native (each is_chain_kind chain)) (codes "reserve") (made Derivative chain) place value (native_gives place) (derivative_gives place)) (λ role fits.
    with_first (optional_field (codes "checking") (decimal_below amount_limit) place value) _ (below_gives place value) (λ checking below.
    with_first (with_checking place asset_kind checking role) _ (checking_gives place asset_kind checking role (fits asset_kind) below) (λ new_role new_fits.
    ok_gives _ (record { id = id; kind = asset_kind; role = new_role }) new_fits))))))

-- ---- accounts

fun_gives : (place : Place) (value : Data) → Gives (λ (fun : Fun). fits_fun fun ≡ true) (either (codes "amount") (made Fungible positive_amount_form) (codes "instance") (made NonFungible instance_form) place value)
fun_gives place value =
    either_gives (codes "amount") (made Fungible positive_amount_form) (codes "instance") (made NonFungible instance_form) place value
    (λ v. with_first (positive_amount_form place v) _ (amount_gives place v) (λ n a. ok_gives _ (Fungible n) a))
    (λ v. one_by_one (instance_form place v) _ (λ n e. ok_gives _ (NonFungible n) refl))

pub account_gives : (place : Place) (value : Data) → Gives (λ (b : Balance). fits_asset b.asset ≡ true) (account place value)
unfolding account
account_gives place value =
    after (fields (codes "who" ∷ codes "asset" ∷ codes "amount" ∷ codes "instance" ∷ []) place value) _
    (one_by_one (needed (codes "who") bytes32_form place value) _ (λ who e.
    one_by_one (needed (codes "asset") location_form place value) _ (λ id f.
    with_first (either (codes "amount") (made Fungible positive_amount_form) (codes "instance") (made NonFungible instance_form) place value) _ (fun_gives place value) (λ fun fits.
    ok_gives _ (record { who = who; asset = record { id = Concrete id; fun = fun } }) fits))))

-- ---- pallets

name_gives : (place : Place) (value : Data) → Gives (λ s. is_utf8 s ≡ true) (pallet_name place value)
unfolding pallet_name
name_gives place value =
    one_by_one (text place value) _ (λ s e. where_gives (BadValue place) (nat_le (length s) 48 && is_utf8 s) s (λ h. (and_parts (nat_le (length s) 48) (is_utf8 s) h).1))

pub pallet_gives : (place : Place) (value : Data) → Gives (λ (p : PalletInfo). fits_pallet p ≡ true) (pallet place value)
unfolding pallet
pallet_gives place value =
    after (fields (codes "index" ∷ codes "name" ∷ codes "module_name" ∷ codes "major" ∷ codes "minor" ∷ codes "patch" ∷ []) place value) _
    (one_by_one (needed (codes "index") u32 place value) _ (λ index e.
    with_first (needed (codes "name") pallet_name place value) _ (needed_gives (codes "name") pallet_name place value (name_gives place)) (λ name u.
    with_first (needed (codes "module_name") pallet_name place value) _ (needed_gives (codes "module_name") pallet_name place value (name_gives place)) (λ module_name v.
    one_by_one (needed (codes "major") u32 place value) _ (λ major f.
    one_by_one (needed (codes "minor") u32 place value) _ (λ minor g.
    one_by_one (needed (codes "patch") u32 place value) _ (λ patch h.
    ok_gives _ (record { index = index; name = name; module_name = module_name; major = major; minor = minor; patch = patch }) (and_from (is_utf8 name) (is_utf8 module_name) u v))))))))

pub pool_gives : (place : Place) (value : Data) → Gives (λ (p : Pool). fits_pool p ≡ true) (pool place value)
unfolding pool
pool_gives place value =
    after (fields (codes "first" ∷ codes "second" ∷ codes "fee" ∷ []) place value) _
    (one_by_one (needed (codes "first") location_form place value) _ (λ first e.
    one_by_one (needed (codes "second") location_form place value) _ (λ second f.
    with_first (needed (codes "fee") (number_within 0 999) place value) _ (needed_gives (codes "fee") (number_within 0 999) place value (number_gives 0 999 place)) (λ fee n.
    ok_gives _ (record { first = first; second = second; fee = fee }) n))))

-- ---- channels

abbrev FitsFee : Option Asset → Type 0
FitsFee o = fits_fee o ≡ true

fee_gives : (place : Place) (asset amount_value : Option Data) → Gives FitsFee (fee place asset amount_value)
fee_gives place None None = ok_gives FitsFee None refl
fee_gives place None (Some amount_value) = err_gives FitsFee (MissingField place)
fee_gives place (Some asset_value) amount_value =
    one_by_one (location_form place asset_value) _ (λ id e.
    one_by_one (or_fault (MissingField place) amount_value) _ (λ value f.
    with_first (positive_amount_form place value) _ (amount_gives place value) (λ n a.
    ok_gives FitsFee (Some (record { id = Concrete id; fun = Fungible n })) (and_from (nat_lt 0 n && nat_lt n amount_limit) true a refl))))

pub channel_gives : (fees : Bool) (place : Place) (value : Data) → Gives (λ (c : ChannelSpec). fits_channel c ≡ true) (channel_entry fees place value)
unfolding channel_entry
channel_gives fees place value =
    after (fields (channel_fields fees) place value) _
    (one_by_one (needed (codes "from") chain place value) _ (λ from e.
    one_by_one (needed (codes "to") chain place value) _ (λ to f.
    one_by_one (defaulted (codes "version") V4 version place value) _ (λ number g.
    with_first (defaulted (codes "capacity") 32 (number_within 1 32) place value) _
    (defaulted_gives (codes "capacity") 32 (number_within 1 32) place value refl (number_gives 1 32 place)) (λ capacity c.
    with_first (defaulted (codes "max_size") 65536 (number_within 1 65536) place value) _
    (defaulted_gives (codes "max_size") 65536 (number_within 1 65536) place value refl (number_gives 1 65536 place)) (λ max_size m.
    with_first (fee place (get (codes "fee_asset") value) (get (codes "fee") value)) _ (fee_gives place (get (codes "fee_asset") value) (get (codes "fee") value)) (λ channel_fee h.
    ok_gives _ (record { from = from; channel = record { to = to; version = number; capacity = capacity; max_size = max_size; fee = channel_fee } })
    (and_from (is_between 1 32 capacity) (is_between 1 65536 max_size && fits_fee channel_fee) c (and_from (is_between 1 65536 max_size) (fits_fee channel_fee) m h)))))))))
