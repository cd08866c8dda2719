-- How many elements a list has, and whether one of them is the relay chain's entry.
use Rattle.std.proofs.Common.{◌≡◌, List, [], ◌∷◌, length, ◌||◌, refl, ap, arith}
use Rattle.std.specs.List.{list_any}
use Rattle.serde_json.specs.View.{view, items_view}
use Rattle.serde_json.specs.declared.value.Value.{Value}
use Rattle.document_entries.specs.Forms.{count}
use Rattle.network_config.specs.Document.{has_relay, is_relay_entry}

pub count_is : (vs : List Value) → count (items_view vs) ≡ length vs
count_is [] = refl
count_is (v ∷ vs) = let rest = count_is vs in omega arith

pub relay_is : (vs : List Value) → list_any (λ v. is_relay_entry (view v)) vs ≡ has_relay (items_view vs)
relay_is [] = refl
relay_is (v ∷ vs) = ap (λ b. is_relay_entry (view v) || b) (relay_is vs)
