-- Objects, and the names of their members.
use Rattle.std.proofs.Common.{◌≡◌, ◌∙◌, ℕ, List, [], ◌∷◌, map, Bool, ◌&&◌, ◌||◌, refl, ap, sym, Some, String, Global, string_bytes}
use Rattle.std.specs.Prelude.{bytes_eq}
use Rattle.std.specs.List.{list_all, list_any}
use Rattle.serde_json.specs.Data.{Data}
use Rattle.serde_json.specs.Find.{as_object}
use Rattle.serde_json.specs.View.{members_view}
use Rattle.serde_json.specs.declared.value.Value.{Value}
use Rattle.document_entries.specs.declared.fault.NetworkFault.TheVariants.{UnknownField}
use Rattle.document_entries.specs.declared.fault.Place.{Place}
use Rattle.document_entries.specs.Forms.{all_known, fields, where_true}

any_seen : {N : Type 0} (f : N → List ℕ) (names : List N) (name : List ℕ) → list_any (λ known. bytes_eq (f known) name) names ≡ list_any (λ known. bytes_eq known name) (map f names)
any_seen f [] name = refl
any_seen f (n ∷ names) name = ap (λ b. bytes_eq (f n) name || b) (any_seen f names name)

known_is : {N : Type 0} (f : N → List ℕ) (names : List N) (es : List (String Global × Value))
    → list_all (λ name. list_any (λ known. bytes_eq (f known) (string_bytes name)) names) (map (λ p. p.0) es) ≡ all_known (map f names) (members_view es)
known_is f names [] = refl
known_is f names (e ∷ es) = λ i. any_seen f names (string_bytes e.0) i && known_is f names es i

-- what the test of all names says of an object
pub known : {N : Type 0} (f : N → List ℕ) (names : List N) (place : Place) (d : Data) (es : List (String Global × Value)) (b : Bool) → Some (members_view es) ≡ as_object d
    → b ≡ list_all (λ name. list_any (λ known. bytes_eq (f known) (string_bytes name)) names) (map (λ p. p.0) es)
    → fields (map f names) place d ≡ where_true (UnknownField place) b tt
unfolding fields
known f names place d es b o t = rw (← o) (ap (λ x. where_true (UnknownField place) x tt) (sym (known_is f names es) ∙ sym t))
