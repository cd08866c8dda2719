-- Lists, entry by entry.
use Rattle.std.proofs.Common.{◌≡◌, ◌∙◌, ℕ, ◌+◌, ◌<◌, List, [], ◌∷◌, ◌++◌, length, get_or, drop, refl, ap, sym, arith, Bool, ◌&&◌, Result, Ok, Err, append_assoc, append-nil}
use Rattle.std.proofs.lemmas.List.{drop_more, drop_all}
use Rattle.std.specs.List.{list_all}
use Rattle.serde_json.specs.Data.{Data}
use Rattle.serde_json.specs.View.{view, items_view}
use Rattle.serde_json.specs.declared.value.Value.{Value}
use Rattle.document_entries.specs.declared.fault.NetworkFault.{NetworkFault}
use Rattle.document_entries.specs.declared.fault.NetworkFault.TheVariants.{BadValue, WrongKind}
use Rattle.document_entries.specs.declared.fault.Place.{Place}
use Rattle.document_entries.specs.declared.stop.Stop.{Stop}
use Rattle.document_entries.specs.declared.stop.Stop.TheVariants.{Fault, Memory}
use Rattle.document_entries.specs.Answers.{FailsWith}
use Rattle.document_entries.specs.Forms.{entries, next_index, prepended_result, all_items, two_of, list, passing, is_whole, pair, where_true}

-- what was read so far, before the rest
abbrev pub behind : {X : Type 0} → List X → Result (List X) NetworkFault → Result (List X) NetworkFault
behind done (Ok xs) = Ok (done ++ xs)
behind done (Err fault) = Err fault

pub behind_none : {X : Type 0} (r : Result (List X) NetworkFault) → behind [] r ≡ r
behind_none (Ok xs) = refl
behind_none (Err fault) = refl

behind_onto : {X : Type 0} (done : List X) (x : X) (r : Result (List X) NetworkFault) → behind done (prepended_result x r) ≡ behind (done ++ x ∷ []) r
behind_onto done x (Ok xs) = ap Ok (sym (append_assoc done (x ∷ []) xs))
behind_onto done x (Err fault) = refl

pub entry_read : {X : Type 0} (form : ℕ → Data → Result X NetworkFault) (vs : List Value) (k i : ℕ) (v : Value) (done : List X) (x : X) → k < length vs → v ≡ get_or vs k v → form i (view v) ≡ Ok x
    → behind done (entries form i (items_view (drop k vs))) ≡ behind (done ++ x ∷ []) (entries form (next_index i) (items_view (drop (k + 1) vs)))
unfolding entries
entry_read form vs k i v done x l e r = rw (drop_more vs k v l, ← e, r) (behind_onto done x (entries form (next_index i) (items_view (drop (k + 1) vs))))

pub entry_refused : {X : Type 0} (form : ℕ → Data → Result X NetworkFault) (vs : List Value) (k i : ℕ) (v : Value) (done : List X) (fault : NetworkFault) → k < length vs → v ≡ get_or vs k v → form i (view v) ≡ Err fault
    → behind done (entries form i (items_view (drop k vs))) ≡ Err fault
unfolding entries
entry_refused form vs k i v done fault l e r = rw (drop_more vs k v l, ← e, r) refl

pub entry_stops : {X : Type 0} (form : ℕ → Data → Result X NetworkFault) (vs : List Value) (k i : ℕ) (v : Value) (done : List X) (whole : Result (List X) NetworkFault) (stop : Stop) → k < length vs → v ≡ get_or vs k v
    → whole ≡ behind done (entries form i (items_view (drop k vs))) → FailsWith stop (form i (view v)) → FailsWith stop whole
entry_stops form vs k i v done whole (Fault fault) l e w r = w ∙ entry_refused form vs k i v done fault l e r
entry_stops form vs k i v done whole Memory l e w r = tt

pub entries_end : {X : Type 0} (form : ℕ → Data → Result X NetworkFault) (vs : List Value) (k i : ℕ) (done : List X) → length vs ≡ k → behind done (entries form i (items_view (drop k vs))) ≡ Ok done
unfolding entries
entries_end form vs k i done e = rw (drop_all k vs (omega arith)) (ap Ok (simp append-nil))

pub all_seen : (test : Data → Bool) (vs : List Value) → list_all (λ v. test (view v)) vs ≡ all_items test (items_view vs)
all_seen test [] = refl
all_seen test (v ∷ vs) = ap (λ b. test (view v) && b) (all_seen test vs)

pub not_two : (place : Place) (vs : List Value) → (length vs ≡ 2 → ⊥) → two_of place (items_view vs) ≡ Err (BadValue place)
not_two place [] n = refl
not_two place (a ∷ []) n = refl
not_two place (a ∷ b ∷ []) n = absurd (n refl)
not_two place (a ∷ b ∷ c ∷ vs) n = refl

pub pair_long : (place : Place) (d : Data) (vs : List Value) → passing is_whole place d ≡ Ok (items_view vs) → (length vs ≡ 2 → ⊥) → pair place d ≡ Err (BadValue place)
unfolding pair
pair_long place d vs l n = rw l (not_two place vs n)

-- what the test of all elements says of a list
pub passed : (test : Data → Bool) (place : Place) (d : Data) (vs : List Value) (b : Bool) (is : Bool) → list place d ≡ Ok (items_view vs) → b ≡ list_all (λ v. test (view v)) vs → b ≡ is → passing test place d ≡ where_true (WrongKind place) is (items_view vs)
unfolding passing
passed test place d vs b is l t e = rw (l, ← all_seen test vs, ← t, e) refl
