use Rattle.std.proofs.Common.{◌≡◌, ◌∙◌, ℕ, List, [], ◌∷◌, ◌++◌, map, Option, Some, None, refl, sym, ap, arith}
use Rattle.std.specs.Prelude.{codes, IfSome}
use Rattle.std.proofs.lemmas.List.{append-nil}
use Rattle.scale_codec.specs.Spelling.{optional, joined}
use Rattle.locations.specs.declared.relative.Location.{Location}
use Rattle.location_wire.specs.Spelling.{location, FitsLocation}
use Rattle.location_wire.specs.Texts.{location_text, path_step_text}
use Rattle.message_text.specs.Words.{place_text}
use Rattle.tree_reading.specs.Puts.{AreBytes}
use Rattle.tree_reading.proofs.Behind.{IsEnd, put_behind}
use Rattle.tree_reading.proofs.Paths.{no_word}
use Rattle.tree_reading.proofs.places.put_place.Goals as goal

none : (o : Option Location) → IfSome o FitsLocation → codes "none" ≡ place_text o → 0 ∷ [] ≡ optional location o
unfolding place_text
none None fits e = refl
none (Some l) fits e = absurd (no_word 110 l.parents (codes "one") (joined (map path_step_text l.interior)) (omega (arith, fits.0)) (omega arith) e)

some : (text old : List ℕ) → (text ≡ codes "none" → ⊥) → (o : Option Location) → IfSome o FitsLocation → AreBytes (optional location o) → text ≡ place_text o
    → IsEnd FitsLocation location_text (λ l. 1 ∷ location l) (optional location) o text old old
unfolding place_text
some text old other None fits bytes e = absurd (other e)
some text old other (Some l) fits bytes e = record { value = l; fits = fits; bytes = bytes; words = e; front = []; put = sym (append-nil old); spelled = refl }

pub returns-in_ok-put_u8-in-none : goal.returns-in_ok-put_u8-in-none
returns-in_ok-put_u8-in-none c = λ o fits bytes e. (refl, c.in_ok-put_u8-in-none.ensures.ok ∙ ap (λ t. c.args.out.now ++ t) (none o fits (sym c.in-none.is ∙ e)))

pub returns-in_default : goal.returns-in_default
returns-in_default c =
    put_behind (λ (o : Option Location). IfSome o FitsLocation) place_text (optional location) FitsLocation location_text (λ l. 1 ∷ location l) c.args.text.now c.args.text.now c.put_some_place.result c.args.out.now c.args.out.now c.put_some_place.new.out
    (some c.args.text.now c.args.out.now c.in_default.not-none)
    c.put_some_place.ensures
