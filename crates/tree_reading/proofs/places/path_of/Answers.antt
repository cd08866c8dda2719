use Rattle.std.proofs.Common.{◌≡◌, ◌∙◌, List, Option, Some, refl, sym, map}
use Rattle.std.specs.Prelude.{MatchOption}
use Rattle.scale_codec.specs.Spelling.{joined}
use Rattle.std.proofs.lemmas.Result.{IfOk-weaker}
use Rattle.locations.specs.declared.grammar.Junction.{Junction}
use Rattle.locations.specs.declared.relative.Location.{Location}
use Rattle.location_wire.specs.Spelling.{junctions, FitsJunctions}
use Rattle.location_wire.specs.Texts.{IsLocation, path_text, path_step_text}
use Rattle.tree_reading.specs.Puts.{AreBytes}
use Rattle.tree_reading.proofs.Paths.{as_place, is_place, zero_up, place_steps, slash_alone, path_steps}
use Rattle.tree_reading.proofs.places.path_of.Goals as goal

led : (o : Option Location) (path : List Junction) → o ≡ Some (as_place path) → MatchOption o ⊥ (λ l. l.interior ≡ path)
led o path e = rw e refl

pub returns-in-text : goal.returns-in-text
returns-in-text c = λ path fits bytes e. cc (c.here.ensures, slash_alone path (sym c.in-text.is ∙ e))

pub returns-in_default : goal.returns-in_default
returns-in_default c =
    IfOk-weaker c.end_of.result (λ o. (l : Location) → IsLocation l → l.parents ≡ 0 → c.args.text.now ≡ joined (map path_step_text l.interior) → o ≡ Some l)
    (λ o. (path : List Junction) → FitsJunctions path → AreBytes (junctions path) → c.args.text.now ≡ path_text path → MatchOption o ⊥ (λ l. l.interior ≡ path))
    (λ o read path fits bytes e. led o path (read (as_place path) (is_place path fits bytes) (zero_up path) (place_steps path c.args.text.now (path_steps path c.args.text.now c.in_default.not-text e))))
    c.end_of.ensures
