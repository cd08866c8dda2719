use Rattle.std.proofs.Common.{◌≡◌, ◌∙◌, Some, map}
use Rattle.scale_codec.specs.Spelling.{joined}
use Rattle.std.proofs.lemmas.Result.{IfOk-weaker}
use Rattle.locations.specs.declared.relative.Location.{Location}
use Rattle.location_wire.specs.Texts.{IsLocation, location_text, path_step_text}
use Rattle.tree_reading.proofs.Paths.{place_text_is}
use Rattle.tree_reading.proofs.places.end_of.Goals as goal

pub returns : goal.returns
returns c =
    IfOk-weaker c.location_of.result (λ o. (l : Location) → IsLocation l → c.as_str.result.now ≡ location_text l → o ≡ Some l)
    (λ o. (l : Location) → IsLocation l → l.parents ≡ 0 → c.args.text.now ≡ joined (map path_step_text l.interior) → o ≡ Some l)
    (λ o read l h none e. read l h (c.as_str.ensures.value ∙ c.in_ok-whole.ensures.ok ∙ place_text_is l c.args.text.now none e))
    c.location_of.ensures
