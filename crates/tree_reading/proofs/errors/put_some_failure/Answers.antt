use Rattle.std.proofs.Common.{◌≡◌, ◌∙◌, [], ◌∷◌, ◌++◌, refl, ap, arith, append_assoc}
use Rattle.std.specs.Prelude.{decimal}
use Rattle.scale_codec.specs.Spelling.{fixed}
use Rattle.operands.specs.Texts.{error_text}
use Rattle.xcm_format.specs.Parts.{xcm_error, FitsError, failure, FitsFailure}
use Rattle.tree_reading.specs.Errors.{some_failure_text}
use Rattle.tree_reading.proofs.Bytes.{bytes_back}
use Rattle.tree_reading.proofs.Solid.{solid_decimal}
use Rattle.tree_reading.proofs.Behind.{put_behind}
use Rattle.tree_reading.proofs.errors.put_some_failure.Goals as goal

pub returns-in_default : goal.returns-in_default
returns-in_default c = λ f fits bytes e. absurd (rw c.in_default.is at (c.at_space.ensures (decimal f.0) (error_text f.1) (solid_decimal f.0 (omega (arith, fits.0))) e))

pub returns-in_default-index_of : goal.returns-in_default-index_of
returns-in_default-index_of c = λ f fits bytes e.
    let cut = rw c.in-Some.is at (c.at_space.ensures (decimal f.0) (error_text f.1) (solid_decimal f.0 (omega (arith, fits.0))) e) in
    absurd (cc (c.in_default-index_of.is, c.index_of.ensures f.0 fits.0 cut.0))

pub returns : goal.returns
returns c =
    put_behind FitsFailure some_failure_text (λ f. 1 ∷ failure f) FitsError error_text xcm_error c.args.text.now c.in-Some.error.now c.put_error.result c.args.out.now c.put_u32.new.self c.put_error.new.out
    (λ f fits bytes e.
    let cut = rw c.in-Some.is at (c.at_space.ensures (decimal f.0) (error_text f.1) (solid_decimal f.0 (omega (arith, fits.0))) e) in
    let same : c.in-Some-index_of.index ≡ f.0 = cc (c.in-Some-index_of.is, c.index_of.ensures f.0 fits.0 cut.0) in
    record {
      value = f.1;
      fits = fits.1;
      bytes = bytes_back (fixed 4 f.0) (xcm_error f.1) bytes.1;
      words = cut.1;
      front = 1 ∷ fixed 4 f.0;
      put = c.in_ok-put_u32.ensures.ok ∙ ap (λ t. t ++ fixed 4 c.in-Some-index_of.index) c.in_ok-put_u8.ensures.ok ∙ ap (λ n. (c.args.out.now ++ 1 ∷ []) ++ fixed 4 n) same ∙ append_assoc c.args.out.now (1 ∷ []) (fixed 4 f.0);
      spelled = refl;
    })
    c.put_error.ensures
