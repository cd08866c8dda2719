-- What is read can be written.
use Rattle.std.proofs.Common.{◌≡◌, true, List, ◌∷◌, Option, Some, subst, arith}
use Rattle.std.specs.List.{AllByRecursion}
use Rattle.operands.specs.declared.version.Version.{Version}
use Rattle.xcm_program.specs.declared.instruction.Instruction.{Instruction, out-Instruction}
use Rattle.xcm_program.specs.Measure.{inner_of}
use Rattle.xcm_format.specs.Programs.{FitsInstruction, FitsProgram}
use Rattle.xcm_format.specs.Messages.{IsReadable}
use Rattle.xcm_program.specs.Conversions.{HasAmount, HasAmounts, is_convertible}
use Rattle.xcm_format.specs.Writable.{IsNamedHead, IsNamedOne, IsWritable}
use Rattle.xcm_format.proofs.Lemmas.{Inside, fits_open, IsNamedHead-IsOfLayer}
use Rattle.xcm_program.proofs.Lemmas.{HasAmount-IsOfLayer}
use Rattle.xcm_program.proofs.Lemmas.{everywhere_by}
use Rattle.xcm_format.proofs.Lemmas.{named_in}
use Rattle.versioned_xcm.proofs.Lemmas.HeadLaws.Written.{head_named, head_amount}

module _ (v : Version) where
  abbrev Fit : List Instruction → Type 0
  Fit p = AllByRecursion (FitsInstruction v) p

  inside_fits : (i : Instruction) (rest p : List Instruction) → inner_of i ≡ Some p → Fit (i ∷ rest) → Fit p
  inside_fits i rest p is fits = (subst (λ (o : Option (List Instruction)). Inside v o) is (fits_open v i fits.0).1).1

  pub fits_named : (p : List Instruction) → FitsProgram v p → AllByRecursion (IsNamedOne v) p
  fits_named p fits = everywhere_by (IsNamedHead v) (IsNamedHead-IsOfLayer v) Fit (λ i rest h. head_named v (out-Instruction i) (fits_open v i h.0).0) inside_fits (λ i rest h. h.1) p fits.1

  pub fits_amounts : (p : List Instruction) → FitsProgram v p → AllByRecursion HasAmounts p
  fits_amounts p fits = everywhere_by HasAmount HasAmount-IsOfLayer Fit (λ i rest h. head_amount v (out-Instruction i) (fits_open v i h.0).0) inside_fits (λ i rest h. h.1) p fits.1

  pub writable : (p : List Instruction) → IsReadable v p → IsWritable v p
  writable p r = record { few = omega (arith, r.small.few); named = fits_named p r.fits; amounts = fits_amounts p r.fits }

pub writable_in : (v w : Version) (p : List Instruction) → IsReadable v p → is_convertible p ≡ true → IsWritable w p
writable_in v w p r convertible = record { few = omega (arith, r.small.few); named = named_in w p convertible; amounts = fits_amounts v p r.fits }
