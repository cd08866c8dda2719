-- What the reading of a whole call says of the grammar.
use Rattle.std.proofs.Common.{◌≡◌, ◌⊎◌, inl, inr, ℕ, List, [], ◌∷◌, Option, Some, None, Result, Ok, Err, refl, sym, ap, ◌∙◌, subst}
use Rattle.std.specs.Prelude.{MatchResult}
use Rattle.std.proofs.lemmas.List.{append-nil}
use Rattle.scale_codec.specs.Spelling.{Spells}
use Rattle.call_dispatch.specs.declared.faults.CallFault.{CallFault}
use Rattle.call_dispatch.specs.declared.faults.CallFault.TheVariants.{NotACall, Memory}
use Rattle.call_dispatch.specs.Spelling.{AnyCall, call, FitsCall}
use Rattle.call_dispatch.specs.Reading.{call_at, alone, call_of}
use Rattle.call_dispatch.specs.Answers.{IsCallCause}
use Rattle.call_dispatch.proofs.Lemmas.FieldLaws.{call_reads}

-- a call that has a spelling is read again
pub call_again : (c : AnyCall) → FitsCall c → call_of (call c) ≡ Ok c
unfolding call_of
call_again c fits = ap alone (subst (λ bytes. call_at bytes ≡ Some (c, [])) (append-nil (call c)) (call_reads.again c [] fits))

alone_takes : (bytes : List ℕ) (found : Option (AnyCall × List ℕ)) → call_at bytes ≡ found → (c : AnyCall) → alone found ≡ Ok c → Spells call FitsCall c bytes
alone_takes bytes None e c is = absurd cc
alone_takes bytes (Some (d, [])) e c is =
    let t = call_reads.takes bytes d [] e in
    let same : d ≡ c = cc in
    subst (λ (x : AnyCall). Spells call FitsCall x bytes) same (t.1, t.0 ∙ append-nil (call d))
alone_takes bytes (Some (d, byte ∷ rest)) e c is = absurd cc

-- what is read is a call's spelling
pub call_takes : (bytes : List ℕ) (c : AnyCall) → call_of bytes ≡ Ok c → Spells call FitsCall c bytes
unfolding call_of
call_takes bytes c is = alone_takes bytes (call_at bytes) refl c is

-- what isn't read is no call's spelling
pub no_call : (bytes : List ℕ) (e : CallFault) → call_of bytes ≡ Err e → IsCallCause bytes e
no_call bytes NotACall is = λ c spells. let found : call_of bytes ≡ Ok c = ap call_of spells.1 ∙ call_again c spells.0 in absurd cc
no_call bytes Memory is = tt

pub is_answer : (bytes : List ℕ) (r : Result AnyCall CallFault) → (r ≡ Err Memory) ⊎ (r ≡ call_of bytes) → MatchResult r (λ c. Spells call FitsCall c bytes) (IsCallCause bytes)
is_answer bytes (Ok c) (inl is) = absurd cc
is_answer bytes (Ok c) (inr is) = call_takes bytes c (sym is)
is_answer bytes (Err e) (inl is) = let memory : e ≡ Memory = cc in subst (IsCallCause bytes) (sym memory) tt
is_answer bytes (Err e) (inr is) = no_call bytes e (sym is)
