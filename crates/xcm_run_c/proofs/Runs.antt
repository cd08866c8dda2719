-- Runs over memory: what their words ask for, and what they leave.
use Rattle.std.proofs.Common.{◌≡◌, ◌∙◌, sym, ap, ℕ, List, [], ◌∷◌, ◌++◌, Bool, true, false, Option, Some, Result, map, get_or, String, string_bytes, codes, bytes_eq}
use Rattle.std.proofs.lemmas.Bool.{cond-true, and_from}
use Rattle.std.specs.declared.alloc.Global.{Global}
use Rattle.xcm_io.specs.Bytes.{IsFront}
use Rattle.line_serving.specs.declared.status.Status.{Status}
use Rattle.line_serving.specs.Replies.{Reply}
use Rattle.xcm_cli.specs.Report.{reply, task_reply, report, fate}
use Rattle.xcm_cli.specs.Serving.{ServesWords}
use Rattle.xcm_run_c.specs.Words.{run_words, run_reply}

-- the words of a run ask for that run
pub reply_of_run : (audit : Bool) (words : List (String Global)) (bytes : List ℕ) → map string_bytes words ≡ run_words audit → reply words bytes ≡ run_reply audit bytes
unfolding reply
reply_of_run false [] bytes e = absurd cc
reply_of_run false (word ∷ []) bytes e =
    ap (λ task. task_reply task bytes) (cond-true _ _ _ (ap (λ text. bytes_eq text (codes "run")) (ap (λ texts. get_or texts 0 []) e)))
reply_of_run false (word ∷ other ∷ words) bytes e = absurd cc
reply_of_run true [] bytes e = absurd cc
reply_of_run true (word ∷ []) bytes e = absurd cc
reply_of_run true (word ∷ other ∷ []) bytes e =
    ap (λ task. task_reply task bytes) (cond-true _ _ _ (and_from _ _ (ap (λ text. bytes_eq text (codes "run")) (ap (λ texts. get_or texts 0 []) e))
    (ap (λ text. bytes_eq text (codes "--audit")) (ap (λ texts. get_or texts 1 []) e))))
reply_of_run true (word ∷ other ∷ more ∷ words) bytes e = absurd cc

-- a prefix of the report is left in what was empty
pub front_left : {E : Type 0} (audit : Bool) (words listed : List (String Global)) (bytes input old new : List ℕ) (rest : Option (List ℕ)) (result : Result Status E)
    → words ≡ listed → map string_bytes listed ≡ run_words audit → bytes ≡ input → old ≡ []
    → ServesWords words (Some bytes) rest (Some old) (Some new) result → IsFront new (run_reply audit input).text
front_left audit words listed bytes input old new rest result same asked given empty served =
    let behind : List ℕ = served.whole.0 in
    let grown : new ≡ served.text = served.appends ∙ ap (λ (front : List ℕ). front ++ served.text) empty in (
      behind,
      ap (λ (it : List ℕ). (run_reply audit it).text) (sym given)
          ∙ ap (λ (r : Reply). r.text) (sym (reply_of_run audit words bytes (ap (map string_bytes) same ∙ asked)))
          ∙ served.whole.1 ∙ ap (λ (text : List ℕ). text ++ behind) (sym grown),
    )

-- the whole report and its end, where nothing failed
pub whole_left : (audit : Bool) (words listed : List (String Global)) (bytes input old new : List ℕ) (status : Status)
    → words ≡ listed → map string_bytes listed ≡ run_words audit → bytes ≡ input → old ≡ []
    → (status ≡ fate words bytes) × (new ≡ old ++ report words bytes)
    → (status ≡ (run_reply audit input).status) × (new ≡ (run_reply audit input).text)
whole_left audit words listed bytes input old new status same asked given empty is =
    let of_input : reply words bytes ≡ run_reply audit input =
    reply_of_run audit words bytes (ap (map string_bytes) same ∙ asked) ∙ ap (run_reply audit) given in (
      is.0 ∙ ap (λ (r : Reply). r.status) of_input,
      is.1 ∙ ap (λ (front : List ℕ). front ++ report words bytes) empty ∙ ap (λ (r : Reply). r.text) of_input,
    )
