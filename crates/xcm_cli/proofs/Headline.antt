-- From the run over a source and a sink to the run of the words.
use Rattle.std.proofs.Common.{◌≡◌, ◌∙◌, inr, ℕ, List, [], refl, ap, Bool, true, false, Option, Result, Ok, Err, IfOk, IfSome, String, Global}
use Rattle.std.specs.Io.KnownBytes.{Appends}
use Rattle.std.specs.Result.{IsErr}
use Rattle.std.proofs.KnownBytes.{Consumes-nil, Appends-nil}
use Rattle.xcm_cli.specs.declared.words.Task.{Task}
use Rattle.xcm_cli.specs.declared.words.Task.TheVariants.{Run}
use Rattle.xcm_cli.specs.Words.{task_of, reads}
use Rattle.std.proofs.Common.{arith}
use Rattle.line_serving.specs.Replies.{Reply, ends, IsFault}
use Rattle.line_serving.specs.Calls.{Finishes}
use Rattle.line_serving.specs.Serving.{Serves}
use Rattle.line_serving.proofs.Lemmas.{in_time_start}
use Rattle.line_serving.specs.declared.status.Status.{Status}
use Rattle.line_serving.specs.declared.status.Status.TheVariants.{Done}
use Rattle.xcm_cli.specs.Report.{reply, task_reply, report, fate, lines_reply, lines_room}
use Rattle.xcm_cli.specs.Serving.{ServesWords}
use Rattle.plain_lists.proofs.Lemmas.Facts.{every_some, map_some}

pub reply_of : (words : List (String Global)) (task : Task) (bytes : List ℕ) → task_of words ≡ task → reply words bytes ≡ task_reply task bytes
unfolding reply
reply_of words task bytes r = ap (λ t. task_reply t bytes) r

-- a reply has the status and the bytes
told_by : (status : Status) (text : List ℕ) (old new : Option (List ℕ)) (whole : Reply) → whole ≡ ends text status → Appends old new text → (status ≡ whole.status) × Appends old new whole.text
told_by status text old new whole e a = rw e (refl, a)

-- ---- a run of an input

pub answer_run : {E : Type 0} (words : List (String Global)) (audit : Bool) (left rest old new : Option (List ℕ)) (result : Result Status E) → task_of words ≡ Run audit → Serves (lines_reply audit) lines_room left rest old new result
    → IfOk result (λ status. (IsFault status → ⊥) → IfSome left (λ bytes. (status ≡ fate words bytes) × Appends old new (report words bytes)))
answer_run words audit left rest old new (Ok status) r s = λ n. map_some left _ _
    (λ bytes e. told_by status s.text old new (reply words bytes) (reply_of words (Run audit) bytes r ∙ e) s.appends) (s.ended status refl n)
answer_run words audit left rest old new (Err e) r s = tt

pub front_run : {E : Type 0} (words : List (String Global)) (audit : Bool) (left rest old new : Option (List ℕ)) (result : Result Status E) → task_of words ≡ Run audit → Serves (lines_reply audit) lines_room left rest old new result
    → ServesWords words left rest old new result
front_run words audit left rest old new result r s =
    let read : reads (task_of words) ≡ true = ap reads r in
    record {
      taken = s.taken;
      consumed = s.consumed;
      text = s.text;
      appends = s.appends;
      front = (s.front.0, ap (λ o. o.text) (reply_of words (Run audit) s.taken r) ∙ s.front.1);
      whole = map_some left _ _ (λ bytes f. (f.0, ap (λ o. o.text) (reply_of words (Run audit) bytes r) ∙ f.1)) s.whole;
      read_failed = λ other w e. let same : other ≡ audit = cc in rw same (s.read_failed e);
      write_failed = λ other w e. let same : other ≡ audit = cc in rw same (s.write_failed e);
      past_limit = λ other w e. let same : other ≡ audit = cc in rw same (s.past_limit e);
      in_time = λ other w. let same : other ≡ audit = cc in rw same s.in_time;
      no_read = λ w e. cc;
      no_limit = λ w e. cc;
      none_taken = λ w. absurd cc;
    }

-- ---- what is written without reading

pub answer_written : {E : Type 0} (words : List (String Global)) (whole : Reply) (left old new : Option (List ℕ)) (result : Result Status E) → ((bytes : List ℕ) → reply words bytes ≡ whole) → Finishes whole old new result
    → IfOk result (λ status. (IsFault status → ⊥) → IfSome left (λ bytes. (status ≡ fate words bytes) × Appends old new (report words bytes)))
answer_written words whole left old new (Ok status) same f = λ n. every_some left _
    (λ bytes. told_by status f.text old new (reply words bytes) (same bytes ∙ f.ended status refl (λ w. n (inr w))) f.appends)
answer_written words whole left old new (Err e) same f = tt

pub front_written : {E : Type 0} (words : List (String Global)) (whole : Reply) (left old new : Option (List ℕ)) (result : Result Status E) → ((bytes : List ℕ) → reply words bytes ≡ whole) → reads (task_of words) ≡ false
    → Finishes whole old new result → ServesWords words left left old new result
front_written words whole left old new result same n f = record {
  taken = [];
  consumed = Consumes-nil left;
  text = f.text;
  appends = f.appends;
  front = (f.front.0, ap (λ o. o.text) (same []) ∙ f.front.1);
  whole = every_some left _ (λ bytes. (f.front.0, ap (λ o. o.text) (same bytes) ∙ f.front.1));
  read_failed = λ audit w e. let read : reads (task_of words) ≡ true = ap reads w in absurd cc;
  write_failed = λ audit w e. let read : reads (task_of words) ≡ true = ap reads w in absurd cc;
  past_limit = λ audit w e. let read : reads (task_of words) ≡ true = ap reads w in absurd cc;
  in_time = λ audit w. let read : reads (task_of words) ≡ true = ap reads w in absurd cc;
  no_read = λ w e. f.no_read e;
  no_limit = λ w e. f.long e;
  none_taken = λ w. refl;
}

nothing_begun : lines_room [] 0
nothing_begun = omega arith

nothing_told : (audit : Bool) → lines_reply audit false [] ≡ ends [] Done
unfolding lines_reply
nothing_told audit = refl

-- nothing was read or written
pub front_none : {E : Type 0} (words : List (String Global)) (left known : Option (List ℕ)) (result : Result Status E) → IsErr result → ServesWords words left left known known result
front_none words left known (Ok status) e = absurd cc
front_none words left known (Err gone) e = record {
  taken = [];
  consumed = Consumes-nil left;
  text = [];
  appends = Appends-nil known;
  front = (report words [], refl);
  whole = every_some left _ (λ bytes. (report words bytes, refl));
  read_failed = λ audit w r. absurd cc;
  write_failed = λ audit w r. absurd cc;
  past_limit = λ audit w r. absurd cc;
  in_time = λ audit w. in_time_start (lines_reply audit) lines_room (nothing_told audit) nothing_begun;
  no_read = λ w r. cc;
  no_limit = λ w r. cc;
  none_taken = λ w. refl;
}
