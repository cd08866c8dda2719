-- What a run over a source and a sink did.
use Rattle.std.specs.Prelude.{◌≡◌, ◌≢◌, ◌⊎◌, ℕ, List, [], Bool, false, Option, Result, Ok, IfSome, String}
use Rattle.std.specs.declared.alloc.Global.{Global}
use Rattle.std.specs.Io.KnownBytes.{Appends, Consumes}
use Rattle.xcm_io.specs.Bytes.{IsFront}
use Rattle.line_serving.specs.Replies.{so_far, ends}
use Rattle.line_serving.specs.Serving.{FailedInLine, FailedAtEnd, StoppedAtLimit, ReadInTime}
use Rattle.line_serving.specs.declared.status.Status.{Status}
use Rattle.line_serving.specs.declared.status.Status.TheVariants.{Done, ReadFault, WriteFault, TooLong}
use Rattle.xcm_cli.specs.Report.{lines_reply, lines_room, report}
use Rattle.xcm_cli.specs.Words.{task_of, reads}
use Rattle.xcm_cli.specs.declared.words.Task.TheVariants.{Run}

-- These bytes were taken, and a prefix of their report was written, which is one of the whole input's too. With the words of a run the four further
-- parts hold; with other words nothing is taken.
pub record ServesWords {E : Type 0} (words : List (String Global))
    (left rest old new : Option (List ℕ)) (result : Result Status E) : Type 0 where
  pub taken : List ℕ
  pub consumed : Consumes left rest taken
  pub text : List ℕ
  pub appends : Appends old new text
  pub front : IsFront text (report words taken)
  pub whole : IfSome left (λ bytes. IsFront text (report words bytes))
  pub read_failed : (audit : Bool) → task_of words ≡ Run audit → result ≡ Ok ReadFault
      → so_far (lines_reply audit) taken ≡ ends text Done
  pub write_failed : (audit : Bool) → task_of words ≡ Run audit → result ≡ Ok WriteFault
      → FailedInLine (lines_reply audit) taken text rest
      ⊎ FailedAtEnd (lines_reply audit) taken text rest
  pub past_limit : (audit : Bool) → task_of words ≡ Run audit → result ≡ Ok TooLong
      → StoppedAtLimit (lines_reply audit) taken text
  pub in_time : (audit : Bool) → task_of words ≡ Run audit
      → ReadInTime (lines_reply audit) lines_room taken text
  pub no_read : reads (task_of words) ≡ false → result ≢ Ok ReadFault
  pub no_limit : reads (task_of words) ≡ false → result ≢ Ok TooLong
  pub none_taken : reads (task_of words) ≡ false → taken ≡ []
