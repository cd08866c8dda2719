use Rattle.call_dispatch.proofs.Lemmas.ShiftLaws.{accepted, enough_held, restored, undoable}
use Rattle.call_dispatch.proofs.laws.law_of_moving_back.Goals as goal

pub returns : goal.returns
returns c = record {
  accepted = λ m floors rows row from to n kept few none. undoable m row from to n floors rows kept few (accepted m floors rows row from to n none);
  restored = λ m floors rows row from to n none. restored m row from to n (enough_held m floors rows row from to n (accepted m floors rows row from to n none));
}
