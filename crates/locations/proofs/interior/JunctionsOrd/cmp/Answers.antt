use Rattle.locations.proofs.DerivedOrders.{counted}
use Rattle.locations.proofs.interior.JunctionsOrd.cmp.Goals as goal

pub returns : goal.returns
returns c = counted _ _ _ _ _ _ _ c.items-ours.ensures.value c.items-theirs.ensures.value c.cmp.ensures c.cmp-2.ensures c.then.ensures
