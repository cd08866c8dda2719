use Rattle.asset_bundles.proofs.Conserving.{trapped_kept, claimed_given, pieces_numbered}
use Rattle.asset_bundles.proofs.Cutting.{all_are_pieces}
use Rattle.asset_bundles.proofs.trap_laws.law_of_traps.Goals as goal

pub returns-clause-kept : goal.returns-clause-kept
returns-clause-kept c = trapped_kept

pub returns-clause-given : goal.returns-clause-given
returns-clause-given c = claimed_given

pub returns-clause-pieces : goal.returns-clause-pieces
returns-clause-pieces c = all_are_pieces

pub returns-clause-numbers : goal.returns-clause-numbers
returns-clause-numbers c = pieces_numbered
