use Rattle.std.proofs.Common.{◌≡◌, Vec, Global, length, sym, ap, ◌∙◌}
use Rattle.std.specs.Prelude.{None, Some}
use Rattle.asset_lists.specs.declared.units.Asset.{Asset}
use Rattle.asset_lists.specs.Moves.{reanchored_list}
use Rattle.exec_base.specs.Host.{seen_from}
use Rattle.chain_state.specs.Sends.{program_by}
use Rattle.chain_state.specs.PartOf.{part_of}
use Rattle.chain_state.proofs.Queries.{at_some}
use Rattle.chain_state.proofs.Forwarding.{send_list}
use Rattle.chain_state.proofs.Sendable.{around_by}
use Rattle.chain_state.proofs.state.ChainState.encoded_around.Goals as goal

pub encoded_with-requires-clause-places : goal.encoded_with-requires-clause-places
encoded_with-requires-clause-places c =
    let target = c.args.dest.now in
    let list = c.args.list.now in
    let is = λ (xs : Vec Asset Global). reanchored_list target c.path.result list ≡ Some xs.items in
    let some : reanchored_list target c.path.result list ≡ Some c.in-Some.seen.items = at_some (reanchored_list target c.path.result list ≡ None) is c.in_ok-seen.field-0 c.in-Some.seen c.in-Some.is c.in_ok-seen.ensures in
    let named = send_list target c.path.result list c.in-Some.seen.items some in
    named.places

pub encoded_with-requires-clause-some : goal.encoded_with-requires-clause-some
encoded_with-requires-clause-some c =
    let target = c.args.dest.now in
    let list = c.args.list.now in
    let is = λ (xs : Vec Asset Global). reanchored_list target c.path.result list ≡ Some xs.items in
    let some : reanchored_list target c.path.result list ≡ Some c.in-Some.seen.items = at_some (reanchored_list target c.path.result list ≡ None) is c.in_ok-seen.field-0 c.in-Some.seen c.in-Some.is c.in_ok-seen.ensures in
    let named = send_list target c.path.result list c.in-Some.seen.items some in
    named.some ∙ c.requires.some

pub encoded_with-requires-clause-rising : goal.encoded_with-requires-clause-rising
encoded_with-requires-clause-rising c =
    let target = c.args.dest.now in
    let list = c.args.list.now in
    let is = λ (xs : Vec Asset Global). reanchored_list target c.path.result list ≡ Some xs.items in
    let some : reanchored_list target c.path.result list ≡ Some c.in-Some.seen.items = at_some (reanchored_list target c.path.result list ≡ None) is c.in_ok-seen.field-0 c.in-Some.seen c.in-Some.is c.in_ok-seen.ensures in
    let named = send_list target c.path.result list c.in-Some.seen.items some in
    named.rising

pub returns : goal.returns
returns c =
    let p = part_of c.args.self.now in
    let target = c.args.dest.now in
    let list = c.args.list.now in
    let is = λ (xs : Vec Asset Global). reanchored_list target c.path.result list ≡ Some xs.items in
    let some : reanchored_list target c.path.result list ≡ Some c.in-Some.seen.items = at_some (reanchored_list target c.path.result list ≡ None) is c.in_ok-seen.field-0 c.in-Some.seen c.in-Some.is c.in_ok-seen.ensures in
    let named = send_list target c.path.result list c.in-Some.seen.items some in
    let seen : seen_from p target list ≡ Some c.in-Some.seen.items = ap (λ context. reanchored_list target context list) (sym c.path.ensures) ∙ some in
    record { ready = around_by p target (program_by c.args.call c.args.xcm.now) (seen_from p target list) c.in-Some.seen.items (length list) c.encoded_with.result seen named.many c.encoded_with.ensures.ready }
