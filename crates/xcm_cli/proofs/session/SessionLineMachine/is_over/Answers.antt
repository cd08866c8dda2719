use Rattle.std.proofs.Common.{◌≡◌, ◌∙◌, ◌+◌, ◌<◌, ◌≤◌, length, arith, ltb-true, ap, sym, false, true}
use Rattle.std.proofs.lemmas.Bool.{ltb-false}
use Rattle.std.specs.Prelude.{nat_eq, codes}
use Rattle.std.specs.List.{starts_with}
use Rattle.xcm_cli.specs.Session.{reply_at}
use Rattle.xcm_cli.specs.Laws.{at_steps}
use Rattle.xcm_cli.proofs.Lemmas.{steps_size, part_size}
use Rattle.xcm_cli.proofs.Advance.{long_step, room_steps, room_network}
use Rattle.xcm_cli.proofs.Marks.{over_network}
use Rattle.xcm_cli.proofs.session.SessionLineMachine.is_over.Goals as goal

pub passes_limits-requires-clause-within : goal.passes_limits-requires-clause-within
passes_limits-requires-clause-within c = (steps_size c.args.self.now _ _ c.in-Steps.is c.requires.ready).0

pub returns-in-Steps-clause-over : goal.returns-in-Steps-clause-over
returns-in-Steps-clause-over c t at_end more =
    let past = c.passes_limits.ensures.over t more in
    ap (reply_at c.args.self.now at_end) past.2 ∙ at_steps c.args.self.now _ _ at_end _ c.in-Steps.is ∙ long_step _ _ _ _ _ _ _ _ past.3

pub returns-in-Steps-clause-room : goal.returns-in-Steps-clause-room
returns-in-Steps-clause-room c e = room_steps c.args.self.now _ _ _ c.in-Steps.is (c.passes_limits.ensures.short e) (c.passes_limits.ensures.total e)

pub returns-then-not-starts_with-clause-over : goal.returns-then-not-starts_with-clause-over
returns-then-not-starts_with-clause-over c t at_end more =
    let past : 1048576 < c.len.result + length c.args.pending.now = ltb-true 1048576 _ t in
    let unlike : starts_with nat_eq (codes "---\r") c.args.pending.now ≡ false = sym c.starts_with.ensures.value ∙ c.if-not-starts_with.true in
    over_network c.args.self.now c.args.pending.now _ at_end more c.requires.open c.in-Network.is unlike (omega (arith, c.len.ensures, c.in-Network.part.ok))

pub returns-then-not-starts_with-clause-short : goal.returns-then-not-starts_with-clause-short
returns-then-not-starts_with-clause-short c e =
    let total : c.len.result + length c.args.pending.now ≤ 1048576 = ltb-false 1048576 _ e in
    let size = (part_size c.args.self.now _ c.in-Network.is c.requires.ready).0 in
    omega (arith, size, c.len.ensures, c.in-Network.part.ok)

pub returns-else-not-starts_with-clause-short : goal.returns-else-not-starts_with-clause-short
returns-else-not-starts_with-clause-short c e =
    let begins : c.starts_with.result ≡ true = c.if-not-starts_with.false in
    let short : length c.args.pending.now ≤ 4 = omega (arith, c.starts_with.ensures.bound begins) in
    let size = (part_size c.args.self.now _ c.in-Network.is c.requires.ready).1 in
    omega (arith, size, short)

pub returns-then-not-starts_with-clause-room : goal.returns-then-not-starts_with-clause-room
returns-then-not-starts_with-clause-room c e =
    let total : c.len.result + length c.args.pending.now ≤ 1048576 = ltb-false 1048576 _ e in
    let size = (part_size c.args.self.now _ c.in-Network.is c.requires.ready).0 in
    room_network c.args.self.now _ _ c.in-Network.is (omega (arith, size, c.len.ensures, c.in-Network.part.ok))

pub returns-else-not-starts_with-clause-room : goal.returns-else-not-starts_with-clause-room
returns-else-not-starts_with-clause-room c e =
    let begins : c.starts_with.result ≡ true = c.if-not-starts_with.false in
    let short : length c.args.pending.now ≤ 4 = omega (arith, c.starts_with.ensures.bound begins) in
    let size = (part_size c.args.self.now _ c.in-Network.is c.requires.ready).1 in
    room_network c.args.self.now _ _ c.in-Network.is (omega (arith, size, short))
