use Rattle.chain_state.specs.PartOf.{part_of}
use Rattle.chain_queues.specs.Queues.{waiting_of}
use Rattle.chain_net.proofs.Runs.{begun_is, ran_read, ran_acted, ran_stopped, ran_between, ran_listed, ran_site}
use Rattle.std.proofs.Common.{◌∙◌}
use Rattle.chain_net.proofs.running.run_message.Goals as goal

pub returns-clause-ran : goal.returns-clause-ran
returns-clause-ran c =
    let p = part_of c.args.there.now in
    let message = waiting_of c.args.queued in
    let ran = ran_read c.args.rules.now c.args.from c.args.queued.number c.args.queued.cargo c.as_slice.result.now c.args.queued.bytes.items p (part_of c.begin.new.self) (part_of c.run_bytes-ran.new.there) c.run_bytes-ran.result c.as_slice.ensures.value (c.begin.ensures.begun ∙ begun_is p c.args.from message.cargo c.requires.between.told) c.run_bytes-ran.ensures.outcome c.run_bytes-ran.ensures.part c.run_bytes-ran.ensures.rests c.run_bytes-ran.ensures.stopped in
    ran_acted c.args.rules.now c.args.from message p (part_of c.run_bytes-ran.new.there) (part_of c.finish-left.new.self) c.finish-left.result c.finish-left.ensures.finished c.finish-left.ensures.cargo c.run_bytes-ran.result ran

pub returns-clause-between : goal.returns-clause-between
returns-clause-between c =
    let p = part_of c.args.there.now in
    let message = waiting_of c.args.queued in
    let ran = ran_read c.args.rules.now c.args.from c.args.queued.number c.args.queued.cargo c.as_slice.result.now c.args.queued.bytes.items p (part_of c.begin.new.self) (part_of c.run_bytes-ran.new.there) c.run_bytes-ran.result c.as_slice.ensures.value (c.begin.ensures.begun ∙ begun_is p c.args.from message.cargo c.requires.between.told) c.run_bytes-ran.ensures.outcome c.run_bytes-ran.ensures.part c.run_bytes-ran.ensures.rests c.run_bytes-ran.ensures.stopped in
    ran_between c.args.rules.now c.args.from message p (part_of c.run_bytes-ran.new.there) (part_of c.finish-left.new.self) c.finish-left.result c.finish-left.ensures.finished c.finish-left.ensures.cargo c.requires.between c.requires.carried.0 c.requires.carried.1 c.run_bytes-ran.result ran

pub returns-clause-listed : goal.returns-clause-listed
returns-clause-listed c listed h =
    let p = part_of c.args.there.now in
    let message = waiting_of c.args.queued in
    let ran = ran_read c.args.rules.now c.args.from c.args.queued.number c.args.queued.cargo c.as_slice.result.now c.args.queued.bytes.items p (part_of c.begin.new.self) (part_of c.run_bytes-ran.new.there) c.run_bytes-ran.result c.as_slice.ensures.value (c.begin.ensures.begun ∙ begun_is p c.args.from message.cargo c.requires.between.told) c.run_bytes-ran.ensures.outcome c.run_bytes-ran.ensures.part c.run_bytes-ran.ensures.rests c.run_bytes-ran.ensures.stopped in
    ran_listed c.args.rules.now c.args.from message p (part_of c.run_bytes-ran.new.there) (part_of c.finish-left.new.self) c.finish-left.result c.finish-left.ensures.finished c.finish-left.ensures.cargo c.requires.between listed h c.run_bytes-ran.result ran

pub returns-clause-place : goal.returns-clause-place
returns-clause-place c =
    let p = part_of c.args.there.now in
    let message = waiting_of c.args.queued in
    let ran = ran_read c.args.rules.now c.args.from c.args.queued.number c.args.queued.cargo c.as_slice.result.now c.args.queued.bytes.items p (part_of c.begin.new.self) (part_of c.run_bytes-ran.new.there) c.run_bytes-ran.result c.as_slice.ensures.value (c.begin.ensures.begun ∙ begun_is p c.args.from message.cargo c.requires.between.told) c.run_bytes-ran.ensures.outcome c.run_bytes-ran.ensures.part c.run_bytes-ran.ensures.rests c.run_bytes-ran.ensures.stopped in
    ran_site c.args.rules.now c.args.from message p (part_of c.run_bytes-ran.new.there) (part_of c.finish-left.new.self) c.finish-left.result c.finish-left.ensures.finished c.finish-left.ensures.cargo c.requires.between c.requires.carried.0 c.requires.carried.1 c.run_bytes-ran.result ran

pub returns-clause-stopped : goal.returns-clause-stopped
returns-clause-stopped c =
    let p = part_of c.args.there.now in
    let message = waiting_of c.args.queued in
    let ran = ran_read c.args.rules.now c.args.from c.args.queued.number c.args.queued.cargo c.as_slice.result.now c.args.queued.bytes.items p (part_of c.begin.new.self) (part_of c.run_bytes-ran.new.there) c.run_bytes-ran.result c.as_slice.ensures.value (c.begin.ensures.begun ∙ begun_is p c.args.from message.cargo c.requires.between.told) c.run_bytes-ran.ensures.outcome c.run_bytes-ran.ensures.part c.run_bytes-ran.ensures.rests c.run_bytes-ran.ensures.stopped in
    ran_stopped c.args.rules.now c.args.from message p (part_of c.run_bytes-ran.new.there) (part_of c.finish-left.new.self) c.finish-left.result c.finish-left.ensures.finished c.finish-left.ensures.cargo c.run_bytes-ran.result ran
