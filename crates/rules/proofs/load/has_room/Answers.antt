use Rattle.std.proofs.Common.{arith, rules}
use Rattle.rules.specs.Loads.{nobody}
use Rattle.rules.proofs.Orderly.{room_at}
use Rattle.rules.proofs.load.has_room.Goals as goal

pub returns-then-may_follow : goal.returns-then-may_follow
returns-then-may_follow c =
    let item = c.in-Some.ensures.item.3 in
    let last = item.1 nobody in
    let follows = c.if-may_follow.ensures in
    let room = room_at c.args.load.now c.args.period item.0 (omega arith) in
    search rules

pub returns-else-may_follow : goal.returns-else-may_follow
returns-else-may_follow c =
    let item = c.in-Some.ensures.item.3 in
    let last = item.1 nobody in
    let follows = c.if-may_follow.ensures in
    let room = room_at c.args.load.now c.args.period item.0 (omega arith) in
    search rules
