use Rattle.std.proofs.Common.{sym, ◌∙◌}
use Rattle.rules.specs.Loads.{newcomer}
use Rattle.rules.proofs.Small.{front_modest, members_modest}
use Rattle.rules.proofs.load.Room.behind.Goals as goal

pub invariant_of-result : goal.invariant_of-result
invariant_of-result c =
    let lawful = sym c.has_room.ensures ∙ c.if-has_room.true in
    record { modest = members_modest c.args.load.now (front_modest c.args.load.now (newcomer 1 c.args.period) lawful) }
