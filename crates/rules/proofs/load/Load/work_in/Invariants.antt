use Rattle.std.proofs.Common.{◌≡◌, ◌*◌, ◌≤◌, map, take}
use Rattle.rules.specs.Rules.{work_in}
use Rattle.rules.proofs.load.Load.work_in.Given as goal

abbrev pub invariant-loop-item : goal.invariant-loop-item
invariant-loop-item g l =
    let load = map g.T.AsMember.member_of l.self.members.now in
    (l.work ≡ work_in l.ticks (take l.item-index load)) × (l.work ≤ 4294967295 * l.item-index)
