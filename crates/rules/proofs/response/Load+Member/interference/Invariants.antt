use Rattle.std.proofs.Common.{◌≡◌, ◌*◌, ◌≤◌, take}
use Rattle.rules.specs.Rules.{interference}
use Rattle.rules.proofs.response.Load+Member.interference.Given as goal

abbrev pub invariant-loop-m : goal.invariant-loop-m
invariant-loop-m l = (l.sum ≡ interference (take l.m-index l.self.members.now) l.t) × (l.sum ≤ 180000 * l.m-index)
