use Rattle.std.proofs.Common.{◌≡◌, ◌*◌, ◌≤◌, take}
use Rattle.rules.specs.Rules.{uses}
use Rattle.rules.proofs.caps.Load+Member.uses.Given as goal

abbrev pub invariant-loop-m : goal.invariant-loop-m
invariant-loop-m l = (l.sum ≡ uses (take l.m-index l.self.members.now)) × (l.sum ≤ 1000000 * l.m-index)
