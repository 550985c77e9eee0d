use Rattle.std.proofs.Common.{◌≡◌, [], take, drop}
use Rattle.rules.specs.Rules.{all_covered}
use Rattle.rules.proofs.response.Load+Member.all_in_time.Given as goal

-- what is left gives the answer
abbrev pub invariant-loop-i : goal.invariant-loop-i
invariant-loop-i l = all_covered (take l.i l.self.members.now) (drop l.i l.self.members.now) ≡ all_covered [] l.self.members.now
