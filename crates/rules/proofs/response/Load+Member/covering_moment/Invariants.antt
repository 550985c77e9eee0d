use Rattle.std.proofs.Common.{◌≡◌, ℕ, ◌+◌, ◌-◌, ◌<◌, ◌≤◌, false}
use Rattle.rules.specs.Rules.{covers}
use Rattle.rules.proofs.response.Load+Member.covering_moment.Given as goal

-- no earlier moment will do
abbrev pub invariant-loop-t : goal.invariant-loop-t
invariant-loop-t l = (1 ≤ l.t) × ((s : ℕ) → 1 ≤ s → s < l.t → covers l.self.members.now l.own s ≡ false)

abbrev pub decreases-loop-t : goal.decreases-loop-t
decreases-loop-t l = l.limit + 1 - l.t
