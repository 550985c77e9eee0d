use Rattle.std.proofs.Common.{◌≡◌, ℕ, ◌-◌, ◌<◌, ◌≤◌, min, true, false}
use Rattle.rules.specs.Rules.{covered_to}
use Rattle.rules.proofs.load.Room.greatest_in_time.Given as goal

-- low is covered or 0, and nothing above high is
abbrev pub invariant-loop-low : goal.invariant-loop-low
invariant-loop-low l = (l.low ≤ l.high) × (l.high ≤ (min l.cost l.self.period)) × (0 < l.low → covered_to l.self.load.members.now l.low l.self.period ≡ true) × ((c : ℕ) → l.high < c → c ≤ (min l.cost l.self.period) → covered_to l.self.load.members.now c l.self.period ≡ false)

abbrev pub decreases-loop-low : goal.decreases-loop-low
decreases-loop-low l = l.high - l.low
