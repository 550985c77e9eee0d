use Rattle.std.proofs.Common.{◌≡◌, ◌+◌, [], drop, length}
use Rattle.placing.specs.Placing.{place_stages, behind}
use Rattle.placing.proofs.plan.place.place_stages.Given as goal

abbrev pub invariant-loop-i : goal.invariant-loop-i
invariant-loop-i g l =
    (place_stages (g.R.PassingRule.passes l.rule) l.cores 1 1 [] l.table
    ≡ behind l.placements.items (place_stages (g.R.PassingRule.passes l.rule) l.cores (l.i-counter + 1) l.at.core l.at.members.items (drop l.i-counter l.table)))
    × (length l.placements.items ≡ l.i-counter) × (l.at.cores ≡ l.cores)
