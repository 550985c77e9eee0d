use Rattle.std.proofs.Common.{◌≡◌, ◌-◌}
use Rattle.placing.specs.Placing.{place_stage}
use Rattle.placing.proofs.plan.core_load.CoreLoad.place_stage.Given as goal

-- what is still to be done from here gives the stage the same place
abbrev pub invariant-loop-self : goal.invariant-loop-self
invariant-loop-self g l =
    (place_stage (g.R.PassingRule.passes l.rule) (l.initial.self.cores - l.initial.self.core) l.initial.self.core l.initial.self.members.items l.stage
    ≡ place_stage (g.R.PassingRule.passes l.rule) (l.self.cores - l.self.core) l.self.core l.self.members.items l.stage)
    × (l.self.cores ≡ l.initial.self.cores)

abbrev pub decreases-loop-self : goal.decreases-loop-self
decreases-loop-self g l = l.self.cores - l.self.core
