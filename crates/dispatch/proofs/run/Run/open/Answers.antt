use Rattle.std.proofs.Common.{rules}
use Rattle.placing.specs.Plans.{placements_of}
use Rattle.placing.proofs.SoundPlans.{plan_sound, plan_few}
use Rattle.dispatch.proofs.Keeping.{within_zeros}
use Rattle.dispatch.proofs.run.Run.open.Goals as goal

pub invariant_of-result : goal.invariant_of-result
invariant_of-result c = let plan = c.args.plan in record { within = within_zeros plan.cores (placements_of plan) _ (plan_sound plan) (plan_few plan) (search rules) }
