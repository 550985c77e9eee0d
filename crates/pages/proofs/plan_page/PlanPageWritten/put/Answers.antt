use Rattle.std.proofs.Common.{arith}
use Rattle.writing.proofs.Texts.{pieces}
use Rattle.placing.specs.Plans.{layout_of}
use Rattle.placing.proofs.SoundPlans.{plan_sound, plan_few}
use Rattle.pages.specs.Plans.{plan_text}
use Rattle.pages.proofs.Lengths.{plan_short}
use Rattle.pages.proofs.plan_page.PlanPageWritten.put.Goals as goal

pub returns-clause-added : goal.returns-clause-added
unfolding plan_text
returns-clause-added c = grind (arith, pieces)

pub returns-clause-fits : goal.returns-clause-fits
returns-clause-fits c =
    let plan = c.args.self.now.plan.now in
    let short = plan_short (layout_of plan) plan.narrow (plan_few plan) (plan_sound plan) in
    omega arith
