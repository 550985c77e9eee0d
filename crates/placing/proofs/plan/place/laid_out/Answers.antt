use Rattle.std.proofs.Common.{refl, arith}
use Rattle.model.specs.Limits.{review_box}
use Rattle.model.specs.Lawful.{Lawful}
use Rattle.placing.proofs.Soundness.{stages_many, stages_sound}
use Rattle.placing.proofs.plan.place.laid_out.Goals as goal

pub invariant_of-result : goal.invariant_of-result
invariant_of-result g c =
    let passes = g.R.PassingRule.passes c.args.rule.now in
    let lawful : Lawful review_box c.args.cores c.args.table.now = c.in_ok-check.ensures.exactly.0 refl in
    let many = stages_many passes c.args.cores c.args.table.now _ c.in_ok-placements.ensures in
    let sound = stages_sound passes c.args.cores (g.met.R.PassingRule.lawful_only c.args.rule.now) (g.met.R.PassingRule.timely c.args.rule.now) lawful.cores_least c.args.table.now _ lawful.table.each c.in_ok-placements.ensures in
    record { narrow = omega (arith, lawful.cores_most); few = omega (arith, many, lawful.most); sound = ∣ sound ∣₁ }
