use Rattle.std.proofs.Common.{rules, arith}
use Rattle.std.proofs.lemmas.Bool.Decides.{nat_tests}
use Rattle.placing.proofs.Steps.{whole_fits}
use Rattle.placing.proofs.plan.core_load.CoreLoad.place_stage.Goals as goal

pub push-requires : goal.push-requires
push-requires g c = (search rules, whole_fits _ (g.met.R.PassingRule.lawful_only c.args.rule.now) _ c.args.stage.now c.requires.some (grind (arith, nat_tests)))
