use Rattle.std.proofs.Common.{◌≤◌, length, length-set, sym, refl, ◌∙◌, subst, arith}
use Rattle.placing.specs.Plans.{placements_of}
use Rattle.placing.specs.Placements.{no_placement}
use Rattle.placing.proofs.SoundPlans.{plan_few}
use Rattle.dispatch.specs.Bounds.{Within}
use Rattle.dispatch.specs.Ticks.{fresh_state, answer_of}
use Rattle.dispatch.proofs.Idle.{plan_on_the_box, row_end, stepped_end}
use Rattle.dispatch.proofs.Keeping.{still_within, within_ticked}
use Rattle.dispatch.proofs.Tables.{as_before, as_before_more, stepped_more}
use Rattle.dispatch.proofs.Walk.{turned}
use Rattle.dispatch.proofs.run.Run.tick.Goals as goal

pub invariant_of-turn : goal.invariant_of-turn
invariant_of-turn c = record { sound = plan_on_the_box c.args.self.now.plan _ c.placements-placements.ensures _ (omega arith) }

pub take-requires : goal.take-requires
take-requires c =
    let run = c.args.self.now in
    let ps = c.placements-placements.result.now in
    let is = c.placements-placements.ensures in
    let few : length ps ≤ 64 = subst (λ q. length q ≤ 64) (sym is) (plan_few run.plan) in
    let long = c.loop-i.invariant.long in
    record { within = still_within ps run.states c.loop-i.states c.loop-i.i (subst (λ q. Within q run.states) (sym is) run.within) c.loop-i.invariant.to_come c.loop-i-test.true (omega arith) }

pub loop-i-preserved : goal.loop-i-preserved
loop-i-preserved c =
    let run = c.args.self.now in
    let ps = c.placements-placements.result.now in
    let before = run.states in
    let i = c.loop-i.i in
    let ss = c.loop-i.states in
    let x = c.take.new.state in
    let now = c.loop-i.invariant in
    let lt = c.loop-i-test.true in
    let is = c.placements-placements.ensures in
    let few : length ps ≤ 64 = subst (λ q. length q ≤ 64) (sym is) (plan_few run.plan) in
    let long = now.long in
    let here = as_before before ss i fresh_state (omega arith) now.to_come in
    let turn = turned ps before i c.loop-i.row (plan_on_the_box run.plan ps is i lt) now.row _ x c.take.new.row here c.take.ensures.state c.take.ensures.row in
    record {
      row = turn.0;
      stepped = now.stepped ∙ stepped_more (answer_of 8 ps before) ps ss i x no_placement fresh_state lt (omega arith) turn.1;
      to_come = as_before_more before ss i x now.to_come;
      long = length-set ss i x ∙ now.long;
    }

pub invariant_of-self : goal.invariant_of-self
invariant_of-self c =
    let run = c.args.self.now in
    let ps = placements_of run.plan in
    let few : length ps ≤ length run.states = omega (arith, plan_few run.plan) in
    let left = stepped_end run.plan _ run.states c.loop-i.states c.loop-i.i c.placements-placements.ensures c.loop-i-test.false c.loop-i.invariant.stepped in
    record { within = subst (λ ss. Within ps ss) (sym left) (within_ticked run.plan.cores ps run.states few run.within) }

pub returns : goal.returns
returns c =
    let run = c.args.self.now in
    let now = c.loop-i.invariant in
    record {
      answers = row_end run.plan _ run.states c.loop-i.row c.loop-i.i c.placements-placements.ensures c.loop-i-test.false now.row;
      plan = refl;
      states = stepped_end run.plan _ run.states c.loop-i.states c.loop-i.i c.placements-placements.ensures c.loop-i-test.false now.stepped;
    }
