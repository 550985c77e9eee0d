use Rattle.std.proofs.Common.{◌<◌, length, sym, arith}
use Rattle.std.proofs.lemmas.Result.{err_from_is_err_and}
use Rattle.std.proofs.lemmas.Bool.{eqb-false, eqb-true}
use Rattle.std.proofs.lemmas.Bool.Decides.{nat_tests}
use Rattle.model.specs.Limits.{review_box}
use Rattle.sheet.specs.Tokens.{rest_of}
use Rattle.sheet.proofs.Lines.{passes_ok, passes_err, loop_done, loop_full, loop_err, loop_more}
use Rattle.sheet.proofs.read.stage_lines.Goals as goal

pub returns-then-is_full : goal.returns-then-is_full
returns-then-is_full c =
    let some : 0 < length (rest_of c.loop-stages.cursor) = omega (arith, eqb-false _ _ (sym c.loop-stages-test.ensures)) in
    let full = eqb-true _ _ (sym c.if-is_full.ensures.value) in
    let is = loop_full review_box.stages (length c.loop-stages.stages.items) _ _ _ c.loop-stages.invariant.1 full some in
    cc

pub returns-in_err-stage : goal.returns-in_err-stage
returns-in_err-stage c =
    let some : 0 < length (rest_of c.loop-stages.cursor) = omega (arith, eqb-false _ _ (sym c.loop-stages-test.ensures)) in
    let room : length c.loop-stages.stages.items < review_box.stages = grind (arith, nat_tests) in
    let read = passes_err _ c.in_err-stage.field-0.0 _ c.in_err-stage.ensures in
    let is = loop_err review_box.stages (length c.loop-stages.stages.items) _ _ _ c.loop-stages.invariant.1 _ room some (cc) in
    let p = err_from_is_err_and c.from_residual.result c.from_residual.ensures.1 in
    rw (p.1, p.2) (sym is)

pub loop-stages-preserved : goal.loop-stages-preserved
loop-stages-preserved c =
    let some : 0 < length (rest_of c.loop-stages.cursor) = omega (arith, eqb-false _ _ (sym c.loop-stages-test.ensures)) in
    let room : length c.loop-stages.stages.items < review_box.stages = grind (arith, nat_tests) in
    let read = passes_ok _ _ _ c.in_ok-stage.ensures in
    let more = loop_more review_box.stages (length c.loop-stages.stages.items) _ _ _ c.loop-stages.invariant.1 c.in_ok-stage.stage (rest_of c.next_stage.new.cursor) room some (cc) in
    let long = c.push.ensures.len in
    let front = c.push.ensures.items in
    (omega (arith, long), rw (long, front) more)

pub returns : goal.returns
returns c =
    let none = eqb-true _ _ (sym c.loop-stages-test.ensures) in
    sym (loop_done review_box.stages (length c.loop-stages.stages.items) _ _ _ c.loop-stages.invariant.1 none)
