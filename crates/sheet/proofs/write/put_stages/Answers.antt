use Rattle.std.proofs.Common.{append-nil}
use Rattle.model.specs.Lawful.{no_stage}
use Rattle.writing.specs.Texts.{text_of}
use Rattle.writing.proofs.Texts.{whole, put_next, put_all}
use Rattle.sheet.specs.Printed.{stage_text}
use Rattle.sheet.proofs.write.put_stages.Goals as goal

pub loop-stage-init : goal.loop-stage-init
loop-stage-init c = simp append-nil (whole c.args.text.now)

pub loop-stage-preserved : goal.loop-stage-preserved
loop-stage-preserved c =
    put_next stage_text c.args.table.now c.loop-stage.stage-index (text_of c.args.text.now) no_stage c.loop-stage-test.true c.loop-stage.invariant c.put_stage.ensures

pub returns : goal.returns
returns c =
    put_all stage_text c.args.table.now c.loop-stage.stage-index (text_of c.args.text.now) c.loop-stage-test.false c.loop-stage.invariant
