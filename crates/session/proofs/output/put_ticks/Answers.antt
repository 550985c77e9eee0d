use Rattle.std.proofs.Common.{◌≡◌, ◌++◌, take, ◌∙◌, ap₂, arith}
use Rattle.writing.specs.Room.{cut}
use Rattle.writing.specs.Texts.{text_of}
use Rattle.writing.proofs.Texts.{whole}
use Rattle.placing.specs.Plans.{layout_of}
use Rattle.pages.specs.Ticks.{line_text}
use Rattle.session.proofs.Lines.{lines_more, lines_all}
use Rattle.session.proofs.output.put_ticks.Goals as goal

pub loop-tick-preserved : goal.loop-tick-preserved
loop-tick-preserved c =
    let tick = c.loop-tick.tick in
    let run = c.loop-tick.run in
    let text = text_of c.loop-tick.text in
    let cores : c.cores-cores.result ≡ run.plan.cores = cc in
    let numbers = c.new.ensures.numbers ∙ ap₂ take cores c.tick-answer.ensures.answers in
    let put = c.put.ensures.added ∙ ap₂ (λ t ns. cut (text ++ line_text t ns)) c.new.ensures.tick numbers in
    let more = lines_more tick (layout_of run.plan) run.states text (omega arith) put in
    (cc, cc)

pub returns : goal.returns
returns c =
    let run = c.loop-tick.run in
    let all = lines_all c.loop-tick.tick (layout_of run.plan) run.states (text_of c.loop-tick.text) (omega arith) in
    let same = whole c.loop-tick.text in
    cc
