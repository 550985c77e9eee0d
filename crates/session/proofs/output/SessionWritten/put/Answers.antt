use Rattle.std.proofs.Common.{length, ◌++◌, ap, ◌∙◌, arith}
use Rattle.writing.specs.Room.{cut}
use Rattle.writing.specs.Texts.{text_of}
use Rattle.writing.proofs.Texts.{put_more}
use Rattle.placing.specs.Plans.{layout_of}
use Rattle.pages.specs.Plans.{plan_text}
use Rattle.dispatch.specs.Ticks.{fresh_states}
use Rattle.session.specs.Sessions.{tick_lines, output_of}
use Rattle.session.proofs.Lengths.{output_short}
use Rattle.session.proofs.output.SessionWritten.put.Goals as goal

pub returns-in-Ok : goal.returns-in-Ok
returns-in-Ok c =
    let start = text_of c.args.onto.now in
    let l = layout_of c.in-Ok.plan in
    let out = ap output_of c.in-Ok.ensures in
    let short = output_short c.in-Ok.plan in
    record {
      added = put_more start (plan_text l) (tick_lines 12 0 l fresh_states) c.put.ensures.added c.put_ticks.ensures ∙ ap (λ t. cut (start ++ t)) out;
      fits = omega (arith, ap length out);
    }
