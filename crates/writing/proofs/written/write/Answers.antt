use Rattle.std.proofs.Common.{Ok, ◌∙◌, ap}
use Rattle.writing.specs.Pages.{page_answer}
use Rattle.writing.proofs.Texts.{put_alone, page_takes}
use Rattle.writing.proofs.written.write.Goals as goal

pub returns : goal.returns
returns g c =
    let text = g.W.Written.text c.args.it.now in
    let is = put_alone text c.new-text.ensures c.put.ensures.added c.put.ensures.fits in
    let answer = c.deliver.ensures.answer ∙ ap (λ t. page_answer (Ok t) c.args.page.now) is in
    record { answer = answer; page = cc; fits = λ long. answer ∙ page_takes text c.args.page.now c.put.ensures.fits long }
