use Rattle.std.proofs.Common.{◌≡◌, rules}
use Rattle.writing.specs.Pages.{page_answer, page_after}
use Rattle.sheet.specs.Printed.{page_of}
use Rattle.sheet.proofs.Writing.{written}
use Rattle.sheet.proofs.write.write_sheet.Goals as goal

pub returns-in_err-check : goal.returns-in_err-check
unfolding page_of
returns-in_err-check c =
    let a : _ ≡ page_answer (page_of c.args.cores c.args.table.now) c.args.page.now = search rules in
    let p : _ ≡ page_after (page_of c.args.cores c.args.table.now) c.args.page.now = search rules in
    let w = written _ _ _ _ _ a p in
    record { answer = a; page = p; back = w.back; exactly = w.exactly; longest = w.longest }

pub returns : goal.returns
unfolding page_of
returns c =
    let a : _ ≡ page_answer (page_of c.args.cores c.args.table.now) c.args.page.now = search rules in
    let p : _ ≡ page_after (page_of c.args.cores c.args.table.now) c.args.page.now = search rules in
    let w = written _ _ _ _ _ a p in
    record { answer = a; page = p; back = w.back; exactly = w.exactly; longest = w.longest }
