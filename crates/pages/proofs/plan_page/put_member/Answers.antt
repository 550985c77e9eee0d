use Rattle.std.proofs.Common.{append-nil, arith}
use Rattle.std.proofs.lemmas.Bool.Decides.{nat_tests}
use Rattle.writing.specs.Texts.{text_of}
use Rattle.writing.proofs.Texts.{whole}
use Rattle.pages.specs.Plans.{member_text}
use Rattle.pages.proofs.plan_page.put_member.Goals as goal

pub returns-then-placement-eq0 : goal.returns-then-placement-eq0
unfolding member_text
returns-then-placement-eq0 c = grind (arith, nat_tests)

pub returns-else-placement-eq0 : goal.returns-else-placement-eq0
unfolding member_text
returns-else-placement-eq0 c = grind (arith, nat_tests)

pub returns-then-placement-gt0 : goal.returns-then-placement-gt0
unfolding member_text
returns-then-placement-gt0 c = grind (arith, nat_tests)

pub returns-else-placement-core : goal.returns-else-placement-core
unfolding member_text
returns-else-placement-core c =
    let same = whole c.args.text.now in
    let none = append-nil (text_of c.args.text.now) in
    grind (arith, nat_tests)
