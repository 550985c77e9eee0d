use Rattle.std.proofs.Common.{map, arith}
use Rattle.std.proofs.lemmas.Bool.Decides.{nat_tests}
use Rattle.std.proofs.lemmas.List.{at_drop_more}
use Rattle.rules.specs.Loads.{nobody}
use Rattle.rules.proofs.Small.{item_at}
use Rattle.rules.proofs.HarmonicShare.{chained_from, chained_start}
use Rattle.rules.proofs.load.Load.is_chained.Goals as goal

pub loop-item-init : goal.loop-item-init
loop-item-init g c = (omega arith, chained_start (map g.T.AsMember.member_of c.args.self.now.members.now))

pub loop-item-preserved : goal.loop-item-preserved
loop-item-preserved g c =
    let l = map g.T.AsMember.member_of c.args.self.now.members.now in
    let item = item_at g.T.AsMember.member_of c.args.self.now.members.now c.args.self.now.modest c.loop-item-test.true c.item-item.is c.as_member-m.ensures in
    let more = at_drop_more (chained_from c.loop-item.before) l c.loop-item.item-index nobody item.inside in
    (omega (arith, item.modest.kept.least), grind (arith, nat_tests))

pub returns-then-m-before-ne0 : goal.returns-then-m-before-ne0
returns-then-m-before-ne0 g c =
    let l = map g.T.AsMember.member_of c.args.self.now.members.now in
    let item = item_at g.T.AsMember.member_of c.args.self.now.members.now c.args.self.now.modest c.loop-item-test.true c.item-item.is c.as_member-m.ensures in
    let more = at_drop_more (chained_from c.loop-item.before) l c.loop-item.item-index nobody item.inside in
    grind (arith, nat_tests)
