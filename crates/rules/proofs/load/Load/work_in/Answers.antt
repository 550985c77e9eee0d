use Rattle.std.proofs.Common.{map, ap, arith}
use Rattle.std.proofs.lemmas.List.Sums.{sum_by_more}
use Rattle.rules.specs.Loads.{nobody}
use Rattle.rules.specs.Rules.{work}
use Rattle.rules.proofs.Small.{item_at}
use Rattle.rules.proofs.HarmonicShare.{work_small}
use Rattle.rules.proofs.load.Load.work_in.Goals as goal

pub nonzero_div-work : goal.nonzero_div-work
nonzero_div-work g c =
    let item = item_at g.T.AsMember.member_of c.args.self.now.members.now c.args.self.now.modest c.loop-item-test.true c.item-item.is c.as_member-m.ensures in
    omega (arith, item.modest.kept.least)

pub overflow_add-work : goal.overflow_add-work
overflow_add-work g c =
    let item = item_at g.T.AsMember.member_of c.args.self.now.members.now c.args.self.now.modest c.loop-item-test.true c.item-item.is c.as_member-m.ensures in
    let small = work_small c.as_member-m.result c.args.ticks item.modest in
    omega (arith, item.inside, c.args.self.now.modest.few)

pub loop-item-preserved : goal.loop-item-preserved
loop-item-preserved g c =
    let l = map g.T.AsMember.member_of c.args.self.now.members.now in
    let item = item_at g.T.AsMember.member_of c.args.self.now.members.now c.args.self.now.modest c.loop-item-test.true c.item-item.is c.as_member-m.ensures in
    let small = work_small c.as_member-m.result c.args.ticks item.modest in (
      omega (arith, sum_by_more (work c.args.ticks) l c.loop-item.item-index nobody item.inside, ap (work c.args.ticks) item.is),
      omega arith,
    )
