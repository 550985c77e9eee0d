use Rattle.std.proofs.Common.{append-nil}
use Rattle.placing.specs.Placements.{no_placement}
use Rattle.writing.specs.Texts.{text_of}
use Rattle.writing.proofs.Texts.{whole, put_next, put_all}
use Rattle.pages.specs.Plans.{member_text}
use Rattle.pages.proofs.plan_page.put_members.Goals as goal

pub loop-placement-init : goal.loop-placement-init
loop-placement-init c = simp append-nil (whole c.args.text.now)

pub loop-placement-preserved : goal.loop-placement-preserved
loop-placement-preserved c =
    put_next (member_text c.args.core) c.args.placements.now c.loop-placement.placement-index (text_of c.args.text.now) no_placement c.loop-placement-test.true c.loop-placement.invariant c.put_member.ensures

pub returns : goal.returns
returns c =
    put_all (member_text c.args.core) c.args.placements.now c.loop-placement.placement-index (text_of c.args.text.now) c.loop-placement-test.false c.loop-placement.invariant
