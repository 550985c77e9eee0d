use Rattle.std.proofs.Common.{append-nil}
use Rattle.writing.proofs.Texts.{whole}
use Rattle.pages.proofs.plan_page.put_cores.Goals as goal

pub loop-i-init : goal.loop-i-init
loop-i-init c = simp append-nil (whole c.args.text.now)
