use Rattle.std.proofs.Common.{◌∙◌, arith}
use Rattle.rules.proofs.Capped.{count_share, count_none}
use Rattle.rules.proofs.caps.CountCapPassingRule.share.Goals as goal

pub returns-then-load-self : goal.returns-then-load-self
returns-then-load-self g c =
    let a = c.args in
    c.share.ensures ∙ count_share (g.R.PassingRule.passes a.self.now.below) a.load.now a.cost a.period a.self.now.most (omega arith)

pub returns-else-load-self : goal.returns-else-load-self
returns-else-load-self g c =
    let a = c.args in
    count_none (g.R.PassingRule.passes a.self.now.below) a.load.now a.cost a.period a.self.now.most (omega arith)
