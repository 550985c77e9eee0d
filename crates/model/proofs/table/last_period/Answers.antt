use Rattle.std.proofs.Common.{rules}
use Rattle.model.proofs.Tables.{last_told}
use Rattle.model.proofs.table.last_period.Goals as goal

pub returns : goal.returns
returns c = last_told c.args.before.now c.last.result c.map_or.result _ c.last.ensures.value c.map_or.ensures (λ x q. search rules)
