use Rattle.std.proofs.Common.{arith, rules}
use Rattle.std.proofs.lemmas.List.{take_rest}
use Rattle.rules.proofs.Orderly.{lawful_at}
use Rattle.rules.proofs.load.is_lawful.Goals as goal

pub returns-then-may_open : goal.returns-then-may_open
returns-then-may_open c =
    let whole = lawful_at c.args.load.now (omega arith) in
    let rest = take_rest c.args.load.now 1 in
    let opens = c.if-may_open.ensures in
    search rules
