use Rattle.std.proofs.Common.{arith}
use Rattle.std.proofs.lemmas.Bool.Decides.{nat_tests}
use Rattle.model.proofs.Checks.{bad_step, bad_none}
use Rattle.model.proofs.table.first_bad.Goals as goal

pub returns-then-not-can_follow : goal.returns-then-not-can_follow
returns-then-not-can_follow c =
    let step = bad_step c.args.limits.now c.args.table.now c.loop-i.i (omega arith) in
    grind (arith, nat_tests)

pub loop-i-preserved : goal.loop-i-preserved
loop-i-preserved c =
    let step = bad_step c.args.limits.now c.args.table.now c.loop-i.i (omega arith) in
    grind (arith, nat_tests)

pub returns : goal.returns
returns c =
    let none = bad_none c.args.limits.now c.args.table.now c.loop-i.i (omega arith) in
    grind (arith, nat_tests)
