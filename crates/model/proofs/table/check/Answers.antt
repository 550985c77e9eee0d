use Rattle.std.proofs.Common.{◌≡◌, arith}
use Rattle.std.proofs.lemmas.Bool.Decides.{nat_tests}
use Rattle.model.specs.Tables.{check_of}
use Rattle.model.proofs.Checks.{answers_exactly}
use Rattle.model.proofs.table.check.Goals as goal

pub returns-then-not-allows_cores : goal.returns-then-not-allows_cores
unfolding check_of
returns-then-not-allows_cores c =
    let e : _ ≡ check_of c.args.limits.now c.args.cores c.args.table.now c.args.layer = grind (arith, nat_tests) in
    record { answer = e; exactly = answers_exactly _ _ _ _ _ e }

pub returns-in-Some : goal.returns-in-Some
unfolding check_of
returns-in-Some c =
    let e : _ ≡ check_of c.args.limits.now c.args.cores c.args.table.now c.args.layer = grind (arith, nat_tests) in
    record { answer = e; exactly = answers_exactly _ _ _ _ _ e }

pub returns-in-None : goal.returns-in-None
unfolding check_of
returns-in-None c =
    let e : _ ≡ check_of c.args.limits.now c.args.cores c.args.table.now c.args.layer = grind (arith, nat_tests) in
    record { answer = e; exactly = answers_exactly _ _ _ _ _ e }
