use Rattle.std.proofs.Common.{refl, arith}
use Rattle.std.proofs.lemmas.Bool.Decides.{nat_tests}
use Rattle.model.specs.Limits.{review_box}
use Rattle.model.specs.Lawful.{Lawful}
use Rattle.placing.proofs.HarmonicExact.{harmonic_exact}
use Rattle.placing.proofs.WholeLoads.{last_is, whole_modest}
use Rattle.placing.proofs.fit.harmonic_fit.Goals as goal

pub invariant_of-load : goal.invariant_of-load
invariant_of-load c =
    let lawful : Lawful review_box c.args.cores c.args.table.now = c.in_ok-check.ensures.exactly.0 refl in
    record { modest = whole_modest c.args.table.now lawful.table lawful.most }

pub returns-then-work-cores : goal.returns-then-work-cores
returns-then-work-cores c =
    let last = last_is c.args.table.now in
    record { answer = grind (arith, nat_tests); exactly = harmonic_exact c.args.cores c.args.table.now }

pub returns-else-work-cores : goal.returns-else-work-cores
returns-else-work-cores c =
    let last = last_is c.args.table.now in
    record { answer = grind (arith, nat_tests); exactly = harmonic_exact c.args.cores c.args.table.now }
