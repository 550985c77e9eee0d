use Rattle.std.proofs.Common.{◌≡◌, [], take, drop}
use Rattle.model.specs.Tables.{first_bad}
use Rattle.model.proofs.table.first_bad.Given as goal

abbrev pub invariant-loop-i : goal.invariant-loop-i
invariant-loop-i l = first_bad l.limits (take l.i l.table) (drop l.i l.table) ≡ first_bad l.limits [] l.table
