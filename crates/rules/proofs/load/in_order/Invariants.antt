use Rattle.std.proofs.Common.{◌≡◌, drop}
use Rattle.rules.specs.Walk.{orderly}
use Rattle.rules.proofs.load.in_order.Given as goal

-- what is left gives the answer
abbrev pub invariant-loop-m : goal.invariant-loop-m
invariant-loop-m l = orderly l.before (drop l.m-index l.members) ≡ orderly l.period l.members
