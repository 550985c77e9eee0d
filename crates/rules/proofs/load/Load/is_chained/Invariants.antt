use Rattle.std.proofs.Common.{◌≡◌, ◌<◌, map, drop}
use Rattle.rules.specs.Rules.{chained}
use Rattle.rules.proofs.HarmonicShare.{chained_from}
use Rattle.rules.proofs.load.Load.is_chained.Given as goal

-- what is left gives the answer
abbrev pub invariant-loop-item : goal.invariant-loop-item
invariant-loop-item g l =
    let load = map g.T.AsMember.member_of l.self.members.now in
    (0 < l.before) × (chained_from l.before (drop l.item-index load) ≡ chained load)
