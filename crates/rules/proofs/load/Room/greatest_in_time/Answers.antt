use Rattle.std.proofs.Common.{◌-◌, ◌/◌, min, is_some, sym, ap, ◌∙◌, arith}
use Rattle.rules.specs.Rules.{covered_to}
use Rattle.rules.proofs.Greatest.{greatest_is}
use Rattle.rules.specs.Lemmas.Asked.{uncovered_more}
use Rattle.rules.proofs.load.Room.greatest_in_time.Goals as goal

pub loop-low-preserved : goal.loop-low-preserved
loop-low-preserved c =
    let middle = c.loop-low.high - (c.loop-low.high - c.loop-low.low) / 2 in
    let is = ap is_some c.covering_moment.ensures in
    let fails = sym is ∙ sym c.is_some.ensures ∙ c.if-is_some.false in
    (omega arith, omega arith, c.loop-low.invariant.2, (λ d above le. uncovered_more c.args.self.now.load.members.now middle d c.args.self.now.period (omega arith) fails))

pub returns : goal.returns
returns c =
    greatest_is (λ d. covered_to c.args.self.now.load.members.now d c.args.self.now.period) (min c.args.cost c.args.self.now.period) c.loop-low.low
    (record { within = omega arith; passed = c.loop-low.invariant.2; above = λ d above le. c.loop-low.invariant.3 d (omega arith) le })
