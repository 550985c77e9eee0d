use Rattle.std.proofs.Common.{leb, sym, ◌∙◌, arith, rules}
use Rattle.rules.specs.Rules.{uses}
use Rattle.rules.proofs.Small.{members_modest}
use Rattle.rules.proofs.Capped.{none_below, load_modest, use_full, use_share}
use Rattle.rules.proofs.caps.UseCapPassingRule.share.Goals as goal

pub returns-then-below-eq0 : goal.returns-then-below-eq0
returns-then-below-eq0 g c =
    let a = c.args in
    let s = a.self.now in
    none_below (g.R.PassingRule.passes s.below) a.load.now a.cost a.period (λ l. leb (uses l) s.most) (sym c.if-below-eq0.true ∙ c.share-below.ensures)

pub invariant_of-uses : goal.invariant_of-uses
invariant_of-uses g c =
    let a = c.args in
    let s = a.self.now.below in
    let all = load_modest (g.R.PassingRule.passes s) (g.met.R.PassingRule.lowering s) (g.met.R.PassingRule.lawful_only s) a.load.now a.cost a.period c.share-below.result c.share-below.ensures (omega arith) in
    record { modest = members_modest a.load.now all }

pub returns-then-self-used : goal.returns-then-self-used
returns-then-self-used g c =
    let a = c.args in
    let s = a.self.now.below in
    let used = c.uses-used.ensures in
    use_full (g.R.PassingRule.passes s) (g.met.R.PassingRule.lowering s) (g.met.R.PassingRule.lawful_only s) a.load.now a.cost a.period c.share-below.result c.share-below.ensures (omega arith) a.self.now.most (omega arith)

pub returns : goal.returns
returns g c =
    let a = c.args in
    let s = a.self.now.below in
    let u = a.self.now.most in
    let used = c.uses-used.ensures in
    let share = use_share (g.R.PassingRule.passes s) (g.met.R.PassingRule.lowering s) (g.met.R.PassingRule.lawful_only s) a.load.now a.cost a.period c.share-below.result c.share-below.ensures (omega arith) u (omega arith) in
    search rules
