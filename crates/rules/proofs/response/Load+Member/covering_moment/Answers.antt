use Rattle.std.proofs.Common.{◌≡◌, ◌+◌, false, ⊎_elim, arith}
use Rattle.std.proofs.lemmas.Bool.{le-leb, cases_lt}
use Rattle.rules.specs.Rules.{interference, covers}
use Rattle.rules.specs.Lemmas.Moments.{least_none, least_found}
use Rattle.rules.specs.Lemmas.Asked.{between_none, interference_small}
use Rattle.rules.proofs.Small.{modest_members}
use Rattle.rules.proofs.response.Load+Member.covering_moment.Goals as goal

pub overflow_add-demand : goal.overflow_add-demand
overflow_add-demand c =
    let l = c.args.self.now.members.now in
    let all = modest_members l c.args.self.now.modest in
    omega (arith, interference_small l c.loop-t.t all (omega arith), all.few)

pub returns-then-demand-t : goal.returns-then-demand-t
returns-then-demand-t c =
    let l = c.args.self.now.members.now in
    let own = c.args.own in
    let t = c.loop-t.t in
    let is = c.interference.ensures in
    least_found (covers l own) c.args.limit t c.loop-t.invariant.0 (omega arith) (le-leb (own + interference l t) t (omega arith)) c.loop-t.invariant.1

pub loop-t-preserved : goal.loop-t-preserved
loop-t-preserved c =
    let l = c.args.self.now.members.now in
    let own = c.args.own in
    let t = c.loop-t.t in
    let is = c.interference.ensures in (
      omega arith,
      (λ s some lt.
          ⊎_elim {C = covers l own s ≡ false}
          (λ early. c.loop-t.invariant.1 s some early)
          (λ late. between_none l own t s late (omega arith))
          (cases_lt s t)),
    )

pub returns : goal.returns
returns c = least_none (covers c.args.self.now.members.now c.args.own) c.args.limit (λ s some le. c.loop-t.invariant.1 s some (omega arith))
