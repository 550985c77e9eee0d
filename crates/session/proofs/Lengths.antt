-- How long the output can be.
use Rattle.std.proofs.Common.{ℕ, zero, suc, ◌+◌, ◌*◌, ◌<◌, ◌≤◌, List, length, get_or, Ok, decimal, arith, length-append}
use Rattle.std.proofs.lemmas.Fmt.{length-decimal-le}
use Rattle.placing.specs.declared.plan.Plan.{Plan}
use Rattle.placing.specs.Plans.{Layout, layout_of}
use Rattle.placing.proofs.SoundPlans.{plan_sound, plan_few}
use Rattle.pages.proofs.Lengths.{plan_short, tick_short}
use Rattle.dispatch.specs.declared.state.State.{State}
use Rattle.dispatch.specs.Ticks.{answer_of, after_tick, fresh_states}
use Rattle.dispatch.proofs.Choice.{took_most}
use Rattle.session.specs.Sessions.{tick_lines, output_of}

-- ticks and stages below 100 have at most two digits
lines_short : (n t : ℕ) (l : Layout) (ss : List State) → n + t ≤ 100 → l.cores ≤ 8 → length l.placements ≤ 64 → length (tick_lines n t l ss) ≤ 34 * n
unfolding tick_lines
lines_short zero t l ss near narrow few = omega arith
lines_short (suc n) t l ss near narrow few =
    let answer = answer_of l.cores l.placements ss in
    let number = length-decimal-le 2 t (omega arith) (omega arith) (omega arith) in
    let each : (i : ℕ) → i < length answer → length (decimal (get_or answer i 0)) ≤ 2 =
    λ i lt. let named = took_most l.cores l.placements ss (suc i) in length-decimal-le 2 _ (omega arith) (omega arith) (omega arith) in
    let one = tick_short 2 t l.cores answer number (omega arith) each in
    let rest = lines_short n (suc t) l (after_tick l.cores l.placements ss) (omega arith) narrow few in
    simp length-append (omega arith)

pub output_short : (p : Plan) → length (output_of (Ok (layout_of p))) ≤ 4009
output_short p =
    let page = plan_short (layout_of p) p.narrow (plan_few p) (plan_sound p) in
    let lines = lines_short 12 0 (layout_of p) fresh_states (omega arith) p.narrow (plan_few p) in
    simp length-append (omega arith)
