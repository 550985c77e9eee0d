-- Cores that a plan does not have are idle: a tick of the plan's cores is one of all eight.
use Rattle.std.proofs.Common.{◌≡◌, ℕ, zero, suc, ◌<◌, ◌≤◌, true, List, ◌+◌, ◌++◌, length, take, drop, sym, refl, ap, subst, ◌∙◌, ⊎_elim, arith}
use Rattle.std.proofs.lemmas.List.{ext_get_or}
use Rattle.std.proofs.lemmas.Bool.{eq-eqb, cases_lt}
use Rattle.placing.specs.declared.placement.Placement.{Placement}
use Rattle.placing.specs.declared.plan.Plan.{Plan}
use Rattle.placing.specs.Plans.{placements_of}
use Rattle.placing.proofs.SoundPlans.{plan_sound}
use Rattle.placing.specs.Sound.{SoundPlacement, Sound}
use Rattle.dispatch.specs.declared.state.State.{State}
use Rattle.dispatch.specs.Ticks.{wants, pick, answer_of, stepped, after_tick}
use Rattle.dispatch.proofs.Tables.{stepped_all}
use Rattle.dispatch.proofs.Walk.{RowAt, row_all}
use Rattle.dispatch.proofs.Wants.{wants_where, wants_second}
use Rattle.dispatch.proofs.Choice.{at, state_of, took, took_pick, took_none, took_most, took_wants, answer_length}

pub on_the_box : (cores : ℕ) (p : Placement) → cores ≤ 8 → SoundPlacement cores p → SoundPlacement 8 p
on_the_box cores p narrow y =
    let on = y.on_a_core in
    record {
      named = y.named;
      period_least = y.period_least;
      period_most = y.period_most;
      some = y.some;
      parts = y.parts;
      cost_most = y.cost_most;
      from_one = y.from_one;
      on_a_core = omega arith;
      next_too = λ more. omega (arith, y.next_too more);
    }

-- a plan's placements, as they are lent
pub plan_on_the_box : (plan : Plan) (ps : List Placement) → ps ≡ placements_of plan → (i : ℕ) → i < length ps → SoundPlacement 8 (at ps i)
plan_on_the_box plan ps is i lt = on_the_box plan.cores (at ps i) plan.narrow ((subst (λ q. Sound plan.cores q) (sym is) (plan_sound plan)).each i lt)

module _ (cores : ℕ) (ps : List Placement) (ss : List State) (narrow : cores ≤ 8) (sound : Sound cores ps) where
  -- no stage has a share on a core beyond the plan's
  wants_inside : (j i : ℕ) → i < length ps → wants (at ps i) (state_of ss i) j ≡ true → j ≤ cores
  wants_inside j i lt h =
      let y = sound.each i lt in
      ⊎_elim
      (λ q. omega (arith, y.on_a_core))
      (λ q. let less = wants_second (at ps i) (state_of ss i) (ap (λ x. wants (at ps i) (state_of ss i) x) (sym q) ∙ h) in omega (arith, y.next_too (omega arith)))
      (wants_where (at ps i) (state_of ss i) j h)

  idle : (k : ℕ) → cores ≤ k → took 8 ps ss (suc k) ≡ 0
  idle k le = go (took 8 ps ss (suc k)) refl
    where
      go : (t : ℕ) → took 8 ps ss (suc k) ≡ t → t ≡ 0
      go zero e = refl
      go (suc i) e =
          let there : i < length ps = omega (arith, took_most 8 ps ss (suc k)) in
          absurd (omega (arith, wants_inside (suc k) i there (took_wants 8 ps ss (suc k) i (eq-eqb (took 8 ps ss (suc k)) (suc i) e))))

  took_same : (j : ℕ) → j ≤ 8 → took cores ps ss j ≡ took 8 ps ss j
  took_same zero le = refl
  took_same (suc k) le =
      ⊎_elim
      (λ lt. took_pick cores ps ss k lt ∙ ap (λ x. pick (suc k) x 1 ps ss) (took_same k (omega arith)) ∙ sym (took_pick 8 ps ss k (omega arith)))
      (λ past. took_none cores ps ss k past ∙ sym (idle k past))
      (cases_lt k cores)

  pub answer_whole : answer_of 8 ps ss ≡ answer_of cores ps ss
  answer_whole =
      let eight = answer_length 8 ps ss (omega arith) in
      ext_get_or 0 (answer_of 8 ps ss) (answer_of cores ps ss) (eight ∙ sym (answer_length cores ps ss narrow)) (λ j lt. sym (took_same (suc j) (omega arith)))

  pub after_whole : after_tick 8 ps ss ≡ after_tick cores ps ss
  after_whole = ap (λ a. stepped a 1 ps ss) answer_whole

-- a walk along all stages of a plan ends as the tick
module _ (plan : Plan) (ps : List Placement) (ss : List State) where
  pub row_end : (row : List ℕ) (i : ℕ) → ps ≡ placements_of plan → length ps ≤ i → RowAt ps ss i row → row ≡ answer_of plan.cores (placements_of plan) ss
  row_end row i is le now = row_all ps ss i row le now ∙ ap (λ q. answer_of 8 q ss) is ∙ answer_whole plan.cores (placements_of plan) ss plan.narrow (plan_sound plan)

  pub stepped_end : (left : List State) (i : ℕ) → ps ≡ placements_of plan → length ps ≤ i → stepped (answer_of 8 ps ss) 1 ps ss ≡ take i left ++ stepped (answer_of 8 ps ss) (i + 1) (drop i ps) (drop i left) → left ≡ after_tick plan.cores (placements_of plan) ss
  stepped_end left i is le now = sym (now ∙ stepped_all (answer_of 8 ps ss) ps left i le) ∙ ap (λ q. after_tick 8 q ss) is ∙ after_whole plan.cores (placements_of plan) ss plan.narrow (plan_sound plan)
