-- The states after a tick, row by row.
use Rattle.std.proofs.Common.{◌≡◌, ℕ, zero, suc, ◌+◌, ◌<◌, List, [], ◌∷◌, length, refl, ap, ◌∙◌, arith}
use Rattle.placing.specs.declared.placement.Placement.{Placement}
use Rattle.dispatch.specs.declared.state.State.{State}
use Rattle.dispatch.specs.Ticks.{answer_of, step, stepped, after_tick}
use Rattle.dispatch.proofs.Choice.{at, state_of}

pub step_length : (a : List ℕ) (n : ℕ) (ps : List Placement) (ss : List State) → length (stepped a n ps ss) ≡ length ss
step_length a n [] ss = refl
step_length a n (p ∷ ps) [] = refl
step_length a n (p ∷ ps) (s ∷ ss) = ap suc (step_length a (suc n) ps ss)

step_row : (a : List ℕ) (n : ℕ) (ps : List Placement) (ss : List State) (i : ℕ) → i < length ps → i < length ss → state_of (stepped a n ps ss) i ≡ step a (n + i) (at ps i) (state_of ss i)
step_row a n [] ss i lt there = absurd (omega arith)
step_row a n (p ∷ ps) [] i lt there = absurd (omega arith)
step_row a n (p ∷ ps) (s ∷ ss) zero lt there = ap (λ x. step a x p s) {x = n} {y = n + 0} (omega arith)
step_row a n (p ∷ ps) (s ∷ ss) (suc i) lt there =
    step_row a (suc n) ps ss i (omega arith) (omega arith) ∙ ap (λ x. step a x (at ps i) (state_of ss i)) {x = suc n + i} {y = n + suc i} (omega arith)

pub ticked_row : (cores : ℕ) (ps : List Placement) (ss : List State) (i : ℕ) → i < length ps → i < length ss → state_of (after_tick cores ps ss) i ≡ step (answer_of cores ps ss) (suc i) (at ps i) (state_of ss i)
ticked_row cores ps ss i lt there =
    step_row (answer_of cores ps ss) 1 ps ss i lt there ∙ ap (λ x. step (answer_of cores ps ss) x (at ps i) (state_of ss i)) {x = 1 + i} {y = suc i} (omega arith)
