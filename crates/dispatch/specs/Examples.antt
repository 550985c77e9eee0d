-- The worked session, tick by tick; with what the rules and placing make of small tables.
use Rattle.std.specs.Prelude.{◌≡◌, ℕ, zero, suc, List, [], ◌∷◌}
use Rattle.placing.specs.declared.placement.Placement.{Placement}
use Rattle.placing.specs.Examples.{WorkedPlacings, session_plan}
use Rattle.dispatch.specs.declared.state.State.{State}
use Rattle.dispatch.specs.Ticks.{answer_of, after_tick, fresh_states}
use Rattle.dispatch.specs.Ends.{after_end}

-- the answers of so many ticks, one after another
abbrev pub answers : ℕ → ℕ → List Placement → List State → List (List ℕ)
answers zero cores ps ss = []
answers (suc n) cores ps ss = answer_of cores ps ss ∷ answers n cores ps (after_tick cores ps ss)

-- an answer of a plan with two cores
abbrev pub on_two : ℕ → ℕ → List ℕ
on_two a b = a ∷ b ∷ 0 ∷ 0 ∷ 0 ∷ 0 ∷ 0 ∷ 0 ∷ []

pub record WorkedExamples : Type 0 where
  pub placings : WorkedPlacings
  pub session :
      answers 12 2 session_plan fresh_states
      ≡ on_two 1 3 ∷ on_two 2 3 ∷ on_two 2 4 ∷ on_two 3 4 ∷ on_two 1 4 ∷ on_two 3 4 ∷ on_two 2 4 ∷ on_two 2 0 ∷ on_two 1 3 ∷ on_two 3 0 ∷ on_two 3 0 ∷ on_two 0 3 ∷ []
  -- stages 1 and 2 ended before the first tick
  pub ended_early : answer_of 2 session_plan (after_end 2 session_plan (after_end 1 session_plan fresh_states)) ≡ on_two 3 4
