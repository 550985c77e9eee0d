-- What holds of the states beside their placements, at every moment of a run.
use Rattle.std.specs.Prelude.{ℕ, ◌<◌, ◌≤◌, List, length, slice_index_or}
use Rattle.placing.specs.declared.placement.Placement.{Placement}
use Rattle.dispatch.specs.declared.state.State.{State}
use Rattle.model.specs.Limits.{review_box}
use Rattle.placing.specs.Placements.{no_placement}
use Rattle.dispatch.specs.Ticks.{no_state}

abbrev pub InBounds : Placement → State → Type 0
InBounds p s = (s.age < p.period) × (s.first ≤ p.first) × (s.second ≤ p.second)

abbrev pub Within : List Placement → List State → Type 0
Within ps ss = (i : ℕ) → i < length ps → InBounds (slice_index_or ps i no_placement) (slice_index_or ss i no_state)

-- a state whose numbers can each grow by one
pub record Small (s : State) : Type 0 where
  pub age : s.age < review_box.longest
  pub first : s.first ≤ review_box.longest
  pub second : s.second ≤ review_box.longest
