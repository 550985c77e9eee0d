-- A tick as one walk along the stages: what a stage finds when its turn comes, and what it leaves.
use Rattle.std.specs.Prelude.{ℕ, ◌-◌, Bool, cond, not, ◌&&◌, List, ◌==◌, nat_lt, slice_index, slice_set}
use Rattle.placing.specs.declared.placement.Placement.{Placement}
use Rattle.dispatch.specs.declared.state.State.{State}
use Rattle.dispatch.specs.Jobs.{is_open}
use Rattle.dispatch.specs.Ticks.{served, grown}

-- in a row, as in an answer, the number for core j stands at j - 1; it is 0 as long as the core took no stage

-- the stage's first core takes it
abbrev pub takes_first : Placement → State → List ℕ → Bool
takes_first p s row = is_open s.job && nat_lt s.first p.first && slice_index row (p.core - 1) == 0

-- its second core does, since its first did not
abbrev pub takes_second : Placement → State → List ℕ → Bool
takes_second p s row = is_open s.job && nat_lt s.second p.second && not (takes_first p s row) && slice_index row p.core == 0

-- the stage once it was served or passed over, and once the tick is over
abbrev pub served_after : Placement → State → List ℕ → State
served_after p s row = served (takes_first p s row) (takes_second p s row) p s

abbrev pub state_after : Placement → State → List ℕ → State
state_after p s row = grown p (served_after p s row)

-- the row once stage number k had its turn
abbrev pub row_after : ℕ → Placement → State → List ℕ → List ℕ
row_after k p s row = cond (takes_first p s row) (slice_set row (p.core - 1) k) (cond (takes_second p s row) (slice_set row p.core k) row)
