-- Ending a job, and looking at one.
use Rattle.std.specs.Prelude.{ℕ, ◌-◌, Bool, cond, ◌&&◌, List, length, Ok, Err, Result, nat_le, slice_index_or, slice_set}
use Rattle.placing.specs.declared.placement.Placement.{Placement}
use Rattle.dispatch.specs.declared.state.State.{State}
use Rattle.dispatch.specs.declared.job.Event.TheVariants.{Ended as EndedEvent}
use Rattle.model.specs.declared.fault.Fault.{Fault}
use Rattle.model.specs.declared.fault.Cause.{Cause}
use Rattle.model.specs.declared.fault.Layer.{Layer}
use Rattle.model.specs.Faults.{fault}
use Rattle.dispatch.specs.Jobs.{is_open, moved_by}
use Rattle.dispatch.specs.Ticks.{no_state}

-- stages are numbered from 1
abbrev pub is_stage : ℕ → List Placement → Bool
is_stage k ps = nat_le 1 k && nat_le k (length ps)

abbrev pub state_at : ℕ → List State → State
state_at k ss = slice_index_or ss (k - 1) no_state

abbrev pub refusal : Cause → ℕ → Fault
refusal cause k = fault cause k Layer.Running

-- where a stage's state stands among the states, or that there is no such stage
abbrev pub index_answer : ℕ → List Placement → Result ℕ Fault
index_answer k ps = cond (is_stage k ps) (Ok (k - 1)) (Err (refusal Cause.NoSuchStage k))

abbrev pub end_answer : ℕ → List Placement → List State → Result (Unit {0}) Fault
end_answer k ps ss = cond (is_stage k ps) (cond (is_open (state_at k ss).job) (Ok tt) (Err (refusal Cause.NotOpen k))) (Err (refusal Cause.NoSuchStage k))

abbrev pub ended : State → State
ended s = record { age = s.age; first = s.first; second = s.second; job = moved_by s.job EndedEvent }

-- the states after an end, refused or not
abbrev pub after_end : ℕ → List Placement → List State → List State
after_end k ps ss = cond (is_stage k ps && is_open (state_at k ss).job) (slice_set ss (k - 1) (ended (state_at k ss))) ss

abbrev pub look_answer : ℕ → List Placement → List State → Result State Fault
look_answer k ps ss = cond (is_stage k ps) (Ok (state_at k ss)) (Err (refusal Cause.NoSuchStage k))
