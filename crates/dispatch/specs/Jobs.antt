-- How an event moves a job.
use Rattle.std.specs.Prelude.{ℕ, Bool, true, false, cond}
use Rattle.dispatch.specs.declared.job.Job.{Job}
use Rattle.dispatch.specs.declared.job.Job.TheVariants.{Open, Ended, Spent}
use Rattle.dispatch.specs.declared.job.Event.{Event}
use Rattle.dispatch.specs.declared.job.Event.TheVariants.{Served, Ended as EndedEvent, Released}

-- the number that look tells
abbrev pub job_number : Job → ℕ
job_number Open = 1
job_number Ended = 2
job_number Spent = 3

-- the job after an event
abbrev pub moved_by : Job → Event → Job
moved_by job Released = Open
moved_by Open (Served done) = cond done Spent Open
moved_by Ended (Served done) = Ended
moved_by Spent (Served done) = Spent
moved_by Open EndedEvent = Ended
moved_by Ended EndedEvent = Ended
moved_by Spent EndedEvent = Spent

abbrev pub is_open : Job → Bool
is_open Open = true
is_open Ended = false
is_open Spent = false
