-- Faults, and the numbers of causes and layers.
use Rattle.std.specs.Prelude.{ℕ, Ok, Err, Result}
use Rattle.model.specs.declared.fault.Cause.{Cause}
use Rattle.model.specs.declared.fault.Layer.{Layer}
use Rattle.model.specs.declared.fault.Fault.{Fault}

abbrev pub cause_number : Cause → ℕ
cause_number Cause.ShortTable = 10
cause_number Cause.NoForm = 11
cause_number Cause.OutsideLimits = 12
cause_number Cause.PeriodFalls = 13
cause_number Cause.NameUsed = 14
cause_number Cause.TooManyLines = 15
cause_number Cause.NoStageLine = 16
cause_number Cause.CountOutside = 20
cause_number Cause.BadRecord = 21
cause_number Cause.NoRoom = 22
cause_number Cause.NotAlone = 23
cause_number Cause.NoSuchStage = 31
cause_number Cause.NotOpen = 32
cause_number Cause.ShortPage = 41

abbrev pub layer_number : Layer → ℕ
layer_number Layer.Reading = 1
layer_number Layer.Placing = 2
layer_number Layer.Running = 3
layer_number Layer.Writing = 4

abbrev pub fault : Cause → ℕ → Layer → Fault
fault c n l = record { cause = c; place = n; layer = l }

-- what a call answers, seen by f where it is no refusal
abbrev pub answered : {X Y : Type 0} → (X → Y) → Result X Fault → Result Y Fault
answered f (Ok x) = Ok (f x)
answered f (Err why) = Err why
