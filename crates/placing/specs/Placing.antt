-- The steps of placing, as a function of the loads that a rule passes.
use Rattle.std.specs.Prelude.{ℕ, zero, suc, ◌+◌, ◌-◌, Bool, cond, List, [], ◌∷◌, ◌++◌, Ok, Err, Result, ◌==◌}
use Rattle.model.specs.declared.fault.Fault.{Fault}
use Rattle.model.specs.declared.fault.Cause.{Cause}
use Rattle.model.specs.declared.fault.Layer.{Layer}
use Rattle.model.specs.declared.stage.Stage.{Stage}
use Rattle.model.specs.Faults.{fault}
use Rattle.model.specs.Limits.{review_box}
use Rattle.model.specs.Tables.{check_of}
use Rattle.rules.specs.declared.load.Member.{Member}
use Rattle.rules.specs.Loads.{single, joined}
use Rattle.rules.specs.Rules.{share_of}
use Rattle.placing.specs.declared.placement.Placement.{Placement}
use Rattle.placing.specs.Placements.{seat}

-- a stage that has its place, with the core and the load that the next stage finds
pub record Placed : Type 0 where
  pub placement : Placement
  pub core : ℕ
  pub load : List Member

-- step 1: the whole stage joins the load
abbrev pub whole : ℕ → List Member → Stage → Placed
whole core load s =
    record { placement = seat s core s.cost 0; core = core; load = joined load s.cost s.period }

-- what is left of a stage whose first share is g, on the core after
abbrev pub second_part : ℕ → Stage → List Member
second_part g s = single (s.cost - g) s.period g

-- step 4: the first share g joins the load, and the second share opens the next core
abbrev pub split : ℕ → ℕ → Stage → Placed
split core g s = record { placement = seat s core g (s.cost - g); core = core + 1; load = second_part g s }

-- the four steps for one stage; `after` is how many cores come after this one
abbrev pub place_stage : (List Member → Bool) → ℕ → ℕ → List Member → Stage → Result Placed Cause
place_stage passes zero core load s =
    cond (share_of passes load s.cost s.period == s.cost) (Ok (whole core load s)) (Err Cause.NoRoom)
place_stage passes (suc after) core load s =
    let g = share_of passes load s.cost s.period in
    cond (g == s.cost) (Ok (whole core load s))
    (cond (g == 0) (place_stage passes after (core + 1) [] s)
    (cond (passes (second_part g s)) (Ok (split core g s)) (Err Cause.NotAlone)))

abbrev pub behind : List Placement → Result (List Placement) Fault → Result (List Placement) Fault
behind ps (Ok qs) = Ok (ps ++ qs)
behind ps (Err f) = Err f

-- stage number k with its place, and then the rest; or its fault
abbrev pub and_then : Result Placed Cause → ℕ → (Placed → Result (List Placement) Fault) → Result (List Placement) Fault
and_then (Ok l) k rest = behind (l.placement ∷ []) (rest l)
and_then (Err cause) k rest = Err (fault cause k Layer.Placing)

-- the stages in turn, from number k on
abbrev pub place_stages : (List Member → Bool) → ℕ → ℕ → ℕ → List Member → List Stage → Result (List Placement) Fault
place_stages passes cores k core load [] = Ok []
place_stages passes cores k core load (s ∷ ss) =
    and_then (place_stage passes (cores - core) core load s) k (λ l. place_stages passes cores (k + 1) l.core l.load ss)

abbrev pub once_checked : Result (Unit {0}) Fault → Result (List Placement) Fault → Result (List Placement) Fault
once_checked (Ok u) then = then
once_checked (Err f) then = Err f

-- placing: the check of the table, and then its stages from core 1 on, which is empty
abbrev pub place_of : (List Member → Bool) → ℕ → List Stage → Result (List Placement) Fault
place_of passes cores ss = once_checked (check_of review_box cores ss Layer.Placing) (place_stages passes cores 1 1 [] ss)
