-- What placing one stage leaves of the core that it came to.
use Rattle.std.specs.Prelude.{◌≡◌, Ok, Err, Result}
use Rattle.model.specs.declared.fault.Cause.{Cause}
use Rattle.placing.specs.declared.placement.Placement.{Placement}
use Rattle.placing.specs.declared.plan.core_load.CoreLoad.{CoreLoad}
use Rattle.placing.specs.Placing.{Placed}

-- the answer and the core after it; after a refusal the core is any
abbrev pub Leaves : Result Placed Cause → Result Placement Cause → CoreLoad → Type 0
Leaves l (Ok p) c = l ≡ Ok (record { placement = p; core = c.core; load = c.members.items })
Leaves l (Err e) c = l ≡ Err e
