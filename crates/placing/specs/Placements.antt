-- What a placement puts on each core.
use Rattle.std.specs.Prelude.{ℕ, suc, cond, ◌&&◌, List, [], ◌∷◌, ◌++◌, ◌==◌, nat_lt}
use Rattle.model.specs.declared.stage.Stage.{Stage}
use Rattle.rules.specs.declared.load.Member.{Member}
use Rattle.rules.specs.Loads.{single}
use Rattle.placing.specs.declared.placement.Placement.{Placement}

abbrev pub no_placement : Placement
no_placement = record { name = []; cost = 0; period = 0; core = 0; first = 0; second = 0 }

-- a stage with its first share on a core and its second on the core after
abbrev pub seat : Stage → ℕ → ℕ → ℕ → Placement
seat s core first second = record { name = s.name; cost = s.cost; period = s.period; core = core; first = first; second = second }

-- what a stage puts on core j: its first share, or its second share kept back by the first, or nothing
abbrev pub member_on : Placement → ℕ → List Member
member_on p j =
    cond (j == p.core) (single p.first p.period 0)
    (cond (j == suc p.core && nat_lt 0 p.second) (single p.second p.period p.first) [])

-- the load of core j
abbrev pub load_on : List Placement → ℕ → List Member
load_on [] j = []
load_on (p ∷ ps) j = member_on p j ++ load_on ps j
