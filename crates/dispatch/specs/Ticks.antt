-- One tick: what each core takes, and what becomes of each stage.
use Rattle.std.specs.Prelude.{ℕ, zero, suc, ◌+◌, ◌-◌, Bool, cond, not, ◌&&◌, ◌||◌, List, [], ◌∷◌, ◌++◌, replicate, ◌==◌, nat_lt, slice_index}
use Rattle.placing.specs.declared.placement.Placement.{Placement}
use Rattle.model.specs.Limits.{review_box}
use Rattle.dispatch.specs.declared.state.State.{State}
use Rattle.dispatch.specs.declared.job.Job.TheVariants.{Open, Spent}
use Rattle.dispatch.specs.declared.job.Event.TheVariants.{Served, Released}
use Rattle.dispatch.specs.Jobs.{moved_by, is_open}

-- what a look-up past the end of the states finds
abbrev pub no_state : State
no_state = record { age = 0; first = 0; second = 0; job = Spent }

-- the ticks that core j owes a stage in each of its periods
abbrev pub share_on : Placement → ℕ → ℕ
share_on p j = cond (j == p.core) p.first (cond (j == suc p.core) p.second 0)

-- the ticks that core j has given it in the present one
abbrev pub given_on : Placement → State → ℕ → ℕ
given_on p s j = cond (j == p.core) s.first (cond (j == suc p.core) s.second 0)

-- its job is open, and some of its share on core j is not yet given
abbrev pub wants : Placement → State → ℕ → Bool
wants p s j = is_open s.job && nat_lt (given_on p s j) (share_on p j)

-- the number of the first stage that core j can take, or 0; the core before took stage prev, and k numbers the first of the lists
abbrev pub pick : ℕ → ℕ → ℕ → List Placement → List State → ℕ
pick j prev k [] ss = 0
pick j prev k (p ∷ ps) [] = 0
pick j prev k (p ∷ ps) (s ∷ ss) = let later = pick j prev (suc k) ps ss in cond (wants p s j && not (k == prev)) k later

-- the choices of n cores from core j on
abbrev pub picks : ℕ → ℕ → ℕ → List Placement → List State → List ℕ
picks zero j prev ps ss = []
picks (suc n) j prev ps ss = pick j prev 1 ps ss ∷ picks n (suc j) (pick j prev 1 ps ss) ps ss

-- eight stage numbers, 0 for idle
abbrev pub answer_of : ℕ → List Placement → List State → List ℕ
answer_of cores ps ss = picks cores 1 0 ps ss ++ replicate (review_box.cores - cores) 0

-- what core j took, by an answer
abbrev pub taken_on : List ℕ → ℕ → ℕ
taken_on answer j = slice_index (0 ∷ answer) j

abbrev pub names_on : List ℕ → ℕ → ℕ → Bool
names_on answer j k = taken_on answer j == k

abbrev pub one_if : Bool → ℕ
one_if b = cond b 1 0

-- a stage after its service, on its first core, on its second or on none
abbrev pub served : Bool → Bool → Placement → State → State
served one two p s =
    let a = s.first + one_if one in
    let b = s.second + one_if two in
    record { age = s.age; first = a; second = b; job = cond (one || two) (moved_by s.job (Served (a + b == p.cost))) s.job }

-- and once the tick is over: a tick older, or released
abbrev pub grown : Placement → State → State
grown p s =
    cond (suc s.age == p.period) (record { age = 0; first = 0; second = 0; job = moved_by s.job Released })
    (record { age = suc s.age; first = s.first; second = s.second; job = s.job })

abbrev pub step : List ℕ → ℕ → Placement → State → State
step answer k p s = grown p (served (names_on answer p.core k) (names_on answer (suc p.core) k) p s)

-- k numbers the first of the lists
abbrev pub stepped : List ℕ → ℕ → List Placement → List State → List State
stepped answer k [] ss = ss
stepped answer k (p ∷ ps) [] = []
stepped answer k (p ∷ ps) (s ∷ ss) = step answer k p s ∷ stepped answer (suc k) ps ss

-- the states after a tick
abbrev pub after_tick : ℕ → List Placement → List State → List State
after_tick cores ps ss = stepped (answer_of cores ps ss) 1 ps ss

abbrev pub fresh_state : State
fresh_state = record { age = 0; first = 0; second = 0; job = Open }

-- the states of a run that is opened
abbrev pub fresh_states : List State
fresh_states = replicate review_box.stages fresh_state
