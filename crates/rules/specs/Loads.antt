-- Loads: the members on one core, the most urgent first, and which loads are lawful.
use Rattle.std.specs.Prelude.{ℕ, ◌+◌, Bool, true, false, ◌&&◌, List, [], ◌∷◌, ◌++◌, length, ◌==◌, nat_le, slice_index_or}
use Rattle.model.specs.Limits.{review_box, times_allowed}
use Rattle.model.specs.declared.stage.Stage.{Stage}
use Rattle.rules.specs.declared.load.Member.{Member}

-- what stands past the end of a load
abbrev pub nobody : Member
nobody = record { cost = 0; period = 0; hold = 0 }

-- the member at a place, counted from 0
abbrev pub member : List Member → ℕ → Member
member l i = slice_index_or l i nobody

-- the load of one member
abbrev pub single : ℕ → ℕ → ℕ → List Member
single cost period hold = record { cost = cost; period = period; hold = hold } ∷ []

-- a member that joins a load behind the others, and so is never held
abbrev pub newcomer : ℕ → ℕ → Member
newcomer cost period = record { cost = cost; period = period; hold = 0 }

-- a stage as a member, whole
abbrev pub whole_member : Stage → Member
whole_member s = newcomer s.cost s.period

-- the load with one member more at its end
abbrev pub joined : List Member → ℕ → ℕ → List Member
joined load cost period = load ++ (newcomer cost period ∷ [])

-- whether each member passes a test
abbrev pub all : {A : Type 0} → (A → Bool) → List A → Bool
all p [] = true
all p (x ∷ xs) = p x && all p xs

-- a cost and a period that a review box takes
abbrev pub within_limits : Member → Bool
within_limits m = times_allowed review_box m.cost m.period

-- a member that no core before keeps back
abbrev pub unheld : Member → Bool
unheld m = m.hold == 0

-- periods that never fall, the first being p or more
abbrev pub rising : ℕ → List Member → Bool
rising p [] = true
rising p (m ∷ l) = nat_le p m.period && rising m.period l

-- at least one member and no more than a box has stages, each within the limits; the first has its cost
-- and its hold within its period, the others have no hold; periods never fall
abbrev pub lawful : List Member → Bool
lawful [] = false
lawful (m ∷ l) =
    nat_le (length (m ∷ l)) review_box.stages && all within_limits (m ∷ l) && nat_le (m.cost + m.hold) m.period && all unheld l && rising 0 (m ∷ l)
