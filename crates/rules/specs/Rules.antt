-- The passing rules, as tests on loads, and the share that a rule leaves to one member more.
use Rattle.std.specs.Prelude.{ℕ, zero, suc, ◌+◌, ◌-◌, ◌*◌, ◌/◌, ◌%◌, Bool, true, cond, ◌&&◌, List, [], ◌∷◌, ◌++◌, length, is_some, Some, None, sum_by, Option, ◌==◌, nat_le}
use Rattle.rules.specs.declared.load.Member.{Member}
use Rattle.rules.specs.Loads.{lawful, joined}

-- a / b, rounded up
abbrev pub rounded_up : ℕ → ℕ → ℕ
rounded_up a b = (a + (b - 1)) / b

-- The response rule.

-- the ticks that a member can ask for in t ticks: what was kept back before them falls into them too, as if
-- the member had been released up to its hold earlier
abbrev pub asked : ℕ → Member → ℕ
asked t m = m.cost * rounded_up (t + m.hold) m.period

-- the ticks that the members can ask for in t ticks
abbrev pub interference : List Member → ℕ → ℕ
interference before t = sum_by (asked t) before

-- whether t ticks are enough for the demand: a member's own ticks, and what those before it can ask for
abbrev pub covers : List Member → ℕ → ℕ → Bool
covers before own t = nat_le (own + interference before t) t

-- the moment that was found before n, or else n where it passes
abbrev pub or_at : Option ℕ → Bool → ℕ → Option ℕ
or_at None passes n = cond passes (Some n) None
or_at (Some t) passes n = Some t

-- the first moment from 1 to n that passes a test
abbrev pub least_moment : (ℕ → Bool) → ℕ → Option ℕ
least_moment p zero = None
least_moment p (suc n) = or_at (least_moment p n) (p (suc n)) (suc n)

-- whether some moment from 1 to the limit is enough
abbrev pub covered_to : List Member → ℕ → ℕ → Bool
covered_to before own limit = is_some (least_moment (covers before own) limit)

-- whether a member is covered by its period; its own ticks are its cost, and its hold, which only the first
-- member of a load has
abbrev pub covered : List Member → Member → Bool
covered before m = covered_to before (m.cost + m.hold) m.period

-- whether each member is covered by its period, the ones before it being known
abbrev pub all_covered : List Member → List Member → Bool
all_covered before [] = true
all_covered before (m ∷ l) = covered before m && all_covered (before ++ (m ∷ [])) l

-- a lawful load with each member covered by its period
abbrev pub response : List Member → Bool
response l = lawful l && all_covered [] l

-- The harmonic rule.

-- the period of the last member
abbrev pub last_period : List Member → ℕ
last_period [] = 0
last_period (m ∷ []) = m.period
last_period (m ∷ k ∷ l) = last_period (k ∷ l)

-- each period divides the next
abbrev pub chained : List Member → Bool
chained [] = true
chained (m ∷ []) = true
chained (m ∷ k ∷ l) = k.period % m.period == 0 && chained (k ∷ l)

-- a member's work in p ticks, p being a multiple of its period
abbrev pub work : ℕ → Member → ℕ
work p m = m.cost * (p / m.period)

-- the work of all members in p ticks
abbrev pub work_in : ℕ → List Member → ℕ
work_in p l = sum_by (work p) l

-- a lawful load whose periods are a chain, the work in the last of them fitting into it
abbrev pub harmonic : List Member → Bool
harmonic l = lawful l && chained l && nat_le (work_in (last_period l) l) (last_period l)

-- The layers, each on any rule below it.

-- uses are told in millionths of the core
abbrev pub million : ℕ
million = 1000000

-- the part of the core that a member uses, rounded up
abbrev pub use_of : Member → ℕ
use_of m = rounded_up (million * m.cost) m.period

-- the parts that all members use
abbrev pub uses : List Member → ℕ
uses l = sum_by use_of l

-- what the rule below passes, where the members' uses add up to at most u
abbrev pub use_cap : ℕ → (List Member → Bool) → List Member → Bool
use_cap u below l = nat_le (uses l) u && below l

-- what the rule below passes, where there are at most k members
abbrev pub count_cap : ℕ → (List Member → Bool) → List Member → Bool
count_cap k below l = nat_le (length l) k && below l

-- The share.

-- the greatest number from 1 to n that passes a test, or 0
abbrev pub greatest : (ℕ → Bool) → ℕ → ℕ
greatest p zero = 0
greatest p (suc n) = let less = greatest p n in cond (p (suc n)) (suc n) less

-- the greatest c from 1 to the cost at which a member of this period is passed at the end of the load, or 0
abbrev pub share_of : (List Member → Bool) → List Member → ℕ → ℕ → ℕ
share_of passes load cost period = greatest (λ c. passes (joined load c period)) cost
