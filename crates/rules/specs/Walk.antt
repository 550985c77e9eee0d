-- The test of a load, one member after another, as the code walks it.
use Rattle.std.specs.Prelude.{ℕ, ◌+◌, Bool, true, ◌&&◌, List, [], ◌∷◌, nat_le}
use Rattle.rules.specs.declared.load.Member.{Member}
use Rattle.rules.specs.Loads.{within_limits, unheld}

-- whether a member can stand first
abbrev pub may_open : Member → Bool
may_open m = within_limits m && nat_le (m.cost + m.hold) m.period

-- whether a member can stand behind one of period p
abbrev pub may_follow : ℕ → Member → Bool
may_follow p m = nat_le p m.period && unheld m && within_limits m

-- whether the members can stand, in their order, behind one of period p
abbrev pub orderly : ℕ → List Member → Bool
orderly p [] = true
orderly p (m ∷ l) = may_follow p m && orderly m.period l

-- the period of the last member, or q
abbrev pub last_or : ℕ → List Member → ℕ
last_or q [] = q
last_or q (m ∷ l) = last_or m.period l
