-- What lowering a cost keeps.
use Rattle.std.specs.Prelude.{◌≡◌, ℕ, ◌≤◌, Bool, true, List, [], ◌∷◌, ◌++◌}
use Rattle.rules.specs.declared.load.Member.{Member}

-- the member with another cost
abbrev pub at_cost : Member → ℕ → Member
at_cost m c = record { cost = c; period = m.period; hold = m.hold }

-- a passed load stays passed when the cost of its last member is lowered, to 1 at least
abbrev pub LoweringKeeps : (List Member → Bool) → Type 0
LoweringKeeps passes = (l : List Member) (m : Member) (c : ℕ) → 1 ≤ c → c ≤ m.cost → passes (l ++ (m ∷ [])) ≡ true → passes (l ++ (at_cost m c ∷ [])) ≡ true
