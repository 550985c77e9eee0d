-- Sums over the members of a load.
use Rattle.std.specs.Prelude.{◌≡◌, ℕ, suc, ◌+◌, ◌<◌, ◌≤◌, List, [], ◌∷◌, length, take, sum_by}
use Rattle.std.proofs.Common.{subst, add-one, arith}
use Rattle.std.proofs.lemmas.List.Sums.{sum_by-cons, sum_by_more}
use Rattle.rules.specs.declared.load.Member.{Member}
use Rattle.rules.specs.Loads.{member, nobody}

-- one member more
pub sum_suc : (f : Member → ℕ) (l : List Member) (i : ℕ) → i < length l → sum_by f (take (suc i) l) ≡ sum_by f (take i l) + f (member l i)
sum_suc f l i h = subst (λ n. sum_by f (take n l) ≡ sum_by f (take i l) + f (member l i)) (add-one i) (sum_by_more f l i nobody h)

-- what is nowhere less
pub sum_mono : (f g : Member → ℕ) → ((m : Member) → f m ≤ g m) → (l : List Member) → sum_by f l ≤ sum_by g l
sum_mono f g h [] = omega arith
sum_mono f g h (m ∷ l) = omega (arith, sum_by-cons f m l, sum_by-cons g m l, h m, sum_mono f g h l)
