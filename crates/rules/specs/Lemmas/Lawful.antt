-- What a lawful load says of each of its members.
use Rattle.std.specs.Prelude.{◌≡◌, ℕ, zero, suc, ◌+◌, ◌<◌, ◌≤◌, Bool, true, ◌&&◌, List, [], ◌∷◌, length, nat_le}
use Rattle.std.proofs.Common.{arith}
use Rattle.std.proofs.lemmas.Bool.{and_parts, and_from, leb-true, le-leb, false≢true}
use Rattle.rules.specs.declared.load.Member.{Member}
use Rattle.rules.specs.Loads.{all, within_limits, unheld, rising, lawful, member}
use Rattle.rules.specs.Bounds.{Kept}

pub all_at : (p : Member → Bool) (l : List Member) → all p l ≡ true → (i : ℕ) → i < length l → p (member l i) ≡ true
all_at p [] h i lt = absurd (omega arith)
all_at p (m ∷ l) h zero lt = (and_parts (p m) (all p l) h).0
all_at p (m ∷ l) h (suc i) lt = all_at p l (and_parts (p m) (all p l) h).1 i (omega arith)

-- the five parts of the test
pub record Parts (m : Member) (l : List Member) : Type 0 where
  pub few : nat_le (length (m ∷ l)) 64 ≡ true
  pub limits : all within_limits (m ∷ l) ≡ true
  pub first : nat_le (m.cost + m.hold) m.period ≡ true
  pub later : all unheld l ≡ true
  pub order : rising 0 (m ∷ l) ≡ true

pub lawful_parts : (m : Member) (l : List Member) → lawful (m ∷ l) ≡ true → Parts m l
lawful_parts m l h =
    let a = nat_le (length (m ∷ l)) 64 in
    let b = all within_limits (m ∷ l) in
    let c = nat_le (m.cost + m.hold) m.period in
    let d = all unheld l in
    let e = rising 0 (m ∷ l) in
    let h4 = and_parts (a && b && c && d) e h in
    let h3 = and_parts (a && b && c) d h4.0 in
    let h2 = and_parts (a && b) c h3.0 in
    let h1 = and_parts a b h2.0 in
    record { few = h1.0; limits = h1.1; first = h2.1; later = h3.1; order = h4.1 }

-- the test from its parts
pub lawful_from : (m : Member) (l : List Member) → Parts m l → lawful (m ∷ l) ≡ true
lawful_from m l y =
    let a = nat_le (length (m ∷ l)) 64 in
    let b = all within_limits (m ∷ l) in
    let c = nat_le (m.cost + m.hold) m.period in
    let d = all unheld l in
    let e = rising 0 (m ∷ l) in
    and_from (a && b && c && d) e (and_from (a && b && c) d (and_from (a && b) c (and_from a b y.few y.limits) y.first) y.later) y.order

pub limits_kept : (m : Member) → within_limits m ≡ true → Kept m
limits_kept m h =
    let a = nat_le 2 m.period in
    let b = nat_le m.period 60000 in
    let c = nat_le 1 m.cost in
    let d = nat_le m.cost m.period in
    let h3 = and_parts (a && b && c) d h in
    let h2 = and_parts (a && b) c h3.0 in
    let h1 = and_parts a b h2.0 in
    record { least = leb-true 2 m.period h1.0; most = leb-true m.period 60000 h1.1; some_cost = leb-true 1 m.cost h2.1; fits = leb-true m.cost m.period h3.1 }

pub limits_from : (m : Member) → Kept m → within_limits m ≡ true
limits_from m k =
    let a = nat_le 2 m.period in
    let b = nat_le m.period 60000 in
    let c = nat_le 1 m.cost in
    let d = nat_le m.cost m.period in
    and_from (a && b && c) d (and_from (a && b) c (and_from a b (le-leb 2 m.period k.least) (le-leb m.period 60000 k.most)) (le-leb 1 m.cost k.some_cost)) (le-leb m.cost m.period k.fits)

pub member_kept : (l : List Member) → lawful l ≡ true → (i : ℕ) → i < length l → Kept (member l i)
member_kept [] h i lt = absurd (omega arith)
member_kept (m ∷ l) h i lt = limits_kept (member (m ∷ l) i) (all_at within_limits (m ∷ l) (lawful_parts m l h).limits i lt)

pub first_fits : (l : List Member) → lawful l ≡ true → (member l 0).cost + (member l 0).hold ≤ (member l 0).period
first_fits [] h = absurd (false≢true h)
first_fits (m ∷ l) h = leb-true (m.cost + m.hold) m.period (lawful_parts m l h).first
