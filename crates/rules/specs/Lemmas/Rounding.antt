-- Quotients, and quotients rounded up.
use Rattle.std.specs.Prelude.{◌≡◌, ℕ, ◌+◌, ◌-◌, ◌*◌, ◌/◌, ◌%◌, ◌<◌, ◌≤◌, min}
use Rattle.std.proofs.Common.{sym, ap, subst, ⊎_elim, mod-lt, div-add-mod', add-mul, one-mul, div-lt_iff_lt-mul, le-div_iff_mul-le, eq-zero-or-pos, div-mul-le_self, le_trans, arith}
use Rattle.std.proofs.Math.Nat.{div-eq_of_lt-le, div-zero}
use Rattle.rules.specs.Rules.{rounded_up}

-- as `div_ceil` says it
pub ceil_is : (a b : ℕ) → 0 < b → a / b + min 1 (a % b) ≡ rounded_up a b
ceil_is a b pos =
    let q = a / b in
    let r = a % b in
    let split = div-add-mod' a b in
    let low = mod-lt a pos in
    let k = q + min 1 r in
    let more = add-mul k 1 b in
    let one = one-mul b in
    ⊎_elim {C = k ≡ rounded_up a b}
    (λ z. let same : k * b ≡ q * b = ap (λ n. n * b) (omega arith) in
    sym (div-eq_of_lt-le {k = k} b {m = a + (b - 1)} (omega arith) (omega arith)))
    (λ z. let same : k * b ≡ (q + 1) * b = ap (λ n. n * b) (omega arith) in
    let next = add-mul q 1 b in
    sym (div-eq_of_lt-le {k = k} b {m = a + (b - 1)} (omega arith) (omega arith)))
    (eq-zero-or-pos r)

pub ceil_from : (a b x : ℕ) → 0 < b → a ≤ x * b → rounded_up a b ≤ x
ceil_from a b x pos h =
    let more = add-mul x 1 b in
    let one = one-mul b in
    let lt : rounded_up a b < x + 1 = (div-lt_iff_lt-mul pos).1 (omega arith) in
    omega arith

pub ceil_to : (a b x : ℕ) → 0 < b → rounded_up a b ≤ x → a ≤ x * b
ceil_to a b x pos h =
    let more = add-mul x 1 b in
    let one = one-mul b in
    let lt : rounded_up a b < x + 1 = omega arith in
    let room = (div-lt_iff_lt-mul {k = b} {x = a + (b - 1)} {y = x + 1} pos).0 lt in
    omega arith

-- the quotient rounded up reaches
pub rounded_reaches : (a b : ℕ) → 0 < b → a ≤ rounded_up a b * b
rounded_reaches a b pos = ceil_to a b (rounded_up a b) pos (omega arith)

pub div_more : (a b k : ℕ) → a ≤ b → a / k ≤ b / k
div_more a b k h =
    ⊎_elim
    (λ z. subst (λ x. a / x ≤ b / x) (sym z) (omega (arith, div-zero a, div-zero b)))
    (λ pos. (le-div_iff_mul-le pos).1 (le_trans (div-mul-le_self a k) h))
    (eq-zero-or-pos k)
