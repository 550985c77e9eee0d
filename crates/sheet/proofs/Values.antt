-- How large the number of a few bytes can be.
use Rattle.std.proofs.Common.{ℕ, zero, suc, ◌+◌, ◌*◌, ◌<◌, ◌≤◌, arith}

-- an upper bound of the value of i bytes
abbrev pub cap : ℕ → ℕ
cap zero = 0
cap (suc i) = cap i * 10 + 255

pub cap_small : (i : ℕ) → i < 5 → cap i ≤ 283305
cap_small zero h = omega arith
cap_small (suc zero) h = omega arith
cap_small (suc (suc zero)) h = omega arith
cap_small (suc (suc (suc zero))) h = omega arith
cap_small (suc (suc (suc (suc zero)))) h = omega arith
cap_small (suc (suc (suc (suc (suc i))))) h = absurd (omega arith)
