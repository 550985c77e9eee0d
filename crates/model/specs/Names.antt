-- What a name is: twelve bytes, letters from a to z in front, at least one, and zeros behind them.
use Rattle.std.specs.Prelude.{ℕ, Bool, ◌&&◌, List, length, take, drop, ◌==◌, nat_le}
use Rattle.std.specs.List.{list_all, prefix_len}
use Rattle.model.specs.Limits.{name_bytes}

abbrev pub letter : ℕ → Bool
letter b = nat_le 97 b && nat_le b 122

-- how many bytes in front are letters
abbrev pub letters : List ℕ → ℕ
letters bs = prefix_len letter bs

abbrev pub all_zero : List ℕ → Bool
all_zero bs = list_all (λ b. b == 0) bs

abbrev pub lawful_name : List ℕ → Bool
lawful_name n = length n == name_bytes && nat_le 1 (letters n) && all_zero (drop (letters n) n)

-- a name without the zeros behind it
abbrev pub letters_of : List ℕ → List ℕ
letters_of n = take (letters n) n
