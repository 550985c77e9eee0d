-- What a reader gives up to a limit.
use Rattle.std.proofs.Common.{◌≡◌, ℕ, List, [], ◌++◌, take, Some, None, Option, arith}
use Rattle.std.specs.Option.{IfSome, option_map}

-- put behind no byte, it is the front of what the reader had left, where that is known
pub first_bytes : (left given : Option (List ℕ)) (limit most : ℕ) (before after : List ℕ) → given ≡ left → limit ≡ most → before ≡ [] → IfSome (option_map (take limit) given) (λ bytes. after ≡ before ++ bytes) → IfSome left (λ bytes. after ≡ take most bytes)
first_bytes None given limit most before after same up none h = tt
first_bytes (Some bytes) None limit most before after same up none h = let z : ◌≡◌ {A = ℕ} 0 1 = cc in absurd (omega arith)
first_bytes (Some bytes) (Some more) limit most before after same up none h = cc
