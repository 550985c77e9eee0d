-- The limits of a box, and which numbers keep them.
use Rattle.std.specs.Prelude.{ℕ, Bool, ◌&&◌, nat_le}
use Rattle.model.specs.declared.limits.Limits.{Limits}

-- a review box
abbrev pub review_box : Limits
review_box = record { stages = 64; cores = 8; shortest = 2; longest = 60000 }

-- the bytes of a name
abbrev pub name_bytes : ℕ
name_bytes = 12

abbrev pub cores_allowed : Limits → ℕ → Bool
cores_allowed limits m = nat_le 1 m && nat_le m limits.cores

abbrev pub stages_allowed : Limits → ℕ → Bool
stages_allowed limits n = nat_le 1 n && nat_le n limits.stages

abbrev pub times_allowed : Limits → ℕ → ℕ → Bool
times_allowed limits cost period =
    nat_le limits.shortest period && nat_le period limits.longest && nat_le 1 cost && nat_le cost period
