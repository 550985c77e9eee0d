-- The tick line.
use Rattle.std.specs.Prelude.{ℕ, List, ◌++◌, take, codes, decimal}
use Rattle.std.specs.List.{flat_map}

abbrev pub number_text : ℕ → List ℕ
number_text n = codes " " ++ decimal n

-- the tick's number, and then these
unfoldable pub line_text : ℕ → List ℕ → List ℕ
line_text tick numbers = codes "(tick " ++ decimal tick ++ flat_map number_text numbers ++ codes ")\n"

-- of the tick's answer, one number for each core
abbrev pub tick_text : ℕ → ℕ → List ℕ → List ℕ
tick_text tick cores answer = line_text tick (take cores answer)
