-- How many bytes a text can hold.
use Rattle.std.specs.Prelude.{ℕ, List, take}

abbrev pub room : ℕ
room = 4096

-- as much of a text as there is room for
unfoldable pub cut : List ℕ → List ℕ
cut text = take room text
