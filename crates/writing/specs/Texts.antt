-- What a text says.
use Rattle.std.specs.Prelude.{◌≡◌, ℕ, List, ◌++◌}
use Rattle.writing.specs.Room.{cut}
use Rattle.writing.specs.declared.text.Text.{Text}

-- the bytes that were put
abbrev pub text_of : Text → List ℕ
text_of t = t.bytes.items

-- a text and what it is once these bytes were added to it, as far as there was room
abbrev pub Adds : Text → List ℕ → Text → Type 0
Adds before bytes after = text_of after ≡ cut (text_of before ++ bytes)
