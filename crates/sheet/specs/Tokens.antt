-- The tokens of a sheet, as parts of a list of bytes.
use Rattle.std.specs.Prelude.{ℕ, Bool, cond, ◌&&◌, ◌||◌, List, [], ◌∷◌, take, drop, ◌==◌, nat_le}
use Rattle.std.specs.List.{prefix_len}
use Rattle.model.specs.Names.{letter, letters}
use Rattle.sheet.specs.declared.cursor.Cursor.{Cursor}
use Rattle.sheet.specs.declared.token.Token.{Token}

-- the bytes that are tokens by themselves
abbrev pub bracket : ℕ
bracket = 40

abbrev pub closing : ℕ
closing = 41

abbrev pub space : ℕ
space = 32

abbrev pub newline : ℕ
newline = 10

-- whether a byte is one of them
abbrev pub is_sign : ℕ → Bool
is_sign b = b == bracket || b == closing || b == space || b == newline

-- whether a byte may stand in a number
abbrev pub digit : ℕ → Bool
digit b = nat_le 48 b && nat_le b 57

-- how many bytes in front are digits
abbrev pub digits_front : List ℕ → ℕ
digits_front bs = prefix_len digit bs

-- a sign, a word, a number, or what is none of them
pub data Lexeme : Type 0 where
  sign' : ℕ → Lexeme
  word' number' : List ℕ → Lexeme
  stray' : Lexeme

-- what a token says
abbrev pub heard : Token → Lexeme
heard Token.Open = sign' bracket
heard Token.Close = sign' closing
heard Token.Gap = sign' space
heard Token.End = sign' newline
heard (Token.Word w) = word' w.now
heard (Token.Number w) = number' w.now
heard Token.Stray = stray'

-- the token that begins a list of bytes: words and numbers are as long as they can be
abbrev pub lexeme : List ℕ → Lexeme
lexeme [] = stray'
lexeme (b ∷ bs) =
    cond (letter b) (word' (take (letters (b ∷ bs)) (b ∷ bs)))
    (cond (digit b) (number' (take (digits_front (b ∷ bs)) (b ∷ bs)))
    (cond (is_sign b) (sign' b) stray'))

-- how many bytes it has
abbrev pub span : List ℕ → ℕ
span [] = 0
span (b ∷ bs) = cond (letter b) (letters (b ∷ bs)) (cond (digit b) (digits_front (b ∷ bs)) 1)

-- what comes after it
abbrev pub after : List ℕ → List ℕ
after bs = drop (span bs) bs

-- what is left of a sheet from a place on
abbrev pub rest_of : Cursor → List ℕ
rest_of c = drop c.place c.text.now
