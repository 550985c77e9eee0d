-- The forms of a sheet's lines, token by token.
use Rattle.std.specs.Prelude.{◌≡◌, ℕ, ◌+◌, ◌-◌, ◌*◌, Bool, cond, not, ◌&&◌, ◌||◌, List, ◌++◌, length, replicate, Some, None, Ok, Err, fold, Option, Result, ◌==◌, nat_le, slice_index}
use Rattle.model.specs.declared.fault.Cause.{Cause}
use Rattle.model.specs.declared.fault.Fault.{Fault}
use Rattle.model.specs.declared.stage.Stage.{Stage}
use Rattle.model.specs.Limits.{name_bytes}
use Rattle.sheet.specs.declared.forms.Head.{Head}
use Rattle.sheet.specs.Faults.{reading}
use Rattle.sheet.specs.Heads.{head, same_head}
use Rattle.sheet.specs.Tokens.{sign', word', number', stray', lexeme, after, bracket, closing, space, newline}

-- the most digits of a number
abbrev pub most_digits : ℕ
most_digits = 5

-- at least one digit, no more than may be, and no zero in front of another digit
abbrev pub plain : List ℕ → Bool
plain ds = nat_le 1 (length ds) && nat_le (length ds) most_digits && (nat_le (length ds) 1 || not (slice_index ds 0 == 48))

-- the value of digits in base ten
abbrev pub value : List ℕ → ℕ
value ds = fold (λ n d. n * 10 + (d - 48)) 0 ds

-- the number that digits are
abbrev pub number_of : List ℕ → Option ℕ
number_of ds = cond (plain ds) (Some (value ds)) None

-- a word with zeros behind it up to a name's bytes
abbrev pub name_of : List ℕ → Option (List ℕ)
name_of w = cond (nat_le (length w) name_bytes) (Some (w ++ replicate (name_bytes - length w) 0)) None

-- go on behind this sign
abbrev pub on_sign : {X : Type 0} → ℕ → List ℕ → (List ℕ → Option X) → Option X
on_sign c bs k = elim (lexeme bs) [ sign' d ↦ cond (d == c) (k (after bs)) None | word' w ↦ None | number' w ↦ None | stray' ↦ None ]

-- go on behind a word, with its letters
abbrev pub on_word : {X : Type 0} → List ℕ → (List ℕ → List ℕ → Option X) → Option X
on_word bs k = elim (lexeme bs) [ sign' d ↦ None | word' w ↦ k w (after bs) | number' w ↦ None | stray' ↦ None ]

-- go on behind a number, with its digits
abbrev pub on_number : {X : Type 0} → List ℕ → (List ℕ → List ℕ → Option X) → Option X
on_number bs k = elim (lexeme bs) [ sign' d ↦ None | word' w ↦ None | number' w ↦ k w (after bs) | stray' ↦ None ]

-- go on with what was found
abbrev pub on_some : {X Y : Type 0} → Option Y → (Y → Option X) → Option X
on_some o k = elim o [ None ↦ None | Some y ↦ k y ]

-- Each form answers what it says, with what is left behind it.
-- a bracket, the head word and a space
unfoldable pub opening_of : Head → List ℕ → Option (Unit {0} × List ℕ)
opening_of wanted b0 =
    on_sign bracket b0 (λ b1. on_word b1 (λ w b2. on_some (head w) (λ h.
    cond (same_head h wanted) (on_sign space b2 (λ b3. Some (tt, b3))) None)))

-- a head word with its number
unfoldable pub field_of : Head → List ℕ → Option (ℕ × List ℕ)
field_of wanted b0 =
    on_some (opening_of wanted b0) (λ o. on_number o.1 (λ ds b1. on_some (number_of ds) (λ n.
    on_sign closing b1 (λ b2. Some (n, b2)))))

-- the line of the core count
unfoldable pub cores_of : List ℕ → Option (ℕ × List ℕ)
cores_of b0 = on_some (field_of Head.Cores b0) (λ p. on_sign newline p.1 (λ b1. Some (p.0, b1)))

-- the front of a stage's line, up to its name
unfoldable pub title_of : List ℕ → Option (List ℕ × List ℕ)
title_of b0 =
    on_some (opening_of Head.Stage b0) (λ o. on_word o.1 (λ w b1. on_some (name_of w) (λ name. Some (name, b1))))

-- a space, and a head word with its number
unfoldable pub part_of : Head → List ℕ → Option (ℕ × List ℕ)
part_of wanted b0 = on_sign space b0 (λ b1. field_of wanted b1)

-- the line of a stage
unfoldable pub stage_of : List ℕ → Option (Stage × List ℕ)
stage_of b0 =
    on_some (title_of b0) (λ t. on_some (part_of Head.Cost t.1) (λ p. on_some (part_of Head.Period p.1) (λ q.
    on_sign closing q.1 (λ b1. on_sign newline b1 (λ b2. Some (record { name = t.0; cost = p.0; period = q.0 }, b2))))))

-- a form that has to stand in this line
abbrev pub formed : {X : Type 0} → ℕ → Option X → Result X Fault
formed line None = Err (reading Cause.NoForm line)
formed line (Some x) = Ok x

-- what a call that reads a form answers, and what is left of the sheet then
abbrev pub Passes : {X : Type 0} → Result (X × List ℕ) Fault → Result X Fault → List ℕ → Type 0
Passes (Ok p) r rest = (r ≡ Ok p.0) × (rest ≡ p.1)
Passes (Err f) r rest = r ≡ Err f
