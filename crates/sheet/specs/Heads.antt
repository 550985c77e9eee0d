-- The words that begin a form.
use Rattle.std.specs.Prelude.{◌≡◌, ℕ, suc, Bool, cond, List, [], ◌∷◌, length, Some, None, codes, Option, ◌==◌, slice_index}
use Rattle.std.specs.Str.{bytes_eq}
use Rattle.sheet.specs.declared.forms.Head.{Head}

-- their letters
abbrev pub bytes : Head → List ℕ
bytes Head.Cores = codes "cores"
bytes Head.Stage = codes "stage"
bytes Head.Cost = codes "cost"
bytes Head.Period = codes "period"

-- the head word that a word is
abbrev pub head : List ℕ → Option Head
head w =
    cond (bytes_eq w (bytes Head.Cores)) (Some Head.Cores)
    (cond (bytes_eq w (bytes Head.Stage)) (Some Head.Stage)
    (cond (bytes_eq w (bytes Head.Cost)) (Some Head.Cost)
    (cond (bytes_eq w (bytes Head.Period)) (Some Head.Period) None)))

-- these bytes stand in w from place i on
abbrev pub Places : List ℕ → ℕ → List ℕ → Type 0
Places w i [] = Unit {0}
Places w i (b ∷ bs) = (slice_index w i ≡ b) × Places w (suc i) bs

-- w has the bytes of a head word
abbrev pub Spells : Head → List ℕ → Type 0
Spells h w = (length w ≡ length (bytes h)) × Places w 0 (bytes h)

-- the same as head, place by place
abbrev pub Heads : Option Head → List ℕ → Type 0
Heads None w = (Spells Head.Cores w → ⊥) × (Spells Head.Stage w → ⊥) × (Spells Head.Cost w → ⊥) × (Spells Head.Period w → ⊥)
Heads (Some h) w = Spells h w

-- the place of a head word among them
abbrev pub rank : Head → ℕ
rank Head.Cores = 0
rank Head.Stage = 1
rank Head.Cost = 2
rank Head.Period = 3

-- whether two head words are the same
abbrev pub same_head : Head → Head → Bool
same_head a b = rank a == rank b
