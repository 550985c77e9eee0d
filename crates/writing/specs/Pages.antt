-- A text in a page of the caller's.
use Rattle.std.specs.Prelude.{ℕ, cond, List, ◌++◌, length, drop, Ok, Err, Result, nat_le}
use Rattle.model.specs.declared.fault.Fault.{Fault}
use Rattle.model.specs.declared.fault.Cause.{Cause}
use Rattle.model.specs.declared.fault.Layer.{Layer}
use Rattle.model.specs.Faults.{fault}

-- a page with this text in front: the bytes beyond it stay
abbrev pub onto : List ℕ → List ℕ → List ℕ
onto text page = text ++ drop (length text) page

-- how many bytes are written of a text, or why none is: there is no text, or the page is too short for it
abbrev pub page_answer : Result (List ℕ) Fault → List ℕ → Result ℕ Fault
page_answer (Ok text) page =
    cond (nat_le (length text) (length page)) (Ok (length text)) (Err (fault Cause.ShortPage 0 Layer.Writing))
page_answer (Err why) page = Err why

-- the page then, which a refusal leaves as it was
abbrev pub page_after : Result (List ℕ) Fault → List ℕ → List ℕ
page_after (Ok text) page = cond (nat_le (length text) (length page)) (onto text page) page
page_after (Err why) page = page
