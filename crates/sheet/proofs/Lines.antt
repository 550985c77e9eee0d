-- Reading line by line.
use Rattle.std.proofs.Common.{◌≡◌, ℕ, zero, suc, ◌+◌, ◌-◌, ◌<◌, List, [], ◌∷◌, ◌++◌, length, Ok, Err, Result, sym, refl, ap, ◌∙◌, arith}
use Rattle.std.proofs.lemmas.List.{nil_from_length}
use Rattle.model.specs.declared.fault.Fault.{Fault}
use Rattle.model.specs.declared.fault.Cause.{Cause}
use Rattle.model.specs.declared.stage.Stage.{Stage}
use Rattle.sheet.specs.Faults.{reading}
use Rattle.sheet.specs.Forms.{Passes}
use Rattle.sheet.specs.Sheets.{line_of, stages_from}

pub passes_ok : (o : Result (Stage × List ℕ) Fault) (x : Stage) (rest : List ℕ) → Passes o (Ok x) rest → o ≡ Ok (x, rest)
passes_ok (Ok p) x rest h = let q : p.0 ≡ x = cc h.0 in λ i. Ok (q i, sym h.1 i)
passes_ok (Err f) x rest h = cc h

pub passes_err : (o : Result (Stage × List ℕ) Fault) (f : Fault) (rest : List ℕ) → Passes o (Err f) rest → o ≡ Err f
passes_err (Ok p) f rest h = cc h.0
passes_err (Err g) f rest h = cc h

pub lines_done : (room line : ℕ) (before : List Stage) → stages_from room line before [] ≡ Ok before
unfolding stages_from
lines_done zero line before = refl
lines_done (suc room) line before = refl

pub lines_full : (line : ℕ) (before : List Stage) (bs : List ℕ) → 0 < length bs → stages_from 0 line before bs ≡ Err (reading Cause.TooManyLines line)
unfolding stages_from
lines_full line before [] h = absurd (omega arith)
lines_full line before (b ∷ bs) h = refl

pub lines_err : (room line : ℕ) (before : List Stage) (bs : List ℕ) (f : Fault) → 0 < length bs → line_of line before bs ≡ Err f → stages_from (suc room) line before bs ≡ Err f
unfolding stages_from
lines_err room line before [] f h e = absurd (omega arith)
lines_err room line before (b ∷ bs) f h e = rw (stages_from, e)

pub lines_more : (room line : ℕ) (before : List Stage) (bs : List ℕ) (s : Stage) (rest : List ℕ) → 0 < length bs → line_of line before bs ≡ Ok (s, rest) → stages_from (suc room) line before bs ≡ stages_from room (suc line) (before ++ s ∷ []) rest
unfolding stages_from
lines_more room line before [] s rest h e = absurd (omega arith)
lines_more room line before (b ∷ bs) s rest h e = rw (stages_from, e)

-- the loop over the lines, with count stages read of at most so many, and o the answer
module _ (most count : ℕ) (before : List Stage) (bs : List ℕ) (o : Result (List Stage) Fault) (so_far : stages_from (most - count) (count + 2) before bs ≡ o) where
  pub loop_done : length bs ≡ 0 → o ≡ Ok before
  loop_done none = sym so_far ∙ ap (λ l. stages_from (most - count) (count + 2) before l) (nil_from_length bs none) ∙ lines_done (most - count) (count + 2) before

  pub loop_full : count ≡ most → 0 < length bs → o ≡ Err (reading Cause.TooManyLines (count + 2))
  loop_full full some =
      let e : most - count ≡ 0 = omega arith in
      sym so_far ∙ ap (λ r. stages_from r (count + 2) before bs) e ∙ lines_full (count + 2) before bs some

  pub loop_err : (f : Fault) → count < most → 0 < length bs → line_of (count + 2) before bs ≡ Err f → o ≡ Err f
  loop_err f room some h =
      let e : most - count ≡ suc (most - (count + 1)) = omega arith in
      sym so_far ∙ ap (λ r. stages_from r (count + 2) before bs) e ∙ lines_err (most - (count + 1)) (count + 2) before bs f some h

  pub loop_more : (s : Stage) (rest : List ℕ) → count < most → 0 < length bs → line_of (count + 2) before bs ≡ Ok (s, rest) → stages_from (most - (count + 1)) (count + 1 + 2) (before ++ s ∷ []) rest ≡ o
  loop_more s rest room some h =
      let e : suc (most - (count + 1)) ≡ most - count = omega arith in
      let f : count + 1 + 2 ≡ suc (count + 2) = omega arith in
      ap (λ l. stages_from (most - (count + 1)) l (before ++ s ∷ []) rest) f
      ∙ sym (lines_more (most - (count + 1)) (count + 2) before bs s rest some h)
      ∙ ap (λ r. stages_from r (count + 2) before bs) e
      ∙ so_far
