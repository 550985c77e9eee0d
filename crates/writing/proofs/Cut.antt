-- A text that is cut off where the room ends, piece by piece.
use Rattle.std.proofs.Common.{◌≡◌, ℕ, zero, suc, ◌+◌, ◌<◌, ◌≤◌, List, [], ◌∷◌, ◌++◌, length, take, sym, refl, ap, ◌∙◌, ⊎_elim, arith, length-append}
use lib.Seq.{take-append-add}
use Rattle.std.proofs.lemmas.List.{take_all}
use Rattle.std.proofs.lemmas.Bool.{cases_lt}

-- cutting before a piece is added changes nothing
pub take_again : (n : ℕ) (a b : List ℕ) → take n (take n a ++ b) ≡ take n (a ++ b)
take_again zero a b = refl
take_again (suc n) [] b = refl
take_again (suc n) (x ∷ a) b = ap (λ l. x ∷ l) (take_again n a b)

-- as much of a piece as there is room for, behind a text
pub take_piece : (n count : ℕ) (t b : List ℕ) → length t + count ≤ n → count ≤ length b → (count < length b → length t + count ≡ n) → t ++ take count b ≡ take n (t ++ b)
take_piece n count t b fits within full =
    ⊎_elim
    (λ less. sym (take-append-add t b count) ∙ ap (λ k. take k (t ++ b)) (full less))
    (λ all. ap (λ l. t ++ l) (take_all count b all) ∙ sym (take_all n (t ++ b) (omega (arith, length-append t b))))
    (cases_lt count (length b))
