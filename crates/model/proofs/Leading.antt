-- The bytes in front of a list that pass a test.
use Rattle.std.proofs.Common.{◌≡◌, ℕ, suc, ◌+◌, Bool, true, List, [], ◌∷◌, ◌++◌, length, take, sym, ap, ◌∙◌, subst, ⊎_elim, one-add}
use Rattle.std.specs.List.{prefix_len, AllByRecursion}
use Rattle.std.proofs.lemmas.Bool.{cases_Bool, cond-true, cond-false}

-- they end where the test first fails
pub leading_stop : (p : ℕ → Bool) (w rest : List ℕ) → AllByRecursion (λ b. p b ≡ true) w → prefix_len p rest ≡ 0 → prefix_len p (w ++ rest) ≡ length w
leading_stop p [] rest a n = n
leading_stop p (x ∷ xs) rest a n = cond-true _ _ _ a.0 ∙ one-add _ ∙ ap suc (leading_stop p xs rest a.1 n)

pub leading_yes : (p : ℕ → Bool) (x : ℕ) (xs : List ℕ) → p x ≡ true → prefix_len p (x ∷ xs) ≡ suc (prefix_len p xs)
leading_yes p x xs h = cond-true _ _ _ h ∙ one-add _

pub leading_front : (p : ℕ → Bool) (bs : List ℕ) → AllByRecursion (λ b. p b ≡ true) (take (prefix_len p bs) bs)
leading_front p [] = tt
leading_front p (x ∷ xs) =
    ⊎_elim
    (λ h. subst (λ n. AllByRecursion (λ b. p b ≡ true) (take n (x ∷ xs))) (sym (leading_yes p x xs h)) (h, leading_front p xs))
    (λ h. subst (λ n. AllByRecursion (λ b. p b ≡ true) (take n (x ∷ xs))) (sym (cond-false (p x) (1 + prefix_len p xs) 0 h)) tt)
    (cases_Bool (p x))
