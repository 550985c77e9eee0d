-- The first token of a list of bytes, from both sides.
use Rattle.std.proofs.Common.{◌≡◌, ℕ, ◌≤◌, Bool, true, false, cond, List, [], ◌∷◌, ◌++◌, length, take, drop, sym, refl, ap, ◌∙◌, subst, arith, take-append-drop}
use Rattle.std.specs.List.{prefix_len, AllByRecursion}
use Rattle.std.proofs.lemmas.Bool.{cond-false}
use Rattle.std.proofs.lemmas.List.{take_at, drop_at}
use Rattle.std.proofs.lemmas.Bool.Decides.{nat_tests}
use Rattle.model.specs.Names.{letter, letters}
use Rattle.model.proofs.Leading.{leading_stop, leading_yes, leading_front}
use Rattle.sheet.specs.Tokens.{is_sign, digit, digits_front, Lexeme, sign', word', number', stray', lexeme, after}

-- a token and its length, by the tests of the first byte
abbrev lex_by : Bool → Bool → Bool → ℕ → List ℕ → Lexeme
lex_by a d s b bs =
    cond a (word' (take (letters (b ∷ bs)) (b ∷ bs))) (cond d (number' (take (digits_front (b ∷ bs)) (b ∷ bs))) (cond s (sign' b) stray'))

abbrev span_by : Bool → Bool → ℕ → List ℕ → ℕ
span_by a d b bs = cond a (letters (b ∷ bs)) (cond d (digits_front (b ∷ bs)) 1)

-- a run of bytes that pass the test, up to one that does not
module _ (p : ℕ → Bool) (w : List ℕ) (c : ℕ) (rest : List ℕ) (a : AllByRecursion (λ b. p b ≡ true) w) (stop : p c ≡ false) where
  run_long : prefix_len p (w ++ c ∷ rest) ≡ length w
  run_long = leading_stop p w (c ∷ rest) a (cond-false _ _ _ stop)

  run_front : take (prefix_len p (w ++ c ∷ rest)) (w ++ c ∷ rest) ≡ w
  run_front = ap (λ i. take i (w ++ c ∷ rest)) run_long ∙ take_at w (c ∷ rest) (length w) refl

  run_back : drop (prefix_len p (w ++ c ∷ rest)) (w ++ c ∷ rest) ≡ c ∷ rest
  run_back = ap (λ i. drop i (w ++ c ∷ rest)) run_long ∙ drop_at w (c ∷ rest) (length w) refl

-- from a word or a number to its token
pub lex_word : (w : List ℕ) (c : ℕ) (rest : List ℕ) → AllByRecursion (λ b. letter b ≡ true) w → 1 ≤ length w → letter c ≡ false → (lexeme (w ++ c ∷ rest) ≡ word' w) × (after (w ++ c ∷ rest) ≡ c ∷ rest)
lex_word [] c rest a some stop = absurd (omega arith)
lex_word (x ∷ xs) c rest a some stop =
    let tail = xs ++ c ∷ rest in (
      ap (λ t. lex_by t (digit x) (is_sign x) x tail) a.0 ∙ ap word' (run_front letter (x ∷ xs) c rest a stop),
      ap (λ t. drop (span_by t (digit x) x tail) (x ∷ tail)) a.0 ∙ run_back letter (x ∷ xs) c rest a stop,
    )

digit_only : (b : ℕ) → digit b ≡ true → letter b ≡ false
digit_only b h = grind (arith, nat_tests)

pub lex_number : (w : List ℕ) (c : ℕ) (rest : List ℕ) → AllByRecursion (λ b. digit b ≡ true) w → 1 ≤ length w → digit c ≡ false → (lexeme (w ++ c ∷ rest) ≡ number' w) × (after (w ++ c ∷ rest) ≡ c ∷ rest)
lex_number [] c rest a some stop = absurd (omega arith)
lex_number (x ∷ xs) c rest a some stop =
    let tail = xs ++ c ∷ rest in
    let other = digit_only x a.0 in (
      ap (λ t. lex_by t (digit x) (is_sign x) x tail) other ∙ ap (λ t. lex_by false t (is_sign x) x tail) a.0 ∙ ap number' (run_front digit (x ∷ xs) c rest a stop),
      ap (λ t. drop (span_by t (digit x) x tail) (x ∷ tail)) other ∙ ap (λ t. drop (span_by false t x tail) (x ∷ tail)) a.0 ∙ run_back digit (x ∷ xs) c rest a stop,
    )

-- what a token says of the bytes
pub record Run (p : ℕ → Bool) (w rest bs : List ℕ) : Type 0 where
  pub split : bs ≡ w ++ rest
  pub all : AllByRecursion (λ b. p b ≡ true) w
  pub some : 1 ≤ length w

abbrev pub Spelled : Lexeme → List ℕ → List ℕ → Type 0
Spelled (sign' b) rest bs = bs ≡ b ∷ rest
Spelled (word' w) rest bs = Run letter w rest bs
Spelled (number' w) rest bs = Run digit w rest bs
Spelled stray' rest bs = Unit {0}

run_of : (p : ℕ → Bool) (b : ℕ) (bs : List ℕ) → p b ≡ true → Run p (take (prefix_len p (b ∷ bs)) (b ∷ bs)) (drop (prefix_len p (b ∷ bs)) (b ∷ bs)) (b ∷ bs)
run_of p b bs h =
    record {
      split = sym (take-append-drop (prefix_len p (b ∷ bs)) (b ∷ bs));
      all = leading_front p (b ∷ bs);
      some = subst (λ n. 1 ≤ length (take n (b ∷ bs))) (sym (leading_yes p b bs h)) (omega arith);
    }

spelled_by : (b : ℕ) (bs : List ℕ) (a d s : Bool) → letter b ≡ a → digit b ≡ d → Spelled (lex_by a d s b bs) (drop (span_by a d b bs) (b ∷ bs)) (b ∷ bs)
spelled_by b bs true d s p q = run_of letter b bs p
spelled_by b bs false true s p q = run_of digit b bs q
spelled_by b bs false false true p q = refl
spelled_by b bs false false false p q = tt

pub spelled : (bs : List ℕ) (l : Lexeme) → lexeme bs ≡ l → Spelled l (after bs) bs
spelled [] l e = subst (λ l. Spelled l [] []) e tt
spelled (b ∷ bs) l e = subst (λ l. Spelled l (after (b ∷ bs)) (b ∷ bs)) e (spelled_by b bs (letter b) (digit b) (is_sign b) refl refl)
