-- Composing a text from pieces.
use Rattle.std.proofs.Common.{◌≡◌, ℕ, ◌+◌, ◌<◌, ◌≤◌, List, [], ◌++◌, length, get_or, take, Ok, sym, ap, ◌∙◌, append_assoc, arith}
use Rattle.std.specs.List.{flat_map}
use Rattle.std.proofs.lemmas.List.{flat_map_more, take_more, take_all}
use Rattle.std.proofs.lemmas.Bool.{cond-true, le-leb}
use Rattle.writing.specs.declared.text.Text.{Text}
use Rattle.writing.specs.Pages.{page_answer}
use Rattle.writing.specs.Room.{room, cut}
use Rattle.writing.specs.Texts.{text_of}
use Rattle.writing.proofs.Cut.{take_again}

-- cutting before a piece is added changes nothing
pub cut_again : (a b : List ℕ) → cut (cut a ++ b) ≡ cut (a ++ b)
unfolding cut
cut_again a b = take_again room a b

-- what there is room for is not cut
pub cut_whole : (a : List ℕ) → length a ≤ room → cut a ≡ a
unfolding cut
cut_whole a h = take_all room a h

-- a text is never cut by itself
pub whole : (t : Text) → text_of t ≡ cut (text_of t)
whole t = sym (cut_whole (text_of t) t.within)

-- one more piece behind what was put on a text
pub put_more : (start before piece : List ℕ) {x y : List ℕ} → x ≡ cut (start ++ before) → y ≡ cut (x ++ piece) → y ≡ cut (start ++ (before ++ piece))
put_more start before piece was is =
    is ∙ ap (λ l. cut (l ++ piece)) was ∙ cut_again (start ++ before) piece ∙ ap cut (append_assoc start before piece)

-- a piece on the text of no byte, if there is room for it
pub put_alone : (piece : List ℕ) {start x : List ℕ} → start ≡ [] → x ≡ cut (start ++ piece) → length piece ≤ room → x ≡ piece
put_alone piece none is fits = is ∙ ap (λ l. cut (l ++ piece)) none ∙ cut_whole piece fits

-- the texts of a list, one behind the other: with one more of them, and with all
module _ {A : Type 0} (f : A → List ℕ) (xs : List A) (i : ℕ) (start : List ℕ) where
  pub put_next : (d : A) {x y : List ℕ} → i < length xs → x ≡ cut (start ++ flat_map f (take i xs)) → y ≡ cut (x ++ f (get_or xs i d)) → y ≡ cut (start ++ flat_map f (take (i + 1) xs))
  put_next d there was is =
      put_more start (flat_map f (take i xs)) (f (get_or xs i d)) was is
      ∙ ap (λ l. cut (start ++ l)) (flat_map_more f [] (take i xs) (get_or xs i d) ∙ ap (flat_map f) (sym (take_more xs i d there)))

  pub put_all : {x : List ℕ} → length xs ≤ i → x ≡ cut (start ++ flat_map f (take i xs)) → x ≡ cut (start ++ flat_map f xs)
  put_all past was = was ∙ ap (λ l. cut (start ++ flat_map f l)) (take_all i xs past)

-- for the pieces of a text, put one behind the other
pub ruleset pieces = (cut_again, append_assoc)

-- a page as large as a text takes it
pub page_takes : (text page : List ℕ) → length text ≤ room → room ≤ length page → page_answer (Ok text) page ≡ Ok (length text)
page_takes text page short long = cond-true _ _ _ (le-leb (length text) (length page) (omega arith))
