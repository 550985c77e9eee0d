-- A sheet that is printed is read.
use Rattle.std.proofs.Common.{◌≡◌, ℕ, zero, suc, ◌<◌, ◌≤◌, true, false, not, ◌||◌, eqb, leb, List, [], ◌∷◌, ◌++◌, length, get_or, Some, None, Ok, decimal, Option, sym, refl, ap, ◌∙◌, subst, ⊎_elim, append_assoc, append-nil, arith}
use Rattle.std.specs.List.{flat_map, AllByRecursion}
use Rattle.std.proofs.lemmas.Bool.{cond-true, le-leb, and_from, or_left, or_right, cases_lt, ne_eqb}
use Rattle.std.proofs.lemmas.Fmt.{digits_value-decimal, digits_decimal, decimal_nonempty, decimal_digit, length-decimal-le, first_decimal}
use Rattle.std.proofs.lemmas.Bool.Decides.{nat_tests}
use Rattle.model.specs.declared.stage.Stage.{Stage}
use Rattle.model.specs.Limits.{review_box}
use Rattle.model.specs.Names.{letter}
use Rattle.model.specs.Tables.{breach_of}
use Rattle.model.specs.Lawful.{Name, Lawful}
use Rattle.model.proofs.Tables.{Follows, passed_from, follows_from}
use Rattle.sheet.specs.declared.forms.Head.{Head}
use Rattle.sheet.specs.Tokens.{digit, sign', word', number', stray', after, bracket, closing, space, newline}
use Rattle.sheet.specs.Heads.{bytes}
use Rattle.sheet.specs.Forms.{plain, value, number_of, name_of, on_sign, on_word, on_number, on_some, opening_of, field_of, cores_of, title_of, part_of, stage_of, formed}
use Rattle.sheet.specs.Sheets.{judged, ruled, line_of, stages_from, finished, headed, read_of}
use Rattle.sheet.specs.Printed.{stage_text, cores_text, sheet_of}
use Rattle.sheet.proofs.Lexing.{lex_word, lex_number}
use Rattle.sheet.proofs.Lines.{lines_done, lines_more}
use Rattle.sheet.proofs.Back.{own, letters_is, stage_flat, stage_flat_is}

word_forth : {X : Type 0} (w : List ℕ) (c : ℕ) (rest : List ℕ) (k : List ℕ → List ℕ → Option X) → AllByRecursion (λ b. letter b ≡ true) w → 1 ≤ length w → letter c ≡ false → on_word (w ++ c ∷ rest) k ≡ k w (c ∷ rest)
word_forth w c rest k a some stop =
    let p = lex_word w c rest a some stop in
    ap (λ l. elim l [ sign' d ↦ None | word' v ↦ k v (after (w ++ c ∷ rest)) | number' v ↦ None | stray' ↦ None ]) p.0 ∙ ap (λ r. k w r) p.1

number_forth : {X : Type 0} (w : List ℕ) (c : ℕ) (rest : List ℕ) (k : List ℕ → List ℕ → Option X) → AllByRecursion (λ b. digit b ≡ true) w → 1 ≤ length w → digit c ≡ false → on_number (w ++ c ∷ rest) k ≡ k w (c ∷ rest)
number_forth w c rest k a some stop =
    let p = lex_number w c rest a some stop in
    ap (λ l. elim l [ sign' d ↦ None | word' v ↦ None | number' v ↦ k v (after (w ++ c ∷ rest)) | stray' ↦ None ]) p.0 ∙ ap (λ r. k w r) p.1

opening_forth : (h : Head) (rest : List ℕ) → opening_of h (bracket ∷ (bytes h ++ space ∷ rest)) ≡ Some (tt, rest)
unfolding opening_of
opening_forth Head.Cores rest = refl
opening_forth Head.Stage rest = refl
opening_forth Head.Cost rest = refl
opening_forth Head.Period rest = refl

number_of_decimal : (n : ℕ) → n < 100000 → number_of (decimal n) ≡ Some n
number_of_decimal n small =
    let some = decimal_nonempty n (omega arith) in
    let most = length-decimal-le 5 n (omega arith) (omega arith) (omega arith) in
    let first : (leb (length (decimal n)) 1 || not (eqb (get_or (decimal n) 0 0) 48)) ≡ true =
    ⊎_elim
    (λ h. let one = ap length (decimal_digit n h) in or_left _ _ (le-leb (length (decimal n)) 1 (omega arith)))
    (λ h. let f = first_decimal n (omega arith) (omega arith) in or_right _ _ (ap not (ne_eqb (get_or (decimal n) 0 0) 48 (omega arith))))
    (cases_lt n 10) in
    cond-true (plain (decimal n)) (Some (value (decimal n))) None (and_from _ _ (and_from _ _ (le-leb _ _ some) (le-leb _ _ most)) first)
    ∙ ap Some (digits_value-decimal own n (omega arith))

field_forth : (h : Head) (n : ℕ) (rest : List ℕ) → n < 100000 → field_of h (bracket ∷ (bytes h ++ space ∷ (decimal n ++ closing ∷ rest))) ≡ Some (n, rest)
unfolding field_of
field_forth h n rest small =
    let k3 : List ℕ → ℕ → Option (ℕ × List ℕ) = λ b1 n. on_sign closing b1 (λ b2. Some (n, b2)) in
    let k2 : List ℕ → List ℕ → Option (ℕ × List ℕ) = λ ds b1. on_some (number_of ds) (k3 b1) in
    let k1 : Unit {0} × List ℕ → Option (ℕ × List ℕ) = λ o. on_number o.1 k2 in
    ap (λ o. on_some o k1) (opening_forth h (decimal n ++ closing ∷ rest))
    ∙ number_forth (decimal n) closing rest k2 (digits_decimal own n (omega arith)) (decimal_nonempty n (omega arith)) refl
    ∙ ap (λ o. on_some o (k3 (closing ∷ rest))) (number_of_decimal n small)

cores_forth : (m : ℕ) (rest : List ℕ) → m < 100000 → cores_of (cores_text m ++ rest) ≡ Some (m, rest)
unfolding cores_of cores_text
cores_forth m rest small =
    let flat : cores_text m ++ rest ≡ bracket ∷ (bytes Head.Cores ++ space ∷ (decimal m ++ closing ∷ (newline ∷ rest))) = simp append_assoc in
    let k1 : ℕ × List ℕ → Option (ℕ × List ℕ) = λ p. on_sign newline p.1 (λ b1. Some (p.0, b1)) in
    ap (λ l. on_some (field_of Head.Cores l) k1) flat ∙ ap (λ o. on_some o k1) (field_forth Head.Cores m (newline ∷ rest) small)

title_forth : (n rest : List ℕ) (h : Name n) → title_of (bracket ∷ (bytes Head.Stage ++ space ∷ (h.word ++ space ∷ rest))) ≡ Some (n, space ∷ rest)
unfolding title_of
title_forth n rest h =
    let k3 : List ℕ → List ℕ → Option (List ℕ × List ℕ) = λ b1 n. Some (n, b1) in
    let k2 : List ℕ → List ℕ → Option (List ℕ × List ℕ) = λ w b1. on_some (name_of w) (k3 b1) in
    let k1 : Unit {0} × List ℕ → Option (List ℕ × List ℕ) = λ o. on_word o.1 k2 in
    ap (λ o. on_some o k1) (opening_forth Head.Stage (h.word ++ space ∷ rest))
    ∙ word_forth h.word space rest k2 h.letters h.some refl
    ∙ ap (λ o. on_some o (k3 (space ∷ rest))) (cond-true _ _ _ (le-leb _ _ h.most) ∙ ap Some (sym h.padded))

part_forth : (h : Head) (n : ℕ) (rest : List ℕ) → n < 100000 → part_of h (space ∷ bracket ∷ (bytes h ++ space ∷ (decimal n ++ closing ∷ rest))) ≡ Some (n, rest)
unfolding part_of
part_forth h n rest small = field_forth h n rest small

stage_forth : (s : Stage) (rest : List ℕ) → Name s.name → s.cost < 100000 → s.period < 100000 → stage_of (stage_text s ++ rest) ≡ Some (s, rest)
unfolding stage_of
stage_forth s rest named small large =
    let O : Type 0 = Option (Stage × List ℕ) in
    let k3 : List ℕ → ℕ → ℕ × List ℕ → O = λ n c q. on_sign closing q.1 (λ b1. on_sign newline b1 (λ b2. Some (record { name = n; cost = c; period = q.0 }, b2))) in
    let k2 : List ℕ → ℕ × List ℕ → O = λ n p. on_some (part_of Head.Period p.1) (k3 n p.0) in
    let k1 : List ℕ × List ℕ → O = λ t. on_some (part_of Head.Cost t.1) (k2 t.0) in
    let end = closing ∷ newline ∷ rest in
    let period = space ∷ bracket ∷ (bytes Head.Period ++ space ∷ (decimal s.period ++ closing ∷ end)) in
    let cost = bracket ∷ (bytes Head.Cost ++ space ∷ (decimal s.cost ++ closing ∷ period)) in
    ap (λ l. on_some (title_of l) k1) (sym (stage_flat_is s rest) ∙ ap (λ v. stage_flat v s.cost s.period rest) (letters_is s.name named))
    ∙ ap (λ o. on_some o k1) (title_forth s.name cost named)
    ∙ ap (λ o. on_some o (k2 s.name)) (part_forth Head.Cost s.cost period small)
    ∙ ap (λ o. on_some o (k3 s.name s.cost)) (part_forth Head.Period s.period end large)

line_forth : (line : ℕ) (before : List Stage) (bs : List ℕ) (p : Stage × List ℕ) → stage_of bs ≡ Some p → breach_of review_box p.0 before ≡ None → line_of line before bs ≡ Ok p
unfolding line_of
line_forth line before bs p e r = ap (λ o. ruled line before (formed line o)) e ∙ ap (judged line p) r

stages_forth : (ss : List Stage) (room line : ℕ) (before : List Stage) → Follows review_box before ss → length ss ≤ room → stages_from room line before (flat_map stage_text ss) ≡ Ok (before ++ ss)
stages_forth [] room line before f l = lines_done room line before ∙ ap Ok (sym (append-nil before))
stages_forth (s ∷ ss) zero line before f l = absurd (omega arith)
stages_forth (s ∷ ss) (suc room) line before f l =
    let rest = flat_map stage_text ss in
    let limits = (passed_from review_box s before f.0).limits in
    let is = stage_forth s rest f.1 (grind (arith, nat_tests)) (grind (arith, nat_tests)) in
    lines_more room line before (stage_text s ++ rest) s rest (longer s rest) (line_forth line before (stage_text s ++ rest) (s, rest) is f.0)
    ∙ stages_forth ss room (suc line) (before ++ s ∷ []) f.2 (omega arith)
    ∙ ap Ok (append_assoc before (s ∷ []) ss)
  where
    longer : (s : Stage) (rest : List ℕ) → 0 < length (stage_text s ++ rest)
    longer s rest = subst (λ l. 0 < length l) (stage_flat_is s rest) (omega arith)

pub read_forth : (text : List ℕ) (m : ℕ) (ss : List Stage) → Lawful review_box m ss → text ≡ sheet_of m ss → read_of text ≡ Ok (m, ss)
unfolding read_of sheet_of
read_forth text m [] h e = let some = h.some in absurd (omega arith)
read_forth text m (s ∷ ss) h e =
    let least = h.cores_least in
    let most = h.cores_most in
    ap (λ l. headed (formed 1 (cores_of l))) e
    ∙ ap (λ o. headed (formed 1 o)) (cores_forth m (flat_map stage_text (s ∷ ss)) (omega arith))
    ∙ cond-true _ _ _ (and_from _ _ (le-leb 1 m least) (le-leb m review_box.cores most))
    ∙ ap (finished m) (stages_forth (s ∷ ss) review_box.stages 2 [] (follows_from review_box (s ∷ ss) [] h.table) h.most)
