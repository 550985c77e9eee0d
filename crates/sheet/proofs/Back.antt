-- What a line that is read looks like.
use Rattle.std.proofs.Common.{◌≡◌, ℕ, zero, suc, ◌+◌, ◌-◌, ◌*◌, ◌≤◌, Bool, true, false, cond, eqb, leb, List, ◌∷◌, ◌++◌, length, get_or, take, Some, None, codes, decimal, fold, Option, sym, refl, ap, ◌∙◌, subst, ap₂, append_assoc, arith, rules}
use Rattle.std.specs.List.{AllByRecursion}
use Rattle.std.specs.Str.{bytes_eq}
use Rattle.std.proofs.lemmas.Bool.{cond_both, eqb-true, leb-true}
use Rattle.std.proofs.lemmas.Slice.Eq.{bytes_eq-Decides}
use Rattle.std.proofs.lemmas.List.{take_at}
use Rattle.std.proofs.lemmas.Str.Parse.{IsNumeralModel, numerals_by_fold, digits_value_short}
use Rattle.std.proofs.lemmas.Fmt.{decimal-digits_value}
use Rattle.std.proofs.lemmas.Bool.Decides.{nat_tests}
use Rattle.model.specs.declared.stage.Stage.{Stage}
use Rattle.model.specs.Limits.{name_bytes}
use Rattle.model.specs.Names.{letter, letters_of}
use Rattle.model.specs.Lawful.{Name}
use Rattle.model.proofs.Checks.{word_of}
use Rattle.sheet.specs.declared.forms.Head.{Head}
use Rattle.sheet.specs.Tokens.{digit, Lexeme, sign', word', number', stray', lexeme, after, bracket, closing, space, newline}
use Rattle.sheet.specs.Heads.{bytes, head, rank, same_head}
use Rattle.sheet.specs.Forms.{plain, value, number_of, name_of, on_sign, on_word, on_number, on_some, opening_of, field_of, cores_of, title_of, part_of, stage_of}
use Rattle.sheet.specs.Printed.{stage_text, cores_text}
use Rattle.sheet.proofs.Lexing.{Run, spelled}

none_some : {X : Type 0} {x : X} → None ≡ Some x → ⊥
none_some e = let z : ◌≡◌ {A = ℕ} 0 1 = cc in omega arith

some_is : {X : Type 0} {x y : X} → Some x ≡ Some y → x ≡ y
some_is e = cc

cond_back : {X : Type 0} (b : Bool) (o : Option X) (x : X) → cond b o None ≡ Some x → (b ≡ true) × (o ≡ Some x)
cond_back true o x h = (refl, h)
cond_back false o x h = absurd (none_some h)

some_back : {X Y : Type 0} (o : Option Y) (k : Y → Option X) (x : X) → on_some o k ≡ Some x → (y : Y) × (o ≡ Some y) × (k y ≡ Some x)
some_back None k x h = absurd (none_some h)
some_back (Some y) k x h = (y, refl, h)

sign_back : {X : Type 0} (c : ℕ) (bs : List ℕ) (k : List ℕ → Option X) (x : X) → on_sign c bs k ≡ Some x → (bs ≡ c ∷ after bs) × (k (after bs) ≡ Some x)
sign_back {X} c bs k x = go (lexeme bs) refl
  where
    go : (l : Lexeme) → lexeme bs ≡ l → elim l [ sign' d ↦ cond (eqb d c) (k (after bs)) None | word' w ↦ None | number' w ↦ None | stray' ↦ None ] ≡ Some x → (bs ≡ c ∷ after bs) × (k (after bs) ≡ Some x)
    go (sign' d) e h = let p = cond_back (eqb d c) _ x h in (spelled bs (sign' d) e ∙ ap (λ b. b ∷ after bs) (eqb-true d c p.0), p.1)
    go (word' w) e h = absurd (none_some h)
    go (number' w) e h = absurd (none_some h)
    go stray' e h = absurd (none_some h)

word_back : {X : Type 0} (bs : List ℕ) (k : List ℕ → List ℕ → Option X) (x : X) → on_word bs k ≡ Some x → (w : List ℕ) × Run letter w (after bs) bs × (k w (after bs) ≡ Some x)
word_back {X} bs k x = go (lexeme bs) refl
  where
    go : (l : Lexeme) → lexeme bs ≡ l → elim l [ sign' d ↦ None | word' w ↦ k w (after bs) | number' w ↦ None | stray' ↦ None ] ≡ Some x → (w : List ℕ) × Run letter w (after bs) bs × (k w (after bs) ≡ Some x)
    go (sign' d) e h = absurd (none_some h)
    go (word' w) e h = (w, spelled bs (word' w) e, h)
    go (number' w) e h = absurd (none_some h)
    go stray' e h = absurd (none_some h)

number_back : {X : Type 0} (bs : List ℕ) (k : List ℕ → List ℕ → Option X) (x : X) → on_number bs k ≡ Some x → (w : List ℕ) × Run digit w (after bs) bs × (k w (after bs) ≡ Some x)
number_back {X} bs k x = go (lexeme bs) refl
  where
    go : (l : Lexeme) → lexeme bs ≡ l → elim l [ sign' d ↦ None | word' w ↦ None | number' w ↦ k w (after bs) | stray' ↦ None ] ≡ Some x → (w : List ℕ) × Run digit w (after bs) bs × (k w (after bs) ≡ Some x)
    go (sign' d) e h = absurd (none_some h)
    go (word' w) e h = absurd (none_some h)
    go (number' w) e h = (w, spelled bs (number' w) e, h)
    go stray' e h = absurd (none_some h)

head_back : (w : List ℕ) (h : Head) → head w ≡ Some h → w ≡ bytes h
head_back w h =
    cond_both (bytes_eq w (bytes Head.Cores)) _ _ P (λ t e. (bytes_eq-Decides w _).0 t ∙ ap bytes (some_is e)) (λ _.
    cond_both (bytes_eq w (bytes Head.Stage)) _ _ P (λ t e. (bytes_eq-Decides w _).0 t ∙ ap bytes (some_is e)) (λ _.
    cond_both (bytes_eq w (bytes Head.Cost)) _ _ P (λ t e. (bytes_eq-Decides w _).0 t ∙ ap bytes (some_is e)) (λ _.
    cond_both (bytes_eq w (bytes Head.Period)) _ _ P (λ t e. (bytes_eq-Decides w _).0 t ∙ ap bytes (some_is e)) (λ _ e. absurd (none_some e)))))
  where
    P : Option Head → Type 0
    P o = o ≡ Some h → w ≡ bytes h

same_rank : (a b : Head) → rank a ≡ rank b → a ≡ b
same_rank a b e = sym (back a) ∙ ap named e ∙ back b
  where
    named : ℕ → Head
    named zero = Head.Cores
    named (suc zero) = Head.Stage
    named (suc (suc zero)) = Head.Cost
    named (suc (suc (suc n))) = Head.Period

    back : (a : Head) → named (rank a) ≡ a
    back Head.Cores = refl
    back Head.Stage = refl
    back Head.Cost = refl
    back Head.Period = refl

opening_back : (h : Head) (bs : List ℕ) (o : Unit {0} × List ℕ) → opening_of h bs ≡ Some o → bs ≡ bracket ∷ (bytes h ++ space ∷ o.1)
unfolding opening_of
opening_back h bs o e =
    let k4 : List ℕ → Option (Unit {0} × List ℕ) = λ b3. Some (tt, b3) in
    let k3 : List ℕ → Head → Option (Unit {0} × List ℕ) = λ b2 g. cond (same_head g h) (on_sign space b2 k4) None in
    let k2 : List ℕ → List ℕ → Option (Unit {0} × List ℕ) = λ w b2. on_some (head w) (k3 b2) in
    let k1 : List ℕ → Option (Unit {0} × List ℕ) = λ b1. on_word b1 k2 in
    let p = sign_back bracket bs k1 o e in
    let q = word_back (after bs) k2 o p.1 in
    let r = some_back (head q.0) (k3 (after (after bs))) o q.2 in
    let s = cond_back (same_head r.0 h) (on_sign space (after (after bs)) k4) o r.2 in
    let t = sign_back space (after (after bs)) k4 o s.1 in
    let is = same_rank r.0 h (eqb-true _ _ s.0) in
    let w : q.0 ≡ bytes h = head_back q.0 r.0 r.1 ∙ ap bytes is in
    let last : after (after (after bs)) ≡ o.1 = ap (λ (u : Unit {0} × List ℕ). u.1) (some_is t.1) in
    p.0 ∙ ap (λ l. bracket ∷ l) (q.1.split ∙ ap₂ ◌++◌ w (t.0 ∙ ap (λ l. space ∷ l) last))

-- numbers
abbrev Digital : List ℕ → Type 0
Digital ds = AllByRecursion (λ b. digit b ≡ true) ds

pub own : IsNumeralModel Digital value
own =
    numerals_by_fold Digital
    (record { empty = tt; parts = λ c cs h. (grind (arith, nat_tests), h.1); more = λ c cs i h. (grind (arith, nat_tests), h) })
    (λ n ds. fold (λ n d. n * 10 + (d - 48)) n ds)
    (search rules)

number_text : (ds : List ℕ) (n : ℕ) → Digital ds → number_of ds ≡ Some n → ds ≡ decimal n
number_text ds n a =
    cond_both (plain ds) _ _ (λ o. o ≡ Some n → ds ≡ decimal n)
    (λ t e.
    let some : 1 ≤ length ds = grind (arith, nat_tests) in
    let most : length ds ≤ 5 = grind (arith, nat_tests) in
    let first : get_or ds 0 0 ≡ 48 → length ds ≡ 1 = λ z. grind (arith, nat_tests) in
    let small = digits_value_short own ds 5 a most in
    sym (decimal-digits_value own ds a some first (omega arith)) ∙ ap decimal (some_is e))
    (λ t e. absurd (none_some e))

field_back : (h : Head) (bs : List ℕ) (p : ℕ × List ℕ) → field_of h bs ≡ Some p → bs ≡ bracket ∷ (bytes h ++ space ∷ (decimal p.0 ++ closing ∷ p.1))
unfolding field_of
field_back h bs p e =
    let k4 : ℕ → List ℕ → Option (ℕ × List ℕ) = λ n b2. Some (n, b2) in
    let k3 : List ℕ → ℕ → Option (ℕ × List ℕ) = λ b1 n. on_sign closing b1 (k4 n) in
    let k2 : List ℕ → List ℕ → Option (ℕ × List ℕ) = λ ds b1. on_some (number_of ds) (k3 b1) in
    let k1 : Unit {0} × List ℕ → Option (ℕ × List ℕ) = λ o. on_number o.1 k2 in
    let o = some_back (opening_of h bs) k1 p e in
    let q = number_back o.0.1 k2 p o.2 in
    let r = some_back (number_of q.0) (k3 (after o.0.1)) p q.2 in
    let s = sign_back closing (after o.0.1) (k4 r.0) p r.2 in
    let is = some_is s.1 in
    let ds : q.0 ≡ decimal p.0 = number_text q.0 r.0 q.1.all r.1 ∙ ap (λ (u : ℕ × List ℕ). decimal u.0) is in
    let last = ap (λ (u : ℕ × List ℕ). u.1) is in
    opening_back h bs o.0 o.1 ∙ ap (λ l. bracket ∷ (bytes h ++ space ∷ l)) (q.1.split ∙ ap₂ ◌++◌ ds (s.0 ∙ ap (λ l. closing ∷ l) last))

pub cores_back : (bs : List ℕ) (p : ℕ × List ℕ) → cores_of bs ≡ Some p → bs ≡ cores_text p.0 ++ p.1
unfolding cores_of cores_text
cores_back bs p e =
    let k2 : ℕ → List ℕ → Option (ℕ × List ℕ) = λ n b1. Some (n, b1) in
    let k1 : ℕ × List ℕ → Option (ℕ × List ℕ) = λ q. on_sign newline q.1 (k2 q.0) in
    let q = some_back (field_of Head.Cores bs) k1 p e in
    let r = sign_back newline q.0.1 (k2 q.0.0) p q.2 in
    let is = some_is r.1 in
    field_back Head.Cores bs q.0 q.1
    ∙ ap (λ l. codes "(cores " ++ (decimal q.0.0 ++ closing ∷ l)) r.0
    ∙ ap (λ (u : ℕ × List ℕ). codes "(cores " ++ (decimal u.0 ++ closing ∷ (newline ∷ u.1))) is
    ∙ simp append_assoc

-- names
pub letters_is : (n : List ℕ) (h : Name n) → letters_of n ≡ h.word
letters_is n h =
    ap (λ k. take k n) (word_of n h) ∙ ap (take (length h.word)) h.padded ∙ take_at h.word _ (length h.word) refl

name_text : (w n : List ℕ) → AllByRecursion (λ b. letter b ≡ true) w → 1 ≤ length w → name_of w ≡ Some n → (letters_of n ≡ w) × Name n
name_text w n a some e =
    let p = cond_back (leb (length w) name_bytes) _ n e in
    let named : Name n = record { word = w; letters = a; some = some; most = leb-true _ _ p.0; padded = sym (some_is p.1) } in
    (letters_is n named, named)

-- the bytes of a stage line with what follows it
abbrev pub stage_flat : List ℕ → ℕ → ℕ → List ℕ → List ℕ
stage_flat w c p rest =
    codes "(stage " ++ (w ++ space ∷ (codes "(cost " ++ (decimal c ++ closing ∷ (codes " (period " ++ (decimal p ++ closing ∷ (closing ∷ (newline ∷ rest)))))))

pub stage_flat_is : (s : Stage) (rest : List ℕ) → stage_flat (letters_of s.name) s.cost s.period rest ≡ stage_text s ++ rest
unfolding stage_text
stage_flat_is s rest = simp append_assoc

title_back : (bs : List ℕ) (t : List ℕ × List ℕ) → title_of bs ≡ Some t → (bs ≡ codes "(stage " ++ (letters_of t.0 ++ t.1)) × Name t.0
unfolding title_of
title_back bs t e =
    let k3 : List ℕ → List ℕ → Option (List ℕ × List ℕ) = λ b1 n. Some (n, b1) in
    let k2 : List ℕ → List ℕ → Option (List ℕ × List ℕ) = λ w b1. on_some (name_of w) (k3 b1) in
    let k1 : Unit {0} × List ℕ → Option (List ℕ × List ℕ) = λ o. on_word o.1 k2 in
    let s1 = some_back (opening_of Head.Stage bs) k1 t e in
    let s2 = word_back s1.0.1 k2 t s1.2 in
    let s3 = some_back (name_of s2.0) (k3 (after s1.0.1)) t s2.2 in
    let named = name_text s2.0 s3.0 s2.1.all s2.1.some s3.1 in
    let is = some_is s3.2 in (
      opening_back Head.Stage bs s1.0 s1.1
          ∙ ap (λ l. codes "(stage " ++ l) (s2.1.split ∙ ap (λ w. w ++ after s1.0.1) (sym named.0))
          ∙ ap (λ (u : List ℕ × List ℕ). codes "(stage " ++ (letters_of u.0 ++ u.1)) is,
      subst (λ (u : List ℕ × List ℕ). Name u.0) is named.1,
    )

part_back : (h : Head) (bs : List ℕ) (p : ℕ × List ℕ) → part_of h bs ≡ Some p → bs ≡ space ∷ bracket ∷ (bytes h ++ space ∷ (decimal p.0 ++ closing ∷ p.1))
unfolding part_of
part_back h bs p e = let q = sign_back space bs (field_of h) p e in q.0 ∙ ap (λ l. space ∷ l) (field_back h (after bs) p q.1)

pub stage_back : (bs : List ℕ) (p : Stage × List ℕ) → stage_of bs ≡ Some p → (bs ≡ stage_text p.0 ++ p.1) × Name p.0.name
unfolding stage_of
stage_back bs x e =
    let O : Type 0 = Option (Stage × List ℕ) in
    let k5 : List ℕ → ℕ → ℕ → List ℕ → O = λ n c p b2. Some (record { name = n; cost = c; period = p }, b2) in
    let k4 : List ℕ → ℕ → ℕ → List ℕ → O = λ n c p b1. on_sign newline b1 (k5 n c p) in
    let k3 : List ℕ → ℕ → ℕ × List ℕ → O = λ n c q. on_sign closing q.1 (k4 n c q.0) in
    let k2 : List ℕ → ℕ × List ℕ → O = λ n p. on_some (part_of Head.Period p.1) (k3 n p.0) in
    let k1 : List ℕ × List ℕ → O = λ t. on_some (part_of Head.Cost t.1) (k2 t.0) in
    let s1 = some_back (title_of bs) k1 x e in
    let n = s1.0.0 in
    let s2 = some_back (part_of Head.Cost s1.0.1) (k2 n) x s1.2 in
    let c = s2.0.0 in
    let s3 = some_back (part_of Head.Period s2.0.1) (k3 n c) x s2.2 in
    let p = s3.0.0 in
    let s4 = sign_back closing s3.0.1 (k4 n c p) x s3.2 in
    let s5 = sign_back newline (after s3.0.1) (k5 n c p) x s4.1 in
    let is = some_is s5.1 in
    let title = title_back bs s1.0 s1.1 in
    let end = s4.0 ∙ ap (λ l. closing ∷ l) s5.0 in
    let period = part_back Head.Period s2.0.1 s3.0 s3.1 ∙ ap (λ l. codes " (period " ++ (decimal p ++ closing ∷ l)) end in
    let cost = part_back Head.Cost s1.0.1 s2.0 s2.1 ∙ ap (λ l. codes " (cost " ++ (decimal c ++ closing ∷ l)) period in (
      title.0
          ∙ ap (λ l. codes "(stage " ++ (letters_of n ++ l)) cost
          ∙ stage_flat_is (record { name = n; cost = c; period = p }) (after (after s3.0.1))
          ∙ ap (λ (u : Stage × List ℕ). stage_text u.0 ++ u.1) is,
      subst (λ (u : Stage × List ℕ). Name u.0.name) is title.1,
    )
