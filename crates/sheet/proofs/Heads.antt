-- A word that has a head word's bytes, place by place, is that head word.
use Rattle.std.proofs.Common.{◌≡◌, ℕ, suc, false, List, [], ◌∷◌, length, Some, None, Option, sym, refl, ap, ◌∙◌, subst, ap₂, ⊎_elim, arith}
use Rattle.std.specs.Str.{bytes_eq}
use Rattle.std.proofs.lemmas.Slice.Eq.{bytes_eq-Decides}
use Rattle.std.proofs.lemmas.Bool.{cond-false, cases_Bool}
use Rattle.sheet.specs.declared.forms.Head.{Head}
use Rattle.sheet.specs.Heads.{bytes, head, Places, Spells, Heads}

later : (x : ℕ) (w : List ℕ) (i : ℕ) (v : List ℕ) → Places (x ∷ w) (suc i) v → Places w i v
later x w i [] h = tt
later x w i (b ∷ bs) h = (h.0, later x w (suc i) bs h.1)

pub placed : (w v : List ℕ) → length w ≡ length v → Places w 0 v → w ≡ v
placed [] [] l h = refl
placed [] (y ∷ ys) l h = absurd (omega arith)
placed (x ∷ xs) [] l h = absurd (omega arith)
placed (x ∷ xs) (y ∷ ys) l h = ap₂ ◌∷◌ h.0 (placed xs ys (omega arith) (later x xs 0 ys h.1))

own : (h : Head) → Spells h (bytes h)
own Head.Cores = (refl, (refl, (refl, (refl, (refl, (refl, tt))))))
own Head.Stage = (refl, (refl, (refl, (refl, (refl, (refl, tt))))))
own Head.Cost = (refl, (refl, (refl, (refl, (refl, tt)))))
own Head.Period = (refl, (refl, (refl, (refl, (refl, (refl, (refl, tt)))))))

pub head_bytes : (h : Head) → Some h ≡ head (bytes h)
head_bytes Head.Cores = refl
head_bytes Head.Stage = refl
head_bytes Head.Cost = refl
head_bytes Head.Period = refl

unlike : (h : Head) (w : List ℕ) → (Spells h w → ⊥) → bytes_eq w (bytes h) ≡ false
unlike h w no_one =
    ⊎_elim (λ e. absurd (no_one (subst (Spells h) (sym ((bytes_eq-Decides w (bytes h)).0 e)) (own h)))) (λ e. e) (cases_Bool (bytes_eq w (bytes h)))

pub heads_head : (r : Option Head) (w : List ℕ) → Heads r w → r ≡ head w
heads_head None w h =
    sym (cond-false _ _ _ (unlike Head.Cores w h.0) ∙ cond-false _ _ _ (unlike Head.Stage w h.1) ∙ cond-false _ _ _ (unlike Head.Cost w h.2) ∙ cond-false _ _ _ (unlike Head.Period w h.3))
heads_head (Some k) w h = head_bytes k ∙ ap head (sym (placed w (bytes k) h.0 h.1))
