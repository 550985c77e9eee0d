-- A lawful table, stage by stage.
use Rattle.std.proofs.Common.{◌≡◌, ℕ, zero, suc, ◌+◌, ◌-◌, ◌<◌, ◌≤◌, Bool, true, false, cond, leb, List, [], ◌∷◌, ◌++◌, length, get_or, Some, None, Option, sym, refl, ap, ◌∙◌, subst, ⊎_elim, append_assoc, append-nil, arith, length-append}
use denote.Ref.{Bor}
use Rattle.std.specs.List.{slice_get}
use Rattle.std.specs.Option.{MatchOption, option_copied}
use Rattle.std.specs.Str.{bytes_eq}
use Rattle.std.proofs.lemmas.Option.{slice_get-get_or, get_or_from_slice_get}
use Rattle.std.proofs.lemmas.Slice.Eq.{bytes_eq-Decides}
use Rattle.std.proofs.lemmas.List.{get_or_append_left, get_or_push, get_or_at, length_push}
use Rattle.std.proofs.lemmas.Bool.{cases_lt, cases_Bool, cond-true, cond-false, or_parts, or_from, and_from, leb-true, le-leb, both_ways}
use Rattle.std.proofs.lemmas.Bool.Decides.{nat_tests}
use Rattle.model.specs.declared.fault.Cause.{Cause}
use Rattle.model.specs.declared.stage.Stage.{Stage}
use Rattle.model.specs.declared.limits.Limits.{Limits}
use Rattle.model.specs.Limits.{times_allowed}
use Rattle.model.specs.Tables.{used, last_period, breach_of}
use Rattle.model.specs.Lawful.{Name, no_stage, stage, LawfulStage, LawfulTable}

-- the last stage's period
pub last_is : (xs : List Stage) (d : Stage) → 0 < length xs → (get_or xs (length xs - 1) d).period ≡ last_period xs
last_is [] d h = absurd (omega arith)
last_is (x ∷ []) d h = refl
last_is (x ∷ y ∷ xs) d h =
    let e : suc (suc (length xs)) - 1 ≡ suc (length xs) = omega arith in
    let f : length xs ≡ suc (length xs) - 1 = omega arith in
    ap (λ k. (get_or (x ∷ y ∷ xs) k d).period) e ∙ ap (λ k. (get_or (y ∷ xs) k d).period) f ∙ last_is (y ∷ xs) d (omega arith)

-- what `last` lends, by its period
pub last_told : (xs : List Stage) (o : Option (Bor Stage)) (r : ℕ) (Q : Bor Stage → Type 0) → option_copied o ≡ slice_get xs (length xs - 1) → MatchOption o (r ≡ 0) Q → ((x : Bor Stage) → Q x → r ≡ x.now.period) → r ≡ last_period xs
last_told [] None r Q e h q = h
last_told [] (Some x) r Q e h q = let z : ◌≡◌ {A = ℕ} 0 1 = cc in absurd (omega arith)
last_told (x ∷ xs) None r Q e h q =
    let there = slice_get-get_or (x ∷ xs) (length (x ∷ xs) - 1) no_stage (omega arith) in
    let z : ◌≡◌ {A = ℕ} 0 1 = cc in
    absurd (omega arith)
last_told (x ∷ xs) (Some y) r Q e h q =
    let at = get_or_from_slice_get (x ∷ xs) (length (x ∷ xs) - 1) y.now no_stage (sym e) in
    q y h ∙ ap (λ (s : Stage). s.period) (sym at) ∙ last_is (x ∷ xs) no_stage (omega arith)

-- each of these stages may follow those before it
abbrev pub Follows : Limits → List Stage → List Stage → Type 0
Follows lim before [] = Unit {0}
Follows lim before (s ∷ ss) = (breach_of lim s before ≡ None) × Name s.name × Follows lim (before ++ s ∷ []) ss

pub record Passed (lim : Limits) (s : Stage) (xs : List Stage) : Type 0 where
  pub limits : times_allowed lim s.cost s.period ≡ true
  pub rises : last_period xs ≤ s.period
  pub fresh : used s.name xs ≡ false

pub passed_from : (lim : Limits) (s : Stage) (xs : List Stage) → breach_of lim s xs ≡ None → Passed lim s xs
unfolding breach_of
passed_from lim s xs = go (times_allowed lim s.cost s.period) (leb (last_period xs) s.period) (used s.name xs) refl refl refl
  where
    go : (a b c : Bool) → times_allowed lim s.cost s.period ≡ a → leb (last_period xs) s.period ≡ b → used s.name xs ≡ c → cond a (cond b (cond c (Some Cause.NameUsed) None) (Some Cause.PeriodFalls)) (Some Cause.OutsideLimits) ≡ None → Passed lim s xs
    go true true true p q r h = let z : ◌≡◌ {A = ℕ} 0 1 = cc in absurd (omega arith)
    go true true false p q r h = record { limits = p; rises = leb-true _ _ q; fresh = r }
    go true false c p q r h = let z : ◌≡◌ {A = ℕ} 0 1 = cc in absurd (omega arith)
    go false b c p q r h = let z : ◌≡◌ {A = ℕ} 0 1 = cc in absurd (omega arith)

pub passed_to : (lim : Limits) (s : Stage) (xs : List Stage) → Passed lim s xs → breach_of lim s xs ≡ None
unfolding breach_of
passed_to lim s xs h = cond-true _ _ _ h.limits ∙ cond-true _ _ _ (le-leb _ _ h.rises) ∙ cond-false _ _ _ h.fresh

used_apart : (n : List ℕ) (xs : List Stage) (i : ℕ) → used n xs ≡ false → i < length xs → (stage xs i).name ≡ n → ⊥
used_apart n [] i f l e = omega arith
used_apart n (x ∷ xs) zero f l e = both_ways (bytes_eq x.name n) (or_parts _ _ f).0 ((bytes_eq-Decides _ _).1 e)
used_apart n (x ∷ xs) (suc i) f l e = used_apart n xs i (or_parts _ _ f).1 (omega arith) e

unused : (n : List ℕ) (xs : List Stage) → ((i : ℕ) → i < length xs → (stage xs i).name ≡ n → ⊥) → used n xs ≡ false
unused n [] h = refl
unused n (x ∷ xs) h =
    or_from _ _
    (⊎_elim (λ t. absurd (h 0 (omega arith) ((bytes_eq-Decides _ _).0 t))) (λ f. f) (cases_Bool (bytes_eq x.name n)))
    (unused n xs (λ i l. h (suc i) (omega arith)))

limits_from : (lim : Limits) (s : Stage) → times_allowed lim s.cost s.period ≡ true → (lim.shortest ≤ s.period) × (s.period ≤ lim.longest) × (1 ≤ s.cost) × (s.cost ≤ s.period)
limits_from lim s t = (grind (arith, nat_tests), grind (arith, nat_tests), grind (arith, nat_tests), grind (arith, nat_tests))

-- one more stage
module _ (lim : Limits) (xs : List Stage) (s : Stage) where
  old : (i : ℕ) → i < length xs → stage (xs ++ s ∷ []) i ≡ stage xs i
  old i l = get_or_append_left xs (s ∷ []) no_stage i l

  new : (i : ℕ) → length xs ≡ i → stage (xs ++ s ∷ []) i ≡ s
  new i e = get_or_push xs s no_stage i e

  long : length (xs ++ s ∷ []) ≡ length xs + 1
  long = length_push xs s

  pub pushed : LawfulTable lim xs → Passed lim s xs → Name s.name → LawfulTable lim (xs ++ s ∷ [])
  pushed t p n =
      let q = limits_from lim s p.limits in
      let one : LawfulStage lim s = record { period_least = q.0; period_most = q.1; cost_least = q.2; cost_most = q.3; named = n } in
      record {
        each = λ i l.
            ⊎_elim (λ h. subst (LawfulStage lim) (sym (old i h)) (t.each i h)) (λ h. let e : length xs ≡ i = omega (arith, long) in subst (LawfulStage lim) (sym (new i e)) one) (cases_lt i (length xs));
        rising = λ i l.
            ⊎_elim
            (λ h. let a : i < length xs = omega arith in let r = t.rising i h in omega (arith, ap (λ (u : Stage). u.period) (old i a), ap (λ (u : Stage). u.period) (old (i + 1) h)))
            (λ h.
            let e : length xs ≡ i + 1 = omega (arith, long) in
            let a : i < length xs = omega arith in
            let last = last_is xs no_stage (omega arith) in
            let at : length xs - 1 ≡ i = omega arith in
            omega (arith, ap (λ (u : Stage). u.period) (old i a), ap (λ (u : Stage). u.period) (new (i + 1) e), ap (λ k. (stage xs k).period) at, p.rises))
            (cases_lt (i + 1) (length xs));
        apart = λ i j ij l e.
            ⊎_elim
            (λ h. let a : i < length xs = omega arith in t.apart i j ij h (sym (ap (λ (u : Stage). u.name) (old i a)) ∙ e ∙ ap (λ (u : Stage). u.name) (old j h)))
            (λ h.
            let f : length xs ≡ j = omega (arith, long) in
            let a : i < length xs = omega arith in
            used_apart s.name xs i p.fresh a (sym (ap (λ (u : Stage). u.name) (old i a)) ∙ e ∙ ap (λ (u : Stage). u.name) (new j f)))
            (cases_lt j (length xs));
      }

module _ (lim : Limits) (xs : List Stage) (s : Stage) (ss : List Stage) where
  left : (i : ℕ) → i < length xs → stage (xs ++ s ∷ ss) i ≡ stage xs i
  left i l = get_or_append_left xs (s ∷ ss) no_stage i l

  here : stage (xs ++ s ∷ ss) (length xs) ≡ s
  here = get_or_at xs s ss no_stage (length xs) refl

  size : length (xs ++ s ∷ ss) ≡ length xs + suc (length ss)
  size = length-append xs (s ∷ ss)

  pub taken : LawfulTable lim (xs ++ s ∷ ss) → Passed lim s xs × Name s.name
  taken t =
      let one = subst (LawfulStage lim) here (t.each (length xs) (omega (arith, size))) in (
        record {
          limits = and_from _ _ (and_from _ _ (and_from _ _ (le-leb _ _ one.period_least) (le-leb _ _ one.period_most)) (le-leb _ _ one.cost_least)) (le-leb _ _ one.cost_most);
          rises = ⊎_elim
              (λ h.
              let last = last_is xs no_stage h in
              let a : length xs - 1 < length xs = omega arith in
              let at : length xs - 1 + 1 ≡ length xs = omega arith in
              let r = t.rising (length xs - 1) (omega (arith, size)) in
              omega (arith, ap (λ (u : Stage). u.period) (left (length xs - 1) a), ap (λ k. (stage (xs ++ s ∷ ss) k).period) at, ap (λ (u : Stage). u.period) here))
              (λ h. empty xs h)
              (cases_lt 0 (length xs));
          fresh = unused s.name xs (λ i l e. t.apart i (length xs) l (omega (arith, size)) (ap (λ (u : Stage). u.name) (left i l) ∙ e ∙ sym (ap (λ (u : Stage). u.name) here)));
        },
        one.named,
      )
    where
      empty : (ys : List Stage) → length ys ≤ 0 → last_period ys ≤ s.period
      empty [] h = omega arith
      empty (y ∷ ys) h = absurd (omega arith)

pub follows_from : (lim : Limits) (ss before : List Stage) → LawfulTable lim (before ++ ss) → Follows lim before ss
follows_from lim [] before t = tt
follows_from lim (s ∷ ss) before t =
    let p = taken lim before s ss t in
    (passed_to lim s before p.0, p.1, follows_from lim ss (before ++ s ∷ []) (subst (LawfulTable lim) (sym (append_assoc before (s ∷ []) ss)) t))

pub follows_to : (lim : Limits) (ss before : List Stage) → LawfulTable lim before → Follows lim before ss → LawfulTable lim (before ++ ss)
follows_to lim [] before t f = subst (LawfulTable lim) (sym (append-nil before)) t
follows_to lim (s ∷ ss) before t f =
    subst (LawfulTable lim) (append_assoc before (s ∷ []) ss) (follows_to lim ss (before ++ s ∷ []) (pushed lim before s t (passed_from lim s before f.0) f.1) f.2)

pub none_lawful : (lim : Limits) → LawfulTable lim []
none_lawful lim = record { each = λ i l. absurd (omega arith); rising = λ i l. absurd (omega arith); apart = λ i j ij l e. omega arith }
