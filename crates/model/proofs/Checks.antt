-- The check of a table, record by record, and that it accepts exactly the lawful.
use Rattle.std.proofs.Common.{◌≡◌, ℕ, zero, suc, ◌+◌, ◌-◌, ◌<◌, ◌≤◌, Bool, true, false, cond, not, ◌&&◌, ◌↔◌, List, [], ◌∷◌, ◌++◌, length, take, drop, replicate, is_some, Some, None, Ok, Err, Option, Result, sym, refl, ap, ◌∙◌, ap₂, ⊎_elim, arith, length-append, length-drop, take-append-drop}
use lib.ListN.{length-replicate}
use Rattle.std.specs.List.{prefix_len}
use Rattle.std.proofs.lemmas.List.{at_drop_more, at_drop_all, take_more, length-take-le, drop_at}
use Rattle.std.proofs.lemmas.List.Sums.{prefix_len-le-length}
use Rattle.std.proofs.lemmas.Bool.{cases_Bool, cond-true, cond-false, and_parts, and_from, leb-true, le-leb, eqb-true, eq-eqb, false≢true}
use Rattle.std.proofs.lemmas.Option.{none-some}
use Rattle.model.specs.declared.fault.Cause.{Cause}
use Rattle.model.specs.declared.fault.Fault.{Fault}
use Rattle.model.specs.declared.fault.Layer.{Layer}
use Rattle.model.specs.declared.limits.Limits.{Limits}
use Rattle.model.specs.declared.stage.Stage.{Stage}
use Rattle.model.specs.Limits.{name_bytes, cores_allowed, stages_allowed}
use Rattle.model.specs.Names.{letter, letters, all_zero, lawful_name}
use Rattle.model.specs.Faults.{fault}
use Rattle.model.specs.Tables.{breach_of, follows, first_bad, check_of}
use Rattle.model.specs.Lawful.{Name, no_stage, stage, Lawful}
use Rattle.model.proofs.Leading.{leading_front, leading_stop}
use Rattle.model.proofs.Tables.{Follows, follows_from, follows_to, none_lawful}

-- past the last record
pub bad_none : (lim : Limits) (xs : List Stage) (i : ℕ) → length xs ≤ i → first_bad lim (take i xs) (drop i xs) ≡ None
unfolding first_bad
bad_none lim xs i h = at_drop_all (first_bad lim (take i xs)) xs i h

bad_here : (lim : Limits) (before : List Stage) (s : Stage) (ss : List Stage) → follows lim s before ≡ false → first_bad lim before (s ∷ ss) ≡ Some (length before + 1)
unfolding first_bad
bad_here lim before s ss h = cond-false _ _ _ h

bad_more : (lim : Limits) (before : List Stage) (s : Stage) (ss : List Stage) → follows lim s before ≡ true → first_bad lim before (s ∷ ss) ≡ first_bad lim (before ++ s ∷ []) ss
unfolding first_bad
bad_more lim before s ss h = cond-true _ _ _ h

-- at the record after the first i
pub bad_step : (lim : Limits) (xs : List Stage) (i : ℕ) → i < length xs →
    first_bad lim (take i xs) (drop i xs) ≡ cond (follows lim (stage xs i) (take i xs)) (first_bad lim (take (i + 1) xs) (drop (i + 1) xs)) (Some (i + 1))
unfolding first_bad
bad_step lim xs i lt =
    at_drop_more (first_bad lim (take i xs)) xs i no_stage lt
    ∙ ap₂ (λ l k. cond (follows lim (stage xs i) (take i xs)) (first_bad lim l (drop (i + 1) xs)) (Some (k + 1))) (sym (take_more xs i no_stage lt)) (length-take-le i xs (omega arith))

-- no refusal is an answer
pub err_ok : {X Y : Type 0} {x : Y} {y : X} → ◌≡◌ {A = Result X Y} (Err x) (Ok y) → ⊥
err_ok e = let z : ◌≡◌ {A = ℕ} 0 1 = cc in omega arith

zero_tail : (bs : List ℕ) → all_zero bs ≡ true → bs ≡ replicate (length bs) 0
zero_tail [] h = refl
zero_tail (b ∷ bs) h =
    let p = and_parts _ _ h in
    ap (λ x. x ∷ bs) (eqb-true b 0 p.0) ∙ ap (λ l. 0 ∷ l) (zero_tail bs p.1)

zeros_all : (k : ℕ) → all_zero (replicate k 0) ≡ true
zeros_all zero = refl
zeros_all (suc k) = zeros_all k

no_letters : (k : ℕ) → prefix_len letter (replicate k 0) ≡ 0
no_letters zero = refl
no_letters (suc k) = refl

pub name_from : (n : List ℕ) → lawful_name n ≡ true → Name n
name_from n h =
    let k = letters n in
    let p = and_parts _ _ h in
    let q = and_parts _ _ p.0 in
    let twelve = eqb-true (length n) name_bytes q.0 in
    let some : 1 ≤ k = leb-true 1 k q.1 in
    let within = prefix_len-le-length letter n in
    let size = length-take-le k n within in
    let rest : length (drop k n) ≡ name_bytes - length (take k n) = omega (arith, length-drop k n) in
    record {
      word = take k n;
      letters = leading_front letter n;
      some = omega arith;
      most = omega arith;
      padded = sym (take-append-drop k n) ∙ ap (λ l. take k n ++ l) (zero_tail (drop k n) p.1 ∙ ap (λ j. replicate j 0) rest);
    }

-- the letters of a name are its word
pub word_of : (n : List ℕ) (h : Name n) → letters n ≡ length h.word
word_of n h =
    let k = name_bytes - length h.word in
    ap letters h.padded ∙ leading_stop letter h.word (replicate k 0) h.letters (no_letters k)

pub name_to : (n : List ℕ) → Name n → lawful_name n ≡ true
name_to n h =
    let w = h.word in
    let z : List ℕ = replicate (name_bytes - length w) 0 in
    let long = word_of n h in
    let some = h.some in
    let most = h.most in
    let twelve : length n ≡ name_bytes = ap length h.padded ∙ length-append w z ∙ ap (λ k. length w + k) (length-replicate (name_bytes - length w) 0) ∙ omega arith in
    let tail : drop (letters n) n ≡ z = ap (λ k. drop k n) long ∙ ap (λ l. drop (length w) l) h.padded ∙ drop_at w z (length w) refl in
    and_from _ _ (and_from _ _ (eq-eqb (length n) name_bytes twelve) (le-leb 1 (letters n) (omega arith))) (ap all_zero tail ∙ zeros_all (name_bytes - length w))

follows_parts : (lim : Limits) (s : Stage) (before : List Stage) → follows lim s before ≡ true → (breach_of lim s before ≡ None) × Name s.name
unfolding follows
follows_parts lim s before h = let p = and_parts _ _ h in (go (breach_of lim s before) p.1, name_from s.name p.0)
  where
    go : (o : Option Cause) → not (is_some o) ≡ true → o ≡ None
    go None h = refl
    go (Some c) h = absurd (false≢true h)

follows_whole : (lim : Limits) (s : Stage) (before : List Stage) → breach_of lim s before ≡ None → Name s.name → follows lim s before ≡ true
unfolding follows
follows_whole lim s before r n = and_from _ _ (name_to s.name n) (ap (λ o. not (is_some o)) r)

good_from : (lim : Limits) (ss before : List Stage) → first_bad lim before ss ≡ None → Follows lim before ss
good_from lim [] before h = tt
good_from lim (s ∷ ss) before h =
    ⊎_elim
    (λ t. let f = follows_parts lim s before t in (f.0, f.1, good_from lim ss (before ++ s ∷ []) (sym (bad_more lim before s ss t) ∙ h)))
    (λ t. absurd (none-some _ (sym h ∙ bad_here lim before s ss t)))
    (cases_Bool (follows lim s before))

good_to : (lim : Limits) (ss before : List Stage) → Follows lim before ss → first_bad lim before ss ≡ None
unfolding first_bad
good_to lim [] before f = refl
good_to lim (s ∷ ss) before f = bad_more lim before s ss (follows_whole lim s before f.0 f.1) ∙ good_to lim ss (before ++ s ∷ []) f.2

abbrev told : Layer → Option ℕ → Result (Unit {0}) Fault
told layer o = elim o [ None ↦ Ok tt | Some i ↦ Err (fault Cause.BadRecord i layer) ]

accepted_from : (lim : Limits) (m : ℕ) (ss : List Stage) (layer : Layer) → check_of lim m ss layer ≡ Ok tt → Lawful lim m ss
unfolding check_of
accepted_from lim m ss layer = go (cores_allowed lim m && stages_allowed lim (length ss)) refl
  where
    clear : (o : Option ℕ) → told layer o ≡ Ok tt → o ≡ None
    clear None h = refl
    clear (Some i) h = absurd (err_ok h)

    go : (b : Bool) → (cores_allowed lim m && stages_allowed lim (length ss)) ≡ b → cond b (told layer (first_bad lim [] ss)) (Err (fault Cause.CountOutside 0 layer)) ≡ Ok tt → Lawful lim m ss
    go true e h =
        let p = and_parts _ _ e in
        let q = and_parts _ _ p.0 in
        let r = and_parts _ _ p.1 in
        record {
          cores_least = leb-true _ _ q.0;
          cores_most = leb-true _ _ q.1;
          some = leb-true _ _ r.0;
          most = leb-true _ _ r.1;
          table = follows_to lim ss [] (none_lawful lim) (good_from lim ss [] (clear (first_bad lim [] ss) h));
        }
    go false e h = absurd (err_ok h)

accepted_to : (lim : Limits) (m : ℕ) (ss : List Stage) (layer : Layer) → Lawful lim m ss → check_of lim m ss layer ≡ Ok tt
unfolding check_of
accepted_to lim m ss layer h =
    cond-true _ _ _ (and_from _ _ (and_from _ _ (le-leb _ _ h.cores_least) (le-leb _ _ h.cores_most)) (and_from _ _ (le-leb _ _ h.some) (le-leb _ _ h.most)))
    ∙ ap (told layer) (good_to lim ss [] (follows_from lim ss [] h.table))

-- a call that answers what the check answers accepts exactly the lawful
pub answers_exactly : (lim : Limits) (m : ℕ) (ss : List Stage) (layer : Layer) (r : Result (Unit {0}) Fault) → r ≡ check_of lim m ss layer → (r ≡ Ok tt) ↔ Lawful lim m ss
answers_exactly lim m ss layer r e =
    (λ ok. accepted_from lim m ss layer (sym e ∙ ok), λ lawful. e ∙ accepted_to lim m ss layer lawful)
