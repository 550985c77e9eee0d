-- What a call that answers what writing answers says of its core count and table.
use Rattle.std.proofs.Common.{◌≡◌, ℕ, Bool, true, false, cond, ◌&&◌, leb, ◌⊎◌, ◌↔◌, List, [], length, take, drop, Some, None, Ok, Err, Option, Result, sym, refl, ap, ◌∙◌, inl, inr, ⊎_elim, arith}
use Rattle.std.proofs.lemmas.List.{take_at}
use Rattle.model.specs.declared.fault.Cause.{Cause}
use Rattle.model.specs.declared.fault.Fault.{Fault}
use Rattle.model.specs.declared.fault.Layer.{Layer}
use Rattle.model.specs.declared.limits.Limits.{Limits}
use Rattle.model.specs.declared.stage.Stage.{Stage}
use Rattle.model.specs.Faults.{fault, cause_number}
use Rattle.model.specs.Limits.{review_box, cores_allowed, stages_allowed}
use Rattle.model.specs.Tables.{first_bad, check_of}
use Rattle.model.specs.Lawful.{Lawful}
use Rattle.model.proofs.Checks.{err_ok, answers_exactly}
use Rattle.writing.specs.Pages.{onto, page_answer, page_after}
use Rattle.sheet.specs.Printed.{sheet_of, page_of}
use Rattle.sheet.specs.Exact.{WritesBack, Accepted, Longest}
use Rattle.sheet.proofs.Behind.{ok_is}
use Rattle.sheet.proofs.Forth.{read_forth}
use Rattle.sheet.proofs.Lengths.{sheet_short, longest_reached}

-- the check refuses by one of two causes
abbrev Refused : Fault → Layer → Type 0
Refused f layer = (f ≡ fault Cause.CountOutside 0 layer) ⊎ ((i : ℕ) × (f ≡ fault Cause.BadRecord i layer))

err_is : {X Y : Type 0} {x y : Y} → ◌≡◌ {A = Result X Y} (Err x) (Err y) → x ≡ y
err_is e = cc

apart : {X : Type 0} {f g : Fault} → ◌≡◌ {A = Result X Fault} (Err f) (Err g) → cause_number f.cause ≡ cause_number g.cause
apart e = ap (λ (f : Fault). cause_number f.cause) (err_is e)

check_refuses : (lim : Limits) (m : ℕ) (ss : List Stage) (layer : Layer) (f : Fault) → check_of lim m ss layer ≡ Err f → Refused f layer
unfolding check_of
check_refuses lim m ss layer f = go (cores_allowed lim m && stages_allowed lim (length ss)) (first_bad lim [] ss)
  where
    go : (b : Bool) (o : Option ℕ) → cond {A = Result (Unit {0}) Fault} b (elim o [ None ↦ Ok tt | Some i ↦ Err (fault Cause.BadRecord i layer) ]) (Err (fault Cause.CountOutside 0 layer)) ≡ Err f → Refused f layer
    go true None h = absurd (err_ok (sym h))
    go true (Some i) h = inr (i, sym (err_is h))
    go false o h = inl (sym (err_is h))

-- the theorems of a call that writes
pub record Written (m : ℕ) (ss : List Stage) (r : Result ℕ Fault) (page : List ℕ) : Type 0 where
  pub back : WritesBack m ss r page
  pub exactly : Accepted r ↔ Lawful review_box m ss
  pub longest : Longest 3146 r

-- a refusal writes nothing
refused : (m : ℕ) (ss : List Stage) (after : List ℕ) (r : Result ℕ Fault) (f : Fault) → r ≡ Err f → Accepted r ↔ Lawful review_box m ss → Written m ss r after
refused m ss after r f e exactly =
    record {
      back = λ n h. absurd (err_ok (sym e ∙ h));
      exactly = exactly;
      longest = record { most = λ n h. absurd (err_ok (sym e ∙ h)); reached = longest_reached };
    }

-- the sheet of a lawful table, in a page that is long enough or too short
fits : (m : ℕ) (ss : List Stage) (page after : List ℕ) (r : Result ℕ Fault) → Lawful review_box m ss → (b : Bool) → r ≡ cond b (Ok (length (sheet_of m ss))) (Err (fault Cause.ShortPage 0 Layer.Writing)) → after ≡ cond b (onto (sheet_of m ss) page) page → Written m ss r after
fits m ss page after r lawful true e p =
    let w = sheet_of m ss in
    let size : (n : ℕ) → r ≡ Ok n → length w ≡ n = λ n h. ok_is (sym e ∙ h) in
    record {
      back = λ n h. read_forth (take n after) m ss lawful (ap (take n) p ∙ take_at w (drop (length w) page) n (size n h));
      exactly = (λ _. lawful, λ _ place. (λ h. err_ok (sym h ∙ e), λ h. err_ok (sym h ∙ e)));
      longest = record { most = λ n h. omega (arith, size n h, sheet_short m ss lawful); reached = longest_reached };
    }
fits m ss page after r lawful false e p =
    refused m ss after r _ e (
      λ _. lawful,
      λ _ place. (λ h. let z : ◌≡◌ {A = ℕ} 41 20 = apart (sym e ∙ h) in omega arith, λ h. let z : ◌≡◌ {A = ℕ} 41 21 = apart (sym e ∙ h) in omega arith),
    )

pub page_some : (m : ℕ) (ss : List Stage) → check_of review_box m ss Layer.Writing ≡ Ok tt → page_of m ss ≡ Ok (sheet_of m ss)
unfolding page_of
page_some m ss e = ap (λ o. elim o [ Ok u ↦ Ok (sheet_of m ss) | Err f ↦ Err f ]) e

pub page_none : (m : ℕ) (ss : List Stage) (f : Fault) → check_of review_box m ss Layer.Writing ≡ Err f → page_of m ss ≡ Err f
unfolding page_of
page_none m ss f e = ap (λ o. elim o [ Ok u ↦ Ok (sheet_of m ss) | Err f ↦ Err f ]) e

pub written : (m : ℕ) (ss : List Stage) (page after : List ℕ) (r : Result ℕ Fault) → r ≡ page_answer (page_of m ss) page → after ≡ page_after (page_of m ss) page → Written m ss r after
written m ss page after r e p = go (check_of review_box m ss Layer.Writing) refl
  where
    go : (o : Result (Unit {0}) Fault) → check_of review_box m ss Layer.Writing ≡ o → Written m ss r after
    go (Ok u) c =
        let some = page_some m ss c in
        fits m ss page after r ((answers_exactly review_box m ss Layer.Writing (Ok u) (sym c)).0 refl) (leb (length (sheet_of m ss)) (length page))
        (e ∙ ap (λ t. page_answer t page) some)
        (p ∙ ap (λ t. page_after t page) some)
    go (Err f) c =
        let e' : r ≡ Err f = e ∙ ap (λ t. page_answer t page) (page_none m ss f c) in
        refused m ss after r f e' (
          λ clear. ⊎_elim (λ q. absurd ((clear 0).0 (e' ∙ ap Err q))) (λ q. absurd ((clear q.0).1 (e' ∙ ap Err q.1))) (check_refuses review_box m ss Layer.Writing f c),
          λ lawful. absurd (err_ok (sym c ∙ (answers_exactly review_box m ss Layer.Writing _ refl).1 lawful)),
        )
