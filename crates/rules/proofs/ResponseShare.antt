-- The share under the response rule.
use Rattle.std.proofs.Common.{◌≡◌, ℕ, min, true, false, ◌&&◌, List, [], ◌∷◌, ◌++◌, sym, ap, ◌∙◌, ⊎_elim, add-zero, arith}
use mathlib.Core.Bool.{and_assoc, and-true}
use Rattle.std.proofs.lemmas.List.{append_assoc, append-nil}
use Rattle.std.proofs.lemmas.Bool.{and_from, and_left, and_right, cases_lt}
use Rattle.rules.specs.declared.load.Member.{Member}
use Rattle.rules.specs.Loads.{lawful, joined, newcomer}
use Rattle.rules.specs.Rules.{greatest, share_of, covered_to, covered, all_covered, response}
use Rattle.rules.specs.Lemmas.Tests.{refuted}
use Rattle.rules.proofs.Orderly.{room_cost, no_room_cost}
use Rattle.rules.proofs.Greatest.{greatest_of, greatest_is, greatest_none}
use Rattle.rules.proofs.Small.{joined_kept}

covered_push : (before l : List Member) (m : Member) → all_covered before (l ++ (m ∷ [])) ≡ (all_covered before l && covered (before ++ l) m)
covered_push before [] m = and-true (covered before m) ∙ ap (λ k. covered k m) (sym (append-nil before))
covered_push before (x ∷ l) m =
    let next = before ++ (x ∷ []) in
    ap (λ b. covered before x && b) (covered_push next l m ∙ ap (λ k. all_covered next l && covered k m) (append_assoc before (x ∷ []) l))
    ∙ sym (and_assoc (covered before x) (all_covered next l) (covered (before ++ (x ∷ l)) m))

module _ (l : List Member) (cost p : ℕ) where
  at_end : (c : ℕ) → response (joined l c p) ≡ (lawful (joined l c p) && (all_covered [] l && covered_to l c p))
  at_end c =
      let m = newcomer c p in
      ap (λ b. lawful (joined l c p) && b) (covered_push [] l m ∙ ap (λ own. all_covered [] l && covered_to l own p) (add-zero c))

  pub none_unlawful : lawful (joined l 1 p) ≡ false → 0 ≡ share_of response l cost p
  none_unlawful h =
      greatest_none (λ c. response (joined l c p)) cost
      (λ c some. and_left (lawful (joined l c p)) (all_covered [] (joined l c p)) (no_room_cost l c p some h))

  pub none_uncovered : all_covered [] l ≡ false → 0 ≡ share_of response l cost p
  none_uncovered h =
      greatest_none (λ c. response (joined l c p)) cost
      (λ c some. at_end c ∙ and_right (lawful (joined l c p)) (all_covered [] l && covered_to l c p) (and_left (all_covered [] l) (covered_to l c p) h))

  pub response_share : lawful (joined l 1 p) ≡ true → all_covered [] l ≡ true → greatest (λ c. covered_to l c p) (min cost p) ≡ share_of response l cost p
  response_share room early =
      let r = greatest (λ c. covered_to l c p) (min cost p) in
      let is = greatest_of (λ c. covered_to l c p) (min cost p) in
      greatest_is (λ c. response (joined l c p)) cost r (record {
        within = omega (arith, is.within);
        passed = λ h.
            at_end r
            ∙ and_from (lawful (joined l r p)) (all_covered [] l && covered_to l r p)
            (room_cost l r p (omega arith) (omega (arith, is.within)) room)
            (and_from (all_covered [] l) (covered_to l r p) early (is.passed h));
        above = λ c h k.
            ⊎_elim {C = response (joined l c p) ≡ false}
            (λ lt. and_left (lawful (joined l c p)) (all_covered [] (joined l c p)) (refuted (lawful (joined l c p)) (λ e. omega (arith, (joined_kept l c p e).fits))))
            (λ le. at_end c ∙ and_right (lawful (joined l c p)) (all_covered [] l && covered_to l c p) (and_right (all_covered [] l) (covered_to l c p) (is.above c h (omega arith))))
            (cases_lt p c);
      })
