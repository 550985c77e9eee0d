-- The share under the harmonic rule.
use Rattle.std.proofs.Common.{◌≡◌, ℕ, ◌+◌, ◌-◌, ◌*◌, ◌/◌, ◌%◌, ◌<◌, ◌≤◌, min, Bool, true, false, ◌&&◌, eqb, leb, List, [], ◌∷◌, ◌++◌, sym, refl, ap, ◌∙◌, subst, mul-le-mul_right, mul-one, arith}
use native.Mathlib.Nat.{mod-one, div_self, mul-div-le}
use mathlib.Core.Bool.{and_assoc, and-true}
use Rattle.std.proofs.lemmas.List.Sums.{sum_by_push}
use Rattle.std.proofs.lemmas.Bool.{and_parts, and_from, and_left, and_right, le-leb, lt-leb}
use Rattle.rules.specs.declared.load.Member.{Member}
use Rattle.rules.specs.Loads.{lawful, joined, single, newcomer}
use Rattle.rules.specs.Bounds.{Modest}
use Rattle.rules.specs.Rules.{share_of, last_period, chained, work, work_in, harmonic}
use Rattle.rules.specs.Walk.{last_or}
use Rattle.rules.specs.Lemmas.Lowering.{chained_same}
use Rattle.rules.specs.Lemmas.Tests.{same_test}
use Rattle.rules.proofs.Orderly.{room_cost, no_room_cost}
use Rattle.rules.proofs.Greatest.{greatest_is, greatest_none}
use Rattle.rules.proofs.Small.{single_modest, joined_kept}

-- the chain behind a member of period q
abbrev pub chained_from : ℕ → List Member → Bool
chained_from q [] = true
chained_from q (m ∷ l) = eqb (m.period % q) 0 && chained_from m.period l

chained_is : (m : Member) (l : List Member) → chained_from m.period l ≡ chained (m ∷ l)
chained_is m [] = refl
chained_is m (k ∷ l) = ap (λ b. eqb (k.period % m.period) 0 && b) (chained_is k l)

pub chained_start : (l : List Member) → chained_from 1 l ≡ chained l
chained_start [] = refl
chained_start (m ∷ l) = ap (λ n. eqb n 0 && chained_from m.period l) (mod-one m.period) ∙ chained_is m l

-- a chain goes on to a new member where the last period divides its own
pub chained_joined : (l : List Member) (c p : ℕ) → chained (joined l c p) ≡ (chained l && eqb (p % last_or 1 l) 0)
chained_joined [] c p = sym (ap (λ n. eqb n 0) (mod-one p))
chained_joined (m ∷ []) c p = and-true (eqb (p % m.period) 0)
chained_joined (m ∷ k ∷ l) c p = ap (λ b. eqb (k.period % m.period) 0 && b) (chained_joined (k ∷ l) c p) ∙ sym (and_assoc (eqb (k.period % m.period) 0) (chained (k ∷ l)) (eqb (p % last_or 1 (k ∷ l)) 0))

pub last_push : (l : List Member) (m : Member) → last_period (l ++ (m ∷ [])) ≡ m.period
last_push [] m = refl
last_push (x ∷ []) m = refl
last_push (x ∷ y ∷ l) m = last_push (y ∷ l) m

pub work_small : (m : Member) (p : ℕ) → Modest m → work p m ≤ p
work_small m p k = omega (arith, mul-le-mul_right (p / m.period) k.kept.fits, mul-div-le p m.period)

pub work_joined : (l : List Member) (c p : ℕ) → 0 < p → work_in p (joined l c p) ≡ work_in p l + c
work_joined l c p pos =
    let own : c * (p / p) ≡ c = ap (λ q. c * q) (div_self pos) ∙ mul-one c in
    omega (arith, sum_by_push (work p) l (newcomer c p))

pub harmonic_single : (cost period hold : ℕ) → lawful (single cost period hold) ≡ harmonic (single cost period hold)
harmonic_single cost period hold =
    let l = single cost period hold in
    same_test (lawful l) (harmonic l)
    (λ e.
    let k = single_modest cost period hold e in
    let own = work_joined [] cost period (omega (arith, k.kept.least)) in
    and_from (lawful l && true) (leb (work_in period l) period) (and_from (lawful l) true e refl) (le-leb (work_in period l) period (omega (arith, k.kept.fits))))
    (λ e. (and_parts (lawful l) true (and_parts (lawful l && true) (leb (work_in period l) period) e).0).0)

module _ (l : List Member) (cost p : ℕ) where
  pub none_unlawful : lawful (joined l 1 p) ≡ false → 0 ≡ share_of harmonic l cost p
  none_unlawful h =
      greatest_none (λ c. harmonic (joined l c p)) cost
      (λ c some.
      let low = joined l c p in
      and_left (lawful low && chained low) (leb (work_in (last_period low) low) (last_period low)) (and_left (lawful low) (chained low) (no_room_cost l c p some h)))

  pub chain_cost : (c : ℕ) → 1 ≤ c → chained (joined l c p) ≡ chained (joined l 1 p)
  chain_cost c some = chained_same (newcomer c p) 1 (omega arith) some l

  none_unchained : chained (joined l 1 p) ≡ false → 0 ≡ share_of harmonic l cost p
  none_unchained h =
      greatest_none (λ c. harmonic (joined l c p)) cost
      (λ c some.
      let low = joined l c p in
      and_left (lawful low && chained low) (leb (work_in (last_period low) low) (last_period low)) (and_right (lawful low) (chained low) (chain_cost c some ∙ h)))

  pub none_apart : chained l ≡ false → 0 ≡ share_of harmonic l cost p
  none_apart h = none_unchained (chained_joined l 1 p ∙ and_left (chained l) (eqb (p % last_or 1 l) 0) h)

  pub none_unended : eqb (p % last_or 1 l) 0 ≡ false → 0 ≡ share_of harmonic l cost p
  none_unended h = none_unchained (chained_joined l 1 p ∙ and_right (chained l) (eqb (p % last_or 1 l) 0) h)

  pub harmonic_share : lawful (joined l 1 p) ≡ true → chained (joined l 1 p) ≡ true → min (p - work_in p l) cost ≡ share_of harmonic l cost p
  harmonic_share room chain =
      let r = min (p - work_in p l) cost in
      let pos : 0 < p = omega (arith, (joined_kept l 1 p room).least) in
      let last : (c : ℕ) → last_period (joined l c p) ≡ p = λ c. last_push l (newcomer c p) in
      greatest_is (λ c. harmonic (joined l c p)) cost r (record {
        within = omega arith;
        passed = λ h.
            let low = joined l r p in
            and_from (lawful low && chained low) (leb (work_in (last_period low) low) (last_period low))
            (and_from (lawful low) (chained low) (room_cost l r p (omega arith) (omega arith) room) (chain_cost r (omega arith) ∙ chain))
            (subst (λ q. leb (work_in q low) q ≡ true) (sym (last r)) (le-leb (work_in p low) p (omega (arith, work_joined l r p pos))));
        above = λ c h k.
            let low = joined l c p in
            and_right (lawful low && chained low) (leb (work_in (last_period low) low) (last_period low))
            (subst (λ q. leb (work_in q low) q ≡ false) (sym (last c)) (lt-leb (work_in p low) p (omega (arith, work_joined l c p pos))));
      })
