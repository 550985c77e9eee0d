-- One stage more behind a load whose periods are a chain.
use Rattle.std.proofs.Common.{◌≡◌, ℕ, ◌-◌, ◌%◌, ◌<◌, ◌≤◌, true, List, [], ◌∷◌, ◌++◌, length, sym, refl, ◌∙◌, subst, arith}
use Prim.Native.Nat.{◌∣◌}
use native.Mathlib.Nat.{mod-eq-zero_of_dvd, le_of_dvd}
use Rattle.std.proofs.lemmas.List.{length_push, get_or_append_left, get_or_push}
use Rattle.std.proofs.lemmas.Bool.{and_parts, and_from, le-leb, eq-eqb}
use Rattle.rules.specs.declared.load.Member.{Member}
use Rattle.rules.specs.Loads.{nobody, member, joined, within_limits, lawful}
use Rattle.rules.specs.Rules.{last_period, chained}
use Rattle.rules.specs.Lemmas.Lawful.{limits_from}
use Rattle.rules.proofs.Orderly.{follow_from, room_at, room_none}
use Rattle.rules.specs.Lemmas.Chain.{divides}

-- a period within the limits
pub record Period (p : ℕ) : Type 0 where
  pub least : 2 ≤ p
  pub most : p ≤ 60000

one_tick : (p : ℕ) → Period p → within_limits (record { cost = 1; period = p; hold = 0 }) ≡ true
one_tick p h = limits_from (record { cost = 1; period = p; hold = 0 }) (record { least = h.least; most = h.most; some_cost = omega arith; fits = omega (arith, h.least) })

-- what a stage of period p finds: it may stand behind the load, and its period is a multiple of the load's last
pub record Open (load : List Member) (p : ℕ) : Type 0 where
  pub room : lawful (joined load 1 p) ≡ true
  pub chain : chained (joined load 1 p) ≡ true

pub open_none : (p : ℕ) → Period p → Open [] p
open_none p h = record { room = sym (room_none p) ∙ one_tick p h; chain = refl }

chain_end : (l : List Member) (m : Member) → chained l ≡ true → (0 < length l → last_period l ∣ m.period) → chained (l ++ (m ∷ [])) ≡ true
chain_end [] m h d = refl
chain_end (x ∷ []) m h d = and_from _ true (eq-eqb (m.period % x.period) 0 (mod-eq-zero_of_dvd x.period (d (omega arith)))) refl
chain_end (x ∷ y ∷ l) m h d = let both = and_parts _ (chained (y ∷ l)) h in and_from _ _ both.0 (chain_end (y ∷ l) m both.1 (λ lt. d (omega arith)))

-- behind a lawful load in a chain, for the next multiple of its last period
pub open_behind : (l : List Member) (p : ℕ) → lawful l ≡ true → chained l ≡ true → 1 ≤ length l → length l < 64 → (member l (length l - 1)).period ≡ last_period l → last_period l ∣ p → Period p → Open l p
open_behind l p good chain some few last div h =
    let le : last_period l ≤ p = le_of_dvd (omega (arith, h.least)) div in
    let behind = follow_from (member l (length l - 1)).period (record { cost = 1; period = p; hold = 0 }) (le-leb _ _ (omega arith)) refl (one_tick p h) in
    record { room = sym (room_at l p some few) ∙ and_from _ _ behind good; chain = chain_end l (record { cost = 1; period = p; hold = 0 }) chain (λ _. div) }

-- every period of the load divides the one behind it
pub divides_next : (load : List Member) (p : ℕ) → Open load p → (i : ℕ) → i < length load → (member load i).period ∣ p
divides_next load p o i lt =
    let m : Member = record { cost = 1; period = p; hold = 0 } in
    let long = length_push load m in
    let d = divides (joined load 1 p) o.chain i (length load) (omega arith) (omega arith) in
    let here = get_or_append_left load (m ∷ []) nobody i lt in
    let last = get_or_push load m nobody (length load) refl in
    subst (λ x. x.period ∣ p) here (subst (λ x. (member (joined load 1 p) i).period ∣ x.period) last d)
