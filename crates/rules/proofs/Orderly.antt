-- The test of lawfulness, member by member.
use Rattle.std.proofs.Common.{◌≡◌, ℕ, ◌+◌, ◌-◌, ◌<◌, ◌≤◌, true, false, ◌&&◌, leb, List, [], ◌∷◌, ◌++◌, length, drop, sym, refl, ap, ◌∙◌, subst, arith}
use Rattle.std.proofs.lemmas.List.{length_push}
use Rattle.std.proofs.lemmas.Bool.{and_parts, and_from, leb-true, le-leb, false≢true, both_ways}
use Rattle.rules.specs.declared.load.Member.{Member}
use Rattle.rules.specs.Loads.{all, within_limits, unheld, rising, lawful, joined, member, newcomer}
use Rattle.rules.specs.Walk.{may_follow, may_open, orderly, last_or}
use Rattle.rules.specs.Lemmas.Tests.{same_test, refuted}
use Rattle.rules.specs.Lemmas.Lawful.{lawful_parts, lawful_from, limits_kept, limits_from}
use Rattle.rules.specs.Lemmas.Lowering.{lawful_lowered}

pub record Followed (p : ℕ) (m : Member) : Type 0 where
  pub rises : leb p m.period ≡ true
  pub free : unheld m ≡ true
  pub limits : within_limits m ≡ true

pub follow_parts : (p : ℕ) (m : Member) → may_follow p m ≡ true → Followed p m
follow_parts p m h =
    let a = leb p m.period in
    let b = unheld m in
    let both = and_parts (a && b) (within_limits m) h in
    let front = and_parts a b both.0 in
    record { rises = front.0; free = front.1; limits = both.1 }

pub follow_from : (p : ℕ) (m : Member) → leb p m.period ≡ true → unheld m ≡ true → within_limits m ≡ true → may_follow p m ≡ true
follow_from p m x y z = and_from (leb p m.period && unheld m) (within_limits m) (and_from (leb p m.period) (unheld m) x y) z

pub record Ordered (p : ℕ) (l : List Member) : Type 0 where
  pub limits : all within_limits l ≡ true
  pub later : all unheld l ≡ true
  pub order : rising p l ≡ true

pub orderly_parts : (p : ℕ) (l : List Member) → orderly p l ≡ true → Ordered p l
orderly_parts p [] h = record { limits = refl; later = refl; order = refl }
orderly_parts p (m ∷ l) h =
    let both = and_parts (may_follow p m) (orderly m.period l) h in
    let f = follow_parts p m both.0 in
    let rest = orderly_parts m.period l both.1 in
    record {
      limits = and_from (within_limits m) (all within_limits l) f.limits rest.limits;
      later = and_from (unheld m) (all unheld l) f.free rest.later;
      order = and_from (leb p m.period) (rising m.period l) f.rises rest.order;
    }

pub orderly_from : (p : ℕ) (l : List Member) → all within_limits l ≡ true → all unheld l ≡ true → rising p l ≡ true → orderly p l ≡ true
orderly_from p [] x y z = refl
orderly_from p (m ∷ l) x y z =
    let a = and_parts (within_limits m) (all within_limits l) x in
    let b = and_parts (unheld m) (all unheld l) y in
    let c = and_parts (leb p m.period) (rising m.period l) z in
    and_from (may_follow p m) (orderly m.period l) (follow_from p m c.0 b.0 a.0) (orderly_from m.period l a.1 b.1 c.1)

-- the test by members
pub record Walked (m : Member) (l : List Member) : Type 0 where
  pub few : length (m ∷ l) ≤ 64
  pub opens : may_open m ≡ true
  pub rest : orderly m.period l ≡ true

pub walked : (m : Member) (l : List Member) → lawful (m ∷ l) ≡ true → Walked m l
walked m l h =
    let y = lawful_parts m l h in
    let lim = and_parts (within_limits m) (all within_limits l) y.limits in
    record {
      few = leb-true (length (m ∷ l)) 64 y.few;
      opens = and_from (within_limits m) (leb (m.cost + m.hold) m.period) lim.0 y.first;
      rest = orderly_from m.period l lim.1 y.later (and_parts (leb 0 m.period) (rising m.period l) y.order).1;
    }

pub walked_lawful : (m : Member) (l : List Member) → Walked m l → lawful (m ∷ l) ≡ true
walked_lawful m l w =
    let o = orderly_parts m.period l w.rest in
    let f = and_parts (within_limits m) (leb (m.cost + m.hold) m.period) w.opens in
    lawful_from m l (record {
      few = le-leb (length (m ∷ l)) 64 w.few;
      limits = and_from (within_limits m) (all within_limits l) f.0 o.limits;
      first = f.1;
      later = o.later;
      order = and_from (leb 0 m.period) (rising m.period l) (le-leb 0 m.period (omega arith)) o.order;
    })

pub last_or_at : (x : Member) (l : List Member) → last_or x.period l ≡ (member (x ∷ l) (length l)).period
last_or_at x [] = refl
last_or_at x (y ∷ l) = last_or_at y l

pub last_member : (q : ℕ) (l : List Member) → 1 ≤ length l → (member l (length l - 1)).period ≡ last_or q l
last_member q [] h = absurd (omega arith)
last_member q (x ∷ l) h =
    let here : length (x ∷ l) - 1 ≡ length l = omega arith in
    ap (λ k. (member (x ∷ l) k).period) here ∙ sym (last_or_at x l)

pub orderly_push : (q : ℕ) (l : List Member) (m : Member) → orderly q l ≡ true → may_follow (last_or q l) m ≡ true → orderly q (l ++ (m ∷ [])) ≡ true
orderly_push q [] m h f = and_from (may_follow q m) true f refl
orderly_push q (x ∷ l) m h f =
    let both = and_parts (may_follow q x) (orderly x.period l) h in
    and_from (may_follow q x) (orderly x.period (l ++ (m ∷ []))) both.0 (orderly_push x.period l m both.1 f)

pub orderly_front : (q : ℕ) (l : List Member) (m : Member) → orderly q (l ++ (m ∷ [])) ≡ true → (orderly q l ≡ true) × (may_follow (last_or q l) m ≡ true)
orderly_front q [] m h = (refl, (and_parts (may_follow q m) true h).0)
orderly_front q (x ∷ l) m h =
    let both = and_parts (may_follow q x) (orderly x.period (l ++ (m ∷ []))) h in
    let rest = orderly_front x.period l m both.1 in
    (and_from (may_follow q x) (orderly x.period l) both.0 rest.0, rest.1)

-- one member more at the end
pub record Grown (x : Member) (l : List Member) (m : Member) : Type 0 where
  pub whole : lawful (x ∷ l) ≡ true
  pub few : length (x ∷ l) < 64
  pub last : may_follow (member (x ∷ l) (length l)).period m ≡ true

pub grown : (x : Member) (l : List Member) (m : Member) → lawful (x ∷ (l ++ (m ∷ []))) ≡ true → Grown x l m
grown x l m h =
    let w = walked x (l ++ (m ∷ [])) h in
    let f = orderly_front x.period l m w.rest in
    let longer = length_push l m in
    record {
      whole = walked_lawful x l (record { few = omega (arith, w.few); opens = w.opens; rest = f.0 });
      few = omega (arith, w.few);
      last = subst (λ p. may_follow p m ≡ true) (last_or_at x l) f.1;
    }

pub grown_lawful : (x : Member) (l : List Member) (m : Member) → Grown x l m → lawful (x ∷ (l ++ (m ∷ []))) ≡ true
grown_lawful x l m g =
    let w = walked x l g.whole in
    let longer = length_push l m in
    walked_lawful x (l ++ (m ∷ [])) (record {
      few = omega (arith, g.few);
      opens = w.opens;
      rest = orderly_push x.period l m w.rest (subst (λ p. may_follow p m ≡ true) (sym (last_or_at x l)) g.last);
    })

-- the answers of the test
pub too_many : (l : List Member) → 64 < length l → false ≡ lawful l
too_many [] h = refl
too_many (m ∷ l) h = same_test false (lawful (m ∷ l)) (λ e. absurd (false≢true e)) (λ e. absurd (omega (arith, (walked m l e).few)))

pub lawful_at : (l : List Member) → length l ≤ 64 → (may_open (member l 0) && orderly (member l 0).period (drop 1 l)) ≡ lawful l
lawful_at [] few = refl
lawful_at (m ∷ l) few =
    same_test (may_open m && orderly m.period l) (lawful (m ∷ l))
    (λ e. let both = and_parts (may_open m) (orderly m.period l) e in walked_lawful m l (record { few = few; opens = both.0; rest = both.1 }))
    (λ e. let w = walked m l e in and_from (may_open m) (orderly m.period l) w.opens w.rest)

pub room_none : (p : ℕ) → within_limits (newcomer 1 p) ≡ lawful (joined [] 1 p)
room_none p =
    let m = newcomer 1 p in
    same_test (within_limits m) (lawful (m ∷ []))
    (λ e. walked_lawful m [] (record { few = omega arith; opens = and_from (within_limits m) (leb (1 + 0) p) e (le-leb (1 + 0) p (omega (arith, (limits_kept m e).least))); rest = refl }))
    (λ e. (and_parts (within_limits m) (leb (1 + 0) p) (walked m [] e).opens).0)

pub room_at : (l : List Member) (p : ℕ) → 1 ≤ length l → length l < 64 → (may_follow (member l (length l - 1)).period (newcomer 1 p) && lawful l) ≡ lawful (joined l 1 p)
room_at [] p h few = absurd (omega arith)
room_at (x ∷ l) p h few =
    let m = newcomer 1 p in
    let here : length (x ∷ l) - 1 ≡ length l = omega arith in
    subst (λ k. (may_follow (member (x ∷ l) k).period m && lawful (x ∷ l)) ≡ lawful (x ∷ (l ++ (m ∷ [])))) (sym here)
    (same_test (may_follow (member (x ∷ l) (length l)).period m && lawful (x ∷ l)) (lawful (x ∷ (l ++ (m ∷ []))))
    (λ e. let both = and_parts (may_follow (member (x ∷ l) (length l)).period m) (lawful (x ∷ l)) e in grown_lawful x l m (record { whole = both.1; few = few; last = both.0 }))
    (λ e. let g = grown x l m e in and_from (may_follow (member (x ∷ l) (length l)).period m) (lawful (x ∷ l)) g.last g.whole))

-- where a member of cost 1 has room, one of any cost up to its period has
limits_raised : (c p : ℕ) → 1 ≤ c → c ≤ p → within_limits (newcomer 1 p) ≡ true → within_limits (newcomer c p) ≡ true
limits_raised c p some le h =
    let k = limits_kept (newcomer 1 p) h in
    limits_from (newcomer c p) (record { least = k.least; most = k.most; some_cost = some; fits = le })

pub room_cost : (l : List Member) (c p : ℕ) → 1 ≤ c → c ≤ p → lawful (joined l 1 p) ≡ true → lawful (joined l c p) ≡ true
room_cost [] c p some le h =
    let m = newcomer 1 p in
    let n = newcomer c p in
    let f = and_parts (within_limits m) (leb (1 + 0) p) (walked m [] h).opens in
    walked_lawful n [] (record { few = omega arith; opens = and_from (within_limits n) (leb (c + 0) p) (limits_raised c p some le f.0) (le-leb (c + 0) p (omega arith)); rest = refl })
room_cost (x ∷ l) c p some le h =
    let m = newcomer 1 p in
    let n = newcomer c p in
    let g = grown x l m h in
    let q = (member (x ∷ l) (length l)).period in
    let f = follow_parts q m g.last in
    grown_lawful x l n (record { whole = g.whole; few = g.few; last = follow_from q n f.rises refl (limits_raised c p some le f.limits) })

pub no_room_cost : (l : List Member) (c p : ℕ) → 1 ≤ c → lawful (joined l 1 p) ≡ false → lawful (joined l c p) ≡ false
no_room_cost l c p some h =
    refuted (lawful (joined l c p)) (λ e. both_ways (lawful (joined l 1 p)) h (lawful_lowered (newcomer c p) 1 (omega arith) some l e))
