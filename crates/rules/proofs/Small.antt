-- The members of a lawful load are modest.
use Rattle.std.proofs.Common.{◌≡◌, ℕ, zero, suc, ◌<◌, ◌≤◌, true, List, [], ◌∷◌, ◌++◌, length, map, get_or, sym, ap, ◌∙◌, refl, subst, arith}
use Rattle.std.proofs.lemmas.List.{length_push, get_or_append_left, get_or_push, map-id, length-map, get_or-map}
use Rattle.std.proofs.lemmas.Bool.{leb-true, eqb-true}
use Rattle.rules.specs.declared.load.Member.{Member}
use Rattle.rules.specs.Loads.{lawful, unheld, member, nobody, joined, single, newcomer}
use Rattle.rules.specs.Bounds.{Kept, Modest, AllModest}
use Rattle.rules.specs.Lemmas.Lawful.{member_kept, lawful_parts, all_at, first_fits}

held_at : (l : List Member) → lawful l ≡ true → (i : ℕ) → i < length l → (member l i).hold ≤ (member l i).period
held_at [] h i lt = absurd (omega arith)
held_at (m ∷ l) h zero lt = omega (arith, first_fits (m ∷ l) h)
held_at (m ∷ l) h (suc i) lt = omega (arith, eqb-true (member l i).hold 0 (all_at unheld l (lawful_parts m l h).later i (omega arith)))

pub modest_at : (l : List Member) → lawful l ≡ true → (i : ℕ) → i < length l → Modest (member l i)
modest_at l h i lt =
    record { kept = member_kept l h i lt; held = held_at l h i lt }

lawful_few : (l : List Member) → lawful l ≡ true → length l ≤ 64
lawful_few [] h = omega arith
lawful_few (m ∷ l) h = leb-true (length (m ∷ l)) 64 (lawful_parts m l h).few

pub front_modest : (l : List Member) (m : Member) → lawful (l ++ (m ∷ [])) ≡ true → AllModest l
front_modest l m h =
    let longer = length_push l m in
    record {
      few = omega (arith, lawful_few (l ++ (m ∷ [])) h);
      each = λ i lt. subst Modest (get_or_append_left l (m ∷ []) nobody i lt) (modest_at (l ++ (m ∷ [])) h i (omega arith));
    }

pub single_modest : (cost period hold : ℕ) → lawful (single cost period hold) ≡ true → Modest (record { cost = cost; period = period; hold = hold })
single_modest cost period hold h = modest_at (single cost period hold) h 0 (omega arith)

pub joined_kept : (l : List Member) (c p : ℕ) → lawful (joined l c p) ≡ true → Kept (newcomer c p)
joined_kept l c p h =
    let m = newcomer c p in
    subst Kept (get_or_push l m nobody (length l) refl) (member_kept (l ++ (m ∷ [])) h (length l) (omega (arith, length_push l m)))

-- a member stands in a load as itself
pub modest_members : (l : List Member) → AllModest (map (λ (m : Member). m) l) → AllModest l
modest_members l h = subst AllModest (map-id l) h

pub members_modest : (l : List Member) → AllModest l → AllModest (map (λ (m : Member). m) l)
members_modest l h = subst AllModest (sym (map-id l)) h

-- what a walk reads at a place, as a member
pub record ItemAt (l : List Member) (i : ℕ) (m : Member) : Type 0 where
  pub inside : i < length l
  pub is : m ≡ member l i
  pub modest : Modest m

pub item_at : {A : Type 0} (f : A → Member) (xs : List A) {i : ℕ} {x : A} {m : Member} → AllModest (map f xs) → i < length xs → x ≡ get_or xs i x → m ≡ f x → ItemAt (map f xs) i m
item_at f xs {i = i} {x = x} all lt read taken =
    let inside : i < length (map f xs) = omega (arith, length-map xs f) in
    let same = taken ∙ ap f read ∙ sym (get_or-map f xs i x nobody lt) in
    record { inside = inside; is = same; modest = subst Modest (sym same) (all.each i inside) }
