-- Tests that have one answer, or the answer no.
use Rattle.std.specs.Prelude.{◌≡◌, Bool, true, false, ◌≢◌, refl}
use Rattle.std.proofs.lemmas.Bool.Decides.{same_from_decides}

pub same_test : (a b : Bool) → (a ≡ true → b ≡ true) → (b ≡ true → a ≡ true) → a ≡ b
same_test a b f g = same_from_decides {P = b ≡ true} a b (f, g) ((λ x. x), (λ x. x))

pub refuted : (b : Bool) → (b ≢ true) → b ≡ false
refuted true h = absurd (h refl)
refuted false h = refl
