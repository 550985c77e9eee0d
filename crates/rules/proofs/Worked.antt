-- The worked shares, by computing.
use Rattle.std.proofs.Common.{refl}
use Rattle.rules.specs.Examples.{WorkedShares}

pub worked_shares : WorkedShares
worked_shares =
    record {
      after_two = refl;
      held_response = refl;
      held_harmonic = refl;
      unchained_response = refl;
      unchained_harmonic = refl;
      alone = refl;
      not_alone = refl;
      under_cap = refl;
      over_cap = refl;
    }
