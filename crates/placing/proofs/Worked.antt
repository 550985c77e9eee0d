-- The worked placings, by computing.
use Rattle.std.proofs.Common.{refl}
use Rattle.model.specs.Tables.{breach_of, follows, first_bad, check_of}
use Rattle.rules.proofs.Worked.{worked_shares}
use Rattle.placing.specs.Examples.{WorkedPlacings}

pub worked_placings : WorkedPlacings
unfolding check_of first_bad follows breach_of
worked_placings =
    record { shares = worked_shares; harmonic_splits = refl; response_refuses = refl; harmonic_refuses = refl; not_alone = refl; session = refl }
