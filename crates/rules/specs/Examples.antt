-- Small loads, and what the rules say of them.
use Rattle.std.specs.Prelude.{◌≡◌, true, false, []}
use Rattle.rules.specs.Loads.{joined, single}
use Rattle.rules.specs.Rules.{response, harmonic, use_cap, share_of}

-- a share is that of a cost and a period after a load, whose members are told by cost, period and hold
pub record WorkedShares : Type 0 where
  pub after_two : share_of response (joined (single 1 4 0) 2 6) 4 8 ≡ 2
  -- a hold counts for the response rule, not for the harmonic one
  pub held_response : share_of response (single 2 4 2) 4 8 ≡ 2
  pub held_harmonic : share_of harmonic (single 2 4 2) 4 8 ≡ 4
  -- periods that are no chain
  pub unchained_response : share_of response (single 1 2 0) 2 3 ≡ 1
  pub unchained_harmonic : share_of harmonic (single 1 2 0) 2 3 ≡ 0
  -- cost and hold just fit the period, and do not fit it
  pub alone : response (single 3 10 7) ≡ true
  pub not_alone : response (single 3 10 8) ≡ false
  -- a third is 333,334 millionths, rounded up
  pub under_cap : share_of (use_cap 333334 response) [] 1 3 ≡ 1
  pub over_cap : share_of (use_cap 333333 response) [] 1 3 ≡ 0
