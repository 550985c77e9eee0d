-- The stages of a table as members, whole.
use Rattle.std.proofs.Common.{◌≡◌, ◌≤◌, List, [], ◌∷◌, length, refl, sym, subst, arith}
use Rattle.std.proofs.lemmas.List.{length-map, get_or-map}
use Rattle.model.specs.declared.stage.Stage.{Stage}
use Rattle.model.specs.Limits.{review_box}
use Rattle.model.specs.Lawful.{no_stage, stage, LawfulTable}
use Rattle.model.specs.Tables.{last_period}
use Rattle.rules.specs.Loads.{whole_member, nobody}
use Rattle.rules.specs.Bounds.{Modest, AllModest}
use Rattle.placing.specs.Fits.{whole_load, denominator}

-- a lawful table holds no more and nothing larger than a load may
pub whole_modest : (ss : List Stage) → LawfulTable review_box ss → length ss ≤ review_box.stages → AllModest (whole_load ss)
whole_modest ss t few =
    let long = length-map ss whole_member in
    record {
      few = omega arith;
      each = λ i lt.
          let inside = t.each i (omega arith) in
          let modest : Modest (whole_member (stage ss i)) =
          record { kept = record { least = inside.period_least; most = inside.period_most; some_cost = inside.cost_least; fits = inside.cost_most }; held = omega arith } in
          subst Modest (sym (get_or-map whole_member ss i no_stage nobody (omega arith))) modest;
    }

pub last_is : (ss : List Stage) → last_period ss ≡ denominator ss
last_is [] = refl
last_is (s ∷ []) = refl
last_is (s ∷ t ∷ ss) = last_is (t ∷ ss)
