use Rattle.std.proofs.Common.{◌≡◌, ◌%◌, true, eqb, sym, ap, ◌∙◌, rules}
use Rattle.std.proofs.lemmas.Bool.{and_from}
use Rattle.std.proofs.lemmas.List.{map-id}
use Rattle.rules.specs.Rules.{chained}
use Rattle.rules.specs.Walk.{last_or}
use Rattle.rules.proofs.HarmonicShare.{none_unlawful, none_apart, none_unended, chained_joined, harmonic_share}
use Rattle.rules.proofs.harmonic.HarmonicPassingRule.share.Goals as goal

pub returns-in_default : goal.returns-in_default
returns-in_default c = search (rules, none_unlawful)

pub returns-then-not-is_chained : goal.returns-then-not-is_chained
returns-then-not-is_chained c =
    let same = map-id c.in-Some.room.load.members.now in
    search (rules, none_apart)

pub returns-then-not-ends_chain : goal.returns-then-not-ends_chain
returns-then-not-ends_chain c = search (rules, none_unended)

pub returns : goal.returns
returns c =
    let room = c.in-Some.room in
    let l = room.load.members.now in
    let same = map-id l in
    let linked : chained l ≡ true = ap chained (sym same) ∙ sym c.if-not-is_chained.ensures in
    let chain = chained_joined l 1 room.period ∙ and_from (chained l) (eqb (room.period % last_or 1 l) 0) linked (sym c.if-not-ends_chain.ensures) in
    let share = harmonic_share l c.args.cost room.period room.lawful chain in
    search rules
