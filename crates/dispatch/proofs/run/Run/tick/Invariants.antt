use Rattle.std.proofs.Common.{◌≡◌, ◌+◌, ◌++◌, length, take, drop}
use Rattle.dispatch.specs.Ticks.{answer_of, stepped}
use Rattle.dispatch.proofs.Tables.{AsBefore}
use Rattle.dispatch.proofs.Walk.{RowAt}
use Rattle.dispatch.proofs.run.Run.tick.Given as goal

-- the row of the stages so far; what is stepped, and what is to come, is all; what is to come is as it was
abbrev pub invariant-loop-i : goal.invariant-loop-i
invariant-loop-i l =
    let before = l.initial.states in
    let answer = answer_of 8 l.placements before in
    record {
      row : RowAt l.placements before l.i l.row;
      stepped : stepped answer 1 l.placements before ≡ take l.i l.states ++ stepped answer (l.i + 1) (drop l.i l.placements) (drop l.i l.states);
      to_come : AsBefore before l.states l.i;
      long : length l.states ≡ 64;
    }
