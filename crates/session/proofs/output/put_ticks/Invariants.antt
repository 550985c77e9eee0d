use Rattle.std.proofs.Common.{◌≡◌, ◌-◌, ◌++◌}
use Rattle.writing.specs.Room.{cut}
use Rattle.writing.specs.Texts.{text_of}
use Rattle.placing.specs.Plans.{layout_of}
use Rattle.session.specs.Sessions.{tick_lines}
use Rattle.session.proofs.output.put_ticks.Given as goal

-- the text and the lines that are left make the whole
abbrev pub invariant-loop-tick : goal.invariant-loop-tick
invariant-loop-tick l =
    (l.run.plan ≡ l.initial.run.plan)
    × (cut (text_of l.text ++ tick_lines (12 - l.tick) l.tick (layout_of l.run.plan) l.run.states)
    ≡ cut (text_of l.initial.text ++ tick_lines 12 0 (layout_of l.initial.run.plan) l.initial.run.states))
