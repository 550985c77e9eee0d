use Rattle.std.proofs.Common.{◌≡◌, ◌++◌}
use Rattle.writing.specs.Room.{cut}
use Rattle.writing.specs.Texts.{text_of}
use Rattle.pages.specs.Plans.{core_lines}
use Rattle.pages.proofs.plan_page.put_cores.Given as goal

abbrev pub invariant-loop-i : goal.invariant-loop-i
invariant-loop-i l = text_of l.text ≡ cut (text_of l.initial.text ++ core_lines l.i l.placements)
