use Rattle.std.proofs.Common.{◌≡◌, ◌++◌, take}
use Rattle.std.specs.List.{flat_map}
use Rattle.writing.specs.Room.{cut}
use Rattle.writing.specs.Texts.{text_of}
use Rattle.pages.specs.Ticks.{number_text}
use Rattle.pages.proofs.tick_line.put_numbers.Given as goal

abbrev pub invariant-loop-number : goal.invariant-loop-number
invariant-loop-number l = text_of l.text ≡ cut (text_of l.initial.text ++ flat_map number_text (take l.number-index l.numbers))
