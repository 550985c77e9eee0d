-- The plan that the program makes of a sheet, and what it prints.
use Rattle.std.specs.Prelude.{ℕ, zero, suc, Bool, List, [], ◌++◌, Ok, Err, Result}
use Rattle.model.specs.declared.fault.Fault.{Fault}
use Rattle.model.specs.declared.stage.Stage.{Stage}
use Rattle.sheet.specs.Sheets.{read_of}
use Rattle.rules.specs.declared.load.Member.{Member}
use Rattle.rules.specs.Rules.{response, use_cap, count_cap}
use Rattle.placing.specs.Placing.{place_of}
use Rattle.placing.specs.Plans.{Layout, laid_out}
use Rattle.pages.specs.Plans.{plan_text}
use Rattle.pages.specs.Ticks.{tick_text}
use Rattle.pages.specs.Refusals.{refusal_text}
use Rattle.dispatch.specs.declared.state.State.{State}
use Rattle.dispatch.specs.Ticks.{answer_of, after_tick, fresh_states}

-- the most bytes that the program reads
abbrev pub most_input : ℕ
most_input = 4096

-- the rule that sessions are placed under
abbrev pub session_rule : List Member → Bool
session_rule = count_cap 12 (use_cap 900000 response)

-- the plan of what was read
abbrev pub plan_for : Result (ℕ × List Stage) Fault → Result Layout Fault
plan_for (Ok sheet) = laid_out sheet.0 (place_of session_rule sheet.0 sheet.1)
plan_for (Err f) = Err f

-- the lines of n ticks from tick t on, which begins with these states
unfoldable pub tick_lines : ℕ → ℕ → Layout → List State → List ℕ
tick_lines zero t l ss = []
tick_lines (suc n) t l ss =
    tick_text t l.cores (answer_of l.cores l.placements ss) ++ tick_lines n (suc t) l (after_tick l.cores l.placements ss)

-- the plan page and the first twelve ticks, or why there is no plan
abbrev pub output_of : Result Layout Fault → List ℕ
output_of (Ok l) = plan_text l ++ tick_lines 12 0 l fresh_states
output_of (Err f) = refusal_text f

-- what the program prints for the bytes of a sheet
abbrev pub session_text : List ℕ → List ℕ
session_text sheet = output_of (plan_for (read_of sheet))
