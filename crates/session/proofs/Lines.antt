-- The tick lines, one after another.
use Rattle.std.proofs.Common.{◌≡◌, ℕ, suc, ◌+◌, ◌-◌, ◌<◌, ◌≤◌, List, ◌++◌, sym, refl, ap, ◌∙◌, append-nil, add-one, arith}
use Rattle.writing.specs.Room.{cut}
use Rattle.writing.proofs.Texts.{put_more}
use Rattle.placing.specs.Plans.{Layout}
use Rattle.pages.specs.Ticks.{tick_text}
use Rattle.dispatch.specs.declared.state.State.{State}
use Rattle.dispatch.specs.Ticks.{answer_of, after_tick}
use Rattle.session.specs.Sessions.{tick_lines}

module _ (t : ℕ) (l : Layout) (ss : List State) where
  abbrev line : List ℕ
  line = tick_text t l.cores (answer_of l.cores l.placements ss)

  abbrev rest : List ℕ
  rest = tick_lines (12 - (t + 1)) (t + 1) l (after_tick l.cores l.placements ss)

  lines_step : t < 12 → tick_lines (12 - t) t l ss ≡ line ++ rest
  unfolding tick_lines
  lines_step lt = let e : 12 - t ≡ suc (12 - (t + 1)) = omega arith in rw (e, add-one t)

  -- one more line is put
  pub lines_more : (text : List ℕ) {more : List ℕ} → t < 12 → more ≡ cut (text ++ line) → cut (more ++ rest) ≡ cut (text ++ tick_lines (12 - t) t l ss)
  lines_more text lt is = put_more text line rest is refl ∙ ap (λ lines. cut (text ++ lines)) (sym (lines_step lt))

  -- no line is left
  pub lines_all : (text : List ℕ) → 12 ≤ t → cut (text ++ tick_lines (12 - t) t l ss) ≡ cut text
  unfolding tick_lines
  lines_all text le = let e : 12 - t ≡ 0 = omega arith in rw (e, append-nil)
