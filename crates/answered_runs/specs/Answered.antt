-- What a run against any host leaves: its text, its words, its steps and its end.
use Rattle.std.specs.Prelude.{◌≡◌, ℕ, List, [], ◌∷◌}
use Rattle.page_words.specs.Dialogue.{values_of}
use Rattle.image_file.specs.Image.{Contents}
use Rattle.event_table.specs.declared.turn.Finished.{Finished}
use Rattle.hostile_host.specs.Answered.{run_on_words}
use Rattle.trace_text.specs.Trace.{trace_text}

-- the trace and the end of the run on these words, and zeros after them, in print
abbrev pub answered_text : Contents → ℕ → List ℕ → List ℕ
answered_text image budget words =
    let run = run_on_words image budget words in
    trace_text run.items run.value.end run.value.cpu.steps

-- the words that came, the steps and the end of the run on these words, and zeros after them; there is no order
pub record IsAnswered (image : Contents) (budget : ℕ) (words : List ℕ) (f : Finished) (heard : List ℕ) : Type 0 where
  pub told : heard ≡ values_of (run_on_words image budget words).items
  pub steps : f.steps.items ≡ (run_on_words image budget words).value.cpu.steps ∷ []
  pub ends : f.ends.items ≡ (run_on_words image budget words).value.end ∷ []
  pub order : f.order.items ≡ []
