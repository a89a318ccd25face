-- What a run against any host leaves.
use Rattle.std.specs.Prelude.{◌≡◌, ℕ, List, ◌++◌, Some}
use Rattle.page_words.specs.declared.item.Item.{Item}
use Rattle.page_words.specs.Told.{Told}
use Rattle.page_words.specs.Dialogue.{Runs}
use Rattle.event_table.specs.declared.end.End.{End}
use Rattle.image_file.specs.Image.{Contents}
use Rattle.vcpu_core.specs.State.{State, end_in}
use Rattle.hostile_host.specs.Answered.{run_on_words, run_of}

-- these items are the run's trace on these words, and the vCPU has its registers, RAM, steps and end
pub record IsRunOn (image : Contents) (budget : ℕ) (s : State) (made : List Item) (words : List ℕ) : Type 0 where
  pub trace : made ≡ (run_on_words image budget words).items
  pub cpu : s.cpu ≡ (run_on_words image budget words).value.cpu
  pub end : end_in s.phase ≡ Some (run_on_words image budget words).value.end

-- these items are the first of the run's trace on these words
abbrev pub IsFirst : Contents → ℕ → List Item → List ℕ → Type 0
IsFirst image budget made words = (more : List Item) × ((run_on_words image budget words).items ≡ made ++ more)

-- From old to new the whole run was held, and came to this vCPU.
pub record HasRun (image : Contents) (budget : ℕ) (s : State) (old new : Told) : Type 0 where
  pub end : End
  pub ended : end_in s.phase ≡ Some end
  pub runs : Runs (run_of image budget) (record { cpu = s.cpu; end = end }) old new
