-- Whole runs against any host, from two openings that differ in the secret alone.
use Rattle.std.specs.Prelude.{◌≡◌, ℕ, ◌+◌, ◌<◌, ◌≤◌, ◌^◌, ◌⊎◌, List, ◌++◌, length, get_or}
use Rattle.page_words.specs.declared.item.Item.{Item}
use Rattle.page_words.specs.Dialogue.{Taken, answered_by}
use Rattle.image_file.specs.Image.{Contents, opening_ram}
use Rattle.event_table.specs.declared.end.End.{End}
use Rattle.event_table.specs.Opening.{opening_vcpu}
use Rattle.guest_interp.specs.Stepping.{Counted, at_count}
use Rattle.hostile_host.specs.Answered.{Ran, run_from, run_on_words}
use Rattle.secret_labels.specs.declared.verdict.Verdict.{Verdict}
use Rattle.secret_labels.specs.declared.verdict.Verdict.TheVariants.{Clean, Flows}
use Rattle.secret_labels.specs.declared.verdict.What.{What}
use Rattle.secret_labels.specs.Following.{labelled, verdict_of}

-- vCPU 0 of an image as it starts, with these bytes in place of its RAM's
abbrev pub opened_with : Contents → List ℕ → Counted
opened_with image bytes =
    at_count (record (opening_vcpu image 0) { ram = record (opening_ram image) { bytes = bytes } }) 0

-- its run, where the words that come are these, and zeros after them
abbrev pub run_with : Contents → List ℕ → ℕ → List ℕ → Taken Ran
run_with image bytes budget words = answered_by (run_from (opened_with image bytes) image budget) words

-- these bytes differ from the image's RAM in the secret alone
pub record DiffersInSecret (image : Contents) (bytes : List ℕ) : Type 0 where
  pub size : length bytes ≡ length (opening_ram image).bytes
  pub outside : (k : ℕ) →
      (k < image.header.secret_start) ⊎ (image.header.secret_start + image.header.secret_len ≤ k) →
      get_or (opening_ram image).bytes k 0 ≡ get_or bytes k 0

-- what the rules of an image file give: the secret lies in RAM, above the code, or there is none
pub record HasSecret (image : Contents) : Type 0 where
  pub inside : image.header.secret_start + image.header.secret_len ≤ length (opening_ram image).bytes
  pub above : 0 < image.header.secret_start + image.header.secret_len → length image.code ≤ image.header.secret_start
  pub small : length (opening_ram image).bytes < 2 ^ 64

-- two runs have one trace, and this end and these steps
pub record SameRun (end : End) (steps : ℕ) (one other : Taken Ran) : Type 0 where
  pub trace : one.items ≡ other.items
  pub end_one : one.value.end ≡ end
  pub end_other : other.value.end ≡ end
  pub steps_one : one.value.cpu.steps ≡ steps
  pub steps_other : other.value.cpu.steps ≡ steps

-- the items are the first of a trace
abbrev pub Opens : List Item → List Item → Type 0
Opens items trace = (more : List Item) × (trace ≡ items ++ more)

-- two runs have these items in front
pub record SameStart (items : List Item) (one other : Taken Ran) : Type 0 where
  pub opens_one : Opens items one.items
  pub opens_other : Opens items other.items

-- what is said and heard up to the first use of a label, or to the end
abbrev pub shown : Contents → ℕ → List ℕ → List Item
shown image budget words = (answered_by (verdict_of image budget) words).items

-- Where the verdict is Clean, the run has that end and these steps, and each opening RAM that differs in the secret
-- alone gives the same trace, end and steps on the same words.
abbrev pub TwoWorlds : Type 0
TwoWorlds = (image : Contents) (budget : ℕ) (words : List ℕ) (end : End) (steps : ℕ) → HasSecret image →
    labelled image budget words ≡ Clean end steps → (bytes : List ℕ) → DiffersInSecret image bytes →
    SameRun end steps (run_on_words image budget words) (run_with image bytes budget words)

-- And where it is Flows, each of them gives the same trace up to the use.
abbrev pub UpToUse : Type 0
UpToUse = (image : Contents) (budget : ℕ) (words : List ℕ) (step : ℕ) (what : What) → HasSecret image →
    labelled image budget words ≡ Flows step what → (bytes : List ℕ) → DiffersInSecret image bytes →
    SameStart (shown image budget words) (run_on_words image budget words) (run_with image bytes budget words)

-- what a verdict says of two runs, with the items up to it
abbrev pub HoldsOf : Verdict → List Item → Taken Ran → Taken Ran → Type 0
HoldsOf (Clean end steps) items one other = SameRun end steps one other
HoldsOf (Flows step what) items one other = SameStart items one other

-- what it says of the image's run and of every other secret's
abbrev pub HoldsInWorlds : Contents → ℕ → List ℕ → Verdict → Type 0
HoldsInWorlds image budget words verdict = (bytes : List ℕ) → DiffersInSecret image bytes →
    HoldsOf verdict (shown image budget words) (run_on_words image budget words) (run_with image bytes budget words)
