use Rattle.std.proofs.Common.{◌≡◌, ◌++◌}
use Rattle.std.specs.Prelude.{drop}
use Rattle.page_words.specs.Dialogue.{values_of}
use Rattle.answered_runs.proofs.over.words_of.Given as goal

-- the words so far and those of the items that are left are all words
abbrev pub invariant-loop-item : goal.invariant-loop-item
invariant-loop-item l = l.words.items ++ values_of (drop l.item-index l.items) ≡ values_of l.items
