-- A page that keeps its words, after items.
use Rattle.std.proofs.Common.{◌≡◌, ℕ, ◌<◌, List, [], ◌∷◌, length, refl, ap, ◌∙◌, arith}
use Rattle.std.specs.Prelude.{slice_index, slice_set, ◌==◌, if◌then◌else◌}
use Rattle.std.proofs.lemmas.List.{length-set}
use Rattle.std.proofs.lemmas.Grind.{common_steps}
use Rattle.page_words.specs.declared.item.Item.{Item}
use Rattle.page_words.specs.declared.item.Item.TheVariants.{Store, Exit, Load, Msr}
use Rattle.page_words.specs.Told.{Kept, kept_after, kept_after_all}

-- the word after an item, from what it was before
abbrev pub word_after : Item → ℕ → ℕ → ℕ
word_after (Store other value) word before = if other == word then value else before
word_after (Exit value) word before = before
word_after (Load other value) word before = before
word_after (Msr value) word before = before

-- the word after items: the last that was stored there, else what it was before
abbrev pub word_after_all : List Item → ℕ → ℕ → ℕ
word_after_all [] word before = before
word_after_all (item ∷ items) word before = word_after_all items word (word_after item word before)

length-kept_after : (k : Kept) (item : Item) → length (kept_after k item).words ≡ length k.words
length-kept_after k (Store word value) = length-set k.words word value
length-kept_after k (Exit value) = refl
length-kept_after k (Load word value) = refl
length-kept_after k (Msr value) = refl

-- items leave the number of words
pub length-kept_after_all : (k : Kept) (items : List Item) → length (kept_after_all k items).words ≡ length k.words
length-kept_after_all k [] = refl
length-kept_after_all k (item ∷ items) = length-kept_after_all (kept_after k item) items ∙ length-kept_after k item

index-set : (ws : List ℕ) (i j v : ℕ) → j < length ws → slice_index (slice_set ws i v) j ≡ (if i == j then v else slice_index ws j)
index-set ws i j v within = grind (arith, common_steps)

index-kept_after : (k : Kept) (item : Item) (word : ℕ) → word < length k.words → slice_index (kept_after k item).words word ≡ word_after item word (slice_index k.words word)
index-kept_after k (Store other value) word within = index-set k.words other word value within
index-kept_after k (Exit value) word within = refl
index-kept_after k (Load other value) word within = refl
index-kept_after k (Msr value) word within = refl

-- a word of the page is the last that was stored there
pub index-kept_after_all : (k : Kept) (items : List Item) (word : ℕ) → word < length k.words →
    slice_index (kept_after_all k items).words word ≡ word_after_all items word (slice_index k.words word)
index-kept_after_all k [] word within = refl
index-kept_after_all k (item ∷ items) word within =
    let same : length (kept_after k item).words ≡ length k.words = length-kept_after k item in
    index-kept_after_all (kept_after k item) items word (omega arith)
    ∙ ap (λ before. word_after_all items word before) (index-kept_after k item word within)
