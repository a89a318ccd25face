-- The public clauses, from the dialogue that was held.
use Rattle.std.proofs.Common.{◌≡◌, ℕ, List, ◌++◌, Some, None, ap, sym, ◌∙◌}
use Rattle.std.specs.Prelude.{Result, Ok, Err, IfOk, OnErr, IfSome, Option}
use Rattle.std.specs.declared.alloc.AllocError.{AllocError}
use Rattle.page_words.specs.declared.item.Item.{Item}
use Rattle.page_words.specs.Told.{Told, Makes}
use Rattle.page_words.specs.Dialogue.{IsPrefix, RunsPart, Taken, values_of}
use Rattle.page_words.proofs.Dialogues.{begins_self, begins_ahead, goes_taken}
use Rattle.page_words.proofs.Records.{trace-after_all, opens_taken}
use Rattle.image_file.specs.Image.{Contents}
use Rattle.vcpu_core.specs.State.{State}
use Rattle.hostile_host.specs.Answered.{Ran, run_of}
use Rattle.hostile_host.specs.Told.{IsRunOn, HasRun, IsFirst}

some_same : {X : Type 0} (x y : X) → Some x ≡ Some y → x ≡ y
some_same x y same = cc

-- the items that the trace gained
pub made_items : (t u : Told) (items before after : List Item) → t.trace ≡ Some before → u.trace ≡ Some after → Makes t items u → after ≡ before ++ items
made_items t u items before after first last makes =
    some_same after (before ++ items) (sym last ∙ ap (λ (w : Told). w.trace) makes.leaves ∙ trace-after_all t items before first)

answers : (image : Contents) (budget : ℕ) (s : State) (t u : Told) (words : List ℕ) → (run : HasRun image budget s t u) → IsPrefix (values_of run.runs.items) words → IsRunOn image budget s run.runs.items words
answers image budget s t u words run begins =
    let all = goes_taken (run_of image budget) run.runs.items _ words run.runs.goes begins in
    record {
      trace = ap (λ (k : Taken Ran). k.items) (sym all);
      cpu = ap (λ (k : Taken Ran). k.value.cpu) (sym all);
      end = run.ended ∙ ap (λ (k : Taken Ran). Some k.value.end) (sym all);
    }

-- the items are the trace on the words that came
pub told_run : (image : Contents) (budget : ℕ) (s : State) (t u : Told) (before after : List Item) → t.trace ≡ Some before → u.trace ≡ Some after → HasRun image budget s t u →
    (made : List Item) × (after ≡ before ++ made) × IsRunOn image budget s made (values_of made)
told_run image budget s t u before after first last run =
    (run.runs.items, made_items t u run.runs.items before after first last run.runs.makes, answers image budget s t u (values_of run.runs.items) run (begins_self (values_of run.runs.items)))

-- and on those that are ahead, where they are told
pub told_ahead : (image : Contents) (budget : ℕ) (s : State) (t u : Told) (before after : List Item) (ahead : Option (List ℕ)) → t.trace ≡ Some before → u.trace ≡ Some after → t.ahead ≡ ahead → HasRun image budget s t u →
    IfSome ahead (λ words. (made : List Item) × (after ≡ before ++ made) × IsRunOn image budget s made words)
told_ahead image budget s t u before after None first last is run = tt
told_ahead image budget s t u before after (Some words) first last is run = (
  run.runs.items,
  made_items t u run.runs.items before after first last run.runs.makes,
  answers image budget s t u words run (begins_ahead t run.runs.items words is run.runs.makes.gives),
)

-- the values that came are the first of the words that are ahead, where these are told
gives_ahead : (t u : Told) (before after items : List Item) (ahead : Option (List ℕ)) → t.trace ≡ Some before → u.trace ≡ Some after → t.ahead ≡ ahead → Makes t items u →
    IfSome ahead (λ words. (made : List Item) × (after ≡ before ++ made) × IsPrefix (values_of made) words)
gives_ahead t u before after items None first last is makes = tt
gives_ahead t u before after items (Some words) first last is makes =
    (items, made_items t u items before after first last makes, begins_ahead t items words is makes.gives)

-- whether the run was whole or not
pub values_ahead : (r : Result State AllocError) (image : Contents) (budget : ℕ) (t u : Told) (before after : List Item) (ahead : Option (List ℕ)) →
    t.trace ≡ Some before → u.trace ≡ Some after → t.ahead ≡ ahead → IfOk r (λ s. HasRun image budget s t u) → OnErr r (RunsPart (run_of image budget) t u) →
    IfSome ahead (λ words. (made : List Item) × (after ≡ before ++ made) × IsPrefix (values_of made) words)
values_ahead (Ok s) image budget t u before after ahead first last is run begun = gives_ahead t u before after run.runs.items ahead first last is run.runs.makes
values_ahead (Err e) image budget t u before after ahead first last is run begun = gives_ahead t u before after begun.items ahead first last is begun.makes

pub first_told : (image : Contents) (budget : ℕ) (t u : Told) (before after : List Item) → t.trace ≡ Some before → u.trace ≡ Some after → RunsPart (run_of image budget) t u →
    (made : List Item) × (after ≡ before ++ made) × IsFirst image budget made (values_of made)
first_told image budget t u before after first last begun = (
  begun.items,
  made_items t u begun.items before after first last begun.makes,
  opens_taken (run_of image budget) begun.items (values_of begun.items) begun.opens (begins_self (values_of begun.items)),
)

pub first_ahead : (image : Contents) (budget : ℕ) (t u : Told) (before after : List Item) (ahead : Option (List ℕ)) → t.trace ≡ Some before → u.trace ≡ Some after → t.ahead ≡ ahead → RunsPart (run_of image budget) t u →
    IfSome ahead (λ words. (made : List Item) × (after ≡ before ++ made) × IsFirst image budget made words)
first_ahead image budget t u before after None first last is begun = tt
first_ahead image budget t u before after (Some words) first last is begun = (
  begun.items,
  made_items t u begun.items before after first last begun.makes,
  opens_taken (run_of image budget) begun.items words begun.opens (begins_ahead t begun.items words is begun.makes.gives),
)

-- a clause of a refusal
pub on_err : {T E : Type 0} (r : Result T E) (P : Type 0) → P → OnErr r P
on_err (Ok v) P p = tt
on_err (Err e) P p = p
