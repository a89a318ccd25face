-- What the program is to say, from what its parts found.
use Rattle.std.proofs.Common.{◌≡◌, ℕ, ◌⊎◌, Bool, true, false, inl, inr, List, [], Option, Some, None, Result, Ok, Err, refl, sym, ap, ◌∙◌}
use Rattle.std.specs.Prelude.{IfSome, IsSome, IsSomeAnd, option_map}
use Rattle.std.proofs.lemmas.Option.{same_Some}
use Rattle.image_file.specs.Image.{Contents}
use Rattle.answered_runs.specs.Answered.{answered_text}
use Rattle.host_events.specs.Hosting.{Hosting}
use Rattle.ghcb_cli.specs.declared.command.Command.{Command}
use Rattle.ghcb_cli.specs.declared.command.Command.TheVariants.{Run, Plain, Hostile, Live, Secret, ShowPage, ShowMsr, ShowInfo, Make}
use Rattle.ghcb_cli.specs.declared.text.Refused.{Refused}
use Rattle.ghcb_cli.specs.Command.{command_of, reading_by, reading_of, command_word, calls_host}
use Rattle.ghcb_cli.specs.Ending.{IsKnown, IsText}
use Rattle.ghcb_cli.specs.Files.{Folder, Holds, AreRefused, IsAbsent, IsFirstRefusal, image_in}
use Rattle.ghcb_cli.specs.Said.{Said, Making, IsMadeBy, running, answering, judging, said_with, said_of_files, said_of_image, said_on, said_by, said_over, said, summary_of, says_usage, says_refused, says_output, IsToEnd}
use Rattle.ghcb_cli.specs.Text.{usage}

pub made_by_run : (steps : ℕ) (report : Bool) → IsMadeBy (Run steps report) (running report steps)
made_by_run steps report = record { made = λ heard image second digits. refl; unread = λ digits. refl }

pub made_by_plain : (steps : ℕ) → IsMadeBy (Plain steps) (running false steps)
made_by_plain steps = record { made = λ heard image second digits. refl; unread = λ digits. refl }

pub made_by_script : (steps : ℕ) → IsMadeBy (Hostile steps) (answering steps)
made_by_script steps = record { made = λ heard image second digits. refl; unread = λ digits. refl }

pub made_by_secret : (steps : ℕ) → IsMadeBy (Secret steps) (judging steps)
made_by_secret steps = record { made = λ heard image second digits. refl; unread = λ digits. refl }

refusal_with : (m : Making) (j : Option (List ℕ)) (r : Refused) (i : Result Contents Refused) →
    (i ≡ Err r) ⊎ ((made : Contents) × (i ≡ Ok made) × (option_map m.parts.second j ≡ Some (Err r))) → said_with m j i ≡ Some (says_refused r)
refusal_with m j r i (inl refused) = ap (λ (x : Result Contents Refused). said_with m j x) refused
refusal_with m None r i (inr second) = let wrong : None ≡ Some (Err r) = second.2 in cc
refusal_with m (Some bytes) r i (inr second) =
    ap (λ (x : Result Contents Refused). said_with m (Some bytes) x) second.1
    ∙ ap (λ (x : Result (List ℕ) Refused). Some (said_over m second.0 x)) (same_Some _ _ second.2)

pub refusal_said : (m : Making) (i j : Option (List ℕ)) (r : Refused) → IsFirstRefusal r (option_map m.parts.image i) (option_map m.parts.second j) → said_of_files m i j ≡ Some (says_refused r)
refusal_said m None j r (inl first) = let wrong : None ≡ Some (Err r) = first in cc
refusal_said m None j r (inr second) = let wrong : None ≡ Some (Ok second.0) = second.1 in cc
refusal_said m (Some bytes) j r (inl first) = refusal_with m j r (m.parts.image bytes) (inl (same_Some _ _ first))
refusal_said m (Some bytes) j r (inr second) = refusal_with m j r (m.parts.image bytes) (inr (second.0, same_Some _ _ second.1, second.2))

pub absent_said : (m : Making) (i j : Option (List ℕ)) → IsAbsent (option_map m.parts.image i) (option_map m.parts.second j) → said_of_files m i j ≡ None
absent_said m None j absent = refl
absent_said m (Some bytes) j (inl none) = let wrong : Some (m.parts.image bytes) ≡ None = none in cc
absent_said m (Some bytes) None (inr second) = ap (λ (x : Result Contents Refused). said_with m None x) (same_Some _ _ second.1)
absent_said m (Some bytes) (Some more) (inr second) = let wrong : Some (m.parts.second more) ≡ None = second.2 in cc

pub output_said : (m : Making) (i j : Option (List ℕ)) (image : Contents) (second : List ℕ) →
    option_map m.parts.image i ≡ Some (Ok image) → option_map m.parts.second j ≡ Some (Ok second) → said_of_files m i j ≡ Some (says_output (m.text image second))
output_said m None j image second first other = let wrong : None ≡ Some (Ok image) = first in cc
output_said m (Some bytes) None image second first other = let wrong : None ≡ Some (Ok second) = other in cc
output_said m (Some bytes) (Some more) image second first other =
    ap (λ (x : Result Contents Refused). said_with m (Some more) x) (same_Some _ _ first)
    ∙ ap (λ (x : Result (List ℕ) Refused). Some (said_over m image x)) (same_Some _ _ other)

-- what is to be said is a function of the command
said_as : (heard : List ℕ) (folder : Folder) (words : List (List ℕ)) (c : Option Command) → command_of words ≡ c →
    said heard folder words ≡ said_by heard (folder (command_word words 1)) (folder (command_word words 2)) (command_word words 2) c
said_as heard folder words c command =
    ap (λ (x : Option Command). said_by heard (folder (command_word words 1)) (folder (command_word words 2)) (command_word words 2) x) command

said_files : (m : Making) (c : Command) → IsMadeBy c m → (heard : List ℕ) (folder : Folder) (words : List (List ℕ)) → command_of words ≡ Some c →
    said heard folder words ≡ said_of_files m (folder (command_word words 1)) (folder (command_word words 2))
said_files m c made heard folder words command =
    said_as heard folder words (Some c) command
    ∙ made.made heard (folder (command_word words 1)) (folder (command_word words 2)) (command_word words 2)

-- a refusal is what is to be said
pub first_refused : (m : Making) (c : Command) → IsMadeBy c m → (folder : Option Folder) (words : List (List ℕ)) (r : Refused) → command_of words ≡ Some c →
    AreRefused m.parts folder (command_word words 1) (command_word words 2) r → IfSome folder (λ f. (heard : List ℕ) → said heard f words ≡ Some (says_refused r))
first_refused m c made None words r command refusal = tt
first_refused m c made (Some f) words r command refusal = λ heard. said_files m c made heard f words command ∙ refusal_said m (f (command_word words 1)) (f (command_word words 2)) r refusal

-- where a file is absent there is nothing
pub none_said : (m : Making) (c : Command) → IsMadeBy c m → (folder : Option Folder) (words : List (List ℕ)) → command_of words ≡ Some c →
    IfSome folder (λ f. IsAbsent (option_map m.parts.image (f (command_word words 1))) (option_map m.parts.second (f (command_word words 2)))) → IfSome folder (λ f. (heard : List ℕ) → said heard f words ≡ None)
none_said m c made None words command absent = tt
none_said m c made (Some f) words command absent = λ heard. said_files m c made heard f words command ∙ absent_said m (f (command_word words 1)) (f (command_word words 2)) absent

-- the text of the run is
pub said_output : (m : Making) (c : Command) → IsMadeBy c m → (folder : Option Folder) (words : List (List ℕ)) (image : Contents) (second : List ℕ) → command_of words ≡ Some c →
    Holds folder m.parts.image (command_word words 1) (Ok image) → Holds folder m.parts.second (command_word words 2) (Ok second) →
    IfSome folder (λ f. (heard : List ℕ) → said heard f words ≡ Some (says_output (m.text image second)))
said_output m c made None words image second command first other = tt
said_output m c made (Some f) words image second command first other = λ heard.
    said_files m c made heard f words command ∙ output_said m (f (command_word words 1)) (f (command_word words 2)) image second first other

pub to_end : (folder : Option Folder) (words : List (List ℕ)) (s : Said) → IfSome folder (λ f. (heard : List ℕ) → said heard f words ≡ Some s) → IsToEnd folder words s.status
to_end None words s is = tt
to_end (Some f) words s is = λ heard. (s, is heard, refl)

pub no_command : {P : Type 0} (words : List (List ℕ)) (c : Command) → command_of words ≡ Some c → command_of words ≡ None → P
no_command words c command none = let wrong : Some c ≡ None = sym command ∙ none in cc

-- a command that runs an image over the host calls it
pub called : {P : Type 0} (words : List (List ℕ)) (c : Command) → command_of words ≡ Some c → calls_host (Some c) ≡ true → calls_host (command_of words) ≡ false → P
called words c command calls none =
    let wrong : true ≡ false = sym calls ∙ ap (λ (x : Option Command). calls_host x) (sym command) ∙ none in cc

pub no_reading : {P : Type 0} (words : List (List ℕ)) (c : Command) (reading : List ℕ) → ((digits : List ℕ) → reading_by digits (Some c) ≡ None) → command_of words ≡ Some c → reading_of words ≡ Some reading → P
no_reading words c reading unread command reads =
    let wrong : None ≡ Some reading = sym (ap (λ (x : Option Command). reading_by (command_word words 2) x) command ∙ unread (command_word words 2)) ∙ reads in cc

text_inside : (folder : Option Folder) (words : List (List ℕ)) (h : Hosting) (text : List ℕ) (s : Said) → IfSome folder (λ f. (heard : List ℕ) → said heard f words ≡ Some s) → (IsKnown words h s → text ≡ s.text) →
    IfSome folder (λ f. (heard : List ℕ) × (s : Said) × (said heard f words ≡ Some s) × (IsKnown words h s → text ≡ s.text))
text_inside None words h text s is same = tt
text_inside (Some f) words h text s is same = ([], s, is [], same)

-- the text of a command that is no reading
pub text_is : (c : Command) → ((digits : List ℕ) → reading_by digits (Some c) ≡ None) → (folder : Option Folder) (words : List (List ℕ)) (h : Hosting) (text : List ℕ) (s : Said) → command_of words ≡ Some c →
    IfSome folder (λ f. (heard : List ℕ) → said heard f words ≡ Some s) → (IsKnown words h s → text ≡ s.text) → IsText folder words h text
text_is c unread folder words h text s command is same = record {
  outside = λ none. no_command words c command none;
  shown = λ reading reads. no_reading words c reading unread command reads;
  inside = text_inside folder words h text s is same;
}

said_made : (folder : Option Folder) (words : List (List ℕ)) (number : ℕ) → command_of words ≡ Some (Make number) → IfSome folder (λ f. (heard : List ℕ) → said heard f words ≡ Some (says_output (summary_of number)))
said_made None words number command = tt
said_made (Some f) words number command = λ heard. said_as heard f words (Some (Make number)) command

-- the text of a made image's run
pub made_text : (folder : Option Folder) (words : List (List ℕ)) (h : Hosting) (number : ℕ) (text : List ℕ) → command_of words ≡ Some (Make number) →
    (IsKnown words h (says_output (summary_of number)) → text ≡ summary_of number) → IsText folder words h text
made_text folder words h number text command same = record {
  outside = λ none. no_command words (Make number) command none;
  shown = λ reading reads. no_reading words (Make number) reading (λ digits. refl) command reads;
  inside = text_inside folder words h text (says_output (summary_of number)) (said_made folder words number command) same;
}

pub made_is : (folder : Option Folder) (words : List (List ℕ)) (number : ℕ) → command_of words ≡ Some (Make number) → IsToEnd folder words 0
made_is folder words number command = to_end folder words (says_output (summary_of number)) (said_made folder words number command)

said_usage : (folder : Option Folder) (words : List (List ℕ)) → command_of words ≡ None → IfSome folder (λ f. (heard : List ℕ) → said heard f words ≡ Some says_usage)
said_usage None words none = tt
said_usage (Some f) words none = λ heard. said_as heard f words None none

-- words that ask for a reading are a command
no_words : {P : Type 0} (words : List (List ℕ)) (text : List ℕ) → reading_of words ≡ Some text → command_of words ≡ None → P
no_words words text reads none =
    let wrong : None ≡ Some text = ap (λ (c : Option Command). reading_by (command_word words 2) c) (sym none) ∙ reads in cc

-- the usage line is what is to be said of words that are no command
pub usage_text : (folder : Option Folder) (words : List (List ℕ)) (h : Hosting) → command_of words ≡ None → IsText folder words h usage
usage_text folder words h none = record {
  outside = λ _. refl;
  shown = λ reading reads. no_words words reading reads none;
  inside = text_inside folder words h usage says_usage (said_usage folder words none) (λ known. refl);
}

pub usage_is : (folder : Option Folder) (words : List (List ℕ)) → command_of words ≡ None → IsToEnd folder words 2
usage_is folder words none = to_end folder words says_usage (said_usage folder words none)

shown_by : (heard : List ℕ) (i j : Option (List ℕ)) (digits text : List ℕ) (c : Option Command) → reading_by digits c ≡ Some text → said_by heard i j digits c ≡ Some (says_output text)
shown_by heard i j digits text None reads = cc
shown_by heard i j digits text (Some (Run steps report)) reads = cc
shown_by heard i j digits text (Some (Plain steps)) reads = cc
shown_by heard i j digits text (Some (Hostile steps)) reads = cc
shown_by heard i j digits text (Some (Live seed steps)) reads = cc
shown_by heard i j digits text (Some (Secret steps)) reads = cc
shown_by heard i j digits text (Some (Make number)) reads = cc
shown_by heard i j digits text (Some ShowPage) reads = ap (λ o. option_map (λ text. says_output text) o) reads
shown_by heard i j digits text (Some (ShowMsr word)) reads = ap (λ o. option_map (λ text. says_output text) o) reads
shown_by heard i j digits text (Some (ShowInfo word)) reads = ap (λ o. option_map (λ text. says_output text) o) reads

said_shown : (folder : Option Folder) (words : List (List ℕ)) (text : List ℕ) → reading_of words ≡ Some text → IfSome folder (λ f. (heard : List ℕ) → said heard f words ≡ Some (says_output text))
said_shown None words text reads = tt
said_shown (Some f) words text reads = λ heard. shown_by heard (f (command_word words 1)) (f (command_word words 2)) (command_word words 2) text (command_of words) reads

-- the text of a reading
pub shown_text : (folder : Option Folder) (words : List (List ℕ)) (h : Hosting) (text : List ℕ) → reading_of words ≡ Some text → IsText folder words h text
shown_text folder words h text reads = record {
  outside = λ none. no_words words text reads none;
  shown = λ reading also. same_Some _ _ (sym reads ∙ also);
  inside = text_inside folder words h text (says_output text) (said_shown folder words text reads) (λ known. refl);
}

-- a reading that was shown is what is to be said
pub shown_is : (folder : Option Folder) (words : List (List ℕ)) (text : List ℕ) → reading_of words ≡ Some text → IsToEnd folder words 0
shown_is folder words text reads = to_end folder words (says_output text) (said_shown folder words text reads)

-- the reading of a command
pub reading_is : (words : List (List ℕ)) (c : Command) (text : List ℕ) → command_of words ≡ Some c → reading_by (command_word words 2) (Some c) ≡ Some text → reading_of words ≡ Some text
reading_is words c text command reads = ap (λ (x : Option Command). reading_by (command_word words 2) x) command ∙ reads

-- what is to be said of a run on a page that another thread changes
said_live : (heard : List ℕ) (folder : Folder) (words : List (List ℕ)) (seed steps : ℕ) → command_of words ≡ Some (Live seed steps) →
    said heard folder words ≡ said_of_image (λ contents. answered_text contents steps heard) (folder (command_word words 1))
said_live heard folder words seed steps command = said_as heard folder words (Some (Live seed steps)) command

image_said : (text : Contents → List ℕ) (i : Option (List ℕ)) (r : Result Contents Refused) → option_map image_in i ≡ Some r → said_of_image text i ≡ Some (said_on text r)
image_said text None r is = let wrong : None ≡ Some r = is in cc
image_said text (Some bytes) r is = ap (λ (x : Result Contents Refused). Some (said_on text x)) (same_Some _ _ is)

-- its text, by the words that came
live_said : (folder : Option Folder) (words : List (List ℕ)) (seed steps : ℕ) (image : Contents) → command_of words ≡ Some (Live seed steps) → Holds folder image_in (command_word words 1) (Ok image) →
    IfSome folder (λ f. (heard : List ℕ) → said heard f words ≡ Some (says_output (answered_text image steps heard)))
live_said None words seed steps image command first = tt
live_said (Some f) words seed steps image command first = λ heard.
    said_live heard f words seed steps command ∙ image_said (λ contents. answered_text contents steps heard) (f (command_word words 1)) (Ok image) first

-- the refusal of its image
pub live_refused : (folder : Option Folder) (words : List (List ℕ)) (seed steps : ℕ) (r : Refused) → command_of words ≡ Some (Live seed steps) → Holds folder image_in (command_word words 1) (Err r) →
    IfSome folder (λ f. (heard : List ℕ) → said heard f words ≡ Some (says_refused r))
live_refused None words seed steps r command first = tt
live_refused (Some f) words seed steps r command first = λ heard.
    said_live heard f words seed steps command ∙ image_said (λ contents. answered_text contents steps heard) (f (command_word words 1)) (Err r) first

no_image : (text : Contents → List ℕ) (i : Option (List ℕ)) → (IsSome i → ⊥) → said_of_image text i ≡ None
no_image text None absent = refl
no_image text (Some bytes) absent = absurd (absent refl)

-- where its image is absent there is nothing
pub live_unsaid : (folder : Option Folder) (words : List (List ℕ)) (seed steps : ℕ) → command_of words ≡ Some (Live seed steps) → (IsSomeAnd folder (λ f. IsSome (f (command_word words 1))) → ⊥) →
    IfSome folder (λ f. (heard : List ℕ) → said heard f words ≡ None)
live_unsaid None words seed steps command absent = tt
live_unsaid (Some f) words seed steps command absent = λ heard.
    said_live heard f words seed steps command ∙ no_image (λ contents. answered_text contents steps heard) (f (command_word words 1)) absent

ends_well : (folder : Option Folder) (words : List (List ℕ)) (text : List ℕ → List ℕ) → IfSome folder (λ f. (heard : List ℕ) → said heard f words ≡ Some (says_output (text heard))) → IsToEnd folder words 0
ends_well None words text is = tt
ends_well (Some f) words text is = λ heard. (says_output (text heard), is heard, refl)

-- its run is to end well
pub live_is : (folder : Option Folder) (words : List (List ℕ)) (seed steps : ℕ) (image : Contents) → command_of words ≡ Some (Live seed steps) → Holds folder image_in (command_word words 1) (Ok image) →
    IsToEnd folder words 0
live_is folder words seed steps image command first = ends_well folder words (answered_text image steps) (live_said folder words seed steps image command first)

heard_inside : (folder : Option Folder) (words : List (List ℕ)) (h : Hosting) (text : List ℕ → List ℕ) (heard : List ℕ) → IfSome folder (λ f. (came : List ℕ) → said came f words ≡ Some (says_output (text came))) →
    IfSome folder (λ f. (came : List ℕ) × (s : Said) × (said came f words ≡ Some s) × (IsKnown words h s → text heard ≡ s.text))
heard_inside None words h text heard is = tt
heard_inside (Some f) words h text heard is = (heard, says_output (text heard), is heard, λ known. refl)

-- the text on the words that came
pub live_text : (folder : Option Folder) (words : List (List ℕ)) (h : Hosting) (seed steps : ℕ) (image : Contents) (heard : List ℕ) → command_of words ≡ Some (Live seed steps) →
    Holds folder image_in (command_word words 1) (Ok image) → IsText folder words h (answered_text image steps heard)
live_text folder words h seed steps image heard command first = record {
  outside = λ none. no_command words (Live seed steps) command none;
  shown = λ reading reads. no_reading words (Live seed steps) reading (λ digits. refl) command reads;
  inside = heard_inside folder words h (answered_text image steps) heard (live_said folder words seed steps image command first);
}

status_on : (text other : Contents → List ℕ) (r : Result Contents Refused) → (said_on text r).status ≡ (said_on other r).status
status_on text other (Ok image) = refl
status_on text other (Err refused) = refl

status_of_image : (text other : Contents → List ℕ) (i : Option (List ℕ)) (s t : Said) → said_of_image text i ≡ Some s → said_of_image other i ≡ Some t → s.status ≡ t.status
status_of_image text other None s t first second = let wrong : None ≡ Some s = first in cc
status_of_image text other (Some bytes) s t first second =
    ap (λ (x : Said). x.status) (sym (same_Some _ _ first)) ∙ status_on text other (image_in bytes) ∙ ap (λ (x : Said). x.status) (same_Some _ _ second)

status_by : (a b : List ℕ) (i j : Option (List ℕ)) (digits : List ℕ) (c : Option Command) (s t : Said) → said_by a i j digits c ≡ Some s → said_by b i j digits c ≡ Some t → s.status ≡ t.status
status_by a b i j digits None s t first second = ap (λ (x : Said). x.status) (same_Some _ _ (sym first ∙ second))
status_by a b i j digits (Some (Run steps report)) s t first second = ap (λ (x : Said). x.status) (same_Some _ _ (sym first ∙ second))
status_by a b i j digits (Some (Plain steps)) s t first second = ap (λ (x : Said). x.status) (same_Some _ _ (sym first ∙ second))
status_by a b i j digits (Some (Hostile steps)) s t first second = ap (λ (x : Said). x.status) (same_Some _ _ (sym first ∙ second))
status_by a b i j digits (Some (Secret steps)) s t first second = ap (λ (x : Said). x.status) (same_Some _ _ (sym first ∙ second))
status_by a b i j digits (Some (Live seed steps)) s t first second =
    status_of_image (λ contents. answered_text contents steps a) (λ contents. answered_text contents steps b) i s t first second
status_by a b i j digits (Some ShowPage) s t first second = ap (λ (x : Said). x.status) (same_Some _ _ (sym first ∙ second))
status_by a b i j digits (Some (ShowMsr word)) s t first second = ap (λ (x : Said). x.status) (same_Some _ _ (sym first ∙ second))
status_by a b i j digits (Some (ShowInfo word)) s t first second = ap (λ (x : Said). x.status) (same_Some _ _ (sym first ∙ second))
status_by a b i j digits (Some (Make number)) s t first second = ap (λ (x : Said). x.status) (same_Some _ _ (sym first ∙ second))

-- the words that came don't matter to the status
pub said_status : (a b : List ℕ) (folder : Folder) (words : List (List ℕ)) (s t : Said) → said a folder words ≡ Some s → said b folder words ≡ Some t → s.status ≡ t.status
said_status a b folder words s t first second = status_by a b (folder (command_word words 1)) (folder (command_word words 2)) (command_word words 2) (command_of words) s t first second
