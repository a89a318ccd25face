-- What the bytes of the program's files are: an image, an input or a script, or the first limit or rule that they break.
use Rattle.std.specs.Prelude.{◌≡◌, ◌⊎◌, ℕ, true, nat_lt, List, Option, Some, None, Result, Ok, Err, IfSome, option_map, if◌then◌else◌, length}
use Rattle.image_file.specs.declared.fault.ImageFault.{ImageFault}
use Rattle.image_file.specs.Image.{Contents, image_of}
use Rattle.script_file.specs.Lines.{script_of}
use Rattle.run_io.specs.Outside.{FilesTold, Rose}
use Rattle.ghcb_cli.specs.declared.text.Refused.{Refused}
use Rattle.ghcb_cli.specs.declared.text.Refused.TheVariants.{ImageLimit, Image, InputLimit, ScriptLimit, ScriptLine}

-- the most bytes of an image file, of an input and of a script
abbrev pub most_image : ℕ
most_image = 16777280

abbrev pub most_input : ℕ
most_input = 16777216

abbrev pub most_script : ℕ
most_script = 16777216

-- a folder by the bytes of its names
abbrev pub Folder : Type 0
Folder = List ℕ → Option (List ℕ)

-- where the folder is told, the file of that name has this part
abbrev pub Holds : {X : Type 0} → Option Folder → (List ℕ → Result X Refused) → List ℕ → Result X Refused → Type 0
Holds folder part name value = IfSome folder (λ f. option_map part (f name) ≡ Some value)

-- the bytes of a file, or its refusal where they are more than a limit
abbrev pub limited : ℕ → Refused → List ℕ → Result (List ℕ) Refused
limited most refused bytes = if nat_lt most (length bytes) then Err refused else Ok bytes

-- the first refusal, or what is made of the value
abbrev pub and_then : {X Y : Type 0} → (X → Result Y Refused) → Result X Refused → Result Y Refused
and_then make (Ok x) = make x
and_then make (Err refused) = Err refused

abbrev pub image_by : Result Contents ImageFault → Result Contents Refused
image_by (Ok image) = Ok image
image_by (Err fault) = Err (Image fault)

-- the image in a file's bytes, or the first limit or rule that they break
abbrev pub image_in : List ℕ → Result Contents Refused
image_in bytes = and_then (λ file. image_by (image_of file)) (limited most_image ImageLimit bytes)

-- the input in a file's bytes, or the limit that they break
abbrev pub input_in : List ℕ → Result (List ℕ) Refused
input_in bytes = limited most_input InputLimit bytes

abbrev pub script_by : Result (List ℕ) ℕ → Result (List ℕ) Refused
script_by (Ok words) = Ok words
script_by (Err line) = Err (ScriptLine line)

-- the words of a script in a file's bytes, or the limit that they break, or their first bad line
abbrev pub script_in : List ℕ → Result (List ℕ) Refused
script_in bytes = and_then (λ file. script_by (script_of file)) (limited most_script ScriptLimit bytes)

-- A refusal is the image's, or the second file's where there is an image.
abbrev pub IsFirstRefusal : Refused → Option (Result Contents Refused) → Option (Result (List ℕ) Refused) → Type 0
IsFirstRefusal r image second = (image ≡ Some (Err r)) ⊎ ((made : Contents) × (image ≡ Some (Ok made)) × (second ≡ Some (Err r)))

-- A file that is read is absent: the first, or the second where there is an image.
abbrev pub IsAbsent : Option (Result Contents Refused) → Option (Result (List ℕ) Refused) → Type 0
IsAbsent image second = (image ≡ None) ⊎ ((made : Contents) × (image ≡ Some (Ok made)) × (second ≡ None))

-- what is in two files: an image in the first, and another part in the second
pub record Parts : Type 0 where
  pub image : List ℕ → Result Contents Refused
  pub second : List ℕ → Result (List ℕ) Refused

abbrev pub run_parts : Parts
run_parts = record { image = image_in; second = input_in }

abbrev pub script_parts : Parts
script_parts = record { image = image_in; second = script_in }

-- where the folder is told, the files of these names are refused so
abbrev pub AreRefused : Parts → Option Folder → List ℕ → List ℕ → Refused → Type 0
AreRefused parts folder first second r = IfSome folder (λ f. IsFirstRefusal r (option_map parts.image (f first)) (option_map parts.second (f second)))

-- A read of one of the files failed; where it is told that none is to fail, one is absent.
pub record AreUnread (parts : Parts) (first second : List ℕ) (old new : FilesTold) : Type 0 where
  pub rose : Rose old.faults new.faults
  pub absent : old.is_reliable ≡ true → IfSome old.folder (λ f. IsAbsent (option_map parts.image (f first)) (option_map parts.second (f second)))
