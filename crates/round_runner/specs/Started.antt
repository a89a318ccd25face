-- What is known of the host of a run that memory was wanting for.
use Rattle.std.specs.Prelude.{◌≡◌, ◌⊎◌, ℕ, List}
use Rattle.image_file.specs.Image.{Contents}
use Rattle.host_events.specs.Hosting.{Hosting, HasStarted}

-- where a host was started, and served some pages since, it still was
abbrev pub StaysStarted : Hosting → Hosting → Type 0
StaysStarted old new =
    (vcpus : ℕ) (input : List ℕ) (h : Hosting) → HasStarted vcpus input h old → HasStarted vcpus input h new

-- the host is as before, or was started for the image over the input and served some pages since
abbrev pub IsAsBeforeOrStarted : Contents → List ℕ → Hosting → Hosting → Type 0
IsAsBeforeOrStarted image input old new = (new ≡ old) ⊎ HasStarted image.header.vcpus input old new
