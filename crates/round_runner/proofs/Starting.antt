-- A started host stays one: what the calls of a run make of it.
use Rattle.std.proofs.Common.{◌≡◌, ℕ, List, Result, Ok, Err, inr, sym, subst}
use Rattle.std.specs.Prelude.{OnErr}
use Rattle.page_words.specs.Told.{Kept}
use Rattle.image_file.specs.Image.{Contents}
use Rattle.host_events.specs.Hosting.{Hosting, after_serve, HasStarted}
use Rattle.host_events.proofs.Serving.{has_served}
use Rattle.round_runner.specs.Started.{IsAsBeforeOrStarted, StaysStarted}

-- a host that was started for an image over an input
pub record WasStarted (image : Contents) (input : List ℕ) (old new : Hosting) : Type 0 where
  pub has : HasStarted image.header.vcpus input old new

-- a call that was refused
pub stays_same : (old new : Hosting) → new ≡ old → StaysStarted old new
stays_same old new same = λ vcpus input h started. subst (λ (x : Hosting). HasStarted vcpus input h x) (sym same) started

-- a page that was served
pub stays_serving : (i : ℕ) (page : Kept) (old new : Hosting) → new ≡ after_serve i page old → StaysStarted old new
stays_serving i page old new serves = λ vcpus input h started.
    subst (λ (x : Hosting). HasStarted vcpus input h x) (sym serves) (has_served vcpus i input page h old started)

-- one call after another
pub stays_then : (old between new : Hosting) → StaysStarted old between → StaysStarted between new → StaysStarted old new
stays_then old between new one two = λ vcpus input h started. two vcpus input h (one vcpus input h started)

-- whatever a call then answers
pub was_started : {X E : Type 0} (r : Result X E) (image : Contents) (input : List ℕ) (old new : Hosting) → WasStarted image input old new →
    OnErr r (IsAsBeforeOrStarted image input old new)
was_started (Ok x) image input old new started = tt
was_started (Err e) image input old new started = inr started.has

-- after some more calls
pub started_still : (image : Contents) (input : List ℕ) (first old new : Hosting) → WasStarted image input first old → StaysStarted old new → WasStarted image input first new
started_still image input first old new started stays = record { has = stays image.header.vcpus input first started.has }
