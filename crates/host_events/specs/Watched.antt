-- A host that is watched, and what it tells.
use Rattle.std.specs.Prelude.{ℕ, List, Some}
use Rattle.page_words.specs.Told.{Kept}
use Rattle.host_events.specs.Hosting.{Given, Hosting}

-- a host, and the pages that it was given
pub record Watched (H : Type 0) : Type 0 where
  pub host : H
  pub pages : List Given

abbrev pub given_of : ℕ × Kept → Given
given_of entry = record { vcpu = entry.0; page = entry.1 }

-- the pages are told here, and the rest as the host tells it
abbrev pub watching : {H : Type 0} → (H → Hosting) → Watched H → Hosting
watching told w = record (told w.host) { pages = Some w.pages }
