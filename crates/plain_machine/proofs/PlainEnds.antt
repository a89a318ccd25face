-- No vCPU of the plain machine ends by a termination.
use Rattle.std.proofs.Common.{◌≡◌, ℕ, zero, suc, ◌+◌, Bool, true, false, List, [], ◌∷◌, Option, Some, None, refl, subst}
use Rattle.std.specs.Prelude.{◌==◌, slice_get, slice_set, option_and_then, option_map, if◌then◌else◌}
use Rattle.std.proofs.lemmas.Option.{same_Some}
use Rattle.image_file.specs.Image.{Contents}
use Rattle.event_table.specs.declared.end.End.{End}
use Rattle.event_table.specs.declared.end.End.TheVariants.{Terminated}
use Rattle.event_table.specs.declared.event.Event.{Event}
use Rattle.event_table.specs.declared.turn.Turn.{Turn}
use Rattle.event_table.specs.Ending.{IsOver}
use Rattle.event_table.specs.Lawful.{count_of}
use Rattle.guest_interp.specs.Ending.{IsUnterminated}
use Rattle.guest_interp.specs.Stepping.{Counted, Standstill, Waits, Ended, start_of}
use Rattle.guest_interp.proofs.Ended.{own_ends}
use Rattle.event_table.specs.Plan.{Moved}
use Rattle.plain_machine.specs.Ends.{AreUnterminated, RunsUnterminated}
use Rattle.plain_machine.specs.Plain.{Machine, first_stops, machine_at_start, event_done, item_where, item, along, all_ended, where_ended, ends_of}
use Rattle.plain_machine.specs.Single.{Accessed, singles}
use Rattle.plain_machine.proofs.Over.{singles_over}

abbrev AllUnterminated : List Standstill → Type 0
AllUnterminated [] = Unit {0}
AllUnterminated (stop ∷ stops) = IsUnterminated stop × AllUnterminated stops

one_more : (end : End) (c : Counted) (ends : List End) → IsUnterminated (Ended end c) → AreUnterminated ends → AreUnterminated (end ∷ ends)
one_more (Terminated reason) c ends own rest = own
one_more _ c ends own rest = rest

ends_unterminated : (stops : List Standstill) → AllUnterminated stops → AreUnterminated (ends_of stops)
ends_unterminated [] all = tt
ends_unterminated (Waits event c ∷ stops) all = ends_unterminated stops all.1
ends_unterminated (Ended end c ∷ stops) all = one_more end c (ends_of stops) all.0 (ends_unterminated stops all.1)

set_unterminated : (k : ℕ) (stops : List Standstill) (stop : Standstill) → AllUnterminated stops → IsUnterminated stop → AllUnterminated (slice_set stops k stop)
set_unterminated k [] stop all own = tt
set_unterminated zero (x ∷ xs) stop all own = (own, all.1)
set_unterminated (suc k) (x ∷ xs) stop all own = (all.0, set_unterminated k xs stop all.1 own)

first_unterminated : (image : Contents) (budget i n : ℕ) → AllUnterminated (first_stops image budget i n)
first_unterminated image budget i zero = tt
first_unterminated image budget i (suc n) = (own_ends.stop budget (start_of image i), first_unterminated image budget (i + 1) n)

-- an event whose accesses were done one after another
mapped_unterminated : (budget i : ℕ) (event : Event) (c : Counted) (m : Machine) (o : Option Accessed) (next : Machine) → AllUnterminated m.stops → ((a : Accessed) → o ≡ Some a → IsOver a.stands) →
    option_map (λ a. event_done budget i event c m a) o ≡ Some next → AllUnterminated next.stops
mapped_unterminated budget i event c m None next all over is = absurd (cc)
mapped_unterminated budget i event c m (Some a) next all over is =
    subst (λ (y : Machine). AllUnterminated y.stops) (same_Some _ _ is)
    (set_unterminated i m.stops _ all (own_ends.further budget (count_of event) c.steps a.stands (over a refl)))

counted_unterminated : (t : Bool) (budget i : ℕ) (event : Event) (c : Counted) (m : Machine) (o : Option Accessed) (next : Machine) → AllUnterminated m.stops → ((a : Accessed) → o ≡ Some a → IsOver a.stands) →
    (if t then option_map (λ a. event_done budget i event c m a) o else None) ≡ Some next → AllUnterminated next.stops
counted_unterminated true budget i event c m o next all over is = mapped_unterminated budget i event c m o next all over is
counted_unterminated false budget i event c m o next all over is = absurd (cc)

if_unterminated : (b : Bool) (x m : Machine) → AllUnterminated x.stops → (if b then Some x else None) ≡ Some m → AllUnterminated m.stops
if_unterminated true x m all is = subst (λ (y : Machine). AllUnterminated y.stops) (same_Some _ _ is) all
if_unterminated false x m all is = cc

item_unterminated : (image : Contents) (budget : ℕ) (turn : Turn) (m : Machine) (o : Option Standstill) (next : Machine) →
    AllUnterminated m.stops → item_where image budget turn o m ≡ Some next → AllUnterminated next.stops
item_unterminated image budget turn m (Some (Waits event c)) next all is =
    counted_unterminated (turn.count == count_of event) budget turn.vcpu event c m (singles image turn.vcpu turn.count (Moved c.vcpu) m.devices) next all
    (λ a made. singles_over image turn.vcpu turn.count (Moved c.vcpu) m.devices a tt made) is
item_unterminated image budget turn m (Some (Ended end c)) next all is = cc
item_unterminated image budget turn m None next all is = cc

then_unterminated : (image : Contents) (budget : ℕ) (order : List Turn) (o : Option Machine) (m : Machine) →
    ((next : Machine) → o ≡ Some next → AllUnterminated next.stops) →
    ((next : Machine) → AllUnterminated next.stops → along image budget order next ≡ Some m → AllUnterminated m.stops) →
    option_and_then (λ next. along image budget order next) o ≡ Some m → AllUnterminated m.stops
then_unterminated image budget order None m made rest is = cc
then_unterminated image budget order (Some next) m made rest is = rest next (made next refl) is

along_unterminated : (image : Contents) (budget : ℕ) (order : List Turn) (start m : Machine) → AllUnterminated start.stops → along image budget order start ≡ Some m → AllUnterminated m.stops
along_unterminated image budget [] start m all is = subst (λ (y : Machine). AllUnterminated y.stops) (same_Some _ _ is) all
along_unterminated image budget (turn ∷ order) start m all is =
    then_unterminated image budget order (item image budget start turn) m
    (λ next made. item_unterminated image budget turn start (slice_get start.stops turn.vcpu) next all made)
    (λ next so led. along_unterminated image budget order next m so led) is

ended_unterminated : (o : Option Machine) (m : Machine) → ((next : Machine) → o ≡ Some next → AllUnterminated next.stops) → option_and_then where_ended o ≡ Some m → AllUnterminated m.stops
ended_unterminated None m made is = cc
ended_unterminated (Some next) m made is = if_unterminated (all_ended next.stops) next m (made next refl) is

pub runs_unterminated : RunsUnterminated
runs_unterminated image budget input order m is =
    let start = machine_at_start image budget input in
    ends_unterminated m.stops
    (ended_unterminated (along image budget order start) m
    (λ next led. along_unterminated image budget order start next (first_unterminated image budget 0 image.header.vcpus) led) is)
