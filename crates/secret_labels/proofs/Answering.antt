-- What comes of an event, with labels.
use Rattle.std.proofs.Common.{◌≡◌, ℕ, zero, suc, ◌+◌, ◌-◌, ◌<◌, ◌≤◌, [], ◌∷◌, Option, None, Result, Ok, refl, sym, ap, ◌∙◌, subst, arith, List}
use Rattle.std.specs.Prelude.{IfSome}
use Rattle.x86_base.specs.declared.insn.Insn.{Insn}
use Rattle.page_words.specs.declared.item.Item.{Item}
use Rattle.page_words.specs.declared.item.Item.TheVariants.{Store, Exit, Load, Msr}
use Rattle.page_words.specs.Told.{Told, HasRoom, Makes, told_after, told_after_all}
use Rattle.page_words.specs.Dialogue.{Runs, Reads, over, listen}
use Rattle.page_words.proofs.Dialogues.{runs_over, runs_say, runs_listen}
use Rattle.image_file.specs.Image.{Contents}
use Rattle.event_table.specs.declared.end.End.{End}
use Rattle.event_table.specs.declared.end.End.TheVariants.{Terminated}
use Rattle.event_table.specs.declared.end.Reason.{Reason}
use Rattle.event_table.specs.declared.event.Event.{Event}
use Rattle.event_table.specs.declared.event.Event.TheVariants.{One, Many}
use Rattle.event_table.specs.declared.outcome.Outcome.{Outcome}
use Rattle.event_table.specs.declared.outcome.Outcome.TheVariants.{Terminate}
use Rattle.event_table.specs.declared.outcome.Reply.{Reply}
use Rattle.event_table.specs.Events.{exit_of}
use Rattle.event_table.specs.Lawful.{IsLawfulEvent, count_of}
use Rattle.event_table.specs.Places.{Vcpu}
use Rattle.event_table.specs.Plan.{Stepped, Moved, Exits, Stops, setting}
use Rattle.guest_interp.specs.Stepping.{Counted, at_count, exit_by, insn_at, step_of, Waits, Ended}
use Rattle.hostile_host.specs.Answered.{part_with}
use Rattle.hostile_host.proofs.Going.{values_of-wire}
use Rattle.vc_handler.specs.Accept.{accepting}
use Rattle.vc_handler.specs.Version.{farewell}
use Rattle.vc_handler.specs.Wire.{wire}
use Rattle.secret_labels.specs.declared.stepping.Met.{Met}
use Rattle.secret_labels.specs.declared.stepping.Met.TheVariants as met
use Rattle.secret_labels.specs.Following.{Met as Follow, Leaks, Stands, met_after, met_heard, met_of, met_within, noted_results, noted_step}
use Rattle.secret_labels.specs.Labels.{Labels, Noted, Uses, Quiet, noted_after}
use Rattle.secret_labels.specs.Marked.{IsLater, event_met}
use Rattle.secret_labels.specs.Notes.{as_met}

-- what the instruction at RIP notes of a reply
pub results_there : (reply : Reply) (l : Labels) (v : Vcpu) (i : Insn) → Ok i ≡ insn_at v.ram v.regs.rip →
    noted_after reply l v (exit_of i (setting v i.len)) ≡ noted_results reply l v
unfolding noted_results
results_there reply l v i is = ap (λ (r : Result Insn End). noted_after reply l v (exit_by r v)) is

-- STEPS

-- where it waits, so many steps are counted at least
abbrev IsAfter : ℕ → Follow → Type 0
IsAfter low (Stands l (Waits event c)) = low ≤ c.steps
IsAfter low (Stands l (Ended end c)) = Unit {0}
IsAfter low (Leaks steps kind) = Unit {0}

after_less : (low high : ℕ) (met : Follow) → low ≤ high → IsAfter high met → IsAfter low met
after_less low high (Stands l (Waits event c)) less h = omega (arith, h)
after_less low high (Stands l (Ended end c)) less h = tt
after_less low high (Leaks steps kind) less h = tt

step_after : (steps : ℕ) (n : Noted) (s : Stepped) (more : Labels → Counted → Follow) → ((m : Labels) (c : Counted) → IsAfter c.steps (more m c)) → IsAfter steps (met_after steps n s more)
step_after steps (Uses kind) s more h = tt
step_after steps (Quiet l) (Moved v) more h = after_less steps (steps + 1) (more l (at_count v (steps + 1))) (omega arith) (h l (at_count v (steps + 1)))
step_after steps (Quiet l) (Exits event v) more h = omega arith
step_after steps (Quiet l) (Stops end v) more h = tt

goes_after : (left : ℕ) (l : Labels) (c : Counted) → IsAfter c.steps (met_of left l c)
goes_after zero l c = tt
goes_after (suc left) l c = step_after c.steps (noted_step l c.vcpu) (step_of c.vcpu) (λ m gone. met_of left m gone) (λ m gone. goes_after left m gone)

later_by : (low : ℕ) (met : Met) (event : Event) (l : Labels) (c : Counted) → IsAfter (low + 1) (as_met met event l c) → IsLater met low c.steps
later_by low met.Waits event l c h = omega (arith, h)
later_by low (met.Leaks what) event l c h = tt
later_by low (met.Ends end) event l c h = tt

-- it went on from more steps
pub later_than : (low budget : ℕ) (met : Met) (event : Event) (l m : Labels) (c d : Counted) → as_met met event l c ≡ met_within budget m d → low < d.steps → IsLater met low c.steps
later_than low budget met event l m c d is more =
    later_by low met event l c (subst (λ (x : Follow). IsAfter (low + 1) x) (sym is)
    (after_less (low + 1) d.steps (met_within budget m d) (omega (arith, more)) (goes_after (budget - d.steps) m d)))

-- a lawful event has an access, and at most 2,032
pub some_counted : (event : Event) → IsLawfulEvent event → 1 ≤ count_of event
some_counted (One access) lawful = omega arith
some_counted (Many block) lawful = lawful.count.0

-- THE END OF THE COMMUNICATION

pub parts : {X : Type 0} → (reason : Reason) (x : X) (t u : Told) → Makes t (Exit (farewell reason) ∷ []) u → Runs (part_with reason x) x t u
parts reason x t u makes = runs_say (Exit (farewell reason) ∷ []) (over x) x t u u refl makes (runs_over x u)

pub settles_end : (image : Contents) (budget : ℕ) (m : Labels) (c : Counted) (event : Event) (outcome : Outcome) (reason : Reason) (t u : Told) → outcome ≡ Terminate reason →
    Makes t (Exit (farewell reason) ∷ []) u → Runs (met_heard image budget m c event outcome) (Stands m (Ended (Terminated reason) c)) t u
settles_end image budget m c event outcome reason t u is makes =
    subst (λ (o : Outcome). Runs (met_heard image budget m c event o) (Stands m (Ended (Terminated reason) c)) t u) (sym is) (parts reason (Stands m (Ended (Terminated reason) c)) t u makes)

-- NO ROOM IS TOLD

still_one : (item : Item) (t : Told) → t.spare ≡ None → (told_after t item).spare ≡ None
still_one (Store n v) t free = rw free refl
still_one (Exit v) t free = rw free refl
still_one (Load n v) t free = rw free refl
still_one (Msr v) t free = rw free refl

still : (items : List Item) (t : Told) → t.spare ≡ None → (told_after_all t items).spare ≡ None
still [] t free = free
still (item ∷ items) t free = still items (told_after t item) (still_one item t free)

makes_spare : (items : List Item) (t u : Told) → Makes t items u → u.spare ≡ (told_after_all t items).spare
makes_spare items t u makes = ap (λ (x : Told). x.spare) makes.leaves

pub unbounded : (items : List Item) (t u : Told) → t.spare ≡ None → Makes t items u → u.spare ≡ None
unbounded items t u free makes = makes_spare items t u makes ∙ still items t free

-- so there is room
pub has_room : (n : ℕ) (t : Told) → t.spare ≡ None → HasRoom t n
has_room n t free = subst (λ (o : Option ℕ). IfSome o (λ s. n ≤ s)) (sym free) tt

-- AN EVENT

pub event_runs : (image : Contents) (budget : ℕ) (m : Labels) (c : Counted) (event : Event) (outcome : Outcome) (met : Follow) (t u v w : Told) → Makes t (wire 0 event) u →
    Reads (accepting event) outcome u v → Runs (met_heard image budget m c event outcome) met v w → Runs (event_met image budget m c event) met t w
event_runs image budget m c event outcome met t u v w makes reads settles =
    runs_say (wire 0 event) (listen (accepting event) (λ o. met_heard image budget m c event o)) met t u w (values_of-wire 0 event) makes
    (runs_listen (accepting event) (λ o. met_heard image budget m c event o) outcome met u v w reads settles)
