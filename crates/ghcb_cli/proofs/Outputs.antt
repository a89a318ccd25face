-- What a run prints.
use Rattle.std.proofs.Common.{◌≡◌, ℕ, Bool, true, false, List, [], Option, Some, length, sym, ap, ◌∙◌, subst}
use Rattle.std.specs.Prelude.{IfSome}
use Rattle.std.proofs.lemmas.Option.{same_Some}
use Rattle.image_file.specs.Image.{Contents}
use Rattle.image_file.specs.Made.{made_code, made_contents}
use Rattle.event_table.specs.declared.end.End.{End}
use Rattle.event_table.specs.declared.turn.Finished.{Finished}
use Rattle.event_table.specs.declared.turn.Turn.{Turn}
use Rattle.device_bus.specs.Devices.{Devices}
use Rattle.host_events.specs.Hosting.{Hosting}
use Rattle.run_io.specs.Outside.{wrote}
use Rattle.plain_machine.specs.Plain.{Machine, plain_run, rounds_machine, rounds_order, steps_of, ends_of}
use Rattle.report_text.specs.Report.{report_text}
use Rattle.report_text.specs.Summary.{summary_text}
use Rattle.ghcb_cli.specs.declared.command.Command.TheVariants.{Make}
use Rattle.ghcb_cli.specs.Command.{command_of}
use Rattle.ghcb_cli.specs.MakeCommand.{RunsMade, make_steps, made_summary}
use Rattle.ghcb_cli.specs.RunCommand.{Runs, run_text}
use Rattle.ghcb_cli.specs.Said.{output_of, report_of, summary_of, running}
use Rattle.round_runner.specs.Ran.{RanRounds}
use Rattle.plain_machine.specs.Ran.{RanPlain}
use Rattle.plain_machine.proofs.PlainRounds.{rounds_plain}

-- the machine of a run is that of all rounds
pub ran_machine : (image : Contents) (steps : ℕ) (input : List ℕ) (f : Finished) (h : Hosting) → (ran : RanRounds image steps input f h) → ran.ran.machine ≡ rounds_machine image steps input
ran_machine image steps input f h ran =
    same_Some _ _ (sym ran.ran.plain ∙ ap (λ (order : List Turn). plain_run image steps input order) ran.order ∙ (rounds_plain image steps input).0)

-- the console of the host is the output
pub console_output : (image : Contents) (steps : ℕ) (input : List ℕ) (f : Finished) (h : Hosting) (console : List ℕ) → (ran : RanRounds image steps input f h) →
    IfSome h.devices (λ d. console ≡ d.console) → console ≡ ran.ran.machine.devices.console
console_output image steps input f h console ran shown = subst (λ o. IfSome o (λ (d : Devices). console ≡ d.console)) ran.ran.devices shown

pub runs_written : (image : Contents) (steps : ℕ) (report : Bool) (input : List ℕ) (f : Finished) (h : Hosting) (console : List ℕ) (old new : Option (List ℕ)) →
    RanRounds image steps input f h → IfSome h.devices (λ d. console ≡ d.console) → new ≡ wrote old (run_text report console f) → Runs image input steps report f h old new
runs_written image steps report input f h console old new ran shown wrote_it = record {
  ran = ran;
  writes = wrote_it ∙ ap (λ (t : List ℕ). wrote old (run_text report t f)) (console_output image steps input f h console ran shown);
}

output_is : (image : Contents) (steps : ℕ) (input : List ℕ) (f : Finished) (h : Hosting) (console : List ℕ) → RanRounds image steps input f h →
    IfSome h.devices (λ d. console ≡ d.console) → console ≡ output_of image steps input
output_is image steps input f h console ran shown =
    console_output image steps input f h console ran shown ∙ ap (λ (m : Machine). m.devices.console) (ran_machine image steps input f h ran)

-- a run's report is that of the machine after all rounds
report_is : (image : Contents) (steps : ℕ) (input : List ℕ) (f : Finished) (h : Hosting) (console : List ℕ) → RanRounds image steps input f h →
    console ≡ output_of image steps input → report_text console f.order.items f.ends.items f.steps.items ≡ report_of image steps input
report_is image steps input f h console ran output =
    let machine = ran_machine image steps input f h ran in
    let ends : f.ends.items ≡ ends_of (rounds_machine image steps input).stops = ran.ran.ends ∙ ap (λ (m : Machine). ends_of m.stops) machine in
    let counted : f.steps.items ≡ steps_of (rounds_machine image steps input).stops = ran.ran.steps ∙ ap (λ (m : Machine). steps_of m.stops) machine in
    ap (λ (c : List ℕ). report_text c f.order.items f.ends.items f.steps.items) output
    ∙ ap (λ (o : List Turn). report_text (output_of image steps input) o f.ends.items f.steps.items) ran.order
    ∙ ap (λ (e : List End). report_text (output_of image steps input) (rounds_order image steps input) e f.steps.items) ends
    ∙ ap (λ (s : List ℕ). report_text (output_of image steps input) (rounds_order image steps input) (ends_of (rounds_machine image steps input).stops) s) counted

-- what is written of a run is what it is to say
pub output_shown : (image : Contents) (steps : ℕ) (report : Bool) (input : List ℕ) (f : Finished) (h : Hosting) (console : List ℕ) → RanRounds image steps input f h →
    IfSome h.devices (λ d. console ≡ d.console) → run_text report console f ≡ (running report steps).text image input
output_shown image steps false input f h console ran shown = output_is image steps input f h console ran shown
output_shown image steps true input f h console ran shown = report_is image steps input f h console ran (output_is image steps input f h console ran shown)

-- the console of the plain machine is the output
pub plain_output : (image : Contents) (steps : ℕ) (input : List ℕ) (f : Finished) (console : List ℕ) → RanPlain image steps input f console → console ≡ output_of image steps input
plain_output image steps input f console ran =
    let machine : ran.machine ≡ rounds_machine image steps input =
    same_Some _ _ (sym ran.plain ∙ ap (λ (order : List Turn). plain_run image steps input order) ran.order ∙ (rounds_plain image steps input).0) in
    ran.output ∙ ap (λ (m : Machine). m.devices.console) machine

pub made_written : (words : List (List ℕ)) (number : ℕ) (f : Finished) (h : Hosting) (console : List ℕ) (old new : Option (List ℕ)) → command_of words ≡ Some (Make number) → RanRounds (made_contents number) make_steps [] f h →
    IfSome h.devices (λ d. console ≡ d.console) → new ≡ wrote old (made_summary number f console) → RunsMade words f h old new
made_written words number f h console old new command ran shown wrote_it = record {
  number = number;
  command = command;
  ran = ran;
  writes = wrote_it ∙ ap (λ (t : List ℕ). wrote old (made_summary number f t)) (console_output (made_contents number) make_steps [] f h console ran shown);
}

-- the summary that is written is that of the machine after all rounds
pub summary_is : (number : ℕ) (f : Finished) (h : Hosting) (console : List ℕ) → RanRounds (made_contents number) make_steps [] f h →
    IfSome h.devices (λ d. console ≡ d.console) → made_summary number f console ≡ summary_of number
summary_is number f h console ran shown =
    let code = length (made_code number) in
    ap (λ (c : List ℕ). summary_text number code (length f.order.items) c) (output_is (made_contents number) make_steps [] f h console ran shown)
    ∙ ap (λ (o : List Turn). summary_text number code (length o) (output_of (made_contents number) make_steps [])) ran.order
