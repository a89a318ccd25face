use Rattle.std.proofs.Common.{rules, ◌≡◌, ℕ, List, [], length, inl, ap, ◌∙◌, subst}
use Rattle.image_file.specs.Image.{Contents}
use Rattle.image_file.specs.Made.{made_code}
use Rattle.report_text.specs.Summary.{summary_text}
use Rattle.round_runner.specs.Ran.{RanRounds}
use Rattle.ghcb_cli.specs.declared.commands.Ending.TheVariants as ending
use Rattle.ghcb_cli.specs.Ending.{PutsAs}
use Rattle.ghcb_cli.specs.MakeCommand.{make_steps, made_summary}
use Rattle.ghcb_cli.proofs.make_run.run_made.Goals as goal

pub returns : goal.returns
returns g c =
    let number = c.args.number in
    let f = c.in-Ok-run_rounds.finished in
    let after = g.H.Host.told c.run_rounds.new.host in
    let out = g.S.Sink.told in
    let code : c.code_len.result ≡ length (made_code number) =
    c.code_len.ensures.value ∙ ap (λ (image : Contents). image.header.code_len) c.in-Ok.ensures.image in
    let turns : c.len-turns.result ≡ length f.order.items = search rules in
    let console = c.console.result.now in
    let shown : c.as_bytes.result.now ≡ summary_text number c.code_len.result c.len-turns.result console =
    c.as_bytes.ensures.value ∙ c.in-Some.ensures.text in
    let text : c.as_bytes.result.now ≡ made_summary number f console =
    shown ∙ ap (λ (n : ℕ). summary_text number n c.len-turns.result console) code
    ∙ ap (λ (n : ℕ). summary_text number (length (made_code number)) n console) turns in
    record {
      ends =
          inl (
            f,
            c.console.result.now,
            record {
              ran = λ telling.
                  subst (λ (image : Contents). RanRounds image make_steps [] f after) c.in-Ok.ensures.image
                  (subst (λ (input : List ℕ). RanRounds c.in-Ok.image make_steps input f after) c.new.ensures.items (c.in-Ok-run_rounds.ensures.ran telling));
              shown = c.console.ensures.bytes;
            },
            subst (λ (t : List ℕ). PutsAs (ending.Made f) t (out c.args.out.now) (out c.put.new.out) c.put.result) text c.put.ensures.ends,
          );
    }
