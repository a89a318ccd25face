use Rattle.std.proofs.Common.{List, ℕ, Ok, refl, subst}
use Rattle.ghcb_cli.specs.Command.{command_word}
use Rattle.ghcb_cli.specs.Files.{Holds, AreRefused, AreUnread}
use Rattle.ghcb_cli.specs.Unready.{Explains}
use Rattle.ghcb_cli.proofs.Endings.{files_given_up}
use Rattle.ghcb_cli.proofs.commands.on_files.Goals as goal

pub returns-in-Ok : goal.returns-in-Ok
returns-in-Ok g c =
    let parts = (g.C.OnFiles.making c.args.command.now).parts in
    let old = g.F.Files.told c.args.files.now in
    record {
      ends = λ words command first other.
          c.run.ensures.ends words old (g.F.Files.told c.read_both.new.files) command
          (subst (λ (name : List ℕ). Holds old.folder parts.image name (Ok c.in-Ok.image)) first c.in-Ok.ensures.image)
          (subst (λ (name : List ℕ). Holds old.folder parts.second name (Ok (g.C.OnFiles.items c.in-Ok.second))) other c.in-Ok.ensures.second);
    }

pub returns-in-Err : goal.returns-in-Err
returns-in-Err g c =
    let parts = (g.C.OnFiles.making c.args.command.now).parts in
    let old = g.F.Files.told c.args.files.now in
    let new = g.F.Files.told c.read_both.new.files in
    record {
      ends = λ words command first other.
          files_given_up _ _ (g.met.C.OnFiles.made c.args.command.now) words c.in-Err.unready _ _ _ command refl
          (subst (λ (name : List ℕ). Explains c.in-Err.unready (λ r. AreRefused parts old.folder (command_word words 1) name r) (AreUnread parts (command_word words 1) name old new)) other
          (subst (λ (name : List ℕ). Explains c.in-Err.unready (λ r. AreRefused parts old.folder name c.args.second.now r) (AreUnread parts name c.args.second.now old new)) first
          c.in-Err.ensures.refused))
          c.report.ensures.ends;
    }
