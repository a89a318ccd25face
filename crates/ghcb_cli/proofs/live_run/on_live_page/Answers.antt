use Rattle.std.proofs.Common.{List, ℕ, Ok, Err, refl, subst}
use Rattle.run_io.specs.Outside.{FailsToRead}
use Rattle.ghcb_cli.specs.Files.{Holds, image_in}
use Rattle.ghcb_cli.specs.Unready.{Explains}
use Rattle.ghcb_cli.proofs.Endings.{live_ends, live_given_up}
use Rattle.ghcb_cli.proofs.live_run.on_live_page.Goals as goal

pub returns-in-Ok : goal.returns-in-Ok
returns-in-Ok g c =
    let old = g.F.Files.told c.args.files.now in
    record {
      ends = λ words host command named.
          live_ends words _ _ _ _ _ _ command refl
          (subst (λ (name : List ℕ). Holds old.folder image_in name (Ok c.in-Ok.image)) named c.in-Ok.ensures.image)
          c.run_image.ensures.ends;
    }

pub returns-in-Err : goal.returns-in-Err
returns-in-Err g c =
    let old = g.F.Files.told c.args.files.now in
    let new = g.F.Files.told c.image_of.new.files in
    record {
      ends = λ words host command named.
          live_given_up words _ _ c.in-Err.unready _ _ _ command refl
          (subst (λ (name : List ℕ). Explains c.in-Err.unready (λ r. Holds old.folder image_in name (Err r)) (FailsToRead name old new)) named c.in-Err.ensures.refused)
          c.report.ensures.ends;
    }
