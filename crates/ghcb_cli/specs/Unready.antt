-- Why there is nothing to run.
use Rattle.run_io.specs.declared.whole_file.ReadError.{ReadError}
use Rattle.run_io.specs.declared.whole_file.ReadError.TheVariants as read_error
use Rattle.ghcb_cli.specs.declared.files.Unready.{Unready}
use Rattle.ghcb_cli.specs.declared.files.Unready.TheVariants as unready
use Rattle.ghcb_cli.specs.declared.text.Refused.{Refused}

abbrev pub unready_of : ReadError → Unready
unready_of read_error.Failed = unready.ReadFault
unready_of read_error.OutOfMemory = unready.OutOfMemory

-- a refusal means `refused` of it, a failed read means `failed`
abbrev pub Explains : Unready → (Refused → Type 0) → Type 0 → Type 0
Explains (unready.Refused r) refused failed = refused r
Explains unready.ReadFault refused failed = failed
Explains unready.OutOfMemory refused failed = Unit {0}
