use Rattle.insn_decode.specs.Reading.{decode_of}
use Rattle.insn_decode.proofs.Window.{is_found, too_long, short, undecoded}
use Rattle.insn_decode.proofs.laws.read_by_spelling.Goals as goal

pub returns : goal.returns
unfolding decode_of
returns c = record { instruction = is_found; too_long = too_long; short = short; undecoded = undecoded }
