use Rattle.insn_decode.proofs.Window.{found_filled, slice_bytes}
use Rattle.insn_decode.proofs.decoder.decode_into.Goals as goal

pub returns-clause-found : goal.returns-clause-found
returns-clause-found c = found_filled c.decode_window.result c.args.bytes.now c.decode_window.new.into (slice_bytes c.args.bytes.now c.type_inv.bytes) c.decode_window.ensures
