use Rattle.std.proofs.Common.{◌≡◌, refl, ℕ, ◌+◌, ◌*◌, ◌%◌, ◌≤◌, Bool, true, false, arith}
use Rattle.word_bits.proofs.Joins.{or-low}
use Rattle.exit_info.proofs.Inverse.{info_of-word_of}
use Rattle.exit_info.specs.IoInfo.{flag}
use Rattle.exit_info.proofs.io_info.IoInfo.write.Goals as goal
use mir.Val.{bool_byte}

-- a flag is 0 or 1
bool_byte-flag : (b : Bool) → (bool_byte b ≡ flag b) × (flag b ≤ 1)
bool_byte-flag true = (refl, omega arith)
bool_byte-flag false = (refl, omega arith)

pub returns-clause-word : goal.returns-clause-word
returns-clause-word c =
    let rep_is = bool_byte-flag c.args.self.now.rep in
    let string_is = bool_byte-flag c.args.self.now.string in
    let input_is = bool_byte-flag c.args.self.now.input in
    let port : ℕ = c.from.result * 65536 % 18446744073709551616 in
    let segment : ℕ = c.from-2.result * 1024 % 18446744073709551616 in
    let address : ℕ = c.from-3.result * 128 % 18446744073709551616 in
    let size : ℕ = c.from-4.result * 16 % 18446744073709551616 in
    let rep : ℕ = c.from-5.result * 8 % 18446744073709551616 in
    let string : ℕ = c.from-6.result * 4 % 18446744073709551616 in
    rw (or-low 16 port segment (omega arith) (omega arith))
    (rw (or-low 10 (port + segment) address (omega arith) (omega arith))
    (rw (or-low 7 (port + segment + address) size (omega arith) (omega arith))
    (rw (or-low 4 (port + segment + address + size) rep (omega arith) (omega arith))
    (rw (or-low 3 (port + segment + address + size + rep) string (omega arith) (omega arith))
    (rw (or-low 2 (port + segment + address + size + rep + string) c.from-7.result (omega arith) (omega arith))
    (omega arith))))))

pub returns-clause-reads_back : goal.returns-clause-reads_back
returns-clause-reads_back c = rw (returns-clause-word c) (info_of-word_of c.args.self.now c.requires)
