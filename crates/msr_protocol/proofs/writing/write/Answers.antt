use Rattle.std.proofs.Common.{ℕ, ◌+◌, ◌*◌, ◌%◌, rules, arith}
use Rattle.word_bits.proofs.Joins.{or-low, or-two}
use Rattle.msr_protocol.proofs.writing.write.Goals as goal

pub returns-in-SevInfo-clause-word : goal.returns-in-SevInfo-clause-word
returns-in-SevInfo-clause-word c =
    let max : ℕ = c.from.result * 281474976710656 % 18446744073709551616 in
    let min : ℕ = c.from-in-SevInfo.result * 4294967296 % 18446744073709551616 in
    let c_bit : ℕ = c.from-in-SevInfo-2.result * 16777216 % 18446744073709551616 in
    rw (or-low 48 max min (omega arith) (omega arith))
    (rw (or-two 32 24 (max + min) c_bit 1 (omega arith) (omega arith) (omega arith) (omega arith)) (search rules))

pub returns-in-SevInfo-clause-reads_back : goal.returns-in-SevInfo-clause-reads_back
returns-in-SevInfo-clause-reads_back c = rw (returns-in-SevInfo-clause-word c) (search rules)

pub returns-in-CpuidRequest-clause-word : goal.returns-in-CpuidRequest-clause-word
returns-in-CpuidRequest-clause-word c =
    let fits = rw c.in-CpuidRequest.is at c.requires in
    let function : ℕ = c.from-in-CpuidRequest.result * 4294967296 % 18446744073709551616 in
    let register : ℕ = c.from-in-CpuidRequest-2.result * 1073741824 % 18446744073709551616 in
    rw (or-two 32 30 function register 4 (omega arith) (omega arith) (omega arith) (omega arith)) (search rules)

pub returns-in-CpuidRequest-clause-reads_back : goal.returns-in-CpuidRequest-clause-reads_back
returns-in-CpuidRequest-clause-reads_back c = rw (returns-in-CpuidRequest-clause-word c) (search rules)

pub returns-in-CpuidResponse-clause-word : goal.returns-in-CpuidResponse-clause-word
returns-in-CpuidResponse-clause-word c =
    let fits = rw c.in-CpuidResponse.is at c.requires in
    let value : ℕ = c.from-in-CpuidResponse.result * 4294967296 % 18446744073709551616 in
    let register : ℕ = c.from-in-CpuidResponse-2.result * 1073741824 % 18446744073709551616 in
    rw (or-two 32 30 value register 5 (omega arith) (omega arith) (omega arith) (omega arith)) (search rules)

pub returns-in-CpuidResponse-clause-reads_back : goal.returns-in-CpuidResponse-clause-reads_back
returns-in-CpuidResponse-clause-reads_back c = rw (returns-in-CpuidResponse-clause-word c) (search rules)

pub returns-in-Terminate-clause-word : goal.returns-in-Terminate-clause-word
returns-in-Terminate-clause-word c =
    let fits = rw c.in-Terminate.is at c.requires in
    let code : ℕ = c.from-in-Terminate.result * 65536 % 18446744073709551616 in
    let set : ℕ = c.from-in-Terminate-2.result * 4096 % 18446744073709551616 in
    rw (or-two 16 12 code set 0x100 (omega arith) (omega arith) (omega arith) (omega arith)) (search rules)

pub returns-in-Terminate-clause-reads_back : goal.returns-in-Terminate-clause-reads_back
returns-in-Terminate-clause-reads_back c = rw (returns-in-Terminate-clause-word c) (search rules)
