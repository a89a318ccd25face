use Rattle.std.proofs.Common.{◌≡◌, ◌∙◌, List, ℕ, ◌++◌, take, ap}
use Rattle.std.specs.Int.{bytes_low_first}
use Rattle.string_io.proofs.Runs.{number_bytes}
use Rattle.string_io.proofs.asking.push_number.Goals as goal

pub returns-then-len-le8 : goal.returns-then-len-le8
returns-then-len-le8 c =
    let all : c.to_le_bytes.result ≡ bytes_low_first 0 8 c.args.value = c.to_le_bytes.ensures in
    record {
      appended =
          c.extend_from_slice.ensures.appended
          ∙ ap (λ (bytes : List ℕ). c.args.bytes.now ++ bytes)
          (ap (λ n. take n c.to_le_bytes.result) c.from.ensures ∙ ap (λ (bytes : List ℕ). take c.args.len bytes) all ∙ number_bytes c.args.len c.args.value c.if-len-le8.true);
    }
