-- The exit codes of the events (AMD 56421, the non-automatic exits; APM volume 2, appendix C).
use Rattle.std.specs.Prelude.{ℕ, ◌==◌, List, [], ◌∷◌, Result}
use Rattle.std.specs.List.{find}
use Rattle.std.specs.Option.{ok_or}
use Rattle.exit_info.specs.declared.exit_code.ExitCode.{ExitCode}
use Rattle.exit_info.specs.declared.exit_code.ExitCode.TheVariants.{Rdtsc, Rdpmc, Cpuid, Io, Msr, Vmmcall, Rdtscp, Wbinvd, MmioRead, MmioWrite}
use Rattle.exit_info.specs.declared.exit_code.UnknownCode.{UnknownCode}

abbrev pub number_of_code : ExitCode → ℕ
number_of_code Rdtsc = 0x6E
number_of_code Rdpmc = 0x6F
number_of_code Cpuid = 0x72
number_of_code Io = 0x7B
number_of_code Msr = 0x7C
number_of_code Vmmcall = 0x81
number_of_code Rdtscp = 0x87
number_of_code Wbinvd = 0x89
number_of_code MmioRead = 0x80000001
number_of_code MmioWrite = 0x80000002

-- each event once, in the order of the codes
abbrev pub all_events : List ExitCode
all_events = Rdtsc ∷ Rdpmc ∷ Cpuid ∷ Io ∷ Msr ∷ Vmmcall ∷ Rdtscp ∷ Wbinvd ∷ MmioRead ∷ MmioWrite ∷ []

-- the event whose code a word is
abbrev pub exit_code_of : ℕ → Result ExitCode UnknownCode
exit_code_of word = ok_or (find (λ event. number_of_code event == word) all_events) (record { 0 = word })
