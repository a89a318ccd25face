-- SW_EXITINFO1 of port I/O in print (AMD 56421, IOIO_PROT).
use Rattle.std.specs.Prelude.{ℕ, if◌then◌else◌, List, [], ◌++◌, codes, Result, Ok, Err}
use Rattle.exit_info.specs.IoInfo.{info_of}
use Rattle.exit_info.specs.declared.io_info.IoInfo.{IoInfo}
use Rattle.exit_info.specs.declared.io_info.BadInfo.{BadInfo}
use Rattle.exit_info.specs.declared.io_info.BadInfo.TheVariants.{Reserved, BadSize, BadAddress}
use Rattle.show_text.specs.Number.{labelled, labelled_hex, line_end}

-- the direction, and whether the access is a string or repeated
abbrev pub kind_text : IoInfo → List ℕ
kind_text i =
    (if i.input then codes "in" else codes "out") ++ (if i.string then codes " string" else [])
    ++ (if i.rep then codes " rep" else [])

abbrev pub sizes_text : IoInfo → List ℕ
sizes_text i =
    labelled (codes " size ") i.size ++ labelled (codes " address ") i.address
    ++ labelled (codes " segment ") i.segment ++ labelled (codes " port ") i.port

abbrev pub bad_info_text : BadInfo → List ℕ
bad_info_text (Reserved word) = labelled_hex (codes "reserved ") word
bad_info_text (BadSize word) = labelled_hex (codes "bad size ") word
bad_info_text (BadAddress word) = labelled_hex (codes "bad address ") word

abbrev pub reading_text : Result IoInfo BadInfo → List ℕ
reading_text (Ok i) = kind_text i ++ sizes_text i
reading_text (Err bad) = bad_info_text bad

-- the line that tells which access a word describes
abbrev pub info_text : ℕ → List ℕ
info_text word = reading_text (info_of word) ++ line_end
