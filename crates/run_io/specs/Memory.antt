-- Files and a sink in memory.
use Rattle.std.specs.Prelude.{ℕ, ◌-◌, Bool, true, false, List, [], ◌∷◌, Option, Some, None, if◌then◌else◌, length, option_map, find, map}
use Rattle.std.specs.Str.{bytes_eq}
use Rattle.std.specs.String.{string_bytes}
use Rattle.run_io.specs.declared.mem_files.File.{File}
use Rattle.run_io.specs.declared.mem_files.MemFiles.{MemFiles}
use Rattle.run_io.specs.declared.mem_sink.MemSink.{MemSink}
use Rattle.run_io.specs.Outside.{FilesTold, SinkTold}

-- the bytes of the first file of that name
abbrev pub file_named : List File → List ℕ → Option (List ℕ)
file_named files name = option_map (λ f. f.bytes.items) (find (λ f. bytes_eq (string_bytes f.name) name) files)

abbrev pub is_empty : {X : Type 0} → List X → Bool
is_empty [] = true
is_empty (x ∷ xs) = false

abbrev pub folder_told : MemFiles → FilesTold
folder_told m = record {
  folder = Some (λ name. file_named m.files.items name);
  faults = m.faults;
  is_reliable = is_empty m.failing.items;
}

abbrev pub paper_told : MemSink → SinkTold
paper_told m = record {
  written = Some m.written.items;
  faults = m.faults;
  room = if is_empty m.failing.items then Some (m.room - length m.written.items) else None;
}

-- the files by their names and bytes, in the order in which they were added
abbrev pub files_in : MemFiles → List (List ℕ × List ℕ)
files_in m = map (λ f. (string_bytes f.name, f.bytes.items)) m.files.items

-- how long a read's piece may be, the numbers of the calls that fail, and the counts of calls and of faults
abbrev pub habits : MemFiles → ℕ × List ℕ × ℕ × ℕ
habits m = (m.most, m.failing.items, m.calls, m.faults)

-- a failing call's number, and how many bytes go out first
abbrev pub failures : MemSink → List (ℕ × ℕ)
failures m = map (λ f. (f.call, f.first)) m.failing.items

-- the room for bytes, and the counts of calls and of faults
abbrev pub counts : MemSink → ℕ × ℕ × ℕ
counts m = (m.room, m.calls, m.faults)
