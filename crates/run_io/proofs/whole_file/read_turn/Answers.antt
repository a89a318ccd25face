use Rattle.std.proofs.Common.{◌≡◌, ◌≤◌, ◌<◌, ◌+◌, ◌⊎◌, ◌∙◌, subst, sym, arith, inl, inr, IfSome, vec_len, ℕ, List}
use Rattle.run_io.specs.Reading.{IsRead, IsReading}
use Rattle.run_io.proofs.Filling.{is_reading_more, is_read_told}
use Rattle.run_io.proofs.whole_file.read_turn.Goals as goal
use Rattle.run_io.proofs.whole_file.read_turn.Goals.{then-n-eq0-via-then-n-eq0, then-n-eq0-via-else-n-eq0+then-more-limit}

pub returns-then-n-eq0-clause-bytes : goal.returns-then-n-eq0-clause-bytes
returns-then-n-eq0-clause-bytes g c =
    let folder = (g.F.Files.told c.args.files.now).folder in
    let name = c.args.name.now in
    let limit = c.args.limit in
    let filled = c.args.filled in
    let n = c.in_ok-n.n in
    let buffer = c.read_piece.new.buffer in
    let size : vec_len buffer ≡ vec_len c.make_room.new.buffer = c.in_ok-n.ensures.size in
    let most : vec_len c.make_room.new.buffer ≤ limit + 1 = c.in_ok-make_room.ensures.within in
    let room : filled < vec_len c.make_room.new.buffer = c.in_ok-make_room.ensures.room in
    let reading : IsReading folder name limit (filled + n) buffer.items = is_reading_more folder name limit filled n c.args.buffer.now.items buffer.items
    c.requires.reading (c.in_ok-n.ensures.kept ∙ c.in_ok-make_room.ensures.kept) (omega (arith, c.in_ok-n.ensures.bound)) (omega (arith, size, most)) c.in_ok-n.ensures.piece in
    let over : (n ≡ 0) ⊎ (limit < filled + n) = elim c.then-n-eq0.branch [
      | then-n-eq0-via-then-n-eq0 w ↦ inl (omega arith)
      | then-n-eq0-via-else-n-eq0+then-more-limit w ↦ inr (omega arith)
    ] in
    subst (λ (bytes : List ℕ). IfSome folder (λ f. IsRead f name limit bytes)) (sym {A = List ℕ} c.truncate.ensures.items)
    (is_read_told folder name limit filled n buffer.items (omega (arith, size, room)) reading c.in_ok-n.ensures.piece over)

pub returns-clause-reading : goal.returns-clause-reading
returns-clause-reading g c =
    let size : vec_len c.read_piece.new.buffer ≡ vec_len c.make_room.new.buffer = c.in_ok-n.ensures.size in
    let most : vec_len c.make_room.new.buffer ≤ c.args.limit + 1 = c.in_ok-make_room.ensures.within in
    is_reading_more (g.F.Files.told c.args.files.now).folder c.args.name.now c.args.limit c.args.filled c.in_ok-n.n c.args.buffer.now.items
    c.read_piece.new.buffer.items c.requires.reading (c.in_ok-n.ensures.kept ∙ c.in_ok-make_room.ensures.kept) (omega (arith, c.in_ok-n.ensures.bound)) (omega (arith, size, most))
    c.in_ok-n.ensures.piece
