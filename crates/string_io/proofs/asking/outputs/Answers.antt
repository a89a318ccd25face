use Rattle.std.proofs.Common.{rules, ◌≡◌, ◌+◌, ◌-◌, ◌++◌, List, length, false, true, arith, append_assoc, length-append, ap, subst, nat_le, ◌∙◌, ℕ, ◌*◌, ◌<◌, ◌≤◌, ◌^◌, take, drop, min, refl, sym}
use Rattle.std.specs.Prelude.{map}
use Rattle.x86_base.specs.Widths.{size_of}
use Rattle.event_table.specs.declared.places.Place.{Place}
use Rattle.event_table.specs.declared.places.Place.TheVariants.{Bytes}
use Rattle.event_table.specs.Elements.{bytes_in, can_move, element_width, movable}
use Rattle.event_table.specs.Places.{Vcpu, vcpu, read}
use Rattle.event_table.specs.Plan.{Setting, setting}
use Rattle.string_io.proofs.Runs.{movable_more, was_read, WasRead, length-bytes_of}
use Rattle.string_io.proofs.Upwards.{AreBytes, piece_bytes, piece_is, upward_bytes}
use Rattle.string_io.proofs.asking.outputs.Goals as goal

pub returns-then-not-regs-clause-data : goal.returns-then-not-regs-clause-data
returns-then-not-regs-clause-data c =
    let up : c.args.regs.now.flags.df ≡ false = search rules in
    let v : Vcpu = vcpu c.args.regs.now c.args.ram.now in
    let s : Setting = setting v c.args.insn.now.len in
    let w = element_width c.args.insn.now in
    let bytes = c.args.ram.now.bytes in
    let from = c.min.result in
    let count = c.count_upwards-count.result in
    let places = movable false w s c.args.most c.args.at in
    let size : c.from.result ≡ size_of w = c.from.ensures ∙ c.port_size-size.ensures.value in
    let small : s.ram < 2 ^ 63 = omega arith in
    let begins : from ≡ min c.args.at (length bytes) = c.min.ensures ∙ ap (λ n. min c.args.at n) c.size.ensures.value in
    let all : count * c.from.result ≡ length places * size_of w =
    ap (λ k. k * c.from.result) c.count_upwards-count.ensures.count ∙ ap (λ m. length places * m) size in
    let room : count * c.from.result ≤ length bytes - c.args.at =
    subst (λ m. count * m ≤ length bytes - c.args.at) (sym size) c.count_upwards-count.ensures.inside in
    let inside : from + count * c.from.result ≤ length bytes = omega (arith, room, begins) in
    let start : 0 < count * c.from.result → from ≡ c.args.at = λ some. omega (arith, room, begins, some) in
    let piece = c.bytes_at-piece.ensures.value in
    let fits = piece_bytes (count * c.from.result) c.args.at from bytes c.bytes_at-piece.result.now piece inside start c.each_fits.ensures.fits in
    let whole = upward_bytes w v s c.args.most c.args.at up refl small (subst (λ n. AreBytes n c.args.at bytes) all fits) in
    c.extend_from_slice.ensures.appended
    ∙ ap (λ (xs : List ℕ). xs ++ c.bytes_at-piece.result.now) c.requires.empty
    ∙ piece
    ∙ piece_is (count * c.from.result) c.args.at from bytes start
    ∙ ap (λ n. take n (drop c.args.at bytes)) all
    ∙ sym whole

pub loop-n-preserved : goal.loop-n-preserved
loop-n-preserved c =
    let v : Vcpu = vcpu c.args.regs.now c.args.ram.now in
    let s : Setting = setting v c.args.insn.now.len in
    let w = element_width c.args.insn.now in
    let size = c.port_size-size.result in
    let at = c.loop-n.element in
    let next = c.next_address-element.result in
    let m = c.args.most - (c.loop-n.n + 1) in
    let was : WasRead c.args.ram.now at size c.in-Ok.value = was_read c.args.ram.now at size c.in-Ok.value (cc (c.read.ensures.value, c.in-Ok.is)) in
    let can : can_move false s (Bytes at w) ≡ true = subst (λ n. nat_le (at + n) (length c.args.ram.now.bytes) ≡ true) c.port_size-size.ensures.value was.can in
    let e = movable_more (c.args.most - c.loop-n.n) m at next false w s (omega arith) can (cc) in
    let whole = subst (λ (ps : List Place). c.loop-n.bytes ++ bytes_in (size_of w) (map (read v) ps) ≡ bytes_in (size_of w) (map (read v) (movable false w s c.args.most c.args.at))) e c.loop-n.invariant.whole in
    record {
      count = omega (arith, ap (length {A = Place}) e);
      room = rw (c.push_number.ensures.appended, length-append, length-bytes_of, c.port_size-size.ensures.value) (grind arith);
      whole = rw (c.push_number.ensures.appended, append_assoc, was.value_is, c.port_size-size.ensures.value) whole;
    }
