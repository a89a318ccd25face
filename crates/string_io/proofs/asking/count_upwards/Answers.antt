use Rattle.std.proofs.Common.{◌≡◌, ◌∙◌, ℕ, ◌-◌, ◌*◌, ◌/◌, ◌<◌, ◌≤◌, ◌^◌, length, min, ap, arith, subst, sym}
use Rattle.x86_base.specs.Widths.{size_of}
use Rattle.event_table.specs.Elements.{element_width}
use Rattle.event_table.specs.Places.{vcpu}
use Rattle.event_table.specs.Plan.{Setting, setting}
use Rattle.string_io.proofs.Upwards.{upward_count, upward_room}
use Rattle.string_io.proofs.asking.count_upwards.Goals as goal

-- the count, by the values of the definitions
counted : (most size left room width : ℕ) (result : ℕ) → result ≡ min most (left / size) → left ≡ room → size ≡ width → result ≡ min most (room / width)
counted most size left room width result is left_is size_is = is ∙ ap (λ n. min most (n / size)) left_is ∙ ap (λ n. min most (room / n)) size_is

pub returns-clause-count : goal.returns-clause-count
returns-clause-count c =
    let s : Setting = setting (vcpu c.args.regs.now c.args.ram.now) c.args.insn.now.len in
    let w = element_width c.args.insn.now in
    let small : s.ram < 2 ^ 63 = omega arith in
    let room : c.saturating_sub.result ≡ s.ram - c.args.at = omega arith in
    counted c.args.most c.from-size.result c.saturating_sub.result (s.ram - c.args.at) (size_of w) c.min.result c.min.ensures room (c.from-size.ensures ∙ c.port_size.ensures.value)
    ∙ sym (upward_count w s c.args.most c.args.at c.requires.upwards small)

pub returns-clause-inside : goal.returns-clause-inside
returns-clause-inside c =
    let room : c.saturating_sub.result ≡ length c.args.ram.now.bytes - c.args.at = omega arith in
    let width = size_of (element_width c.args.insn.now) in
    let is = counted c.args.most c.from-size.result c.saturating_sub.result (length c.args.ram.now.bytes - c.args.at) width c.min.result c.min.ensures room (c.from-size.ensures ∙ c.port_size.ensures.value) in
    subst (λ n. n * width ≤ length c.args.ram.now.bytes - c.args.at) (sym is) (upward_room c.args.most (length c.args.ram.now.bytes - c.args.at) width)
