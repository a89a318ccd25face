-- An element writes no code byte, so its instruction stays at RIP while elements are left.
use Rattle.std.proofs.lemmas.Bool.Decides.{nat_tests}
use Rattle.std.proofs.lemmas.List.{take-set-le}
use Rattle.std.proofs.Common.{◌≡◌, ℕ, zero, suc, ◌+◌, ◌-◌, ◌/◌, ◌%◌, ◌^◌, ◌≤◌, ◌==◌, List, take, drop, refl, ap, sym, ◌∙◌, arith, Bool, true, false, not, nat_le, nat_lt, slice_set, subst, Ok}
use Rattle.std.specs.Prelude.{◌&&◌, if◌then◌else◌}
use Rattle.x86_base.specs.declared.insn.Insn.{Insn}
use Rattle.x86_base.specs.declared.reg.Width.{Width}
use Rattle.x86_base.specs.Widths.{size_of}
use Rattle.insn_decode.specs.Reading.{decode_of}
use Rattle.image_file.specs.Number.{put_number}
use Rattle.image_file.specs.Ram.{code_bytes}
use Rattle.event_table.specs.declared.places.Place.TheVariants.{Bytes}
use Rattle.event_table.specs.Elements.{can_move, element_width, is_input, next_address}
use Rattle.event_table.specs.Places.{Vcpu}
use Rattle.event_table.specs.Plan.{Setting, apply}
use Rattle.guest_interp.specs.Stepping.{fetched, insn_at}
use Rattle.string_io.proofs.Along.{after_along, along, at_of, change, left_of, can_rest, CanPlace}

take_put : (n k at x : ℕ) (bytes : List ℕ) → k ≤ at → take k (put_number n at x bytes) ≡ take k bytes
take_put zero k at x bytes h = refl
take_put (suc n) k at x bytes h = take_put n k (at + 1) (x / 2 ^ 8) (slice_set bytes at (x % 2 ^ 8)) (omega arith) ∙ take-set-le k bytes at (x % 2 ^ 8) h

past_code : (a : Bool) (at code : ℕ) → (a && not (nat_lt at code)) ≡ true → code ≤ at
past_code true at code h = grind (arith, nat_tests)
past_code false at code h = absurd (cc)

code_by : (input rep : Bool) (w : Width) (at x next y rip : ℕ) (s : Setting) (v : Vcpu) → s.code ≡ v.ram.code → can_move input s (Bytes at w) ≡ true →
    code_bytes (apply (change input rep w at x next y rip) v).ram ≡ code_bytes v.ram
code_by true true w at x next y rip s v same can =
    let past : s.code ≤ at = past_code (nat_le (at + size_of w) s.ram) at s.code can in
    take_put (size_of w) v.ram.code at x v.ram.bytes (subst (λ c. c ≤ at) same past)
code_by true false w at x next y rip s v same can =
    let past : s.code ≤ at = past_code (nat_le (at + size_of w) s.ram) at s.code can in
    take_put (size_of w) v.ram.code at x v.ram.bytes (subst (λ c. c ≤ at) same past)
code_by false true w at x next y rip s v same can = refl
code_by false false w at x next y rip s v same can = refl

-- the code stays
element_spares : (i : Insn) (s : Setting) (n x : ℕ) (v : Vcpu) → CanPlace i s (suc n) v → code_bytes (along i s x v).ram ≡ code_bytes v.ram
element_spares i s n x v h =
    code_by (is_input i.op) i.rep (element_width i) (at_of i v) x (next_address s.df (size_of (element_width i)) (at_of i v)) (left_of i.rep v - 1) (if left_of i.rep v == 1 then s.next else s.rip) s v
    (sym (ap (λ (s : Setting). s.code) h.stands)) h.moves.0

-- and so does RIP, while an element is left
rip_stays : (i : Insn) (s : Setting) (n x : ℕ) (v : Vcpu) → CanPlace i s (suc (suc n)) v → (along i s x v).regs.rip ≡ v.regs.rip
rip_stays i s n x v h =
    let rest = can_rest i s (suc n) x v h in
    ap (λ (s : Setting). s.rip) rest.stands ∙ sym (ap (λ (s : Setting). s.rip) h.stands)

-- while elements are left, their instruction is at RIP
abbrev pub IsAt : Insn → ℕ → Vcpu → Type 0
IsAt i zero v = Unit {0}
IsAt i (suc n) v = insn_at v.ram v.regs.rip ≡ Ok i

pub at_rest : (i : Insn) (s : Setting) (n x : ℕ) (v : Vcpu) → CanPlace i s (suc n) v → insn_at v.ram v.regs.rip ≡ Ok i → IsAt i n (along i s x v)
at_rest i s zero x v h here = tt
at_rest i s (suc n) x v h here =
    let u : Vcpu = along i s x v in
    let a = after_along i s x v h.full in
    ap (λ rip. insn_at u.ram rip) (rip_stays i s n x v h)
    ∙ ap (λ code. fetched code v.regs.rip (decode_of (take 15 (drop v.regs.rip (code_bytes u.ram))))) a.same_code
    ∙ ap (λ (code : List ℕ). fetched v.ram.code v.regs.rip (decode_of (take 15 (drop v.regs.rip code)))) (element_spares i s (suc n) x v h)
    ∙ here
