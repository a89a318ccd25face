-- A move that lies in RAM is private; one that reaches the page of devices stops as a private one, and asks.
use Rattle.std.proofs.Common.{◌≡◌, ℕ, Bool, true, false, not, ◌&&◌, nat_lt, if◌then◌else◌, Option, None, Some, [], ◌∷◌, map, refl, sym, ap, ◌∙◌}
use Rattle.std.proofs.lemmas.Bool.{and_parts}
use Rattle.x86_base.specs.declared.insn.Insn.{Insn}
use Rattle.x86_base.specs.declared.op.Op.{Op}
use Rattle.x86_base.specs.declared.op.Op.TheVariants as op
use Rattle.x86_base.specs.declared.reg.Width.{Width}
use Rattle.event_table.specs.declared.end.End.{End}
use Rattle.event_table.specs.declared.end.End.TheVariants.{Undecoded}
use Rattle.event_table.specs.declared.event.Event.{Event}
use Rattle.event_table.specs.declared.places.Place.{Place}
use Rattle.event_table.specs.declared.places.Place.TheVariants.{Bytes}
use Rattle.event_table.specs.Events.{asked_by, event_or, kind_at, port_at}
use Rattle.event_table.specs.Elements.{is_string}
use Rattle.event_table.specs.Moves.{is_device, is_from_page, is_move, is_to_page, from_page, move_of, to_page}
use Rattle.event_table.specs.Places.{Vcpu, is_readable, is_writable, number, read}
use Rattle.event_table.specs.Plan.{Plan, Ends, Setting, Stepped, Moved, Exits, Stops, event_asked, setting, stepped}
use Rattle.guest_interp.specs.Stepping.{stepped_by}
use Rattle.guest_interp.specs.Table.{alu_op_of, move, other_of, private_by, private_of, with_sign}
use Rattle.guest_interp.proofs.Going.{dst_of, src_of}

-- a private move that went
went : (readable writable : Bool) (v w : Vcpu) (p : Plan) (a b : End) →
    Moved w ≡ stepped v (if readable then (if writable then p else Ends b) else Ends a) → (readable ≡ true) × (writable ≡ true)
went true true v w p a b moved = (refl, refl)
went true false v w p a b moved = absurd (cc)
went false writable v w p a b moved = absurd (cc)

-- what can be written can be read
read_written : (ram code : ℕ) (p : Place) → is_writable ram code p ≡ true → is_readable ram p ≡ true
read_written ram code (Bytes at width) h = (and_parts (is_readable ram (Bytes at width)) (not (nat_lt at code)) h).0
read_written ram code _ h = refl

-- and what can be read lies in RAM
no_device : (ram : ℕ) (p : Place) → is_readable ram p ≡ true → is_device ram p ≡ false
no_device ram p is = rw is refl

both_false : (a b c d : Bool) (p q r : Plan) → a ≡ false → b ≡ false → (if a && c then p else if b && d then q else r) ≡ r
both_false false false c d p q r one other = refl
both_false true b c d p q r one other = absurd (cc)
both_false false true c d p q r one other = absurd (cc)

-- a move that went as a private one doesn't reach the page
stays : (i : Insn) (v w : Vcpu) (extend : ℕ → ℕ) (other : Plan) (A : Type 0) (f : Plan → A) (s : Setting) →
    Moved w ≡ stepped v (move i s extend) →
    f (if is_to_page s (dst_of i s v) (src_of i s v) then to_page i s (dst_of i s v) (src_of i s v)
    else if is_from_page s (dst_of i s v) (src_of i s v) then from_page i s (dst_of i s v) (src_of i s v) else other) ≡ f other
stays i v w extend other A f s moved =
    let dst = dst_of i s v in
    let src = src_of i s v in
    let tests = went (is_readable s.ram src) (is_writable s.ram s.code dst) v w _ _ _ moved in
    ap f (both_false (is_device s.ram dst) (is_device s.ram src) (is_readable s.ram src) (is_writable s.ram s.code dst) _ _ other
    (no_device s.ram dst (read_written s.ram s.code dst tests.1)) (no_device s.ram src tests.0))

-- how the value of a move is extended
abbrev extend_of : Op → Insn → ℕ → ℕ
extend_of op.Movsx i value = with_sign i value
extend_of _ i value = value

none_calculated : (o : Op) → is_move o ≡ true → alu_op_of o ≡ None
none_calculated op.Mov is = refl
none_calculated op.Movzx is = refl
none_calculated op.Movsx is = refl
none_calculated _ is = absurd (cc)

moves_other : (o : Op) (i : Insn) (s : Setting) → is_move o ≡ true → other_of o i s ≡ move i s (λ value. extend_of o i value)
moves_other op.Mov i s is = refl
moves_other op.Movzx i s is = refl
moves_other op.Movsx i s is = refl
moves_other _ i s is = absurd (cc)

-- the private plan of a move
moves_private : (i : Insn) (s : Setting) → is_move i.op ≡ true → private_of i s ≡ move i s (λ value. extend_of i.op i value)
moves_private i s is = ap (λ o. private_by o i s) (none_calculated i.op is) ∙ moves_other i.op i s is

no_kind : (o : Op) (width : Width) (port : ℕ) → kind_at o width 0 ≡ None → kind_at o width port ≡ None
no_kind op.Out width port none = absurd (cc)
no_kind op.In width port none = absurd (cc)
no_kind op.Cpuid width port none = absurd (cc)
no_kind op.Rdmsr width port none = absurd (cc)
no_kind op.Wrmsr width port none = absurd (cc)
no_kind op.Rdtsc width port none = absurd (cc)
no_kind op.Rdtscp width port none = absurd (cc)
no_kind op.Rdpmc width port none = absurd (cc)
no_kind op.Wbinvd width port none = absurd (cc)
no_kind op.Vmmcall width port none = absurd (cc)
no_kind _ width port none = refl

-- the plan of an instruction that exits for no event of registers, by whether it may reach the page
by_page : (string moves : Bool) (A : Type 0) (f : Plan → A) (p q r other : Plan) → string ≡ false → (moves ≡ true → f q ≡ f other) → f r ≡ f other →
    f (if string then p else if moves then q else r) ≡ f other
by_page true moves A f p q r other none one rest = absurd (cc)
by_page false true A f p q r other none one rest = one refl
by_page false false A f p q r other none one rest = rest

-- an instruction that went as a private one
pub went_private : (i : Insn) (v w : Vcpu) → is_string i.op ≡ false → kind_at i.op i.width 0 ≡ None →
    Moved w ≡ stepped v (private_of i (setting v i.len)) → (Moved w ≡ stepped_by i v) × (None ≡ asked_by i v)
went_private i v w string none moved =
    let s = setting v i.len in
    let kind = no_kind i.op i.width (number (map (read v) (port_at i.op i ∷ [])) 0) none in
    let extend : ℕ → ℕ = λ value. extend_of i.op i value in
    let as_move : is_move i.op ≡ true → Moved w ≡ stepped v (move i s extend) = λ is. moved ∙ ap (λ p. stepped v p) (moves_private i s is) in (
      moved ∙ sym (by_page (is_string i.op) (is_move i.op) Stepped (λ p. stepped v p) _ _ _ (private_of i s) string
          (λ is. stays i v w extend (private_of i s) Stepped (λ p. stepped v p) s (as_move is))
          (ap (λ k. stepped v (event_or (private_of i s) k s)) kind)),
      sym (by_page (is_string i.op) (is_move i.op) (Option Event) (λ p. event_asked v p) _ _ _ (Ends Undecoded) string
          (λ is. stays i v w extend (Ends Undecoded) (Option Event) (λ p. event_asked v p) s (as_move is))
          (ap (λ k. event_asked v (event_or (Ends Undecoded) k s)) kind)),
    )

as_move : (string moves : Bool) (p q r : Plan) → string ≡ false → moves ≡ true → (if string then p else if moves then q else r) ≡ q
as_move false true p q r none is = refl
as_move true moves p q r none is = absurd (cc)
as_move false false p q r none is = absurd (cc)

-- a plan that asks, whatever the private one is
asks_if : (t : Bool) (v : Vcpu) (p q r : Plan) (event : Event) → (event_asked v p ≡ Some event → stepped v p ≡ Exits event v)
    → (event_asked v q ≡ Some event → stepped v r ≡ Exits event v) → event_asked v (if t then p else q) ≡ Some event → stepped v (if t then p else r) ≡ Exits event v
asks_if true v p q r event one other asks = one asks
asks_if false v p q r event one other asks = other asks

same_event : (a b : Event) (v : Vcpu) → Some a ≡ Some b → Exits a v ≡ Exits b v
same_event a b v is = cc

-- a move that reaches the page asks its access
pub asks_outside : (i : Insn) (v : Vcpu) (event : Event) → is_string i.op ≡ false → is_move i.op ≡ true →
    Some event ≡ event_asked v (move_of i (setting v i.len) (Ends Undecoded)) → Exits event v ≡ stepped_by i v
asks_outside i v event string moves asks =
    let s = setting v i.len in
    let dst = dst_of i s v in
    let src = src_of i s v in
    let paged = asks_if (is_to_page s dst src) v (to_page i s dst src) _ _ event (λ is. same_event _ event v is)
    (λ from. asks_if (is_from_page s dst src) v (from_page i s dst src) (Ends Undecoded) (private_of i s) event (λ is. same_event _ event v is) (λ is. absurd (cc)) from) (sym asks) in
    sym (ap (λ p. stepped v p) (as_move (is_string i.op) (is_move i.op) _ _ _ string moves) ∙ paged)

none_if : (t : Bool) (v : Vcpu) (p q r other : Plan) → (event_asked v p ≡ None → ⊥) → (event_asked v q ≡ None → stepped v r ≡ stepped v other)
    → event_asked v (if t then p else q) ≡ None → stepped v (if t then p else r) ≡ stepped v other
none_if true v p q r other some rest none = absurd (some none)
none_if false v p q r other some rest none = rest none

-- any other instruction stops as a private one
pub stops_outside : (i : Insn) (v : Vcpu) (end : End) → is_string i.op ≡ false → kind_at i.op i.width 0 ≡ None
    → (is_move i.op ≡ true → None ≡ event_asked v (move_of i (setting v i.len) (Ends Undecoded)))
    → Stops end v ≡ stepped v (private_of i (setting v i.len)) → Stops end v ≡ stepped_by i v
stops_outside i v end string none nothing stops =
    let s = setting v i.len in
    let dst = dst_of i s v in
    let src = src_of i s v in
    let kind = no_kind i.op i.width (number (map (read v) (port_at i.op i ∷ [])) 0) none in
    stops ∙ sym (by_page (is_string i.op) (is_move i.op) Stepped (λ p. stepped v p) _ _ _ (private_of i s) string
    (λ is. none_if (is_to_page s dst src) v (to_page i s dst src) _ _ (private_of i s) (λ some. absurd (cc))
    (λ from. none_if (is_from_page s dst src) v (from_page i s dst src) (Ends Undecoded) (private_of i s) (private_of i s) (λ some. absurd (cc)) (λ _. refl) from) (sym (nothing is)))
    (ap (λ k. stepped v (event_or (private_of i s) k s)) kind))
