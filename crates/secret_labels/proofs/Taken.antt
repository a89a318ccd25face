-- Elements of string I/O, one after another.
use Rattle.std.proofs.Common.{◌≡◌, ◌∙◌, refl, ap, sym, ℕ, zero, suc, ◌+◌, ◌-◌, ◌/◌, ◌<◌, arith, Bool, true, false, ◌||◌, if◌then◌else◌, List, [], ◌∷◌, length, drop}
use Rattle.std.specs.Prelude.{◌==◌, min}
use Rattle.image_file.specs.Number.{number_at}
use Rattle.x86_base.specs.declared.insn.Insn.{Insn}
use Rattle.x86_base.specs.declared.reg.Reg.TheVariants.{Rdx}
use Rattle.x86_base.specs.declared.reg.Width.{Width}
use Rattle.x86_base.specs.declared.reg.Width.TheVariants.{B16, B64}
use Rattle.x86_base.specs.Widths.{size_of}
use Rattle.event_table.specs.declared.end.End.TheVariants.{BadAddress}
use Rattle.event_table.specs.declared.event.Event.TheVariants.{Many}
use Rattle.event_table.specs.declared.outcome.Reply.{Reply}
use Rattle.event_table.specs.declared.places.Place.{Place}
use Rattle.event_table.specs.declared.places.Place.TheVariants.{Bytes, Low}
use Rattle.event_table.specs.Elements.{block_of, block_with, can_move, counter, element, element_width, elements, is_input, movable, next_address, numbers_in, pointer, shown_of, string_places, taking}
use Rattle.event_table.specs.Places.{Vcpu, as_number, number, read}
use Rattle.event_table.specs.Plan.{Address, Asks, Ends, Looks, Named, Plan, Setting, apply, goes, onward}
use Rattle.secret_labels.specs.Cleared.{cleared}
use Rattle.secret_labels.specs.Labels.{Labels, Quiet, Uses, any, is_labelled, marked, noted, noted_after}

-- the elements from an address on that can be moved, at most so many
abbrev pub movable_from : Insn → Setting → ℕ → ℕ → List Place
movable_from i s n at = movable (is_input i.op) (element_width i) s n at

-- the first that can be moved, and the others
pub movable_more : (input : Bool) (w : Width) (s : Setting) (n at : ℕ) → 0 < n → can_move input s (Bytes at w) ≡ true →
    movable input w s n at ≡ Bytes at w ∷ movable input w s (n - 1) (next_address s.df (size_of w) at)
movable_more input w s zero at some can = absurd (omega arith)
movable_more input w s (suc n) at some can =
    let e : n ≡ suc n - 1 = omega arith in
    ap (λ b. if b then Bytes at w ∷ movable input w s n (next_address s.df (size_of w) at) else []) can
    ∙ ap (λ k. Bytes at w ∷ movable input w s k (next_address s.df (size_of w) at)) e

-- none can be moved
pub movable_none : (input : Bool) (w : Width) (s : Setting) (n at : ℕ) → can_move input s (Bytes at w) ≡ false → movable input w s n at ≡ []
movable_none input w s zero at not = refl
movable_none input w s (suc n) at not = ap (λ b. if b then Bytes at w ∷ movable input w s n (next_address s.df (size_of w) at) else []) not

or_false : (b : Bool) → (b || false) ≡ b
or_false true = refl
or_false false = refl

or_true : (b : Bool) → (b || true) ≡ true
or_true true = refl
or_true false = refl

-- one that has no label is passed
pub any_passed : (l : Labels) (place : Place) (places : List Place) → is_labelled l place ≡ false → any l (place ∷ places) ≡ any l places
any_passed l place places free = ap (λ b. any l places || b) free ∙ or_false (any l places)

pub any_found : (l : Labels) (place : Place) (places : List Place) → is_labelled l place ≡ true → any l (place ∷ places) ≡ true
any_found l place places on = ap (λ b. any l places || b) on ∙ or_true (any l places)

-- one is passed: the others stand from the next address on
pub passed : (i : Insn) (s : Setting) (n k at next : ℕ) → k < n → can_move (is_input i.op) s (Bytes at (element_width i)) ≡ true →
    next ≡ next_address s.df (size_of (element_width i)) at → movable_from i s (n - k) at ≡ Bytes at (element_width i) ∷ movable_from i s (n - (k + 1)) next
passed i s n k at next more can is =
    let less : n - k - 1 ≡ n - (k + 1) = omega arith in
    movable_more (is_input i.op) (element_width i) s (n - k) at (omega arith) can
    ∙ ap (λ m. Bytes at (element_width i) ∷ movable_from i s m (next_address s.df (size_of (element_width i)) at)) less
    ∙ ap (λ a. Bytes at (element_width i) ∷ movable_from i s (n - (k + 1)) a) (sym is)

-- what is taken of a reply, whatever the values are
abbrev pub Taken : Insn → Setting → ℕ → Type 0
Taken i s most =
    (v : Vcpu) (l : Labels) (at left : ℕ) (bytes : List ℕ) →
    let here = movable (is_input i.op) (element_width i) s most at in
    noted l v (taking i s at left (numbers_in (size_of (element_width i)) (length here) bytes)) ≡ Quiet (cleared i here l)

taken_if : (i : Insn) (s : Setting) (most : ℕ) → Taken i s most → (b : Bool) (v : Vcpu) (l : Labels) (at left : ℕ) (bytes : List ℕ) →
    let w = element_width i in
    let here = if b then Bytes at w ∷ movable (is_input i.op) w s most (next_address s.df (size_of w) at) else [] in
    noted l v (taking i s at left (numbers_in (size_of w) (length here) bytes)) ≡ Quiet (cleared i here l)
taken_if i s most rest false v l at left bytes = refl
taken_if i s most rest true v l at left bytes =
    let w = element_width i in
    let change = element i s at left (number_at (size_of w) 0 bytes) in
    rest (apply change v) (marked change l) (next_address s.df (size_of w) at) (left - 1) (drop (size_of w) bytes)

pub taken_labels : (i : Insn) (s : Setting) (most : ℕ) → Taken i s most
taken_labels i s zero v l at left bytes = refl
taken_labels i s (suc most) v l at left bytes =
    taken_if i s most (taken_labels i s most) (can_move (is_input i.op) s (Bytes at (element_width i))) v l at left bytes

-- the plan of a block, at the next element's address and with so many left, where it can be moved
abbrev pub block_at : Insn → Setting → ℕ → ℕ → Plan
block_at i s at left =
    let here = elements i s at left in
    Looks Named (Low Rdx B16 ∷ shown_of i here) (λ shown.
    Asks (Many (block_with i (length here) (number shown 0) (drop 1 shown))) (λ reply.
    taking i s at left (numbers_in (size_of (element_width i)) (length here) reply.bytes)))

abbrev pub block_if : Insn → Setting → ℕ → ℕ → Plan
block_if i s at left = if can_move (is_input i.op) s (Bytes at (element_width i)) then block_at i s at left else Ends (BadAddress at)

-- where so many are left
abbrev pub block_left : Insn → Setting → ℕ → Plan
block_left i s left =
    if left == 0 then goes (onward s)
    else Looks Address (Low (pointer (is_input i.op)) B64 ∷ []) (λ seen. block_if i s (number seen 0) left)

-- the labels after a block's reply, where nothing that it was asked by has one
pub replied : (i : Insn) (s : Setting) (v : Vcpu) (l m : Labels) (reply : Reply) (at left : ℕ) →
    any l (counter i.rep ∷ []) ≡ false → any l (Low (pointer (is_input i.op)) B64 ∷ []) ≡ false →
    as_number (read v (Low (pointer (is_input i.op)) B64)) ≡ at → as_number (read v (counter i.rep)) ≡ left →
    (left == 0) ≡ false → can_move (is_input i.op) s (Bytes at (element_width i)) ≡ true →
    any l (Low Rdx B16 ∷ shown_of i (elements i s at left)) ≡ false →
    m ≡ cleared i (elements i s at left) l → Quiet m ≡ noted_after reply l v (block_of i s)
replied i s v l m reply at left counted pointed at_is left_is some can silent is =
    let seen_at = as_number (read v (Low (pointer (is_input i.op)) B64)) in
    let seen_left = as_number (read v (counter i.rep)) in
    ap Quiet is
    ∙ sym (taken_labels i s (min left (2032 / size_of (element_width i))) v l at left reply.bytes)
    ∙ sym (ap (λ (b : Bool). if b then Uses Named else noted l v (taking i s at left (numbers_in (size_of (element_width i)) (length (elements i s at left)) reply.bytes))) silent)
    ∙ sym (ap (λ (b : Bool). noted_after reply l v (if b then block_at i s at left else Ends (BadAddress at))) can)
    ∙ sym (ap (λ (a : ℕ). noted_after reply l v (block_if i s a left)) at_is)
    ∙ sym (ap (λ (b : Bool). if b then Uses Address else noted_after reply l v (block_if i s seen_at left)) pointed)
    ∙ sym (ap (λ (b : Bool). noted_after reply l v (if b then goes (onward s) else Looks Address (Low (pointer (is_input i.op)) B64 ∷ []) (λ seen. block_if i s (number seen 0) left))) some)
    ∙ sym (ap (λ (n : ℕ). noted_after reply l v (block_left i s n)) left_is)
    ∙ sym (ap (λ (b : Bool). if b then Uses Address else noted_after reply l v (block_left i s seen_left)) counted)
