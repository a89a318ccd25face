-- Runs of elements.
use Rattle.image_file.proofs.ByteOrder.{bytes_above}
use Rattle.std.specs.Int.{byte_at, bytes_low_first}
use Rattle.std.specs.Prelude.{nat_lt, not, ◌&&◌, Result, OnOk, IfErr}
use Rattle.std.proofs.Common.{List, take, ◌∙◌, ◌≤◌, arith, ◌≡◌, ℕ, zero, suc, ◌+◌, ◌/◌, ◌%◌, ◌^◌, [], ◌∷◌, length, refl, ap, Bool, true, false, cond, nat_le, Ok, Err}
use Rattle.x86_base.specs.declared.reg.Width.{Width}
use Rattle.x86_base.specs.Widths.{size_of}
use Rattle.image_file.specs.Number.{number_at, put_number}
use Rattle.image_file.specs.Ram.{Memory, read_at, write_at}
use Rattle.image_file.specs.declared.ram.RamFault.{RamFault}
use Rattle.image_file.specs.declared.ram.RamFault.TheVariants as ram_fault
use Rattle.image_file.specs.declared.ram.OutOfRam.{OutOfRam}
use Rattle.event_table.specs.declared.places.Place.TheVariants.{Bytes}
use Rattle.event_table.specs.Elements.{bytes_of, can_move, movable, next_address}
use Rattle.event_table.specs.Plan.{Setting}

pub bytes_more : (k m value : ℕ) → k ≡ suc m → bytes_of k value ≡ (value % 2 ^ 8) ∷ bytes_of m (value / 2 ^ 8)
bytes_more k m value e = rw e refl

pub length-bytes_of : (n value : ℕ) → length (bytes_of n value) ≡ n
length-bytes_of zero value = refl
length-bytes_of (suc n) value = ap suc (length-bytes_of n (value / 2 ^ 8))

-- the low bytes of a number are the first of all its bytes
low_bytes : (n value : ℕ) → bytes_low_first 0 n value ≡ bytes_of n value
low_bytes zero value = refl
low_bytes (suc n) value = rw (bytes_above n 0 value, low_bytes n (value / 256)) refl

first_bytes : (n m i value : ℕ) → n ≤ m → take n (bytes_low_first i m value) ≡ bytes_low_first i n value
first_bytes zero m i value few = refl
first_bytes (suc n) zero i value few = absurd (omega arith)
first_bytes (suc n) (suc m) i value few = ap (λ (bytes : List ℕ). byte_at i value ∷ bytes) (first_bytes n m (suc i) value (omega arith))

pub number_bytes : (n value : ℕ) → n ≤ 8 → take n (bytes_low_first 0 8 value) ≡ bytes_of n value
number_bytes n value few = first_bytes n 8 0 value few ∙ low_bytes n value

-- one element more, and none
pub movable_more : (k m at next : ℕ) (input : Bool) (w : Width) (s : Setting) → k ≡ suc m → can_move input s (Bytes at w) ≡ true → next ≡ next_address s.df (size_of w) at →
    movable input w s k at ≡ Bytes at w ∷ movable input w s m next
movable_more k m at next input w s e can f = rw (e, can, f) refl

pub movable_stops : (k m at : ℕ) (input : Bool) (w : Width) (s : Setting) → k ≡ suc m → can_move input s (Bytes at w) ≡ false → movable input w s k at ≡ []
movable_stops k m at input w s e can = rw (e, can) refl

pub movable_none : (k at : ℕ) (input : Bool) (w : Width) (s : Setting) → k ≡ zero → movable input w s k at ≡ []
movable_none k at input w s e = rw e refl

-- what a read says
pub record WasRead (m : Memory) (at n value : ℕ) : Type 0 where
  pub can : nat_le (at + n) (length m.bytes) ≡ true
  pub value_is : value ≡ number_at n at m.bytes

read_cases : (t : Bool) (x y : ℕ) (e : OutOfRam) → cond t (Ok y) (Err e) ≡ Ok x → (t ≡ true) × (x ≡ y)
read_cases true x y e h = (refl, cc)
read_cases false x y e h = absurd (cc)

pub was_read : (m : Memory) (at n value : ℕ) → read_at m at n ≡ Ok value → WasRead m at n value
was_read m at n value h =
    let r = read_cases (nat_le (at + n) (length m.bytes)) value (number_at n at m.bytes) (record { 0 = at }) h in
    record { can = r.0; value_is = r.1 }

unread_cases : (t : Bool) (y : ℕ) (e f : OutOfRam) → cond t (Ok y) (Err e) ≡ Err f → t ≡ false
unread_cases true y e f h = absurd (cc)
unread_cases false y e f h = refl

pub was_unread : (m : Memory) (at n : ℕ) (f : OutOfRam) → read_at m at n ≡ Err f → nat_le (at + n) (length m.bytes) ≡ false
was_unread m at n f h = unread_cases (nat_le (at + n) (length m.bytes)) (number_at n at m.bytes) (record { 0 = at }) f h

-- a write where all bytes lie in RAM behind the code
write_cases : (inside front : Bool) (m : Memory) (e f : RamFault) → (inside && not front) ≡ true → cond inside (cond front (Err e) (Ok m)) (Err f) ≡ Ok m
write_cases true true m e f can = absurd (cc)
write_cases true false m e f can = refl
write_cases false front m e f can = absurd (cc)

pub can_write : (m : Memory) (at n value : ℕ) → (nat_le (at + n) (length m.bytes) && not (nat_lt at m.code)) ≡ true →
    write_at m at n value ≡ Ok (record m { bytes = put_number n at value m.bytes })
can_write m at n value can = write_cases (nat_le (at + n) (length m.bytes)) (nat_lt at m.code) _ (ram_fault.CodeWrite at) (ram_fault.OutOfRam at) can

pub wrote : {A : Type 0} (m new : Memory) (at n value : ℕ) (result : Result A RamFault) → (nat_le (at + n) (length m.bytes) && not (nat_lt at m.code)) ≡ true
    → OnOk result (write_at m at n value ≡ Ok new) → IfErr result (λ fault. write_at m at n value ≡ Err fault) → new ≡ record m { bytes = put_number n at value m.bytes }
wrote m new at n value (Ok done) can written refused = let there = can_write m at n value can in cc
wrote m new at n value (Err fault) can written refused = let there = can_write m at n value can in absurd (cc)
