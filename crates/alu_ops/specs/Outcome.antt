-- The result of each kind of operation of n-bit numbers, with its carry and overflow, and the flags after it.
use Rattle.std.specs.Prelude.{ℕ, pos, ◌+ℤ◌, ◌-ℤ◌, ◌*ℤ◌, ◌+◌, ◌-◌, ◌*◌, ◌/◌, ◌%◌, ◌^◌, false, ◌&&◌, if◌then◌else◌, ◌==◌, nat_lt, nat_le}
use Rattle.std.specs.Int.{int_div_euclid}
use Rattle.x86_base.specs.declared.flags.Flags.{Flags}
use Rattle.x86_base.specs.FlagsWord.{bit_at}
use Rattle.alu_ops.specs.declared.outcome.Outcome.{Outcome}
use Rattle.alu_ops.specs.Number.{signed, modulo, is_out_of_range, top_bit, is_even_parity, differ}

abbrev pub outcome_of_sum : ℕ → ℕ → ℕ → ℕ → Outcome
outcome_of_sum n a b c = record {
  value = modulo n (pos a +ℤ pos b +ℤ pos c);
  carry = nat_le (2 ^ n) (a + b + c);
  overflow = is_out_of_range n (signed n a +ℤ signed n b +ℤ pos c);
}

abbrev pub difference_of : ℕ → ℕ → ℕ → ℕ → Outcome
difference_of n a b c = record {
  value = modulo n (pos a -ℤ pos b -ℤ pos c);
  carry = nat_lt a (b + c);
  overflow = is_out_of_range n (signed n a -ℤ signed n b -ℤ pos c);
}

abbrev pub product_of : ℕ → ℕ → ℕ → Outcome
product_of n a b =
    let product = signed n a *ℤ signed n b in
    record { value = modulo n product; carry = is_out_of_range n product; overflow = is_out_of_range n product }

abbrev pub plain_of : ℕ → Outcome
plain_of value = record { value = value; carry = false; overflow = false }

-- the count of a shift
abbrev pub shift_count_of : ℕ → ℕ → ℕ
shift_count_of n b = b % (if n == 64 then 64 else 32)

-- past the width the carry is 0; the overflow is that of a count of 1
abbrev pub shl_of : ℕ → ℕ → ℕ → Outcome
shl_of n a c =
    let value = (a * 2 ^ c) % 2 ^ n in
    let carry = nat_le c n && bit_at a (n - c) in
    record { value = value; carry = carry; overflow = (c == 1) && differ (top_bit n value) carry }

abbrev pub shr_of : ℕ → ℕ → ℕ → Outcome
shr_of n a c = record {
  value = a / 2 ^ c;
  carry = nat_le c n && bit_at a (c - 1);
  overflow = (c == 1) && top_bit n a;
}

-- the quotient is rounded down; past the width the carry is the sign
abbrev pub sar_of : ℕ → ℕ → ℕ → Outcome
sar_of n a c = record {
  value = modulo n (int_div_euclid (signed n a) (pos (2 ^ c)));
  carry = (if nat_le c n then bit_at a (c - 1) else top_bit n a);
  overflow = false;
}

-- the flags after an outcome; the direction flag stays (APM volume 1, section 3.1.4)
abbrev pub flags_after : ℕ → Outcome → Flags → Flags
flags_after n o old = record old {
  cf = o.carry;
  pf = is_even_parity o.value;
  zf = o.value == 0;
  sf = top_bit n o.value;
  of = o.overflow;
}

-- the result, with all five flags set
abbrev pub all_set : ℕ → Flags → Outcome → ℕ × Flags
all_set n old o = (o.value, flags_after n o old)

-- the result, with all five flags set but the carry flag, which stays
abbrev pub carry_kept : ℕ → Flags → Outcome → ℕ × Flags
carry_kept n old o = (o.value, flags_after n (record o { carry = old.cf }) old)
