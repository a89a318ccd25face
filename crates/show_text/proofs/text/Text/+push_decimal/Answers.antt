use Rattle.std.proofs.Common.{◌≡◌, ◌∙◌, ap, sym, ◌+◌, ◌++◌, ◌/◌, ◌%◌, ◌^◌, ◌∷◌, [], ◌≤◌, ◌<◌, length, decimal, arith, length-append, ℕ, List}
use Rattle.std.proofs.lemmas.Fmt.{decimal_step, decimal_digit, decimal_nonempty}
use Rattle.show_text.proofs.Append.{then}
use Rattle.show_text.proofs.text.Text.+push_decimal.Goals.{then-number-ge10, else-number-ge10}
use Rattle.show_text.proofs.text.Text.+push_decimal.Goals as goal

-- one digit fewer
shorter : (n : ℕ) → 10 ≤ n → n < 2 ^ 64 → length (decimal (n / 10)) + 1 ≡ length (decimal n)
shorter n h small = omega (arith, ap length (decimal_step n h small), length-append (decimal (n / 10)) ((48 + n % 10) ∷ []))

pub push_decimal-requires : goal.push_decimal-requires
push_decimal-requires t c =
    let few = shorter c.args.number c.if-number-ge10.true c.ranges.number.fits in
    (omega arith, omega arith)

pub push_byte-requires : goal.push_byte-requires
push_byte-requires t c = elim c.if-number-ge10.branch [
  | then-number-ge10 w ↦
      let few = shorter c.args.number w.if-number-ge10.true c.ranges.number.fits in
      let sum = length-append c.args.self.now (decimal (c.args.number / 10)) in
      omega (arith, ap length (w.self-is ∙ w.push_decimal.ensures))
  | else-number-ge10 w ↦
      let some = decimal_nonempty c.args.number c.ranges.number.fits in
      omega (arith, ap length w.self-is)
]

last_digit : (old mid new : List ℕ) (n : ℕ) → n < 10 → mid ≡ old → new ≡ mid ++ (48 + n % 10) ∷ [] → new ≡ old ++ decimal n
last_digit old mid new n small same pushed =
    let digit : n % 10 ≡ n = omega arith in
    pushed
    ∙ ap (λ (xs : List ℕ). xs ++ (48 + n % 10) ∷ []) same
    ∙ ap (λ (d : ℕ). old ++ (48 + d) ∷ []) digit
    ∙ ap (λ (ys : List ℕ). old ++ ys) (sym (decimal_digit n small))

pub returns : goal.returns
returns t c = elim c.if-number-ge10.branch [
  | then-number-ge10 w ↦
      then c.args.self.now c.if-number-ge10.self c.push_byte.new.self (decimal (c.args.number / 10)) ((48 + c.args.number % 10) ∷ [])
      (w.self-is ∙ w.push_decimal.ensures) c.push_byte.ensures
      ∙ ap (λ (ys : List ℕ). c.args.self.now ++ ys) (sym (decimal_step c.args.number w.if-number-ge10.true c.ranges.number.fits))
  | else-number-ge10 w ↦
      last_digit c.args.self.now c.if-number-ge10.self c.push_byte.new.self c.args.number w.if-number-ge10.false w.self-is c.push_byte.ensures
]
