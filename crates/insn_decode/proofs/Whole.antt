-- The reader of an instruction decides what spells one.
use Rattle.std.proofs.Common.{◌≡◌, ℕ, ◌-◌, ◌≤◌, true, List, [], ◌∷◌, ◌++◌, length, Result, Ok, Err, refl, sym, ap, ◌∙◌, subst, inl, inr, arith, length-append}
use Rattle.std.specs.Prelude.{◌≢◌}
use Rattle.std.proofs.lemmas.List.{append-nil}
use Rattle.x86_base.specs.declared.insn.Insn.{Insn}
use Rattle.x86_base.specs.declared.row.Context.{Context}
use Rattle.x86_base.specs.declared.row.Row.{Row}
use Rattle.insn_decode.specs.declared.reader.Refusal.{Refusal}
use Rattle.insn_decode.specs.declared.reader.Refusal.TheVariants.{End}
use Rattle.x86_base.specs.ModRm.{allows}
use Rattle.x86_base.specs.Operands.{insn_of}
use Rattle.x86_base.specs.Spelling.{AreBytes, is_prefix, IsRex, IsTail, Spells, BeginsSpelling}
use Rattle.insn_decode.specs.Reading.{◌>>=◌, start, prefixes_at, rex_at, opcode_at, tail_at, instruction_at}
use Rattle.insn_decode.proofs.Decides.{front_bytes, bytes-append, Decides, Decides-short, Then, then_at, then_decides, Mapped, mapped, mapped_decides, bind_ok, bind_err, bind_assoc, bind_same, ok_is}
use Rattle.insn_decode.proofs.Opcode.{IsOpcode, opcode_decides}
use Rattle.insn_decode.proofs.Tail.{IsTailOf, tail_decides, tail_some}
use Rattle.insn_decode.proofs.Prefixes.{Starts, is_rex, with_rex, Rexed, rexed, rexed-nil, rexed_decides, marks, Prefixed, prefixed, prefixed_decides}
use Rattle.insn_decode.proofs.Starts.{opcode_starts, rex_free, prefix_free, rex_no_prefix, starts_append}
use Rattle.insn_decode.proofs.Contexts.{context_is}

record Parts : Type 0 where
  context : Context
  row : Row
  tail : List ℕ

abbrev parts : Context → Row → List ℕ → Parts
parts c r tail = record { context = c; row = r; tail = tail }

abbrev Body : Context → List ℕ → Parts → Type 0
Body c = Then (IsOpcode c) (λ r. Mapped (parts c r) (IsTailOf c r))

abbrev body_at : Context → List ℕ → Result (Parts × List ℕ) Refusal
body_at c = then_at (opcode_at c) (λ r. mapped (parts c r) (tail_at c r))

body_decides : (c : Context) → Decides (Body c) (body_at c)
body_decides c = then_decides (IsOpcode c) (λ (r : Row). Mapped (parts c r) (IsTailOf c r)) (opcode_at c) (λ (r : Row). mapped (parts c r) (tail_at c r))
    (opcode_decides c)
    (λ r. mapped_decides (parts c r) (IsTailOf c r) (tail_at c r) (tail_decides c r))
    (λ r s h. let k = tail_some c r in record { more = k.more; are_bytes = k.are_bytes; value = parts c r k.value; spelled = record { value = k.value; is = refl; spelled = k.spelled } })

body_starts : (c : Context) (s : List ℕ) (y : Parts) → Body c s y → Starts is_rex s
body_starts c s y h = starts_append is_rex h.left h.right s h.whole (opcode_starts is_rex refl rex_free h.left h.value h.first.is_row)

body_empty : (c : Context) → body_at c [] ≡ Err End
unfolding opcode_at
body_empty c = refl

rexed_starts : (c : Context) (s : List ℕ) (y : Parts) → Rexed Body c s y → Starts is_prefix s
rexed_starts c s y h = go h.rex h.is_rex h.rest h.whole h.spelled
  where
    go : (rex : List ℕ) → IsRex rex → (rest : List ℕ) → s ≡ rex ++ rest → Body (with_rex c rex) rest y → Starts is_prefix s
    go [] r rest e b = starts_append is_prefix b.left b.right s (e ∙ b.whole) (opcode_starts is_prefix refl prefix_free b.left b.value b.first.is_row)
    go (x ∷ []) r rest e b = record { first = x; rest = rest; is = e; other = rex_no_prefix x r }
    go (x ∷ k ∷ rex) r rest e b = absurd r

abbrev Whole : List ℕ → Parts → Type 0
Whole = Prefixed (Rexed Body) start

abbrev whole_at : List ℕ → Result (Parts × List ℕ) Refusal
whole_at = prefixed (rexed body_at) start

whole_decides : Decides Whole whole_at
whole_decides = prefixed_decides (Rexed Body) (rexed body_at)
    (rexed_decides Body body_at body_decides body_starts body_empty)
    rexed_starts
    (λ c. rexed-nil body_at c ∙ body_empty c)
    start

-- ---- what is decided is a spelling

abbrev spelled_insn : Parts → List ℕ → Insn
spelled_insn y s = insn_of y.context y.row y.tail (length s)

whole_spells : (s : List ℕ) (y : Parts) → AreBytes s → Whole s y → Spells s (spelled_insn y s)
whole_spells s y are h =
    let c = context_is h.prefixes h.spelled.rex h.are_prefixes in
    let b = h.spelled.spelled in
    let t = b.second in
    record {
      prefixes = h.prefixes;
      rex = h.spelled.rex;
      opcode = b.left;
      tail = b.right;
      row = b.value;
      are_bytes = are;
      are_prefixes = h.are_prefixes;
      is_rex = h.spelled.is_rex;
      is_row = b.first.is_row;
      is_allowed = subst (λ (c : Context). allows c b.value ≡ true) c b.first.is_allowed;
      is_tail = subst (λ (c : Context). IsTail c b.value b.right) c t.spelled.is_tail;
      whole = h.whole ∙ ap (λ (u : List ℕ). h.prefixes ++ u) (h.spelled.whole ∙ ap (λ (u : List ℕ). h.spelled.rex ++ u) b.whole);
      gives = ap (λ (y : Parts). spelled_insn y s) (t.is ∙ ap (parts (with_rex (marks start h.prefixes) h.spelled.rex) b.value) t.spelled.same) ∙ ap (λ (c : Context). insn_of c b.value b.right (length s)) c;
    }

spells_whole : (s : List ℕ) (insn : Insn) → Spells s insn → (y : Parts) × Whole s y × (insn ≡ spelled_insn y s)
spells_whole s insn h =
    let e = sym (context_is h.prefixes h.rex h.are_prefixes) in
    let c = with_rex (marks start h.prefixes) h.rex in (
      parts c h.row h.tail,
      record {
        prefixes = h.prefixes;
        rest = h.rex ++ (h.opcode ++ h.tail);
        whole = h.whole;
        are_prefixes = h.are_prefixes;
        spelled = record {
          rex = h.rex;
          rest = h.opcode ++ h.tail;
          whole = refl;
          is_rex = h.is_rex;
          spelled = record {
            left = h.opcode;
            right = h.tail;
            value = h.row;
            whole = refl;
            first = record { is_row = h.is_row; is_allowed = subst (λ (c : Context). allows c h.row ≡ true) e h.is_allowed };
            second = record { value = h.tail; is = refl; spelled = record { same = refl; is_tail = subst (λ (c : Context). IsTail c h.row h.tail) e h.is_tail } };
          };
        };
      },
      h.gives ∙ ap (λ (c : Context). insn_of c h.row h.tail (length s)) e,
    )

-- ---- the reader of the code

abbrev finished : List ℕ → (Parts × List ℕ) → Result Insn Refusal
finished bytes y = Ok (insn_of y.0.context y.0.row y.0.tail (length bytes - length y.1))

instruction_is : (bytes : List ℕ) → instruction_at bytes ≡ (whole_at bytes >>= finished bytes)
unfolding instruction_at
instruction_is bytes =
    let p = prefixes_at start bytes in
    let x = rex_at p.0 p.1 in
    sym (bind_assoc (opcode_at x.0 x.1) (λ (r : Row × List ℕ). mapped (parts x.0 r.0) (tail_at x.0 r.0) r.1) (finished bytes)
    ∙ bind_same (opcode_at x.0 x.1) (λ (r : Row × List ℕ). mapped (parts x.0 r.0) (tail_at x.0 r.0) r.1 >>= finished bytes) (λ (r : Row × List ℕ). tail_at x.0 r.0 r.1 >>= λ t. Ok (insn_of x.0 r.0 t.0 (length bytes - length t.1)))
    (λ r. bind_assoc (tail_at x.0 r.0 r.1) (λ (t : List ℕ × List ℕ). Ok (parts x.0 r.0 t.0, t.1)) (finished bytes)))

-- what the steps of the code leave
pub steps_leave : (bytes : List ℕ) (p x : Context × List ℕ) (r : Row × List ℕ) (t : List ℕ × List ℕ) →
    p ≡ prefixes_at start bytes → x ≡ rex_at p.0 p.1 → opcode_at x.0 x.1 ≡ Ok r → tail_at x.0 r.0 r.1 ≡ Ok t → (length t.1 ≤ length bytes) × IsTail x.0 r.0 t.0
steps_leave bytes p x r t ep ex er et =
    let q = prefixes_at start bytes in
    let z : x ≡ rex_at q.0 q.1 = ex ∙ ap (λ (p : Context × List ℕ). rex_at p.0 p.1) ep in
    let b : body_at x.0 x.1 ≡ Ok (parts x.0 r.0 t.0, t.1) =
    ap (λ (o : Result (Row × List ℕ) Refusal). o >>= λ (r : Row × List ℕ). mapped (parts x.0 r.0) (tail_at x.0 r.0) r.1) er
    ∙ ap (λ (o : Result (List ℕ × List ℕ) Refusal). o >>= λ (t : List ℕ × List ℕ). Ok (parts x.0 r.0 t.0, t.1)) et in
    let w : whole_at bytes ≡ Ok (parts x.0 r.0 t.0, t.1) = ap (λ (x : Context × List ℕ). body_at x.0 x.1) (sym z) ∙ b in
    let f = whole_decides.sound bytes t.1 (parts x.0 r.0 t.0) w in
    let g = (tail_decides x.0 r.0).sound r.1 t.1 t.0 et in
    (omega (arith, ap length f.split, length-append f.front t.1), subst (IsTail x.0 r.0) (sym g.spelled.same) g.spelled.is_tail)

-- what is read stands spelled at the front
pub record Found (bytes : List ℕ) (insn : Insn) : Type 0 where
  pub front : List ℕ
  pub rest : List ℕ
  pub split : bytes ≡ front ++ rest
  pub spelled : Spells front insn

pub instruction_found : (bytes : List ℕ) (insn : Insn) → AreBytes bytes → instruction_at bytes ≡ Ok insn → Found bytes insn
instruction_found bytes insn are e =
    let b = bind_ok (whole_at bytes) (finished bytes) insn (sym (instruction_is bytes) ∙ e) in
    let f = whole_decides.sound bytes b.0.1 b.0.0 b.1 in
    let len : length bytes - length b.0.1 ≡ length f.front = omega (arith, ap length f.split, length-append f.front b.0.1) in
    let is : spelled_insn b.0.0 f.front ≡ insn = ap (λ (n : ℕ). insn_of b.0.0.context b.0.0.row b.0.0.tail n) (sym len) ∙ ok_is _ _ b.2 in
    record { front = f.front; rest = b.0.1; split = f.split; spelled = subst (Spells f.front) is (whole_spells f.front b.0.0 (front_bytes f.front b.0.1 (subst AreBytes f.split are)) f.spelled) }

pub instruction_again : (front rest : List ℕ) (insn : Insn) → Spells front insn → instruction_at (front ++ rest) ≡ Ok insn
instruction_again front rest insn h =
    let w = spells_whole front insn h in
    let e = whole_decides.complete front rest w.0 w.1 in
    let len : length (front ++ rest) - length rest ≡ length front = omega (arith, length-append front rest) in
    instruction_is (front ++ rest) ∙ ap (λ (r : Result (Parts × List ℕ) Refusal). r >>= finished (front ++ rest)) e
    ∙ ap (λ (n : ℕ). Ok (insn_of w.0.context w.0.row w.0.tail n)) len ∙ ap (λ (i : Insn). Ok i) (sym w.2)

pub instruction_ends : (bytes : List ℕ) → AreBytes bytes → instruction_at bytes ≡ Err End → BeginsSpelling bytes
instruction_ends bytes are e =
    elim (bind_err (whole_at bytes) (finished bytes) End (sym (instruction_is bytes) ∙ e)) [
      | inl ended ↦
          let k = whole_decides.ends bytes ended in
          let s = whole_spells (bytes ++ k.more) k.value (bytes-append bytes k.more are k.are_bytes) k.spelled in
          record {
            more = k.more;
            insn = spelled_insn k.value (bytes ++ k.more);
            some = (λ none.
                let f : instruction_at bytes ≡ Ok (spelled_insn k.value (bytes ++ k.more)) = ap instruction_at (sym (append-nil bytes) ∙ ap (λ (t : List ℕ). bytes ++ t) (sym none) ∙ sym (append-nil (bytes ++ k.more))) ∙ instruction_again (bytes ++ k.more) [] _ s in
                let g = sym e ∙ f in cc);
            spelled = s;
          }
      | inr b ↦ absurd (let k = b.2 in cc)
    ]

-- before the end of a spelling the reader asks for more
longer_ends : (bytes more : List ℕ) (insn : Insn) → more ≢ [] → Spells (bytes ++ more) insn → instruction_at bytes ≡ Err End
longer_ends bytes more insn some h =
    let w = spells_whole (bytes ++ more) insn h in
    instruction_is bytes ∙ ap (λ (r : Result (Parts × List ℕ) Refusal). r >>= finished bytes) (Decides-short Whole whole_at whole_decides bytes more w.0 some w.1)

pub begins_ends : (bytes : List ℕ) → BeginsSpelling bytes → instruction_at bytes ≡ Err End
begins_ends bytes h = longer_ends bytes h.more h.insn h.some h.spelled

-- each byte list spells one instruction at most, and no spelling is a proper prefix of another
pub one_spelling : (a x : List ℕ) (m n : Insn) → Spells a m → Spells (a ++ x) n → (x ≡ []) × (m ≡ n)
one_spelling a x m n h k =
    let one = instruction_again a x m h in
    let other : instruction_at (a ++ x) ≡ Ok n = ap instruction_at (sym (append-nil (a ++ x))) ∙ instruction_again (a ++ x) [] n k in
    let e = ok_is m n (sym one ∙ other) in
    (no_more a x m n h k, e)
  where
    no_more : (a x : List ℕ) (m n : Insn) → Spells a m → Spells (a ++ x) n → x ≡ []
    no_more a [] m n h k = refl
    no_more a (b ∷ x) m n h k = absurd (
        let ended = longer_ends a (b ∷ x) n (λ e. cc) k in
        let one : instruction_at a ≡ Ok m = ap instruction_at (sym (append-nil a)) ∙ instruction_again a [] m h in
        let e = sym ended ∙ one in cc)
