-- The bytes before the opcode.
use Rattle.std.proofs.Common.{◌≡◌, ℕ, Bool, true, false, List, [], ◌∷◌, ◌++◌, Some, Result, Ok, Err, refl, sym, ap, ◌∙◌, inl, inr}
use Rattle.std.specs.List.{list_all}
use Rattle.x86_base.specs.declared.row.Context.{Context}
use Rattle.insn_decode.specs.declared.reader.Refusal.{Refusal}
use Rattle.insn_decode.specs.declared.reader.Refusal.TheVariants.{End, Never}
use Rattle.x86_base.specs.Spelling.{is_prefix, IsRex}
use Rattle.x86_base.specs.Table.{within}
use Rattle.insn_decode.specs.Reading.{marked, prefixes_at, rex_at}
use Rattle.insn_decode.proofs.Decides.{Front, Longer, Decides}
use Rattle.insn_decode.proofs.Tests.{bool_cases}

-- ---- REX

abbrev pub is_rex : ℕ → Bool
is_rex b = within 0x40 0x4F b

-- the first byte passes no such test
pub record Starts (test : ℕ → Bool) (s : List ℕ) : Type 0 where
  pub first : ℕ
  pub rest : List ℕ
  pub is : s ≡ first ∷ rest
  pub other : test first ≡ false

abbrev pub with_rex : Context → List ℕ → Context
with_rex c [] = c
with_rex c (b ∷ rest) = record c { rex = Some b }

pub record Rexed {B : Type 0} (Q : Context → List ℕ → B → Type 0) (c : Context) (s : List ℕ) (y : B) : Type 0 where
  pub rex : List ℕ
  pub rest : List ℕ
  pub whole : s ≡ rex ++ rest
  pub is_rex : IsRex rex
  pub spelled : Q (with_rex c rex) rest y

abbrev pub rexed : {B : Type 0} → (Context → List ℕ → Result (B × List ℕ) Refusal) → Context → List ℕ → Result (B × List ℕ) Refusal
rexed q c bytes = q (rex_at c bytes).0 (rex_at c bytes).1

rexed-cons : {B : Type 0} (q : Context → List ℕ → Result (B × List ℕ) Refusal) (c : Context) (b : ℕ) (bs : List ℕ) → is_rex b ≡ true → rexed q c (b ∷ bs) ≡ q (record c { rex = Some b }) bs
unfolding rex_at
rexed-cons q c b bs h = rw h refl

rexed-other : {B : Type 0} (q : Context → List ℕ → Result (B × List ℕ) Refusal) (c : Context) (b : ℕ) (bs : List ℕ) → is_rex b ≡ false → rexed q c (b ∷ bs) ≡ q c (b ∷ bs)
unfolding rex_at
rexed-other q c b bs h = rw h refl

pub rexed-nil : {B : Type 0} (q : Context → List ℕ → Result (B × List ℕ) Refusal) (c : Context) → rexed q c [] ≡ q c []
unfolding rex_at
rexed-nil q c = refl

pub rexed_decides : {B : Type 0} (Q : Context → List ℕ → B → Type 0) (q : Context → List ℕ → Result (B × List ℕ) Refusal) →
    ((c : Context) → Decides (Q c) (q c)) → ((c : Context) (s : List ℕ) (y : B) → Q c s y → Starts is_rex s) → ((c : Context) → q c [] ≡ Err End) → (c : Context) → Decides (Rexed Q c) (rexed q c)
rexed_decides {B} Q q d starts empty c = record { sound = sound; complete = complete; ends = ends; never = never }
  where
    plain : (s : List ℕ) (y : B) → Q c s y → Rexed Q c s y
    plain s y h = record { rex = []; rest = s; whole = refl; is_rex = tt; spelled = h }

    sound : (bytes rest : List ℕ) (y : B) → rexed q c bytes ≡ Ok (y, rest) → Front (Rexed Q c) bytes y rest
    sound [] rest y e =
        let f = (d c).sound [] rest y (sym (rexed-nil q c) ∙ e) in
        record { front = f.front; split = f.split; spelled = plain f.front y f.spelled }
    sound (b ∷ bs) rest y e = elim (bool_cases (is_rex b)) [
      | inl holds ↦
          let f = (d (record c { rex = Some b })).sound bs rest y (sym (rexed-cons q c b bs holds) ∙ e) in
          record { front = b ∷ f.front; split = ap (λ (t : List ℕ). b ∷ t) f.split; spelled = record { rex = b ∷ []; rest = f.front; whole = refl; is_rex = holds; spelled = f.spelled } }
      | inr fails ↦
          let f = (d c).sound (b ∷ bs) rest y (sym (rexed-other q c b bs fails) ∙ e) in
          record { front = f.front; split = f.split; spelled = plain f.front y f.spelled }
    ]

    read_plain : (s rest : List ℕ) (y : B) → Q c s y → Starts is_rex s → rexed q c (s ++ rest) ≡ Ok (y, rest)
    read_plain s rest y h t =
        let e : s ++ rest ≡ t.first ∷ (t.rest ++ rest) = ap (λ (u : List ℕ). u ++ rest) t.is in
        ap (rexed q c) e ∙ rexed-other q c t.first (t.rest ++ rest) t.other ∙ ap (q c) (sym e) ∙ (d c).complete s rest y h

    read : (rex s rest : List ℕ) (y : B) → IsRex rex → Q (with_rex c rex) s y → rexed q c ((rex ++ s) ++ rest) ≡ Ok (y, rest)
    read [] s rest y r h = read_plain s rest y h (starts c s y h)
    read (b ∷ []) s rest y r h = rexed-cons q c b (s ++ rest) r ∙ (d (record c { rex = Some b })).complete s rest y h
    read (b ∷ k ∷ rex) s rest y r h = absurd r

    complete : (front rest : List ℕ) (y : B) → Rexed Q c front y → rexed q c (front ++ rest) ≡ Ok (y, rest)
    complete front rest y h = ap (λ (t : List ℕ). rexed q c (t ++ rest)) h.whole ∙ read h.rex h.rest rest y h.is_rex h.spelled

    ends : (bytes : List ℕ) → rexed q c bytes ≡ Err End → Longer (Rexed Q c) bytes
    ends [] e =
        let k = (d c).ends [] (sym (rexed-nil q c) ∙ e) in
        record { more = k.more; are_bytes = k.are_bytes; value = k.value; spelled = plain k.more k.value k.spelled }
    ends (b ∷ bs) e = elim (bool_cases (is_rex b)) [
      | inl holds ↦
          let k = (d (record c { rex = Some b })).ends bs (sym (rexed-cons q c b bs holds) ∙ e) in
          record { more = k.more; are_bytes = k.are_bytes; value = k.value; spelled = record { rex = b ∷ []; rest = bs ++ k.more; whole = refl; is_rex = holds; spelled = k.spelled } }
      | inr fails ↦
          let k = (d c).ends (b ∷ bs) (sym (rexed-other q c b bs fails) ∙ e) in
          record { more = k.more; are_bytes = k.are_bytes; value = k.value; spelled = plain (b ∷ bs ++ k.more) k.value k.spelled }
    ]

    never : (bytes more : List ℕ) → rexed q c bytes ≡ Err Never → rexed q c (bytes ++ more) ≡ Err Never
    never [] more e = absurd (let f = sym (empty c) ∙ (sym (rexed-nil q c) ∙ e) in cc)
    never (b ∷ bs) more e = elim (bool_cases (is_rex b)) [
      | inl holds ↦ rexed-cons q c b (bs ++ more) holds ∙ (d (record c { rex = Some b })).never bs more (sym (rexed-cons q c b bs holds) ∙ e)
      | inr fails ↦ rexed-other q c b (bs ++ more) fails ∙ (d c).never (b ∷ bs) more (sym (rexed-other q c b bs fails) ∙ e)
    ]

-- ---- 66 and F3

abbrev pub marks : Context → List ℕ → Context
marks c [] = c
marks c (b ∷ bs) = marks (marked c b) bs

pub record Prefixed {B : Type 0} (Q : Context → List ℕ → B → Type 0) (c : Context) (s : List ℕ) (y : B) : Type 0 where
  pub prefixes : List ℕ
  pub rest : List ℕ
  pub whole : s ≡ prefixes ++ rest
  pub are_prefixes : list_all is_prefix prefixes ≡ true
  pub spelled : Q (marks c prefixes) rest y

abbrev pub prefixed : {B : Type 0} → (Context → List ℕ → Result (B × List ℕ) Refusal) → Context → List ℕ → Result (B × List ℕ) Refusal
prefixed q c bytes = q (prefixes_at c bytes).0 (prefixes_at c bytes).1

prefixed-cons : {B : Type 0} (q : Context → List ℕ → Result (B × List ℕ) Refusal) (c : Context) (b : ℕ) (bs : List ℕ) → is_prefix b ≡ true → prefixed q c (b ∷ bs) ≡ prefixed q (marked c b) bs
unfolding prefixes_at
prefixed-cons q c b bs h = rw h refl

prefixed-other : {B : Type 0} (q : Context → List ℕ → Result (B × List ℕ) Refusal) (c : Context) (b : ℕ) (bs : List ℕ) → is_prefix b ≡ false → prefixed q c (b ∷ bs) ≡ q c (b ∷ bs)
unfolding prefixes_at
prefixed-other q c b bs h = rw h refl

prefixed-nil : {B : Type 0} (q : Context → List ℕ → Result (B × List ℕ) Refusal) (c : Context) → prefixed q c [] ≡ q c []
unfolding prefixes_at
prefixed-nil q c = refl

pub all-cons : (b : ℕ) (bs : List ℕ) → list_all is_prefix (b ∷ bs) ≡ true → (is_prefix b ≡ true) × (list_all is_prefix bs ≡ true)
all-cons b bs e = elim (bool_cases (is_prefix b)) [
  | inl holds ↦ (holds, rw holds at e)
  | inr fails ↦ absurd (let f = rw fails at e in cc)
]

cons-all : (b : ℕ) (bs : List ℕ) → is_prefix b ≡ true → list_all is_prefix bs ≡ true → list_all is_prefix (b ∷ bs) ≡ true
cons-all b bs h k = rw h k

pub prefixed_decides : {B : Type 0} (Q : Context → List ℕ → B → Type 0) (q : Context → List ℕ → Result (B × List ℕ) Refusal) →
    ((c : Context) → Decides (Q c) (q c)) → ((c : Context) (s : List ℕ) (y : B) → Q c s y → Starts is_prefix s) → ((c : Context) → q c [] ≡ Err End) → (c : Context) → Decides (Prefixed Q c) (prefixed q c)
prefixed_decides {B} Q q d starts empty c = record { sound = sound c; complete = complete; ends = ends c; never = never c }
  where
    plain : (c : Context) (s : List ℕ) (y : B) → Q c s y → Prefixed Q c s y
    plain c s y h = record { prefixes = []; rest = s; whole = refl; are_prefixes = refl; spelled = h }

    behind : (c : Context) (b : ℕ) (s : List ℕ) (y : B) → is_prefix b ≡ true → Prefixed Q (marked c b) s y → Prefixed Q c (b ∷ s) y
    behind c b s y holds h = record { prefixes = b ∷ h.prefixes; rest = h.rest; whole = ap (λ (t : List ℕ). b ∷ t) h.whole; are_prefixes = cons-all b h.prefixes holds h.are_prefixes; spelled = h.spelled }

    sound : (c : Context) (bytes rest : List ℕ) (y : B) → prefixed q c bytes ≡ Ok (y, rest) → Front (Prefixed Q c) bytes y rest
    sound c [] rest y e = absurd (let f = sym (empty c) ∙ (sym (prefixed-nil q c) ∙ e) in cc)
    sound c (b ∷ bs) rest y e = elim (bool_cases (is_prefix b)) [
      | inl holds ↦
          let f = sound (marked c b) bs rest y (sym (prefixed-cons q c b bs holds) ∙ e) in
          record { front = b ∷ f.front; split = ap (λ (t : List ℕ). b ∷ t) f.split; spelled = behind c b f.front y holds f.spelled }
      | inr fails ↦
          let f = (d c).sound (b ∷ bs) rest y (sym (prefixed-other q c b bs fails) ∙ e) in
          record { front = f.front; split = f.split; spelled = plain c f.front y f.spelled }
    ]

    read_plain : (c : Context) (s rest : List ℕ) (y : B) → Q c s y → Starts is_prefix s → prefixed q c (s ++ rest) ≡ Ok (y, rest)
    read_plain c s rest y h t =
        let e : s ++ rest ≡ t.first ∷ (t.rest ++ rest) = ap (λ (u : List ℕ). u ++ rest) t.is in
        ap (prefixed q c) e ∙ prefixed-other q c t.first (t.rest ++ rest) t.other ∙ ap (q c) (sym e) ∙ (d c).complete s rest y h

    read : (c : Context) (prefixes s rest : List ℕ) (y : B) → list_all is_prefix prefixes ≡ true → Q (marks c prefixes) s y → prefixed q c ((prefixes ++ s) ++ rest) ≡ Ok (y, rest)
    read c [] s rest y r h = read_plain c s rest y h (starts c s y h)
    read c (b ∷ bs) s rest y r h =
        let k = all-cons b bs r in
        prefixed-cons q c b ((bs ++ s) ++ rest) k.0 ∙ read (marked c b) bs s rest y k.1 h

    complete : (front rest : List ℕ) (y : B) → Prefixed Q c front y → prefixed q c (front ++ rest) ≡ Ok (y, rest)
    complete front rest y h = ap (λ (t : List ℕ). prefixed q c (t ++ rest)) h.whole ∙ read c h.prefixes h.rest rest y h.are_prefixes h.spelled

    ends : (c : Context) (bytes : List ℕ) → prefixed q c bytes ≡ Err End → Longer (Prefixed Q c) bytes
    ends c [] e =
        let k = (d c).ends [] (sym (prefixed-nil q c) ∙ e) in
        record { more = k.more; are_bytes = k.are_bytes; value = k.value; spelled = plain c k.more k.value k.spelled }
    ends c (b ∷ bs) e = elim (bool_cases (is_prefix b)) [
      | inl holds ↦
          let k = ends (marked c b) bs (sym (prefixed-cons q c b bs holds) ∙ e) in
          record { more = k.more; are_bytes = k.are_bytes; value = k.value; spelled = behind c b (bs ++ k.more) k.value holds k.spelled }
      | inr fails ↦
          let k = (d c).ends (b ∷ bs) (sym (prefixed-other q c b bs fails) ∙ e) in
          record { more = k.more; are_bytes = k.are_bytes; value = k.value; spelled = plain c (b ∷ bs ++ k.more) k.value k.spelled }
    ]

    never : (c : Context) (bytes more : List ℕ) → prefixed q c bytes ≡ Err Never → prefixed q c (bytes ++ more) ≡ Err Never
    never c [] more e = absurd (let f = sym (empty c) ∙ (sym (prefixed-nil q c) ∙ e) in cc)
    never c (b ∷ bs) more e = elim (bool_cases (is_prefix b)) [
      | inl holds ↦ prefixed-cons q c b (bs ++ more) holds ∙ never (marked c b) bs more (sym (prefixed-cons q c b bs holds) ∙ e)
      | inr fails ↦ prefixed-other q c b (bs ++ more) fails ∙ (d c).never (b ∷ bs) more (sym (prefixed-other q c b bs fails) ∙ e)
    ]
