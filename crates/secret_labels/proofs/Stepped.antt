-- One step of two vCPUs that differ at most where a label stands.
use Rattle.std.proofs.Common.{◌≡◌, ℕ, ◌+◌, ◌^◌, ◌<◌, zero, suc, Bool, true, false, if◌then◌else◌, List, [], ◌∷◌, map, get_or, set, length, drop, take, refl, sym, ◌∙◌, ap, subst, arith, length-set, length-take, Option, None, Some, Result, Ok, Err, min}
use Rattle.std.proofs.lemmas.List.{get_or-take, ext_get_or}
use Rattle.std.proofs.lemmas.Grind.{common_steps}
use Rattle.x86_base.specs.declared.insn.Insn.{Insn}
use Rattle.x86_base.specs.Widths.{size_of}
use Rattle.insn_decode.specs.Reading.{decode_of}
use Rattle.image_file.specs.Image.{Contents}
use Rattle.event_table.specs.declared.outcome.Reply.{Reply}
use Rattle.event_table.specs.declared.end.End.{End}
use Rattle.event_table.specs.declared.places.Place.{Place}
use Rattle.event_table.specs.declared.places.Place.TheVariants.{Bytes}
use Rattle.event_table.specs.Events.{exit_of}
use Rattle.event_table.specs.Raising.{raise_of, step_raised}
use Rattle.event_table.specs.Places.{Vcpu, Value, Number, read, write, write_all}
use Rattle.event_table.specs.Plan.{Change, Plan, Ends, Next, Then, Looks, Asks, Use, Setting, setting, apply, directed, stepped, step_answered}
use Rattle.guest_interp.specs.Stepping.{fetched, insn_at, plan_by, exit_by, plan_of, step_of, results_of}
use Rattle.secret_labels.specs.Labels.{Labels, Noted, Uses, Quiet, any, mark, mark_all, marked, noted, noted_after, set_bytes}
use Rattle.secret_labels.specs.Following.{noted_step, noted_results, noted_raised}
use Rattle.guest_interp.proofs.Guarded.{code_stays}
use Rattle.guest_interp.specs.Guarding.{Spares, SparesAll, KeepsCode}
use Rattle.secret_labels.specs.Worlds.{Agree, IsFree, Worlds, Alike}
use Rattle.secret_labels.proofs.Same.{same_apply, same_reads}

-- THE CODE HAS NO LABEL

pub below_set : (n at k : ℕ) (b : Bool) (ls : List Bool) → k < at → get_or (set_bytes n at b ls) k false ≡ get_or ls k false
below_set zero at k b ls h = refl
below_set (suc n) at k b ls h = below_set n (at + 1) k b (set ls at b) (omega arith) ∙ grind (arith, common_steps)

free_mark : (code : ℕ) (b : Bool) (p : Place) (l : Labels) → Spares code p → IsFree code l → IsFree code (mark b p l)
free_mark code b (Bytes at width) l s f = λ k h. below_set (size_of width) at k b l.ram (omega arith) ∙ f k h
free_mark code b _ l s f = f

free_marks : (code : ℕ) (b : Bool) (ps : List Place) (l : Labels) → SparesAll code ps → IsFree code l → IsFree code (mark_all b ps l)
free_marks code b [] l s f = f
free_marks code b (p ∷ ps) l s f = free_marks code b ps (mark b p l) s.1 (free_mark code b p l s.0 f)

-- THE SIZES STAY

pub length-set_bytes : (n at : ℕ) (b : Bool) (ls : List Bool) → length (set_bytes n at b ls) ≡ length ls
length-set_bytes zero at b ls = refl
length-set_bytes (suc n) at b ls = length-set_bytes n (at + 1) b (set ls at b) ∙ length-set ls at b

size_mark : (b : Bool) (p : Place) (l : Labels) → length (mark b p l).ram ≡ length l.ram
size_mark b (Bytes at width) l = length-set_bytes (size_of width) at b l.ram
size_mark b _ l = refl

size_marks : (b : Bool) (ps : List Place) (l : Labels) → length (mark_all b ps l).ram ≡ length l.ram
size_marks b [] l = refl
size_marks b (p ∷ ps) l = size_marks b ps (mark b p l) ∙ size_mark b p l

code_write : (p : Place) (x : Value) (v : Vcpu) → (write p x v).ram.code ≡ v.ram.code
code_write (Bytes at width) x v = refl
code_write _ x v = refl

code_writes : (ps : List Place) (xs : List Value) (v : Vcpu) → (write_all ps xs v).ram.code ≡ v.ram.code
code_writes [] xs v = refl
code_writes (p ∷ ps) xs v = code_writes ps (drop 1 xs) (write p (get_or xs 0 (Number 0)) v) ∙ code_write p (get_or xs 0 (Number 0)) v

code_directed : (df : Option Bool) (v : Vcpu) → (directed df v).ram.code ≡ v.ram.code
code_directed None v = refl
code_directed (Some df) v = refl

code_apply : (c : Change) (v : Vcpu) → (apply c v).ram.code ≡ v.ram.code
code_apply c v =
    code_directed c.df (write_all c.targets (c.values (map (read v) c.reads)) (write_all c.moved c.moves v))
    ∙ code_writes c.targets (c.values (map (read v) c.reads)) (write_all c.moved c.moves v) ∙ code_writes c.moved c.moves v

-- ONE PLAN

worlds_change : (code : ℕ) (l : Labels) (v w : Vcpu) (c : Change) → SparesAll code c.targets → SparesAll code c.moved → Worlds code l v w → Worlds code (marked c l) (apply c v) (apply c w)
worlds_change code l v w c t m h = record {
  same = same_apply l v w c h.same;
  size = code_apply c v ∙ h.size;
  free = free_marks code (any l c.reads) c.targets (mark_all false c.moved l) t (free_marks code false c.moved l m h.free);
  small = let e = size_marks (any l c.reads) c.targets (mark_all false c.moved l) ∙ size_marks false c.moved l in let s = h.small in omega arith;
}

-- what comes after a labelled look is quiet only where nothing labelled was looked at
no_use : (b : Bool) (kind : Use) (n : Noted) (m : Labels) → (if b then Uses kind else n) ≡ Quiet m → (b ≡ false) × (n ≡ Quiet m)
no_use true kind n m h = cc
no_use false kind n m h = (refl, h)

worlds_quiet : (code : ℕ) (l m : Labels) (v w : Vcpu) → Worlds code l v w → Quiet l ≡ Quiet m → Worlds code m v w
worlds_quiet code l m v w h q = let e : l ≡ m = cc in subst (λ x. Worlds code x v w) e h

-- whatever a plan does, two vCPUs that it treats quietly come out alike
pub alike_plan : (code : ℕ) (p : Plan) (l m : Labels) (v w : Vcpu) → Worlds code l v w → KeepsCode code p → noted l v p ≡ Quiet m → Alike code m (stepped v p) (stepped w p)
alike_plan code (Ends end) l m v w h k q = (refl, worlds_quiet code l m v w h q)
alike_plan code Next l m v w h k q = worlds_quiet code l m v w h q
alike_plan code (Then c rest) l m v w h k q = alike_plan code rest (marked c l) m (apply c v) (apply c w) (worlds_change code l v w c k.0 k.1 h) k.2 q
alike_plan code (Looks kind places next) l m v w h k q =
    let u = no_use (any l places) kind (noted l v (next (map (read v) places))) m q in
    subst (λ (xs : List Value). Alike code m (stepped v (next (map (read v) places))) (stepped w (next xs))) (same_reads l v w places h.same u.0)
    (alike_plan code (next (map (read v) places)) l m v w h (k (map (read v) places)) u.1)
alike_plan code (Asks event done) l m v w h k q = (refl, worlds_quiet code l m v w h q)

-- and the same of the answer to an access
pub alike_answered_by : (code : ℕ) (reply : Reply) (p : Plan) (l m : Labels) (v w : Vcpu) → Worlds code l v w → KeepsCode code p → noted_after reply l v p ≡ Quiet m → Alike code m (step_answered reply v p) (step_answered reply w p)
alike_answered_by code reply (Looks kind places next) l m v w h k q =
    let u = no_use (any l places) kind (noted_after reply l v (next (map (read v) places))) m q in
    subst (λ (xs : List Value). Alike code m (step_answered reply v (next (map (read v) places))) (step_answered reply w (next xs))) (same_reads l v w places h.same u.0)
    (alike_answered_by code reply (next (map (read v) places)) l m v w h (k (map (read v) places)) u.1)
alike_answered_by code reply (Asks event done) l m v w h k q = alike_plan code (done reply) l m v w h (k reply) q
alike_answered_by code reply (Ends end) l m v w h k q = (refl, worlds_quiet code l m v w h q)
alike_answered_by code reply Next l m v w h k q = (refl, worlds_quiet code l m v w h q)
alike_answered_by code reply (Then c rest) l m v w h k q = (refl, worlds_quiet code l m v w h q)

-- ONE STEP

same_take : (n : ℕ) (ls : List Bool) (xs ys : List ℕ) → Agree ls xs ys → ((k : ℕ) → k < n → get_or ls k false ≡ false) → take n xs ≡ take n ys
same_take n ls xs ys h f =
    ext_get_or 0 (take n xs) (take n ys) (length-take n xs ∙ ap (λ k. min n k) (h.left ∙ sym h.right) ∙ sym (length-take n ys))
    (λ i lt. let below : i < n = omega (arith, length-take n xs) in get_or-take n xs i 0 below ∙ h.same i (f i below) ∙ sym (get_or-take n ys i 0 below))

same_insn : (code : ℕ) (l : Labels) (v w : Vcpu) → Worlds code l v w → insn_at v.ram v.regs.rip ≡ insn_at w.ram w.regs.rip
same_insn code l v w h =
    let bytes = same_take code l.ram v.ram.bytes w.ram.bytes h.same.ram h.free in
    let here = h.size in
    let there = sym h.same.code ∙ h.size in
    let at = h.same.rip in
    rw (here, there, at) (ap (λ (xs : List ℕ). fetched code w.regs.rip (decode_of (take 15 (drop w.regs.rip xs)))) bytes)

same_setting : (code : ℕ) (l : Labels) (v w : Vcpu) (len : ℕ) → Worlds code l v w → setting v len ≡ setting w len
same_setting code l v w len h =
    let size = h.same.ram.left ∙ sym h.same.ram.right in let a = h.same.rip in let b = h.same.code in let c = h.same.df in cc

same_plan : (r : Result Insn End) (v w : Vcpu) → ((len : ℕ) → setting v len ≡ setting w len) → plan_by r v ≡ plan_by r w
same_plan (Ok insn) v w e = ap (λ (s : Setting). plan_of insn s) (e insn.len)
same_plan (Err end) v w e = refl

same_exit : (r : Result Insn End) (v w : Vcpu) → ((len : ℕ) → setting v len ≡ setting w len) → exit_by r v ≡ exit_by r w
same_exit (Ok insn) v w e = ap (λ (s : Setting). exit_of insn s) (e insn.len)
same_exit (Err end) v w e = refl

keeps_plan : (r : Result Insn End) (v : Vcpu) → KeepsCode v.ram.code (plan_by r v)
keeps_plan (Ok insn) v = code_stays.instruction insn (setting v insn.len)
keeps_plan (Err end) v = tt

keeps_exit : (r : Result Insn End) (v : Vcpu) → KeepsCode v.ram.code (exit_by r v)
keeps_exit (Ok insn) v = code_stays.answer insn (setting v insn.len)
keeps_exit (Err end) v = tt

-- one step of both
pub alike_step : (code : ℕ) (l m : Labels) (v w : Vcpu) → Worlds code l v w → noted_step l v ≡ Quiet m → Alike code m (step_of v) (step_of w)
unfolding step_of noted_step
alike_step code l m v w h q =
    let insn = insn_at v.ram v.regs.rip in
    subst (λ (p : Plan). Alike code m (stepped v (plan_by insn v)) (stepped w p))
    (same_plan insn v w (λ len. same_setting code l v w len h) ∙ ap (λ (r : Result Insn End). plan_by r w) (same_insn code l v w h))
    (alike_plan code (plan_by insn v) l m v w h (subst (λ n. KeepsCode n (plan_by insn v)) h.size (keeps_plan insn v)) q)

pub alike_results : (code : ℕ) (reply : Reply) (l m : Labels) (v w : Vcpu) → Worlds code l v w → noted_results reply l v ≡ Quiet m → Alike code m (results_of reply v) (results_of reply w)
unfolding results_of noted_results
alike_results code reply l m v w h q =
    let insn = insn_at v.ram v.regs.rip in
    subst (λ (p : Plan). Alike code m (step_answered reply v (exit_by insn v)) (step_answered reply w p))
    (same_exit insn v w (λ len. same_setting code l v w len h) ∙ ap (λ (r : Result Insn End). exit_by r w) (same_insn code l v w h))
    (alike_answered_by code reply (exit_by insn v) l m v w h (subst (λ n. KeepsCode n (exit_by insn v)) h.size (keeps_exit insn v)) q)

-- an exception's delivery
pub alike_raised : (code : ℕ) (image : Contents) (vector error : ℕ) (l m : Labels) (v w : Vcpu) → Worlds code l v w → noted_raised image vector error l v ≡ Quiet m →
    Alike code m (step_raised image vector error v) (step_raised image vector error w)
alike_raised code image vector error l m v w h q =
    let small : length v.ram.bytes < 2 ^ 64 = (let e = h.same.ram.left in let s = h.small in omega arith) in
    let plan = raise_of image.header (setting v 0) vector error in
    subst (λ (s : Setting). Alike code m (stepped v plan) (stepped w (raise_of image.header s vector error))) (same_setting code l v w 0 h)
    (alike_plan code plan l m v w h (subst (λ n. KeepsCode n plan) h.size (code_stays.exception image.header (setting v 0) vector error small)) q)
