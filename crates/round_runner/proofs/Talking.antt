-- The pages on which vCPUs are served, event by event.
use Rattle.std.proofs.Common.{◌≡◌, ℕ, Bool, true, false, List, [], ◌∷◌, ◌++◌, Option, Some, None, append-nil, refl, sym, ap, ◌∙◌, eq-eqb}
use Rattle.std.specs.Prelude.{◌==◌, if◌then◌else◌, IfSome, option_map}
use Rattle.std.proofs.lemmas.Option.{same_Some}
use Rattle.page_words.specs.Told.{Kept}
use Rattle.device_bus.specs.Devices.{Devices}
use Rattle.event_table.specs.declared.event.Event.{Event}
use Rattle.event_table.specs.declared.turn.Entry.{Entry}
use Rattle.device_bus.specs.History.{after_event, after_history}
use Rattle.host_events.specs.Hosting.{Given}
use Rattle.vc_handler.specs.Wire.{wire}
use Rattle.round_runner.specs.Pages.{Talked, says, shows_if, shown_all, talked, met, pages_of}

-- one event more
pub shown_more : (i : ℕ) (d : Devices) (es : List Entry) (e : Entry) (t : Talked) → shown_all i d (es ++ e ∷ []) t ≡ shows_if i e (after_history d es) (shown_all i d es t)
shown_more i d [] e t = refl
shown_more i d (x ∷ es) e t = shown_more i (after_event d x.vcpu x.event) es e (shows_if i x d t)

-- of another vCPU
pub shown_other : (n i : ℕ) (d : Devices) (es : List Entry) (e : Entry) → (e.vcpu == i) ≡ false → talked n i d (es ++ e ∷ []) ≡ talked n i d es
shown_other n i d es e other = shown_more i d es e (met i d n) ∙ ap (λ (b : Bool). if b then says i (wire i e.event) (after_history d es) (talked n i d es) else talked n i d es) other

-- its own
pub shown_own : (n i : ℕ) (d now : Devices) (es : List Entry) (e : Event) → now ≡ after_history d es →
    talked n i d (es ++ record { vcpu = i; event = e } ∷ []) ≡ says i (wire i e) now (talked n i d es)
shown_own n i d now es e is =
    shown_more i d es (record { vcpu = i; event = e }) (met i d n)
    ∙ ap (λ (b : Bool). if b then says i (wire i e) (after_history d es) (talked n i d es) else talked n i d es) (eq-eqb i i refl)
    ∙ ap (λ (x : Devices). says i (wire i e) x (talked n i d es)) (sym is)

-- the page, where it is that vCPU's
abbrev page_if : ℕ → Given → List Kept
page_if j g = if g.vcpu == j then g.page ∷ [] else []

pages_first : (b : Bool) (page : Kept) (xs ys more : List Kept) → xs ≡ ys ++ more → (if b then page ∷ xs else xs) ≡ (if b then page ∷ ys else ys) ++ more
pages_first true page xs ys more rest = ap (λ zs. page ∷ zs) rest
pages_first false page xs ys more rest = rest

-- one page more
pages_more : (j : ℕ) (ps : List Given) (g : Given) → pages_of j (ps ++ g ∷ []) ≡ pages_of j ps ++ page_if j g
pages_more j [] g = refl
pages_more j (p ∷ ps) g = pages_first (p.vcpu == j) p.page (pages_of j (ps ++ g ∷ [])) (pages_of j ps) (page_if j g) (pages_more j ps g)

-- the page of another vCPU is none of its own
pub pages_other : (i j : ℕ) (page : Kept) (o : Option (List Given)) → (i == j) ≡ false →
    option_map (λ ps. pages_of j ps) (option_map (λ ps. ps ++ record { vcpu = i; page = page } ∷ []) o) ≡ option_map (λ ps. pages_of j ps) o
pages_other i j page None other = refl
pages_other i j page (Some ps) other =
    ap (λ xs. Some xs) (pages_more j ps (record { vcpu = i; page = page }) ∙ ap (λ (b : Bool). pages_of j ps ++ (if b then page ∷ [] else [])) other ∙ append-nil (pages_of j ps))

-- its own is the last
pub pages_own : (i : ℕ) (page : Kept) (o : Option (List Given)) (t : List Kept) → IfSome o (λ ps. pages_of i ps ≡ t) →
    IfSome (option_map (λ ps. ps ++ record { vcpu = i; page = page } ∷ []) o) (λ ps. pages_of i ps ≡ t ++ page ∷ [])
pages_own i page None t before = tt
pages_own i page (Some ps) t before =
    pages_more i ps (record { vcpu = i; page = page })
    ∙ ap (λ (b : Bool). pages_of i ps ++ (if b then page ∷ [] else [])) (eq-eqb i i refl)
    ∙ ap (λ xs. xs ++ page ∷ []) before

-- what is told of a vCPU's pages, by these alone
pub pages_same : (j : ℕ) (o p : Option (List Given)) (t : List Kept) → option_map (λ ps. pages_of j ps) p ≡ option_map (λ ps. pages_of j ps) o →
    IfSome o (λ ps. pages_of j ps ≡ t) → IfSome p (λ ps. pages_of j ps ≡ t)
pages_same j None None t same before = tt
pages_same j None (Some ps) t same before = cc
pages_same j (Some os) None t same before = tt
pages_same j (Some os) (Some ps) t same before = same_Some _ _ same ∙ before
