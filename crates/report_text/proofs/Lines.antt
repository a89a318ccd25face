-- The lines of vCPUs.
use Rattle.std.proofs.Common.{◌≡◌, ◌≤◌, ℕ, List, [], ◌∷◌, ◌++◌, length, sym, ap, ◌∙◌, refl}
use Rattle.std.specs.Prelude.{drop}
use Rattle.std.proofs.lemmas.List.{drop_all, append-nil}
use Rattle.event_table.specs.declared.end.End.{End}
use Rattle.report_text.specs.Report.{vcpu_lines}

no_steps : (i : ℕ) (ends : List End) → vcpu_lines i ends [] ≡ []
no_steps i [] = refl
no_steps i (end ∷ ends) = refl

-- where the steps are at their end no line is left
pub all_written : (i : ℕ) (ends : List End) (steps text all : List ℕ) (k : ℕ) → length steps ≤ k → text ++ vcpu_lines i ends (drop k steps) ≡ all → text ≡ all
all_written i ends steps text all k past invariant =
    sym (append-nil text)
    ∙ ap (λ (rest : List ℕ). text ++ rest) (sym (no_steps i ends) ∙ ap (λ (s : List ℕ). vcpu_lines i ends s) (sym (drop_all k steps past)))
    ∙ invariant
