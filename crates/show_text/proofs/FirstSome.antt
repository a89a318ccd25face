-- The first that is found from a place on.
use Rattle.std.proofs.Common.{◌≡◌, ℕ, suc, ◌+◌, ◌-◌, ◌<◌, Option, Some, None, arith}
use Rattle.std.specs.List.{range_with_len}
use Rattle.show_text.specs.Page.{first_some}

pub found_here : {X : Type 0} (at : ℕ → Option X) (place end : ℕ) (x : X) → place < end → at place ≡ Some x → first_some at (range_with_len place (end - place)) ≡ Some x
found_here at place end x inside here =
    let more : end - place ≡ suc (end - (place + 1)) = omega arith in
    rw (more, here)

pub found_later : {X : Type 0} (at : ℕ → Option X) (place end : ℕ) → place < end → at place ≡ None
    → first_some at (range_with_len place (end - place)) ≡ first_some at (range_with_len (place + 1) (end - (place + 1)))
found_later at place end inside none =
    let more : end - place ≡ suc (end - (place + 1)) = omega arith in
    rw (more, none)
