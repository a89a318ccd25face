use Rattle.std.proofs.Common.{◌≡◌, ◌∙◌, ap, sym, ℕ, ◌+◌, ◌-◌, ◌*◌, ◌<◌, Some, None, arith}
use Rattle.std.specs.List.{range_with_len}
use Rattle.std.specs.Result.{result_ok}
use Rattle.show_text.specs.Page.{first_some, field_beginning, field_in}
use Rattle.show_text.proofs.FirstSome.{found_here, found_later}
use Rattle.show_text.proofs.page.field_of.Goals as goal

pub loop-offset-init : goal.loop-offset-init
unfolding field_in
loop-offset-init c =
    let start : ℕ = 8 * c.from-start.result in
    let place : start ≡ 8 * c.args.number = omega arith in
    let eight : 8 * c.args.number + 8 - start ≡ 8 = omega arith in
    record {
      end = omega arith;
      searched = ap (λ (a : ℕ). first_some field_beginning (range_with_len a 8)) (sym place)
          ∙ ap (λ (k : ℕ). first_some field_beginning (range_with_len start k)) (sym eight);
    }

pub returns-in-Ok : goal.returns-in-Ok
unfolding field_beginning
returns-in-Ok c =
    let inside : c.loop-offset.offset < 8 * c.args.number + 8 = omega arith in
    let here : field_beginning c.loop-offset.offset ≡ Some c.in-Ok.field = ap result_ok (sym c.field_at.ensures.value ∙ c.in-Ok.is) in
    sym (c.loop-offset.invariant.searched ∙ found_here field_beginning c.loop-offset.offset (8 * c.args.number + 8) c.in-Ok.field inside here)

pub loop-offset-preserved : goal.loop-offset-preserved
unfolding field_beginning
loop-offset-preserved c =
    let inside : c.loop-offset.offset < 8 * c.args.number + 8 = omega arith in
    let none : field_beginning c.loop-offset.offset ≡ None = ap result_ok (sym c.field_at.ensures.value ∙ c.in_default.is) in
    record {
      end = c.loop-offset.invariant.end;
      searched = c.loop-offset.invariant.searched ∙ found_later field_beginning c.loop-offset.offset (8 * c.args.number + 8) inside none;
    }
