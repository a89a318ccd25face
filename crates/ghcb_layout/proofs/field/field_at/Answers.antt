use Rattle.std.proofs.Common.{◌∙◌, ap, sym, rules}
use Rattle.ghcb_layout.proofs.Table.{field_from-offset_of, offset_of-field_from}
use Rattle.ghcb_layout.specs.Field.{field_from}
use Rattle.ghcb_layout.proofs.field.field_at.Goals as goal

pub returns-clause-value : goal.returns-clause-value
returns-clause-value c = search rules

pub returns-clause-ok : goal.returns-clause-ok
returns-clause-ok c = λ field.
    let value = returns-clause-value c in (
      λ e. offset_of-field_from c.args.offset field (sym value ∙ e),
      λ at. value ∙ ap field_from (sym at) ∙ field_from-offset_of field,
    )
