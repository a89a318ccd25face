use Rattle.guest_interp.proofs.stepping.attempt.Goals as goal

pub attempt_private-requires-clause-condition : goal.attempt_private-requires-clause-condition
attempt_private-requires-clause-condition c = c.conditions.ensures.law c.requires.spelled.bytes c.args.insn.now c.requires.spelled.spelled
