use Rattle.guest_interp.proofs.stepping.private_other.Goals as goal

pub returns-in-Jmp-clause-done : goal.returns-in-Jmp-clause-done
returns-in-Jmp-clause-done c = rw c.in-Jmp.is (c.jmp.ensures.done c.args.ram.now)

pub returns-in-Jcc-clause-done : goal.returns-in-Jcc-clause-done
returns-in-Jcc-clause-done c = rw c.in-Jcc.is (c.jump_if.ensures.done c.args.ram.now)

pub returns-in-Cmc-clause-done : goal.returns-in-Cmc-clause-done
returns-in-Cmc-clause-done c = rw c.in-Cmc.is (c.cmc.ensures.done c.args.ram.now)

pub returns-in-Clc-clause-done : goal.returns-in-Clc-clause-done
returns-in-Clc-clause-done c = rw c.in-Clc.is (c.put_carry.ensures.done c.args.ram.now)

pub returns-in-Stc-clause-done : goal.returns-in-Stc-clause-done
returns-in-Stc-clause-done c = rw c.in-Stc.is (c.put_carry-in-Stc.ensures.done c.args.ram.now)

pub returns-in-Cld-clause-done : goal.returns-in-Cld-clause-done
returns-in-Cld-clause-done c = rw c.in-Cld.is (c.put_direction.ensures.done c.args.ram.now)

pub returns-in-Std-clause-done : goal.returns-in-Std-clause-done
returns-in-Std-clause-done c = rw c.in-Std.is (c.put_direction-in-Std.ensures.done c.args.ram.now)

pub returns-in-Nop-clause-done : goal.returns-in-Nop-clause-done
returns-in-Nop-clause-done c = rw c.in-Nop.is (c.nop.ensures.done c.args.ram.now)
