use Rattle.std.proofs.Common.{◌≡◌, ℕ, ap, ◌∙◌, ◌+◌, ◌%◌}
use Rattle.std.specs.Prelude.{nat_eq}
use Rattle.std.proofs.lemmas.Nat.{and_comm, or_comm, xor_comm}
use Rattle.pic_chip.specs.State.{State}
use Rattle.pic_world.specs.Bits.{truth}
use Rattle.pic_chip.proofs.rows.run.Goals as goal

-- W and Z of a result
abbrev to_w : State → ℕ → State
to_w s x = record s { pc = (s.pc + 1) % 8192; w = x; z = truth (nat_eq x 0) }

pub returns-in-Andlw-clause-state : goal.returns-in-Andlw-clause-state
returns-in-Andlw-clause-state c = λ inputs e.
    let s = c.args.processor.now in
    rw c.in-Andlw.is (c.literal-in-Andlw.ensures.state ∙ ap (to_w s) (and_comm s.w c.in-Andlw.k))

pub returns-in-Iorlw-clause-state : goal.returns-in-Iorlw-clause-state
returns-in-Iorlw-clause-state c = λ inputs e.
    let s = c.args.processor.now in
    rw c.in-Iorlw.is (c.literal-in-Iorlw.ensures.state ∙ ap (to_w s) (or_comm s.w c.in-Iorlw.k))

pub returns-in-Xorlw-clause-state : goal.returns-in-Xorlw-clause-state
returns-in-Xorlw-clause-state c = λ inputs e.
    let s = c.args.processor.now in
    rw c.in-Xorlw.is (c.literal-in-Xorlw.ensures.state ∙ ap (to_w s) (xor_comm s.w c.in-Xorlw.k))

-- ---- rows that set no flag
pub returns-in-Decfsz-clause-state : goal.returns-in-Decfsz-clause-state
returns-in-Decfsz-clause-state c = rw c.in-Decfsz.is c.operate-in-Decfsz.ensures.state

pub returns-in-Decfsz-clause-accesses : goal.returns-in-Decfsz-clause-accesses
returns-in-Decfsz-clause-accesses c = rw c.in-Decfsz.is c.operate-in-Decfsz.ensures.accesses

pub returns-in-Incfsz-clause-state : goal.returns-in-Incfsz-clause-state
returns-in-Incfsz-clause-state c = rw c.in-Incfsz.is c.operate-in-Incfsz.ensures.state

pub returns-in-Incfsz-clause-accesses : goal.returns-in-Incfsz-clause-accesses
returns-in-Incfsz-clause-accesses c = rw c.in-Incfsz.is c.operate-in-Incfsz.ensures.accesses

pub returns-in-Swapf-clause-state : goal.returns-in-Swapf-clause-state
returns-in-Swapf-clause-state c = rw c.in-Swapf.is c.operate-in-Swapf.ensures.state

pub returns-in-Swapf-clause-accesses : goal.returns-in-Swapf-clause-accesses
returns-in-Swapf-clause-accesses c = rw c.in-Swapf.is c.operate-in-Swapf.ensures.accesses
