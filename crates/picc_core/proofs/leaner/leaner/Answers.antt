use Rattle.std.proofs.Common.{refl}
use Rattle.picc_core.proofs.Founding.{copies_low}
use Rattle.picc_core.proofs.Leaning.{lean_lent}
use Rattle.picc_core.proofs.leaner.leaner.Goals as goal

pub handler_of-handler-requires : goal.handler_of-handler-requires
handler_of-handler-requires c = copies_low c.args.typed.now c.args.copies.now.list.items c.args.placed.now c.args.at.now c.requires.founded

pub returns-then-are_stated : goal.returns-then-are_stated
returns-then-are_stated c =
    lean_lent c.args.typed.now c.args.copies.now.list.items c.args.placed.now c.args.at.now c.requires.founded c.args.core.now c.in-Some.lent.items _ _ _ _ _ _ _ _ _ _
    (rw (c.deref-2.ensures.value, c.in-Some.is) at c.in_ok-lent.ensures) c.deref-5.ensures.value c.deref.ensures.value c.in_ok-variables.ensures c.deref-4.ensures.value
    c.deref-3.ensures.value c.deref-7.ensures.value c.handler_of-handler.ensures c.in_ok-blocks.ensures.lean c.in_ok-made.ensures (c.if-are_stated.ensures.stated refl)
