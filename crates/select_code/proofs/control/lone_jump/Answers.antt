use Rattle.std.proofs.Common.{reverse, sym, ap, ◌∙◌, arith}
use Rattle.core_code.specs.View.{tree_of}
use Rattle.core_code.proofs.Views.{tree_many}
use Rattle.select_code.specs.Selected.{jump_target, only_of}
use Rattle.select_code.proofs.Others.{no_single}
use Rattle.select_code.proofs.Parts.{one_of, not_one}
use Rattle.select_code.proofs.control.lone_jump.Goals as goal

pub returns-then-len-eq1 : goal.returns-then-len-eq1
returns-then-len-eq1 c =
    let v = c.in-Many.parts in
    let loops = reverse c.args.loops.now.starts.items in
    let counted = v.ok.0 in
    c.jump_of.ensures
    ∙ ap (jump_target loops) (one_of v.items c.index.result.now (omega (arith, c.len.ensures, counted, c.if-len-eq1.true)) c.index.ensures ∙ ap only_of (sym (ap tree_of c.in-Many.is ∙ tree_many v)))

pub returns-else-len-eq1 : goal.returns-else-len-eq1
returns-else-len-eq1 c =
    let v = c.in-Many.parts in
    let loops = reverse c.args.loops.now.starts.items in
    let counted = v.ok.0 in
    not_one loops v.items (λ z. omega (arith, z, c.len.ensures, counted, c.if-len-eq1.false))
    ∙ ap (λ t. jump_target loops (only_of t)) (sym (ap tree_of c.in-Many.is ∙ tree_many v))

pub returns-in_default : goal.returns-in_default
returns-in_default c =
    let loops = reverse c.args.loops.now.starts.items in
    c.jump_of-in_default.ensures ∙ ap (jump_target loops) (no_single c.args.c.now c.in_default.not-Many)
