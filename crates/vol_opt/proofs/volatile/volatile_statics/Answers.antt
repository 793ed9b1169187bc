use Rattle.std.proofs.Common.{List, length, get_or, ap, ◌∙◌, arith}
use Rattle.c_typed.specs.Trees.{StaticTree}
use Rattle.c_typed.specs.Views.{program_of, static_of}
use Rattle.c_typed.specs.declared.program.Static.{Static}
use Rattle.vol_opt.specs.Kept.{part_count, is_volatile}
use Rattle.vol_opt.proofs.Rows.{one_type, pushed}
use Rattle.vol_opt.proofs.volatile.volatile_statics.Goals as goal

pub loop-object-preserved : goal.loop-object-preserved
loop-object-preserved c =
    let p = program_of c.args.p.now in
    let same = c.deref-object-items.ensures.value in
    let size = ap length same in
    pushed (λ (s : StaticTree). is_volatile p s.ty) static_of c.args.p.now.statics.items c.loop-object.object-index c.object-item.result c.is_marked.result c.loop-object.marks.items c.push.new.self.items
    (omega (arith, size)) (c.object-item.is ∙ ap (λ (ss : List Static). get_or ss c.loop-object.object-index c.object-item.result) same)
    (c.is_marked.ensures ∙ one_type p (part_count p) c.in_ok-types.types.targets.items c.in_ok-types.types.structures.items c.in_ok-types.ensures.targets c.in_ok-types.ensures.structures c.object-item.result.ty)
    c.loop-object.invariant c.in_ok-push.ensures.items
