use Rattle.std.proofs.Common.{List, length, get_or, ap, ◌∙◌, arith}
use Rattle.std.proofs.lemmas.List.{length-map}
use Rattle.c_typed.specs.Views.{function_of, program_of}
use Rattle.c_typed.specs.declared.program.Function.{Function}
use Rattle.vol_opt.proofs.AllKept.{one_named, none_named}
use Rattle.vol_opt.proofs.keeping.mark_handlers.Goals as goal

pub loop-number-preserved : goal.loop-number-preserved
loop-number-preserved c =
    let same = c.deref-function-items.ensures.value in
    let size = ap length same in
    let count = length-map c.args.p.now.functions.items function_of in
    one_named (program_of c.args.p.now) c.args.p.now.functions.items c.loop-number.number c.function-item.result c.is_set.result c.mark_names.new.marks.items c.loop-number.marks.items _
    (omega (arith, size)) (c.function-item.is ∙ ap (λ (fs : List Function). get_or fs c.loop-number.number c.function-item.result) same)
    (c.is_set.ensures ∙ c.requires c.loop-number.number (omega (arith, size, count))) c.mark_names.ensures c.loop-number.invariant

pub returns : goal.returns
returns c =
    let size = ap length c.deref-function-items.ensures.value in
    none_named (program_of c.args.p.now) c.args.p.now.functions.items c.loop-number.number _ _ (omega (arith, size)) c.loop-number.invariant
