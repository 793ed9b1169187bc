use Rattle.std.proofs.Common.{refl, get_or, []}
use Rattle.std.proofs.lemmas.Result.{err_from_is_err_and}
use Rattle.c_pre.specs.declared.program.Free.{Free}
use Rattle.c_pre.proofs.Finishing.{finishes_on, finishes_end, finishes_stop, made_of_item, marks_at_item, marks_after_item}
use Rattle.c_pre.proofs.program.replace_all.Goals as goal

abbrev nothing : Free
nothing = record { token = record { ref_ptr = (0, 0); now = [] }; line = 0; known = 0 }

pub replace-requires : goal.replace-requires
replace-requires c =
    marks_at_item c.args.text.now c.args.definitions.now.list.items c.in_ok-lists.lists.items c.deref.result.now (get_or c.args.free.now c.loop-item.item-index nothing).known c.loop-item.busy c.loop-item.busy
    c.in_ok-lists.ensures.ok c.deref.ensures.value c.loop-item.invariant.1 refl

pub loop-item-preserved : goal.loop-item-preserved
loop-item-preserved c =
    let ds = c.args.definitions.now.list.items in
    let fs = c.args.free.now in
    let i = c.loop-item.item-index in (
      finishes_on c.args.text.now ds fs c.loop-item.output c.replace.new.output i nothing _ c.loop-item.invariant.0 c.loop-item-test.true
          (made_of_item c.args.text.now ds fs i nothing c.in_ok-lists.lists.items c.deref.result.now c.look_up.result _ c.requires.free c.loop-item-test.true c.in_ok-lists.ensures.ok c.deref.ensures.value c.look_up.ensures)
          c.in_ok-replace.ensures.passes,
      marks_after_item c.args.text.now ds c.in_ok-lists.lists.items c.deref.result.now (get_or fs i nothing).known c.loop-item.busy _
          c.in_ok-lists.ensures.ok c.deref.ensures.value c.loop-item.invariant.1 (c.requires.free i nothing c.loop-item-test.true).1 c.in_ok-replace.ensures.unmarked,
    )

pub returns-in_err-replace : goal.returns-in_err-replace
returns-in_err-replace c =
    let ds = c.args.definitions.now.list.items in
    let fs = c.args.free.now in
    let i = c.loop-item.item-index in
    let p = err_from_is_err_and c.from_residual-in_err-replace.result c.from_residual-in_err-replace.ensures.1 in
    rw (p.1, p.2)
    (finishes_stop c.args.text.now ds fs c.loop-item.output i nothing _ c.in_err-replace.field-0.0 c.loop-item.invariant.0 c.loop-item-test.true
    (made_of_item c.args.text.now ds fs i nothing c.in_ok-lists.lists.items c.deref.result.now c.look_up.result _ c.requires.free c.loop-item-test.true c.in_ok-lists.ensures.ok c.deref.ensures.value c.look_up.ensures)
    c.in_err-replace.ensures.passes)

pub returns : goal.returns
returns c =
    finishes_end c.args.text.now c.args.definitions.now.list.items c.args.free.now c.loop-item.output c.loop-item.item-index c.loop-item.invariant.0 c.loop-item-test.false
