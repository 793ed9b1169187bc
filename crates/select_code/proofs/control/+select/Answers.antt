use Rattle.std.proofs.Common.{◌≡◌, ◌+◌, [], ◌∷◌, ◌++◌, length, take, reverse, refl, sym, ap, ◌∙◌, arith}
use Rattle.std.proofs.lemmas.Result.{on_ok_weaker}
use Rattle.core_code.specs.Tree.{trees_of}
use Rattle.core_code.specs.View.{tree_of, trees_in}
use Rattle.core_code.proofs.Views.{tree_many, tree_if, tree_loop}
use Rattle.select_code.specs.Pieces.{first_label, second_label}
use Rattle.select_code.specs.Selected.{code_of, parts_code, loop_code, turn_code, short_list}
use Rattle.select_code.proofs.Chains.{parts_next, parts_length, jump_same, nothing_same, form_jumps, form_leaps, form_half, form_other, form_whole, if_jump, if_leap, if_one, if_other, if_both, turn_short, turn_whole, turn_other}
use Rattle.select_code.proofs.Others.{no_turn, no_control}
use Rattle.select_code.proofs.control.+select.Goals as goal

pub select_parts-loop-k-preserved : goal.select_parts-loop-k-preserved
select_parts-loop-k-preserved g t c =
    let w = g.W.Wide.code c.args.wide.now in
    let p = c.loop-k.out.list.items in
    let xs = c.args.parts.now in
    let k = c.loop-k.k in
    let x = c.index-parts-k.result in
    let done = c.in_ok-select_with.ensures in
    let kept = c.loop-k.invariant in
    record {
      put = parts_next w c.args.ending (reverse c.args.loops.now.starts.items) c.args.out.now.list.items p c.select_with.new.out.list.items xs k x (omega (arith, c.loop-k-test.true, c.requires)) c.index-parts-k.is kept.put
          (done.put ∙ ap (λ l. p ++ code_of w c.args.ending (reverse l) (length p) (trees_in (take k xs)) (tree_of x)) kept.loops);
      loops = done.loops ∙ kept.loops;
      name = done.name ∙ kept.name;
    }

pub select_turn-returns-in-Some-clause-put : goal.select_turn-returns-in-Some-clause-put
select_turn-returns-in-Some-clause-put g t c =
    let w = g.W.Wide.code c.args.wide.now in
    let loops = reverse c.args.loops.now.starts.items in
    let o = c.args.out.now.list.items in
    let parts = c.in-Many.parts in
    let count = c.in-Some.count in
    on_ok_weaker c.select_parts.result
    (λ h. turn_short w c.args.ending loops o c.select_parts.new.out.list.items parts.items (tree_of c.args.body.now) c.args.top count
    (ap tree_of c.in-Many.is ∙ tree_many parts)
    (sym c.in-Some.is ∙ c.short_list.ensures.value ∙ ap (λ l. short_list (trees_in l)) c.deref.ensures.value)
    (h ∙ ap (λ l. o ++ parts_code w c.args.ending loops (length o) [] (trees_of (trees_in l)) count) c.deref-in-Some.ensures.value))
    c.select_parts.ensures.put

pub select_turn-returns-in_ok-select_parts-in-Many-clause-put : goal.select_turn-returns-in_ok-select_parts-in-Many-clause-put
select_turn-returns-in_ok-select_parts-in-Many-clause-put g t c =
    let w = g.W.Wide.code c.args.wide.now in
    let loops = reverse c.args.loops.now.starts.items in
    let o = c.args.out.now.list.items in
    let parts = c.in-Many.parts in
    let n = c.len.result in
    let counted = parts.ok.0 in
    on_ok_weaker c.put_goto.result
    (λ h. turn_whole w c.args.ending loops o c.select_parts-in-Many.new.out.list.items c.put_goto.new.out.list.items parts.items (tree_of c.args.body.now) c.args.top n
    (ap tree_of c.in-Many.is ∙ tree_many parts)
    (sym c.in_default-short_list.is ∙ c.short_list.ensures.value ∙ ap (λ l. short_list (trees_in l)) c.deref.ensures.value)
    (omega (arith, c.len.ensures, counted))
    (c.in_ok-select_parts-in-Many.ensures.put ∙ ap (λ l. o ++ parts_code w c.args.ending loops (length o) [] (trees_of (trees_in l)) n) c.deref-in-Many.ensures.value)
    h)
    c.put_goto.ensures.put

pub select_turn-returns-in_ok-select_with-in_default : goal.select_turn-returns-in_ok-select_with-in_default
select_turn-returns-in_ok-select_with-in_default g t c =
    let w = g.W.Wide.code c.args.wide.now in
    let done = c.in_ok-select_with-in_default.ensures in
    record {
      put = on_ok_weaker c.put_goto-in_default.result
          (λ h. turn_other w c.args.ending (reverse c.args.loops.now.starts.items) c.args.out.now.list.items c.select_with.new.out.list.items c.put_goto-in_default.new.out.list.items (tree_of c.args.body.now) c.args.top
          (no_turn c.args.body.now c.in_default.not-Many) done.put h)
          c.put_goto-in_default.ensures.put;
      loops = on_ok_weaker c.put_goto-in_default.result (λ h. done.loops) c.put_goto-in_default.ensures.put;
      name = c.put_goto-in_default.ensures.name ∙ done.name;
    }

pub select_with-returns-in-Some-clause-put : goal.select_with-returns-in-Some-clause-put
select_with-returns-in-Some-clause-put g t c =
    let w = g.W.Wide.code c.args.wide.now in
    let items = c.args.loops.now.starts.items in
    let loops = reverse items in
    let o = c.args.out.now.list.items in
    let k = c.in-If in
    on_ok_weaker c.put_jump_if_zero.result
    (λ h. if_jump w c.args.ending loops (trees_in c.args.before.now) (tree_of c.args.c.now) (tree_of k.yes.value) (tree_of k.no.value) k.test k.size
    o c.put_test.new.out.list.items c.put_jump_if_zero.new.out.list.items c.in-Some.label
    (ap tree_of k.is ∙ tree_if k.test k.size k.yes k.no)
    (form_jumps loops (tree_of k.yes.value) (tree_of k.no.value) c.in-Some.label
    (jump_same items c.deref-in-If.result.now k.yes.value c.deref-in-If-2.result.now k.no.value c.short_jump.result c.short_jump.ensures c.deref-in-If.ensures c.deref-in-If-2.ensures ∙ c.in-Some.is))
    c.in_ok-put_test-in-If.ensures.put h)
    c.put_jump_if_zero.ensures.put

pub select_with-returns-in-Some-short_jump-clause-put : goal.select_with-returns-in-Some-short_jump-clause-put
select_with-returns-in-Some-short_jump-clause-put g t c =
    let w = g.W.Wide.code c.args.wide.now in
    let items = c.args.loops.now.starts.items in
    let loops = reverse items in
    let o = c.args.out.now.list.items in
    let k = c.in-If in
    on_ok_weaker c.put_jump_unless_zero.result
    (λ h. if_leap w c.args.ending loops (trees_in c.args.before.now) (tree_of c.args.c.now) (tree_of k.yes.value) (tree_of k.no.value) k.test k.size
    o c.put_test.new.out.list.items c.put_jump_unless_zero.new.out.list.items c.in-Some-short_jump.label
    (ap tree_of k.is ∙ tree_if k.test k.size k.yes k.no)
    (form_leaps loops (tree_of k.yes.value) (tree_of k.no.value) c.in-Some-short_jump.label
    (jump_same items c.deref-in-If.result.now k.yes.value c.deref-in-If-2.result.now k.no.value c.short_jump.result c.short_jump.ensures c.deref-in-If.ensures c.deref-in-If-2.ensures ∙ c.in_default-short_jump.is)
    (jump_same items c.deref-in-If-3.result.now k.no.value c.deref-in-If-4.result.now k.yes.value c.short_jump-in-If.result c.short_jump-in-If.ensures c.deref-in-If-3.ensures c.deref-in-If-4.ensures ∙ c.in-Some-short_jump.is))
    c.in_ok-put_test-in-If.ensures.put h)
    c.put_jump_unless_zero.ensures.put

pub select_with-returns-then-is_empty-clause-put : goal.select_with-returns-then-is_empty-clause-put
select_with-returns-then-is_empty-clause-put g t c =
    let w = g.W.Wide.code c.args.wide.now in
    let items = c.args.loops.now.starts.items in
    let loops = reverse items in
    let o = c.args.out.now.list.items in
    let k = c.in-If in
    let q = c.put_jump_if_zero-then-is_empty.new.out.list.items in
    let counted = c.args.out.now.list.ok.0 in
    let here : c.len-at.result ≡ length o = omega (arith, c.len-at.ensures, counted) in
    on_ok_weaker c.put_label.result
    (λ h. if_one w c.args.ending loops (trees_in c.args.before.now) (tree_of c.args.c.now) (tree_of k.yes.value) (tree_of k.no.value) k.test k.size
    o c.put_test.new.out.list.items q c.select_with.new.out.list.items c.put_label.new.out.list.items c.make_second_label-end.result
    (ap tree_of k.is ∙ tree_if k.test k.size k.yes k.no)
    (form_half loops (tree_of k.yes.value) (tree_of k.no.value)
    (jump_same items c.deref-in-If.result.now k.yes.value c.deref-in-If-2.result.now k.no.value c.short_jump.result c.short_jump.ensures c.deref-in-If.ensures c.deref-in-If-2.ensures ∙ c.in_default-short_jump.is)
    (jump_same items c.deref-in-If-3.result.now k.no.value c.deref-in-If-4.result.now k.yes.value c.short_jump-in-If.result c.short_jump-in-If.ensures c.deref-in-If-3.ensures c.deref-in-If-4.ensures ∙ c.in_default-short_jump-2.is)
    (nothing_same c.deref-in-If-5.result.now k.no.value c.is_empty.result c.is_empty.ensures c.deref-in-If-5.ensures ∙ c.if-is_empty.true))
    (c.make_second_label-end.ensures ∙ ap second_label here)
    c.in_ok-put_test-in-If.ensures.put
    c.in_ok-put_jump_if_zero-in-If.ensures.put
    (c.in_ok-select_with-in-If.ensures.put ∙ ap (λ v. q ++ code_of w c.args.ending loops (length q) [] (tree_of v)) c.deref-then-is_empty.ensures)
    h)
    c.put_label.ensures.put

pub select_with-returns-then-is_empty-2-clause-put : goal.select_with-returns-then-is_empty-2-clause-put
select_with-returns-then-is_empty-2-clause-put g t c =
    let w = g.W.Wide.code c.args.wide.now in
    let items = c.args.loops.now.starts.items in
    let loops = reverse items in
    let o = c.args.out.now.list.items in
    let k = c.in-If in
    let q = c.put_jump_unless_zero-then-is_empty-2.new.out.list.items in
    let counted = c.args.out.now.list.ok.0 in
    let here : c.len-at.result ≡ length o = omega (arith, c.len-at.ensures, counted) in
    on_ok_weaker c.put_label-then-is_empty-2.result
    (λ h. if_other w c.args.ending loops (trees_in c.args.before.now) (tree_of c.args.c.now) (tree_of k.yes.value) (tree_of k.no.value) k.test k.size
    o c.put_test.new.out.list.items q c.select_with-then-is_empty-2.new.out.list.items c.put_label-then-is_empty-2.new.out.list.items c.make_second_label-end.result
    (ap tree_of k.is ∙ tree_if k.test k.size k.yes k.no)
    (form_other loops (tree_of k.yes.value) (tree_of k.no.value)
    (jump_same items c.deref-in-If.result.now k.yes.value c.deref-in-If-2.result.now k.no.value c.short_jump.result c.short_jump.ensures c.deref-in-If.ensures c.deref-in-If-2.ensures ∙ c.in_default-short_jump.is)
    (jump_same items c.deref-in-If-3.result.now k.no.value c.deref-in-If-4.result.now k.yes.value c.short_jump-in-If.result c.short_jump-in-If.ensures c.deref-in-If-3.ensures c.deref-in-If-4.ensures ∙ c.in_default-short_jump-2.is)
    (nothing_same c.deref-in-If-5.result.now k.no.value c.is_empty.result c.is_empty.ensures c.deref-in-If-5.ensures ∙ c.if-is_empty.false)
    (nothing_same c.deref-in-If-6.result.now k.yes.value c.is_empty-in-If.result c.is_empty-in-If.ensures c.deref-in-If-6.ensures ∙ c.if-is_empty-2.true))
    (c.make_second_label-end.ensures ∙ ap second_label here)
    c.in_ok-put_test-in-If.ensures.put
    c.in_ok-put_jump_unless_zero-in-If.ensures.put
    (c.in_ok-select_with-in-If-2.ensures.put ∙ ap (λ v. q ++ code_of w c.args.ending loops (length q) [] (tree_of v)) c.deref-then-is_empty-2.ensures)
    h)
    c.put_label-then-is_empty-2.ensures.put

pub select_with-returns-in-Many-clause-put : goal.select_with-returns-in-Many-clause-put
select_with-returns-in-Many-clause-put g t c =
    let w = g.W.Wide.code c.args.wide.now in
    let loops = reverse c.args.loops.now.starts.items in
    let o = c.args.out.now.list.items in
    let parts = c.in-Many.parts in
    let counted = parts.ok.0 in
    let all : c.len.result ≡ length parts.items = omega (arith, c.len.ensures, counted) in
    on_ok_weaker c.select_parts.result
    (λ h. h ∙ ap (λ l. o ++ parts_code w c.args.ending loops (length o) [] (trees_of (trees_in l)) c.len.result) c.deref.ensures.value
    ∙ ap (λ n. o ++ parts_code w c.args.ending loops (length o) [] (trees_of (trees_in parts.items)) n) (all ∙ sym (parts_length parts.items))
    ∙ ap (λ v. o ++ code_of w c.args.ending loops (length o) (trees_in c.args.before.now) v) (sym (ap tree_of c.in-Many.is ∙ tree_many parts)))
    c.select_parts.ensures.put

pub select_with-returns-in_ok-select_with-in-If-4-clause-put : goal.select_with-returns-in_ok-select_with-in-If-4-clause-put
select_with-returns-in_ok-select_with-in-If-4-clause-put g t c =
    let w = g.W.Wide.code c.args.wide.now in
    let items = c.args.loops.now.starts.items in
    let loops = reverse items in
    let o = c.args.out.now.list.items in
    let k = c.in-If in
    let q = c.put_jump_if_zero-in-If.new.out.list.items in
    let u = c.put_label-in-If.new.out.list.items in
    let counted = c.args.out.now.list.ok.0 in
    let here : c.len-at.result ≡ length o = omega (arith, c.len-at.ensures, counted) in
    on_ok_weaker c.put_label-in-If-2.result
    (λ h. if_both w c.args.ending loops (trees_in c.args.before.now) (tree_of c.args.c.now) (tree_of k.yes.value) (tree_of k.no.value) k.test k.size
    o c.put_test.new.out.list.items q c.select_with-in-If.new.out.list.items c.put_goto.new.out.list.items u c.select_with-in-If-2.new.out.list.items c.put_label-in-If-2.new.out.list.items
    c.make_second_label-end.result c.make_first_label-otherwise.result
    (ap tree_of k.is ∙ tree_if k.test k.size k.yes k.no)
    (form_whole loops (tree_of k.yes.value) (tree_of k.no.value)
    (jump_same items c.deref-in-If.result.now k.yes.value c.deref-in-If-2.result.now k.no.value c.short_jump.result c.short_jump.ensures c.deref-in-If.ensures c.deref-in-If-2.ensures ∙ c.in_default-short_jump.is)
    (jump_same items c.deref-in-If-3.result.now k.no.value c.deref-in-If-4.result.now k.yes.value c.short_jump-in-If.result c.short_jump-in-If.ensures c.deref-in-If-3.ensures c.deref-in-If-4.ensures ∙ c.in_default-short_jump-2.is)
    (nothing_same c.deref-in-If-5.result.now k.no.value c.is_empty.result c.is_empty.ensures c.deref-in-If-5.ensures ∙ c.if-is_empty.false)
    (nothing_same c.deref-in-If-6.result.now k.yes.value c.is_empty-in-If.result c.is_empty-in-If.ensures c.deref-in-If-6.ensures ∙ c.if-is_empty-2.false))
    (c.make_second_label-end.ensures ∙ ap second_label here)
    (c.make_first_label-otherwise.ensures ∙ ap first_label here)
    c.in_ok-put_test-in-If.ensures.put
    c.in_ok-put_jump_if_zero-in-If-2.ensures.put
    (c.in_ok-select_with-in-If-3.ensures.put ∙ ap (λ v. q ++ code_of w c.args.ending loops (length q) [] (tree_of v)) c.deref-in-If-7.ensures)
    c.in_ok-put_goto-in-If.ensures.put
    c.in_ok-put_label-in-If.ensures.put
    (c.in_ok-select_with-in-If-4.ensures.put
    ∙ ap (λ v. u ++ code_of w c.args.ending (reverse c.select_with-in-If.new.loops.starts.items) (length u) [] (tree_of v)) c.deref-in-If-8.ensures
    ∙ ap (λ l. u ++ code_of w c.args.ending (reverse l) (length u) [] (tree_of k.no.value)) c.in_ok-select_with-in-If-3.ensures.loops)
    h)
    c.put_label-in-If-2.ensures.put

pub select_with-returns-in-Loop-clause-put : goal.select_with-returns-in-Loop-clause-put
select_with-returns-in-Loop-clause-put g t c =
    let w = g.W.Wide.code c.args.wide.now in
    let loops = reverse c.args.loops.now.starts.items in
    let o = c.args.out.now.list.items in
    on_ok_weaker c.select_loop.result
    (λ h. h
    ∙ ap (λ v. o ++ loop_code (length o) (turn_code w c.args.ending (length o ∷ loops) (length o + 1) (tree_of v) (first_label (length o)))) c.deref-in-Loop.ensures
    ∙ ap (λ v. o ++ code_of w c.args.ending loops (length o) (trees_in c.args.before.now) v) (sym (ap tree_of c.in-Loop.is ∙ tree_loop c.in-Loop.body)))
    c.select_loop.ensures.put

pub select_with-returns-in_default : goal.select_with-returns-in_default
select_with-returns-in_default g t c =
    let w = g.W.Wide.code c.args.wide.now in
    let loops = reverse c.args.loops.now.starts.items in
    let o = c.args.out.now.list.items in
    let before = trees_in c.args.before.now in
    let none = c.in_default in
    record {
      put = on_ok_weaker c.select_single.result
          (λ h. h ∙ ap (λ code. o ++ code) (no_control w c.args.ending loops (length o) before c.args.c.now none.not-Many none.not-If none.not-Loop))
          c.select_single.ensures.put;
      loops = on_ok_weaker c.select_single.result (λ h. refl) c.select_single.ensures.put;
      name = c.select_single.ensures.name;
    }
