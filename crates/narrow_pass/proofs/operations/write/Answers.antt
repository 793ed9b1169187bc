use Rattle.std.proofs.Common.{ℕ, Bool, ◌&&◌, if◌then◌else◌, sym, ap, ◌∙◌}
use Rattle.c_ints.specs.Operators.{type_of}
use Rattle.c_ints.specs.Range.{bytes_of}
use Rattle.core_code.specs.View.{tree_of}
use Rattle.core_code.proofs.Views.{tree_binary}
use Rattle.narrow_code.specs.Checked.{put_bytes, number_at, small_at}
use Rattle.narrow_code.specs.Marks.{Mark, Zero, stacked}
use Rattle.narrow_code.specs.Right.{is_small, result_mark}
use Rattle.narrow_pass.specs.Narrowed.{lent_by}
use Rattle.narrow_pass.specs.Ways.{mark_of, marks_of, written}
use Rattle.narrow_pass.proofs.Others.{leaves_marks}
use Rattle.narrow_pass.proofs.operations.write.Goals as goal

pub returns-in-Binary : goal.returns-in-Binary
returns-in-Binary c =
    let b = c.in-Binary in
    let lent = lent_by c.args.lent.now in
    let p = c.args.copy in
    let here = marks_of c.args.here.now.items in
    let mark = result_mark (number_at lent p here b.left) (number_at lent p here b.right) in
    let count = bytes_of (type_of b.op b.ty) in
    let low = rw c.deref-in-Binary.ensures.value at c.result_at-mark.ensures in
    c.put_stacked.ensures
    ∙ ap (λ (n : ℕ). put_bytes p here b.to n (stacked (mark_of c.result_at-mark.result) (mark_of c.upper-high.result))) (c.bytes_in-in-Binary.ensures.value ∙ ap bytes_of c.type_of.ensures)
    ∙ ap (λ (m : Mark). put_bytes p here b.to count (stacked m (mark_of c.upper-high.result))) low
    ∙ ap (λ (m : Mark). put_bytes p here b.to count (stacked mark m))
    (c.upper-high.ensures ∙ ap (λ (t : Bool). if t then Zero else mark_of c.result_at-mark.result) (rw c.deref-in-Binary-2.ensures.value at c.is_thin.ensures)
    ∙ ap (λ (m : Mark). if ((number_at lent p here b.left && number_at lent p here b.right) && is_small b.op (small_at lent p here b.ty b.left b.right)) then Zero else m) low)
    ∙ sym (ap (written lent p here) (ap tree_of b.is ∙ tree_binary b.op b.ty b.to b.left b.right))

pub returns-in_default : goal.returns-in_default
returns-in_default c = let no = c.in_default in
    sym (leaves_marks c.args.c.now no.not-Set no.not-Address no.not-Copy no.not-Load no.not-Unary no.not-Binary no.not-Convert no.not-BitRead no.not-Leave no.not-Exit no.not-Again (lent_by c.args.lent.now) c.args.copy (marks_of c.args.here.now.items))
