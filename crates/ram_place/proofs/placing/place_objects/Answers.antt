use Rattle.std.proofs.Common.{◌≡◌, ℕ, ◌+◌, List, length, map, sym, ap, ◌∙◌, subst, arith, Result, Err}
use Rattle.std.proofs.lemmas.Result.{err_from_is_err_and}
use Rattle.c_typed.specs.Views.{program_of, static_of}
use Rattle.pic_map.specs.MapView.{object_of}
use Rattle.pic_map.specs.declared.ObjLine.{ObjLine}
use Rattle.ram_place.specs.Answers.{TellsObjects}
use Rattle.ram_place.specs.Placement.{but_below, objects_have}
use Rattle.ram_place.specs.declared.placing.Objects.{Objects}
use Rattle.ram_place.specs.declared.placing.PlaceError.{PlaceError}
use Rattle.ram_place.proofs.Remaining.{IsLeft, left_first, left_gone, left_kept, left_none}
use Rattle.ram_place.proofs.Told.{objects_none, object_placed, object_lost}
use Rattle.ram_place.proofs.placing.place_objects.Goals as goal

pub loop-number-init : goal.loop-number-init
loop-number-init c = record {
  left = subst (λ (n : ℕ). IsLeft c.args.without.now c.args.p.now.statics.items n 0) (sym (ap length c.new-lines.ensures.items)) (left_first c.args.without.now c.args.p.now.statics.items);
  stand = objects_none (but_below (program_of c.args.p.now) c.args.without.now c.args.top) (program_of c.args.p.now) c.new-lines.result.items c.new-lines.ensures.items;
  marks = λ x small. c.none-taken.ensures x ∙ sym (ap (λ (list : List ObjLine). objects_have (map object_of list) x) c.new-lines.ensures.items);
}

pub loop-number-preserved-then-is_left_out : goal.loop-number-preserved-then-is_left_out
loop-number-preserved-then-is_left_out c =
    let i = c.loop-number.invariant in
    record {
      left = left_gone c.args.without.now c.args.p.now.statics.items c.deref-object-items.result.now (length c.loop-number.lines.items) c.loop-number.number c.object-item.result c.deref-object-items.ensures.value
          c.loop-number-test.true c.object-item.is (sym c.is_left_out.ensures ∙ c.if-is_left_out.true) i.left;
      stand = i.stand;
      marks = i.marks;
    }

pub returns-in_err-line : goal.returns-in_err-line
returns-in_err-line c =
    let i = c.loop-number.invariant in
    let e = but_below (program_of c.args.p.now) c.args.without.now c.args.top in
    let next = left_kept c.args.without.now c.args.p.now.statics.items c.deref-object-items.result.now (length c.loop-number.lines.items) c.loop-number.number c.object-item.result c.deref-object-items.ensures.value
    c.loop-number-test.true c.object-item.is (sym c.is_left_out.ensures ∙ c.if-is_left_out.false) i.left in
    let got = err_from_is_err_and c.from_residual.result c.from_residual.ensures.1 in
    let lost = object_lost e (program_of c.args.p.now) c.loop-number.lines.items (static_of c.object-item.result) c.loop-number.taken.marks next.0 i.stand i.marks c.in_err-line.field-0.0 c.in_err-line.ensures in
    let P : Result Objects PlaceError → Type 0 = λ (r : Result Objects PlaceError). TellsObjects e (program_of c.args.p.now) r in
    subst P (sym (got.1 ∙ ap Err got.2)) lost

pub loop-number-preserved : goal.loop-number-preserved
loop-number-preserved c =
    let i = c.loop-number.invariant in
    let e = but_below (program_of c.args.p.now) c.args.without.now c.args.top in
    let next = left_kept c.args.without.now c.args.p.now.statics.items c.deref-object-items.result.now (length c.loop-number.lines.items) c.loop-number.number c.object-item.result c.deref-object-items.ensures.value
    c.loop-number-test.true c.object-item.is (sym c.is_left_out.ensures ∙ c.if-is_left_out.false) i.left in
    let placed = object_placed e (program_of c.args.p.now) c.loop-number.lines.items c.put_object.new.objects.items (static_of c.object-item.result) c.in_ok-line.line c.loop-number.taken.marks c.take.new.self.marks next.0 i.stand i.marks
    c.in_ok-put_object.ensures c.in_ok-line.ensures c.take.ensures in
    record {
      left = subst (λ (n : ℕ). IsLeft c.args.without.now c.args.p.now.statics.items n (c.loop-number.number + 1)) (sym placed.0) next.1;
      stand = placed.1;
      marks = placed.2;
    }

pub returns : goal.returns
returns c =
    let i = c.loop-number.invariant in
    (left_none c.args.without.now c.args.p.now.statics.items c.deref-object-items.result.now (length c.loop-number.lines.items) c.loop-number.number c.deref-object-items.ensures.value (omega (arith, c.loop-number-test.false)) i.left, i.stand, i.marks)
