use Rattle.std.proofs.Common.{refl, sym, ◌+◌, map, drop}
use Rattle.std.proofs.lemmas.Result.{err_from_is_err_and}
use Rattle.c_nodes.specs.Views.{spec_of, specs_of, type_name_of}
use Rattle.c_nodes.specs.Words.{spell_pointers}
use Rattle.c_tables.specs.Tables.{known_of}
use Rattle.c_nodes.specs.declared.expression.Binary.TheViews.{out-Specs}
use Rattle.c_nodes.proofs.Shapes.{show_specs}
use Rattle.type_rules.specs.Specifiers.{OfTypeName, nothing_gathered, specifiers, specs_line}
use Rattle.type_rules.specs.TypeNames.{named_spec, type_named}
use Rattle.check_expr.proofs.Declaring.{names_begin, names_refused, names_at, names_end, name_waits, name_whole, left_more, left_ends, after_named, finish_name, rest_names}
use Rattle.c_outline.specs.Views.{specified_of}
use Rattle.c_outline.proofs.Outlining.{refused_through}
use Rattle.check_expr.proofs.type_name.type_named.Goals as goal

pub returns-in_err-words : goal.returns-in_err-words
returns-in_err-words c =
    let p = err_from_is_err_and c.from_residual.result c.from_residual.ensures.1 in
    rw (p.1, p.2) (names_refused (type_name_of c.args.name.now) (specs_of c.args.name.now.0) (spec_of (out-Specs c.args.name.now.0).first) (map spec_of (out-Specs c.args.name.now.0).others.items) (spell_pointers c.args.name.now.1.items) (known_of c.args.checker.now) c.in_err-words.field-0.0 refl (show_specs c.args.name.now.0) (c.in_err-words.ensures nothing_gathered c.none.ensures))

pub loop-spec-init : goal.loop-spec-init
loop-spec-init c = rw c.deref-spec-items.ensures.value (names_begin (type_name_of c.args.name.now) (specs_of c.args.name.now.0) (spec_of (out-Specs c.args.name.now.0).first) (map spec_of (out-Specs c.args.name.now.0).others.items) (spell_pointers c.args.name.now.1.items) c.in_ok-words.words (known_of c.args.checker.now) (known_of c.args.checker.now) refl (show_specs c.args.name.now.0) (c.in_ok-words.ensures nothing_gathered c.none.ensures))

pub loop-spec-preserved : goal.loop-spec-preserved
loop-spec-preserved c = left_more (finish_name (specs_of c.args.name.now.0) (spell_pointers c.args.name.now.1.items)) (rest_names (map spec_of (drop c.loop-spec.spec-index c.deref-spec-items.result.now))) (rest_names (map spec_of (drop (c.loop-spec.spec-index + 1) c.deref-spec-items.result.now))) (named_spec (spec_of c.spec-item.result)) c.loop-spec.words c.in_ok-words-2.words (known_of c.args.checker.now) (known_of c.args.checker.now) (type_named (type_name_of c.args.name.now) (known_of c.args.checker.now)) (names_at c.deref-spec-items.result.now c.loop-spec.spec-index c.spec-item.result c.loop-spec-test.true c.spec-item.is) c.loop-spec.invariant c.in_ok-words-2.ensures

pub returns-in_err-base : goal.returns-in_err-base
returns-in_err-base c =
    let p = err_from_is_err_and c.from_residual-in_err-base.result c.from_residual-in_err-base.ensures.1 in
    let g = c.loop-spec.invariant.gathered in
    let ends = left_ends (finish_name (specs_of c.args.name.now.0) (spell_pointers c.args.name.now.1.items)) (rest_names (map spec_of (drop c.loop-spec.spec-index c.deref-spec-items.result.now))) c.loop-spec.words (known_of c.args.checker.now) (type_named (type_name_of c.args.name.now) (known_of c.args.checker.now)) (names_end c.deref-spec-items.result.now c.loop-spec.spec-index c.loop-spec-test.false) c.loop-spec.invariant in
    rw (p.1, p.2, ends) (refused_through c.in_err-base.field-0.0 (after_named (spell_pointers c.args.name.now.1.items)) (specifiers OfTypeName g (specs_line (specs_of c.args.name.now.0)) (known_of c.args.checker.now)) (rw c.specs_line.ensures at (c.in_err-base.ensures g (known_of c.args.checker.now) c.loop-spec.invariant.kept (c.is_file-in_file.ensures (known_of c.args.checker.now)))))

pub returns-then-is_waiting : goal.returns-then-is_waiting
returns-then-is_waiting c =
    let g = c.loop-spec.invariant.gathered in
    let ends = left_ends (finish_name (specs_of c.args.name.now.0) (spell_pointers c.args.name.now.1.items)) (rest_names (map spec_of (drop c.loop-spec.spec-index c.deref-spec-items.result.now))) c.loop-spec.words (known_of c.args.checker.now) (type_named (type_name_of c.args.name.now) (known_of c.args.checker.now)) (names_end c.deref-spec-items.result.now c.loop-spec.spec-index c.loop-spec-test.false) c.loop-spec.invariant in
    let given = rw c.specs_line.ensures at (c.in_ok-base.ensures g (known_of c.args.checker.now) c.loop-spec.invariant.kept (c.is_file-in_file.ensures (known_of c.args.checker.now))) in
    rw (c.refused.ensures, ends) (name_waits (specs_of c.args.name.now.0) (spell_pointers c.args.name.now.1.items) g (specified_of c.in_ok-base.base) (known_of c.args.checker.now) _ given (sym c.if-is_waiting.ensures))

pub returns : goal.returns
returns c =
    let g = c.loop-spec.invariant.gathered in
    let ends = left_ends (finish_name (specs_of c.args.name.now.0) (spell_pointers c.args.name.now.1.items)) (rest_names (map spec_of (drop c.loop-spec.spec-index c.deref-spec-items.result.now))) c.loop-spec.words (known_of c.args.checker.now) (type_named (type_name_of c.args.name.now) (known_of c.args.checker.now)) (names_end c.deref-spec-items.result.now c.loop-spec.spec-index c.loop-spec-test.false) c.loop-spec.invariant in
    let given = rw c.specs_line.ensures at (c.in_ok-base.ensures g (known_of c.args.checker.now) c.loop-spec.invariant.kept (c.is_file-in_file.ensures (known_of c.args.checker.now))) in
    rw (ends, name_whole (specs_of c.args.name.now.0) (spell_pointers c.args.name.now.1.items) g (specified_of c.in_ok-base.base) (known_of c.args.checker.now) _ given (sym c.if-is_waiting.ensures)) (rw c.deref.ensures.value at c.pointers.ensures)
