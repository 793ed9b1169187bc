use Rattle.std.proofs.Common.{◌≡◌, ◌+◌, IfOk, sym, ap, subst, ◌∙◌, arith}
use Rattle.c_typed.specs.Trees as tree
use Rattle.c_typed.specs.Trees.{Expression}
use Rattle.c_typed.specs.Views.{expression_of}
use Rattle.c_typed.specs.declared.expression.TExpr.{TExpr}
use Rattle.rom_tables.specs.Tables.{start_table}
use Rattle.rom_tables.specs.Outlined.{index_argument, outlined_expression, to_unsigned}
use Rattle.rom_tables.proofs.Finding.{start_below}
use Rattle.rom_tables.proofs.Sights.{element_left, element_right, no_element, no_sum, no_conversion, converted_argument}
use Rattle.rom_tables.proofs.expression.+outlining.Goals as goal

pub access-overflow_add-tables : goal.access-overflow_add-tables
access-overflow_add-tables t c = let b = start_below c.args.tables.now.numbers.items (expression_of c.in-Offset.left.value) c.in-Some.table (sym (ap (λ (x : TExpr). start_table c.args.tables.now.numbers.items (expression_of x)) c.deref.ensures) ∙ sym c.start_table.ensures ∙ c.in-Some.is) in omega (arith, b, c.args.tables.now.room)

pub access-returns-in-Some : goal.access-returns-in-Some
access-returns-in-Some t c =
    let a = c.args in
    let o = c.in-Offset in
    subst (λ (x : Expression). IfOk c.called.result (λ made. expression_of made.value ≡ x))
    (ap (λ (x : Expression). tree.Call (a.tables.now.first + c.in-Some.table) (tree.AndExpression x tree.NoExpression) a.ty a.line) (c.in_ok-index-in-Offset.ensures ∙ ap (λ (x : TExpr). index_argument (outlined_expression a.tables.now.numbers.items a.tables.now.first (expression_of x)) a.line) c.deref-in-Some.ensures)
    ∙ element_right a.tables.now.numbers.items a.tables.now.first c.in-Some.table a.pointer.now o.op o.left o.right o.size o.ty o.line a.target a.above a.ty a.line o.is (sym (ap (λ (x : TExpr). start_table c.args.tables.now.numbers.items (expression_of x)) c.deref.ensures) ∙ sym c.start_table.ensures ∙ c.in-Some.is))
    c.called.ensures

pub access-overflow_add-tables-in-Some-start_table : goal.access-overflow_add-tables-in-Some-start_table
access-overflow_add-tables-in-Some-start_table t c = let b = start_below c.args.tables.now.numbers.items (expression_of c.in-Offset.right.value) c.in-Some-start_table.table (sym (ap (λ (x : TExpr). start_table c.args.tables.now.numbers.items (expression_of x)) c.deref-in-Offset.ensures) ∙ sym c.start_table-in-Offset.ensures ∙ c.in-Some-start_table.is) in omega (arith, b, c.args.tables.now.room)

pub access-returns-in-Some-start_table : goal.access-returns-in-Some-start_table
access-returns-in-Some-start_table t c =
    let a = c.args in
    let o = c.in-Offset in
    subst (λ (x : Expression). IfOk c.called-in-Some-start_table.result (λ made. expression_of made.value ≡ x))
    (ap (λ (x : Expression). tree.Call (a.tables.now.first + c.in-Some-start_table.table) (tree.AndExpression x tree.NoExpression) a.ty a.line) (c.in_ok-index-in-Offset-2.ensures ∙ ap (λ (x : TExpr). index_argument (outlined_expression a.tables.now.numbers.items a.tables.now.first (expression_of x)) a.line) c.deref-in-Some-start_table.ensures)
    ∙ element_left a.tables.now.numbers.items a.tables.now.first c.in-Some-start_table.table a.pointer.now o.op o.left o.right o.size o.ty o.line a.target a.above a.ty a.line o.is (sym (ap (λ (x : TExpr). start_table c.args.tables.now.numbers.items (expression_of x)) c.deref.ensures) ∙ sym c.start_table.ensures ∙ c.in_default-start_table.is) (sym (ap (λ (x : TExpr). start_table c.args.tables.now.numbers.items (expression_of x)) c.deref-in-Offset.ensures) ∙ sym c.start_table-in-Offset.ensures ∙ c.in-Some-start_table.is))
    c.called-in-Some-start_table.ensures

pub access-returns-in_ok-pointer-in-Offset : goal.access-returns-in_ok-pointer-in-Offset
access-returns-in_ok-pointer-in-Offset t c =
    let a = c.args in
    let o = c.in-Offset in
    subst (λ (x : Expression). IfOk c.pointed.result (λ made. expression_of made.value ≡ x))
    (ap (λ (x : Expression). tree.Read (tree.Deref x a.target a.above) a.ty a.line) c.in_ok-pointer-in-Offset.ensures
    ∙ no_element a.tables.now.numbers.items a.tables.now.first a.pointer.now o.op o.left o.right o.size o.ty o.line a.target a.above a.ty a.line o.is (sym (ap (λ (x : TExpr). start_table c.args.tables.now.numbers.items (expression_of x)) c.deref.ensures) ∙ sym c.start_table.ensures ∙ c.in_default-start_table.is) (sym (ap (λ (x : TExpr). start_table c.args.tables.now.numbers.items (expression_of x)) c.deref-in-Offset.ensures) ∙ sym c.start_table-in-Offset.ensures ∙ c.in_default-start_table-2.is))
    c.pointed.ensures

pub access-returns-in_ok-pointer-in_default : goal.access-returns-in_ok-pointer-in_default
access-returns-in_ok-pointer-in_default t c =
    let a = c.args in
    subst (λ (x : Expression). IfOk c.pointed-in_default.result (λ made. expression_of made.value ≡ x))
    (ap (λ (x : Expression). tree.Read (tree.Deref x a.target a.above) a.ty a.line) c.in_ok-pointer-in_default.ensures
    ∙ sym (no_sum a.tables.now.numbers.items a.tables.now.first a.target a.above a.ty a.line a.pointer.now c.in_default.not-Offset))
    c.pointed-in_default.ensures

pub index_in-returns-in_ok-operand-in-Convert : goal.index_in-returns-in_ok-operand-in-Convert
index_in-returns-in_ok-operand-in-Convert t c =
    let a = c.args in
    let o = c.in-Convert in
    subst (λ (x : Expression). IfOk c.to_unsigned.result (λ made. expression_of made.value ≡ x))
    (ap (λ (x : Expression). to_unsigned x o.at) (c.in_ok-operand-in-Convert.ensures ∙ ap (λ (x : TExpr). outlined_expression a.tables.now.numbers.items a.tables.now.first (expression_of x)) c.deref.ensures)
    ∙ converted_argument a.tables.now.numbers.items a.tables.now.first a.line a.e.now o.operand o.ty o.at o.is)
    c.to_unsigned.ensures

pub index_in-returns-in_ok-index-in_default : goal.index_in-returns-in_ok-index-in_default
index_in-returns-in_ok-index-in_default t c =
    let a = c.args in
    subst (λ (x : Expression). IfOk c.to_unsigned-in_default.result (λ made. expression_of made.value ≡ x))
    (ap (λ (x : Expression). to_unsigned x a.line) c.in_ok-index-in_default.ensures
    ∙ sym (no_conversion a.tables.now.numbers.items a.tables.now.first a.line a.e.now c.in_default.not-Convert))
    c.to_unsigned-in_default.ensures
