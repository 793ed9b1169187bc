-- That lowering names in a function's code what the function names.
use Rattle.std.specs.Prelude.{◌≡◌, ℕ, Bool, true, false, List, Some}
use Rattle.std.specs.List.{list_all}
use Rattle.c_typed.specs.Trees.{FunctionTree, Program}
use Rattle.call_graph.specs.declared.types.FnCopy.{FnCopy}
use Rattle.lower_expr.specs.Layout.{static_number}
use Rattle.lower_stmt.specs.Bodies.{code_of}
use Rattle.pic_world.specs.declared.Root.{Root}
use Rattle.vol_opt.specs.Uses.{statements_uses}
use Rattle.kept_code.specs.Naming.{code_keeps}

-- Where the static objects that a function names pass one test, and those whose address it takes another one, those pass it that the code of
-- its body names, and whose address the code takes. The number of a static object has two bytes in byte code.
abbrev pub BodiesNameTheirOwn : Type 0
BodiesNameTheirOwn =
    (p : Program) (copies : List FnCopy) (number : ℕ) (root : Root) (f : FunctionTree) (named lent : ℕ → Bool)
    → list_all (λ (n : ℕ). named (static_number n)) (statements_uses true f.body) ≡ true → list_all (λ (n : ℕ). lent (static_number n)) (statements_uses false f.body) ≡ true
    → code_keeps named lent (code_of p copies number root (Some f)) ≡ true
