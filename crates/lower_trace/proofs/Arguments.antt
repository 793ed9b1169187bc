-- Arguments of a call, from left to right, and then the call.
use Rattle.c_typed.specs.Trees as tree
use Rattle.c_typed.specs.Trees.{Expression, Expressions, Program}
use Rattle.c_typed.specs.declared.types.Ty.{Ty}
use Rattle.core_code.specs.Bytes.{Memory}
use Rattle.core_code.specs.Machine.{Machine}
use Rattle.core_code.specs.declared.code.Byte.TheVariants.{Frame}
use Rattle.core_puts.specs.Bytes.{beyond}
use Rattle.lower_expr.specs.Layout.{Layout, copy_of, value_width, width}
use Rattle.lower_expr.specs.Lowering.{arguments_code, arguments_width, expr_code}
use Rattle.lower_expr.specs.Rows.{called_row}
use Rattle.lower_trace.proofs.Beginnings.{Follow, rests, todo_three}
use Rattle.lower_trace.proofs.CodeLeft.{Scene, base, before_argument, code_after, ground_in, source_in, todo, wanted}
use Rattle.lower_trace.proofs.Mirrors.{HasArguments, HasDatum, Mirrors}
use Rattle.pic_world.specs.World.{World, arrived}
use Rattle.src_rules.specs.Giving.{take_in}
use Rattle.src_rules.specs.Standing.{IsSplit}
use Rattle.src_rules.specs.State.{state}
use Rattle.src_values.specs.Control.{Args, Calls, Eval, In, Passed, Pending, Holds as Value, active}
use Rattle.src_values.specs.Data.{Datum}
use Rattle.src_values.specs.Memory as source
use Rattle.src_values.specs.declared.objects.Byte as value
use Rattle.src_values.specs.declared.objects.CopyOf.{CopyOf}
use Rattle.std.proofs.Common.{List, [], ap, arith, length, length-append, refl, suc, sym, true, ℕ, ◌++◌, ◌∙◌, ◌∷◌, ◌≡◌}

-- where the next argument's value goes
split_next : (l : Layout) (p : Program) (all : Expressions) (before : List Datum) (more : Expressions) (e : Expression) (es : Expressions) (b : ℕ) → IsSplit p all before more → more ≡ tree.AndExpression e es
    → before_argument l (suc (suc (length before))) b all ≡ beyond (before_argument l (suc (length before)) b all) (value_width l e)
split_next l p tree.NoExpression before more e es b s is = absurd s
split_next l p (tree.AndExpression a others) [] more e es b s is = ap (λ x. before_argument l 1 (beyond b (value_width l a)) x) (s ∙ is)
split_next l p (tree.AndExpression a others) (v ∷ vs) more e es b s is = split_next l p others vs more e es (beyond b (value_width l a)) s.1 is

-- one argument more has its value
arguments_more : (z : Scene) (l : Layout) (n b at : ℕ) (all : Expressions) (before : List Datum) (more : Expressions) (v : Datum) (m : Memory) → IsSplit z.program all before more → HasArguments z l n b at all before m
    → HasDatum z n (beyond b (before_argument l (length before) at all)) v m → HasArguments z l n b at all (before ++ v ∷ []) m
arguments_more z l n b at tree.NoExpression before more v m s h d = absurd s
arguments_more z l n b at (tree.AndExpression a others) [] more v m s h d = (d, tt)
arguments_more z l n b at (tree.AndExpression a others) (u ∷ us) more v m s h d = (h.0, arguments_more z l n b (beyond at (value_width l a)) others us more v m s.1 h.1 d)

more_values : (before : List Datum) (v : Datum) → length (before ++ v ∷ []) ≡ suc (length before)
more_values before v = length-append before (v ∷ []) ∙ (omega arith)

module _ (z : Scene) where
  pub argument_given : (function : ℕ) (all : Expressions) (ty : Ty) (line : ℕ) (before : List Datum) (more : Expressions) (v : Datum) (k : List Pending) (cp : CopyOf) (l : source.Memory) (w : World value.Byte) (c : Machine) → IsSplit z.program all before more
      → Mirrors z (state cp (Value v) (In (tree.Call function all ty line) (Args before more) ∷ k) l w) c → Follow z 0 0 c (take_in (source_in z) (tree.Call function all ty line) (Args before more) v k cp l (arrived z.outside w))
  unfolding active expr_code
  argument_given function all ty line before tree.NoExpression v k cp l w c split h =
      let e = tree.Call function all ty line in
      let g = ground_in z cp in
      rests z cp (Value v) Calls (In e (Args before tree.NoExpression) ∷ k) (In e (Passed (before ++ v ∷ [])) ∷ k) l l w c h refl refl refl h.agrees
      (arguments_more z g.layout g.copy (base g k) 0 all before tree.NoExpression v c.memory split h.holds.0 h.value, h.holds.1) tt
  argument_given function all ty line before (tree.AndExpression a others) v k cp l w c split h =
      let e = tree.Call function all ty line in
      let g = ground_in z cp in
      let b = base g k in
      let count = more_values before v in
      let at : before_argument g.layout (suc (length before)) 0 all ≡ before_argument g.layout (length (before ++ v ∷ [])) 0 all = ap (λ i. before_argument g.layout i 0 all) (sym count) in
      let behind_it : beyond (before_argument g.layout (suc (length before)) 0 all) (value_width g.layout a) ≡ before_argument g.layout (suc (length (before ++ v ∷ []))) 0 all =
      sym (split_next g.layout z.program all before (tree.AndExpression a others) a others 0 split refl) ∙ ap (λ i. before_argument g.layout (suc i) 0 all) (sym count) in
      let rest = called_row (wanted k) g.layout.root (copy_of g.layout function) (Frame g.copy b) (arguments_width g.layout 0 all) (width g.layout ty) in
      rests z cp (Value v) (Eval a) (In e (Args before (tree.AndExpression a others)) ∷ k) (In e (Args (before ++ v ∷ []) others) ∷ k) l l w c h refl
      (todo_three (expr_code g.layout g.copy (beyond b (before_argument g.layout (suc (length before)) 0 all)) true a) (arguments_code g.layout g.copy b (beyond (before_argument g.layout (suc (length before)) 0 all) (value_width g.layout a)) others) rest (code_after g k)
      ∙ ap (λ i. todo (expr_code g.layout g.copy (beyond b i) true a) (todo (arguments_code g.layout g.copy b (beyond (before_argument g.layout (suc (length before)) 0 all) (value_width g.layout a)) others ++ rest) (code_after g k))) at
      ∙ ap (λ i. todo (expr_code g.layout g.copy (beyond b (before_argument g.layout (length (before ++ v ∷ [])) 0 all)) true a) (todo (arguments_code g.layout g.copy b i others ++ rest) (code_after g k))) behind_it)
      refl h.agrees
      (arguments_more z g.layout g.copy b 0 all before (tree.AndExpression a others) v c.memory split h.holds.0 h.value, h.holds.1) tt
