-- What is left of lists of parts, of the trees that the code has.
use Rattle.std.proofs.Common.{◌≡◌, ℕ, zero, suc, ◌+◌, ◌<◌, ◌≤◌, min, nat_lt, Bool, length, arith, List, [], ◌∷◌, ◌++◌, true, false, map, refl, sym, ap, ◌∙◌}
use Rattle.std.specs.Prelude.{get_or}
use Rattle.c_typed.proofs.Shapes.{show_expression_call}
use Rattle.c_typed.specs.Trees as tree
use Rattle.c_typed.specs.Trees.{Expression, Expressions}
use Rattle.c_typed.specs.Views.{expression_of, arguments_of}
use Rattle.c_typed.specs.declared.expression.TExpr.{TExpr}
use Rattle.c_typed.specs.declared.expression.TExpr.TheVariants as TExpr
use Rattle.src_machine.specs.Seen.{AreArgumentsOf}
use Rattle.pic_world.specs.World.{World}
use Rattle.std.proofs.lemmas.Bool.{ltb-true, ltb-false}
use Rattle.std.specs.Global.{Global}
use Rattle.std.specs.declared.vec.Vec.{Vec}
use Rattle.src_machine.proofs.Begins.{eval_call}
use Rattle.src_machine.proofs.Takes.{args_call}
use Rattle.src_rules.specs.Giving.{take_in}
use Rattle.src_rules.specs.Expressions.{eval, arguments}
use Rattle.src_values.specs.Control.{Focus, Pending, Args}
use Rattle.src_values.specs.Data.{Datum}
use Rattle.src_values.specs.Memory.{Setting, Memory}
use Rattle.src_values.specs.Seen.{expressions_from, arguments_from, values_on, datum_of, frames_in, frames_behind}
use Rattle.src_values.specs.declared.control.Pending.{Pending as Frame}
use Rattle.src_values.specs.declared.control.Pending.TheVariants as frames
use Rattle.src_values.specs.declared.objects.Byte.{Byte}
use Rattle.src_values.specs.declared.objects.CopyOf.{CopyOf}

append_one : (xs : List Datum) (x : Datum) → xs ++ x ∷ [] ≡ [] → ⊥
append_one [] x h = absurd (cc)
append_one (y ∷ ys) x h = absurd (cc)

pub no_more_arguments : (xs : List TExpr) (n : ℕ) → length xs ≤ n → expressions_from n (arguments_of (map expression_of xs)) ≡ tree.NoExpression
no_more_arguments [] zero h = refl
no_more_arguments [] (suc n) h = refl
no_more_arguments (x ∷ xs) zero h = absurd (omega arith)
no_more_arguments (x ∷ xs) (suc n) h = no_more_arguments xs n (omega arith)

pub more_arguments : (xs : List TExpr) (n : ℕ) (e : TExpr) → n < length xs → e ≡ get_or xs n e → expressions_from n (arguments_of (map expression_of xs)) ≡ tree.AndExpression (expression_of e) (expressions_from (suc n) (arguments_of (map expression_of xs)))
more_arguments [] n e h i = absurd (omega arith)
more_arguments (x ∷ xs) zero e h i = ap (λ y. tree.AndExpression (expression_of y) (arguments_of (map expression_of xs))) (sym i)
more_arguments (x ∷ xs) (suc n) e h i = more_arguments xs n e (omega arith) i

pub arguments_of_call : (function : _) (given : _) (ty : _) (line : _) → AreArgumentsOf (expression_of (TExpr.Call function given ty line)) (arguments_of (map expression_of given.items))
arguments_of_call function given ty line n = ap (arguments_from n) (show_expression_call function given ty line)

-- ---- values on top
pub no_value_below : (x : Focus) (k : List Frame) → values_on k ≡ [] → frames_behind x true k ≡ frames_behind x false k
no_value_below x [] h = refl
no_value_below x (frames.In e got ∷ k) h = refl
no_value_below x (frames.Value v ∷ k) h = absurd (append_one (values_on k) (datum_of v) h)
no_value_below x (frames.To place ∷ k) h = refl
no_value_below x (frames.Doing code stage ∷ k) h = refl
no_value_below x (frames.Before ss at ∷ k) h = refl
no_value_below x (frames.Ended ∷ k) h = refl
no_value_below x (frames.Returns copy ∷ k) h = refl
no_value_below x (frames.Resumes copy ∷ k) h = refl

-- a call begins where no value of another one stands on top
pub eval_call_above : (function : _) (given : _) (ty : _) (line : _) (x : Focus) (k : List Frame) (c : CopyOf) (m : Memory) (w : World Byte) → values_on k ≡ []
    → eval (expression_of (TExpr.Call function given ty line)) (frames_in x k) c m w
    ≡ arguments (expression_of (TExpr.Call function given ty line)) (values_on k) (expressions_from 0 (arguments_of (map expression_of given.items))) (frames_behind x true k) c m w
eval_call_above function given ty line x k c m w none =
    eval_call function given ty line (frames_in x k) c m w
    ∙ ap (λ k. arguments (expression_of (TExpr.Call function given ty line)) [] (arguments_of (map expression_of given.items)) k c m w) (sym (no_value_below x k none))
    ∙ ap (λ values. arguments (expression_of (TExpr.Call function given ty line)) values (arguments_of (map expression_of given.items)) (frames_behind x true k) c m w) (sym none)

-- ---- the next argument
next_by : (xs : List TExpr) (n m : ℕ) → m ≡ min (n + 1) 18446744073709551615 → length xs < 9223372036854775808 → (b : Bool) → nat_lt (n + 1) 18446744073709551615 ≡ b
    → expressions_from m (arguments_of (map expression_of xs)) ≡ expressions_from (n + 1) (arguments_of (map expression_of xs))
next_by xs n m e small true h = ap (λ k. expressions_from k (arguments_of (map expression_of xs))) (let i = ltb-true (n + 1) 18446744073709551615 h in omega (arith, e, i))
next_by xs n m e small false h =
    let i = ltb-false (n + 1) 18446744073709551615 h in
    no_more_arguments xs m (omega (arith, e, i, small)) ∙ sym (no_more_arguments xs (n + 1) (omega (arith, i, small)))

pub next_argument : (xs : List TExpr) (n m : ℕ) → m ≡ min (n + 1) 18446744073709551615 → length xs < 9223372036854775808
    → expressions_from m (arguments_of (map expression_of xs)) ≡ expressions_from (n + 1) (arguments_of (map expression_of xs))
next_argument xs n m e small = next_by xs n m e small (nat_lt (n + 1) 18446744073709551615) refl

-- an argument more has its value
pub argument_passed : (function : _) (given : Vec TExpr Global) (ty : _) (line : _) (s : Setting) (values : List Datum) (n m : ℕ) (v : Datum) (k : List Pending) (c : CopyOf) (h : Memory) (w : World Byte)
    → m ≡ min (n + 1) 18446744073709551615 → length given.items < 9223372036854775808
    → arguments (expression_of (TExpr.Call function given ty line)) (values ++ v ∷ []) (expressions_from m (arguments_of (map expression_of given.items))) k c h w
    ≡ take_in s (expression_of (TExpr.Call function given ty line)) (Args values (arguments_from (n + 1) (expression_of (TExpr.Call function given ty line)))) v k c h w
argument_passed function given ty line s values n m v k c h w e small =
    ap (λ es. arguments (expression_of (TExpr.Call function given ty line)) (values ++ v ∷ []) es k c h w) (next_argument given.items n m e small ∙ sym (arguments_of_call function given ty line (n + 1)))
    ∙ sym (args_call s function given ty line values (arguments_from (n + 1) (expression_of (TExpr.Call function given ty line))) v k c h w)
