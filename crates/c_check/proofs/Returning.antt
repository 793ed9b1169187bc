-- The values that a function returns and a switch looks at, behind those of their expressions.
use Rattle.std.proofs.Common.{◌≡◌, ℕ, false, [], ◌∷◌, Option, Some, Result, Ok, Err, refl, sym, ap, subst, ◌∙◌}
use Rattle.c_ints.specs.Conversions.{promoted}
use Rattle.c_ints.specs.declared.types.IntTy.{IntTy}
use Rattle.c_nodes.specs.Trees.{Tree}
use Rattle.c_typed.specs.Sameness.{is_void}
use Rattle.c_typed.specs.Trees as typed
use Rattle.c_typed.specs.Trees.{Expression, Statement}
use Rattle.c_typed.specs.Types.{type_of}
use Rattle.c_typed.specs.declared.types.Ty.TheVariants.{Int}
use Rattle.type_rules.specs.Conversions.{assigned, converted}
use Rattle.type_rules.specs.Expressions.{value_of}
use Rattle.type_rules.specs.Faults as kind
use Rattle.type_rules.specs.Faults.{Fault}
use Rattle.type_rules.specs.Known.{Known, Rule, given, known_here, tried, wanted, go_on, ◌>>=◌}
use Rattle.type_rules.specs.Statements as rule
use Rattle.type_rules.specs.Terms.{Operand}
use Rattle.c_tables.specs.Answers.{Answers}
use Rattle.c_tables.specs.declared.error.CheckError.{CheckError}
use Rattle.c_check.specs.StatementViews.{switched_rule, valued_return}

abbrev returning : ℕ → Operand → Rule Expression
returning line x = known_here >>= (λ known. tried ((is_void (known.body).result, kind.Return) ∷ []) line >>= (λ _. assigned x (known.body).result line))

pub value_returned : {X : Type 0} (view : X → Expression) (e : Tree) (line : ℕ) (known mid : Known) (x : Operand) (result : Result X CheckError) (after : Known) → value_of e known ≡ Ok (x, mid) → is_void (mid.body).result ≡ false → Answers view result after (assigned x (mid.body).result line mid) → Answers view result after (valued_return e line known)
value_returned view e line known mid x result after found valued h =
    subst (Answers view result after) (sym (ap (λ b. go_on (λ _. assigned x (mid.body).result line) (tried ((b, kind.Return) ∷ []) line mid)) valued) ∙ sym (ap (go_on (returning line)) found)) h

grouped : {A B C : Type 0} (f : A → Rule B) (g : B → Rule C) (said : Result (A × Known) Fault) → go_on g (go_on f said) ≡ go_on (λ a. f a >>= g) said
grouped f g (Ok x) = refl
grouped f g (Err fault) = refl

abbrev statement_with : ℕ → Expression → Rule Statement
statement_with line value = given (typed.Return (Some value) line)

return_from : (line : ℕ) (said : Result (Operand × Known) Fault) → go_on (statement_with line) (go_on (returning line) said) ≡ go_on (λ x. known_here >>= (λ known. tried ((is_void (known.body).result, kind.Return) ∷ []) line >>= (λ _. assigned x (known.body).result line >>= statement_with line))) said
return_from line (Ok x) = grouped (λ _. assigned x.0 ((x.1).body).result line) (statement_with line) (tried ((is_void ((x.1).body).result, kind.Return) ∷ []) line x.1)
return_from line (Err fault) = refl

-- A `return` is the value of its expression in the function's type, and a statement with it.
pub return_starts : (e : Tree) (line : ℕ) (known : Known) → go_on (λ value. given (typed.Return (Some value) line)) (valued_return e line known) ≡ rule.return_statement (Some e) line known
return_starts e line known = return_from line (value_of e known)

-- what a switch looks at
pub switched_is : (e : Tree) (known mid : Known) (x : Operand) (ty own : IntTy) (value : Expression) → value_of e known ≡ Ok (x, mid) → rule.int_of (type_of x.value) ≡ Some ty → own ≡ promoted ty → given (converted x (Int own)) mid ≡ Ok (value, mid) → switched_rule e known ≡ Ok ((value, own), mid)
switched_is e known mid x ty own value found integer same h =
    ap (go_on (λ (y : Operand). wanted kind.Operand y.line (rule.int_of (type_of y.value)) >>= (λ (t : IntTy). given (converted y (Int (promoted t)), promoted t)))) found
    ∙ ap (λ (o : Option IntTy). go_on (λ (t : IntTy). given (converted x (Int (promoted t)), promoted t)) (wanted kind.Operand x.line o mid)) integer
    ∙ ap (λ (t : IntTy). given (converted x (Int t), t) mid) (sym same)
    ∙ ap (go_on (λ v. given (v, own))) h
