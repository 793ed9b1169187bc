-- Calls: what each rule says, by what its parts are, and lists of arguments read from the front.
use Rattle.std.proofs.Common.{◌≡◌, ℕ, Bool, true, not, nat_eq, List, [], ◌∷◌, ◌++◌, length, Option, Some, Result, Ok, Err, refl, sym, ap, subst, ◌∙◌, arith}
use Rattle.c_typed.specs.Trees as typed
use Rattle.c_typed.specs.Trees.{Expression, Expressions}
use Rattle.c_typed.specs.Views.{arguments_of}
use Rattle.c_typed.specs.declared.types.Ty.{Ty}
use Rattle.type_rules.specs.Conversions.{assigned}
use Rattle.type_rules.specs.Faults as kind
use Rattle.type_rules.specs.Faults.{Fault}
use Rattle.type_rules.specs.Known.{Signature, Known, Rule, given, tried, wanted, go_on, ◌>>=◌}
use Rattle.type_rules.specs.Terms.{Term, Operand, value_term}
use Rattle.type_rules.specs.Writes.{function_named, signature_in, passed, call}
use Rattle.c_tables.specs.Answers.{Refuses}
use Rattle.c_tables.specs.declared.error.CheckError.{CheckError}
use Rattle.c_tables.proofs.Steps.{then_refuses}

-- ---- arguments

-- arguments that stand before others
abbrev pub in_front : List Expression → Expressions → Expressions
in_front [] others = others
in_front (x ∷ xs) others = typed.AndExpression x (in_front xs others)

abbrev pub behind : List Expression → Result (Expressions × Known) Fault → Result (Expressions × Known) Fault
behind made said = go_on (λ others. given (in_front made others)) said

in_front_all : (made : List Expression) → in_front made typed.NoExpression ≡ arguments_of made
in_front_all [] = refl
in_front_all (x ∷ xs) = ap (typed.AndExpression x) (in_front_all xs)

in_front_one : (made : List Expression) (x : Expression) (others : Expressions) → in_front (made ++ x ∷ []) others ≡ in_front made (typed.AndExpression x others)
in_front_one [] x others = refl
in_front_one (y ∷ ys) x others = ap (typed.AndExpression y) (in_front_one ys x others)

behind_one : (made : List Expression) (x : Expression) (said : Result (Expressions × Known) Fault) → behind made (go_on (λ others. given (typed.AndExpression x others)) said) ≡ behind (made ++ x ∷ []) said
behind_one made x (Ok found) = ap (λ values. Ok (values, found.1)) (sym (in_front_one made x found.0))
behind_one made x (Err fault) = refl

abbrev value_then : List Operand → List Ty → ℕ → Expression → Rule Expressions
value_then xs types line value = passed xs types line >>= (λ values. given (typed.AndExpression value values))

joined : (left xs : List Operand) (x : Operand) (rest types : List Ty) (ty : Ty) (line : ℕ) (known : Known) → left ≡ x ∷ xs → rest ≡ ty ∷ types → passed left rest line known ≡ passed (x ∷ xs) (ty ∷ types) line known
joined left xs x rest types ty line known l r = ap (λ ls. passed ls rest line known) l ∙ ap (λ rs. passed (x ∷ xs) rs line known) r

-- One argument more is made.
pub passed_one : (all : Result (Expressions × Known) Fault) (made more : List Expression) (left xs : List Operand) (x : Operand) (rest types : List Ty) (ty : Ty) (line : ℕ) (known : Known) (value : Expression) → all ≡ behind made (passed left rest line known) → left ≡ x ∷ xs → rest ≡ ty ∷ types → assigned x ty line known ≡ Ok (value, known) → more ≡ made ++ value ∷ [] → all ≡ behind more (passed xs types line known)
passed_one all made more left xs x rest types ty line known value h l r e m =
    h ∙ (ap (behind made) (joined left xs x rest types ty line known l r) ∙ (ap (λ said. behind made (go_on (value_then xs types line) said)) e ∙ (behind_one made value (passed xs types line known) ∙ sym (ap (λ values. behind values (passed xs types line known)) m))))

-- One that can't be its parameter refuses all.
pub passed_none : (all : Result (Expressions × Known) Fault) (made : List Expression) (left xs : List Operand) (x : Operand) (rest types : List Ty) (ty : Ty) (line : ℕ) (known : Known) (e : CheckError) → all ≡ behind made (passed left rest line known) → left ≡ x ∷ xs → rest ≡ ty ∷ types → Refuses e (assigned x ty line known) → Refuses e all
passed_none all made left xs x rest types ty line known e h l r refuses =
    subst (Refuses e) (sym (h ∙ ap (behind made) (joined left xs x rest types ty line known l r)))
    (then_refuses (λ k. go_on (value_then xs types line) (assigned x ty line k)) (λ others. given (in_front made others)) known e (then_refuses (assigned x ty line) (value_then xs types line) known e refuses))

no_more : (xs : List Operand) (types : List Ty) (line : ℕ) (known : Known) → types ≡ [] → passed xs types line known ≡ Ok (typed.NoExpression, known)
no_more [] types line known h = refl
no_more (x ∷ xs) types line known h = ap (λ left. passed (x ∷ xs) left line known) h

pub passed_all : (all : Result (Expressions × Known) Fault) (made : List Expression) (left : List Operand) (rest : List Ty) (line : ℕ) (known : Known) → all ≡ behind made (passed left rest line known) → left ≡ [] → all ≡ Ok (arguments_of made, known)
passed_all all made left rest line known h none = h ∙ (ap (λ ls. behind made (passed ls rest line known)) none ∙ ap (λ values. Ok (values, known)) (in_front_all made))

pub passed_to_all : (all : Result (Expressions × Known) Fault) (made : List Expression) (xs : List Operand) (types : List Ty) (line : ℕ) (known : Known) → all ≡ behind made (passed xs types line known) → types ≡ [] → all ≡ Ok (arguments_of made, known)
passed_to_all all made xs types line known h none = h ∙ (ap (behind made) (no_more xs types line known none) ∙ ap (λ values. Ok (values, known)) (in_front_all made))

-- ---- a call

abbrev pub call_term : ℕ → Signature → Expressions → ℕ → Term
call_term function signature values line = value_term (typed.Call function values (signature.result).ty line) line

abbrev pub passed_then : ℕ → Signature → ℕ → Expressions → Rule Term
passed_then function signature line values = given (call_term function signature values line)

abbrev pub counted_then : List Operand → ℕ → Signature → ℕ → Bool → Rule Term
counted_then arguments line signature function same = tried ((not same, kind.Call) ∷ []) line >>= (λ _. passed arguments signature.params line >>= passed_then function signature line)

abbrev function_then : List Operand → ℕ → Signature → Option ℕ → Rule Term
function_then arguments line signature definition = wanted kind.Name line definition >>= (λ function. counted_then arguments line signature function (nat_eq (length signature.params) (length arguments)))

abbrev signature_then : List Operand → ℕ → Option Signature → Rule Term
signature_then arguments line found = wanted kind.Call line found >>= (λ signature. function_then arguments line signature signature.definition)

signed : (t : Term) (arguments : List Operand) (known : Known) (number : ℕ) (signature : Signature) → function_named t.form ≡ Some number → signature_in known (Some number) ≡ Some signature → call t arguments known ≡ function_then arguments t.start signature signature.definition known
signed t arguments known number signature h some = ap (λ named. signature_then arguments t.start (signature_in known named) known) h ∙ ap (λ found. signature_then arguments t.start found known) some

pub to_definition : (t : Term) (arguments : List Operand) (known : Known) (number : ℕ) (signature : Signature) (function : ℕ) → function_named t.form ≡ Some number → signature_in known (Some number) ≡ Some signature → signature.definition ≡ Some function → call t arguments known ≡ counted_then arguments t.start signature function (nat_eq (length signature.params) (length arguments)) known
to_definition t arguments known number signature function h some d = signed t arguments known number signature h some ∙ ap (λ found. function_then arguments t.start signature found known) d

same_count : (all : Result (Term × Known) Fault) (arguments : List Operand) (line : ℕ) (known : Known) (signature : Signature) (function : ℕ) → all ≡ counted_then arguments line signature function (nat_eq (length signature.params) (length arguments)) known → nat_eq (length signature.params) (length arguments) ≡ true → all ≡ go_on (passed_then function signature line) (passed arguments signature.params line known)
same_count all arguments line known signature function h same = h ∙ ap (λ s. counted_then arguments line signature function s known) same

pub not_passed : (all : Result (Term × Known) Fault) (arguments : List Operand) (line : ℕ) (known : Known) (signature : Signature) (function : ℕ) (e : CheckError) → all ≡ counted_then arguments line signature function (nat_eq (length signature.params) (length arguments)) known → nat_eq (length signature.params) (length arguments) ≡ true → Refuses e (passed arguments signature.params line known) → Refuses e all
not_passed all arguments line known signature function e h same r = subst (Refuses e) (sym (same_count all arguments line known signature function h same)) (then_refuses (passed arguments signature.params line) (passed_then function signature line) known e r)

pub is_called : (all : Result (Term × Known) Fault) (arguments : List Operand) (line : ℕ) (known mid : Known) (signature : Signature) (function : ℕ) (values : Expressions) → all ≡ counted_then arguments line signature function (nat_eq (length signature.params) (length arguments)) known → nat_eq (length signature.params) (length arguments) ≡ true → passed arguments signature.params line known ≡ Ok (values, mid) → all ≡ Ok (call_term function signature values line, mid)
is_called all arguments line known mid signature function values h same e = same_count all arguments line known signature function h same ∙ ap (go_on (passed_then function signature line)) e

pub nothing_left : {X : Type 0} (left : List X) → length left ≡ 0 → left ≡ []
nothing_left [] h = refl
nothing_left (x ∷ xs) h = absurd (omega arith)
