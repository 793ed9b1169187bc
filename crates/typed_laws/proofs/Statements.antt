-- Statements: what the rules give of each fits.
use Rattle.std.proofs.Common.{◌≡◌, ℕ, suc, ◌≤◌, Bool, true, false, not, ◌&&◌, nat_le, List, [], ◌∷◌, ◌++◌, length, Option, Some, None, is_some, Result, Ok, Err, refl, sym, ap, ◌∙◌, subst, arith}
use Rattle.std.specs.List.{list_any}
use Rattle.std.specs.Ordering.{int_eq}
use Rattle.std.proofs.lemmas.Bool.{and_parts, and_from, or_parts, or_from, false≢true}
use Rattle.std.proofs.lemmas.Grind.{common_steps}
use Rattle.std.proofs.lemmas.Int.{ints}
use Rattle.std.proofs.lemmas.Option.{same_Some}
use Rattle.c_ints.specs.Conversions.{promoted}
use Rattle.c_ints.specs.Operators.{cut_to}
use Rattle.c_ints.specs.Quantity.{Quantity}
use Rattle.c_ints.specs.declared.types.IntTy.{IntTy}
use Rattle.c_nodes.specs.Programs as tree
use Rattle.c_nodes.specs.Programs.{ConditionTree, HeadTree, LabelTree, StatementTree, BlockTree, Statements, ArmTree, Arms, Items}
use Rattle.c_nodes.specs.Trees.{Tree}
use Rattle.c_typed.specs.Fits.{fits, is_null, Used}
use Rattle.c_typed.specs.Sameness.{same_type, is_void, is_scalar, is_promoted}
use Rattle.c_typed.specs.Sound.{any_fits, condition_fits, any_condition_fits, value_fits, loop_fits, default_fits, same_number, is_label, cases_fit, count_of, switch_rule, statement_fits, statements_fit, arm_fits, arms_fit, last_fits}
use Rattle.c_typed.specs.Trees as typed
use Rattle.c_typed.specs.Trees.{Expression, Statement, VariableTree, FunctionTree, Program}
use Rattle.c_typed.specs.Types.{type_of}
use Rattle.c_typed.specs.declared.statement.LoopForm.{LoopForm}
use Rattle.c_typed.specs.declared.statement.LoopForm.TheVariants as loops
use Rattle.c_typed.specs.declared.statement.TCase.{TCase}
use Rattle.c_typed.specs.declared.types.Ty.{Ty}
use Rattle.c_typed.specs.declared.types.Ty.TheVariants.{Void, Int, Pointer, Array, Struct}
use Rattle.type_rules.specs.Constants.{constant_value}
use Rattle.type_rules.specs.Conversions.{converted, assigned}
use Rattle.type_rules.specs.Faults as kind
use Rattle.type_rules.specs.Faults.{Fault}
use Rattle.type_rules.specs.Known.{Scope, Known, given, go_on}
use Rattle.type_rules.specs.Names.{without_first}
use Rattle.type_rules.specs.Statements.{Flow, outside, in_loop, in_switch, condition, value_if_any, condition_if_any, plain_statement, return_statement, int_of, SwitchBody, no_items, stands_already, case_added, label_rule, statements_of, arms_of, last_of, Others, arm_line, statement, block_statement, statements, arm, other_arms, items, body_statements}
use Rattle.type_rules.specs.Terms.{Operand}
use Rattle.typed_laws.specs.Living.{Lives, AreNamed, Steady, Moves, Steps, AreDeclared, IsNamed}
use Rattle.typed_laws.specs.Spreading.{Grows}
use Rattle.typed_laws.specs.Tables.{Each, Stands, AreBound, IsBound}
use Rattle.typed_laws.specs.Terms.{IsAssigned, IsOperand}
use Rattle.typed_laws.proofs.Adding.{orderly_other, names_more}
use Rattle.typed_laws.proofs.Assigning.{assigned_goes}
use Rattle.typed_laws.proofs.Declarations.{block_declarations_run, fits_join}
use Rattle.typed_laws.proofs.Enumerators.{constant_goes}
use Rattle.typed_laws.proofs.Expressions.{value_of_goes}
use Rattle.typed_laws.proofs.Lists.{none_is}
use Rattle.typed_laws.proofs.Living.{lives_leads, sized_grows, static_grows, steps_given, steps_on, steps_test, steps_wanted, steps_less, from_rows}
use Rattle.typed_laws.proofs.Meeting.{converted_type, converted_fits}
use Rattle.typed_laws.proofs.Operators.{not_false}
use Rattle.typed_laws.proofs.Same.{same_int_refl, promoted_again}
use Rattle.typed_laws.proofs.Spreading.{stands_grows, scopes_grow}
use Rattle.typed_laws.proofs.Standings.{fits_alone}
use Rattle.type_rules.specs.Expressions.{value_of}
use Rattle.typed_laws.proofs.Scopes.{inner_left}
use Rattle.typed_laws.specs.Meets.{Meets}
use Rattle.std.specs.Prelude.{ℤ}

-- ---- what fits in each program that goes on from here

module _ (params : List VariableTree) where
  abbrev Fitting : Known → (Program → FunctionTree → Bool) → Type 0
  Fitting known test = (p : Program) (f : FunctionTree) → Lives params known p f → test p f ≡ true

  abbrev IsStatement : Flow → Statement → Known → Type 0
  IsStatement flow s known = (declares : Bool) → (p : Program) (f : FunctionTree) → Lives params known p f → statement_fits p f declares flow.breaks flow.continues s ≡ true

  abbrev AreStatements : Flow → List Statement → Known → Type 0
  AreStatements flow ss known = (declares : Bool) → (p : Program) (f : FunctionTree) → Lives params known p f → statements_fit p f declares flow.breaks flow.continues (statements_of ss) ≡ true

  -- ---- expressions of statements

  value_steps : (e : Tree) (known : Known) → Steady params known → Steps false params known (λ x k. IsOperand k Used x) (value_of e known)
  value_steps e known y = from_rows params (λ x k. IsOperand k Used x) known _ y (value_of_goes known e known.targets y.orderly)

  operand_fits : (known : Known) (x : Operand) → Steady params known → IsOperand known Used x → (p : Program) (f : FunctionTree) → Lives params known p f → fits p f Used x.value ≡ true
  operand_fits known x y h p f l = h.fitting p f (lives_leads params known y.named p f l)

  condition_steps : (e : Tree) (known : Known) → Steady params known → Steps false params known (λ c k. (p : Program) (f : FunctionTree) → Lives params k p f → condition_fits p f c ≡ true) (condition e known)
  condition_steps e known y = steps_on params false _ _ known _ _ (value_steps e known y)
      (λ x mid m y2 h. steps_test params false _ mid (not (is_scalar (type_of x.value))) kind.Operand [] x.line (λ u. given x.value)
      (λ scalar. steps_given params false _ mid x.value y2 (λ p f l. and_from (is_scalar (type_of x.value)) (fits p f Used x.value) (not_false (is_scalar (type_of x.value)) scalar) (operand_fits mid x y2 h p f l))))

  any_value_steps : (e : Option Tree) (known : Known) → Steady params known → Steps false params known (λ v k. (p : Program) (f : FunctionTree) → Lives params k p f → any_fits p f v ≡ true) (value_if_any e known)
  any_value_steps None known y = steps_given params false _ known None y (λ p f l. refl)
  any_value_steps (Some e) known y = steps_on params false _ _ known _ _ (value_steps e known y) (λ x mid m y2 h. steps_given params false _ mid (Some x.value) y2 (λ p f l. operand_fits mid x y2 h p f l))

  any_condition_steps : (e : Option Tree) (known : Known) → Steady params known → Steps false params known (λ c k. (p : Program) (f : FunctionTree) → Lives params k p f → any_condition_fits p f c ≡ true) (condition_if_any e known)
  any_condition_steps None known y = steps_given params false _ known None y (λ p f l. refl)
  any_condition_steps (Some e) known y = steps_on params false _ _ known _ _ (condition_steps e known y) (λ c mid m y2 h. steps_given params false _ mid (Some c) y2 (λ p f l. h p f l))

  -- ---- single statements

  plain_steps : (e : Option Tree) (flow : Flow) (line : ℕ) (known : Known) → Steady params known → Steps false params known (λ s k. IsStatement flow s k) (plain_statement e line known)
  unfolding statement_fits
  plain_steps None flow line known y = steps_given params false _ known _ y (λ declares p f l. refl)
  plain_steps (Some e) flow line known y = steps_on params false _ _ known _ _ (value_steps e known y) (λ x mid m y2 h. steps_given params false _ mid _ y2 (λ declares p f l. fits_alone p f x.value (operand_fits mid x y2 h p f l)))

  assigned_steps : (x : Operand) (ty : Ty) (line : ℕ) (known : Known) → Steady params known → IsOperand known Used x → Stands known ty → Steps false params known (λ e k. IsAssigned k ty e) (assigned x ty line known)
  assigned_steps x ty line known y h stands = from_rows params (λ e k. IsAssigned k ty e) known _ y (assigned_goes known known.targets y.orderly x ty line h stands)

  return_steps : (e : Option Tree) (flow : Flow) (line : ℕ) (known : Known) → Steady params known → Steps false params known (λ s k. IsStatement flow s k) (return_statement e line known)
  unfolding statement_fits
  return_steps None flow line known y = steps_test params false _ known (not (is_void (known.body).result)) kind.Return [] line (λ u. given (typed.Return None line))
      (λ void. steps_given params false _ known _ y (λ declares p f l. ap is_void l.result ∙ not_false (is_void (known.body).result) void))
  return_steps (Some e) flow line known y = steps_on params false _ _ known _ _ (value_steps e known y)
      (λ x mid m y2 h. steps_test params false _ mid (is_void (mid.body).result) kind.Return [] line (λ u. λ k. go_on (λ value. given (typed.Return (Some value) line)) (assigned x (mid.body).result line k))
      (λ other. steps_on params false _ _ mid _ (λ value. given (typed.Return (Some value) line)) (assigned_steps x (mid.body).result line mid y2 h y2.result)
      (λ value last m2 y3 hv. steps_given params false _ last _ y3 (λ declares p f l. subst (λ t. value_fits p f t value ≡ true) (sym (l.result ∙ m2.result)) (hv.fitting p f (lives_leads params last y3.named p f l))))))

-- ---- scopes of blocks

module _ (params : List VariableTree) (known : Known) (y : Steady params known) (scopes : List Scope) (bound : Each (AreBound known) scopes) (named : Each (AreNamed params known) scopes) where
  pub rescoped_grows : Grows known (record known { scopes = scopes })
  rescoped_grows = record { rows = λ row q h. h; shapes = λ n s h. (s, h, λ e. refl); statics = λ n s h. (s, h, refl) }

  pub rescoped : Steady params (record known { scopes = scopes })
  rescoped = record {
    orderly = orderly_other known _ rescoped_grows y.orderly refl refl refl refl (scopes_grow known _ rescoped_grows y.orderly scopes bound);
    named = names_more params known (record known { scopes = scopes }) (λ n s h. h) (λ n v h. h) scopes named;
    statics = λ n s h. static_grows known _ rescoped_grows y.orderly s (y.statics n s h);
    locals = λ n v h. sized_grows known _ rescoped_grows y.orderly (v.ty).ty (y.locals n v h);
    result = stands_grows known _ rescoped_grows y.orderly (known.body).result y.result;
  }

pub lives_rescoped : (params : List VariableTree) (known : Known) (scopes : List Scope) (p : Program) (f : FunctionTree) → Lives params (record known { scopes = scopes }) p f → Lives params known p f
lives_rescoped params known scopes p f l = record {
  begins = record { rows = (l.begins).rows; structures = (l.begins).structures; closed = (l.begins).closed; functions = (l.begins).functions };
  statics = l.statics;
  params_are = l.params_are;
  locals = l.locals;
  result = l.result;
}

module _ (params : List VariableTree) where
  entered_steady : (known : Known) → Steady params known → Steady params (record known { scopes = [] ∷ known.scopes })
  entered_steady known y = rescoped params known y ([] ∷ known.scopes) (tt, (y.orderly).scopes) (tt, y.named)

  left_steady : (known : Known) → Steady params known → Steady params (record known { scopes = without_first known.scopes })
  left_steady known y = rescoped params known y (without_first known.scopes)
      (inner_left (IsBound known) known.scopes (y.orderly).scopes) (inner_left (IsNamed params known) known.scopes y.named)

  -- A block is entered and left.
  pub block_steps : {A : Type 0} (P : A → Known → Type 0) (known : Known) (r : Result (A × Known) Fault) → ((x : A) (k : Known) → P x k → P x (record k { scopes = without_first k.scopes }))
      → Steps true params (record known { scopes = [] ∷ known.scopes }) P r → Steps false params known P (go_on (λ made. λ k. Ok (made, record k { scopes = without_first k.scopes })) r)
  unfolding Steps
  block_steps P known (Err fault) keeps g = tt
  block_steps P known (Ok x) keeps g = record {
    moves = record {
      grows = record {
        rows = ((g.moves).grows).rows;
        shapes = ((g.moves).grows).shapes;
        statics = ((g.moves).grows).statics;
      };
      lives = λ p f l. lives_rescoped params known ([] ∷ known.scopes) p f ((g.moves).lives p f (lives_rescoped params x.1 (without_first (x.1).scopes) p f l));
      statics = (g.moves).statics;
      scopes = (g.moves).scopes;
      signatures = (g.moves).signatures;
      definitions = (g.moves).definitions;
      result = (g.moves).result;
    };
    steady = left_steady x.1 g.steady;
    holds = keeps x.0 x.1 g.holds;
  }

-- ---- switches

-- The labels so far: numbers of the type, no two equal, that lead into the body.
label_new : (cs : List TCase) (v : Quantity) (c : TCase) → list_any (λ d. int_eq d.value.number v.number) (c ∷ cs) ≡ false → (int_eq c.value.number v.number ≡ false) × (list_any (λ d. int_eq d.value.number v.number) cs ≡ false)
label_new cs v c h = or_parts (int_eq c.value.number v.number) (list_any (λ d. int_eq d.value.number v.number) cs) h

number_new : (a b : ℤ) → int_eq a b ≡ false → same_number b a ≡ false
number_new a b h = grind (arith, ints, common_steps)

is_label_last : (n : ℤ) (cs : List TCase) (d : TCase) → is_label n cs ≡ false → same_number n d.value.number ≡ false → is_label n (cs ++ d ∷ []) ≡ false
is_label_last n [] d h e = or_from (same_number n d.value.number) false e refl
is_label_last n (c ∷ cs) d h e = let both = or_parts (same_number n c.value.number) (is_label n cs) h in or_from (same_number n c.value.number) (is_label n (cs ++ d ∷ [])) both.0 (is_label_last n cs d both.1 e)

number_apart : (a b : ℤ) → int_eq a b ≡ false → same_number a b ≡ false
number_apart a b h = grind (arith, ints, common_steps)

-- one label more
cases_last : (ty : Ty) (count : ℕ) (cs : List TCase) (d : TCase) → cases_fit ty count cs ≡ true → list_any (λ c. int_eq c.value.number d.value.number) cs ≡ false → same_type (Int d.value.ty) ty ≡ true → nat_le d.target count ≡ true → cases_fit ty count (cs ++ d ∷ []) ≡ true
cases_last ty count [] d h free same le = and_from (same_type (Int d.value.ty) ty) (nat_le d.target count && true) same (and_from (nat_le d.target count) true le refl)
cases_last ty count (c ∷ cs) d h free same le =
    let a = and_parts (same_type (Int c.value.ty) ty) (nat_le c.target count && (not (is_label c.value.number cs) && cases_fit ty count cs)) h in
    let b = and_parts (nat_le c.target count) (not (is_label c.value.number cs) && cases_fit ty count cs) a.1 in
    let e = and_parts (not (is_label c.value.number cs)) (cases_fit ty count cs) b.1 in
    let apart = label_new cs d.value c free in
    and_from (same_type (Int c.value.ty) ty) (nat_le c.target count && (not (is_label c.value.number (cs ++ d ∷ [])) && cases_fit ty count (cs ++ d ∷ []))) a.0
    (and_from (nat_le c.target count) (not (is_label c.value.number (cs ++ d ∷ [])) && cases_fit ty count (cs ++ d ∷ [])) b.0
    (and_from (not (is_label c.value.number (cs ++ d ∷ []))) (cases_fit ty count (cs ++ d ∷ []))
    (ap not (is_label_last c.value.number cs d (no_not (is_label c.value.number cs) e.0) (number_apart c.value.number d.value.number apart.0))) (cases_last ty count cs d e.1 apart.1 same le)))
  where
    no_not : (x : Bool) → not x ≡ true → x ≡ false
    no_not true h = absurd (false≢true h)
    no_not false h = refl

le_more : (m n k : ℕ) → nat_le m n ≡ true → n ≤ k → nat_le m k ≡ true
le_more m n k h le = grind (arith, common_steps)

-- a longer body
cases_more : (ty : Ty) (m n : ℕ) (cs : List TCase) → m ≤ n → cases_fit ty m cs ≡ true → cases_fit ty n cs ≡ true
cases_more ty m n [] le h = refl
cases_more ty m n (c ∷ cs) le h =
    let a = and_parts (same_type (Int c.value.ty) ty) (nat_le c.target m && (not (is_label c.value.number cs) && cases_fit ty m cs)) h in
    let b = and_parts (nat_le c.target m) (not (is_label c.value.number cs) && cases_fit ty m cs) a.1 in
    let e = and_parts (not (is_label c.value.number cs)) (cases_fit ty m cs) b.1 in
    and_from (same_type (Int c.value.ty) ty) (nat_le c.target n && (not (is_label c.value.number cs) && cases_fit ty n cs)) a.0
    (and_from (nat_le c.target n) (not (is_label c.value.number cs) && cases_fit ty n cs) (le_more c.target m n b.0 le)
    (and_from (not (is_label c.value.number cs)) (cases_fit ty n cs) e.0 (cases_more ty m n cs le e.1)))

default_more : (m n : ℕ) (d : Option ℕ) → m ≤ n → default_fits m d ≡ true → default_fits n d ≡ true
default_more m n None le h = refl
default_more m n (Some t) le h = le_more t m n h le

count_is : (ss : List Statement) → count_of (statements_of ss) ≡ length ss
count_is [] = refl
count_is (s ∷ ss) = ap suc (count_is ss)

length_last : (ss : List Statement) (s : Statement) → length (ss ++ s ∷ []) ≡ suc (length ss)
length_last [] s = refl
length_last (x ∷ xs) s = ap suc (length_last xs s)

le_itself : (n : ℕ) → nat_le n n ≡ true
le_itself n = grind (arith, common_steps)

module _ (params : List VariableTree) where
  -- a switch's body so far
  pub record IsBody (flow : Flow) (ty : IntTy) (body : SwitchBody) (known : Known) : Type 0 where
    pub cases : cases_fit (Int ty) (length body.statements) body.cases ≡ true
    pub default : default_fits (length body.statements) body.default ≡ true
    pub statements : AreStatements params flow body.statements known

  body_grows : (flow : Flow) (ty : IntTy) (body : SwitchBody) (before after : Known) → Moves false params before after → IsBody flow ty body before → IsBody flow ty body after
  body_grows flow ty body before after m h = record { cases = h.cases; default = h.default; statements = λ declares p f l. h.statements declares p f (m.lives p f l) }

  number_steps : (e : Tree) (known : Known) → Steady params known → Steps false params known (λ v k. Unit {0}) (constant_value e known)
  number_steps e known y = from_rows params (λ v k. Unit {0}) known _ y (constant_goes known e known.targets y.orderly)

  label_steps : (l : LabelTree) (flow : Flow) (ty : IntTy) (body : SwitchBody) (known : Known) → Steady params known → IsBody flow ty body known → Steps false params known (λ b k. IsBody flow ty b k) (label_rule l ty body known)
  label_steps (tree.Case line e colon) flow ty body known y h = steps_on params false _ _ known _ _ (number_steps e known y)
      (λ v mid m y2 u. steps_test params false _ mid (stands_already body.cases (cut_to ty v.number)) kind.Jump [] line (λ u. given (case_added body (cut_to ty v.number) line))
      (λ free. steps_given params false _ mid _ y2 (record {
        cases = cases_last (Int ty) (length body.statements) body.cases (record { value = cut_to ty v.number; target = length body.statements; line = line }) h.cases free (same_int_refl ty) (le_itself (length body.statements));
        default = h.default;
        statements = λ declares p f l. h.statements declares p f (m.lives p f l);
      })))
  label_steps (tree.Default line colon) flow ty body known y h = steps_test params false _ known (is_some body.default) kind.Jump [] line (λ u. given (record body { default = Some (length body.statements) }))
      (λ free. steps_given params false _ known _ y (record { cases = h.cases; default = le_itself (length body.statements); statements = h.statements }))

  -- one statement more
  one_more : (flow : Flow) (ss : List Statement) (s : Statement) (known : Known) → AreStatements params flow ss known → IsStatement params flow s known → AreStatements params flow (ss ++ s ∷ []) known
  unfolding statements_fit
  one_more flow ss s known all h declares p f l = fits_join params p f declares flow.breaks flow.continues ss (s ∷ []) (all declares p f l) (and_from (statement_fits p f declares flow.breaks flow.continues s) true (h declares p f l) refl)

  body_more : (flow : Flow) (ty : IntTy) (body : SwitchBody) (s : Statement) (known : Known) → IsBody flow ty body known → IsStatement params flow s known → IsBody flow ty (record body { statements = body.statements ++ s ∷ [] }) known
  body_more flow ty body s known h hs = record {
    cases = cases_more (Int ty) (length body.statements) (length (body.statements ++ s ∷ [])) body.cases (longer (length body.statements) (length (body.statements ++ s ∷ [])) (length_last body.statements s)) h.cases;
    default = default_more (length body.statements) (length (body.statements ++ s ∷ [])) body.default (longer (length body.statements) (length (body.statements ++ s ∷ [])) (length_last body.statements s)) h.default;
    statements = one_more flow body.statements s known h.statements hs;
  }
    where
      longer : (m n : ℕ) → n ≡ suc m → m ≤ n
      longer m n e = omega (arith, e)

  -- ---- statements of statements

  none_fit : (flow : Flow) (known : Known) → AreStatements params flow [] known
  unfolding statements_fit
  none_fit flow known declares p f l = refl

  first_more : (flow : Flow) (s : Statement) (ss : List Statement) (mid after : Known) → Moves false params mid after → IsStatement params flow s mid → AreStatements params flow ss after → AreStatements params flow (s ∷ ss) after
  unfolding statements_fit
  first_more flow s ss mid after m h all declares p f l = and_from (statement_fits p f declares flow.breaks flow.continues s) (statements_fit p f declares flow.breaks flow.continues (statements_of ss)) (h declares p f (m.lives p f l)) (all declares p f l)

  block_fits : (flow : Flow) (first others : List Statement) (line : ℕ) (mid after : Known) → Moves true params mid after → AreDeclared params mid first → AreStatements params flow others after → IsStatement params flow (typed.Block (statements_of (first ++ others)) line) after
  unfolding statement_fits
  block_fits flow first others line mid after m g h declares p f l = fits_join params p f true flow.breaks flow.continues first others (g p f (m.lives p f l) flow.breaks flow.continues) (h true p f l)

  loop_by : (flow : Flow) (shape : LoopForm) (begin condition step : Option Expression) (body : Statement) (line : ℕ) (known : Known) → loop_fits shape (is_some begin) (is_some condition) (is_some step) ≡ true
      → ((p : Program) (f : FunctionTree) → Lives params known p f → any_fits p f begin ≡ true) → ((p : Program) (f : FunctionTree) → Lives params known p f → any_condition_fits p f condition ≡ true) → ((p : Program) (f : FunctionTree) → Lives params known p f → any_fits p f step ≡ true)
      → IsStatement params in_loop body known → IsStatement params flow (typed.Loop shape begin condition step body line) known
  unfolding statement_fits
  loop_by flow shape begin condition step body line known form b c s h declares p f l =
      and_from (loop_fits shape (is_some begin) (is_some condition) (is_some step)) (any_fits p f begin && (any_condition_fits p f condition && (any_fits p f step && statement_fits p f false true true body))) form
      (and_from (any_fits p f begin) (any_condition_fits p f condition && (any_fits p f step && statement_fits p f false true true body)) (b p f l)
      (and_from (any_condition_fits p f condition) (any_fits p f step && statement_fits p f false true true body) (c p f l)
      (and_from (any_fits p f step) (statement_fits p f false true true body) (s p f l) (h false p f l))))

  arm_by : (flow : Flow) (e : Expression) (s : Statement) (line : ℕ) (known : Known) → ((p : Program) (f : FunctionTree) → Lives params known p f → condition_fits p f e ≡ true) → IsStatement params flow s known
      → (p : Program) (f : FunctionTree) → Lives params known p f → arm_fits p f flow.breaks flow.continues (typed.OneArm e s line) ≡ true
  unfolding arm_fits
  arm_by flow e s line known c h p f l = and_from (condition_fits p f e) (statement_fits p f false flow.breaks flow.continues s) (c p f l) (h false p f l)

  abbrev AreOthers : Flow → Others → Known → Type 0
  AreOthers flow o known = (p : Program) (f : FunctionTree) → Lives params known p f → (arms_fit p f flow.breaks flow.continues (arms_of o.0) ≡ true) × (last_fits p f flow.breaks flow.continues (last_of o.1) ≡ true)

  no_others : (flow : Flow) (known : Known) → AreOthers flow ([], None) known
  unfolding arms_fit last_fits
  no_others flow known p f l = (refl, refl)

  last_other : (flow : Flow) (s : Statement) (known : Known) → IsStatement params flow s known → AreOthers flow ([], Some s) known
  unfolding arms_fit last_fits
  last_other flow s known h p f l = (refl, h false p f l)

  arm_other : (flow : Flow) (a : typed.Arm) (o : Others) (mid after : Known) → Moves false params mid after → ((p : Program) (f : FunctionTree) → Lives params mid p f → arm_fits p f flow.breaks flow.continues a ≡ true) → AreOthers flow o after → AreOthers flow (a ∷ o.0, o.1) after
  unfolding arms_fit
  arm_other flow a o mid after m g h p f l = (and_from (arm_fits p f flow.breaks flow.continues a) (arms_fit p f flow.breaks flow.continues (arms_of o.0)) (g p f (m.lives p f l)) (h p f l).0, (h p f l).1)

  chain_by : (flow : Flow) (a : typed.Arm) (o : Others) (line : ℕ) (mid after : Known) → Moves false params mid after → ((p : Program) (f : FunctionTree) → Lives params mid p f → arm_fits p f flow.breaks flow.continues a ≡ true) → AreOthers flow o after
      → IsStatement params flow (typed.If (arms_of (a ∷ o.0)) (last_of o.1) line) after
  unfolding statement_fits arms_fit
  chain_by flow a o line mid after m g h declares p f l =
      and_from (arm_fits p f flow.breaks flow.continues a && arms_fit p f flow.breaks flow.continues (arms_of o.0)) (last_fits p f flow.breaks flow.continues (last_of o.1))
      (and_from (arm_fits p f flow.breaks flow.continues a) (arms_fit p f flow.breaks flow.continues (arms_of o.0)) (g p f (m.lives p f l)) (h p f l).0) (h p f l).1

  int_of_is : (ty : Ty) (i : IntTy) → int_of ty ≡ Some i → ty ≡ Int i
  int_of_is Void i h = absurd (none_is h)
  int_of_is (Int j) i h = ap Int (same_Some j i h)
  int_of_is (Pointer row) i h = absurd (none_is h)
  int_of_is (Array row n s) i h = absurd (none_is h)
  int_of_is (Struct n) i h = absurd (none_is h)

  switch_by : (flow : Flow) (x : Operand) (i : IntTy) (body : SwitchBody) (line : ℕ) (mid after : Known) → Steady params mid → Moves false params mid after → IsOperand mid Used x → type_of x.value ≡ Int i → IsBody (in_switch flow) (promoted i) body after
      → IsStatement params flow (typed.Switch (converted x (Int (promoted i))) body.cases body.default (statements_of body.statements) line) after
  unfolding statement_fits
  switch_by flow x i body line mid after y m hx is h declares p f l =
      and_from (switch_rule p f (converted x (Int (promoted i)))) (cases_fit (type_of (converted x (Int (promoted i)))) (count_of (statements_of body.statements)) body.cases && (default_fits (count_of (statements_of body.statements)) body.default && statements_fit p f false true flow.continues (statements_of body.statements)))
      (and_from (is_promoted (type_of (converted x (Int (promoted i))))) (fits p f Used (converted x (Int (promoted i)))) (ap is_promoted (converted_type x (Int (promoted i))) ∙ promoted_again i)
      (converted_fits p f x (Int (promoted i)) hx.plain (subst (λ t. Meets p (is_null x.value) t (Int (promoted i))) (sym is) refl) (operand_fits params mid x y hx p f (m.lives p f l))))
      (and_from (cases_fit (type_of (converted x (Int (promoted i)))) (count_of (statements_of body.statements)) body.cases) (default_fits (count_of (statements_of body.statements)) body.default && statements_fit p f false true flow.continues (statements_of body.statements))
      (ap (λ t. cases_fit t (count_of (statements_of body.statements)) body.cases) (converted_type x (Int (promoted i))) ∙ (ap (λ n. cases_fit (Int (promoted i)) n body.cases) (count_is body.statements) ∙ h.cases))
      (and_from (default_fits (count_of (statements_of body.statements)) body.default) (statements_fit p f false true flow.continues (statements_of body.statements))
      (ap (λ n. default_fits n body.default) (count_is body.statements) ∙ h.default) (h.statements false p f l)))

  -- ---- the recursion

  body_empty : (flow : Flow) (ty : IntTy) (known : Known) → IsBody flow ty no_items known
  body_empty flow ty known = record { cases = refl; default = refl; statements = none_fit flow known }

  -- a condition that is known before the body
  earlier : (mid after : Known) (test : Program → FunctionTree → Bool) → Moves false params mid after → ((p : Program) (f : FunctionTree) → Lives params mid p f → test p f ≡ true) → (p : Program) (f : FunctionTree) → Lives params after p f → test p f ≡ true
  earlier mid after test m h p f l = h p f (m.lives p f l)

  mutual
    unfolding statement block_statement statements arm other_arms items statement_fits

    pub statement_steps : (s : StatementTree) (flow : Flow) (known : Known) → Steady params known → Steps false params known (λ s k. IsStatement params flow s k) (statement s flow known)
    statement_steps (tree.Braced b) flow known y = block_steps params (λ s k. IsStatement params flow s k) known _ (λ s k h declares p f l. h declares p f (lives_rescoped params k (without_first k.scopes) p f l)) (block_statement_steps b flow _ (entered_steady params known y))
    statement_steps (tree.Plain e semicolon) flow known y = plain_steps params e flow semicolon known y
    statement_steps (tree.Chain a as_) flow known y = steps_on params false _ _ known _ _ (arm_steps a flow known y)
        (λ first mid m y2 h. steps_on params false _ _ mid _ (λ others. given (typed.If (arms_of (first ∷ others.0)) (last_of others.1) (arm_line a))) (other_arms_steps as_ flow mid y2)
        (λ others after m2 y3 h2. steps_given params false _ after _ y3 (chain_by flow first others (arm_line a) mid after m2 h h2)))
    statement_steps (tree.While line c s) flow known y = steps_on params false _ _ known _ _ (condition_steps params c.expr known y)
        (λ e mid m y2 h. steps_on params false _ _ mid _ (λ body. given (typed.Loop loops.While None (Some e) None body line)) (statement_steps s in_loop mid y2)
        (λ body after m2 y3 h2. steps_given params false _ after _ y3 (loop_by flow loops.While None (Some e) None body line after refl (λ p f l. refl) (λ p f l. h p f (m2.lives p f l)) (λ p f l. refl) h2)))
    statement_steps (tree.Do line s word c semicolon) flow known y = steps_on params false _ _ known _ _ (statement_steps s in_loop known y)
        (λ body mid m y2 h. steps_on params false _ _ mid _ (λ e. given (typed.Loop loops.Do None (Some e) None body line)) (condition_steps params c.expr mid y2)
        (λ e after m2 y3 h2. steps_given params false _ after _ y3 (loop_by flow loops.Do None (Some e) None body line after refl (λ p f l. refl) h2 (λ p f l. refl) (λ declares p f l. h declares p f (m2.lives p f l)))))
    statement_steps (tree.For line h s) flow known y = steps_on params false _ _ known _ _ (any_value_steps params h.begin known y)
        (λ begin k1 m1 y1 hb. steps_on params false _ _ k1 _ _ (any_condition_steps params h.condition k1 y1)
        (λ e k2 m2 y2 he. steps_on params false _ _ k2 _ _ (any_value_steps params h.step k2 y2)
        (λ step k3 m3 y3 hs. steps_on params false _ _ k3 _ (λ body. given (typed.Loop loops.For begin e step body line)) (statement_steps s in_loop k3 y3)
        (λ body k4 m4 y4 hbody. steps_given params false _ k4 _ y4 (loop_by flow loops.For begin e step body line k4 refl
        (λ p f l. hb p f (m2.lives p f (m3.lives p f (m4.lives p f l)))) (λ p f l. he p f (m3.lives p f (m4.lives p f l))) (λ p f l. hs p f (m4.lives p f l)) hbody)))))
    statement_steps (tree.Switch line c opening is closing) flow known y = steps_on params false _ _ known _ _ (value_steps params c.expr known y)
        (λ x mid m y2 h. steps_wanted params false _ mid (int_of (type_of x.value)) kind.Operand x.line _
        (λ ty found. steps_on params false _ _ mid _ (λ body. given (typed.Switch (converted x (Int (promoted ty))) body.cases body.default (statements_of body.statements) line)) (items_steps is (in_switch flow) (promoted ty) no_items mid y2 (body_empty (in_switch flow) (promoted ty) mid))
        (λ body after m2 y3 hb. steps_given params false _ after _ y3 (switch_by flow x ty body line mid after y2 m2 h (int_of_is (type_of x.value) ty found) hb))))
    statement_steps (tree.Break line semicolon) flow known y = steps_test params false _ known (not flow.breaks) kind.Jump [] line (λ u. given (typed.Break line)) (λ e. steps_given params false _ known _ y (λ declares p f l. not_false flow.breaks e))
    statement_steps (tree.Continue line semicolon) flow known y = steps_test params false _ known (not flow.continues) kind.Jump [] line (λ u. given (typed.Continue line)) (λ e. steps_given params false _ known _ y (λ declares p f l. not_false flow.continues e))
    statement_steps (tree.Return line e semicolon) flow known y = return_steps params e flow line known y

    pub block_statement_steps : (b : BlockTree) (flow : Flow) (known : Known) → Steady params known → Steps true params known (λ s k. IsStatement params flow s k) (block_statement b flow known)
    block_statement_steps (tree.Block line ds ss closing) flow known y = steps_on params true _ _ known _ _ (block_declarations_run params ds known y)
        (λ first mid m y2 h. steps_on params true _ _ mid _ (λ others. given (typed.Block (statements_of (first ++ others)) line)) (steps_less params true _ mid _ (statements_steps ss flow mid y2))
        (λ others after m2 y3 h2. steps_given params true _ after _ y3 (block_fits flow first others line mid after m2 h h2)))

    pub statements_steps : (ss : Statements) (flow : Flow) (known : Known) → Steady params known → Steps false params known (λ ss k. AreStatements params flow ss k) (statements ss flow known)
    statements_steps tree.NoStatement flow known y = steps_given params false _ known _ y (none_fit flow known)
    statements_steps (tree.AndStatement s ss) flow known y = steps_on params false _ _ known _ _ (statement_steps s flow known y)
        (λ first mid m y2 h. steps_on params false _ _ mid _ (λ others. given (first ∷ others)) (statements_steps ss flow mid y2)
        (λ others after m2 y3 h2. steps_given params false _ after _ y3 (first_more flow first others mid after m2 h h2)))

    pub arm_steps : (a : ArmTree) (flow : Flow) (known : Known) → Steady params known → Steps false params known (λ a k. (p : Program) (f : FunctionTree) → Lives params k p f → arm_fits p f flow.breaks flow.continues a ≡ true) (arm a flow known)
    arm_steps (tree.Arm line c s) flow known y = steps_on params false _ _ known _ _ (condition_steps params c.expr known y)
        (λ e mid m y2 h. steps_on params false _ _ mid _ (λ made. given (typed.OneArm e made line)) (statement_steps s flow mid y2)
        (λ made after m2 y3 h2. steps_given params false _ after _ y3 (arm_by flow e made line after (λ p f l. h p f (m2.lives p f l)) h2)))

    pub other_arms_steps : (as_ : Arms) (flow : Flow) (known : Known) → Steady params known → Steps false params known (λ o k. AreOthers flow o k) (other_arms as_ flow known)
    other_arms_steps tree.NoElse flow known y = steps_given params false _ known _ y (no_others flow known)
    other_arms_steps (tree.Else line s) flow known y = steps_on params false _ _ known _ _ (statement_steps s flow known y) (λ last mid m y2 h. steps_given params false _ mid _ y2 (last_other flow last mid h))
    other_arms_steps (tree.ElseIf line a as_) flow known y = steps_on params false _ _ known _ _ (arm_steps a flow known y)
        (λ first mid m y2 h. steps_on params false _ _ mid _ (λ others. given (first ∷ others.0, others.1)) (other_arms_steps as_ flow mid y2)
        (λ others after m2 y3 h2. steps_given params false _ after _ y3 (arm_other flow first others mid after m2 h h2)))

    pub items_steps : (is : Items) (flow : Flow) (ty : IntTy) (body : SwitchBody) (known : Known) → Steady params known → IsBody flow ty body known → Steps false params known (λ b k. IsBody flow ty b k) (items is flow ty body known)
    items_steps tree.NoItem flow ty body known y h = steps_given params false _ known body y h
    items_steps (tree.AndLabel l is) flow ty body known y h = steps_on params false _ _ known _ _ (label_steps l flow ty body known y h) (λ next mid m y2 h2. items_steps is flow ty next mid y2 h2)
    items_steps (tree.AndInner s is) flow ty body known y h = steps_on params false _ _ known _ _ (statement_steps s flow known y)
        (λ made mid m y2 h2. items_steps is flow ty _ mid y2 (body_more flow ty body made mid (body_grows flow ty body known mid m h) h2))

  -- The body of a function.
  pub body_steps : (b : BlockTree) (known : Known) → Steady params known → Steps true params known (λ ss k. (p : Program) (f : FunctionTree) → Lives params k p f → statements_fit p f true false false ss ≡ true) (body_statements b known)
  body_steps (tree.Block opening ds ss closing) known y = steps_on params true _ _ known _ _ (block_declarations_run params ds known y)
      (λ first mid m y2 h. steps_on params true _ _ mid _ (λ others. given (statements_of (first ++ others))) (steps_less params true _ mid _ (statements_steps ss outside mid y2))
      (λ others after m2 y3 h2. steps_given params true _ after _ y3 (λ p f l. fits_join params p f true false false first others (h p f (m2.lives p f l) false false) (h2 true p f l))))
