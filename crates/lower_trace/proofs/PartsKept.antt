-- Each micro-step of an expression keeps what is known of the parts that are under way.
use Rattle.std.proofs.Common.{◌≡◌, ℕ, Bool, true, false, not, ◌&&◌, if◌then◌else◌, pos, List, [], ◌∷◌, ◌++◌, Option, Some, None, refl, sym, ap, ◌∙◌, subst}
use Rattle.std.proofs.lemmas.Bool.{false≢true}
use Rattle.std.specs.Ordering.{int_eq}
use Rattle.c_ints.specs.Operators.{outcome}
use Rattle.c_ints.specs.Quantity.{Quantity}
use Rattle.c_ints.specs.Range.{IsInRange}
use Rattle.c_ints.specs.declared.operators.BinOp.{BinOp}
use Rattle.c_ints.specs.declared.operators.UnOp.{UnOp}
use Rattle.c_typed.specs.Calls.{calls, place_calls, arguments_calls, helper_calls, helper_for, difference_helper}
use Rattle.c_typed.specs.Folding as folding
use Rattle.c_typed.specs.Folding.{applied, bits, chosen, combined, connected, constant_value, converted_to, decided, negated}
use Rattle.c_typed.specs.Rules.{binary_fits}
use Rattle.c_typed.specs.Trees as tree
use Rattle.c_typed.specs.Trees.{Expression, Expressions, Place, Statement, Program}
use Rattle.c_typed.specs.Types.{is_constant, is_integer, type_of}
use Rattle.c_typed.specs.declared.expression.LogicalOp.{LogicalOp}
use Rattle.c_typed.specs.declared.expression.LogicalOp.TheVariants.{And, Or}
use Rattle.c_typed.specs.declared.types.Ty.{Ty}
use Rattle.c_typed.specs.declared.types.Ty.TheVariants as types
use Rattle.pic_world.specs.World.{World}
use Rattle.src_rules.proofs.Rules.{binary_rule}
use Rattle.src_rules.specs.Accesses.{goes, fetching}
use Rattle.src_rules.specs.Expressions.{arguments, eval, find, address, takes, found_in, at_member, member_of, found_to, found_for, found}
use Rattle.src_rules.specs.Giving.{answered, used, branch, logical, truth_given, changes, take_in, deref, take_to}
use Rattle.src_rules.specs.Parts.{Obeys, IsExpressionOf}
use Rattle.src_rules.specs.Standing.{GotStands, HasType, WaitsIn}
use Rattle.src_rules.specs.State.{Outcome}
use Rattle.src_values.specs.Control.{Eval, Got, Nothing, Chosen, One, At, AtWith, Stores, Args, Stage, AtItem, Pending, In, To, Doing, Before, Returns, Resumes}
use Rattle.src_values.specs.Data as datum
use Rattle.src_values.specs.Data.{Datum}
use Rattle.src_values.specs.Memory as source
use Rattle.src_values.specs.Memory.{Setting}
use Rattle.src_values.specs.Objects.{moved}
use Rattle.src_values.specs.Values as answers
use Rattle.src_values.specs.Values.{Answer, bad_right, binary_answer, converted, decides, number_or_overflow, truth_value, unary_answer, unless_bad}
use Rattle.src_values.specs.declared.objects.Byte.{Byte}
use Rattle.src_values.specs.declared.objects.CopyOf.{CopyOf}
use Rattle.src_values.specs.declared.objects.Pointer.{Pointer}
use Rattle.src_values.specs.declared.objects.Spot.{Spot}
use Rattle.src_values.specs.declared.objects.Undef.{Undef}
use Rattle.lower_trace.proofs.FoldedOperands.{operands_plain}
use Rattle.lower_trace.proofs.NumberBytes.{zero_pattern}
use Rattle.lower_trace.proofs.PartsOf.{Has, IsFor, IsValue, ValueFor, AnswerIs, DoneOf, FocusHas, StackHas, KeepsParts, left_has, right_has, owed, itself, given, free_given, free_for, free_answer}
use Rattle.lower_trace.proofs.Written.{and_left, and_right}

-- ---- values of constants
holds_is : (q : Quantity) → IsInRange q.ty q.number → folding.holds q ≡ not (int_eq q.number (pos 0))
unfolding bits
holds_is q r = ap not (zero_pattern q.ty q.number r)

convert_value : (e operand : Expression) (ty : Ty) (v : Datum) → is_constant e ≡ (is_integer ty && is_constant operand) → constant_value e ≡ folding.converted ty (constant_value operand) → IsValue operand v → AnswerIs e (converted ty v)
unfolding converted
convert_value e operand types.Void v is value x = λ h. false≢true (sym is ∙ h)
convert_value e operand (types.Int t) (datum.Number q) is value x = λ h. value ∙ ap (converted_to t) (x (sym is ∙ h))
convert_value e operand (types.Int t) (datum.Pointer y) is value x = tt
convert_value e operand (types.Int t) datum.Missing is value x = tt
convert_value e operand (types.Pointer row) (datum.Number q) is value x = λ h. false≢true (sym is ∙ h)
convert_value e operand (types.Pointer row) (datum.Pointer y) is value x = λ h. false≢true (sym is ∙ h)
convert_value e operand (types.Pointer row) datum.Missing is value x = tt
convert_value e operand (types.Array element length size) v is value x = tt
convert_value e operand (types.Struct number) v is value x = tt

unary_value : (op : UnOp) (operand : Expression) (ty : Ty) (line : ℕ) (v : Datum) → IsValue operand v → AnswerIs (tree.Unary op operand ty line) (unary_answer op v)
unfolding unary_answer is_constant constant_value
unary_value op operand ty line (datum.Number q) x = λ h. ap (negated op) (x h)
unary_value op operand ty line (datum.Pointer y) x = λ h. absurd (x h)
unary_value op operand ty line datum.Missing x = tt

-- The operands of an operator on integers have its types, so folding converts nothing.
abbrev pub Plain : BinOp → Datum → Datum → Type 0
Plain op (datum.Number x) (datum.Number q) = applied op x q ≡ outcome op x q
Plain op u v = Unit {0}

plain_numbers : (p : Program) (op : BinOp) (left right : Expression) (ty : Ty) (line : ℕ) (x q : Quantity) → Obeys p (tree.Binary op left right ty line) → HasType p (type_of left) (datum.Number x) → HasType p (type_of right) (datum.Number q) → applied op x q ≡ outcome op x q
plain_numbers p op left right ty line x q h a b =
    let r = subst (λ t. binary_fits p op t (type_of right) ty ≡ true) a.0 (binary_rule p op left right ty line h) in
    operands_plain op x q ty (subst (λ t. binary_fits p op (types.Int x.ty) t ty ≡ true) b.0 r) a.1 b.1

plain_on : (p : Program) (op : BinOp) (left right : Expression) (ty : Ty) (line : ℕ) (u v : Datum) → Obeys p (tree.Binary op left right ty line) → HasType p (type_of left) u → HasType p (type_of right) v → Plain op u v
plain_on p op left right ty line (datum.Number x) (datum.Number q) h a b = plain_numbers p op left right ty line x q h a b
plain_on p op left right ty line (datum.Number x) (datum.Pointer y) h a b = tt
plain_on p op left right ty line (datum.Number x) datum.Missing h a b = tt
plain_on p op left right ty line (datum.Pointer x) v h a b = tt
plain_on p op left right ty line datum.Missing v h a b = tt

applied_value : (bad : Option Undef) (o : Option Quantity) (e : Expression) → (is_constant e ≡ true → constant_value e ≡ o) → AnswerIs e (unless_bad bad (number_or_overflow o))
applied_value (Some kind) o e h = tt
applied_value None None e h = tt
applied_value None (Some q) e h = h

binary_value : (p : Program) (live : List CopyOf) (op : BinOp) (left right : Expression) (ty : Ty) (line : ℕ) (u v : Datum) → IsValue left u → IsValue right v → Plain op u v → AnswerIs (tree.Binary op left right ty line) (binary_answer p live op ty u v)
unfolding binary_answer is_constant constant_value
binary_value p live op left right ty line (datum.Number x) (datum.Number q) a b plain =
    applied_value (bad_right op ty (datum.Number q)) (outcome op x q) (tree.Binary op left right ty line)
    (λ h. ap (λ o. combined op o (constant_value right)) (a (and_left (is_constant left) (is_constant right) h)) ∙ ap (combined op (Some x)) (b (and_right (is_constant left) (is_constant right) h)) ∙ plain)
binary_value p live op left right ty line (datum.Number x) (datum.Pointer y) a b plain = free_answer (tree.Binary op left right ty line) (binary_answer p live op ty (datum.Number x) (datum.Pointer y)) (λ h. b (and_right (is_constant left) (is_constant right) h))
binary_value p live op left right ty line (datum.Number x) datum.Missing a b plain = free_answer (tree.Binary op left right ty line) (binary_answer p live op ty (datum.Number x) datum.Missing) (λ h. b (and_right (is_constant left) (is_constant right) h))
binary_value p live op left right ty line (datum.Pointer x) v a b plain = free_answer (tree.Binary op left right ty line) (binary_answer p live op ty (datum.Pointer x) v) (λ h. a (and_left (is_constant left) (is_constant right) h))
binary_value p live op left right ty line datum.Missing v a b plain = free_answer (tree.Binary op left right ty line) (binary_answer p live op ty datum.Missing v) (λ h. a (and_left (is_constant left) (is_constant right) h))

module _ (s : Setting) (c : CopyOf) where
  abbrev p : Program
  p = s.program

  abbrev f : ℕ
  f = c.function

  -- ---- outcomes
  pub used_parts : (v : Datum) (line : ℕ) (next : Outcome) → KeepsParts p next → KeepsParts p (used v line next)
  used_parts datum.Missing line next h = tt
  used_parts (datum.Number q) line next h = h
  used_parts (datum.Pointer x) line next h = h

  pub branch_parts : (holds : Option Bool) (line : ℕ) (first second : Outcome) → KeepsParts p first → KeepsParts p second → KeepsParts p (branch holds line first second)
  branch_parts None line first second a b = tt
  branch_parts (Some true) line first second a b = a
  branch_parts (Some false) line first second a b = b

  pub either_parts : (b : Bool) (x y : Outcome) → KeepsParts p x → KeepsParts p y → KeepsParts p (if b then x else y)
  either_parts true x y h i = h
  either_parts false x y h i = i

  -- ---- arguments
  arguments_parts : (function : ℕ) (all : Expressions) (ty : Ty) (line : ℕ) (values : List Datum) (more : Expressions) (k : List Pending) (m : source.Memory) (w : World Byte) → Has p f (calls (tree.Call function all ty line)) → IsFor (owed k) (tree.Call function all ty line) → Has p f (arguments_calls more) → StackHas p c k
      → KeepsParts p (arguments (tree.Call function all ty line) values more k c m w)
  unfolding calls
  arguments_parts function all ty line values tree.NoExpression k m w h o a st = (tt, ((h, o), tt, st))
  arguments_parts function all ty line values (tree.AndExpression argument more) k m w h o a st = ((left_has p f (calls argument) (arguments_calls more) a, tt), ((h, o), right_has p f (calls argument) (arguments_calls more) a, st))

  -- ---- expressions begin
  pub eval_parts : (e : Expression) (k : List Pending) (m : source.Memory) (w : World Byte) → Has p f (calls e) → IsFor (owed k) e → StackHas p c k → KeepsParts p (eval e k c m w)
  unfolding calls constant_value
  eval_parts (tree.Constant value line) k m w h o st = (given (owed k) (tree.Constant value line) (datum.Number value) (λ is. refl) o, st)
  eval_parts (tree.Read place ty line) k m w h o st = (h, ((h, o), tt, st))
  eval_parts (tree.Address place ty line) k m w h o st = (h, ((h, o), tt, st))
  eval_parts (tree.Convert operand ty line) k m w h o st = ((h, itself operand), ((h, o), tt, st))
  eval_parts (tree.Cast operand ty line) k m w h o st = ((h, itself operand), ((h, o), tt, st))
  eval_parts (tree.Unary op operand ty line) k m w h o st = ((h, itself operand), ((h, o), tt, st))
  eval_parts (tree.Binary op left right ty line) k m w h o st =
      ((left_has p f (calls left) (calls right) (left_has p f (calls left ++ calls right) (helper_calls (helper_for op (is_constant right) (type_of left))) h), itself left), ((h, o), tt, st))
  eval_parts (tree.Offset op left right size ty line) k m w h o st = ((left_has p f (calls left) (calls right) h, tt), ((h, o), tt, st))
  eval_parts (tree.Difference left right size line) k m w h o st = ((left_has p f (calls left) (calls right) (left_has p f (calls left ++ calls right) (helper_calls (difference_helper size)) h), tt), ((h, o), tt, st))
  eval_parts (tree.Logical op left right line) k m w h o st = ((left_has p f (calls left) (calls right) h, itself left), ((h, o), tt, st))
  eval_parts (tree.Conditional condition held failed ty line) k m w h o st = ((left_has p f (calls condition) (calls held) (left_has p f (calls condition ++ calls held) (calls failed) h), itself condition), ((h, o), tt, st))
  eval_parts (tree.Comma left right ty line) k m w h o st = ((left_has p f (calls left) (calls right) h, tt), ((h, o), tt, st))
  eval_parts (tree.Assign place value ty line) k m w h o st = (left_has p f (place_calls place) (calls value) h, ((h, o), tt, st))
  eval_parts (tree.StructAssign place from size line) k m w h o st = (left_has p f (place_calls place) (place_calls from) h, ((h, o), tt, st))
  eval_parts (tree.Update op place value operation size ty line) k m w h o st =
      (left_has p f (place_calls place) (calls value) (left_has p f (place_calls place ++ calls value) (helper_calls (helper_for op (is_constant value) operation)) h), ((h, o), tt, st))
  eval_parts (tree.Step op place operation size ty line) k m w h o st = (h, ((h, o), tt, st))
  eval_parts (tree.Call function all ty line) k m w h o st = arguments_parts function all ty line [] all k m w h o (left_has p f (arguments_calls all) _ h) st

  pub find_parts : (place : Place) (k : List Pending) (m : source.Memory) (w : World Byte) → Has p f (place_calls place) → StackHas p c k → KeepsParts p (find s place k c m w)
  unfolding calls
  find_parts (tree.Name object ty line) k m w h st = (tt, st)
  find_parts (tree.Bit register number line) k m w h st = (tt, st)
  find_parts (tree.Member whole member offset ty line) k m w h st = (h, (h, st))
  find_parts (tree.Deref pointer ty line) k m w h st = ((h, tt), (h, st))

  -- ---- a place was found
  pub fetching_parts : (spot : Spot) (ty : Ty) (sizes : List ℕ) (k : List Pending) → FocusHas p c (fetching spot ty sizes) k
  fetching_parts spot types.Void sizes k = tt
  fetching_parts spot (types.Int ty) sizes k = tt
  fetching_parts spot (types.Pointer row) sizes k = tt
  fetching_parts spot (types.Array element length size) sizes k = tt
  fetching_parts spot (types.Struct number) sizes k = tt

  takes_parts : (x : Option Pointer) (k : List Pending) (m : source.Memory) (w : World Byte) → ((y : Pointer) → ValueFor (owed k) (datum.Pointer y)) → StackHas p c k → KeepsParts p (takes x k c m w)
  takes_parts (Some x) k m w h st = (h x, st)
  takes_parts None k m w h st = tt

  found_in_parts : (e : Expression) (got : Got) (spot : Spot) (k : List Pending) (m : source.Memory) (w : World Byte) → Has p f (calls e) → IsFor (owed k) e → StackHas p c k → KeepsParts p (found_in s e got spot k c m w)
  unfolding calls is_constant
  found_in_parts (tree.Read place ty line) Nothing spot k m w h o st = (fetching_parts spot ty p.sizes (In (tree.Read place ty line) (At spot) ∷ k), ((h, o), tt, st))
  found_in_parts (tree.Address place ty line) Nothing spot k m w h o st = takes_parts (address spot) k m w (λ y. free_given (owed k) (tree.Address place ty line) (datum.Pointer y) false≢true o) st
  found_in_parts (tree.Assign place value ty line) Nothing spot k m w h o st = ((right_has p f (place_calls place) (calls value) h, tt), ((h, o), tt, st))
  found_in_parts (tree.StructAssign place from size line) Nothing spot k m w h o st = (right_has p f (place_calls place) (place_calls from) h, ((h, o), tt, st))
  found_in_parts (tree.StructAssign place from size line) (At to) spot k m w h o st = (tt, ((h, o), tt, st))
  found_in_parts (tree.Update op place value operation size ty line) Nothing spot k m w h o st =
      ((right_has p f (place_calls place) (calls value) (left_has p f (place_calls place ++ calls value) (helper_calls (helper_for op (is_constant value) operation)) h), itself value), ((h, o), tt, st))
  found_in_parts (tree.Step op place operation size ty line) Nothing spot k m w h o st = (fetching_parts spot ty p.sizes (In (tree.Step op place operation size ty line) (At spot) ∷ k), ((h, o), tt, st))
  found_in_parts _ _ spot k m w h o st = tt

  at_member_parts : (x : Option Pointer) (line : ℕ) (k : List Pending) (m : source.Memory) (w : World Byte) → StackHas p c k → KeepsParts p (at_member x line k c m w)
  at_member_parts (Some x) line k m w st = (tt, st)
  at_member_parts None line k m w st = tt

  member_of_parts : (x : Option Pointer) (offset line : ℕ) (k : List Pending) (m : source.Memory) (w : World Byte) → StackHas p c k → KeepsParts p (member_of s x offset line k c m w)
  member_of_parts (Some x) offset line k m w st = at_member_parts (moved p x _) line k m w st
  member_of_parts None offset line k m w st = tt

  found_to_parts : (place : Place) (spot : Spot) (k : List Pending) (m : source.Memory) (w : World Byte) → StackHas p c k → KeepsParts p (found_to s place spot k c m w)
  found_to_parts (tree.Member whole member offset ty line) spot k m w st = member_of_parts (address spot) offset line k m w st
  found_to_parts _ spot k m w st = tt

  found_for_parts : (t : Statement) (stage : Stage) (spot : Spot) (k : List Pending) (m : source.Memory) (w : World Byte) → StackHas p c (Doing t stage ∷ k) → KeepsParts p (found_for s t stage spot k c m w)
  found_for_parts (tree.InitList local all line) (AtItem (tree.Struct offset from size) rest) spot k m w st = (tt, st)
  found_for_parts _ _ spot k m w st = tt

  pub found_parts : (spot : Spot) (k : List Pending) (m : source.Memory) (w : World Byte) → StackHas p c k → KeepsParts p (found s spot k c m w)
  found_parts spot [] m w st = tt
  found_parts spot (In e got ∷ k) m w st = found_in_parts e got spot k m w st.0.0 st.0.1 st.2
  found_parts spot (To place ∷ k) m w st = found_to_parts place spot k m w st.1
  found_parts spot (Doing t stage ∷ k) m w st = found_for_parts t stage spot k m w st
  found_parts spot (Before ss ∷ k) m w st = tt
  found_parts spot (Returns d ∷ k) m w st = tt
  found_parts spot (Resumes d x ∷ k) m w st = tt

  -- ---- values
  answered_parts : (a : Answer) (e : Expression) (line : ℕ) (k : List Pending) (m : source.Memory) (w : World Byte) → AnswerIs e a → IsFor (owed k) e → StackHas p c k → KeepsParts p (answered a line k c m w)
  answered_parts (answers.Gives v) e line k m w x o st = (given (owed k) e v x o, st)
  answered_parts (answers.Fails kind) e line k m w x o st = tt
  answered_parts answers.Strays e line k m w x o st = tt

  changes_parts : (a : Answer) (e : Expression) (spot : Spot) (keeps : Bool) (old : Datum) (line : ℕ) (k : List Pending) (m : source.Memory) (w : World Byte) → ((v : Datum) → DoneOf p f e (Stores spot v)) → Has p f (calls e) → IsFor (owed k) e → StackHas p c k → KeepsParts p (changes a e spot keeps old line k c m w)
  changes_parts (answers.Gives v) e spot keeps old line k m w d h o st = (tt, ((h, o), d (if keeps then old else v), st))
  changes_parts (answers.Fails kind) e spot keeps old line k m w d h o st = tt
  changes_parts answers.Strays e spot keeps old line k m w d h o st = tt

  -- `&&` and `||` go on by the left operand
  logical_number : (is : Bool) (op : LogicalOp) (left right : Expression) (line : ℕ) (q : Quantity) (v : Datum) (k : List Pending) (m : source.Memory) (w : World Byte) → (is_constant left ≡ true → constant_value left ≡ Some q) → folding.holds q ≡ is
      → Has p f (calls right) → Has p f (calls (tree.Logical op left right line)) → IsFor (owed k) (tree.Logical op left right line) → StackHas p c k → KeepsParts p (logical (tree.Logical op left right line) op v (Some is) right line k c m w)
  unfolding is_constant constant_value
  logical_number true And left right line q v k m w x e hr h o st =
      ((hr, itself right), ((h, o), (λ i. ap (λ y. connected And y (constant_value right)) (x i) ∙ ap (λ b. decided And b (constant_value right)) e), st))
  logical_number false And left right line q v k m w x e hr h o st =
      (given (owed k) (tree.Logical And left right line) (truth_value false) (λ i. ap (λ y. connected And y (constant_value right)) (x (and_left (is_constant left) (is_constant right) i)) ∙ ap (λ b. decided And b (constant_value right)) e) o, st)
  logical_number true Or left right line q v k m w x e hr h o st =
      (given (owed k) (tree.Logical Or left right line) (truth_value true) (λ i. ap (λ y. connected Or y (constant_value right)) (x (and_left (is_constant left) (is_constant right) i)) ∙ ap (λ b. decided Or b (constant_value right)) e) o, st)
  logical_number false Or left right line q v k m w x e hr h o st =
      ((hr, itself right), ((h, o), (λ i. ap (λ y. connected Or y (constant_value right)) (x i) ∙ ap (λ b. decided Or b (constant_value right)) e), st))

  logical_free : (is : Bool) (op : LogicalOp) (left right : Expression) (line : ℕ) (v : Datum) (k : List Pending) (m : source.Memory) (w : World Byte) → (is_constant left ≡ true → ⊥) → Has p f (calls right) → Has p f (calls (tree.Logical op left right line)) → IsFor (owed k) (tree.Logical op left right line) → StackHas p c k
      → KeepsParts p (logical (tree.Logical op left right line) op v (Some is) right line k c m w)
  unfolding is_constant
  logical_free is op left right line v k m w never hr h o st =
      let e = tree.Logical op left right line in
      either_parts (decides op is) _ _
      (free_given (owed k) e (truth_value is) (λ i. never (and_left (is_constant left) (is_constant right) i)) o, st)
      ((hr, itself right), ((h, o), (λ i. absurd (never i)), st))

  logical_left : (op : LogicalOp) (left right : Expression) (line : ℕ) (v : Datum) (k : List Pending) (m : source.Memory) (w : World Byte) → ((ty : Ty) × (ty ≡ type_of left) × HasType p ty v) → IsValue left v → Has p f (calls (tree.Logical op left right line)) → IsFor (owed k) (tree.Logical op left right line) → StackHas p c k
      → KeepsParts p (logical (tree.Logical op left right line) op v (answers.truth_of v) right line k c m w)
  unfolding answers.truth_of calls
  logical_left op left right line datum.Missing k m w t x h o st = tt
  logical_left op left right line (datum.Number q) k m w t x h o st = logical_number (not (int_eq q.number (pos 0))) op left right line q (datum.Number q) k m w x (holds_is q t.2.1) (right_has p f (calls left) (calls right) h) h o st
  logical_left op left right line (datum.Pointer y) k m w t x h o st = logical_free (not (answers.is_null y)) op left right line (datum.Pointer y) k m w x (right_has p f (calls left) (calls right) h) h o st

  logical_right : (op : LogicalOp) (left right : Expression) (line : ℕ) (v : Datum) (k : List Pending) (m : source.Memory) (w : World Byte) → ((ty : Ty) × (ty ≡ type_of right) × HasType p ty v) → IsValue right v → (is_constant left ≡ true → connected op (constant_value left) (constant_value right) ≡ folding.truth_of (constant_value right)) → IsFor (owed k) (tree.Logical op left right line) → StackHas p c k
      → KeepsParts p (truth_given (answers.truth_of v) line k c m w)
  unfolding answers.truth_of is_constant constant_value
  logical_right op left right line datum.Missing k m w t x done o st = tt
  logical_right op left right line (datum.Number q) k m w t x done o st =
      let e = tree.Logical op left right line in (
        given (owed k) e (truth_value (not (int_eq q.number (pos 0))))
            (λ i. done (and_left (is_constant left) (is_constant right) i) ∙ ap folding.truth_of (x (and_right (is_constant left) (is_constant right) i)) ∙ ap (λ b. Some (folding.truth_value b)) (holds_is q t.2.1)) o,
        st,
      )
  logical_right op left right line (datum.Pointer y) k m w t x done o st =
      (free_given (owed k) (tree.Logical op left right line) (truth_value (not (answers.is_null y))) (λ i. x (and_right (is_constant left) (is_constant right) i)) o, st)

  -- a condition chooses an operand
  chosen_number : (is : Bool) (condition held failed : Expression) (ty : Ty) (line : ℕ) (q : Quantity) (k : List Pending) (m : source.Memory) (w : World Byte) → (is_constant condition ≡ true → constant_value condition ≡ Some q) → folding.holds q ≡ is
      → Has p f (calls held) → Has p f (calls failed) → Has p f (calls (tree.Conditional condition held failed ty line)) → IsFor (owed k) (tree.Conditional condition held failed ty line) → StackHas p c k
      → KeepsParts p (branch (Some is) line (goes c (Eval held) (In (tree.Conditional condition held failed ty line) Chosen ∷ k) m w) (goes c (Eval failed) (In (tree.Conditional condition held failed ty line) Chosen ∷ k) m w))
  unfolding is_constant constant_value
  chosen_number true condition held failed ty line q k m w x e ha hb h o st =
      ((ha, λ i. (and_left (is_constant held) (is_constant failed) (and_right (is_constant condition) (is_constant held && is_constant failed) i), sym (ap (λ y. chosen y (constant_value held) (constant_value failed)) (x (and_left (is_constant condition) (is_constant held && is_constant failed) i)) ∙ ap (λ b. if b then constant_value held else constant_value failed) e))), ((h, o), tt, st))
  chosen_number false condition held failed ty line q k m w x e ha hb h o st =
      ((hb, λ i. (and_right (is_constant held) (is_constant failed) (and_right (is_constant condition) (is_constant held && is_constant failed) i), sym (ap (λ y. chosen y (constant_value held) (constant_value failed)) (x (and_left (is_constant condition) (is_constant held && is_constant failed) i)) ∙ ap (λ b. if b then constant_value held else constant_value failed) e))), ((h, o), tt, st))

  chosen_free : (holds : Option Bool) (condition held failed : Expression) (ty : Ty) (line : ℕ) (k : List Pending) (m : source.Memory) (w : World Byte) → (is_constant condition ≡ true → ⊥)
      → Has p f (calls held) → Has p f (calls failed) → Has p f (calls (tree.Conditional condition held failed ty line)) → IsFor (owed k) (tree.Conditional condition held failed ty line) → StackHas p c k
      → KeepsParts p (branch holds line (goes c (Eval held) (In (tree.Conditional condition held failed ty line) Chosen ∷ k) m w) (goes c (Eval failed) (In (tree.Conditional condition held failed ty line) Chosen ∷ k) m w))
  unfolding is_constant
  chosen_free holds condition held failed ty line k m w never ha hb h o st =
      branch_parts holds line _ _
      ((ha, λ i. absurd (never (and_left (is_constant condition) (is_constant held && is_constant failed) i))), ((h, o), tt, st))
      ((hb, λ i. absurd (never (and_left (is_constant condition) (is_constant held && is_constant failed) i))), ((h, o), tt, st))

  chosen_parts : (condition held failed : Expression) (ty : Ty) (line : ℕ) (v : Datum) (k : List Pending) (m : source.Memory) (w : World Byte) → ((t : Ty) × (t ≡ type_of condition) × HasType p t v) → IsValue condition v
      → Has p f (calls (tree.Conditional condition held failed ty line)) → IsFor (owed k) (tree.Conditional condition held failed ty line) → StackHas p c k
      → KeepsParts p (branch (answers.truth_of v) line (goes c (Eval held) (In (tree.Conditional condition held failed ty line) Chosen ∷ k) m w) (goes c (Eval failed) (In (tree.Conditional condition held failed ty line) Chosen ∷ k) m w))
  unfolding answers.truth_of calls
  chosen_parts condition held failed ty line datum.Missing k m w t x h o st = tt
  chosen_parts condition held failed ty line (datum.Number q) k m w t x h o st =
      chosen_number (not (int_eq q.number (pos 0))) condition held failed ty line q k m w x (holds_is q t.2.1)
      (right_has p f (calls condition) (calls held) (left_has p f (calls condition ++ calls held) (calls failed) h)) (right_has p f (calls condition ++ calls held) (calls failed) h) h o st
  chosen_parts condition held failed ty line (datum.Pointer y) k m w t x h o st =
      chosen_free (Some (not (answers.is_null y))) condition held failed ty line k m w x
      (right_has p f (calls condition) (calls held) (left_has p f (calls condition ++ calls held) (calls failed) h)) (right_has p f (calls condition ++ calls held) (calls failed) h) h o st

  -- a node takes the value of a part
  pub take_in_parts : (e : Expression) (got : Got) (v : Datum) (k : List Pending) (m : source.Memory) (w : World Byte) → IsExpressionOf p f e → GotStands p c e got → ((ty : Ty) × WaitsIn e got ty × HasType p ty v) → ValueFor (owed (In e got ∷ k)) v
      → Has p f (calls e) → IsFor (owed k) e → DoneOf p f e got → StackHas p c k → KeepsParts p (take_in s e got v k c m w)
  unfolding calls is_constant constant_value
  take_in_parts (tree.Convert operand ty line) Nothing v k m w x g t a h o d st = answered_parts (converted ty v) (tree.Convert operand ty line) line k m w (convert_value (tree.Convert operand ty line) operand ty v refl refl a) o st
  take_in_parts (tree.Cast operand ty line) Nothing v k m w x g t a h o d st = answered_parts (converted ty v) (tree.Cast operand ty line) line k m w (convert_value (tree.Cast operand ty line) operand ty v refl refl a) o st
  take_in_parts (tree.Unary op operand ty line) Nothing v k m w x g t a h o d st = answered_parts (unary_answer op v) (tree.Unary op operand ty line) line k m w (unary_value op operand ty line v a) o st
  take_in_parts (tree.Binary op left right ty line) Nothing v k m w x g t a h o d st =
      ((right_has p f (calls left) (calls right) (left_has p f (calls left ++ calls right) (helper_calls (helper_for op (is_constant right) (type_of left))) h), itself right), ((h, o), a, st))
  take_in_parts (tree.Binary op left right ty line) (One u) v k m w x g t a h o d st =
      answered_parts (binary_answer p _ op ty u v) (tree.Binary op left right ty line) line k m w
      (binary_value p _ op left right ty line u v d a (plain_on p op left right ty line u v x.0 g (subst (λ y. HasType p y v) t.1 t.2))) o st
  take_in_parts (tree.Offset op left right size ty line) Nothing v k m w x g t a h o d st = ((right_has p f (calls left) (calls right) h, tt), ((h, o), tt, st))
  take_in_parts (tree.Offset op left right size ty line) (One u) v k m w x g t a h o d st = answered_parts _ (tree.Offset op left right size ty line) line k m w (free_answer (tree.Offset op left right size ty line) _ false≢true) o st
  take_in_parts (tree.Difference left right size line) Nothing v k m w x g t a h o d st = ((right_has p f (calls left) (calls right) (left_has p f (calls left ++ calls right) (helper_calls (difference_helper size)) h), tt), ((h, o), tt, st))
  take_in_parts (tree.Difference left right size line) (One u) v k m w x g t a h o d st = answered_parts _ (tree.Difference left right size line) line k m w (free_answer (tree.Difference left right size line) _ false≢true) o st
  take_in_parts (tree.Logical op left right line) Nothing v k m w x g t a h o d st = logical_left op left right line v k m w t a h o st
  take_in_parts (tree.Logical op left right line) (One u) v k m w x g t a h o d st = logical_right op left right line v k m w t a d o st
  take_in_parts (tree.Conditional condition held failed ty line) Nothing v k m w x g t a h o d st = chosen_parts condition held failed ty line v k m w t a h o st
  take_in_parts (tree.Conditional condition held failed ty line) Chosen v k m w x g t a h o d st = (given (owed k) (tree.Conditional condition held failed ty line) v a o, st)
  take_in_parts (tree.Comma left right ty line) Nothing v k m w x g t a h o d st = ((right_has p f (calls left) (calls right) h, free_for (owed k) (tree.Comma left right ty line) right false≢true o), st)
  take_in_parts (tree.Assign place value ty line) (At spot) v k m w x g t a h o d st = used_parts v line _ (tt, ((h, o), tt, st))
  take_in_parts (tree.Update op place value operation size ty line) (At spot) v k m w x g t a h o d st = (fetching_parts spot ty p.sizes (In (tree.Update op place value operation size ty line) (AtWith spot v) ∷ k), ((h, o), a, st))
  take_in_parts (tree.Update op place value operation size ty line) (AtWith spot u) v k m w x g t a h o d st = changes_parts _ (tree.Update op place value operation size ty line) spot false v line k m w (λ y. tt) h o st
  take_in_parts (tree.Step op place operation size ty line) (At spot) v k m w x g t a h o d st = changes_parts _ (tree.Step op place operation size ty line) spot _ v line k m w (λ y. tt) h o st
  take_in_parts (tree.Call function all ty line) (Args before more) v k m w x g t a h o d st = arguments_parts function all ty line _ more k m w h o d st
  take_in_parts _ _ v k m w x g t a h o d st = tt

  deref_parts : (v : Datum) (line : ℕ) (k : List Pending) (m : source.Memory) (w : World Byte) → StackHas p c k → KeepsParts p (deref v line k c m w)
  deref_parts (datum.Pointer x) line k m w st = (tt, st)
  deref_parts (datum.Number q) line k m w st = tt
  deref_parts datum.Missing line k m w st = tt

  pub take_to_parts : (place : Place) (v : Datum) (k : List Pending) (m : source.Memory) (w : World Byte) → StackHas p c k → KeepsParts p (take_to place v k c m w)
  take_to_parts (tree.Deref pointer ty line) v k m w st = deref_parts v line k m w st
  take_to_parts _ v k m w st = tt
