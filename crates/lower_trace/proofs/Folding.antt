-- The count of a shift by a constant has no code. While the source evaluates it, byte code waits at the left operand's value; what is
-- left to evaluate comes to the constant.
use Rattle.c_ints.specs.Operators.{cut_to, exact_unary, outcome, unary_type}
use Rattle.c_ints.specs.Quantity.{Quantity}
use Rattle.c_ints.specs.Range.{IsInRange, pattern}
use Rattle.c_ints.specs.declared.operators.BinOp.{BinOp}
use Rattle.c_typed.specs.Folding as folding
use Rattle.c_typed.specs.Folding.{applied, bits, chosen, combined, connected, constant_bits, constant_value, negated, truth_of}
use Rattle.c_typed.specs.Trees as tree
use Rattle.c_typed.specs.Trees.{Expression, Place}
use Rattle.c_typed.specs.Types.{is_constant, is_integer}
use Rattle.c_typed.specs.declared.expression.LogicalOp.TheVariants.{And, Or}
use Rattle.c_typed.specs.declared.expression.LogicalOp.{LogicalOp}
use Rattle.c_typed.specs.declared.types.Ty.TheVariants as types
use Rattle.c_typed.specs.declared.types.Ty.{Ty}
use Rattle.core_code.specs.Machine.{Machine}
use Rattle.lower_expr.specs.Lowering.{shifts_by_constant}
use Rattle.lower_expr.specs.Rows.{is_shift}
use Rattle.lower_trace.proofs.CodeLeft.{Scene, source_in}
use Rattle.lower_trace.proofs.Constants.{same_below}
use Rattle.lower_trace.proofs.Giving.{mirrors}
use Rattle.lower_trace.proofs.Mirrors.{Mirrors}
use Rattle.lower_trace.proofs.NumberBytes.{zero_pattern}
use Rattle.lower_trace.proofs.Written.{and_left, and_right}
use Rattle.pic_world.proofs.WorldLaws.{arrived_again}
use Rattle.pic_world.specs.World.{World, arrived, is_due}
use Rattle.src_rules.specs.Expressions.{eval, found_in}
use Rattle.src_rules.specs.Giving.{answered, branch, logical, take_in}
use Rattle.src_rules.specs.Accesses.{goes}
use Rattle.src_rules.specs.State.{Idle, Lost, Outcome, State, Undefined, Went, state}
use Rattle.src_values.specs.Control.{At, Chosen, Eval, Focus, Found, Got, In, Nothing, One, Pending, Holds as Value}
use Rattle.src_values.specs.Data as datum
use Rattle.src_values.specs.Data.{Datum}
use Rattle.src_values.specs.Memory as source
use Rattle.src_values.specs.Values as answers
use Rattle.src_values.specs.Values.{bad_right, binary_answer, converted, decides, number_or_overflow, truth_value, unary_answer, unless_bad}
use Rattle.src_values.specs.declared.objects.Byte as value
use Rattle.src_values.specs.declared.objects.CopyOf.{CopyOf}
use Rattle.src_values.specs.declared.objects.Spot as spot
use Rattle.src_values.specs.declared.objects.Undef.{Undef}
use Rattle.std.proofs.Common.{Bool, List, None, Option, Some, [], ap, false, if◌then◌else◌, not, pos, refl, sym, true, ℕ, ◌&&◌, ◌++◌, ◌∙◌, ◌∷◌, ◌≡◌}
use Rattle.std.specs.Ordering.{int_eq}

-- ---- what is left of a constant
-- what frames of a constant make of the value that they wait for
abbrev pub folds : List Pending → Option Quantity → Option Quantity
folds [] v = v
folds (In (tree.Convert operand ty line) Nothing ∷ k) v = folds k (folding.converted ty v)
folds (In (tree.Cast operand ty line) Nothing ∷ k) v = folds k (folding.converted ty v)
folds (In (tree.Unary op operand ty line) Nothing ∷ k) v = folds k (negated op v)
folds (In (tree.Binary op left right ty line) Nothing ∷ k) v = folds k (combined op v (constant_value right))
folds (In (tree.Binary op left right ty line) (One (datum.Number u)) ∷ k) v = folds k (combined op (Some u) v)
folds (In (tree.Logical op left right line) Nothing ∷ k) v = folds k (connected op v (constant_value right))
folds (In (tree.Logical op left right line) (One u) ∷ k) v = folds k (truth_of v)
folds (In (tree.Conditional condition held failed ty line) Nothing ∷ k) v = folds k (chosen v (constant_value held) (constant_value failed))
folds (In (tree.Conditional condition held failed ty line) Chosen ∷ k) v = folds k v
folds _ v = None

abbrev pub AreFolded : List Pending → Type 0
AreFolded [] = Unit {0}
AreFolded (In (tree.Convert operand ty line) Nothing ∷ k) = (is_integer ty ≡ true) × AreFolded k
AreFolded (In (tree.Cast operand ty line) Nothing ∷ k) = (is_integer ty ≡ true) × AreFolded k
AreFolded (In (tree.Unary op operand ty line) Nothing ∷ k) = AreFolded k
AreFolded (In (tree.Binary op left right ty line) Nothing ∷ k) = (is_constant right ≡ true) × AreFolded k
AreFolded (In (tree.Binary op left right ty line) (One (datum.Number u)) ∷ k) = AreFolded k
AreFolded (In (tree.Logical op left right line) Nothing ∷ k) = (is_constant right ≡ true) × AreFolded k
AreFolded (In (tree.Logical op left right line) (One u) ∷ k) = AreFolded k
AreFolded (In (tree.Conditional condition held failed ty line) Nothing ∷ k) = (is_constant held ≡ true) × (is_constant failed ≡ true) × AreFolded k
AreFolded (In (tree.Conditional condition held failed ty line) Chosen ∷ k) = AreFolded k
AreFolded _ = ⊥

-- a focus within a constant, which comes to this value
abbrev pub FoldsTo : Focus → List Pending → Option Quantity → Type 0
FoldsTo (Eval e) above v = (is_constant e ≡ true) × (folds above (constant_value e) ≡ v)
FoldsTo (Value (datum.Number q)) above v = folds above (Some q) ≡ v
FoldsTo _ above v = ⊥

-- The frame that waits for the count, the one that byte code still has in its place, and the focus there.
abbrev pub FoldWaits : Pending → Pending → Focus → Expression → Type 0
FoldWaits (In (tree.Binary op left right ty line) (One v)) before x count = (shifts_by_constant op right ≡ true) × (before ≡ In (tree.Binary op left right ty line) Nothing) × (x ≡ Value v) × (count ≡ right)
FoldWaits (In (tree.Update op place right operation size ty line) (At spot)) before x count =
    (shifts_by_constant op right ≡ true) × (before ≡ In (tree.Update op place right operation size ty line) Nothing) × (x ≡ Found spot) × (count ≡ right)
FoldWaits _ before x count = ⊥

pub record FoldState (z : Scene) (frame before : Pending) (was : Focus) (count : Expression) (k above : List Pending) (x : Focus) (cp : CopyOf) (l : source.Memory) (w : World value.Byte) (c : Machine) : Type 0 where
  pub waits : FoldWaits frame before was count
  pub stands : Mirrors z (state cp was (before ∷ k) l w) c
  pub quiet : is_due (arrived z.outside w) ≡ false
  pub folded : AreFolded above
  pub value : FoldsTo x above (constant_value count)

pub record FoldPauses (z : Scene) (t : State) (c : Machine) : Type 0 where
  pub frame : Pending
  pub before : Pending
  pub was : Focus
  pub count : Expression
  pub below : List Pending
  pub above : List Pending
  pub stack : t.stack ≡ above ++ frame ∷ below
  pub state_is : FoldState z frame before was count below above t.focus t.copy t.memory t.world c

-- what byte code does where the source ends a micro-step within a constant: nothing
abbrev pub Folds : Scene → Machine → Outcome → Type 0
Folds z c (Went t event) = FoldPauses z t c
Folds z c (Undefined kind line) = Unit {0}
Folds z c Idle = Unit {0}
Folds z c Lost = Unit {0}

-- The operands of an operator within a constant have its types, so that no conversion is left.
abbrev pub PlainOn : Pending → Quantity → Type 0
PlainOn (In (tree.Binary op left right ty line) (One (datum.Number u))) q = applied op u q ≡ outcome op u q
PlainOn _ q = Unit {0}

module _ (z : Scene) (F before : Pending) (was : Focus) (count : Expression) (k : List Pending) (cp : CopyOf) (l : source.Memory) (w : World value.Byte) (c : Machine) where
  abbrev Within : List Pending → Focus → Type 0
  Within above x = FoldState z F before was count k above x cp l w c

  keeps : (above above' : List Pending) (x x' : Focus) → Within above x → AreFolded above' → FoldsTo x' above' (constant_value count) → FoldPauses z (state cp x' (above' ++ F ∷ k) l (arrived z.outside w)) c
  keeps above above' x x' h f v =
      let m = h.stands in
      record {
        frame = F;
        before = before;
        was = was;
        count = count;
        below = k;
        above = above';
        stack = refl;
        state_is = record {
          waits = h.waits;
          stands = mirrors z cp was (before ∷ k) l (arrived z.outside w) c.memory c (record { copy = m.copy; passing = m.passing; code = m.code; stack = m.stack; memory = refl; world = m.world ∙ same_below z w }) m.agrees m.holds m.value;
          quiet = ap is_due (arrived_again z.outside w) ∙ h.quiet;
          folded = f;
          value = v;
        };
      }

  -- ---- an expression begins
  pub fold_eval : (e : Expression) (above : List Pending) → Within above (Eval e) → Folds z c (eval e (above ++ F ∷ k) cp l (arrived z.outside w))
  unfolding is_constant constant_value
  fold_eval (tree.Constant q at) above h = keeps above above (Eval (tree.Constant q at)) (Value (datum.Number q)) h h.folded h.value.1
  fold_eval (tree.Convert operand t at) above h =
      let v = h.value in
      keeps above (In (tree.Convert operand t at) Nothing ∷ above) (Eval (tree.Convert operand t at)) (Eval operand) h (and_left (is_integer t) (is_constant operand) v.0, h.folded) (and_right (is_integer t) (is_constant operand) v.0, v.1)
  fold_eval (tree.Cast operand t at) above h =
      let v = h.value in
      keeps above (In (tree.Cast operand t at) Nothing ∷ above) (Eval (tree.Cast operand t at)) (Eval operand) h (and_left (is_integer t) (is_constant operand) v.0, h.folded) (and_right (is_integer t) (is_constant operand) v.0, v.1)
  fold_eval (tree.Unary o operand t at) above h = keeps above (In (tree.Unary o operand t at) Nothing ∷ above) (Eval (tree.Unary o operand t at)) (Eval operand) h h.folded h.value
  fold_eval (tree.Binary o first second t at) above h =
      let v = h.value in
      keeps above (In (tree.Binary o first second t at) Nothing ∷ above) (Eval (tree.Binary o first second t at)) (Eval first) h (and_right (is_constant first) (is_constant second) v.0, h.folded) (and_left (is_constant first) (is_constant second) v.0, v.1)
  fold_eval (tree.Logical o first second at) above h =
      let v = h.value in
      keeps above (In (tree.Logical o first second at) Nothing ∷ above) (Eval (tree.Logical o first second at)) (Eval first) h (and_right (is_constant first) (is_constant second) v.0, h.folded) (and_left (is_constant first) (is_constant second) v.0, v.1)
  fold_eval (tree.Conditional condition held failed t at) above h =
      let v = h.value in
      let both_are = and_right (is_constant condition) (is_constant held && is_constant failed) v.0 in
      keeps above (In (tree.Conditional condition held failed t at) Nothing ∷ above) (Eval (tree.Conditional condition held failed t at)) (Eval condition) h
      (and_left (is_constant held) (is_constant failed) both_are, and_right (is_constant held) (is_constant failed) both_are, h.folded)
      (and_left (is_constant condition) (is_constant held && is_constant failed) v.0, v.1)
  fold_eval (tree.Read place t at) above h = absurd (let v = h.value in let e = v.0 in cc)
  fold_eval (tree.Address place t at) above h = absurd (let v = h.value in let e = v.0 in cc)
  fold_eval (tree.Offset o first second size t at) above h = absurd (let v = h.value in let e = v.0 in cc)
  fold_eval (tree.Difference first second size at) above h = absurd (let v = h.value in let e = v.0 in cc)
  fold_eval (tree.Comma first second t at) above h = absurd (let v = h.value in let e = v.0 in cc)
  fold_eval (tree.Assign place e t at) above h = absurd (let v = h.value in let e = v.0 in cc)
  fold_eval (tree.StructAssign place from size at) above h = absurd (let v = h.value in let e = v.0 in cc)
  fold_eval (tree.Update o place e t size ty2 at) above h = absurd (let v = h.value in let e = v.0 in cc)
  fold_eval (tree.Step o place t size ty2 at) above h = absurd (let v = h.value in let e = v.0 in cc)
  fold_eval (tree.Call function arguments t at) above h = absurd (let v = h.value in let e = v.0 in cc)

  -- ---- a value is taken
  holds_is : (q : Quantity) → IsInRange q.ty q.number → folding.holds q ≡ not (int_eq q.number (pos 0))
  unfolding bits
  holds_is q r = ap not (zero_pattern q.ty q.number r)

  convert_case : (t : Ty) (at : ℕ) (q : Quantity) (above : List Pending) (x : Focus) (frame : Pending) → Within (frame ∷ above) x → is_integer t ≡ true → AreFolded above → folds above (folding.converted t (Some q)) ≡ constant_value count → Folds z c (answered (converted t (datum.Number q)) at (above ++ F ∷ k) cp l (arrived z.outside w))
  unfolding converted
  convert_case (types.Int t) at q above x frame h i f v = keeps (frame ∷ above) above x (Value (datum.Number (cut_to t q.number))) h f v
  convert_case types.Void at q above x frame h i f v = absurd (cc)
  convert_case (types.Pointer target) at q above x frame h i f v = absurd (cc)
  convert_case (types.Array element count size) at q above x frame h i f v = absurd (cc)
  convert_case (types.Struct number) at q above x frame h i f v = absurd (cc)

  apply_case : (bad : Option Undef) (o : Option Quantity) (at : ℕ) (above : List Pending) (x : Focus) (frame : Pending) → Within (frame ∷ above) x → AreFolded above → folds above o ≡ constant_value count → Folds z c (answered (unless_bad bad (number_or_overflow o)) at (above ++ F ∷ k) cp l (arrived z.outside w))
  apply_case (Some kind) o at above x frame h f v = tt
  apply_case None None at above x frame h f v = tt
  apply_case None (Some q) at above x frame h f v = keeps (frame ∷ above) above x (Value (datum.Number q)) h f v

  logical_case : (is : Bool) (o : LogicalOp) (first second : Expression) (at : ℕ) (q : Quantity) (above : List Pending) → folding.holds q ≡ is → Within (In (tree.Logical o first second at) Nothing ∷ above) (Value (datum.Number q)) → Folds z c (logical (tree.Logical o first second at) o (datum.Number q) (Some is) second at (above ++ F ∷ k) cp l (arrived z.outside w))
  logical_case true And first second at q above e h = keeps (In (tree.Logical And first second at) Nothing ∷ above) (In (tree.Logical And first second at) (One (datum.Number q)) ∷ above) (Value (datum.Number q)) (Eval second) h h.folded.1 (h.folded.0, ap (λ b. folds above (folding.decided And b (constant_value second))) (sym e) ∙ h.value)
  logical_case false And first second at q above e h = keeps (In (tree.Logical And first second at) Nothing ∷ above) above (Value (datum.Number q)) (Value (truth_value false)) h h.folded.1 (ap (λ b. folds above (folding.decided And b (constant_value second))) (sym e) ∙ h.value)
  logical_case true Or first second at q above e h = keeps (In (tree.Logical Or first second at) Nothing ∷ above) above (Value (datum.Number q)) (Value (truth_value true)) h h.folded.1 (ap (λ b. folds above (folding.decided Or b (constant_value second))) (sym e) ∙ h.value)
  logical_case false Or first second at q above e h = keeps (In (tree.Logical Or first second at) Nothing ∷ above) (In (tree.Logical Or first second at) (One (datum.Number q)) ∷ above) (Value (datum.Number q)) (Eval second) h h.folded.1 (h.folded.0, ap (λ b. folds above (folding.decided Or b (constant_value second))) (sym e) ∙ h.value)

  branch_case : (is : Bool) (condition held failed : Expression) (t : Ty) (at : ℕ) (q : Quantity) (above : List Pending) → folding.holds q ≡ is → Within (In (tree.Conditional condition held failed t at) Nothing ∷ above) (Value (datum.Number q))
      → Folds z c (branch (Some is) at (goes cp (Eval held) (In (tree.Conditional condition held failed t at) Chosen ∷ (above ++ F ∷ k)) l (arrived z.outside w)) (goes cp (Eval failed) (In (tree.Conditional condition held failed t at) Chosen ∷ (above ++ F ∷ k)) l (arrived z.outside w)))
  branch_case true condition held failed t at q above e h =
      keeps (In (tree.Conditional condition held failed t at) Nothing ∷ above) (In (tree.Conditional condition held failed t at) Chosen ∷ above) (Value (datum.Number q)) (Eval held) h h.folded.2 (h.folded.0, ap (λ b. folds above (if b then constant_value held else constant_value failed)) (sym e) ∙ h.value)
  branch_case false condition held failed t at q above e h =
      keeps (In (tree.Conditional condition held failed t at) Nothing ∷ above) (In (tree.Conditional condition held failed t at) Chosen ∷ above) (Value (datum.Number q)) (Eval failed) h h.folded.2 (h.folded.1, ap (λ b. folds above (if b then constant_value held else constant_value failed)) (sym e) ∙ h.value)

  pub fold_take : (e : Expression) (got : Got) (q : Quantity) (above : List Pending) → IsInRange q.ty q.number → PlainOn (In e got) q → Within (In e got ∷ above) (Value (datum.Number q)) → Folds z c (take_in (source_in z) e got (datum.Number q) (above ++ F ∷ k) cp l (arrived z.outside w))
  unfolding unary_answer binary_answer answers.truth_of
  fold_take (tree.Convert operand t at) Nothing q above r plain h = convert_case t at q above (Value (datum.Number q)) (In (tree.Convert operand t at) Nothing) h h.folded.0 h.folded.1 h.value
  fold_take (tree.Cast operand t at) Nothing q above r plain h = convert_case t at q above (Value (datum.Number q)) (In (tree.Cast operand t at) Nothing) h h.folded.0 h.folded.1 h.value
  fold_take (tree.Unary o operand t at) Nothing q above r plain h = keeps (In (tree.Unary o operand t at) Nothing ∷ above) above (Value (datum.Number q)) (Value (datum.Number (cut_to (unary_type o q.ty) (exact_unary o q.number)))) h h.folded h.value
  fold_take (tree.Binary o first second t at) Nothing q above r plain h = keeps (In (tree.Binary o first second t at) Nothing ∷ above) (In (tree.Binary o first second t at) (One (datum.Number q)) ∷ above) (Value (datum.Number q)) (Eval second) h h.folded.1 (h.folded.0, h.value)
  fold_take (tree.Binary o first second t at) (One (datum.Number x)) q above r plain h =
      apply_case (bad_right o t (datum.Number q)) (outcome o x q) at above (Value (datum.Number q)) (In (tree.Binary o first second t at) (One (datum.Number x))) h h.folded (ap (folds above) (sym plain) ∙ h.value)
  fold_take (tree.Logical o first second at) Nothing q above r plain h = logical_case (not (int_eq q.number (pos 0))) o first second at q above (holds_is q r) h
  fold_take (tree.Logical o first second at) (One x) q above r plain h =
      keeps (In (tree.Logical o first second at) (One x) ∷ above) above (Value (datum.Number q)) (Value (truth_value (not (int_eq q.number (pos 0))))) h h.folded (ap (λ b. folds above (Some (folding.truth_value b))) (sym (holds_is q r)) ∙ h.value)
  fold_take (tree.Conditional condition held failed t at) Nothing q above r plain h = branch_case (not (int_eq q.number (pos 0))) condition held failed t at q above (holds_is q r) h
  fold_take (tree.Conditional condition held failed t at) Chosen q above r plain h = keeps (In (tree.Conditional condition held failed t at) Chosen ∷ above) above (Value (datum.Number q)) (Value (datum.Number q)) h h.folded h.value
  fold_take _ _ q above r plain h = absurd h.folded

  -- ---- the constant begins, and ends
  pub fold_bits : (q : Quantity) → Within [] (Value (datum.Number q)) → pattern q.ty q.number ≡ constant_bits count
  unfolding bits
  fold_bits q h = ap (λ v. folding.bits_of v) h.value

module _ (z : Scene) (k : List Pending) (cp : CopyOf) (l : source.Memory) (w : World value.Byte) (c : Machine) where
  -- the left operand of a shift has its value
  pub shift_begins : (op : BinOp) (left right : Expression) (ty : Ty) (line : ℕ) (v : Datum) → shifts_by_constant op right ≡ true → is_due (arrived z.outside w) ≡ false → Mirrors z (state cp (Value v) (In (tree.Binary op left right ty line) Nothing ∷ k) l w) c
      → Folds z c (take_in (source_in z) (tree.Binary op left right ty line) Nothing v k cp l (arrived z.outside w))
  shift_begins op left right ty line v constant due h =
      let F = In (tree.Binary op left right ty line) (One v) in
      let before = In (tree.Binary op left right ty line) Nothing in
      let begun : FoldState z F before (Value v) right k [] (Eval right) cp l w c = record { waits = (constant, refl, refl, refl); stands = h; quiet = due; folded = tt; value = (and_right (is_shift op) (is_constant right) constant, refl) } in
      keeps z F before (Value v) right k cp l w c [] [] (Eval right) (Eval right) begun tt begun.value

  -- the place of an update by a shift was found
  pub update_begins : (op : BinOp) (place : Place) (right : Expression) (operation : Ty) (size : ℕ) (ty : Ty) (line : ℕ) (where_is : spot.Spot) → shifts_by_constant op right ≡ true → is_due (arrived z.outside w) ≡ false → Mirrors z (state cp (Found where_is) (In (tree.Update op place right operation size ty line) Nothing ∷ k) l w) c
      → Folds z c (found_in (source_in z) (tree.Update op place right operation size ty line) Nothing where_is k cp l (arrived z.outside w))
  update_begins op place right operation size ty line where_is constant due h =
      let F = In (tree.Update op place right operation size ty line) (At where_is) in
      let before = In (tree.Update op place right operation size ty line) Nothing in
      let begun : FoldState z F before (Found where_is) right k [] (Eval right) cp l w c = record { waits = (constant, refl, refl, refl); stands = h; quiet = due; folded = tt; value = (and_right (is_shift op) (is_constant right) constant, refl) } in
      keeps z F before (Found where_is) right k cp l w c [] [] (Eval right) (Eval right) begun tt begun.value
