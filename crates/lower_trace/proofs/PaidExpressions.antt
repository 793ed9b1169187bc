-- A micro-step that doesn't count is paid for, by what the state before it owes: expressions and places.
use Rattle.std.proofs.Common.{◌≡◌, ℕ, ◌+◌, ◌≤◌, ◌⊎◌, inl, inr, ⊎_elim, Bool, true, false, ◌&&◌, List, [], ◌∷◌, ◌++◌, Option, Some, None, refl, sym, ap, ◌∙◌, arith}
use Rattle.std.proofs.lemmas.Bool.{false≢true}
use Rattle.std.proofs.lemmas.Grind.{common_steps}
use Rattle.std.specs.Prelude.{zero, suc, if◌then◌else◌, is_some, nat_eq, nat_lt, not}
use Rattle.c_ints.specs.Range.{bytes_of}
use Rattle.c_ints.specs.declared.operators.BinOp.{BinOp}
use Rattle.c_ints.specs.declared.types.IntTy.{IntTy}
use Rattle.c_ints.specs.declared.types.IntTy.TheVariants as ints
use Rattle.c_typed.specs.Rules.{integer_step_fits}
use Rattle.c_typed.specs.Sameness.{is_array, is_pointer, is_scalar}
use Rattle.c_typed.specs.Trees as tree
use Rattle.c_typed.specs.Trees.{Expression, Expressions, Place, Item, Statement, Program}
use Rattle.c_typed.specs.Types.{type_bytes, type_of, value_bytes, place_type, form_of}
use Rattle.c_typed.specs.Words.{convert_words, address_words, struct_words}
use Rattle.c_typed.specs.declared.expression.LogicalOp.{LogicalOp}
use Rattle.c_typed.specs.declared.expression.PlaceForm.TheVariants as forms
use Rattle.c_typed.specs.declared.types.Ty.{Ty}
use Rattle.c_typed.specs.declared.types.Ty.TheVariants as types
use Rattle.pic_world.specs.World.{World}
use Rattle.src_rules.specs.Accesses.{goes, fetching}
use Rattle.src_rules.proofs.Rules.{IsUpdate, IsStep, moves_rule, read_rule, update_rule, step_rule}
use Rattle.src_rules.specs.Expressions.{eval, find, address, takes, found_in, found_to, found_for, found}
use Rattle.src_rules.specs.Giving.{answered, branch, logical, take_in, take_to}
use Rattle.src_rules.specs.Parts.{IsExpressionOf}
use Rattle.src_rules.specs.Standing.{StackStands}
use Rattle.src_rules.specs.State.{Outcome, Went, Undefined, Idle, Lost}
use Rattle.src_rules.specs.Step.{is_some_line}
use Rattle.src_values.specs.Control as control
use Rattle.src_values.specs.Control.{Focus, Eval, Find, Skim, Got, Nothing, Chosen, One, At, AtWith, Stores, Args, Stage, AtItem, Items, Pending, In, To, Doing, Before, Returns, Resumes, read_type, line_at}
use Rattle.src_values.specs.Counting.{is_operator, counted_line, counted_if, logical_counts, value_counts_in, value_counts_to, found_counts_in, found_counts_to, found_counts}
use Rattle.src_values.specs.Data.{Datum}
use Rattle.src_values.specs.Memory.{Setting, Memory}
use Rattle.src_values.specs.Values.{Answer, Gives, Fails, Strays, truth_of, truth_value, decides}
use Rattle.src_values.specs.declared.objects.Byte.{Byte}
use Rattle.src_values.specs.declared.objects.CopyOf.{CopyOf}
use Rattle.src_values.specs.declared.objects.Pointer.{Pointer as Reference}
use Rattle.src_values.specs.declared.objects.Spot.{Spot}
use Rattle.lower_trace.proofs.Prices.{eval_most, given_most_in, found_most_in, found_most, skim_end}
use Rattle.lower_trace.proofs.Stepping.{is_over}
use Rattle.lower_trace.proofs.Burdens.{if_any, items_burden, burden, place_burden, passes, place_passes, either, empty_read, bulk, value_burden, place_burden_at, end_burden, load}

-- The next micro-step counts, and the functions under way have no more words than this; or no more is owed.
-- Main doesn't end there.
abbrev pub Owes : Program → ℕ → CopyOf → Focus → List Pending → Type 0
Owes p n c x k = (((is_some_line (counted_line p c x k) ≡ true) × (bulk p c k ≤ n)) ⊎ (load p c x k ≤ n)) × (is_over x ≡ false)

abbrev pub Pays : Program → ℕ → Outcome → Type 0
Pays p n (Went u event) = Owes p n u.copy u.focus u.stack
Pays p n (Undefined kind line) = Unit {0}
Pays p n Idle = Unit {0}
Pays p n Lost = Unit {0}

either_one : (b : Bool) (w v u n : ℕ) → w + v ≤ n → w + u ≤ n → w + either b v u ≤ n
either_one true w v u n h g = h
either_one false w v u n h g = g

handed_on : (b : Bool) (w q v u n : ℕ) → w + q + either b v u ≤ n → w + either b (q + v) u ≤ n
handed_on true w q v u n h = omega arith
handed_on false w q v u n h = omega arith

read_on : (b z : Bool) (w q v u n : ℕ) → w + q + either (b && z) v u ≤ n → w + either b (q + either z v u) u ≤ n
read_on true z w q v u n h = omega arith
read_on false z w q v u n h = omega arith

-- what is updated or stepped is a number or a pointer
pointer_scalar : (ty : Ty) → is_pointer ty ≡ true → is_scalar ty ≡ true
pointer_scalar types.Void e = absurd (false≢true e)
pointer_scalar (types.Int i) e = absurd (false≢true e)
pointer_scalar (types.Pointer row) e = refl
pointer_scalar (types.Array element length bytes) e = absurd (false≢true e)
pointer_scalar (types.Struct number) e = absurd (false≢true e)

update_scalar : (p : Program) (op : BinOp) (value operation : Ty) (size : ℕ) (ty : Ty) → IsUpdate p op value operation size ty → is_scalar ty ≡ true
update_scalar p op value operation size types.Void (inl e) = absurd (cc)
update_scalar p op value operation size (types.Int t) (inl e) = refl
update_scalar p op value operation size (types.Pointer row) (inl e) = refl
update_scalar p op value operation size (types.Array element length bytes) (inl e) = absurd (cc)
update_scalar p op value operation size (types.Struct number) (inl e) = absurd (cc)
update_scalar p op value operation size ty (inr h) = pointer_scalar ty (moves_rule p ty value size ty h.1).0

stepped_scalar : (operation ty : Ty) → integer_step_fits ty operation ≡ true → is_scalar ty ≡ true
stepped_scalar operation types.Void e = absurd (false≢true e)
stepped_scalar operation (types.Int i) e = refl
stepped_scalar operation (types.Pointer row) e = refl
stepped_scalar operation (types.Array element length bytes) e = absurd (false≢true e)
stepped_scalar operation (types.Struct number) e = absurd (false≢true e)

step_scalar : (p : Program) (operation ty : Ty) → IsStep p operation ty → is_scalar ty ≡ true
step_scalar p operation ty h = ⊎_elim (λ i. stepped_scalar operation ty i) (λ q. pointer_scalar ty q.1) h

-- what is owed behind the end of a statement is no less than the words of what is under way
pub bulk_end : (p : Program) (c : CopyOf) (k : List Pending) → bulk p c k ≤ end_burden p c k
unfolding bulk end_burden
bulk_end p c [] = omega arith
bulk_end p c (In e got ∷ k) = omega arith
bulk_end p c (To place ∷ k) = omega arith
bulk_end p c (Doing t stage ∷ k) = let d = bulk_end p c k in omega arith
bulk_end p c (Before ss ∷ k) = let d = bulk_end p c k in omega arith
bulk_end p c (Returns d ∷ k) = omega arith
bulk_end p c (Resumes d x ∷ k) = omega arith

module _ (s : Setting) where
  pub eval_part : (e : Expression) (k : List Pending) (c : CopyOf) (n : ℕ) → burden s.program.sizes e + value_burden s.program c k ≤ n → burden s.program.sizes e + bulk s.program c k ≤ n → load s.program c (Eval e) k ≤ n
  eval_part e k c n h g = either_one (passes s.program e) (burden s.program.sizes e) (value_burden s.program c k) (bulk s.program c k) n h g

  pub find_part : (place : Place) (k : List Pending) (c : CopyOf) (n : ℕ) → place_burden s.program.sizes place + place_burden_at s.program c k ≤ n → place_burden s.program.sizes place + bulk s.program c k ≤ n → load s.program c (Find place) k ≤ n
  find_part place k c n h g = either_one (place_passes place) (place_burden s.program.sizes place) (place_burden_at s.program c k) (bulk s.program c k) n h g

  -- ---- expressions and places begin
  pub eval_pays : (n : ℕ) (e : Expression) (k : List Pending) (c : CopyOf) (m : Memory) (w : World Byte) → eval_most e + n ≡ load s.program c (Eval e) k → Pays s.program n (eval e k c m w)
  unfolding burden passes value_burden bulk counted_line
  eval_pays n (tree.Constant value line) k c m w h = (inr (omega arith), refl)
  eval_pays n (tree.Read place ty line) k c m w h =
      let z = s.program.sizes in
      (inr (read_on (place_passes place) (nat_eq (type_bytes z ty) 0) (place_burden z place) (empty_read z place (type_bytes z ty)) (value_burden s.program c k) (bulk s.program c k) n (omega arith)), refl)
  eval_pays n (tree.Address place ty line) k c m w h =
      let z = s.program.sizes in
      (inr (read_on (place_passes place) (not (is_operator s.program (place_type place).ty ty)) (place_burden z place) (address_words (form_of place)) (value_burden s.program c k) (bulk s.program c k) n (omega arith)), refl)
  eval_pays n (tree.Convert operand ty line) k c m w h =
      let z = s.program.sizes in
      (inr (handed_on (passes s.program operand) (burden z operand) (convert_words (value_bytes z operand) (type_bytes z ty)) (value_burden s.program c k) (bulk s.program c k) n (omega arith)), refl)
  eval_pays n (tree.Cast operand ty line) k c m w h = (inr (eval_part operand (In (tree.Cast operand ty line) Nothing ∷ k) c n (omega arith) (omega arith)), refl)
  eval_pays n (tree.Unary op operand ty line) k c m w h = (inr (eval_part operand (In (tree.Unary op operand ty line) Nothing ∷ k) c n (omega arith) (omega arith)), refl)
  eval_pays n (tree.Binary op left right ty line) k c m w h = (inr (eval_part left (In (tree.Binary op left right ty line) Nothing ∷ k) c n (omega arith) (omega arith)), refl)
  eval_pays n (tree.Offset op left right size ty line) k c m w h = (inr (eval_part left (In (tree.Offset op left right size ty line) Nothing ∷ k) c n (omega arith) (omega arith)), refl)
  eval_pays n (tree.Difference left right size line) k c m w h = (inr (eval_part left (In (tree.Difference left right size line) Nothing ∷ k) c n (omega arith) (omega arith)), refl)
  eval_pays n (tree.Logical op left right line) k c m w h = (inr (eval_part left (In (tree.Logical op left right line) Nothing ∷ k) c n (omega arith) (omega arith)), refl)
  eval_pays n (tree.Conditional condition chosen otherwise ty line) k c m w h = (inr (eval_part condition (In (tree.Conditional condition chosen otherwise ty line) Nothing ∷ k) c n (omega arith) (omega arith)), refl)
  eval_pays n (tree.Comma left right ty line) k c m w h = (inr (eval_part left (In (tree.Comma left right ty line) Nothing ∷ k) c n (omega arith) (omega arith)), refl)
  eval_pays n (tree.Assign place value ty line) k c m w h = (inr (find_part place (In (tree.Assign place value ty line) Nothing ∷ k) c n (omega arith) (omega arith)), refl)
  eval_pays n (tree.StructAssign place from size line) k c m w h = (inr (find_part place (In (tree.StructAssign place from size line) Nothing ∷ k) c n (omega arith) (omega arith)), refl)
  eval_pays n (tree.Update op place value operation size ty line) k c m w h = (inr (find_part place (In (tree.Update op place value operation size ty line) Nothing ∷ k) c n (omega arith) (omega arith)), refl)
  eval_pays n (tree.Step op place operation size ty line) k c m w h = (inr (find_part place (In (tree.Step op place operation size ty line) Nothing ∷ k) c n (omega arith) (omega arith)), refl)
  eval_pays n (tree.Call g tree.NoExpression ty line) k c m w h = (inl (refl, omega arith), refl)
  eval_pays n (tree.Call g (tree.AndExpression a rest) ty line) k c m w h = (inr (eval_part a (In (tree.Call g (tree.AndExpression a rest) ty line) (Args [] rest) ∷ k) c n (omega arith) (omega arith)), refl)

  pub find_pays : (n : ℕ) (place : Place) (k : List Pending) (c : CopyOf) (m : Memory) (w : World Byte) → n ≡ load s.program c (Find place) k → Pays s.program n (find s place k c m w)
  unfolding burden value_burden bulk
  find_pays n (tree.Name object ty line) k c m w h = (inr (omega arith), refl)
  find_pays n (tree.Bit register number line) k c m w h = (inr (omega arith), refl)
  find_pays n (tree.Member whole member offset ty line) k c m w h = (inr (find_part whole (To (tree.Member whole member offset ty line) ∷ k) c n (omega arith) (omega arith)), refl)
  find_pays n (tree.Deref pointer ty line) k c m w h = (inr (eval_part pointer (To (tree.Deref pointer ty line) ∷ k) c n (omega arith) (omega arith)), refl)

  -- ---- places that were found
  takes_pay : (n : ℕ) (o : Option Reference) (k : List Pending) (c : CopyOf) (m : Memory) (w : World Byte) → value_burden s.program c k ≤ n → Pays s.program n (takes o k c m w)
  takes_pay n (Some x) k c m w h = (inr h, refl)
  takes_pay n None k c m w h = tt

  pub some_byte : (i : IntTy) → nat_lt 0 (bytes_of i) ≡ true
  some_byte ints.Char = refl
  some_byte ints.SChar = refl
  some_byte ints.UChar = refl
  some_byte ints.Short = refl
  some_byte ints.UShort = refl
  some_byte ints.Int = refl
  some_byte ints.UInt = refl
  some_byte ints.Long = refl
  some_byte ints.ULong = refl

  pub met : (b : Bool) (line : ℕ) → b ≡ true → is_some_line (counted_if b line) ≡ true
  met true line e = refl
  met false line e = absurd (false≢true e)

  some_nat : (i : IntTy) → nat_eq (bytes_of i) 0 ≡ false
  some_nat ints.Char = refl
  some_nat ints.SChar = refl
  some_nat ints.UChar = refl
  some_nat ints.Short = refl
  some_nat ints.UShort = refl
  some_nat ints.Int = refl
  some_nat ints.UInt = refl
  some_nat ints.Long = refl
  some_nat ints.ULong = refl

  suc_some : (b : ℕ) → nat_eq (suc b) 0 ≡ false
  suc_some b = grind (arith, common_steps)

  read_bulk : (b : Bool) (q v u n : ℕ) → b ≡ false → q + either b v u ≤ n → u ≤ n
  read_bulk true q v u n e h = absurd (false≢true (sym e))
  read_bulk false q v u n e h = omega arith

  led_value : (b : Bool) (line q n v u : ℕ) → counted_if b line ≡ None → q + n ≡ q + either (not b) v u → v ≤ n
  led_value true line q n v u e h = absurd (false≢true (sym (ap is_some e)))
  led_value false line q n v u e h = omega arith

  -- a read has bytes, or it ends at once
  skim_pays : (n b : ℕ) (place : Place) (number line : ℕ) (spot : Spot) (k : List Pending) (c : CopyOf) → type_bytes s.program.sizes (types.Struct number) ≡ b
      → empty_read s.program.sizes place b + either (nat_eq b 0) (value_burden s.program c k) (bulk s.program c k) ≤ n → Owes s.program n c (Skim spot b None) (In (tree.Read place (types.Struct number) line) (At spot) ∷ k)
  unfolding counted_line bulk
  skim_pays n zero place number line spot k c e h = (inr (let d = ap (skim_end s.program.sizes place) e in omega arith), refl)
  skim_pays n (suc b) place number line spot k c e h = (inl (refl, read_bulk (nat_eq (suc b) 0) (empty_read s.program.sizes place (suc b)) (value_burden s.program c k) (bulk s.program c k) n (suc_some b) h), refl)

  read_pays : (n : ℕ) (place : Place) (ty : Ty) (line : ℕ) (spot : Spot) (k : List Pending) (c : CopyOf) (m : Memory) (w : World Byte) → is_array ty ≡ false
      → empty_read s.program.sizes place (type_bytes s.program.sizes ty) + either (nat_eq (type_bytes s.program.sizes ty) 0) (value_burden s.program c k) (bulk s.program c k) ≤ n
      → Pays s.program n (goes c (fetching spot ty s.program.sizes) (In (tree.Read place ty line) (At spot) ∷ k) m w)
  unfolding counted_line bulk
  read_pays n place types.Void line spot k c m w a h = (inr h, refl)
  read_pays n place (types.Int i) line spot k c m w a h = (inl (met (nat_lt 0 (bytes_of i)) line (some_byte i), read_bulk (nat_eq (bytes_of i) 0) (empty_read s.program.sizes place (bytes_of i)) (value_burden s.program c k) (bulk s.program c k) n (some_nat i) h), refl)
  read_pays n place (types.Pointer row) line spot k c m w a h = (inl (refl, omega arith), refl)
  read_pays n place (types.Array element length bytes) line spot k c m w a h = absurd (false≢true (sym a))
  read_pays n place (types.Struct number) line spot k c m w a h = skim_pays n (type_bytes s.program.sizes (types.Struct number)) place number line spot k c refl h

  -- that of a number or a pointer counts
  fetching_pays : (n : ℕ) (spot : Spot) (ty : Ty) (k : List Pending) (c : CopyOf) (m : Memory) (w : World Byte) → is_scalar ty ≡ true → read_type k ≡ ty → bulk s.program c k ≤ n → Pays s.program n (goes c (fetching spot ty s.program.sizes) k m w)
  unfolding counted_line bulk
  fetching_pays n spot types.Void k c m w is e b = absurd (false≢true is)
  fetching_pays n spot (types.Int i) k c m w is e b = (inl (met (nat_lt 0 (type_bytes s.program.sizes (read_type k))) (line_at k) (ap (λ t. nat_lt 0 (type_bytes s.program.sizes t)) e ∙ some_byte i), b), refl)
  fetching_pays n spot (types.Pointer row) k c m w is e b = (inl (met (nat_lt 0 (type_bytes s.program.sizes (read_type k))) (line_at k) (ap (λ t. nat_lt 0 (type_bytes s.program.sizes t)) e), b), refl)
  fetching_pays n spot (types.Array element length bytes) k c m w is e b = absurd (false≢true is)
  fetching_pays n spot (types.Struct number) k c m w is e b = absurd (false≢true is)

  found_in_pays : (n : ℕ) (e : Expression) (got : Got) (spot : Spot) (k : List Pending) (c : CopyOf) (m : Memory) (w : World Byte) → IsExpressionOf s.program c.function e → found_counts_in s.program e got ≡ None → found_most_in e got + n ≡ place_burden_at s.program c (In e got ∷ k)
      → Pays s.program n (found_in s e got spot k c m w)
  unfolding value_burden bulk
  found_in_pays n (tree.Read place ty line) Nothing spot k c m w is u h = read_pays n place ty line spot k c m w (read_rule s.program place ty line is.0).1 (omega arith)
  found_in_pays n (tree.Address place ty line) Nothing spot k c m w is u h = takes_pay n (address spot) k c m w (led_value (is_operator s.program (place_type place).ty ty) line (address_words (form_of place)) n (value_burden s.program c k) (bulk s.program c k) u (omega arith))
  found_in_pays n (tree.Assign place value ty line) Nothing spot k c m w is u h = (inr (eval_part value (In (tree.Assign place value ty line) (At spot) ∷ k) c n (omega arith) (omega arith)), refl)
  found_in_pays n (tree.StructAssign place from size line) Nothing spot k c m w is u h = (inr (find_part from (In (tree.StructAssign place from size line) (At spot) ∷ k) c n (omega arith) (omega arith)), refl)
  found_in_pays n (tree.StructAssign place from size line) (At to) spot k c m w is u h = absurd (false≢true (sym (ap is_some u)))
  found_in_pays n (tree.Update op place value operation size ty line) Nothing spot k c m w is u h = (inr (eval_part value (In (tree.Update op place value operation size ty line) (At spot) ∷ k) c n (omega arith) (omega arith)), refl)
  found_in_pays n (tree.Step op place operation size ty line) Nothing spot k c m w is u h =
      fetching_pays n spot ty (In (tree.Step op place operation size ty line) (At spot) ∷ k) c m w (step_scalar s.program operation ty (step_rule s.program op place operation size ty line is.0).1) refl (omega arith)
  found_in_pays n _ _ spot k c m w is u h = tt

  found_to_pays : (n : ℕ) (place : Place) (spot : Spot) (k : List Pending) (c : CopyOf) (m : Memory) (w : World Byte) → found_counts_to place ≡ None → Pays s.program n (found_to s place spot k c m w)
  found_to_pays n (tree.Member whole member offset ty line) spot k c m w u = absurd (false≢true (sym (ap is_some u)))
  found_to_pays n _ spot k c m w u = tt

  copy_load : (size n b v : ℕ) → b ≤ n → v ≤ n → if_any size b v ≤ n
  copy_load zero n b v h g = g
  copy_load (suc size) n b v h g = h

  found_for_pays : (n : ℕ) (t : Statement) (stage : Stage) (spot : Spot) (k : List Pending) (c : CopyOf) (m : Memory) (w : World Byte) → n ≡ place_burden_at s.program c (Doing t stage ∷ k) → Pays s.program n (found_for s t stage spot k c m w)
  unfolding bulk
  found_for_pays n (tree.InitList local all line) (AtItem (tree.Struct offset from size) rest) spot k c m w h = (inr (copy_load size n (bulk s.program c k) (struct_words forms.Fixed (form_of from) 0 + items_burden s.program.sizes rest + end_burden s.program c k) (let d = bulk_end s.program c k in omega arith) (omega arith)), refl)
  found_for_pays n _ _ spot k c m w h = tt

  pub found_pays : (n : ℕ) (spot : Spot) (k : List Pending) (c : CopyOf) (m : Memory) (w : World Byte) → StackStands s.program c k → found_counts s.program k ≡ None → found_most k + n ≡ place_burden_at s.program c k → Pays s.program n (found s spot k c m w)
  found_pays n spot [] c m w st u h = tt
  found_pays n spot (In e got ∷ k) c m w st u h = found_in_pays n e got spot k c m w st.0 u h
  found_pays n spot (To place ∷ k) c m w st u h = found_to_pays n place spot k c m w u
  found_pays n spot (Doing t stage ∷ k) c m w st u h = found_for_pays n t stage spot k c m w (omega arith)
  found_pays n spot (Before ss ∷ k) c m w st u h = tt
  found_pays n spot (Returns d ∷ k) c m w st u h = tt
  found_pays n spot (Resumes d x ∷ k) c m w st u h = tt

  -- ---- values
  pub answered_pays : (n : ℕ) (answer : Answer) (line : ℕ) (k : List Pending) (c : CopyOf) (m : Memory) (w : World Byte) → value_burden s.program c k ≤ n → Pays s.program n (answered answer line k c m w)
  answered_pays n (Gives v) line k c m w h = (inr h, refl)
  answered_pays n (Fails kind) line k c m w h = tt
  answered_pays n Strays line k c m w h = tt

  pub branch_pays : (n : ℕ) (o : Option Bool) (line : ℕ) (first second : Outcome) → Pays s.program n first → Pays s.program n second → Pays s.program n (branch o line first second)
  branch_pays n None line first second h g = tt
  branch_pays n (Some true) line first second h g = h
  branch_pays n (Some false) line first second h g = g

  logical_pays : (n : ℕ) (op : LogicalOp) (left right : Expression) (line : ℕ) (v : Datum) (o : Option Bool) (k : List Pending) (c : CopyOf) (m : Memory) (w : World Byte) → logical_counts op o line ≡ None → burden s.program.sizes right + bulk s.program c k ≤ n
      → Pays s.program n (logical (tree.Logical op left right line) op v o right line k c m w)
  unfolding value_burden bulk
  logical_pays n op left right line v None k c m w u h = tt
  logical_pays n op left right line v (Some holds) k c m w u h = by (decides op holds) u
    where
      by : (b : Bool) → counted_if b line ≡ None → Pays s.program n (if b then goes c (control.Holds (truth_value holds)) k m w else goes c (Eval right) (In (tree.Logical op left right line) (One v) ∷ k) m w)
      by true e = absurd (false≢true (sym (ap is_some e)))
      by false e = (inr (eval_part right (In (tree.Logical op left right line) (One v) ∷ k) c n (omega arith) (omega arith)), refl)

  pub take_in_pays : (n : ℕ) (e : Expression) (got : Got) (v : Datum) (k : List Pending) (c : CopyOf) (m : Memory) (w : World Byte) → IsExpressionOf s.program c.function e → value_counts_in e got v ≡ None → given_most_in s.program.sizes e got + n ≡ value_burden s.program c (In e got ∷ k) → Pays s.program n (take_in s e got v k c m w)
  unfolding value_burden burden bulk counted_line
  take_in_pays n (tree.Convert operand ty line) Nothing v k c m w is u h = answered_pays n _ line k c m w (omega arith)
  take_in_pays n (tree.Cast operand ty line) Nothing v k c m w is u h = absurd (false≢true (sym (ap is_some u)))
  take_in_pays n (tree.Unary op operand ty line) Nothing v k c m w is u h = absurd (false≢true (sym (ap is_some u)))
  take_in_pays n (tree.Binary op left right ty line) Nothing v k c m w is u h = (inr (eval_part right (In (tree.Binary op left right ty line) (One v) ∷ k) c n (omega arith) (omega arith)), refl)
  take_in_pays n (tree.Binary op left right ty line) (One x) v k c m w is u h = absurd (false≢true (sym (ap is_some u)))
  take_in_pays n (tree.Offset op left right size ty line) Nothing v k c m w is u h = (inr (eval_part right (In (tree.Offset op left right size ty line) (One v) ∷ k) c n (omega arith) (omega arith)), refl)
  take_in_pays n (tree.Offset op left right size ty line) (One x) v k c m w is u h = absurd (false≢true (sym (ap is_some u)))
  take_in_pays n (tree.Difference left right size line) Nothing v k c m w is u h = (inr (eval_part right (In (tree.Difference left right size line) (One v) ∷ k) c n (omega arith) (omega arith)), refl)
  take_in_pays n (tree.Difference left right size line) (One x) v k c m w is u h = absurd (false≢true (sym (ap is_some u)))
  take_in_pays n (tree.Logical op left right line) Nothing v k c m w is u h = logical_pays n op left right line v (truth_of v) k c m w u (omega arith)
  take_in_pays n (tree.Logical op left right line) (One x) v k c m w is u h = absurd (false≢true (sym (ap is_some u)))
  take_in_pays n (tree.Conditional condition chosen otherwise ty line) Nothing v k c m w is u h = absurd (false≢true (sym (ap is_some u)))
  take_in_pays n (tree.Conditional condition chosen otherwise ty line) Chosen v k c m w is u h = (inr (omega arith), refl)
  take_in_pays n (tree.Comma left right ty line) Nothing v k c m w is u h = absurd (false≢true (sym (ap is_some u)))
  take_in_pays n (tree.Assign place value ty line) (At spot) v k c m w is u h = absurd (false≢true (sym (ap is_some u)))
  take_in_pays n (tree.Update op place value operation size ty line) (At spot) v k c m w is u h =
      fetching_pays n spot ty (In (tree.Update op place value operation size ty line) (AtWith spot v) ∷ k) c m w (update_scalar s.program op (type_of value) operation size ty (update_rule s.program op place value operation size ty line is.0).1) refl (omega arith)
  take_in_pays n (tree.Update op place value operation size ty line) (AtWith spot x) v k c m w is u h = absurd (false≢true (sym (ap is_some u)))
  take_in_pays n (tree.Step op place operation size ty line) (At spot) v k c m w is u h = absurd (false≢true (sym (ap is_some u)))
  take_in_pays n (tree.Call g values ty line) (Args before tree.NoExpression) v k c m w is u h = (inl (refl, omega arith), refl)
  take_in_pays n (tree.Call g values ty line) (Args before (tree.AndExpression a rest)) v k c m w is u h = (inr (eval_part a (In (tree.Call g values ty line) (Args (before ++ v ∷ []) rest) ∷ k) c n (omega arith) (omega arith)), refl)
  take_in_pays n _ _ v k c m w is u h = tt

  pub take_to_pays : (n : ℕ) (place : Place) (v : Datum) (k : List Pending) (c : CopyOf) (m : Memory) (w : World Byte) → value_counts_to place ≡ None → Pays s.program n (take_to place v k c m w)
  take_to_pays n (tree.Deref pointer ty line) v k c m w u = absurd (false≢true (sym (ap is_some u)))
  take_to_pays n _ v k c m w u = tt
