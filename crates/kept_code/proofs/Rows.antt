-- The code of each kind of node names static objects by the places of the node alone.
use Rattle.std.proofs.Common.{◌≡◌, ℕ, zero, suc, ◌/◌, ◌%◌, Bool, true, false, ◌&&◌, nat_eq, nat_lt, if◌then◌else◌, List, [], ◌∷◌, ◌++◌, Option, Some, None, refl, ap, ◌∙◌}
use Rattle.c_ints.specs.declared.operators.BinOp.{BinOp}
use Rattle.c_ints.specs.declared.operators.BinOp.TheVariants as binop
use Rattle.c_ints.specs.declared.operators.UnOp.{UnOp}
use Rattle.c_ints.specs.declared.operators.UnOp.TheVariants as unop
use Rattle.c_ints.specs.declared.types.IntTy.{IntTy}
use Rattle.c_ints.specs.declared.types.IntTy.TheVariants.{UInt}
use Rattle.c_typed.specs.declared.expression.LogicalOp.{LogicalOp}
use Rattle.c_typed.specs.declared.expression.LogicalOp.TheVariants as logical
use Rattle.c_typed.specs.Folding.{constant_bits}
use Rattle.c_typed.specs.Trees.{Expression, Place}
use Rattle.c_typed.specs.Words.{step_operator}
use Rattle.c_typed.specs.declared.expression.StepOp.{StepOp}
use Rattle.c_typed.specs.declared.types.Ty.{Ty}
use Rattle.c_typed.specs.declared.types.Ty.TheVariants.{Void, Int, Pointer, Array, Struct}
use Rattle.core_code.specs.Tree as code
use Rattle.core_code.specs.Tree.{Tree, many, trees_of}
use Rattle.core_code.specs.declared.code.Byte.{Byte}
use Rattle.core_code.specs.declared.code.Byte.TheVariants.{Static, Frame, Result, Device}
use Rattle.core_puts.specs.Bytes.{behind, beyond, is_wider, number_type, operation_type}
use Rattle.core_puts.specs.Puts.{copies, copies_if, sets, choice, test_size}
use Rattle.lower_expr.specs.Layout.{Layout, width, value_width}
use Rattle.lower_expr.specs.Lowering.{shifts_by_constant, update_of, step_of}
use Rattle.lower_expr.specs.Rows.{keeps_old, widened_number, widened, tested, unary_row, logical_row, shift_row, binary_row, odd_part, multiples, scaled, moved, offset_row, quotient_row, difference_row, member_row, read_row, value_row, written_row, kept_row, assigned_row, change_of, change_row, given_byte, update_row, step_row, called_row, side_of, taken, given, advance, advances, structure_bytes, through_row, struct_row}
use Rattle.lower_expr.specs.Spots.{pointer_bytes}
use Rattle.lower_expr.specs.declared.places.Spot.{Spot}
use Rattle.lower_expr.specs.declared.places.Spot.TheVariants.{Fixed, Bit, Computed}
use Rattle.pic_world.specs.declared.Root.{Root}
use Rattle.kept_code.specs.Naming.{byte_keeps, tree_keeps, trees_keep, code_keeps}

pub both : (a b : Bool) → a ≡ true → b ≡ true → (a && b) ≡ true
both true b e f = f
both false b e f = e

pub and_map : (a b c : Bool) → (b ≡ true → c ≡ true) → (a && b) ≡ true → (a && c) ≡ true
and_map true b c f e = f e
and_map false b c f e = e

pub and_last : (a b : Bool) → (a && b) ≡ true → b ≡ true
and_last true b e = e
and_last false b e = absurd (cc)

module _ (named lent : ℕ → Bool) where
  abbrev pub Fine : List Tree → Type 0
  Fine ts = code_keeps named lent ts ≡ true

  abbrev pub ByteFine : Byte → Type 0
  ByteFine b = byte_keeps named b ≡ true

  pub join : (xs ys : List Tree) → Fine xs → Fine ys → Fine (xs ++ ys)
  join [] ys h g = g
  join (x ∷ xs) ys h g = and_map (tree_keeps named lent x) (code_keeps named lent xs) (code_keeps named lent (xs ++ ys)) (λ e. join xs ys e g) h

  pub if_fine : (b : Bool) (xs ys : List Tree) → Fine xs → Fine ys → Fine (if b then xs else ys)
  if_fine true xs ys h g = h
  if_fine false xs ys h g = g

  pub many_fine : (ts : List Tree) → Fine ts → tree_keeps named lent (many ts) ≡ true
  unfolding tree_keeps
  many_fine ts h = same ts ∙ h
    where
      same : (ts : List Tree) → trees_keep named lent (trees_of ts) ≡ code_keeps named lent ts
      same [] = refl
      same (t ∷ ts) = ap (λ (b : Bool). tree_keeps named lent t && b) (same ts)

  pub one_fine : (t : Tree) → tree_keeps named lent t ≡ true → Fine (t ∷ [])
  one_fine t h = both (tree_keeps named lent t) true h refl

  pub behind_fine : (b : Byte) (n : ℕ) → ByteFine b → ByteFine (behind b n)
  behind_fine (Static object offset) n h = h
  behind_fine (Frame copy offset) n h = refl
  behind_fine (Result root k) n h = refl
  behind_fine (Device address) n h = refl

  pub copy_fine : (to from : Byte) → ByteFine to → ByteFine from → Fine (code.Copy to from ∷ [])
  unfolding tree_keeps
  copy_fine to from h g = both (byte_keeps named to && byte_keeps named from) true (both (byte_keeps named to) (byte_keeps named from) h g) refl

  pub copies_fine : (to from : Byte) (n : ℕ) → ByteFine to → ByteFine from → Fine (copies to from n)
  unfolding copies
  copies_fine to from zero h g = refl
  copies_fine to from (suc k) h g = join (copies to from k) (code.Copy (behind to k) (behind from k) ∷ []) (copies_fine to from k h g) (copy_fine (behind to k) (behind from k) (behind_fine to k h) (behind_fine from k g))

  pub copies_if_fine : (b : Bool) (to from : Byte) (n : ℕ) → ByteFine to → ByteFine from → Fine (copies_if b to from n)
  copies_if_fine b to from n h g = if_fine b (copies to from n) [] (copies_fine to from n h g) refl

  pub set_fine : (to : Byte) (v : ℕ) → ByteFine to → Fine (code.Set to v ∷ [])
  unfolding tree_keeps
  set_fine to v h = both (byte_keeps named to) true h refl

  pub sets_fine : (to : Byte) (number n : ℕ) → ByteFine to → Fine (sets to number n)
  unfolding sets
  sets_fine to number zero h = refl
  sets_fine to number (suc k) h = join (sets to number k) _ (sets_fine to number k h) (set_fine (behind to k) _ (behind_fine to k h))

  pub binary_fine : (op : BinOp) (ty : IntTy) (to x y : Byte) → ByteFine to → ByteFine x → ByteFine y → Fine (code.Binary op ty to x y ∷ [])
  unfolding tree_keeps
  binary_fine op ty to x y h g k = both (byte_keeps named to && (byte_keeps named x && byte_keeps named y)) true (both (byte_keeps named to) _ h (both (byte_keeps named x) (byte_keeps named y) g k)) refl

  pub load_fine : (to pointer : Byte) (n : ℕ) → ByteFine to → ByteFine pointer → Fine (code.Load to pointer n ∷ [])
  unfolding tree_keeps
  load_fine to pointer n h g = both (byte_keeps named to && byte_keeps named pointer) true (both (byte_keeps named to) (byte_keeps named pointer) h g) refl

  pub store_fine : (pointer from : Byte) (n : ℕ) → ByteFine pointer → ByteFine from → Fine (code.Store pointer from n ∷ [])
  unfolding tree_keeps
  store_fine pointer from n h g = both (byte_keeps named pointer && byte_keeps named from) true (both (byte_keeps named pointer) (byte_keeps named from) h g) refl

  pub if_code_fine : (test : Byte) (n : ℕ) (a b : Tree) → ByteFine test → tree_keeps named lent a ≡ true → tree_keeps named lent b ≡ true → Fine (code.If test n a b ∷ [])
  unfolding tree_keeps
  if_code_fine test n a b h g k = both (byte_keeps named test && (tree_keeps named lent a && tree_keeps named lent b)) true (both (byte_keeps named test) _ h (both (tree_keeps named lent a) (tree_keeps named lent b) g k)) refl

  pub loop_fine : (body : List Tree) → Fine body → Fine (code.Loop (many body) ∷ [])
  unfolding tree_keeps
  loop_fine body h = both (tree_keeps named lent (many body)) true (many_fine body h) refl

  pub choice_fine : (at : Byte) (size : ℕ) (a b : List Tree) → ByteFine at → Fine a → Fine b → Fine (choice at size a b ∷ [])
  choice_fine at size a b h g k = if_code_fine at (test_size size) (many a) (many b) h (many_fine a g) (many_fine b k)

  -- ---- where operands stand: `at` is a byte that is fine
  module _ (at : Byte) (here : ByteFine at) where
    on : (n : ℕ) → ByteFine (behind at n)
    on n = behind_fine at n here

    convert_fine : (from to : IntTy) → Fine (code.Convert from to at ∷ [])
    unfolding tree_keeps
    convert_fine from to = both (byte_keeps named at) true here refl

    unary_fine : (op : UnOp) (ty : IntTy) → Fine (code.Unary op ty at ∷ [])
    unfolding tree_keeps
    unary_fine op ty = both (byte_keeps named at) true here refl

    widened_number_fine : (from to : Option IntTy) → Fine (widened_number from to at)
    widened_number_fine None to = refl
    widened_number_fine (Some from) None = refl
    widened_number_fine (Some from) (Some to) = if_fine (is_wider from to) (code.Convert from to at ∷ []) [] (convert_fine from to) refl

    pub widened_fine : (from to : Ty) → Fine (widened from to at)
    widened_fine from to = widened_number_fine (number_type from) (number_type to)

    pub tested_fine : (size held failed : ℕ) → Fine (tested at size held failed ∷ [])
    tested_fine size held failed = choice_fine at size (sets at held 2) (sets at failed 2) here (sets_fine at held 2 here) (sets_fine at failed 2 here)

    pub unary_row_fine : (op : UnOp) (ty : IntTy) (size : ℕ) → Fine (unary_row op ty at size)
    unary_row_fine unop.Plus ty size = refl
    unary_row_fine unop.Minus ty size = unary_fine unop.Minus ty
    unary_row_fine unop.Not ty size = unary_fine unop.Not ty
    unary_row_fine unop.Bang ty size = unary_fine unop.Bang _

    pub logical_fine : (op : LogicalOp) (size : ℕ) (other : List Tree) → Fine other → Fine (logical_row op at size other ∷ [])
    logical_fine logical.And size other h = choice_fine at size other (sets at 0 2) here h (sets_fine at 0 2 here)
    logical_fine logical.Or size other h = choice_fine at size (sets at 1 2) other here (sets_fine at 1 2 here) h

    pub shift_fine : (op : BinOp) (ty : IntTy) (right : Byte) (count size : ℕ) → ByteFine right → Fine (shift_row op ty at right count size ∷ [])
    shift_fine op ty right count size r = one_fine (shift_row op ty at right count size) (many_fine _ (join (sets right count size) _ (sets_fine right count size r) (binary_fine op ty at at right here here r)))

    pub binary_row_fine : (b : Bool) (op : BinOp) (ty : IntTy) (right : Byte) (count size : ℕ) → ByteFine right → Fine (binary_row b op ty at right count size)
    binary_row_fine true op ty right count size r = shift_fine op ty right count size r
    binary_row_fine false op ty right count size r = binary_fine op ty at at right here here r

  multiples_fine : (to from : Byte) → ByteFine to → ByteFine from → (size digits : ℕ) → Fine (multiples to from size digits)
  unfolding multiples
  multiples_fine to from h g size zero = refl
  multiples_fine to from h g size (suc digits) =
      if_fine (nat_lt size 2) [] _ refl
      (join (multiples to from (size / 2) digits ++ code.Binary binop.Add UInt to to to ∷ []) (odd_part to from size)
      (join (multiples to from (size / 2) digits) _ (multiples_fine to from h g (size / 2) digits) (binary_fine binop.Add UInt to to to h h h))
      (if_fine (nat_eq (size % 2) 1) _ [] (binary_fine binop.Add UInt to to from h h g) refl))

  scaled_fine : (to from : Byte) (size : ℕ) → ByteFine to → ByteFine from → Fine (scaled to from size)
  scaled_fine to from size h g = join (copies to from 2) (multiples to from size 64) (copies_fine to from 2 h g) (multiples_fine to from h g size 64)

  moved_fine : (op : BinOp) (at index count : Byte) (size : ℕ) → ByteFine at → ByteFine index → ByteFine count → Fine (moved op at index count size)
  moved_fine op at index count size a i c =
      if_fine (nat_eq size 1) _ _ (binary_fine op UInt at at index a a i)
      (join (scaled count index size) _ (scaled_fine count index size c i) (binary_fine op UInt at at count a a c))

  module _ (at : Byte) (here : ByteFine at) where
    behind_at : (n : ℕ) → ByteFine (behind at n)
    behind_at n = behind_fine at n here

    pub offset_fine : (op : BinOp) (b : Bool) (size : ℕ) → Fine (offset_row op at b size)
    offset_fine op true size = moved_fine op at (behind at 2) (behind at 4) size here (behind_at 2) (behind_at 4)
    offset_fine op false size =
        if_fine (nat_eq size 1) _ _ (binary_fine binop.Add UInt at at (behind at 2) here here (behind_at 2))
        (join (scaled (behind at 4) at size) _ (scaled_fine (behind at 4) at size (behind_at 4) here) (binary_fine binop.Add UInt at (behind at 2) (behind at 4) here (behind_at 2) (behind_at 4)))

    quotient_fine : (size : ℕ) → Fine (quotient_row at size)
    quotient_fine size = if_fine (nat_eq size 1) [] _ refl (join (sets (behind at 2) size 2) _ (sets_fine (behind at 2) size 2 (behind_at 2)) (binary_fine _ _ at at (behind at 2) here here (behind_at 2)))

    pub difference_fine : (size : ℕ) → Fine (difference_row at size)
    difference_fine size = if_fine (nat_lt 32767 size) _ _ (sets_fine at 0 2 here) (join (code.Binary binop.Sub UInt at at (behind at 2) ∷ []) (quotient_row at size) (binary_fine binop.Sub UInt at at (behind at 2) here here (behind_at 2)) (quotient_fine size))

    pub member_fine : (offset : ℕ) (number : Byte) → ByteFine number → Fine (member_row at offset number)
    member_fine offset number n = if_fine (nat_eq offset 0) [] _ refl (join (sets number offset 2) _ (sets_fine number offset 2 n) (binary_fine binop.Add UInt at at number here here n))

  -- ---- places
  abbrev pub SpotFine : Spot → Type 0
  SpotFine (Fixed byte) = byte_keeps named byte ≡ true
  SpotFine (Bit register bit) = Unit {0}
  SpotFine Computed = Unit {0}

  pub read_fine : (spot : Spot) (pointer to : Byte) (count : ℕ) → SpotFine spot → ByteFine pointer → ByteFine to → Fine (read_row spot pointer to count)
  unfolding tree_keeps
  read_fine (Fixed from) pointer to count s p t = copies_fine to from count t s
  read_fine (Bit register bit) pointer to count s p t = both (byte_keeps named to) true t refl
  read_fine Computed pointer to count s p t = load_fine to pointer count t p

  pub value_fine : (spot : Spot) (at : Byte) (count : ℕ) → SpotFine spot → ByteFine at → Fine (value_row spot at count)
  unfolding tree_keeps
  value_fine (Fixed from) at count s a = copies_fine at from count a s
  value_fine (Bit register bit) at count s a = both (byte_keeps named at) true a refl
  value_fine Computed at count s a = join (code.Load (behind at 2) at count ∷ []) (copies at (behind at 2) count) (load_fine (behind at 2) at count (behind_fine at 2 a) a) (copies_fine at (behind at 2) count a (behind_fine at 2 a))

  pub written_fine : (spot : Spot) (root : Root) (pointer from : Byte) (count : ℕ) → SpotFine spot → ByteFine pointer → ByteFine from → Fine (written_row spot root pointer from count)
  unfolding tree_keeps
  written_fine (Fixed to) root pointer from count s p f = copies_fine to from count s f
  written_fine (Bit register bit) root pointer from count s p f = both (byte_keeps named from && (byte_keeps named from && true)) _ (both (byte_keeps named from) _ f (both (byte_keeps named from) true f refl)) (both (byte_keeps named from) true f refl)
  written_fine Computed root pointer from count s p f = store_fine pointer from count p f

  kept_fine : (wanted : Bool) (spot : Spot) (at value : Byte) (count : ℕ) → ByteFine at → ByteFine value → Fine (kept_row wanted spot at value count)
  kept_fine wanted (Fixed to) at value count a v = refl
  kept_fine wanted (Bit register bit) at value count a v = refl
  kept_fine wanted Computed at value count a v = copies_if_fine wanted at value count a v

  pub assigned_fine : (wanted : Bool) (spot : Spot) (root : Root) (at : Byte) (count : ℕ) → SpotFine spot → ByteFine at → Fine (assigned_row wanted spot root at count)
  assigned_fine wanted spot root at count s a =
      let v = behind_fine at (pointer_bytes spot) a in
      join (written_row spot root at (behind at (pointer_bytes spot)) count) _ (written_fine spot root at (behind at (pointer_bytes spot)) count s a v) (kept_fine wanted spot at (behind at (pointer_bytes spot)) count a v)

  change_fine : (constant : Bool) (operation : Ty) (elements number : ℕ) (op : BinOp) (ty : IntTy) (at right : Byte) (count : ℕ) → ByteFine at → ByteFine right → Fine (change_row (change_of constant operation elements number) op ty at right count)
  change_fine true operation elements number op ty at right count a r = shift_fine at a op ty right number count r
  change_fine false (Pointer target) elements number op ty at right count a r = moved_fine op at right (behind at 2) elements a r (behind_fine at 2 a)
  change_fine false Void elements number op ty at right count a r = binary_fine op ty at at right a a r
  change_fine false (Int int) elements number op ty at right count a r = binary_fine op ty at at right a a r
  change_fine false (Array element length bytes) elements number op ty at right count a r = binary_fine op ty at at right a a r
  change_fine false (Struct structure) elements number op ty at right count a r = binary_fine op ty at at right a a r

  given_fine : (keeps : Bool) (old new : Byte) → ByteFine old → ByteFine new → ByteFine (given_byte keeps old new)
  given_fine true old new o n = o
  given_fine false old new o n = n

  changed_fine : (spot : Spot) (root : Root) (bytes : ℕ) (from operation : Ty) (at left old : Byte) (keeps wanted keeps_old : Bool) (change : List Tree) → SpotFine spot → ByteFine at → ByteFine left → ByteFine old → Fine change
      → Fine (read_row spot at left bytes ++ widened from operation left ++ copies_if keeps old left bytes ++ change ++ written_row spot root at left bytes ++ copies_if wanted at (given_byte keeps_old old left) bytes)
  changed_fine spot root bytes from operation at left old keeps wanted keeps_old change s a l o h =
      join (read_row spot at left bytes ++ widened from operation left ++ copies_if keeps old left bytes ++ change ++ written_row spot root at left bytes) (copies_if wanted at (given_byte keeps_old old left) bytes)
      (join (read_row spot at left bytes ++ widened from operation left ++ copies_if keeps old left bytes ++ change) (written_row spot root at left bytes)
      (join (read_row spot at left bytes ++ widened from operation left ++ copies_if keeps old left bytes) change
      (join (read_row spot at left bytes ++ widened from operation left) (copies_if keeps old left bytes)
      (join (read_row spot at left bytes) (widened from operation left) (read_fine spot at left bytes s a l) (widened_fine left l from operation))
      (copies_if_fine keeps old left bytes o l))
      h)
      (written_fine spot root at left bytes s a l))
      (copies_if_fine wanted at (given_byte keeps_old old left) bytes a (given_fine keeps_old old left o l))

  module _ (l : Layout) (spot : Spot) (root : Root) (at : Byte) (bytes : ℕ) (from : Ty) (s : SpotFine spot) (a : ByteFine at) where
    abbrev right_at : Byte
    right_at = behind at (pointer_bytes spot)

    right_is : ByteFine right_at
    right_is = behind_fine at (pointer_bytes spot) a

    pub update_fine : (wanted : Bool) (op : BinOp) (place : Place) (value : Expression) (operation : Ty) (size : ℕ) → Fine (update_row (update_of wanted l op place value operation size) spot root at bytes from)
    update_fine wanted op place value operation size =
        let left = behind right_at (value_width l value) in
        let left_is = behind_fine right_at (value_width l value) right_is in
        changed_fine spot root bytes from operation at left (behind left (value_width l value)) (wanted && false) wanted false _ s a left_is (behind_fine left (value_width l value) left_is)
        (change_fine (shifts_by_constant op value) operation size (constant_bits value) op (operation_type operation) left right_at (value_width l value) left_is right_is)

    pub step_fine : (wanted : Bool) (op : StepOp) (operation : Ty) (number : ℕ) → Fine (step_row (step_of wanted l op operation) number spot root at bytes from)
    step_fine wanted op operation number =
        let left = behind right_at (width l operation) in
        let left_is = behind_fine right_at (width l operation) right_is in
        join (sets right_at number (width l operation)) _ (sets_fine right_at number (width l operation) right_is)
        (changed_fine spot root bytes from operation at left (behind left (width l operation)) (wanted && keeps_old op) wanted (keeps_old op) _ s a left_is (behind_fine left (width l operation) left_is)
        (binary_fine (step_operator op) (operation_type operation) left left right_at left_is left_is right_is))

  pub called_fine : (wanted : Bool) (root : Root) (callee : ℕ) (at : Byte) (arguments count : ℕ) → ByteFine at → Fine (called_row wanted root callee at arguments count)
  unfolding tree_keeps
  called_fine wanted root callee at arguments count a =
      join (copies (Frame callee 0) at arguments ++ code.Call callee ∷ []) _ (join (copies (Frame callee 0) at arguments) (code.Call callee ∷ []) (copies_fine (Frame callee 0) at arguments refl a) refl) (copies_if_fine wanted at (Result root 0) count a refl)

  -- ---- structures
  taken_fine : (to : Byte) (spot : Spot) (pointer : Byte) (i : ℕ) → ByteFine to → SpotFine spot → ByteFine pointer → Fine (taken to (side_of spot pointer) i ∷ [])
  taken_fine to (Fixed byte) pointer i t f p = copy_fine to (behind byte i) t (behind_fine byte i f)
  taken_fine to (Bit register bit) pointer i t f p = load_fine to pointer 1 t p
  taken_fine to Computed pointer i t f p = load_fine to pointer 1 t p

  given_side_fine : (spot : Spot) (pointer from : Byte) (i : ℕ) → SpotFine spot → ByteFine pointer → ByteFine from → Fine (given (side_of spot pointer) from i ∷ [])
  given_side_fine (Fixed byte) pointer from i t p f = copy_fine (behind byte i) from (behind_fine byte i t) f
  given_side_fine (Bit register bit) pointer from i t p f = store_fine pointer from 1 p f
  given_side_fine Computed pointer from i t p f = store_fine pointer from 1 p f

  advance_fine : (spot : Spot) (pointer one : Byte) → ByteFine pointer → ByteFine one → Fine (advance (side_of spot pointer) one)
  advance_fine (Fixed byte) pointer one p o = refl
  advance_fine (Bit register bit) pointer one p o = binary_fine binop.Add UInt pointer pointer one p p o
  advance_fine Computed pointer one p o = binary_fine binop.Add UInt pointer pointer one p p o

  module _ (place from : Spot) (left right one temporary : Byte) (t : SpotFine place) (f : SpotFine from) (l : ByteFine left) (r : ByteFine right) (o : ByteFine one) (m : ByteFine temporary) where
    structure_bytes_fine : (n : ℕ) → Fine (structure_bytes (side_of place left) (side_of from right) one temporary n)
    unfolding structure_bytes
    structure_bytes_fine zero = refl
    structure_bytes_fine (suc i) =
        let front = structure_bytes (side_of place left) (side_of from right) one temporary i in
        let moves = advances (side_of place left) (side_of from right) one i in
        join (front ++ moves ++ taken temporary (side_of from right) i ∷ []) (given (side_of place left) temporary i ∷ [])
        (join (front ++ moves) (taken temporary (side_of from right) i ∷ [])
        (join front moves (structure_bytes_fine i)
        (if_fine (nat_eq i 0) [] (advance (side_of place left) one ++ advance (side_of from right) one) refl (join (advance (side_of place left) one) (advance (side_of from right) one) (advance_fine place left one l o) (advance_fine from right one r o))))
        (taken_fine temporary from right i m f r))
        (given_side_fine place left temporary i t l m)

  through_fine : (root : Root) (place from : Spot) (at : Byte) (size : ℕ) → SpotFine place → SpotFine from → ByteFine at → Fine (through_row root place from at size)
  unfolding tree_keeps
  through_fine root place from at size p f a =
      let v = behind_fine at (pointer_bytes place) a in
      structure_bytes_fine place from at (behind at (pointer_bytes place)) (Result root 0) (behind (behind at (pointer_bytes place)) (pointer_bytes from)) p f a v refl (behind_fine (behind at (pointer_bytes place)) (pointer_bytes from) v) size

  pub struct_fine : (root : Root) (place from : Spot) (at : Byte) (size : ℕ) → SpotFine place → SpotFine from → ByteFine at → Fine (struct_row root place from at size)
  struct_fine root (Fixed to) (Fixed byte) at size p f a = copies_fine to byte (beyond 0 size) p f
  struct_fine root (Fixed to) (Bit register bit) at size p f a = through_fine root (Fixed to) (Bit register bit) at size p f a
  struct_fine root (Fixed to) Computed at size p f a = through_fine root (Fixed to) Computed at size p f a
  struct_fine root (Bit register bit) from at size p f a = through_fine root (Bit register bit) from at size p f a
  struct_fine root Computed from at size p f a = through_fine root Computed from at size p f a
