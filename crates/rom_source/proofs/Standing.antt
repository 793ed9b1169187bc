-- Where the outlined program stands while the given one reads a table: before the call, at the end of its argument, or in the reader.
use Rattle.std.proofs.Common.{◌≡◌, ℕ, suc, ◌+◌, ◌<◌, ◌≤◌, Bool, true, false, ◌&&◌, List, [], ◌∷◌, length, Option, Some}
use Rattle.std.specs.Prelude.{slice_get}
use Rattle.c_ints.specs.declared.operators.BinOp.TheVariants as ops
use Rattle.c_ints.specs.declared.types.IntTy.TheVariants as kind
use Rattle.c_typed.specs.Sameness.{same_type}
use Rattle.c_typed.specs.Trees as tree
use Rattle.c_typed.specs.Trees.{Expression, Statement, StaticTree, FunctionTree, Program}
use Rattle.c_typed.specs.Types.{type_of, type_bytes}
use Rattle.c_typed.specs.declared.expression.Object.TheVariants as names
use Rattle.c_typed.specs.declared.types.Ty.{Ty}
use Rattle.c_typed.specs.declared.types.Ty.TheVariants as types
use Rattle.pic_world.specs.World.{Outside, World, Happening, arrived, is_due}
use Rattle.rom_source.proofs.Indices.{number, Meets}
use Rattle.rom_source.proofs.Links.{Side, Left, Right, TableRead, name_of, start_of, sum_of, place_of, read_at, pointer_at, index_got, sum_frames, Link, given, added_focus, call_of, asking, made, IsTableRead, AreLinks, Agree}
use Rattle.rom_tables.specs.Outlined.{unsigned_int, index_type, with_targets, element_qualified, element_type, row_of, table_start, reader_index, table_element}
use Rattle.rom_tables.specs.Tables.{tables_of}
use Rattle.src_rules.specs.Runs.{one_if}
use Rattle.src_rules.specs.State.{State, state, Went}
use Rattle.src_rules.specs.Step.{copy_of, is_some_line, enters, step, counts}
use Rattle.src_values.specs.Control as control
use Rattle.src_values.specs.Control.{Focus, Got, Nothing, One, At, Called, Tests, Pending, In, To, Doing, Before, Returns}
use Rattle.src_values.specs.Data.{Datum}
use Rattle.src_values.specs.Memory.{Setting, Memory}
use Rattle.src_values.specs.Objects.{handler_in, object_bytes}
use Rattle.src_values.specs.Values.{value_from}
use Rattle.src_values.specs.declared.objects.Byte.{Byte}
use Rattle.src_values.specs.declared.objects.CopyOf.{CopyOf}
use Rattle.src_values.specs.declared.objects.Object.TheVariants.{Fixed}
use Rattle.src_values.specs.declared.objects.Pointer.TheVariants.{Into}
use Rattle.src_values.specs.declared.objects.Spot.{Spot}
use Rattle.src_values.specs.declared.objects.Spot.TheVariants as spots

-- the argument of a call, of which the value is there but for its conversion
pub record Asked : Type 0 where
  pub argument : Expression
  pub line : ℕ
  pub value : Datum

-- ---- where the given program is
pub data Place : Type 0 where
  -- both at the same place
  Common : Focus → Place
  -- on the way to the index: the outlined program is about to evaluate the call
  Finding : Side → TableRead → Place
  Summing : Side → TableRead → Place
  Starting : TableRead → Place
  Naming : TableRead → Place
  Spotting : TableRead → Place
  Pointing : TableRead → Place
  Converting : Side → TableRead → Expression → Ty → ℕ → Place
  -- behind it: its value goes to the argument
  Holding : Side → TableRead → Datum → Asked → Place
  StartingBehind : TableRead → Datum → Asked → Place
  NamingBehind : TableRead → Datum → Asked → Place
  SpottingBehind : TableRead → Datum → Asked → Place
  PointingBehind : TableRead → Datum → Asked → Place
  -- the sum is done, `*`, and the read of the byte, whose value goes on
  Summed : Side → TableRead → StaticTree → ℕ → Place
  Reached : Side → TableRead → StaticTree → ℕ → Place
  Fetching : Side → TableRead → StaticTree → ℕ → Place
  Fetched : Side → TableRead → ℕ → Byte → Place

abbrev pub element_spot : TableRead → ℕ → Spot
element_spot r j = spots.Memory (Into (Fixed r.object) j)

abbrev pub focus_at : Place → Focus
focus_at (Common x) = x
focus_at (Finding side r) = control.Find (place_of side r)
focus_at (Summing side r) = control.Eval (sum_of side r)
focus_at (Starting r) = control.Eval (start_of r)
focus_at (Naming r) = control.Find (name_of r)
focus_at (Spotting r) = control.Found (element_spot r 0)
focus_at (Pointing r) = control.Holds (pointer_at r 0)
focus_at (Converting side r e ty at) = control.Eval (tree.Convert e ty at)
focus_at (Holding side r v a) = control.Holds v
focus_at (StartingBehind r v a) = control.Eval (start_of r)
focus_at (NamingBehind r v a) = control.Find (name_of r)
focus_at (SpottingBehind r v a) = control.Found (element_spot r 0)
focus_at (PointingBehind r v a) = control.Holds (pointer_at r 0)
focus_at (Summed side r t j) = control.Holds (pointer_at r j)
focus_at (Reached side r t j) = control.Found (element_spot r j)
focus_at (Fetching side r t j) = control.Fetch (element_spot r j) []
focus_at (Fetched side r j byte) = control.Fetch (element_spot r (j + 1)) (byte ∷ [])

abbrev pub stack_at : Place → List Pending → List Pending
stack_at (Common x) k = k
stack_at (Finding side r) k = In (read_at side r) Nothing ∷ k
stack_at (Summing side r) k = To (place_of side r) ∷ In (read_at side r) Nothing ∷ k
stack_at (Starting r) k = sum_frames Left r Nothing k
stack_at (Naming r) k = In (start_of r) Nothing ∷ sum_frames Left r Nothing k
stack_at (Spotting r) k = In (start_of r) Nothing ∷ sum_frames Left r Nothing k
stack_at (Pointing r) k = sum_frames Left r Nothing k
stack_at (Converting side r e ty at) k = sum_frames side r (index_got side r) k
stack_at (Holding side r v a) k = sum_frames side r (index_got side r) k
stack_at (StartingBehind r v a) k = sum_frames Right r (One v) k
stack_at (NamingBehind r v a) k = In (start_of r) Nothing ∷ sum_frames Right r (One v) k
stack_at (SpottingBehind r v a) k = In (start_of r) Nothing ∷ sum_frames Right r (One v) k
stack_at (PointingBehind r v a) k = sum_frames Right r (One v) k
stack_at (Summed side r t j) k = To (place_of side r) ∷ In (read_at side r) Nothing ∷ k
stack_at (Reached side r t j) k = In (read_at side r) Nothing ∷ k
stack_at (Fetching side r t j) k = In (read_at side r) (At (element_spot r j)) ∷ k
stack_at (Fetched side r j byte) k = In (read_at side r) (At (element_spot r j)) ∷ k

-- ---- in a reader
-- the program that its nodes are of, and the nodes
module _ (p : Program) where
  abbrev pub typed : Program
  typed = with_targets p (tables_of p)

  abbrev pub own_sum : TableRead → StaticTree → Expression
  own_sum r t = tree.Offset ops.Add (table_start typed r.object t) (reader_index t.line) 1 (types.Pointer (row_of typed (element_qualified typed t))) t.line

  abbrev pub own_place : TableRead → StaticTree → tree.Place
  own_place r t = tree.Deref (own_sum r t) (element_qualified typed t) t.line

  abbrev pub own_read : TableRead → StaticTree → Expression
  own_read r t = table_element typed r.object t

  abbrev pub own_return : TableRead → StaticTree → Statement
  own_return r t = tree.Return (Some (own_read r t)) t.line

  abbrev pub reader : TableRead → ℕ
  reader r = length p.functions + r.table

  abbrev pub reader_copy : TableRead → CopyOf → CopyOf
  reader_copy r c = copy_of c.root (reader r)

  abbrev pub the_call : TableRead → Expression
  the_call r = call_of (tables_of p) (length p.functions) r

  -- below its return: the call
  abbrev pub below_return : TableRead → StaticTree → CopyOf → List Pending → List Pending
  below_return r t c k = Before tree.NoStatement ∷ Returns c ∷ In (the_call r) Called ∷ k

  abbrev pub returning : TableRead → StaticTree → CopyOf → List Pending → List Pending
  returning r t c k = Doing (own_return r t) Tests ∷ below_return r t c k

  -- ---- where the outlined program is
  abbrev pub is_unsigned : Expression → Bool
  is_unsigned e = same_type (type_of e) unsigned_int

  abbrev pub asked : TableRead → Asked → List Pending → List Pending
  asked r a k = asking (tables_of p) (length p.functions) (is_unsigned a.argument) a.argument a.line (the_call r) k

  abbrev pub made_at : Place → CopyOf → List Pending → Memory → World Byte → State
  made_at (Common x) c k n w = state c (added_focus (tables_of p) (length p.functions) x) k n w
  made_at (Finding side r) c k n w = state c (control.Eval (the_call r)) k n w
  made_at (Summing side r) c k n w = state c (control.Eval (the_call r)) k n w
  made_at (Starting r) c k n w = state c (control.Eval (the_call r)) k n w
  made_at (Naming r) c k n w = state c (control.Eval (the_call r)) k n w
  made_at (Spotting r) c k n w = state c (control.Eval (the_call r)) k n w
  made_at (Pointing r) c k n w = state c (control.Eval (the_call r)) k n w
  made_at (Converting side r e ty at) c k n w = state c (control.Eval (the_call r)) k n w
  made_at (Holding side r v a) c k n w = state c (control.Holds a.value) (asked r a k) n w
  made_at (StartingBehind r v a) c k n w = state c (control.Holds a.value) (asked r a k) n w
  made_at (NamingBehind r v a) c k n w = state c (control.Holds a.value) (asked r a k) n w
  made_at (SpottingBehind r v a) c k n w = state c (control.Holds a.value) (asked r a k) n w
  made_at (PointingBehind r v a) c k n w = state c (control.Holds a.value) (asked r a k) n w
  made_at (Summed side r t j) c k n w =
      state (reader_copy r c) (control.Holds (number kind.UInt j)) (In (own_sum r t) (One (pointer_at r 0)) ∷ To (own_place r t) ∷ In (own_read r t) Nothing ∷ returning r t c k) n w
  made_at (Reached side r t j) c k n w = state (reader_copy r c) (control.Holds (pointer_at r j)) (To (own_place r t) ∷ In (own_read r t) Nothing ∷ returning r t c k) n w
  made_at (Fetching side r t j) c k n w = state (reader_copy r c) (control.Holds (pointer_at r j)) (To (own_place r t) ∷ In (own_read r t) Nothing ∷ returning r t c k) n w
  made_at (Fetched side r j byte) c k n w = state c (control.Holds (value_from r.ty (byte ∷ []))) k n w

  -- ---- what is known there
  -- flags have arrived, and no handler is entered
  pub record IsQuiet (o : Outside) (w : World Byte) : Type 0 where
    pub again : arrived o w ≡ w
    pub quiet : (is_due w && is_some_line (handler_in p)) ≡ false

  -- nothing is due
  pub record IsFree (o : Outside) (w : World Byte) : Type 0 where
    pub again : arrived o w ≡ w
    pub free : is_due w ≡ false

  -- before the index: the other world is as it was before flags arrived
  pub record IsBefore (o : Outside) (r : TableRead) (w v : World Byte) : Type 0 where
    pub read : IsTableRead p r
    pub still : arrived o v ≡ w
    pub quiet : IsQuiet o w

  pub record IsBehind (o : Outside) (r : TableRead) (v : Datum) (a : Asked) (w x : World Byte) : Type 0 where
    pub before : IsBefore o r w x
    pub meets : Meets (is_unsigned a.argument) a.value v

  -- in the reader of the table
  pub record IsReading (o : Outside) (r : TableRead) (t : StaticTree) (j : ℕ) (w v : World Byte) : Type 0 where
    pub read : IsTableRead p r
    pub there : slice_get p.statics r.object ≡ Some t
    pub near : j ≤ object_bytes p (Fixed r.object)
    pub same : v ≡ w
    pub free : IsFree o w

  abbrev pub Holds : Outside → Place → World Byte → World Byte → Type 0
  Holds o (Common x) w v = v ≡ w
  Holds o (Finding side r) w v = IsBefore o r w v
  Holds o (Summing side r) w v = IsBefore o r w v
  Holds o (Starting r) w v = IsBefore o r w v
  Holds o (Naming r) w v = IsBefore o r w v
  Holds o (Spotting r) w v = IsBefore o r w v
  Holds o (Pointing r) w v = IsBefore o r w v
  Holds o (Converting side r e ty at) w v = IsBefore o r w v × (r.index ≡ tree.Convert e ty at)
  Holds o (Holding side r x a) w v = IsBehind o r x a w v
  Holds o (StartingBehind r x a) w v = IsBehind o r x a w v
  Holds o (NamingBehind r x a) w v = IsBehind o r x a w v
  Holds o (SpottingBehind r x a) w v = IsBehind o r x a w v
  Holds o (PointingBehind r x a) w v = IsBehind o r x a w v
  Holds o (Summed side r t j) w v = IsReading o r t j w v
  Holds o (Reached side r t j) w v = IsReading o r t j w v
  Holds o (Fetching side r t j) w v = IsReading o r t j w v
  Holds o (Fetched side r j byte) w v = IsTableRead p r × (v ≡ w) × IsFree o w

  -- t: the given program; v: the outlined one
  pub record Stand (o : Outside) (t v : State) : Type 0 where
    pub place : Place
    pub links : List Link
    pub memory : Memory
    pub world : World Byte
    pub focus : t.focus ≡ focus_at place
    pub stack : t.stack ≡ stack_at place (given links)
    pub is : v ≡ made_at place t.copy (made (tables_of p) (length p.functions) links) memory world
    pub small : t.copy.function < length p.functions
    pub agree : Agree p t.memory memory
    pub proper : AreLinks p links
    pub holds : Holds o place t.world world

-- ---- micro-steps of the outlined program
-- those by which a reader is called and answers, but for its call and its sum
pub data Brief (p : Program) : Focus → List Pending → Type 0 where
  -- the call, and the conversion of its argument
  AtCall : (r : TableRead) (k : List Pending) → Brief p (control.Eval (the_call p r)) k
  AtConvert : (e : Expression) (line : ℕ) (k : List Pending) → Brief p (control.Eval (tree.Convert e unsigned_int line)) k
  Converts : (u : Datum) (e : Expression) (line : ℕ) (k : List Pending) → Brief p (control.Holds u) (In (tree.Convert e unsigned_int line) Nothing ∷ k)
  Hands : (u : Datum) (r : TableRead) (k : List Pending) → Brief p (control.Holds u) (In (the_call p r) (control.Args [] tree.NoExpression) ∷ k)
  -- the reader up to its sum
  Begins : (r : TableRead) (t : StaticTree) (c : CopyOf) (k : List Pending) → Brief p control.Past (Before (tree.AndStatement (own_return p r t) tree.NoStatement) ∷ Returns c ∷ k)
  Returning : (r : TableRead) (t : StaticTree) (k : List Pending) → Brief p (control.Run (own_return p r t)) k
  Reads : (r : TableRead) (t : StaticTree) (k : List Pending) → Brief p (control.Eval (own_read p r t)) k
  FindsPlace : (r : TableRead) (t : StaticTree) (k : List Pending) → Brief p (control.Find (own_place p r t)) k
  AtSum : (r : TableRead) (t : StaticTree) (k : List Pending) → Brief p (control.Eval (own_sum p r t)) k
  AtStart : (r : TableRead) (t : StaticTree) (k : List Pending) → Brief p (control.Eval (table_start (typed p) r.object t)) k
  FindsTable : (r : TableRead) (t : StaticTree) (k : List Pending) → Brief p (control.Find (tree.Name (names.Static r.object) t.ty t.line)) k
  FoundTable : (r : TableRead) (t : StaticTree) (spot : Spot) (k : List Pending) → Brief p (control.Found spot) (In (table_start (typed p) r.object t) Nothing ∷ k)
  HasTable : (r : TableRead) (t : StaticTree) (v : Datum) (k : List Pending) → Brief p (control.Holds v) (In (own_sum p r t) Nothing ∷ k)
  AtIndex : (line : ℕ) (k : List Pending) → Brief p (control.Eval (reader_index line)) k
  FindsIndex : (line : ℕ) (k : List Pending) → Brief p (control.Find (tree.Name (names.Param 0) index_type line)) k
  FoundIndex : (line : ℕ) (spot : Spot) (k : List Pending) → Brief p (control.Found spot) (In (reader_index line) Nothing ∷ k)
  TakesIndex : (line : ℕ) (spot start : Spot) (read : List Byte) (k : List Pending) → Brief p (control.Fetch spot read) (In (reader_index line) (At start) ∷ k)
  -- `*` in it, the byte, and the way back with it
  Points : (r : TableRead) (t : StaticTree) (v : Datum) (k : List Pending) → Brief p (control.Holds v) (To (own_place p r t) ∷ k)
  FoundElement : (r : TableRead) (t : StaticTree) (ty : Ty) (spot : Spot) (k : List Pending) → Brief p (control.Found spot) (In (tree.Read (own_place p r t) ty t.line) Nothing ∷ k)
  TakesElement : (r : TableRead) (t : StaticTree) (ty : Ty) (spot start : Spot) (read : List Byte) (k : List Pending) → Brief p (control.Fetch spot read) (In (tree.Read (own_place p r t) ty t.line) (At start) ∷ k)
  Answers : (r : TableRead) (t : StaticTree) (v : Datum) (k : List Pending) → type_bytes p.sizes (element_type (typed p) t) ≡ 1 → Brief p (control.Holds v) (Doing (own_return p r t) Tests ∷ k)
  Leaves : (r : TableRead) (v : Datum) (c : CopyOf) (k : List Pending) → type_bytes p.sizes r.ty ≡ 1 → Brief p (control.Leaves v) (Returns c ∷ In (the_call p r) Called ∷ k)

-- n of them, of which m count
pub data Walk (p : Program) (r : Setting) : ℕ → ℕ → State → State → Type 0 where
  Stop : (t : State) → Walk p r 0 0 t t
  Then : (n m : ℕ) (t u v : State) (event : Option (Happening Byte)) → Brief p t.focus t.stack → enters r t ≡ false → step r t ≡ Went u event → Walk p r n m u v → Walk p r (suc n) (one_if (counts r t) + m) t v

-- the call of a reader, and the sum in one
pub data Entry (p : Program) : Focus → List Pending → Type 0 where
  Enters : (vs : List Datum) (r : TableRead) (k : List Pending) → Entry p control.Calls (In (the_call p r) (control.Passed vs) ∷ k)

pub data Addition (p : Program) : Focus → List Pending → Type 0 where
  Adds : (r : TableRead) (t : StaticTree) (v u : Datum) (k : List Pending) → Addition p (control.Holds v) (In (own_sum p r t) (One u) ∷ k)

-- what the outlined program does for a micro-step of the given one: the same; some that are brief; the call of a reader, up to its sum; or that sum
pub data Way (p : Program) (r : Setting) : ℕ → ℕ → State → State → Type 0 where
  Same : (t u : State) (event : Option (Happening Byte)) → step r t ≡ Went u event → Way p r 1 (one_if (counts r t)) t u
  Walks : (n m : ℕ) (t u : State) → Walk p r n m t u → Way p r n m t u
  Calls : (n j h : ℕ) (t a b u : State) (event : Option (Happening Byte)) → Walk p r n 0 t a → Entry p a.focus a.stack → (x : TableRead) → IsTableRead p x → b.copy.function ≡ length p.functions + x.table → enters r a ≡ false → step r a ≡ Went b event → Walk p r j h b u → Way p r (n + suc j) (one_if (counts r a) + h) t u
  Sums : (t u : State) (event : Option (Happening Byte)) → Addition p t.focus t.stack → enters r t ≡ false → step r t ≡ Went u event → Way p r 1 (one_if (counts r t)) t u

-- what belongs to one micro-step of the given program, from t to u; the outlined one is at v before
pub record Led (p : Program) (s r : Setting) (t u v : State) : Type 0 where
  pub place : State
  pub count : ℕ
  pub counted : ℕ
  pub way : Way p r count counted v place
  pub few : count ≤ 18
  pub some : counts s t ≡ true → (1 ≤ counted) × (counted ≤ 4)
  pub none : counts s t ≡ false → counted ≡ 0
  pub stands : Stand p s.outside u place
