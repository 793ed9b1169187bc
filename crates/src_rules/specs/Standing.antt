-- Which states of the source are well formed: those that runs of sound programs come to. Each node stands in the function that
-- runs, each value has the type that it is waited for with, each frame waits for what stands above it, each copy is reached by
-- its root, and each object that is named is there.
use Rattle.std.specs.Prelude.{◌≡◌, ℕ, ◌+◌, ◌<◌, ◌≤◌, suc, Bool, true, false, pos, List, [], ◌∷◌, ◌++◌, length, Option, Some, None, drop}
use Rattle.c_ints.specs.Range.{IsInRange}
use Rattle.c_typed.specs.Chains.{graph_of, Reaches}
use Rattle.c_typed.specs.Sameness.{is_pointer}
use Rattle.c_typed.specs.Trees as tree
use Rattle.c_typed.specs.Trees.{Expression, Expressions, Place, Item, Statement, Statements, Arm, Arms, FunctionTree, Program}
use Rattle.c_typed.specs.Types.{type_bytes, type_of}
use Rattle.c_typed.specs.declared.statement.TCase.{TCase}
use Rattle.c_typed.specs.declared.types.Ty.{Ty}
use Rattle.c_typed.specs.declared.types.Ty.TheVariants as types
use Rattle.pic_world.specs.Control.{Control}
use Rattle.pic_world.specs.Roots.{same_root}
use Rattle.pic_world.specs.declared.Root.{Root}
use Rattle.pic_world.specs.declared.Root.TheVariants.{Main, Isr}
use Rattle.src_rules.specs.Parts.{IsExpressionOf, IsPlaceOf, AreItemsOf, IsStatementOf, AreStatementsOf, IsArmOf, AreArmsOf, local_bytes}
use Rattle.src_rules.specs.State.{State, Outcome, Went, Undefined, Idle, Lost}
use Rattle.src_rules.specs.Step.{copy_of}
use Rattle.src_values.specs.Control as control
use Rattle.src_values.specs.Control.{Focus, Got, Nothing, Chosen, One, At, AtWith, Stores, Copies, Args, Passed, Called, Stage, Tests, Begins, Steps, Turns, Picks, InArm, Chooses, Fills, AtItem, Items, Blanks, Pending, In, To, Doing, Before, Returns, Resumes, read_type}
use Rattle.src_values.specs.Data as datum
use Rattle.src_values.specs.Data.{Datum}
use Rattle.src_values.specs.Memory.{Memory}
use Rattle.src_values.specs.Objects.{function_at, main_in, main_of, handler_in, variables_of, object_bytes, spot_of, local_of, behind, moved}
use Rattle.src_values.specs.Values.{fits_behind, written_bytes}
use Rattle.src_values.specs.Accesses.{is_unset}
use Rattle.src_values.specs.declared.objects.Byte.{Byte}
use Rattle.src_values.specs.declared.objects.Byte.TheVariants as bytes
use Rattle.src_values.specs.declared.objects.CopyOf.{CopyOf}
use Rattle.src_values.specs.declared.objects.Object.{Object}
use Rattle.src_values.specs.declared.objects.Object.TheVariants.{Fixed, Variable}
use Rattle.src_values.specs.declared.objects.Pointer.{Pointer}
use Rattle.src_values.specs.declared.objects.Pointer.TheVariants.{Null, Into}
use Rattle.src_values.specs.declared.objects.Spot.{Spot}
use Rattle.src_values.specs.declared.objects.Spot.TheVariants as spots

-- ---- copies, objects, pointers and bytes
-- the number of main, or of the handler
abbrev pub root_in : Program → Root → Option ℕ
root_in p Main = main_in p
root_in p Isr = handler_in p

-- A chain of calls leads to the function from the root that the copy belongs to.
pub record IsReached (p : Program) (c : CopyOf) : Type 0 where
  pub root : ℕ
  pub entered : root_in p c.root ≡ Some root
  pub chain : Reaches (graph_of p) root c.function
  pub there : c.function < length p.functions

abbrev pub IsThere : Program → Object → Type 0
IsThere p (Fixed n) = n < length p.statics
IsThere p (Variable c n) = IsReached p c × (n < length (variables_of (function_at p c.function)))

abbrev pub IsPointer : Program → Pointer → Type 0
IsPointer p Null = Unit {0}
IsPointer p (Into object offset) = IsThere p object × (offset ≤ object_bytes p object)

abbrev pub IsByte : Program → Byte → Type 0
IsByte p bytes.Unset = Unit {0}
IsByte p (bytes.Number n) = n < 256
IsByte p (bytes.Part object offset high) = IsThere p object × (offset ≤ object_bytes p object)

-- A byte that has a value is one of an object.
abbrev pub IsByteAt : Program → Object → ℕ → Byte → Type 0
IsByteAt p object at bytes.Unset = Unit {0}
IsByteAt p object at (bytes.Number n) = IsThere p object × (at < object_bytes p object) × (n < 256)
IsByteAt p object at (bytes.Part other offset high) = IsThere p object × (at < object_bytes p object) × (IsThere p other × (offset ≤ object_bytes p other))

abbrev pub MemoryStands : Program → Memory → Type 0
MemoryStands p m = (object : Object) (at : ℕ) → IsByteAt p object at (m object at)

-- ---- values
-- A value of a type; a missing one may be of any: a call can end without a value.
abbrev pub HasType : Program → Ty → Datum → Type 0
HasType p ty (datum.Number q) = (ty ≡ types.Int q.ty) × IsInRange q.ty q.number
HasType p ty (datum.Pointer x) = (is_pointer ty ≡ true) × IsPointer p x
HasType p ty datum.Missing = Unit {0}

-- ---- places
-- the byte so many behind one
abbrev pub stepped : ℕ → Spot → Spot
stepped n (spots.Device address) = spots.Device address
stepped n (spots.Bit register number) = spots.Bit register number
stepped n (spots.Memory Null) = spots.Memory Null
stepped n (spots.Memory (Into object offset)) = spots.Memory (Into object (offset + n))

-- A spot in memory is one that a pointer leads to ..
abbrev pub IsPlaced : Program → Spot → Type 0
IsPlaced p (spots.Device address) = Unit {0}
IsPlaced p (spots.Bit register number) = Unit {0}
IsPlaced p (spots.Memory x) = IsPointer p x

-- .. and a byte of its object stands there
abbrev pub IsInside : Program → Spot → Type 0
IsInside p (spots.Device address) = Unit {0}
IsInside p (spots.Bit register number) = Unit {0}
IsInside p (spots.Memory Null) = ⊥
IsInside p (spots.Memory (Into object offset)) = offset < object_bytes p object

-- where a place is found in a copy: that of a fixed place is one spot
abbrev pub IsSpotOf : Program → CopyOf → Place → Spot → Type 0
IsSpotOf p c (tree.Name object ty line) spot = spot ≡ spot_of p c object
IsSpotOf p c (tree.Bit register number line) spot = spot ≡ spots.Bit register number
IsSpotOf p c (tree.Member whole member offset ty line) spot = (x y : Pointer) × IsSpotOf p c whole (spots.Memory x) × (moved p x (pos offset) ≡ Some y) × (spot ≡ spots.Memory y)
IsSpotOf p c (tree.Deref pointer ty line) spot = (x : Pointer) × IsPointer p x × (spot ≡ spots.Memory x)

-- ---- what a frame waits for
-- the type of an argument, where these stand before it
abbrev pub IsArgumentType : Expressions → List Datum → Ty → Type 0
IsArgumentType tree.NoExpression vs ty = ⊥
IsArgumentType (tree.AndExpression e es) [] ty = ty ≡ type_of e
IsArgumentType (tree.AndExpression e es) (v ∷ vs) ty = IsArgumentType es vs ty

-- the type of the value that an expression waits for
abbrev pub WaitsIn : Expression → Got → Ty → Type 0
WaitsIn (tree.Convert operand t line) Nothing ty = ty ≡ type_of operand
WaitsIn (tree.Cast operand t line) Nothing ty = ty ≡ type_of operand
WaitsIn (tree.Unary op operand t line) Nothing ty = ty ≡ type_of operand
WaitsIn (tree.Binary op left right t line) Nothing ty = ty ≡ type_of left
WaitsIn (tree.Binary op left right t line) (One u) ty = ty ≡ type_of right
WaitsIn (tree.Offset op left right size t line) Nothing ty = ty ≡ type_of left
WaitsIn (tree.Offset op left right size t line) (One u) ty = ty ≡ type_of right
WaitsIn (tree.Difference left right size line) Nothing ty = ty ≡ type_of left
WaitsIn (tree.Difference left right size line) (One u) ty = ty ≡ type_of right
WaitsIn (tree.Logical op left right line) Nothing ty = ty ≡ type_of left
WaitsIn (tree.Logical op left right line) (One u) ty = ty ≡ type_of right
WaitsIn (tree.Conditional condition chosen otherwise t line) Nothing ty = ty ≡ type_of condition
WaitsIn (tree.Conditional condition chosen otherwise t line) Chosen ty = ty ≡ t
WaitsIn (tree.Comma left right t line) Nothing ty = ty ≡ type_of left
WaitsIn (tree.Assign place value t line) (At spot) ty = ty ≡ type_of value
WaitsIn (tree.Update op place value operation size t line) (At spot) ty = ty ≡ type_of value
WaitsIn (tree.Update op place value operation size t line) (AtWith spot u) ty = ty ≡ t
WaitsIn (tree.Step op place operation size t line) (At spot) ty = ty ≡ t
WaitsIn (tree.Call g arguments t line) (Args before more) ty = IsArgumentType arguments before ty
WaitsIn _ _ ty = ⊥

abbrev pub WaitsTo : Place → Ty → Type 0
WaitsTo (tree.Deref pointer t line) ty = ty ≡ type_of pointer
WaitsTo _ ty = ⊥

abbrev pub IsTypeOfAny : Option Expression → Ty → Type 0
IsTypeOfAny None ty = ⊥
IsTypeOfAny (Some e) ty = ty ≡ type_of e

abbrev pub WaitsDoing : Statement → Stage → Ty → Type 0
WaitsDoing (tree.Expr e line) Tests ty = ty ≡ type_of e
WaitsDoing (tree.InitScalar local e line) Tests ty = ty ≡ type_of e
WaitsDoing (tree.InitList local all line) (AtItem (tree.Scalar offset e) rest) ty = ty ≡ type_of e
WaitsDoing (tree.If chain otherwise line) (Picks (tree.OneArm condition chosen at) more) ty = ty ≡ type_of condition
WaitsDoing (tree.Loop shape first condition step body line) Begins ty = IsTypeOfAny first ty
WaitsDoing (tree.Loop shape first condition step body line) Steps ty = IsTypeOfAny step ty
WaitsDoing (tree.Loop shape first condition step body line) Tests ty = IsTypeOfAny condition ty
WaitsDoing (tree.Switch e cases default ss line) Tests ty = ty ≡ type_of e
WaitsDoing (tree.Return value line) Tests ty = IsTypeOfAny value ty
WaitsDoing _ _ ty = ⊥

-- the frame on top waits for a value of this type
abbrev pub WaitsForValue : List Pending → Ty → Type 0
WaitsForValue (In e got ∷ k) ty = WaitsIn e got ty
WaitsForValue (To place ∷ k) ty = WaitsTo place ty
WaitsForValue (Doing t stage ∷ k) ty = WaitsDoing t stage ty
WaitsForValue _ ty = ⊥

abbrev pub SeeksIn : Expression → Got → Place → Type 0
SeeksIn (tree.Read place ty line) Nothing sought = sought ≡ place
SeeksIn (tree.Address place ty line) Nothing sought = sought ≡ place
SeeksIn (tree.Assign place value ty line) Nothing sought = sought ≡ place
SeeksIn (tree.StructAssign place from size line) Nothing sought = sought ≡ place
SeeksIn (tree.StructAssign place from size line) (At spot) sought = sought ≡ from
SeeksIn (tree.Update op place value operation size ty line) Nothing sought = sought ≡ place
SeeksIn (tree.Step op place operation size ty line) Nothing sought = sought ≡ place
SeeksIn _ _ sought = ⊥

abbrev pub SeeksTo : Place → Place → Type 0
SeeksTo (tree.Member whole member offset ty line) sought = sought ≡ whole
SeeksTo _ sought = ⊥

abbrev pub SeeksDoing : Statement → Stage → Place → Type 0
SeeksDoing (tree.InitList local all line) (AtItem (tree.Struct offset from size) rest) sought = sought ≡ from
SeeksDoing _ _ sought = ⊥

-- the frame on top waits for this place
abbrev pub WaitsForPlace : List Pending → Place → Type 0
WaitsForPlace (In e got ∷ k) sought = SeeksIn e got sought
WaitsForPlace (To place ∷ k) sought = SeeksTo place sought
WaitsForPlace (Doing t stage ∷ k) sought = SeeksDoing t stage sought
WaitsForPlace _ sought = ⊥

abbrev pub IsBody : Statement → Stage → Type 0
IsBody (tree.Loop shape first condition step body line) Turns = Unit {0}
IsBody (tree.Switch e cases default ss line) Turns = Unit {0}
IsBody (tree.If chain otherwise line) (InArm more) = Unit {0}
IsBody _ _ = ⊥

-- what stands on top waits for the end of a statement
abbrev pub WaitsForEnd : List Pending → Type 0
WaitsForEnd [] = Unit {0}
WaitsForEnd (In e got ∷ k) = ⊥
WaitsForEnd (To place ∷ k) = ⊥
WaitsForEnd (Doing t stage ∷ k) = IsBody t stage
WaitsForEnd (Before ss ∷ k) = Unit {0}
WaitsForEnd (Returns c ∷ k) = Unit {0}
WaitsForEnd (Resumes c x ∷ k) = Unit {0}

-- ---- where a statement stands
-- in a loop or a switch
abbrev pub leaves : List Pending → Bool
leaves (Doing t Turns ∷ k) = true
leaves (Doing t (InArm more) ∷ k) = leaves k
leaves (Before ss ∷ k) = leaves k
leaves _ = false

-- in a loop
abbrev pub repeats : List Pending → Bool
repeats (Doing (tree.Loop shape first condition step body line) Turns ∷ k) = true
repeats (Doing (tree.Switch e cases default ss line) Turns ∷ k) = repeats k
repeats (Doing t (InArm more) ∷ k) = repeats k
repeats (Before ss ∷ k) = repeats k
repeats _ = false

-- in a list
abbrev pub listed : List Pending → Bool
listed (Before ss ∷ k) = true
listed _ = false

-- ---- what is done of a node
abbrev pub LeftHas : Program → Expression → Datum → Type 0
LeftHas p (tree.Binary op left right ty line) v = HasType p (type_of left) v
LeftHas p (tree.Offset op left right size ty line) v = HasType p (type_of left) v
LeftHas p (tree.Difference left right size line) v = HasType p (type_of left) v
LeftHas p (tree.Logical op left right line) v = HasType p (type_of left) v
LeftHas p _ v = ⊥

-- the place of a node was found there
abbrev pub IsFound : Program → CopyOf → Expression → Spot → Type 0
IsFound p c (tree.Read place ty line) spot = IsSpotOf p c place spot
IsFound p c (tree.Assign place value ty line) spot = IsSpotOf p c place spot
IsFound p c (tree.StructAssign place from size line) spot = IsSpotOf p c place spot
IsFound p c (tree.Update op place value operation size ty line) spot = IsSpotOf p c place spot
IsFound p c (tree.Step op place operation size ty line) spot = IsSpotOf p c place spot
IsFound p c _ spot = ⊥

-- the place that a node writes was found there
abbrev pub IsWritten : Program → CopyOf → Expression → Spot → Type 0
IsWritten p c (tree.Assign place value ty line) spot = IsSpotOf p c place spot
IsWritten p c (tree.Update op place value operation size ty line) spot = IsSpotOf p c place spot
IsWritten p c (tree.Step op place operation size ty line) spot = IsSpotOf p c place spot
IsWritten p c _ spot = ⊥

abbrev pub RightHas : Program → Expression → Datum → Type 0
RightHas p (tree.Update op place value operation size ty line) v = HasType p (type_of value) v
RightHas p _ v = ⊥

-- these values are those of the first arguments, then comes one that is under way, and then those that are left
abbrev pub IsSplit : Program → Expressions → List Datum → Expressions → Type 0
IsSplit p tree.NoExpression before more = ⊥
IsSplit p (tree.AndExpression e es) [] more = es ≡ more
IsSplit p (tree.AndExpression e es) (v ∷ vs) more = HasType p (type_of e) v × IsSplit p es vs more

abbrev pub HaveTypes : Program → Expressions → List Datum → Type 0
HaveTypes p tree.NoExpression [] = Unit {0}
HaveTypes p tree.NoExpression (v ∷ vs) = ⊥
HaveTypes p (tree.AndExpression e es) [] = ⊥
HaveTypes p (tree.AndExpression e es) (v ∷ vs) = HasType p (type_of e) v × HaveTypes p es vs

abbrev pub AreSplit : Program → Expression → List Datum → Expressions → Type 0
AreSplit p (tree.Call g arguments ty line) before more = IsSplit p arguments before more
AreSplit p _ before more = ⊥

abbrev pub ArePassed : Program → Expression → List Datum → Type 0
ArePassed p (tree.Call g arguments ty line) values = HaveTypes p arguments values
ArePassed p _ values = ⊥

abbrev pub GotStands : Program → CopyOf → Expression → Got → Type 0
GotStands p c e Nothing = Unit {0}
GotStands p c e Chosen = Unit {0}
GotStands p c e (One v) = LeftHas p e v
GotStands p c e (At spot) = IsFound p c e spot
GotStands p c e (AtWith spot v) = IsFound p c e spot × RightHas p e v
GotStands p c e (Stores spot v) = IsWritten p c e spot × HasType p (type_of e) v
GotStands p c e Copies = Unit {0}
GotStands p c e (Args before more) = AreSplit p e before more
GotStands p c e (Passed values) = ArePassed p e values
GotStands p c e Called = Unit {0}

-- an item of a local's list, and those that are left
abbrev pub AreLeft : Program → ℕ → Statement → Item → List Item → Type 0
AreLeft p f (tree.InitList local all line) item rest = (before : ℕ) × AreItemsOf p f (local_bytes p f local) before (item ∷ rest)
AreLeft p f _ item rest = ⊥

abbrev pub StageStands : Program → ℕ → Bool → Bool → Statement → Stage → Type 0
StageStands p f l r t Tests = Unit {0}
StageStands p f l r t Begins = Unit {0}
StageStands p f l r t Steps = Unit {0}
StageStands p f l r t Turns = Unit {0}
StageStands p f l r t (Picks arm more) = IsArmOf p f l r arm × AreArmsOf p f l r more
StageStands p f l r t (InArm more) = AreArmsOf p f l r more
StageStands p f l r t Chooses = Unit {0}
StageStands p f l r t Fills = Unit {0}
StageStands p f l r t (AtItem item rest) = AreLeft p f t item rest
StageStands p f l r t (Items item rest) = AreLeft p f t item rest
StageStands p f l r t Blanks = Unit {0}

-- ---- accesses: what the node on top reads and writes
-- it reads a number or a pointer, from there on
abbrev pub Fetches : List Pending → Spot → Type 0
Fetches (In (tree.Read place ty line) (At start) ∷ k) spot = spot ≡ start
Fetches (In (tree.Update op place value operation size ty line) (AtWith start u) ∷ k) spot = spot ≡ start
Fetches (In (tree.Step op place operation size ty line) (At start) ∷ k) spot = spot ≡ start
Fetches _ spot = ⊥

abbrev pub Skims : List Pending → Spot → Type 0
Skims (In (tree.Read place ty line) (At start) ∷ k) spot = spot ≡ start
Skims _ spot = ⊥

-- each byte that was read may follow those before it
abbrev pub AreRead : Program → Ty → List Byte → List Byte → Type 0
AreRead p ty before [] = Unit {0}
AreRead p ty before (byte ∷ more) = IsByte p byte × (is_unset byte ≡ false) × (fits_behind ty before byte ≡ true) × AreRead p ty (before ++ byte ∷ []) more

-- it writes a value of this type, from there on
abbrev pub Writes : Program → CopyOf → List Pending → Spot → Ty → Type 0
Writes p c (In e (Stores start u) ∷ k) spot ty = (spot ≡ start) × (ty ≡ type_of e)
Writes p c (Doing (tree.InitScalar local e line) Fills ∷ k) spot ty = (spot ≡ behind (local_of p c local) 0) × (ty ≡ type_of e)
Writes p c (Doing (tree.InitList local all line) (Items (tree.Scalar offset e) rest) ∷ k) spot ty = (spot ≡ behind (local_of p c local) offset) × (ty ≡ type_of e)
Writes p c _ spot ty = ⊥

-- it copies so many bytes, to one place from another
abbrev pub Copying : Program → CopyOf → List Pending → Spot → Spot → ℕ → Type 0
Copying p c (In (tree.StructAssign place other size line) Copies ∷ k) to from n = IsSpotOf p c place to × IsSpotOf p c other from × (n ≡ size)
Copying p c (Doing (tree.InitList local all line) (Items (tree.Struct offset other size) rest) ∷ k) to from n = (to ≡ behind (local_of p c local) offset) × IsSpotOf p c other from × (n ≡ size)
Copying p c _ to from n = ⊥

-- it writes characters, and zeros up to so many bytes
abbrev pub Spells : Program → CopyOf → List Pending → Spot → List ℕ → ℕ → Type 0
Spells p c (Doing (tree.InitList local all line) (Items (tree.Text offset text size) rest) ∷ k) spot whole n = (spot ≡ behind (local_of p c local) offset) × (whole ≡ text) × (n ≡ size)
Spells p c _ spot whole n = ⊥

abbrev pub BlanksOf : Program → CopyOf → List Pending → ℕ → Type 0
BlanksOf p c (Doing (tree.InitList local all line) Blanks ∷ k) n = n ≡ local_bytes p c.function local
BlanksOf p c _ n = ⊥

abbrev pub CallsOf : List Pending → Type 0
CallsOf (In (tree.Call g arguments ty line) (Passed values) ∷ k) = Unit {0}
CallsOf _ = ⊥

abbrev pub ReturnsOf : List Pending → Type 0
ReturnsOf (Returns d ∷ k) = Unit {0}
ReturnsOf _ = ⊥

-- it compares a value of this type with labels, these among them
abbrev pub ComparesOf : List Pending → Ty → List TCase → Type 0
ComparesOf (Doing (tree.Switch e cases default ss line) Chooses ∷ k) ty labels = (ty ≡ type_of e) × ((before : List TCase) × (before ++ labels ≡ cases))
ComparesOf _ ty labels = ⊥

pub record FetchStands (p : Program) (k : List Pending) (spot : Spot) (read : List Byte) : Type 0 where
  pub start : Spot
  pub node : Fetches k start
  pub at : spot ≡ stepped (length read) start
  pub part : length read ≤ type_bytes p.sizes (read_type k)
  -- no structure is read as one value
  pub few : type_bytes p.sizes (read_type k) ≤ 4
  pub bytes : AreRead p (read_type k) [] read

pub record SkimStands (p : Program) (k : List Pending) (spot : Spot) (left : ℕ) : Type 0 where
  pub start : Spot
  pub done : ℕ
  pub node : Skims k start
  pub at : spot ≡ stepped done start
  pub near : IsPlaced p spot
  pub all : done + left ≡ type_bytes p.sizes (read_type k)

pub record WriteStands (p : Program) (c : CopyOf) (k : List Pending) (spot : Spot) (v : Datum) (at : ℕ) : Type 0 where
  pub start : Spot
  pub type : Ty
  pub node : Writes p c k start type
  pub there : spot ≡ stepped at start
  pub typed : HasType p type v
  pub part : at ≤ written_bytes start v

pub record CopyStands (p : Program) (c : CopyOf) (k : List Pending) (to from : Spot) (left : ℕ) : Type 0 where
  pub first : Spot
  pub other : Spot
  pub size : ℕ
  pub done : ℕ
  pub node : Copying p c k first other size
  pub all : done + left ≡ size
  pub written : to ≡ stepped done first
  pub read : from ≡ stepped done other
  pub target : IsPlaced p to
  pub source : IsPlaced p from

pub record SpellStands (p : Program) (c : CopyOf) (k : List Pending) (spot : Spot) (text : List ℕ) (left : ℕ) : Type 0 where
  pub start : Spot
  pub whole : List ℕ
  pub size : ℕ
  pub done : ℕ
  pub node : Spells p c k start whole size
  pub all : done + left ≡ size
  pub written : spot ≡ stepped done start
  pub rest : text ≡ drop done whole

-- ---- the focus
abbrev pub FocusStands : Program → CopyOf → Focus → List Pending → Type 0
FocusStands p c (control.Eval e) k = IsExpressionOf p c.function e × WaitsForValue k (type_of e)
FocusStands p c (control.Find place) k = IsPlaceOf p c.function place × WaitsForPlace k place
FocusStands p c (control.Holds v) k = (ty : Ty) × WaitsForValue k ty × HasType p ty v
FocusStands p c (control.Found spot) k = (place : Place) × WaitsForPlace k place × IsSpotOf p c place spot
FocusStands p c (control.Run t) k = IsStatementOf p c.function (listed k) (leaves k) (repeats k) t × WaitsForEnd k
FocusStands p c control.Past k = WaitsForEnd k
FocusStands p c (control.Fetch spot read) k = FetchStands p k spot read
FocusStands p c (control.Skim spot left byte) k = SkimStands p k spot left
FocusStands p c (control.Write spot v at) k = WriteStands p c k spot v at
FocusStands p c (control.PutBit register number v old) k = WriteStands p c k (spots.Bit register number) v 0 × (old < 256)
FocusStands p c (control.CopyRead to from left) k = CopyStands p c k to from left
FocusStands p c (control.CopyWrite to from byte left) k = CopyStands p c k to from (suc left) × IsByte p byte × IsInside p from
FocusStands p c (control.Spell spot text left) k = SpellStands p c k spot text left
FocusStands p c (control.Blank at left) k = (size : ℕ) × BlanksOf p c k size × (at + left ≡ size)
FocusStands p c control.Calls k = CallsOf k
FocusStands p c (control.Leaves v) k = ReturnsOf k × HasType p (function_at p c.function).result v
FocusStands p c (control.Compares v labels) k = (ty : Ty) × ComparesOf k ty labels × HasType p ty v
FocusStands p c control.Over k = k ≡ []

-- ---- the stack
-- the call of a function is under way
abbrev pub IsCalled : ℕ → List Pending → Type 0
IsCalled f (In (tree.Call g arguments ty line) Called ∷ k) = g ≡ f
IsCalled f _ = ⊥

-- The frames below a copy that runs. At the end main began, or the handler did, and below it waits what it interrupted.
abbrev pub StackStands : Program → CopyOf → List Pending → Type 0
StackStands p c [] = c ≡ copy_of Main (main_of p)
StackStands p c (In e got ∷ k) = IsExpressionOf p c.function e × WaitsForValue k (type_of e) × GotStands p c e got × StackStands p c k
StackStands p c (To place ∷ k) = IsPlaceOf p c.function place × WaitsForPlace k place × StackStands p c k
StackStands p c (Doing t stage ∷ k) =
    IsStatementOf p c.function (listed k) (leaves k) (repeats k) t × WaitsForEnd k × StageStands p c.function (leaves k) (repeats k) t stage × StackStands p c k
StackStands p c (Before ss ∷ k) = AreStatementsOf p c.function true (leaves k) (repeats k) ss × WaitsForEnd k × StackStands p c k
StackStands p c (Returns d ∷ k) = IsReached p d × (c.root ≡ d.root) × IsCalled c.function k × StackStands p d k
StackStands p c (Resumes d x ∷ k) = IsReached p d × (d.root ≡ Main) × ((h : ℕ) × (handler_in p ≡ Some h) × (c ≡ copy_of Isr h)) × FocusStands p d x k × StackStands p d k

-- ---- the world
pub record ControlStands (r : Control) : Type 0 where
  pub intcon : r.intcon < 256
  pub pir1 : r.pir1 < 256
  pub pie1 : r.pie1 < 256

-- ---- the state
pub record Stands (p : Program) (t : State) : Type 0 where
  pub reached : IsReached p t.copy
  pub focus : FocusStands p t.copy t.focus t.stack
  pub stack : StackStands p t.copy t.stack
  pub memory : MemoryStands p t.memory
  pub control : ControlStands t.world.control
  -- the handler runs exactly where a copy of its root does
  pub inside : t.world.inside ≡ same_root t.copy.root Isr

-- A step goes on to a state that stands, or it is undefined, or there is none to take; a rule is there for it.
abbrev pub Keeps : Program → Outcome → Type 0
Keeps p (Went t event) = Stands p t
Keeps p (Undefined kind line) = Unit {0}
Keeps p Idle = Unit {0}
Keeps p Lost = ⊥
