-- Where no table is read both programs take the same micro-step: what it goes on to in the given program, outlined, is what the outlined program
-- goes on to.
use Rattle.std.proofs.Common.{◌≡◌, ℕ, ◌+◌, ◌<◌, List, [], ◌∷◌, length, Option, Some, None, refl, sym, ap, subst}
use Rattle.std.specs.Prelude.{pos}
use Rattle.c_typed.specs.Trees as tree
use Rattle.c_typed.specs.Trees.{Expression, Expressions, Place, Item, Statement, Statements, Arm, Arms, LastArm, Program, FunctionTree}
use Rattle.c_typed.specs.declared.expression.Object.{Object as Name}
use Rattle.c_typed.specs.declared.expression.Object.TheVariants as names
use Rattle.c_typed.specs.declared.types.Qualified.{Qualified}
use Rattle.c_typed.specs.declared.types.Ty.{Ty}
use Rattle.c_typed.specs.declared.types.Ty.TheVariants as types
use Rattle.pic_world.specs.World.{Outside, World, Happening}
use Rattle.rom_source.proofs.Adding.{added_expression, added_arguments, added_place, added_statement, added_left, added_right}
use Rattle.rom_source.proofs.Links.{Left, Right, Link, Plain, Index, Converted, given, opened, added_got, added_focus, added_frame, made, with_parts, IsMade, AreLinks, Agree}
use Rattle.rom_source.proofs.Values.{same_moved, same_local}
use Rattle.rom_tables.specs.Tables.{tables_of}
use Rattle.src_rules.proofs.Places.{spot_placed}
use Rattle.src_rules.specs.Accesses.{goes, fetching}
use Rattle.src_rules.specs.Expressions.{arguments, eval, find, address, takes, found_in, at_member, member_of, found_to, found_for, found}
use Rattle.src_rules.specs.Standing.{IsReached, IsPlaced, FocusStands, StackStands}
use Rattle.src_rules.specs.State.{State, state, Outcome, Went, Undefined, Idle, Lost}
use Rattle.src_values.specs.Control as control
use Rattle.src_values.specs.Control.{Focus, Eval, Find, Holds, Found, Got, Nothing, Chosen, One, At, AtWith, Stores, Copies, Args, Passed, Called, Stage, AtItem, Items, Pending, In, To, Doing, Before, Returns, Resumes, active}
use Rattle.src_values.specs.Data as datum
use Rattle.src_values.specs.Data.{Datum}
use Rattle.src_values.specs.Memory.{Setting, Memory}
use Rattle.src_values.specs.Objects.{spot_of, moved, behind, local_of}
use Rattle.src_values.specs.declared.objects.Byte.{Byte}
use Rattle.src_values.specs.declared.objects.CopyOf.{CopyOf}
use Rattle.src_values.specs.declared.objects.Object.TheVariants.{Variable}
use Rattle.src_values.specs.declared.objects.Pointer.{Pointer as Reference}
use Rattle.src_values.specs.declared.objects.Spot.{Spot}
use Rattle.src_values.specs.declared.objects.Spot.TheVariants as spots

-- ---- at the same place
-- t: the given program; v: the outlined one
pub record Whole (p : Program) (t v : State) : Type 0 where
  pub links : List Link
  pub memory : Memory
  pub stack : t.stack ≡ given links
  pub is : v ≡ state t.copy (added_focus (tables_of p) (length p.functions) t.focus) (made (tables_of p) (length p.functions) links) memory t.world
  pub small : t.copy.function < length p.functions
  pub agree : Agree p t.memory memory
  pub proper : AreLinks p links

-- what the one goes on to, the other one does
abbrev pub Same : Program → Outcome → Outcome → Type 0
Same p (Went u event) other = (v : State) × (other ≡ Went v event) × Whole p u v
Same p (Undefined kind line) other = Unit {0}
Same p Idle other = other ≡ Idle
Same p Lost other = Unit {0}

-- a read that stays one
abbrev pub Stays : Program → Expression → Type 0
Stays p (tree.Read place ty line) = (added_left (tables_of p) place ≡ None) × (added_right (tables_of p) place ≡ None)
Stays p _ = Unit {0}

module _ (p : Program) (rows : List Qualified) (fs : List FunctionTree) (mk : IsMade p rows fs) (o : Outside) where
  abbrev pub q : Program
  q = with_parts p rows fs

  abbrev pub ts : List ℕ
  ts = tables_of p

  abbrev pub first : ℕ
  first = length p.functions

  abbrev pub s : Setting
  s = record { program = p; outside = o }

  abbrev pub r : Setting
  r = record { program = q; outside = o }

  pub to : (d : CopyOf) (x y : Focus) (ls : List Link) (m n : Memory) (w : World Byte) (event : Option (Happening Byte)) → d.function < length p.functions → y ≡ added_focus ts first x → AreLinks p ls → Agree p m n
      → Same p (Went (state d x (given ls) m w) event) (Went (state d y (made ts first ls) n w) event)
  to d x y ls m n w event small is z agree =
      (state d y (made ts first ls) n w, refl, record { links = ls; memory = n; stack = refl; is = ap (λ x. state d x (made ts first ls) n w) is; small = small; agree = agree; proper = z })

  -- ---- where neither memory nor world change
  module _ (c : CopyOf) (small : c.function < length p.functions) (m n : Memory) (agree : Agree p m n) (w : World Byte) where
    pub one : (x : Focus) (ls : List Link) → AreLinks p ls → Same p (goes c x (given ls) m w) (goes c (added_focus ts first x) (made ts first ls) n w)
    one x ls z = to c x (added_focus ts first x) ls m n w None small refl z agree

    pub one_as : (x y : Focus) (ls : List Link) → y ≡ added_focus ts first x → AreLinks p ls → Same p (goes c x (given ls) m w) (goes c y (made ts first ls) n w)
    one_as x y ls is z = to c x y ls m n w None small is z agree

    -- ---- a node begins
    pub arguments_same : (e : Expression) (values : List Datum) (more : Expressions) (ls : List Link) → AreLinks p ls
        → Same p (arguments e values more (given ls) c m w) (arguments (opened ts first e) values (added_arguments ts first more) (made ts first ls) c n w)
    unfolding given made AreLinks added_expression
    arguments_same e values tree.NoExpression ls z = one control.Calls (Plain (In e (Passed values)) ∷ ls) (tt, z)
    arguments_same e values (tree.AndExpression argument more) ls z = one (Eval argument) (Plain (In e (Args values more)) ∷ ls) (tt, z)

    read_stays : (place : Place) (ty : Ty) (line : ℕ) → Stays p (tree.Read place ty line) → added_expression ts first (tree.Read place ty line) ≡ tree.Read (added_place ts first place) ty line
    unfolding added_expression
    read_stays place ty line h = rw (h.0, h.1) refl

    pub eval_same : (e : Expression) (ls : List Link) → Stays p e → AreLinks p ls → Same p (eval e (given ls) c m w) (eval (added_expression ts first e) (made ts first ls) c n w)
    unfolding given made AreLinks added_expression
    eval_same (tree.Constant value line) ls h z = one (Holds (datum.Number value)) ls z
    eval_same (tree.Read place ty line) ls h z =
        subst (λ e. Same p (eval (tree.Read place ty line) (given ls) c m w) (eval e (made ts first ls) c n w)) (sym (read_stays place ty line h)) (one (Find place) (Plain (In (tree.Read place ty line) Nothing) ∷ ls) (tt, z))
    eval_same (tree.Address place ty line) ls h z = one (Find place) (Plain (In (tree.Address place ty line) Nothing) ∷ ls) (tt, z)
    eval_same (tree.Convert operand ty line) ls h z = one (Eval operand) (Plain (In (tree.Convert operand ty line) Nothing) ∷ ls) (tt, z)
    eval_same (tree.Cast operand ty line) ls h z = one (Eval operand) (Plain (In (tree.Cast operand ty line) Nothing) ∷ ls) (tt, z)
    eval_same (tree.Unary op operand ty line) ls h z = one (Eval operand) (Plain (In (tree.Unary op operand ty line) Nothing) ∷ ls) (tt, z)
    eval_same (tree.Binary op left right ty line) ls h z = one (Eval left) (Plain (In (tree.Binary op left right ty line) Nothing) ∷ ls) (tt, z)
    eval_same (tree.Offset op left right size ty line) ls h z = one (Eval left) (Plain (In (tree.Offset op left right size ty line) Nothing) ∷ ls) (tt, z)
    eval_same (tree.Difference left right size line) ls h z = one (Eval left) (Plain (In (tree.Difference left right size line) Nothing) ∷ ls) (tt, z)
    eval_same (tree.Logical op left right line) ls h z = one (Eval left) (Plain (In (tree.Logical op left right line) Nothing) ∷ ls) (tt, z)
    eval_same (tree.Conditional condition chosen otherwise ty line) ls h z = one (Eval condition) (Plain (In (tree.Conditional condition chosen otherwise ty line) Nothing) ∷ ls) (tt, z)
    eval_same (tree.Comma left right ty line) ls h z = one (Eval left) (Plain (In (tree.Comma left right ty line) Nothing) ∷ ls) (tt, z)
    eval_same (tree.Assign place value ty line) ls h z = one (Find place) (Plain (In (tree.Assign place value ty line) Nothing) ∷ ls) (tt, z)
    eval_same (tree.StructAssign place from size line) ls h z = one (Find place) (Plain (In (tree.StructAssign place from size line) Nothing) ∷ ls) (tt, z)
    eval_same (tree.Update op place value operation size ty line) ls h z = one (Find place) (Plain (In (tree.Update op place value operation size ty line) Nothing) ∷ ls) (tt, z)
    eval_same (tree.Step op place operation size ty line) ls h z = one (Find place) (Plain (In (tree.Step op place operation size ty line) Nothing) ∷ ls) (tt, z)
    eval_same (tree.Call f values ty line) ls h z = arguments_same (tree.Call f values ty line) [] values ls z

    spot_same : (object : Name) → spot_of q c object ≡ spot_of p c object
    spot_same (names.Static k) = refl
    spot_same (names.Param k) = refl
    spot_same (names.Local k) = ap (λ (f : FunctionTree). behind (Variable c (length f.params + k)) 0) (mk.functions c.function small)
    spot_same (names.Register k) = refl

    pub find_same : (place : Place) (ls : List Link) → AreLinks p ls → Same p (find s place (given ls) c m w) (find r (added_place ts first place) (made ts first ls) c n w)
    unfolding given made AreLinks added_expression
    find_same (tree.Name object ty line) ls z = one_as (Found (spot_of p c object)) (Found (spot_of q c object)) ls (ap Found (spot_same object)) z
    find_same (tree.Bit register number line) ls z = one (Found (spots.Bit register number)) ls z
    find_same (tree.Member whole member offset ty line) ls z = one (Find whole) (Plain (To (tree.Member whole member offset ty line)) ∷ ls) (tt, z)
    find_same (tree.Deref pointer ty line) ls z = one (Eval pointer) (Plain (To (tree.Deref pointer ty line)) ∷ ls) (tt, z)

    -- ---- a place was found
    takes_same : (x : Option Reference) (ls : List Link) → AreLinks p ls → Same p (takes x (given ls) c m w) (takes x (made ts first ls) c n w)
    takes_same (Some x) ls z = one (Holds (datum.Pointer x)) ls z
    takes_same None ls z = tt

    pub fetching_same : (spot : Spot) (ty : Ty) (sizes : List ℕ) → fetching spot ty sizes ≡ added_focus ts first (fetching spot ty sizes)
    fetching_same spot types.Void sizes = refl
    fetching_same spot (types.Int ty) sizes = refl
    fetching_same spot (types.Pointer target) sizes = refl
    fetching_same spot (types.Array element length size) sizes = refl
    fetching_same spot (types.Struct number) sizes = refl

    found_in_same : (e : Expression) (got : Got) (spot : Spot) (ls : List Link) → AreLinks p ls → Same p (found_in s e got spot (given ls) c m w) (found_in r (opened ts first e) (added_got ts first got) spot (made ts first ls) c n w)
    unfolding given made AreLinks added_expression
    found_in_same (tree.Read place ty line) Nothing spot ls z = one_as (fetching spot ty p.sizes) (fetching spot ty p.sizes) (Plain (In (tree.Read place ty line) (At spot)) ∷ ls) (fetching_same spot ty p.sizes) (tt, z)
    found_in_same (tree.Address place ty line) Nothing spot ls z = takes_same (address spot) ls z
    found_in_same (tree.Assign place value ty line) Nothing spot ls z = one (Eval value) (Plain (In (tree.Assign place value ty line) (At spot)) ∷ ls) (tt, z)
    found_in_same (tree.StructAssign place from size line) Nothing spot ls z = one (Find from) (Plain (In (tree.StructAssign place from size line) (At spot)) ∷ ls) (tt, z)
    found_in_same (tree.StructAssign place from size line) (At there) spot ls z = one (control.CopyRead there spot size) (Plain (In (tree.StructAssign place from size line) Copies) ∷ ls) (tt, z)
    found_in_same (tree.Update op place value operation size ty line) Nothing spot ls z = one (Eval value) (Plain (In (tree.Update op place value operation size ty line) (At spot)) ∷ ls) (tt, z)
    found_in_same (tree.Step op place operation size ty line) Nothing spot ls z =
        one_as (fetching spot ty p.sizes) (fetching spot ty p.sizes) (Plain (In (tree.Step op place operation size ty line) (At spot)) ∷ ls) (fetching_same spot ty p.sizes) (tt, z)
    found_in_same _ _ spot ls z = tt

    at_member_same : (x : Option Reference) (line : ℕ) (ls : List Link) → AreLinks p ls → Same p (at_member x line (given ls) c m w) (at_member x line (made ts first ls) c n w)
    at_member_same (Some x) line ls z = one (Found (spots.Memory x)) ls z
    at_member_same None line ls z = tt

    member_same : (spot : Spot) (offset line : ℕ) (ls : List Link) → IsPlaced p spot → AreLinks p ls → Same p (member_of s (address spot) offset line (given ls) c m w) (member_of r (address spot) offset line (made ts first ls) c n w)
    member_same (spots.Device a) offset line ls h z = tt
    member_same (spots.Bit a b) offset line ls h z = tt
    member_same (spots.Memory x) offset line ls h z =
        subst (λ y. Same p (at_member (moved p x (pos offset)) line (given ls) c m w) (at_member y line (made ts first ls) c n w)) (sym (same_moved p rows fs mk x (pos offset) h)) (at_member_same (moved p x (pos offset)) line ls z)

    found_to_same : (place : Place) (spot : Spot) (ls : List Link) → IsReached p c → StackStands p c (To place ∷ given ls) → FocusStands p c (Found spot) (To place ∷ given ls) → AreLinks p ls
        → Same p (found_to s place spot (given ls) c m w) (found_to r (added_place ts first place) spot (made ts first ls) c n w)
    unfolding added_expression
    found_to_same (tree.Name object ty line) spot ls reached k f z = tt
    found_to_same (tree.Bit register number line) spot ls reached k f z = tt
    found_to_same (tree.Member whole member offset ty line) spot ls reached k f z =
        member_same spot offset line ls (spot_placed p c f.0 spot reached (rw f.1 k.0.1) f.2) z
    found_to_same (tree.Deref pointer ty line) spot ls reached k f z = tt

    found_for_same : (t : Statement) (stage : Stage) (spot : Spot) (ls : List Link) → AreLinks p ls
        → Same p (found_for s t stage spot (given ls) c m w) (found r spot (added_frame ts first (Doing t stage) ∷ made ts first ls) c n w)
    unfolding given made AreLinks added_expression added_statement
    found_for_same (tree.InitList local all line) (AtItem (tree.Struct offset from size) rest) spot ls z =
        one_as (control.CopyRead (behind (local_of p c local) offset) spot size) (control.CopyRead (behind (local_of q c local) offset) spot size)
        (Plain (Doing (tree.InitList local all line) (Items (tree.Struct offset from size) rest)) ∷ ls) (ap (λ object. control.CopyRead (behind object offset) spot size) (same_local p rows fs mk c local small)) (tt, z)
    found_for_same _ _ spot ls z = tt

    pub found_same : (spot : Spot) (ls : List Link) → IsReached p c → StackStands p c (given ls) → FocusStands p c (Found spot) (given ls) → AreLinks p ls → Same p (found s spot (given ls) c m w) (found r spot (made ts first ls) c n w)
    unfolding given made AreLinks
    found_same spot [] reached k f z = tt
    found_same spot (Plain (In e got) ∷ ls) reached k f z = found_in_same e got spot ls z.1
    found_same spot (Plain (To place) ∷ ls) reached k f z = found_to_same place spot ls reached k f z.1
    found_same spot (Plain (Doing t stage) ∷ ls) reached k f z = found_for_same t stage spot ls z.1
    found_same spot (Plain (Before ss) ∷ ls) reached k f z = tt
    found_same spot (Plain (Returns d) ∷ ls) reached k f z = tt
    found_same spot (Plain (Resumes d x) ∷ ls) reached k f z = tt
    found_same spot (Index Left a ∷ ls) reached k f z = tt
    found_same spot (Index Right a ∷ ls) reached k f z = tt
    found_same spot (Converted side a e ty at ∷ ls) reached k f z = tt
