-- Where the static objects and the frames of a program stand (compiled stack as in the HI-TECH PICC manual; one copy of a
-- function for each root, and the order of placing, are the project's own).
use Rattle.std.specs.Prelude.{◌≡◌, ℕ, ◌+◌, ◌<◌, Bool, true, false, ◌||◌, if◌then◌else◌, ◌⊎◌, List, [], ◌∷◌, length, nat_eq, take, Some, slice_get}
use Rattle.std.specs.List.{list_any}
use Rattle.c_typed.specs.Chains.{graph_of}
use Rattle.c_typed.specs.Trees.{StaticTree, Program}
use Rattle.c_typed.specs.Types.{type_bytes}
use Rattle.call_graph.specs.declared.types.FnCopy.{FnCopy}
use Rattle.pic_map.specs.MapContent.{ObjectLine, FrameLine}
use Rattle.live_frames.specs.Memory.{covers, AreDisjoint, count_below}
use Rattle.live_frames.specs.Together.{MayBeLive, LiveFramesHave}
use Rattle.ram_place.specs.Regions.{StandsBelow, HasNoPlaceBelow}
use Rattle.ram_place.specs.Sizes as sizes

-- ---- what is placed, and where
-- These static objects in their order, and behind them the frames of the copies; all below the top of memory.
pub record Extent : Type 0 where
  pub statics : List StaticTree
  pub top : ℕ

-- whether the static object of a number is among those that are left out
abbrev pub is_left_out : List ℕ → ℕ → Bool
is_left_out without n = list_any (λ left. nat_eq left n) without

-- the static objects, of which the first has this number, but those that are left out
abbrev pub kept_from : ℕ → List ℕ → List StaticTree → List StaticTree
kept_from n without [] = []
kept_from n without (s ∷ statics) = if is_left_out without n then kept_from (n + 1) without statics else s ∷ kept_from (n + 1) without statics

abbrev pub kept : Program → List ℕ → List StaticTree
kept p without = kept_from 0 without p.statics

-- all static objects, in the whole memory; in the memory below a top; and all but those that are left out
abbrev pub whole : Program → Extent
whole p = record { statics = p.statics; top = 0x200 }

abbrev pub whole_below : Program → ℕ → Extent
whole_below p top = record { statics = p.statics; top = top }

abbrev pub but : Program → List ℕ → Extent
but p without = record { statics = kept p without; top = 0x200 }

abbrev pub but_below : Program → List ℕ → ℕ → Extent
but_below p without top = record { statics = kept p without; top = top }

-- ---- lines
-- the line of a static object, and that of a copy's frame, at an address
abbrev pub object_line : Program → StaticTree → ℕ → ObjectLine
object_line p s address = record { constant = s.ty.constant; name = s.name; address = address; size = type_bytes p.sizes s.ty.ty }

abbrev pub frame_line : Program → FnCopy → ℕ → FrameLine
frame_line p copy address = record { root = copy.root; name = sizes.name_of p copy.function; address = address; size = sizes.frame_bytes p copy.function }

-- whether one of the objects, or of the frames, has the byte at x
abbrev pub objects_have : List ObjectLine → ℕ → Bool
objects_have [] x = false
objects_have (line ∷ lines) x = covers line.address line.size x || objects_have lines x

abbrev pub frames_have : List FrameLine → ℕ → Bool
frames_have [] x = false
frames_have (line ∷ lines) x = covers line.address line.size x || frames_have lines x

-- An object overlaps no earlier one.
abbrev pub IsTaken : List ObjectLine → ℕ → Type 0
IsTaken objects x = objects_have objects x ≡ true

-- A frame overlaps no object, and no earlier frame that may be live together with it.
abbrev pub IsTakenFor : Program → List ObjectLine → List FnCopy → List FrameLine → FnCopy → ℕ → Type 0
IsTakenFor p objects copies frames copy x = IsTaken objects x ⊎ LiveFramesHave (graph_of p) (length p.functions) copy copies frames x

-- ---- where they stand
-- the line is that of the object, which stands below the top, behind these others
abbrev pub IsObjectBelow : ℕ → Program → List ObjectLine → StaticTree → ObjectLine → Type 0
IsObjectBelow top p others s line = (line ≡ object_line p s line.address) × StandsBelow top (IsTaken others) line.size line.address

-- the line is that of the copy's frame, which stands below the top, behind the objects and these other frames
abbrev pub IsFrameBelow : ℕ → Program → List ObjectLine → List FnCopy → List FrameLine → FnCopy → FrameLine → Type 0
IsFrameBelow top p objects copies others copy line = (line ≡ frame_line p copy line.address) × StandsBelow top (IsTakenFor p objects copies others copy) line.size line.address

-- The lines are those of the first objects in their order, each behind those before it.
abbrev pub AreObjectsIn : Extent → Program → List ObjectLine → Type 0
AreObjectsIn e p lines = (k : ℕ) (s : StaticTree) (line : ObjectLine) → slice_get e.statics k ≡ Some s → slice_get lines k ≡ Some line → IsObjectBelow e.top p (take k lines) s line

-- The lines are those of the frames of the first copies in their order, each behind those before it.
abbrev pub AreFramesBelow : ℕ → Program → List ObjectLine → List FnCopy → List FrameLine → Type 0
AreFramesBelow top p objects copies lines = (k : ℕ) (copy : FnCopy) (line : FrameLine) → slice_get copies k ≡ Some copy → slice_get lines k ≡ Some line → IsFrameBelow top p objects copies (take k lines) copy line

-- The placing of these objects of a program, and of its frames with these copies.
pub record IsPlacingIn (e : Extent) (p : Program) (copies : List FnCopy) (objects : List ObjectLine) (frames : List FrameLine) : Type 0 where
  pub each_object : length objects ≡ length e.statics
  pub objects_stand : AreObjectsIn e p objects
  pub each_frame : length frames ≡ length copies
  pub frames_stand : AreFramesBelow e.top p objects copies frames

-- The objects before one of that name have addresses, and it has none.
pub record LacksObjectIn (e : Extent) (p : Program) (name : List ℕ) : Type 0 where
  pub objects : List ObjectLine
  pub objects_stand : AreObjectsIn e p objects
  pub object : StaticTree
  pub is_next : slice_get e.statics (length objects) ≡ Some object
  pub has_none : HasNoPlaceBelow e.top (IsTaken objects) (type_bytes p.sizes object.ty.ty)
  pub named : name ≡ object.name

-- Behind these objects the frames before one of that name have addresses, and it has none.
pub record LacksFrameBehindBelow (top : ℕ) (p : Program) (objects : List ObjectLine) (copies : List FnCopy) (name : List ℕ) : Type 0 where
  pub frames : List FrameLine
  pub frames_stand : AreFramesBelow top p objects copies frames
  pub copy : FnCopy
  pub is_next : slice_get copies (length frames) ≡ Some copy
  pub has_none : HasNoPlaceBelow top (IsTakenFor p objects copies frames copy) (sizes.frame_bytes p copy.function)
  pub named : name ≡ sizes.name_of p copy.function

-- All objects and the frames before one of that name have addresses, and it has none.
pub record LacksFrameIn (e : Extent) (p : Program) (copies : List FnCopy) (name : List ℕ) : Type 0 where
  pub objects : List ObjectLine
  pub each_object : length objects ≡ length e.statics
  pub objects_stand : AreObjectsIn e p objects
  pub frame : LacksFrameBehindBelow e.top p objects copies name

-- ---- all static objects, in the whole memory
abbrev pub IsObject : Program → List ObjectLine → StaticTree → ObjectLine → Type 0
IsObject = IsObjectBelow 0x200

abbrev pub IsFrame : Program → List ObjectLine → List FnCopy → List FrameLine → FnCopy → FrameLine → Type 0
IsFrame = IsFrameBelow 0x200

abbrev pub AreObjects : Program → List ObjectLine → Type 0
AreObjects p = AreObjectsIn (whole p) p

abbrev pub AreFrames : Program → List ObjectLine → List FnCopy → List FrameLine → Type 0
AreFrames = AreFramesBelow 0x200

-- The placing of a program with these copies.
abbrev pub IsPlacing : Program → List FnCopy → List ObjectLine → List FrameLine → Type 0
IsPlacing p = IsPlacingIn (whole p) p

-- The same, but for static objects that are left out, which have no lines.
abbrev pub IsPlacingBut : Program → List FnCopy → List ℕ → List ObjectLine → List FrameLine → Type 0
IsPlacingBut p copies without = IsPlacingIn (but p without) p copies

abbrev pub LacksObject : Program → List ℕ → Type 0
LacksObject p = LacksObjectIn (whole p) p

abbrev pub LacksFrameBehind : Program → List ObjectLine → List FnCopy → List ℕ → Type 0
LacksFrameBehind = LacksFrameBehindBelow 0x200

abbrev pub LacksFrame : Program → List FnCopy → List ℕ → Type 0
LacksFrame p = LacksFrameIn (whole p) p

-- ---- what is covered, and what is apart
-- how many addresses objects and frames cover, each counted once
abbrev pub addresses_covered : List ObjectLine → List FrameLine → ℕ
addresses_covered objects frames = count_below (λ x. objects_have objects x || frames_have frames x) 512

-- Frames of two copies that may be live together have no byte in common.
abbrev pub LiveFramesAreDisjoint : Program → List FnCopy → List FrameLine → Type 0
LiveFramesAreDisjoint p copies frames = (j k : ℕ) (a b : FnCopy) (f g : FrameLine) → (j ≡ k → ⊥) → slice_get copies j ≡ Some a → slice_get copies k ≡ Some b → slice_get frames j ≡ Some f → slice_get frames k ≡ Some g → MayBeLive (graph_of p) (length p.functions) a b → AreDisjoint f.address f.size g.address g.size

-- No frame has a byte in common with an object.
abbrev pub FramesAreClear : List ObjectLine → List FrameLine → Type 0
FramesAreClear objects frames = (j k : ℕ) (o : ObjectLine) (f : FrameLine) → slice_get objects j ≡ Some o → slice_get frames k ≡ Some f → AreDisjoint o.address o.size f.address f.size

-- Two objects have no byte in common.
abbrev pub ObjectsAreDisjoint : List ObjectLine → Type 0
ObjectsAreDisjoint objects = (j k : ℕ) (o q : ObjectLine) → (j ≡ k → ⊥) → slice_get objects j ≡ Some o → slice_get objects k ≡ Some q → AreDisjoint o.address o.size q.address q.size
