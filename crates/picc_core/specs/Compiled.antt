-- What is known of the map of a compiled program, and of all that a text is compiled to. That the passes made it is said beside it (`IsTranslated`), so
-- nothing here stands on what passes are.
use Rattle.std.specs.Prelude.{ℕ, ◌≡◌, ◌≤◌, List, length, map, None}
use Rattle.c_typed.specs.Chains.{graph_of}
use Rattle.c_typed.specs.Roots.{broken_root}
use Rattle.c_typed.specs.Trees.{Program}
use Rattle.c_typed.specs.Views.{program_of}
use Rattle.call_graph.specs.Copies.{AreCopies, HasDepth}
use Rattle.call_graph.specs.Levels.{IsAcyclic}
use Rattle.call_graph.specs.declared.types.FnCopy.{FnCopy}
use Rattle.headline.specs.SourceOf.{IsFaithfulTo}
use Rattle.pic_map.specs.MapContent.{ObjectLine, FrameLine, MapContent}
use Rattle.pic_map.specs.MapText.{AreInRange}
use Rattle.pic_map.specs.MapView.{content_of, object_of, frame_of}
use Rattle.ram_place.specs.Placement as placement
use Rattle.picc_core.specs.Accepted.{AreAccepted, IsFirstRefusal}
use Rattle.picc_core.specs.Answers.{TellsBy}
use Rattle.picc_core.specs.Blocks.{HasWords}
use Rattle.picc_core.specs.Decided.{IsAcceptedBy, HasOneAnswerBy}
use Rattle.picc_core.specs.Texts.{HasTree}
use Rattle.picc_core.specs.Typed.{IsTypedAs}
use Rattle.picc_core.specs.declared.known.Built.{Built}
use Rattle.picc_core.specs.declared.refusal.Refusal.{Refusal}

-- The lines of the map are those of the program's objects and of the frames of its copies, where they are to stand. Frames that
-- may be live together are disjoint, and no frame overlaps an object, nor does another object.
pub record IsPlaced (p : Program) (objects : List ObjectLine) (frames : List FrameLine) : Type 0 where
  pub copies : List FnCopy
  pub known : AreCopies p copies
  pub exact : placement.IsPlacing p copies objects frames
  pub apart : placement.LiveFramesAreDisjoint p copies frames
  pub clear : placement.FramesAreClear objects frames
  pub objects_apart : placement.ObjectsAreDisjoint objects

-- so many words of the return stack its calls take, and there are eight
pub record IsWithinDepth (p : Program) (depth : ℕ) : Type 0 where
  pub exact : HasDepth p depth
  pub within : depth ≤ 8

-- ---- builds
-- What a build promises of a program: one build differs from another by these alone.
pub record Build : Type 1 where
  -- what is accepted behind the rules on types, with these copies of its functions, and which refusal is the first of what isn't
  pub Accepts : Program → List FnCopy → Type 0
  pub RefusesFirst : Program → Refusal → Type 0
  -- on which line a program that isn't refused so first names a device register that the build's chip doesn't have
  pub LacksRegister : Program → ℕ → Type 0
  -- how many words of the return stack calls take, and how many words are stated of all blocks
  pub TakesDepth : Program → ℕ → Type 0
  pub StatesWords : Program → ℕ → Type 0
  -- which lines the map has
  pub MapsTo : Program → List ObjectLine → List FrameLine → Type 0
  -- The headline: what an image does on the build's chip, seen by a map, is a run of the build's source of the program (`IsFaithfulAs`).
  pub IsFaithful : Program → MapContent → List ℕ → Type 0

-- The text is compiled to this, whichever selects are left out.
pub record IsCompiledBy (b : Build) (text : List ℕ) (built : Built) : Type 0 where
  -- it has a tree, and this is the typed program that the rules on names and types give to it
  pub tree : HasTree text
  pub typed : IsTypedAs text (program_of built.typed)
  -- which all rules behind these accept: those on main and the handler, on recursion, and on the return stack, and others
  pub taken : IsAcceptedBy b.Accepts text
  pub roots : broken_root (program_of built.typed) ≡ None
  pub recursion : IsAcyclic (graph_of (program_of built.typed))
  pub depth : b.TakesDepth (program_of built.typed) built.depth
  -- the map's lines are those of its objects and of the frames of its copies, where they are to stand, and a map file can tell them
  pub lines : b.MapsTo (program_of built.typed) (map object_of built.map.objects.items) (map frame_of built.map.frames.items)
  pub written : AreInRange (content_of built.map)
  -- the sum of the stated words of all blocks, how many objects there are, and how many addresses are covered
  pub words : b.StatesWords (program_of built.typed) built.words
  pub few : length built.map.objects.items ≤ 65536
  pub ram : built.ram ≡ placement.addresses_covered (map object_of built.map.objects.items) (map frame_of built.map.frames.items)
  -- what the image does on the chip, seen by the map, is what the program says
  pub faithful : b.IsFaithful (program_of built.typed) (content_of built.map) built.image

-- The build of a text for the PIC16F877A whose events are all those of its source.
abbrev pub plain : Build
plain = record {
  Accepts = AreAccepted;
  RefusesFirst = IsFirstRefusal;
  LacksRegister = λ p line. ⊥;
  TakesDepth = IsWithinDepth;
  StatesWords = HasWords;
  MapsTo = IsPlaced;
  IsFaithful = IsFaithfulTo;
}

abbrev pub IsCompiledTo : List ℕ → Built → Type 0
IsCompiledTo = IsCompiledBy plain

-- ---- one answer
-- The text has a typed program, which first names on this line a device register that the chip doesn't have.
pub record IsForeignBy (b : Build) (text : List ℕ) (line : ℕ) : Type 0 where
  pub program : Program
  pub typed : IsTypedAs text program
  pub lacks : b.LacksRegister program line

-- What is accepted isn't refused, and of what is refused one thing is told.
pub record HasOneAnswerOf (b : Build) (text : List ℕ) : Type 0 where
  pub refused : HasOneAnswerBy b.Accepts b.RefusesFirst text
  pub register : (line : ℕ) → IsAcceptedBy b.Accepts text → IsForeignBy b text line → ⊥
  pub either : (r : Refusal) (line : ℕ) → TellsBy b.RefusesFirst text r → IsForeignBy b text line → ⊥
  pub line : (line other : ℕ) → IsForeignBy b text line → IsForeignBy b text other → line ≡ other
