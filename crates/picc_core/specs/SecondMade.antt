-- What is known of a text on the way to what is compiled for the second chip, and what the passes make of it.
use Rattle.std.specs.Prelude.{ℕ, ◌≡◌, ◌≤◌, List, map, None}
use Rattle.c_typed.specs.Chains.{graph_of}
use Rattle.c_typed.specs.Roots.{broken_root}
use Rattle.c_typed.specs.Trees.{Program}
use Rattle.c_typed.specs.Views.{program_of}
use Rattle.call_graph.specs.Copies.{AreCopies, HasDepth}
use Rattle.call_graph.specs.Levels.{IsAcyclic}
use Rattle.chip_84a.specs.Port.{IsPorted}
use Rattle.pic_map.specs.MapContent.{MapContent}
use Rattle.pic_map.specs.MapView.{object_of, frame_of}
use Rattle.picc_core.specs.Blocks.{HasBlocks}
use Rattle.picc_core.specs.Founded.{IsFounded}
use Rattle.picc_core.specs.SecondChip.{AreAcceptedSecond}
use Rattle.picc_core.specs.Texts.{HasTree}
use Rattle.picc_core.specs.Typed.{IsTypedAs}
use Rattle.picc_core.specs.declared.known.Built.{Built}
use Rattle.picc_core.specs.declared.known.Front.{Front}
use Rattle.program_code.specs.Translated.{IsTranslated}
use Rattle.ram_place.specs.Placement as placement

-- All that is known of a front of a text that is accepted.
pub record IsFrontSecond (text : List ℕ) (front : Front) : Type 0 where
  pub tree : HasTree text
  pub typed : IsTypedAs text (program_of front.typed)
  pub accepted : AreAcceptedSecond (program_of front.typed) front.copies.list.items
  pub roots : broken_root (program_of front.typed) ≡ None
  pub recursion : IsAcyclic (graph_of (program_of front.typed))
  pub depth : HasDepth (program_of front.typed) front.copies.depth × (front.copies.depth ≤ 8)
  pub list : AreCopies (program_of front.typed) front.copies.list.items
  pub below : placement.IsPlacingIn (placement.whole_below (program_of front.typed) 0x50) (program_of front.typed) front.copies.list.items (map object_of front.placed.objects.items) (map frame_of front.placed.frames.items)
  pub exact : placement.IsPlacing (program_of front.typed) front.copies.list.items (map object_of front.placed.objects.items) (map frame_of front.placed.frames.items)
  pub apart : placement.LiveFramesAreDisjoint (program_of front.typed) front.copies.list.items (map frame_of front.placed.frames.items)
  pub clear : placement.FramesAreClear (map object_of front.placed.objects.items) (map frame_of front.placed.frames.items)
  pub objects : placement.ObjectsAreDisjoint (map object_of front.placed.objects.items)
  pub ram : front.placed.ram ≡ placement.addresses_covered (map object_of front.placed.objects.items) (map frame_of front.placed.frames.items)
  pub blocks : HasBlocks (program_of front.typed) front.copies.list.items front.at.items front.words
  pub founded : IsFounded front.typed front.copies.list.items front.placed front.at.items

-- The image is that of the first chip, ported, and all else is the same.
pub record IsPortedTo (built ported : Built) : Type 0 where
  pub same : ported ≡ record built { image = ported.image }
  pub rows : IsPorted built.image ported.image

-- Image and map are what the passes made of the program for the first chip, each as it promises its part, but for the operands of the
-- second chip.
pub record IsTranslatedSecond (p : Program) (image : List ℕ) (content : MapContent) : Type 0 where
  pub first : List ℕ
  pub translated : IsTranslated p first content
  pub rows : IsPorted first image
