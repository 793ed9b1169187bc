-- The headline on the second chip, from that on the first one: where the first one's image keeps within what both chips have, the image that is ported
-- does on the second one what the source says.
use Rattle.std.specs.Prelude.{ℕ, ◌+◌, ◌≡◌, ◌≤◌, Bool, true, List, Contains}
use Rattle.c_typed.specs.Trees.{Program}
use Rattle.call_graph.specs.declared.types.FnCopy.{FnCopy}
use Rattle.pic_chip.specs.SmallAddress.{is_small_register}
use Rattle.pic_map.specs.MapContent.{ObjectLine, FrameLine, MapContent}
use Rattle.chip_84a.specs.Port.{IsPorted}
use Rattle.headline.specs.Headline.{Source, IsFaithfulOn}
use Rattle.headline.specs.Keeps.{AllStayWithin}
use Rattle.headline.specs.OnChip.{pic16f877a}
use Rattle.headline.specs.SourceOf.{source_of}
use Rattle.headline_84a.specs.OnSecondChip.{pic16f84a}

-- ---- what the second chip has
-- the bytes lie from 20h to 4Fh
abbrev pub IsLow : ℕ → ℕ → Type 0
IsLow address size = (0x20 ≤ address) × (address + size ≤ 0x50)

-- those of each object and of each frame do
pub record AreLowLines (lines : List ObjectLine) (others : List FrameLine) : Type 0 where
  pub objects : (line : ObjectLine) → Contains lines line → IsLow line.address line.size
  pub frames : (line : FrameLine) → Contains others line → IsLow line.address line.size

abbrev pub IsLowMap : MapContent → Type 0
IsLowMap content = AreLowLines content.objects content.frames

-- It has the bytes of the map, these device registers, and all words of code that ends before this one.
pub record HasAll (content : MapContent) (named : ℕ → Bool) (end : ℕ) : Type 0 where
  pub low : IsLowMap content
  pub registers : (address : ℕ) → named address ≡ true → is_small_register address ≡ true
  pub words : end ≤ 1024

-- ---- the law
abbrev pub SecondIsFaithful : Source → Type 0
SecondIsFaithful source =
    (content : MapContent) (named : ℕ → Bool) (end : ℕ) (image ported : List ℕ) → HasAll content named end → IsPorted image ported
    → AllStayWithin source content named end image → IsFaithfulOn pic16f877a source content image → IsFaithfulOn pic16f84a source content ported

-- of each typed program, with any copies, by any map
abbrev pub EachSecondIsFaithful : Type 0
EachSecondIsFaithful = (p : Program) (copies : List FnCopy) (shown : MapContent) → SecondIsFaithful (source_of p copies shown)
