-- What the start block keeps: from reset on, whatever power-on leaves, it comes to main with what main is to find.
use Rattle.std.specs.Prelude.{ℕ, ◌≡◌, ◌≤◌, ◌<◌, true, List, [], length, map, Option, Some, slice_get, slice_index_or}
use Rattle.std.specs.Global.{Global}
use Rattle.std.specs.List.{All}
use Rattle.std.specs.declared.vec.Vec.{Vec}
use Rattle.pic_chip.specs.Run as chip
use Rattle.pic_chip.specs.Run.{IsStart}
use Rattle.pic_map.specs.declared.Placed.{Placed}
use Rattle.core_code.specs.Bytes.{Held}
use Rattle.core_code.specs.FirstBytes.{first_held}
use Rattle.core_code.specs.declared.code.FirstByte.{FirstByte}
use Rattle.sym_code.specs.Effect.{Setting}
use Rattle.sym_code.specs.Layout.{all_near, object}
use Rattle.sym_code.specs.Programs.{block_in}
use Rattle.sym_code.specs.Selects.{bare}
use Rattle.sym_code.specs.declared.code.BlockName.TheVariants.{Start}
use Rattle.sym_code.specs.declared.code.SymBlock.{SymBlock}
use Rattle.select_wide.specs.Links.{IsFirst}
use Rattle.isr_save.specs.Start.{start_code}
use Rattle.bank_page.specs.Near.{none_sets_rp1}
use Rattle.bank_page.specs.Selected.{Reaches}
use Rattle.chip_trace.specs.Arriving.{IsAssembled, IsStarted}

-- what the objects begin as
abbrev pub held_in : List (Vec FirstByte Global) → List (List Held)
held_in statics = map (λ (object : Vec FirstByte Global). map first_held object.items) statics

-- The start block with its selects: on every way through it each access finds its bank, and each jump its page. Where objects and
-- frames end below 100h, no select sets RP1.
pub record IsBeginning (blocks : List SymBlock) (placed : Placed) (handler : Option ℕ) (statics : List (Vec FirstByte Global)) (g : Setting) : Type 0 where
  pub code : bare (block_in blocks Start) ≡ start_code handler statics
  pub selected : (block : SymBlock) → slice_get blocks 0 ≡ Some block → Reaches placed block
  pub near : all_near g.program.layout ≡ true → none_sets_rp1 (block_in blocks Start) ≡ true
  pub sizes : (n : ℕ) → n < length statics → length (slice_index_or (held_in statics) n []) ≤ (object g.program.layout n).size
  pub first : All (All (IsFirst (held_in statics))) (held_in statics)

abbrev pub Starting : Type 0
Starting =
    (blocks : List SymBlock) (at : List ℕ) (placed : Placed) (handler : Option ℕ) (statics : List (Vec FirstByte Global)) (g : Setting) (c : chip.Setting)
    → IsAssembled blocks at placed handler c.image c.watch g → IsBeginning blocks placed handler statics g → IsStart c.start → All (λ byte. byte < 256) c.inputs
    → IsStarted g (held_in statics) c
