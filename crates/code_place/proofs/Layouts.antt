-- A byte that has an address stands there by the layout too.
use Rattle.std.proofs.Common.{◌≡◌, ℕ, zero, suc, ◌+◌, nat_lt, List, [], ◌∷◌, map, Option, Some, None, slice_get, slice_index_or, refl, ap, ◌∙◌}
use Rattle.std.proofs.lemmas.Option.{none-some, same_Some, cond_some}
use Rattle.core_code.specs.declared.code.Byte.{Byte}
use Rattle.core_code.specs.declared.code.Byte.TheVariants as bytes
use Rattle.pic_map.specs.declared.FrameLine.{FrameLine}
use Rattle.pic_map.specs.declared.ObjLine.{ObjLine}
use Rattle.pic_map.specs.declared.Placed.{Placed}
use Rattle.sym_code.specs.Layout as layouts
use Rattle.sym_code.specs.Layout.{no_range, no_frame}
use Rattle.code_place.specs.Addresses.{in_memory, object_byte, frame_byte, address_of}
use Rattle.code_place.specs.Layouts.{range_of, frame_of, layout_of}

inside : (at address : ℕ) → in_memory at ≡ Some address → at ≡ address
inside at address is = (cond_some (nat_lt at 512) at address is).1

object_there : (lines : List ObjLine) (n : ℕ) (line : ObjLine) → slice_get lines n ≡ Some line → slice_index_or (map range_of lines) n no_range ≡ range_of line
object_there [] n line found = absurd (none-some line found)
object_there (x ∷ lines) zero line found = ap range_of (same_Some x line found)
object_there (x ∷ lines) (suc n) line found = object_there lines n line found

frame_there : (lines : List FrameLine) (n : ℕ) (line : FrameLine) → slice_get lines n ≡ Some line → slice_index_or (map frame_of lines) n no_frame ≡ frame_of line
frame_there [] n line found = absurd (none-some line found)
frame_there (x ∷ lines) zero line found = ap frame_of (same_Some x line found)
frame_there (x ∷ lines) (suc n) line found = frame_there lines n line found

object_stands : (lines : List ObjLine) (n offset address : ℕ) (found : Option ObjLine) → slice_get lines n ≡ found → object_byte found offset ≡ Some address → (slice_index_or (map range_of lines) n no_range).address + offset ≡ address
object_stands lines n offset address None e is = absurd (none-some address is)
object_stands lines n offset address (Some line) e is = ap (λ r. r.address + offset) (object_there lines n line e) ∙ inside (line.address + offset) address is

frame_stands : (lines : List FrameLine) (n offset address : ℕ) (found : Option FrameLine) → slice_get lines n ≡ found → frame_byte found offset ≡ Some address → (slice_index_or (map frame_of lines) n no_frame).address + offset ≡ address
frame_stands lines n offset address None e is = absurd (none-some address is)
frame_stands lines n offset address (Some line) e is = ap (λ r. r.address + offset) (frame_there lines n line e) ∙ inside (line.address + offset) address is

pub by_layout : (placed : Placed) (byte : Byte) (address : ℕ) → address_of placed byte ≡ Some address → layouts.address_of (layout_of placed) byte ≡ address
unfolding layouts.address_of
by_layout placed (bytes.Static object offset) address is = object_stands placed.objects.items object offset address (slice_get placed.objects.items object) refl is
by_layout placed (bytes.Frame copy offset) address is = frame_stands placed.frames.items copy offset address (slice_get placed.frames.items copy) refl is
by_layout placed (bytes.Result r k) address is = (cond_some (nat_lt k 4) (layouts.result_address r + k) address is).1
by_layout placed (bytes.Device register) address is = same_Some register address is
