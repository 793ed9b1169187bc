-- The helpers: their names in a map, the bytes of their frames, and the words of their blocks.
use Rattle.std.specs.Prelude.{ℕ, List, codes}
use Rattle.c_typed.specs.declared.calls.Helper.{Helper}
use Rattle.c_typed.specs.declared.calls.Helper.TheVariants.{Mul2, Mul4, Divu2, Divs2, Remu2, Rems2, Divu4, Divs4, Remu4, Rems4, Shl2, Shru2, Shrs2, Shl4, Shru4, Shrs4}

abbrev pub frame_bytes : Helper → ℕ
frame_bytes Mul2 = 8
frame_bytes Mul4 = 16
frame_bytes Divu2 = 8
frame_bytes Divs2 = 8
frame_bytes Remu2 = 8
frame_bytes Rems2 = 8
frame_bytes Divu4 = 16
frame_bytes Divs4 = 16
frame_bytes Remu4 = 16
frame_bytes Rems4 = 16
frame_bytes Shl2 = 4
frame_bytes Shru2 = 4
frame_bytes Shrs2 = 4
frame_bytes Shl4 = 8
frame_bytes Shru4 = 8
frame_bytes Shrs4 = 8

abbrev pub words : Helper → ℕ
words Mul2 = 90
words Mul4 = 160
words Divu2 = 180
words Divs2 = 180
words Remu2 = 180
words Rems2 = 180
words Divu4 = 320
words Divs4 = 320
words Remu4 = 320
words Rems4 = 320
words Shl2 = 50
words Shru2 = 50
words Shrs2 = 50
words Shl4 = 70
words Shru4 = 70
words Shrs4 = 70

abbrev pub name : Helper → List ℕ
name Mul2 = codes "$mul2"
name Mul4 = codes "$mul4"
name Divu2 = codes "$divu2"
name Divs2 = codes "$divs2"
name Remu2 = codes "$remu2"
name Rems2 = codes "$rems2"
name Divu4 = codes "$divu4"
name Divs4 = codes "$divs4"
name Remu4 = codes "$remu4"
name Rems4 = codes "$rems4"
name Shl2 = codes "$shl2"
name Shru2 = codes "$shru2"
name Shrs2 = codes "$shrs2"
name Shl4 = codes "$shl4"
name Shru4 = codes "$shru4"
name Shrs4 = codes "$shrs4"
