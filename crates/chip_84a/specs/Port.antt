-- Images of the first chip for the second one. The sixteen bytes that the first chip has in every bank, 70h to 7Fh, are 0Ch to 1Bh there, so
-- a row with such an operand gets the one that is 64h less.
use Rattle.std.specs.Prelude.{ℕ, ◌-◌, ◌≡◌, ◌<◌, Bool, false, nat_le, if◌then◌else◌, List, map, Option, Some, None, slice_index}
use Rattle.pic_isa.specs.declared.Ins.{Ins}
use Rattle.pic_isa.specs.declared.Ins.TheVariants.{Addwf, Andwf, Clrf, Comf, Decf, Decfsz, Incf, Incfsz, Iorwf, Movf, Movwf, Rlf, Rrf, Subwf, Swapf, Xorwf, Bcf, Bsf, Btfsc, Btfss}
use Rattle.pic_isa.specs.Lookup.{row_of}

-- a row's operand
abbrev pub low : ℕ → ℕ
low f = if nat_le 0x70 f then f - 0x64 else f

-- g is what an operand becomes
abbrev pub ported_by : (ℕ → ℕ) → Ins → Ins
ported_by g (Addwf f d) = Addwf (g f) d
ported_by g (Andwf f d) = Andwf (g f) d
ported_by g (Clrf f) = Clrf (g f)
ported_by g (Comf f d) = Comf (g f) d
ported_by g (Decf f d) = Decf (g f) d
ported_by g (Decfsz f d) = Decfsz (g f) d
ported_by g (Incf f d) = Incf (g f) d
ported_by g (Incfsz f d) = Incfsz (g f) d
ported_by g (Iorwf f d) = Iorwf (g f) d
ported_by g (Movf f d) = Movf (g f) d
ported_by g (Movwf f) = Movwf (g f)
ported_by g (Rlf f d) = Rlf (g f) d
ported_by g (Rrf f d) = Rrf (g f) d
ported_by g (Subwf f d) = Subwf (g f) d
ported_by g (Swapf f d) = Swapf (g f) d
ported_by g (Xorwf f d) = Xorwf (g f) d
ported_by g (Bcf f b) = Bcf (g f) b
ported_by g (Bsf f b) = Bsf (g f) b
ported_by g (Btfsc f b) = Btfsc (g f) b
ported_by g (Btfss f b) = Btfss (g f) b
ported_by g i = i

abbrev pub ported : Ins → Ins
ported = ported_by low

abbrev pub ported_row_by : (ℕ → ℕ) → Option Ins → Option Ins
ported_row_by g None = None
ported_row_by g (Some i) = Some (ported_by g i)

abbrev pub ported_row : Option Ins → Option Ins
ported_row = ported_row_by low

-- at each address the second image has the row of the first one, ported
abbrev pub IsPorted : List ℕ → List ℕ → Type 0
IsPorted image image' = (at : ℕ) → at < 8192 → row_of (slice_index image' at) ≡ ported_row (row_of (slice_index image at))

-- ---- on words
-- the operand of a row that has a file register
abbrev pub file_operand : Option Ins → Option ℕ
file_operand None = None
file_operand (Some (Addwf f d)) = Some f
file_operand (Some (Andwf f d)) = Some f
file_operand (Some (Clrf f)) = Some f
file_operand (Some (Comf f d)) = Some f
file_operand (Some (Decf f d)) = Some f
file_operand (Some (Decfsz f d)) = Some f
file_operand (Some (Incf f d)) = Some f
file_operand (Some (Incfsz f d)) = Some f
file_operand (Some (Iorwf f d)) = Some f
file_operand (Some (Movf f d)) = Some f
file_operand (Some (Movwf f)) = Some f
file_operand (Some (Rlf f d)) = Some f
file_operand (Some (Rrf f d)) = Some f
file_operand (Some (Subwf f d)) = Some f
file_operand (Some (Swapf f d)) = Some f
file_operand (Some (Xorwf f d)) = Some f
file_operand (Some (Bcf f b)) = Some f
file_operand (Some (Bsf f b)) = Some f
file_operand (Some (Btfsc f b)) = Some f
file_operand (Some (Btfss f b)) = Some f
file_operand (Some i) = None

-- the row's operand is from 70h to 7Fh
abbrev pub is_above : Option ℕ → Bool
is_above None = false
is_above (Some f) = nat_le 0x70 f

abbrev pub is_high : Option Ins → Bool
is_high o = is_above (file_operand o)

abbrev pub port_word : ℕ → ℕ
port_word w = if is_high (row_of w) then w - 0x64 else w

-- so that words of an image give the rows of the other one
abbrev pub ImagesPort : Type 0
ImagesPort = (image : List ℕ) → IsPorted image (map port_word image)
