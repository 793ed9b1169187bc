-- What an instruction of a word touches, by its operand and by the map.
use Rattle.std.proofs.Common.{◌≡◌, ℕ, zero, suc, ◌+◌, ◌/◌, ◌%◌, ◌<◌, inl, inr, Bool, true, false, List, [], ◌∷◌, map, Option, Some, None, refl, sym, ap, ◌∙◌, arith}
use Rattle.std.specs.Prelude.{◌&&◌, ◌||◌, nat_eq, nat_lt, nat_le, if◌then◌else◌, slice_index_or}
use Rattle.pic_isa.specs.declared.Ins.{Ins}
use Rattle.pic_isa.specs.declared.Ins.TheVariants as isa
use Rattle.pic_isa.specs.Lookup.{row_of, no_row, dest_bit, control_row, clear_row, byte_rows, bit_rows, jump_rows, literal_rows, groups}
use Rattle.pic_chip.specs.Act.{Act, Do, Effect, Note, effect}
use Rattle.pic_chip.specs.Address.{Place, Pcl, Status, Fsr, Pclath, General, Device, Intcon, Pir1, Pie1, Nothing, operand, address_of}
use Rattle.pic_chip.specs.State.{State}
use Rattle.pic_map.specs.MapContent.{MapContent, ObjectLine, FrameLine, range_of}
use Rattle.chip_84a.specs.Lockstep.{place_of}
use Rattle.chip_84a.specs.Port.{file_operand}
use Rattle.chip_84a.proofs.Places.{leads_first}
use Rattle.ram_place.specs.Placement.{objects_have, frames_have}
use Rattle.sym_code.specs.Layout.{DataLayout, covers_any, covers_frame, is_covered}
use Rattle.sym_code.specs.Programs.{Program}
use Rattle.chip_trace.specs.Keeping.{file_in, IsNamed, IsTouched}
use Rattle.headline.specs.Keeps.{is_mapped, Touches}
use Rattle.headline_trace.specs.Carried.{frame_of}

-- ---- operands
-- the operand of a row, as both tables have it
file_same : (i : Ins) → file_in (Some i) ≡ file_operand (Some i)
file_same (isa.Addwf f d) = refl
file_same (isa.Andwf f d) = refl
file_same (isa.Clrf f) = refl
file_same isa.Clrw = refl
file_same (isa.Comf f d) = refl
file_same (isa.Decf f d) = refl
file_same (isa.Decfsz f d) = refl
file_same (isa.Incf f d) = refl
file_same (isa.Incfsz f d) = refl
file_same (isa.Iorwf f d) = refl
file_same (isa.Movf f d) = refl
file_same (isa.Movwf f) = refl
file_same isa.Nop = refl
file_same (isa.Rlf f d) = refl
file_same (isa.Rrf f d) = refl
file_same (isa.Subwf f d) = refl
file_same (isa.Swapf f d) = refl
file_same (isa.Xorwf f d) = refl
file_same (isa.Bcf f b) = refl
file_same (isa.Bsf f b) = refl
file_same (isa.Btfsc f b) = refl
file_same (isa.Btfss f b) = refl
file_same (isa.Addlw k) = refl
file_same (isa.Andlw k) = refl
file_same (isa.Call k) = refl
file_same isa.Clrwdt = refl
file_same (isa.Goto k) = refl
file_same (isa.Iorlw k) = refl
file_same (isa.Movlw k) = refl
file_same isa.Retfie = refl
file_same (isa.Retlw k) = refl
file_same isa.Return = refl
file_same isa.Sleep = refl
file_same (isa.Sublw k) = refl
file_same (isa.Xorlw k) = refl

pub file_at : (o : Option Ins) (i : Ins) (f : ℕ) → o ≡ Some i → file_operand (Some i) ≡ Some f → file_in o ≡ Some f
file_at o i f row file = ap file_in row ∙ file_same i ∙ file

-- an operand has seven bits
module _ (w : ℕ) where
  abbrev IsSmall : Option Ins → Type 0
  IsSmall o = (f : ℕ) → file_operand o ≡ Some f → f < 128

  AllSmall : List (ℕ → Option Ins) → Type 0
  AllSmall [] = Unit {0}
  AllSmall (row ∷ rows) = IsSmall (row w) × AllSmall rows

  seven : IsSmall (Some (isa.Movwf (w % 128)))
  seven f e = let same : w % 128 ≡ f = cc in omega (arith, same)

  none : (o : Option Ins) → file_operand o ≡ None → IsSmall o
  none o n f e = absurd (cc)

  in_all : (rows : List (ℕ → Option Ins)) (k : ℕ) → AllSmall rows → IsSmall (slice_index_or rows k no_row w)
  unfolding AllSmall
  in_all [] k all = none None refl
  in_all (row ∷ rows) zero all = all.0
  in_all (row ∷ rows) (suc k) all = in_all rows k all.1

  control : IsSmall (control_row w)
  control = by (nat_lt 127 w) (nat_eq w 0x08) (nat_eq w 0x09) (nat_eq w 0x63) (nat_eq w 0x64) (nat_eq (w % 32) 0) where
    by : (a b c d e g : Bool) → IsSmall (if a then Some (isa.Movwf (w % 128)) else if b then Some isa.Return else if c then Some isa.Retfie else if d then Some isa.Sleep else if e then Some isa.Clrwdt else if g then Some isa.Nop else None)
    by true b c d e g = seven
    by false true c d e g = none (Some isa.Return) refl
    by false false true d e g = none (Some isa.Retfie) refl
    by false false false true e g = none (Some isa.Sleep) refl
    by false false false false true g = none (Some isa.Clrwdt) refl
    by false false false false false true = none (Some isa.Nop) refl
    by false false false false false false = none None refl

  cleared : IsSmall (clear_row w)
  cleared = by (dest_bit w) where
    by : (b : Bool) → IsSmall (if b then Some (isa.Clrf (w % 128)) else Some isa.Clrw)
    by true = seven
    by false = none (Some isa.Clrw) refl

  bytes_small : AllSmall byte_rows
  unfolding AllSmall
  bytes_small = (control, (cleared, (seven, (seven, (seven, (seven, (seven, (seven, (seven, (seven, (seven, (seven, (seven, (seven, (seven, (seven, tt))))))))))))))))

  bits_small : AllSmall bit_rows
  unfolding AllSmall
  bits_small = (seven, (seven, (seven, (seven, tt))))

  jumps_small : AllSmall jump_rows
  unfolding AllSmall
  jumps_small = (none (Some (isa.Call (w % 2048))) refl, (none (Some (isa.Goto (w % 2048))) refl, tt))

  literals_small : AllSmall literal_rows
  unfolding AllSmall
  literals_small =
      let b = w % 256 in
      let move = none (Some (isa.Movlw b)) refl in
      let leave = none (Some (isa.Retlw b)) refl in
      let takes = none (Some (isa.Sublw b)) refl in
      let adds = none (Some (isa.Addlw b)) refl in
      (move, (move, (move, (move, (leave, (leave, (leave, (leave, (none (Some (isa.Iorlw b)) refl, (none (Some (isa.Andlw b)) refl, (none (Some (isa.Xorlw b)) refl, (none None refl, (takes, (takes, (adds, (adds, tt))))))))))))))))

  groups_small : AllSmall groups
  unfolding AllSmall
  groups_small = (in_all byte_rows (w / 256) bytes_small, (in_all bit_rows (w / 1024 % 4) bits_small, (in_all jump_rows (w / 2048 % 2) jumps_small, (in_all literal_rows (w / 256 % 16) literals_small, tt))))

  pub operand_small : (i : Ins) (f : ℕ) → row_of w ≡ Some i → file_operand (Some i) ≡ Some f → f < 128
  operand_small i f row file = in_all groups (w / 4096) groups_small f (ap file_operand row ∙ file)

-- ---- places
-- a place as what an instruction may note, and back
abbrev mark : ℕ → Note
mark n = record { write = false; address = n; value = record { from = []; by = λ values. 0 } }

abbrev marks : ℕ → ℕ → List Note
marks tag number = mark tag ∷ mark number ∷ []

abbrev told : Place → List Note
told Pcl = marks 0 0
told Status = marks 1 0
told Fsr = marks 2 0
told Pclath = marks 3 0
told Intcon = marks 4 0
told Pir1 = marks 5 0
told Pie1 = marks 6 0
told (General k) = marks 7 k
told (Device a) = marks 8 a
told Nothing = marks 9 0

abbrev place_by : ℕ → ℕ → Place
place_by tag number =
    if nat_eq tag 0 then Pcl else
    if nat_eq tag 1 then Status else
    if nat_eq tag 2 then Fsr else
    if nat_eq tag 3 then Pclath else
    if nat_eq tag 4 then Intcon else
    if nat_eq tag 5 then Pir1 else
    if nat_eq tag 6 then Pie1 else
    if nat_eq tag 7 then General number else
    if nat_eq tag 8 then Device number else Nothing

abbrev heard : List Note → Place
heard [] = Nothing
heard (tag ∷ []) = Nothing
heard (tag ∷ number ∷ rest) = place_by tag.address number.address

heard_told : (p : Place) → heard (told p) ≡ p
heard_told Pcl = refl
heard_told Status = refl
heard_told Fsr = refl
heard_told Pclath = refl
heard_told Intcon = refl
heard_told Pir1 = refl
heard_told Pie1 = refl
heard_told (General k) = refl
heard_told (Device a) = refl
heard_told Nothing = refl

abbrev telling : Place → Act
telling p = Do (record { writes = []; notes = told p })

-- an operand leads to one place alone
pub place_is : (s : State) (f : ℕ) (p : Place) → ((next : Place → Act) → effect (operand f next) s ≡ effect (next p) s) → p ≡ place_of s f
place_is s f p leads = sym (heard_told p) ∙ ap (λ (e : Effect). heard e.notes) (sym (leads telling) ∙ leads_first s f telling) ∙ heard_told (place_of s f)

-- ---- the map
covered_objects : (lines : List ObjectLine) (a : ℕ) → covers_any (map range_of lines) a ≡ objects_have lines a
covered_objects [] a = refl
covered_objects (line ∷ lines) a = ap (λ b. (nat_le line.address a && nat_lt a (line.address + line.size)) || b) (covered_objects lines a)

covered_frames : (lines : List FrameLine) (a : ℕ) → covers_frame (map frame_of lines) a ≡ frames_have lines a
covered_frames [] a = refl
covered_frames (line ∷ lines) a = ap (λ b. (nat_le line.address a && nat_lt a (line.address + line.size)) || b) (covered_frames lines a)

module _ (content : MapContent) (l : DataLayout) (objects : map range_of content.objects ≡ l.objects) (frames : map frame_of content.frames ≡ l.frames) where
  covered_is : (a : ℕ) → is_covered l a ≡ is_mapped content a
  unfolding is_covered
  covered_is a =
      ap (λ rs. covers_any rs a || covers_frame l.frames a) (sym objects) ∙ ap (λ fs. covers_any (map range_of content.objects) a || covers_frame fs a) (sym frames)
      ∙ ap (λ b. b || covers_frame (map frame_of content.frames) a) (covered_objects content.objects a) ∙ ap (λ b. objects_have content.objects a || b) (covered_frames content.frames a)

  pub touches_of : (q : Program) → q.layout ≡ l → (named : ℕ → Bool) → ((a : ℕ) → IsNamed q a → named a ≡ true) → (direct : Bool) (p : Place) → IsTouched q direct p → Touches content named direct p
  touches_of q is named has direct Pcl t = tt
  touches_of q is named has direct Status t = tt
  touches_of q is named has direct Fsr t = tt
  touches_of q is named has direct Pclath t = tt
  touches_of q is named has direct Intcon t = has 0x0b t
  touches_of q is named has direct Pir1 t = has 0x0c t
  touches_of q is named has direct Pie1 t = has 0x8c t
  touches_of q is named has direct (Device a) t = has a t
  touches_of q is named has direct (General k) (inl c) = inl (sym (covered_is (address_of k)) ∙ ap (λ z. is_covered z (address_of k)) (sym is) ∙ c)
  touches_of q is named has direct (General k) (inr x) = inr x
  touches_of q is named has direct Nothing t = absurd t
