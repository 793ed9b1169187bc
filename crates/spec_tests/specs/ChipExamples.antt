-- Worked examples: the values on the right were worked out by hand.
use Rattle.std.specs.Prelude.{ℕ, ◌+◌, ◌*◌, ◌≡◌, true, false, Some, None, List, [], ◌∷◌, ◌++◌, replicate, codes}
use Rattle.pic_isa.specs.declared.Ins.{Ins}
use Rattle.pic_isa.specs.declared.Ins.TheVariants.{Addwf, Clrf, Decfsz, Movf, Movwf, Rlf, Subwf, Bsf, Addlw, Call, Goto, Movlw, Retfie, Return, Sleep}
use Rattle.pic_isa.specs.Lookup.{row_of}
use Rattle.pic_chip.specs.State.{State, reset}
use Rattle.pic_chip.specs.Act.{perform, accesses}
use Rattle.pic_chip.specs.Address.{Device, Nothing, place, byte_at}
use Rattle.pic_chip.specs.Instructions.{row}
use Rattle.pic_chip.specs.Interrupts.{begun}
use Rattle.text_lines.specs.Text.{lines_of}
use Rattle.hex_image.specs.HexFile.{given_by, byte_at as given_at}

-- power-on with W 90h, FSR A0h, no flag, and every general byte 0
abbrev pub fresh : State
fresh = reset (record { w = 0x90; fsr = 0xa0; flags = 0; ram = replicate 368 0 })

-- the state after an instruction, without inputs
abbrev pub after : Ins → State → State
after i s = perform (row [] s.pc i) s

-- a byte put at 20h
abbrev pub holding : ℕ → State → State
holding v s = after (Movwf 0x20) (record s { w = v })

-- W, C, DC, Z
abbrev pub flags : State → List ℕ
flags s = s.w ∷ s.c ∷ s.dc ∷ s.z ∷ []

-- CALL to the next address, from this one on, so many times
abbrev pub nine_calls : State → State
nine_calls s = after (Call 9) (after (Call 8) (after (Call 7) (after (Call 6) (after (Call 5) (after (Call 4) (after (Call 3) (after (Call 2) (after (Call 1) s))))))))

abbrev pub eight_returns : State → State
eight_returns s = after Return (after Return (after Return (after Return (after Return (after Return (after Return (after Return s)))))))

-- GIE and INTE are set
abbrev pub enabled : State
enabled = record fresh { intcon = 0x90; pc = 0x123 }

-- GIE, PEIE and TMR1IE are set
abbrev pub timed : State
timed = record fresh { intcon = 0xc0; pie1 = 0x01; pc = 0x123 }

abbrev pub hex_example : List ℕ
hex_example = codes ":020000040000FA" ++ 10 ∷ codes ":020000000528D1" ++ 13 ∷ 10 ∷ 10 ∷ codes ":00000001FF"

pub record WorkedExamples : Type 0 where
  -- 90h + 98h = 128h: a carry, and no digit carry
  pub sum_carries : flags (after (Addlw 0x98) fresh) ≡ 0x28 ∷ 1 ∷ 0 ∷ 0 ∷ []
  -- 71h + 8Fh = 100h: both carries, and zero
  pub sum_is_zero : flags (after (Addwf 0x20 false) (record (holding 0x71 fresh) { w = 0x8f })) ≡ 0x00 ∷ 1 ∷ 1 ∷ 1 ∷ []
  -- 10h - 20h = F0h: a borrow, and no digit borrow
  pub difference_borrows : flags (after (Subwf 0x20 false) (record (holding 0x10 fresh) { w = 0x20 })) ≡ 0xf0 ∷ 0 ∷ 1 ∷ 0 ∷ []
  -- 1 counts down to 0: the next instruction is skipped
  pub countdown_skips : (after (Decfsz 0x20 true) (holding 1 fresh)).pc ≡ 3
  pub countdown_stores : byte_at (after (Decfsz 0x20 true) (holding 1 fresh)) 0x20 ≡ 0
  -- 81h rotates through a clear carry
  pub rotates : flags (after (Rlf 0x20 false) (holding 0x81 fresh)) ≡ 0x02 ∷ 1 ∷ 0 ∷ 0 ∷ []
  -- CLRF STATUS clears the upper bits and sets Z; DC and C stay
  pub clears_status : (after (Clrf 3) (record fresh { bank = 7; c = 1 })).bank ≡ 0
  pub clears_status_flags : flags (after (Clrf 3) (record fresh { bank = 7; c = 1 })) ≡ 0x90 ∷ 1 ∷ 0 ∷ 1 ∷ []
  -- with RP0 set, 06h is TRISB
  pub selects_a_bank : accesses (row [] 1 (Movwf 6)) (after (Bsf 3 5) fresh) ≡ record { write = true; address = 0x86; byte = 0x90 } ∷ []
  -- 106h is PORTB too
  pub mirrors_port_b : place 2 6 ≡ Device 6
  -- INDF is the byte that FSR names, A0h in bank 1
  pub indirect_write : byte_at (after (Movwf 0) fresh) 0xa0 ≡ 0x90
  -- a write of PCL takes the upper bits from PCLATH
  pub computed_jump : (after (Movwf 2) (record fresh { w = 0x40; pclath = 3 })).pc ≡ 0x340
  -- a read of PCL gives the following address
  pub reads_place : (after (Movf 2 false) (record fresh { pc = 0xff })).w ≡ 0
  -- the ninth push overwrote the first word, so the ninth return comes to the word of the first
  pub eight_deep : (eight_returns (nine_calls fresh)).pc ≡ 2
  pub nine_deep : (after Return (eight_returns (nine_calls fresh))).pc ≡ 9
  -- an interrupt is taken at a boundary, and RETFIE leads back
  pub enters : (begun 2 enabled).pc ∷ (begun 2 enabled).intcon ∷ (begun 2 enabled).pushes ∷ [] ≡ 0x004 ∷ 0x12 ∷ 1 ∷ []
  pub not_enabled : begun 1 enabled ≡ record enabled { intcon = 0x91 }
  pub returns_from : (after Retfie (begun 2 enabled)).pc ∷ (after Retfie (begun 2 enabled)).intcon ∷ [] ≡ 0x123 ∷ 0x92 ∷ []
  -- timer 1 comes through PEIE and its enable bit, and its flag is one of PIR1
  pub timer_enters : (begun 8 timed).pc ∷ (begun 8 timed).intcon ∷ (begun 8 timed).pir1 ∷ [] ≡ 0x004 ∷ 0x40 ∷ 0x01 ∷ []
  pub timer_waits : begun 8 (record timed { intcon = 0x80 }) ≡ record timed { intcon = 0x80; pir1 = 0x01 }
  pub other_timer_waits : begun 16 timed ≡ record timed { pir1 = 0x02 }
  -- PIR1 and PIE1 keep what is written, and take nothing of the input list
  pub keeps_pir1 : (perform (row (0x5a ∷ []) 0 (Movf 0x0c false)) (after (Movwf 0x0c) fresh)).w ≡ 0x90
  pub keeps_pie1 : (after (Movwf 0x0c) (record fresh { bank = 1 })).pie1 ≡ 0x90
  pub only_lower_banks : place 2 0x0c ≡ Nothing
  -- a device register is read from the input list: bytes as they come, then 0
  pub reads_input : (perform (row (0x5a ∷ []) 0 (Movf 6 false)) fresh).w ≡ 0x5a
  pub reads_past_input : (perform (row [] 0 (Movf 6 false)) fresh).w ≡ 0
  -- words and their rows
  pub jump_word : row_of 0x2805 ≡ Some (Goto 5)
  pub free_bits : row_of 0x33ff ≡ Some (Movlw 0xff)
  pub sleep_word : row_of 0x0063 ≡ Some Sleep
  pub no_row : row_of 0x0001 ≡ None
  -- a HEX file with a CR, an empty line and no last LF: two bytes, which are the word 2805h
  pub hex_bytes : given_by (lines_of hex_example) 0 ≡ Some ((0, 0x05) ∷ (1, 0x28) ∷ [])
  pub hex_word : given_at ((0, 0x05) ∷ (1, 0x28) ∷ []) 0 0xff + 256 * given_at ((0, 0x05) ∷ (1, 0x28) ∷ []) 1 0xff ≡ 0x2805
