-- The table's rows are found by looking their words up.
use Rattle.std.proofs.Common.{◌≡◌, ℕ, ◌+◌, ◌-◌, ◌*◌, ◌/◌, ◌%◌, ◌<◌, ◌≤◌, Bool, true, false, Some, refl, sym, ap, ◌∙◌, subst, ⊎_elim, arith, slice_index_or}
use Rattle.std.proofs.lemmas.Bool.{cases_lt, lt-ltb}
use Rattle.pic_isa.specs.declared.Ins.{Ins}
use Rattle.pic_isa.specs.declared.Ins.TheVariants.{Addwf, Andwf, Clrf, Clrw, Comf, Decf, Decfsz, Incf, Incfsz, Iorwf, Movf, Movwf, Nop, Rlf, Rrf, Subwf, Swapf, Xorwf, Bcf, Bsf, Btfsc, Btfss, Addlw, Andlw, Call, Clrwdt, Goto, Iorlw, Movlw, Retfie, Retlw, Return, Sleep, Sublw, Xorlw}
use Rattle.pic_isa.specs.Table.{dest, word_of, IsWellFormed, HasWord}
use Rattle.pic_isa.specs.Lookup.{row_of, no_row, byte_rows, bit_rows, jump_rows, literal_rows, dest_bit}

pub of_byte : (w : ℕ) → w < 0x1000 → row_of w ≡ slice_index_or byte_rows (w / 256) no_row w
of_byte w h = let e : w / 4096 ≡ 0 = omega arith in rw e refl

pub of_bit : (w : ℕ) → 0x1000 ≤ w → w < 0x2000 → row_of w ≡ slice_index_or bit_rows (w / 1024 % 4) no_row w
of_bit w l h = let e : w / 4096 ≡ 1 = omega arith in rw e refl

pub of_jump : (w : ℕ) → 0x2000 ≤ w → w < 0x3000 → row_of w ≡ slice_index_or jump_rows (w / 2048 % 2) no_row w
of_jump w l h = let e : w / 4096 ≡ 2 = omega arith in rw e refl

pub of_literal : (w : ℕ) → 0x3000 ≤ w → w < 0x4000 → row_of w ≡ slice_index_or literal_rows (w / 256 % 16) no_row w
of_literal w l h = let e : w / 4096 ≡ 3 = omega arith in rw e refl

dest_bit_of : (n w f : ℕ) (d : Bool) → f < 128 → w ≡ 256 * n + dest d + f → dest_bit w ≡ d
dest_bit_of n w f true h e = let e : w / 128 % 2 ≡ 1 = omega arith in rw e refl
dest_bit_of n w f false h e = let e : w / 128 % 2 ≡ 0 = omega arith in rw e refl

dest_below : (d : Bool) → dest d ≤ 128
dest_below true = omega arith
dest_below false = omega arith

low_seven : (n w f : ℕ) (d : Bool) → f < 128 → w ≡ 256 * n + dest d + f → w % 128 ≡ f
low_seven n w f true h e = omega arith
low_seven n w f false h e = omega arith

-- the row of the byte-oriented group at n
byte_row : (make : ℕ → Bool → Ins) (n w f : ℕ) (d : Bool) → n < 16 → f < 128 → w ≡ 256 * n + dest d + f → slice_index_or byte_rows n no_row w ≡ Some (make (w % 128) (dest_bit w)) → row_of w ≡ Some (make f d)
byte_row make n w f d b h e t =
    let d' = dest_below d in
    let q : w / 256 ≡ n = omega arith in
    let m : slice_index_or byte_rows n no_row w ≡ Some (make f d) = t ∙ ap Some (rw (low_seven n w f d h e, dest_bit_of n w f d h e) refl) in
    of_byte w (omega arith) ∙ ap (λ k. slice_index_or byte_rows k no_row w) q ∙ m

-- the row of the bit-oriented group at n
bit_row : (make : ℕ → ℕ → Ins) (n w f b : ℕ) → n < 4 → f < 128 → b < 8 → w ≡ 0x1000 + 1024 * n + 128 * b + f → slice_index_or bit_rows n no_row w ≡ Some (make (w % 128) (w / 128 % 8)) → row_of w ≡ Some (make f b)
bit_row make n w f b l h h2 e t =
    let q : w / 1024 % 4 ≡ n = omega arith in
    let low : w % 128 ≡ f = omega arith in
    let bit : w / 128 % 8 ≡ b = omega arith in
    of_bit w (omega arith) (omega arith) ∙ ap (λ k. slice_index_or bit_rows k no_row w) q ∙ t ∙ ap Some (rw (low, bit) refl)

-- the row of the jumps at n
jump_row : (make : ℕ → Ins) (n w k : ℕ) → n < 2 → k < 2048 → w ≡ 0x2000 + 2048 * n + k → slice_index_or jump_rows n no_row w ≡ Some (make (w % 2048)) → row_of w ≡ Some (make k)
jump_row make n w k l h e t =
    let q : w / 2048 % 2 ≡ n = omega arith in
    let low : w % 2048 ≡ k = omega arith in
    of_jump w (omega arith) (omega arith) ∙ ap (λ k. slice_index_or jump_rows k no_row w) q ∙ t ∙ ap Some (rw low refl)

-- the row of the literals at n
literal_row : (make : ℕ → Ins) (n w k : ℕ) → n < 16 → k < 256 → w ≡ 0x3000 + 256 * n + k → slice_index_or literal_rows n no_row w ≡ Some (make (w % 256)) → row_of w ≡ Some (make k)
literal_row make n w k l h e t =
    let q : w / 256 % 16 ≡ n = omega arith in
    let low : w % 256 ≡ k = omega arith in
    of_literal w (omega arith) (omega arith) ∙ ap (λ k. slice_index_or literal_rows k no_row w) q ∙ t ∙ ap Some (rw low refl)

-- a literal row with two free bits
wide_row : (make : ℕ → Ins) (n w k : ℕ) → n < 13 → k < 256 → 0x3000 + 256 * n + k ≤ w → (w - (0x3000 + 256 * n + k)) % 256 ≡ 0 → w - (0x3000 + 256 * n + k) < 1024 → ((j : ℕ) → j < 4 → slice_index_or literal_rows (n + j) no_row w ≡ Some (make (w % 256))) → row_of w ≡ Some (make k)
wide_row make n w k l h low free high t =
    let j : ℕ = (w - (0x3000 + 256 * n + k)) / 256 in
    let below : j < 4 = omega arith in
    let e : w ≡ 0x3000 + 256 * (n + j) + k = omega arith in
    literal_row make (n + j) w k (omega arith) h e (t j below)

below_four : (P : ℕ → Type 0) → P 0 → P 1 → P 2 → P 3 → (j : ℕ) → j < 4 → P j
below_four P a b c d j h =
    ⊎_elim
    (λ l. ⊎_elim (λ k. let e : j ≡ 0 = omega arith in subst P (sym e) a) (λ k. let e : j ≡ 1 = omega arith in subst P (sym e) b) (cases_lt j 1))
    (λ l. ⊎_elim (λ k. let e : j ≡ 2 = omega arith in subst P (sym e) c) (λ k. let e : j ≡ 3 = omega arith in subst P (sym e) d) (cases_lt j 3))
    (cases_lt j 2)

-- looking up a word of a row finds the row
pub finds : (i : Ins) (w : ℕ) → IsWellFormed i → HasWord i w → row_of w ≡ Some i
finds (Addwf f d) w wf h = byte_row Addwf 7 w f d (omega arith) wf (omega arith) refl
finds (Andwf f d) w wf h = byte_row Andwf 5 w f d (omega arith) wf (omega arith) refl
finds (Clrf f) w wf h =
    let q : w / 256 ≡ 1 = omega arith in
    let p : w / 128 % 2 ≡ 1 = omega arith in
    let m : w % 128 ≡ f = omega arith in
    of_byte w (omega arith) ∙ rw (q, p, m) refl
finds Clrw w wf h = let q : w / 256 ≡ 1 = omega arith in let p : w / 128 % 2 ≡ 0 = omega arith in of_byte w (omega arith) ∙ rw (q, p) refl
finds (Comf f d) w wf h = byte_row Comf 9 w f d (omega arith) wf (omega arith) refl
finds (Decf f d) w wf h = byte_row Decf 3 w f d (omega arith) wf (omega arith) refl
finds (Decfsz f d) w wf h = byte_row Decfsz 11 w f d (omega arith) wf (omega arith) refl
finds (Incf f d) w wf h = byte_row Incf 10 w f d (omega arith) wf (omega arith) refl
finds (Incfsz f d) w wf h = byte_row Incfsz 15 w f d (omega arith) wf (omega arith) refl
finds (Iorwf f d) w wf h = byte_row Iorwf 4 w f d (omega arith) wf (omega arith) refl
finds (Movf f d) w wf h = byte_row Movf 8 w f d (omega arith) wf (omega arith) refl
finds (Movwf f) w wf h =
    let q : w / 256 ≡ 0 = omega arith in let m : w % 128 ≡ f = omega arith in of_byte w (omega arith) ∙ rw (q, lt-ltb 127 w (omega arith), m) refl
finds Nop w wf h =
    ⊎_elim
    (λ l. ⊎_elim (λ k. let e : w ≡ 0 = omega arith in rw e refl) (λ k. let e : w ≡ 32 = omega arith in rw e refl) (cases_lt w 32))
    (λ l. ⊎_elim (λ k. let e : w ≡ 64 = omega arith in rw e refl) (λ k. let e : w ≡ 96 = omega arith in rw e refl) (cases_lt w 96))
    (cases_lt w 64)
finds (Rlf f d) w wf h = byte_row Rlf 13 w f d (omega arith) wf (omega arith) refl
finds (Rrf f d) w wf h = byte_row Rrf 12 w f d (omega arith) wf (omega arith) refl
finds (Subwf f d) w wf h = byte_row Subwf 2 w f d (omega arith) wf (omega arith) refl
finds (Swapf f d) w wf h = byte_row Swapf 14 w f d (omega arith) wf (omega arith) refl
finds (Xorwf f d) w wf h = byte_row Xorwf 6 w f d (omega arith) wf (omega arith) refl
finds (Bcf f b) w wf h = bit_row Bcf 0 w f b (omega arith) wf.0 wf.1 (omega arith) refl
finds (Bsf f b) w wf h = bit_row Bsf 1 w f b (omega arith) wf.0 wf.1 (omega arith) refl
finds (Btfsc f b) w wf h = bit_row Btfsc 2 w f b (omega arith) wf.0 wf.1 (omega arith) refl
finds (Btfss f b) w wf h = bit_row Btfss 3 w f b (omega arith) wf.0 wf.1 (omega arith) refl
finds (Addlw k) w wf h =
    ⊎_elim
    (λ l. literal_row Addlw 14 w k (omega arith) wf (omega arith) refl)
    (λ l. literal_row Addlw 15 w k (omega arith) wf (omega arith) refl)
    (cases_lt w 0x3f00)
finds (Andlw k) w wf h = literal_row Andlw 9 w k (omega arith) wf (omega arith) refl
finds (Call k) w wf h = jump_row Call 0 w k (omega arith) wf (omega arith) refl
finds Clrwdt w wf h = let e : w ≡ 0x64 = omega arith in rw e refl
finds (Goto k) w wf h = jump_row Goto 1 w k (omega arith) wf (omega arith) refl
finds (Iorlw k) w wf h = literal_row Iorlw 8 w k (omega arith) wf (omega arith) refl
finds (Movlw k) w wf h =
    wide_row Movlw 0 w k (omega arith) wf (omega arith) (omega arith) (omega arith) (below_four (λ j. slice_index_or literal_rows (0 + j) no_row w ≡ Some (Movlw (w % 256))) refl refl refl refl)
finds Retfie w wf h = let e : w ≡ 9 = omega arith in rw e refl
finds (Retlw k) w wf h =
    wide_row Retlw 4 w k (omega arith) wf (omega arith) (omega arith) (omega arith) (below_four (λ j. slice_index_or literal_rows (4 + j) no_row w ≡ Some (Retlw (w % 256))) refl refl refl refl)
finds Return w wf h = let e : w ≡ 8 = omega arith in rw e refl
finds Sleep w wf h = let e : w ≡ 0x63 = omega arith in rw e refl
finds (Sublw k) w wf h =
    ⊎_elim
    (λ l. literal_row Sublw 12 w k (omega arith) wf (omega arith) refl)
    (λ l. literal_row Sublw 13 w k (omega arith) wf (omega arith) refl)
    (cases_lt w 0x3d00)
finds (Xorlw k) w wf h = literal_row Xorlw 10 w k (omega arith) wf (omega arith) refl

-- a row has its own word, with every free bit 0
pub has_own : (i : Ins) → HasWord i (word_of i)
has_own (Addwf f d) = (omega arith, omega arith)
has_own (Andwf f d) = (omega arith, omega arith)
has_own (Clrf f) = (omega arith, omega arith)
has_own Clrw = (omega arith, omega arith)
has_own (Comf f d) = (omega arith, omega arith)
has_own (Decf f d) = (omega arith, omega arith)
has_own (Decfsz f d) = (omega arith, omega arith)
has_own (Incf f d) = (omega arith, omega arith)
has_own (Incfsz f d) = (omega arith, omega arith)
has_own (Iorwf f d) = (omega arith, omega arith)
has_own (Movf f d) = (omega arith, omega arith)
has_own (Movwf f) = (omega arith, omega arith)
has_own Nop = (omega arith, (omega arith, omega arith))
has_own (Rlf f d) = (omega arith, omega arith)
has_own (Rrf f d) = (omega arith, omega arith)
has_own (Subwf f d) = (omega arith, omega arith)
has_own (Swapf f d) = (omega arith, omega arith)
has_own (Xorwf f d) = (omega arith, omega arith)
has_own (Bcf f b) = (omega arith, omega arith)
has_own (Bsf f b) = (omega arith, omega arith)
has_own (Btfsc f b) = (omega arith, omega arith)
has_own (Btfss f b) = (omega arith, omega arith)
has_own (Addlw k) = (omega arith, (omega arith, omega arith))
has_own (Andlw k) = (omega arith, omega arith)
has_own (Call k) = (omega arith, omega arith)
has_own Clrwdt = (omega arith, omega arith)
has_own (Goto k) = (omega arith, omega arith)
has_own (Iorlw k) = (omega arith, omega arith)
has_own (Movlw k) = (omega arith, (omega arith, omega arith))
has_own Retfie = (omega arith, omega arith)
has_own (Retlw k) = (omega arith, (omega arith, omega arith))
has_own Return = (omega arith, omega arith)
has_own Sleep = (omega arith, omega arith)
has_own (Sublw k) = (omega arith, (omega arith, omega arith))
has_own (Xorlw k) = (omega arith, omega arith)

-- looking up a row's own word finds the row
pub of_word : (i : Ins) → IsWellFormed i → row_of (word_of i) ≡ Some i
of_word i wf = finds i (word_of i) wf (has_own i)
