-- A word whose row has an operand from 70h to 7Fh, less 64h, is that row's word with the operand of the second chip.
use Rattle.std.proofs.Common.{◌≡◌, ℕ, zero, suc, ◌-◌, ◌/◌, ◌%◌, ◌≤◌, Bool, true, false, List, [], ◌∷◌, map, Option, Some, None, refl, sym, ap, ◌∙◌, arith}
use Rattle.std.specs.Prelude.{if◌then◌else◌, nat_eq, nat_lt, nat_le, slice_index, slice_index_or}
use Rattle.std.proofs.lemmas.Bool.{leb-true, ltb-true, lt-ltb, le-leb}
use Rattle.pic_isa.specs.declared.Ins.{Ins}
use Rattle.pic_isa.specs.declared.Ins.TheVariants as isa
use Rattle.pic_isa.specs.Lookup.{no_row, dest_bit, with_dest, with_bit, with_literal, with_target, control_row, clear_row, byte_rows, bit_rows, jump_rows, literal_rows, groups, row_of}
use Rattle.chip_84a.specs.Port.{low, ported, ported_row, file_operand, is_above, is_high, port_word, IsPorted}

-- ---- rows that stay
low_stays : (f : ℕ) → nat_le 0x70 f ≡ false → low f ≡ f
low_stays f e = ap (λ b. if b then f - 0x64 else f) e

stays : (i : Ins) → is_high (Some i) ≡ false → ported i ≡ i
stays (isa.Addwf f d) h = ap (λ g. isa.Addwf g d) (low_stays f h)
stays (isa.Andwf f d) h = ap (λ g. isa.Andwf g d) (low_stays f h)
stays (isa.Comf f d) h = ap (λ g. isa.Comf g d) (low_stays f h)
stays (isa.Decf f d) h = ap (λ g. isa.Decf g d) (low_stays f h)
stays (isa.Decfsz f d) h = ap (λ g. isa.Decfsz g d) (low_stays f h)
stays (isa.Incf f d) h = ap (λ g. isa.Incf g d) (low_stays f h)
stays (isa.Incfsz f d) h = ap (λ g. isa.Incfsz g d) (low_stays f h)
stays (isa.Iorwf f d) h = ap (λ g. isa.Iorwf g d) (low_stays f h)
stays (isa.Movf f d) h = ap (λ g. isa.Movf g d) (low_stays f h)
stays (isa.Rlf f d) h = ap (λ g. isa.Rlf g d) (low_stays f h)
stays (isa.Rrf f d) h = ap (λ g. isa.Rrf g d) (low_stays f h)
stays (isa.Subwf f d) h = ap (λ g. isa.Subwf g d) (low_stays f h)
stays (isa.Swapf f d) h = ap (λ g. isa.Swapf g d) (low_stays f h)
stays (isa.Xorwf f d) h = ap (λ g. isa.Xorwf g d) (low_stays f h)
stays (isa.Bcf f d) h = ap (λ g. isa.Bcf g d) (low_stays f h)
stays (isa.Bsf f d) h = ap (λ g. isa.Bsf g d) (low_stays f h)
stays (isa.Btfsc f d) h = ap (λ g. isa.Btfsc g d) (low_stays f h)
stays (isa.Btfss f d) h = ap (λ g. isa.Btfss g d) (low_stays f h)
stays (isa.Clrf f) h = ap isa.Clrf (low_stays f h)
stays (isa.Movwf f) h = ap isa.Movwf (low_stays f h)
stays (isa.Addlw k) h = refl
stays (isa.Andlw k) h = refl
stays (isa.Call k) h = refl
stays (isa.Goto k) h = refl
stays (isa.Iorlw k) h = refl
stays (isa.Movlw k) h = refl
stays (isa.Retlw k) h = refl
stays (isa.Sublw k) h = refl
stays (isa.Xorlw k) h = refl
stays isa.Clrw h = refl
stays isa.Nop h = refl
stays isa.Clrwdt h = refl
stays isa.Retfie h = refl
stays isa.Return h = refl
stays isa.Sleep h = refl

stays_row : (o : Option Ins) → is_high o ≡ false → ported_row o ≡ o
stays_row None h = refl
stays_row (Some i) h = ap Some (stays i h)

-- ---- rows that change
-- both words have the same bits but for the operand's
pub record IsBelow (w v : ℕ) : Type 0 where
  pub high : 0x70 ≤ w % 128
  pub file : v % 128 ≡ w % 128 - 0x64
  pub rest : v / 128 ≡ w / 128

below : (w : ℕ) → 0x70 ≤ w % 128 → IsBelow w (w - 0x64)
below w h = record { high = h; file = omega (arith, h); rest = omega (arith, h) }

abbrev Good : (ℕ → Option Ins) → Type 0
Good g = (w v : ℕ) → IsBelow w v → is_high (g w) ≡ true → g v ≡ ported_row (g w)

low_high : (f : ℕ) → 0x70 ≤ f → low f ≡ f - 0x64
low_high f le = ap (λ b. if b then f - 0x64 else f) (le-leb 0x70 f le)

dest_same : (w v : ℕ) → IsBelow w v → dest_bit v ≡ dest_bit w
dest_same w v b = ap (λ q. nat_eq (q % 2) 1) b.rest

file_same : (w v : ℕ) → IsBelow w v → v % 128 ≡ low (w % 128)
file_same w v b = b.file ∙ sym (low_high (w % 128) b.high)

good_dest : (make : ℕ → Bool → Ins) → ((f : ℕ) (d : Bool) → ported (make f d) ≡ make (low f) d) → Good (with_dest make)
good_dest make e w v b h = ap (λ f. Some (make f (dest_bit v))) (file_same w v b) ∙ ap (λ d. Some (make (low (w % 128)) d)) (dest_same w v b) ∙ ap Some (sym (e (w % 128) (dest_bit w)))

good_bit : (make : ℕ → ℕ → Ins) → ((f b : ℕ) → ported (make f b) ≡ make (low f) b) → Good (with_bit make)
good_bit make e w v b h = ap (λ f. Some (make f (v / 128 % 8))) (file_same w v b) ∙ ap (λ q. Some (make (low (w % 128)) (q % 8))) b.rest ∙ ap Some (sym (e (w % 128) (w / 128 % 8)))

never : {A : Type 0} → false ≡ true → A
never e = absurd (cc)

good_none : (g : ℕ → Option Ins) → ((w : ℕ) → is_high (g w) ≡ false) → Good g
good_none g off w v b h = never (sym (off w) ∙ h)

good_clear : Good clear_row
good_clear w v b h = by (dest_bit w) (dest_bit v) (dest_same w v b) h where
  by : (d d' : Bool) → d' ≡ d → is_high (if d then Some (isa.Clrf (w % 128)) else Some isa.Clrw) ≡ true → (if d' then Some (isa.Clrf (v % 128)) else Some isa.Clrw) ≡ ported_row (if d then Some (isa.Clrf (w % 128)) else Some isa.Clrw)
  by true true e h' = ap (λ f. Some (isa.Clrf f)) (file_same w v b)
  by true false e h' = absurd (cc)
  by false d' e h' = absurd (cc)

good_control : Good control_row
good_control w v b h = by (nat_lt 127 w) refl h where
  others : (b1 b2 b3 b4 b5 : Bool) → is_high (if b1 then Some isa.Return else if b2 then Some isa.Retfie else if b3 then Some isa.Sleep else if b4 then Some isa.Clrwdt else if b5 then Some isa.Nop else None) ≡ false
  others true b2 b3 b4 b5 = refl
  others false true b3 b4 b5 = refl
  others false false true b4 b5 = refl
  others false false false true b5 = refl
  others false false false false true = refl
  others false false false false false = refl

  by : (c : Bool) → nat_lt 127 w ≡ c → is_high (if c then Some (isa.Movwf (w % 128)) else if nat_eq w 0x08 then Some isa.Return else if nat_eq w 0x09 then Some isa.Retfie else if nat_eq w 0x63 then Some isa.Sleep else if nat_eq w 0x64 then Some isa.Clrwdt else if nat_eq (w % 32) 0 then Some isa.Nop else None) ≡ true
      → (if nat_lt 127 v then Some (isa.Movwf (v % 128)) else if nat_eq v 0x08 then Some isa.Return else if nat_eq v 0x09 then Some isa.Retfie else if nat_eq v 0x63 then Some isa.Sleep else if nat_eq v 0x64 then Some isa.Clrwdt else if nat_eq (v % 32) 0 then Some isa.Nop else None)
      ≡ ported_row (if c then Some (isa.Movwf (w % 128)) else if nat_eq w 0x08 then Some isa.Return else if nat_eq w 0x09 then Some isa.Retfie else if nat_eq w 0x63 then Some isa.Sleep else if nat_eq w 0x64 then Some isa.Clrwdt else if nat_eq (w % 32) 0 then Some isa.Nop else None)
  by true e h' =
      let lt = ltb-true 127 w e in let r = b.rest in
      ap (λ c. if c then Some (isa.Movwf (v % 128)) else if nat_eq v 0x08 then Some isa.Return else if nat_eq v 0x09 then Some isa.Retfie else if nat_eq v 0x63 then Some isa.Sleep else if nat_eq v 0x64 then Some isa.Clrwdt else if nat_eq (v % 32) 0 then Some isa.Nop else None) (lt-ltb 127 v (omega (arith, lt, r)))
      ∙ ap (λ f. Some (isa.Movwf f)) (file_same w v b)
  by false e h' = never (sym (others (nat_eq w 0x08) (nat_eq w 0x09) (nat_eq w 0x63) (nat_eq w 0x64) (nat_eq (w % 32) 0)) ∙ h')

good_literal : (make : ℕ → Ins) → ((k : ℕ) → is_high (Some (make k)) ≡ false) → Good (with_literal make)
good_literal make e = good_none (with_literal make) (λ w. e (w % 256))

good_target : (make : ℕ → Ins) → ((k : ℕ) → is_high (Some (make k)) ≡ false) → Good (with_target make)
good_target make e = good_none (with_target make) (λ w. e (w % 2048))

good_empty : Good no_row
good_empty = good_none no_row (λ w. refl)

-- ---- lists of rows
abbrev AllGood : List (ℕ → Option Ins) → Type 0
AllGood [] = Unit {0}
AllGood (g ∷ gs) = Good g × AllGood gs

good_at : (gs : List (ℕ → Option Ins)) → AllGood gs → (n : ℕ) → Good (slice_index_or gs n no_row)
good_at [] h n = good_empty
good_at (g ∷ gs) h zero = h.0
good_at (g ∷ gs) h (suc n) = good_at gs h.1 n

-- the place in a list comes from the bits above the operand
good_table : (gs : List (ℕ → Option Ins)) → AllGood gs → (place : ℕ → ℕ) → ((w v : ℕ) → IsBelow w v → place v ≡ place w) → Good (λ w. slice_index_or gs (place w) no_row w)
good_table gs all place same w v b h = ap (λ n. slice_index_or gs n no_row v) (same w v b) ∙ good_at gs all (place w) w v b h

bytes_good : AllGood byte_rows
bytes_good = (
  good_control,
  (
    good_clear,
    (
      good_dest isa.Subwf (λ f d. refl),
      (
        good_dest isa.Decf (λ f d. refl),
        (
          good_dest isa.Iorwf (λ f d. refl),
          (
            good_dest isa.Andwf (λ f d. refl),
            (
              good_dest isa.Xorwf (λ f d. refl),
              (
                good_dest isa.Addwf (λ f d. refl),
                (good_dest isa.Movf (λ f d. refl), (good_dest isa.Comf (λ f d. refl), (good_dest isa.Incf (λ f d. refl), (good_dest isa.Decfsz (λ f d. refl), (good_dest isa.Rrf (λ f d. refl), (good_dest isa.Rlf (λ f d. refl), (good_dest isa.Swapf (λ f d. refl), (good_dest isa.Incfsz (λ f d. refl), tt)))))))),
              ),
            ),
          ),
        ),
      ),
    ),
  ),
)

bits_good : AllGood bit_rows
bits_good = (good_bit isa.Bcf (λ f b. refl), (good_bit isa.Bsf (λ f b. refl), (good_bit isa.Btfsc (λ f b. refl), (good_bit isa.Btfss (λ f b. refl), tt))))

jumps_good : AllGood jump_rows
jumps_good = (good_target isa.Call (λ k. refl), (good_target isa.Goto (λ k. refl), tt))

literals_good : AllGood literal_rows
literals_good = (
  good_literal isa.Movlw (λ k. refl),
  (
    good_literal isa.Movlw (λ k. refl),
    (
      good_literal isa.Movlw (λ k. refl),
      (
        good_literal isa.Movlw (λ k. refl),
        (
          good_literal isa.Retlw (λ k. refl),
          (
            good_literal isa.Retlw (λ k. refl),
            (
              good_literal isa.Retlw (λ k. refl),
              (
                good_literal isa.Retlw (λ k. refl),
                (good_literal isa.Iorlw (λ k. refl), (good_literal isa.Andlw (λ k. refl), (good_literal isa.Xorlw (λ k. refl), (good_empty, (good_literal isa.Sublw (λ k. refl), (good_literal isa.Sublw (λ k. refl), (good_literal isa.Addlw (λ k. refl), (good_literal isa.Addlw (λ k. refl), tt)))))))),
              ),
            ),
          ),
        ),
      ),
    ),
  ),
)

groups_good : AllGood groups
groups_good = (
  good_table byte_rows bytes_good (λ w. w / 256) (λ w v b. let r = b.rest in omega (arith, r)),
  (
    good_table bit_rows bits_good (λ w. w / 1024 % 4) (λ w v b. let r = b.rest in omega (arith, r)),
    (
      good_table jump_rows jumps_good (λ w. w / 2048 % 2) (λ w v b. let r = b.rest in omega (arith, r)),
      (good_table literal_rows literals_good (λ w. w / 256 % 16) (λ w v b. let r = b.rest in omega (arith, r)), tt),
    ),
  ),
)

rows_good : Good row_of
rows_good = good_table groups groups_good (λ w. w / 4096) (λ w v b. let r = b.rest in omega (arith, r))

-- ---- where the operand stands
abbrev HasLow : (ℕ → Option Ins) → Type 0
HasLow g = (w : ℕ) → is_high (g w) ≡ true → 0x70 ≤ w % 128

low_none : (g : ℕ → Option Ins) → ((w : ℕ) → is_high (g w) ≡ false) → HasLow g
low_none g off w h = never (sym (off w) ∙ h)

abbrev AllLow : List (ℕ → Option Ins) → Type 0
AllLow [] = Unit {0}
AllLow (g ∷ gs) = HasLow g × AllLow gs

low_at : (gs : List (ℕ → Option Ins)) → AllLow gs → (n : ℕ) → HasLow (slice_index_or gs n no_row)
low_at [] h n = low_none no_row (λ w. refl)
low_at (g ∷ gs) h zero = h.0
low_at (g ∷ gs) h (suc n) = low_at gs h.1 n

low_dest : (make : ℕ → Bool → Ins) → ((f : ℕ) (d : Bool) → file_operand (Some (make f d)) ≡ Some f) → HasLow (with_dest make)
low_dest make e w h = leb-true 0x70 (w % 128) (sym (ap is_above (e (w % 128) (dest_bit w))) ∙ h)

low_bit : (make : ℕ → ℕ → Ins) → ((f b : ℕ) → file_operand (Some (make f b)) ≡ Some f) → HasLow (with_bit make)
low_bit make e w h = leb-true 0x70 (w % 128) (sym (ap is_above (e (w % 128) (w / 128 % 8))) ∙ h)

low_clear : HasLow clear_row
low_clear w h = by (dest_bit w) h where
  by : (d : Bool) → is_high (if d then Some (isa.Clrf (w % 128)) else Some isa.Clrw) ≡ true → 0x70 ≤ w % 128
  by true h' = leb-true 0x70 (w % 128) h'
  by false h' = absurd (cc)

low_control : HasLow control_row
low_control w h = by (nat_lt 127 w) (nat_eq w 0x08) (nat_eq w 0x09) (nat_eq w 0x63) (nat_eq w 0x64) (nat_eq (w % 32) 0) h where
  by : (b1 b2 b3 b4 b5 b6 : Bool) → is_high (if b1 then Some (isa.Movwf (w % 128)) else if b2 then Some isa.Return else if b3 then Some isa.Retfie else if b4 then Some isa.Sleep else if b5 then Some isa.Clrwdt else if b6 then Some isa.Nop else None) ≡ true → 0x70 ≤ w % 128
  by true b2 b3 b4 b5 b6 h' = leb-true 0x70 (w % 128) h'
  by false true b3 b4 b5 b6 h' = absurd (cc)
  by false false true b4 b5 b6 h' = absurd (cc)
  by false false false true b5 b6 h' = absurd (cc)
  by false false false false true b6 h' = absurd (cc)
  by false false false false false true h' = absurd (cc)
  by false false false false false false h' = absurd (cc)

low_bytes : AllLow byte_rows
low_bytes = (
  low_control,
  (
    low_clear,
    (
      low_dest isa.Subwf (λ f d. refl),
      (
        low_dest isa.Decf (λ f d. refl),
        (
          low_dest isa.Iorwf (λ f d. refl),
          (
            low_dest isa.Andwf (λ f d. refl),
            (
              low_dest isa.Xorwf (λ f d. refl),
              (
                low_dest isa.Addwf (λ f d. refl),
                (low_dest isa.Movf (λ f d. refl), (low_dest isa.Comf (λ f d. refl), (low_dest isa.Incf (λ f d. refl), (low_dest isa.Decfsz (λ f d. refl), (low_dest isa.Rrf (λ f d. refl), (low_dest isa.Rlf (λ f d. refl), (low_dest isa.Swapf (λ f d. refl), (low_dest isa.Incfsz (λ f d. refl), tt)))))))),
              ),
            ),
          ),
        ),
      ),
    ),
  ),
)

low_bits : AllLow bit_rows
low_bits = (low_bit isa.Bcf (λ f b. refl), (low_bit isa.Bsf (λ f b. refl), (low_bit isa.Btfsc (λ f b. refl), (low_bit isa.Btfss (λ f b. refl), tt))))

low_plain : (make : ℕ → Ins) (part : ℕ → ℕ) → ((k : ℕ) → is_high (Some (make k)) ≡ false) → HasLow (λ w. Some (make (part w)))
low_plain make part e = low_none (λ w. Some (make (part w))) (λ w. e (part w))

low_groups : AllLow groups
low_groups =
    let k8 : ℕ → ℕ = λ w. w % 256 in
    let k11 : ℕ → ℕ = λ w. w % 2048 in
    let jumps : AllLow jump_rows = (low_plain isa.Call k11 (λ k. refl), (low_plain isa.Goto k11 (λ k. refl), tt)) in
    let literals : AllLow literal_rows = (
      low_plain isa.Movlw k8 (λ k. refl),
      (
        low_plain isa.Movlw k8 (λ k. refl),
        (
          low_plain isa.Movlw k8 (λ k. refl),
          (
            low_plain isa.Movlw k8 (λ k. refl),
            (
              low_plain isa.Retlw k8 (λ k. refl),
              (
                low_plain isa.Retlw k8 (λ k. refl),
                (
                  low_plain isa.Retlw k8 (λ k. refl),
                  (
                    low_plain isa.Retlw k8 (λ k. refl),
                    (low_plain isa.Iorlw k8 (λ k. refl), (low_plain isa.Andlw k8 (λ k. refl), (low_plain isa.Xorlw k8 (λ k. refl), (low_none no_row (λ w. refl), (low_plain isa.Sublw k8 (λ k. refl), (low_plain isa.Sublw k8 (λ k. refl), (low_plain isa.Addlw k8 (λ k. refl), (low_plain isa.Addlw k8 (λ k. refl), tt)))))))),
                  ),
                ),
              ),
            ),
          ),
        ),
      ),
    ) in
    ((λ w h. low_at byte_rows low_bytes (w / 256) w h), ((λ w h. low_at bit_rows low_bits (w / 1024 % 4) w h), ((λ w h. low_at jump_rows jumps (w / 2048 % 2) w h), ((λ w h. low_at literal_rows literals (w / 256 % 16) w h), tt))))

rows_low : HasLow row_of
rows_low w h = low_at groups low_groups (w / 4096) w h

-- ---- the law
pub word_ported : (w : ℕ) → row_of (port_word w) ≡ ported_row (row_of w)
word_ported w = by (is_high (row_of w)) refl where
  by : (b : Bool) → is_high (row_of w) ≡ b → row_of (if b then w - 0x64 else w) ≡ ported_row (row_of w)
  by true e = rows_good w (w - 0x64) (below w (rows_low w e)) e
  by false e = sym (stays_row (row_of w) e)

pub at_map : (xs : List ℕ) (k : ℕ) → slice_index (map port_word xs) k ≡ port_word (slice_index xs k)
at_map [] k = refl
at_map (x ∷ xs) zero = refl
at_map (x ∷ xs) (suc k) = at_map xs k

pub image_ported : (image : List ℕ) → IsPorted image (map port_word image)
image_ported image at lt = ap row_of (at_map image at) ∙ word_ported (slice_index image at)
