-- What is made of code that asks for no bank but that of one frame does so, too, and behind its jumps and returns stand labels.
use Rattle.std.proofs.Common.{◌≡◌, ℕ, suc, ◌<◌, ◌/◌, Some, arith, Bool, true, false, not, ◌&&◌, ◌||◌, if◌then◌else◌, List, [], ◌∷◌, Option, refl, sym, ap, ◌∙◌}
use Rattle.std.specs.List.{All}
use Rattle.core_code.specs.declared.code.Byte.{Byte}
use Rattle.core_code.specs.declared.code.Byte.TheVariants as bytes
use Rattle.pic_map.specs.declared.Placed.{Placed}
use Rattle.pic_world.specs.declared.Root.{Root}
use Rattle.sym_code.specs.declared.code.BlockName.{BlockName}
use Rattle.sym_code.specs.declared.code.Literal.TheVariants.{Number}
use Rattle.sym_code.specs.declared.code.LiteralOperation.{LiteralOperation}
use Rattle.sym_code.specs.declared.code.LiteralOperation.TheVariants as literals
use Rattle.sym_code.specs.declared.code.BitOperation.TheVariants.{Btfsc, Btfss}
use Rattle.sym_code.specs.declared.code.FileOperation.TheVariants.{Decfsz, Incfsz}
use Rattle.sym_code.specs.declared.code.Operand.{Operand}
use Rattle.sym_code.specs.declared.code.Operand.TheVariants as operands
use Rattle.sym_code.specs.declared.code.Sym.{Sym}
use Rattle.sym_code.specs.declared.code.Sym.TheVariants as syms
use Rattle.code_place.specs.Addresses.{address_of}
use Rattle.math_helpers.specs.Shape.{IsOwnByte, IsOwnOperand, IsOwn}
use Rattle.bank_page.specs.Kinds as kinds
use Rattle.bank_page.specs.Known.{ends}
use Rattle.bank_page.specs.Known as known
use Rattle.bank_trace.proofs.Owned.{IsTame, AllTame, tame}
use Rattle.bank_trace.proofs.Tight.{label_first, is_tight}
use Rattle.lean_code.specs.Changes.{is_retlw}
use Rattle.lean_code.specs.Rows.{Note, Keeps, Drops, Puts, Narrows, narrowed, Clears, cleared, Reads, Tests, FlagName, Carry, Zero, tests_flag, byte_before, operand_before, reads_before, Row, At, olds, puts}
use Rattle.lean_code.specs.Steady.{skips, leads_on, next_stays, next_goes, next_leads_on, is_steady_row, is_steady}
use Rattle.bank_trace.proofs.LeanRows.{never, and_first, and_last, steady_later, puts_no_return}

-- ---- banks and pages
-- a byte before one of a frame is in the frame, too
byte_own : (root : Root) (copy size n : ℕ) (byte : Byte) → IsOwnByte root copy size byte → IsOwnByte root copy size (byte_before n byte)
byte_own root copy size n (bytes.Frame c offset) h = let below = h.1 in (h.0, omega arith)
byte_own root copy size n (bytes.Result r k) h = h
byte_own root copy size n byte h = absurd h

operand_own : (root : Root) (copy size n : ℕ) (operand : Operand) → IsOwnOperand root copy size operand → IsOwnOperand root copy size (operand_before n operand)
operand_own root copy size n (operands.Byte byte) h = byte_own root copy size n byte h
operand_own root copy size n operand h = absurd h

read_own : (root : Root) (copy size n : ℕ) (s : Sym) → IsOwn root copy size s → IsOwn root copy size (reads_before n s)
read_own root copy size n (syms.File op operand to) h = operand_own root copy size n operand h
read_own root copy size n (syms.Bit op (operands.Byte byte) bit) h = byte_own root copy size n byte h
read_own root copy size n s h = h

test_own : (root : Root) (copy size : ℕ) (flag : FlagName) (turned : Bool) (s : Sym) → IsOwn root copy size s → IsOwn root copy size (tests_flag flag turned s)
test_own root copy size Carry turned (syms.Bit op operand bit) h = (refl, omega arith)
test_own root copy size Zero turned (syms.Bit op operand bit) h = (refl, omega arith)
test_own root copy size flag turned s h = h

module _ (placed : Placed) (own : BlockName) (bank : ℕ) (root : Root) (copy size : ℕ) (frame_bank : (offset : ℕ) → offset < size → (at : ℕ) × (address_of placed (bytes.Frame copy offset) ≡ Some at) × (at / 128 ≡ bank)) where
  number_tame : (op : LiteralOperation) (n : ℕ) → IsTame placed own bank (syms.Literal op (Number n))
  number_tame op n = record { needs = refl; page = refl; rp0 = refl; rp1 = refl; pages = refl; skip = λ e. never e; keeps = λ e. refl }

  narrowed_tame : (s : Sym) → IsTame placed own bank s → IsTame placed own bank (narrowed s)
  narrowed_tame (syms.File op operand to) h = record { needs = h.needs; page = h.page; rp0 = refl; rp1 = refl; pages = refl; skip = λ e. (refl, refl); keeps = λ e. refl }
  narrowed_tame s h = h

  cleared_tame : (s : Sym) → IsTame placed own bank s → IsTame placed own bank (cleared s)
  cleared_tame (syms.Movwf operand) h = record { needs = h.needs; page = h.page; rp0 = h.rp0; rp1 = h.rp1; pages = h.pages; skip = λ e. never e; keeps = λ e. refl }
  cleared_tame s h = h

  pub tame_made : (rows : List Row) → All (IsOwn root copy size) (olds rows) → AllTame placed own bank (olds rows) → AllTame placed own bank (puts rows)
  tame_made [] o h = tt
  tame_made (At (syms.Label label) act said ∷ rows) o h = (h.0, tame_made rows (λ k d l. o (suc k) d (omega arith)) h.1)
  tame_made (At s Keeps said ∷ rows) o h = (h.0, tame_made rows (λ k d l. o (suc k) d (omega arith)) h.1)
  tame_made (At s Drops said ∷ rows) o h = tame_made rows (λ k d l. o (suc k) d (omega arith)) h.1
  tame_made (At s (Puts op n) said ∷ rows) o h = (number_tame op n, tame_made rows (λ k d l. o (suc k) d (omega arith)) h.1)
  tame_made (At s Narrows said ∷ rows) o h = (narrowed_tame s h.0, tame_made rows (λ k d l. o (suc k) d (omega arith)) h.1)
  tame_made (At s Clears said ∷ rows) o h = (cleared_tame s h.0, tame_made rows (λ k d l. o (suc k) d (omega arith)) h.1)
  tame_made (At s (Reads n) said ∷ rows) o h =
      (tame placed root copy size bank own frame_bank (reads_before n s) (read_own root copy size n s (o 0 s (omega arith))), tame_made rows (λ k d l. o (suc k) d (omega arith)) h.1)
  tame_made (At s (Tests flag turned) said ∷ rows) o h =
      (tame placed root copy size bank own frame_bank (tests_flag flag turned s) (test_own root copy size flag turned s (o 0 s (omega arith))), tame_made rows (λ k d l. o (suc k) d (omega arith)) h.1)

-- ---- labels behind jumps
pub bank_skip : (s : Sym) → kinds.is_skip s ≡ skips s
bank_skip (syms.File Decfsz operand to) = refl
bank_skip (syms.File Incfsz operand to) = refl
bank_skip (syms.File op operand to) = refl
bank_skip (syms.Bit op operand bit) = refl
bank_skip s = refl

narrowed_skips : (s : Sym) → skips (narrowed s) ≡ skips s
narrowed_skips (syms.File op operand to) = refl
narrowed_skips s = refl

narrowed_ends : (s : Sym) → ends (narrowed s) ≡ ends s
narrowed_ends (syms.File op operand to) = refl
narrowed_ends s = refl

cleared_skips : (s : Sym) → skips (cleared s) ≡ skips s
cleared_skips (syms.Movwf operand) = refl
cleared_skips s = refl

cleared_ends : (s : Sym) → ends (cleared s) ≡ ends s
cleared_ends (syms.Movwf operand) = refl
cleared_ends s = refl

read_skips : (n : ℕ) (s : Sym) → skips (reads_before n s) ≡ skips s
read_skips n (syms.File op operand to) = refl
read_skips n (syms.Bit op operand bit) = refl
read_skips n s = refl

read_ends : (n : ℕ) (s : Sym) → ends (reads_before n s) ≡ ends s
read_ends n (syms.File op operand to) = refl
read_ends n (syms.Bit op operand bit) = refl
read_ends n s = refl

test_skips : (flag : FlagName) (turned : Bool) (s : Sym) → skips (tests_flag flag turned s) ≡ skips s
test_skips flag true (syms.Bit Btfsc operand bit) = refl
test_skips flag true (syms.Bit Btfss operand bit) = refl
test_skips flag turned (syms.Bit op operand bit) = refl
test_skips flag turned s = refl

test_ends : (flag : FlagName) (turned : Bool) (s : Sym) → ends (tests_flag flag turned s) ≡ ends s
test_ends flag turned (syms.Bit op operand bit) = refl
test_ends flag turned s = refl

same_return : (op : LiteralOperation) → known.is_retlw op ≡ is_retlw op
same_return literals.Retlw = refl
same_return op = refl

label_made : (rows : List Row) → label_first (olds rows) ≡ true → label_first (puts rows) ≡ true
label_made [] e = refl
label_made (At (syms.Label label) act said ∷ rows) e = refl
label_made (At s act said ∷ rows) e = never e

-- an instruction that leads on stands anywhere
leads_no_end : (s : Sym) → leads_on s ≡ true → ends s ≡ false
leads_no_end (syms.Goto target) e = never e
leads_no_end (syms.Plain op) e = never e
leads_no_end (syms.Literal literals.Retlw value) e = never e
leads_no_end (syms.Literal op value) e = refl
leads_no_end s e = refl

untied : (s : Sym) (list : List Sym) → leads_on s ≡ true → is_tight true (s ∷ list) ≡ true → is_tight false (s ∷ list) ≡ true
untied s list n t = ap (λ (b : Bool). (if b && true then label_first list else true) && is_tight (kinds.is_skip s) list) (leads_no_end s n) ∙ and_last (if ends s && false then label_first list else true) (is_tight (kinds.is_skip s) list) t

-- what is made of rows, by whether a skip stands before them, and whether that stays
record IsTightMade (rows : List Row) : Type 0 where
  free : is_tight false (olds rows) ≡ true → is_tight false (puts rows) ≡ true
  behind : next_stays rows ≡ true → is_tight true (olds rows) ≡ true → is_tight true (puts rows) ≡ true
  gone : next_goes rows ≡ true → is_tight true (olds rows) ≡ true → is_tight false (puts rows) ≡ true
  alone : next_leads_on rows ≡ true → is_tight true (olds rows) ≡ true → is_tight false (puts rows) ≡ true

abbrev first_tight : Bool → Sym → List Sym → Bool
first_tight behind s list = if ends s && not behind then label_first list else true

both : (a b : Bool) → a ≡ true → b ≡ true → (a && b) ≡ true
both true b e k = k
both false b e k = e

if_made : (c : Bool) (a b : Bool) → (a ≡ true → b ≡ true) → (if c then a else true) ≡ true → (if c then b else true) ≡ true
if_made true a b h e = h e
if_made false a b h e = refl

module _ (rows : List Row) (later : IsTightMade rows) where
  -- behind an instruction that stays, as a skip or not
  stays_on : (s : Sym) (b : Bool) → skips s ≡ b → (b ≡ true → next_stays rows ≡ true) → is_tight (kinds.is_skip s) (olds rows) ≡ true → is_tight (kinds.is_skip s) (puts rows) ≡ true
  stays_on s b k next e =
      ap (λ (c : Bool). is_tight c (puts rows)) (bank_skip s ∙ k) ∙ by b next (sym (ap (λ (c : Bool). is_tight c (olds rows)) (bank_skip s ∙ k)) ∙ e)
    where
      by : (b : Bool) → (b ≡ true → next_stays rows ≡ true) → is_tight b (olds rows) ≡ true → is_tight b (puts rows) ≡ true
      by true next e = later.behind (next refl) e
      by false next e = later.free e

  stays : (behind : Bool) (s : Sym) → (skips s ≡ true → next_stays rows ≡ true) → is_tight behind (s ∷ olds rows) ≡ true → is_tight behind (s ∷ puts rows) ≡ true
  stays behind s next e =
      both (first_tight behind s (puts rows)) (is_tight (kinds.is_skip s) (puts rows))
      (if_made (ends s && not behind) (label_first (olds rows)) (label_first (puts rows)) (label_made rows) (and_first (first_tight behind s (olds rows)) (is_tight (kinds.is_skip s) (olds rows)) e))
      (stays_on s (skips s) refl next (and_last (first_tight behind s (olds rows)) (is_tight (kinds.is_skip s) (olds rows)) e))

  -- one that is a skip as it is in its place
  becomes_like : (behind : Bool) (s t : Sym) → skips t ≡ skips s → ends t ≡ ends s → (skips s ≡ true → next_stays rows ≡ true) → is_tight behind (s ∷ olds rows) ≡ true → is_tight behind (t ∷ puts rows) ≡ true
  becomes_like behind s t same end next e =
      stays behind t (λ k. next (sym same ∙ k))
      (ap (λ (b : Bool). (if b && not behind then label_first (olds rows) else true) && is_tight (kinds.is_skip t) (olds rows)) end
      ∙ ap (λ (b : Bool). first_tight behind s (olds rows) && is_tight b (olds rows)) (bank_skip t ∙ same ∙ sym (bank_skip s)) ∙ e)

  -- behind one that is left out
  goes : (behind : Bool) (s : Sym) → (skips s ≡ true → (next_goes rows || next_leads_on rows) ≡ true) → is_tight behind (s ∷ olds rows) ≡ true → is_tight false (puts rows) ≡ true
  goes behind s next e = by (skips s) next (sym (ap (λ (c : Bool). is_tight c (olds rows)) (bank_skip s)) ∙ and_last (first_tight behind s (olds rows)) (is_tight (kinds.is_skip s) (olds rows)) e)
    where
      either : (c : Bool) → (c ≡ true → next_goes rows ≡ true) → (c || next_leads_on rows) ≡ true → is_tight true (olds rows) ≡ true → is_tight false (puts rows) ≡ true
      either true h n e = later.gone (h refl) e
      either false h n e = later.alone n e

      by : (b : Bool) → (b ≡ true → (next_goes rows || next_leads_on rows) ≡ true) → is_tight b (olds rows) ≡ true → is_tight false (puts rows) ≡ true
      by true next e = either (next_goes rows) (λ h. h) (next refl) e
      by false next e = later.free e

  -- one that is no skip in its place
  becomes : (behind : Bool) (s t : Sym) → (skips s ≡ true → next_leads_on rows ≡ true) → skips t ≡ false → (ends t ≡ true → ends s ≡ true) → is_tight behind (s ∷ olds rows) ≡ true → is_tight behind (t ∷ puts rows) ≡ true
  becomes behind s t next none end e =
      both (first_tight behind t (puts rows)) (is_tight (kinds.is_skip t) (puts rows))
      (fewer (ends t) (ends s) (not behind) end (if_made (ends s && not behind) (label_first (olds rows)) (label_first (puts rows)) (label_made rows) (and_first (first_tight behind s (olds rows)) (is_tight (kinds.is_skip s) (olds rows)) e)))
      (ap (λ (c : Bool). is_tight c (puts rows)) (bank_skip t ∙ none) ∙ on (skips s) next (sym (ap (λ (c : Bool). is_tight c (olds rows)) (bank_skip s)) ∙ and_last (first_tight behind s (olds rows)) (is_tight (kinds.is_skip s) (olds rows)) e))
    where
      on : (b : Bool) → (b ≡ true → next_leads_on rows ≡ true) → is_tight b (olds rows) ≡ true → is_tight false (puts rows) ≡ true
      on true next e = later.alone (next refl) e
      on false next e = later.free e

      fewer : (a b c : Bool) → (a ≡ true → b ≡ true) → (if b && c then label_first (puts rows) else true) ≡ true → (if a && c then label_first (puts rows) else true) ≡ true
      fewer false b c h e = refl
      fewer true true c h e = e
      fewer true false c h e = never (h refl)

-- of a skip
module _ (s : Sym) (said : Option Note) (rest : List Row) where
  kept_next : is_steady (At s Keeps said ∷ rest) ≡ true → skips s ≡ true → next_stays rest ≡ true
  kept_next e k = sym (ap (λ (b : Bool). if b then next_stays rest else true) k) ∙ and_first (is_steady_row s Keeps rest) (is_steady rest) e

  read_next : (n : ℕ) → is_steady (At s (Reads n) said ∷ rest) ≡ true → skips s ≡ true → next_stays rest ≡ true
  read_next n e k = sym (ap (λ (b : Bool). if b then next_stays rest else true) k) ∙ and_first (is_steady_row s (Reads n) rest) (is_steady rest) e

  test_next : (flag : FlagName) (turned : Bool) → is_steady (At s (Tests flag turned) said ∷ rest) ≡ true → skips s ≡ true → next_stays rest ≡ true
  test_next flag turned e k = sym (ap (λ (b : Bool). if b then next_stays rest else true) k) ∙ and_first (is_steady_row s (Tests flag turned) rest) (is_steady rest) e

  gone_next : is_steady (At s Drops said ∷ rest) ≡ true → skips s ≡ true → (next_goes rest || next_leads_on rest) ≡ true
  gone_next e k = sym (ap (λ (b : Bool). if b then next_goes rest || next_leads_on rest else true) k) ∙ and_first (is_steady_row s Drops rest) (is_steady rest) e

  put_next : (op : LiteralOperation) (n : ℕ) → is_steady (At s (Puts op n) said ∷ rest) ≡ true → skips s ≡ true → next_leads_on rest ≡ true
  put_next op n e k =
      and_last (not (is_retlw op)) (next_leads_on rest)
      (sym (ap (λ (b : Bool). if b then not (is_retlw op) && next_leads_on rest else not (is_retlw op)) k) ∙ and_first (is_steady_row s (Puts op n) rest) (is_steady rest) e)

  narrow_plain : is_steady (At s Narrows said ∷ rest) ≡ true → skips s ≡ false
  narrow_plain e = by (skips s) (and_first (is_steady_row s Narrows rest) (is_steady rest) e)
    where
      by : (b : Bool) → (if b then false else true) ≡ true → b ≡ false
      by true e = never e
      by false e = refl

  clear_plain : is_steady (At s Clears said ∷ rest) ≡ true → skips s ≡ false
  clear_plain e = by (skips s) (and_first (is_steady_row s Clears rest) (is_steady rest) e)
    where
      by : (b : Bool) → (if b then false else true) ≡ true → b ≡ false
      by true e = never e
      by false e = refl

  number_ends : (op : LiteralOperation) (n : ℕ) → is_steady (At s (Puts op n) said ∷ rest) ≡ true → ends (syms.Literal op (Number n)) ≡ true → ends s ≡ true
  number_ends op n e end = never (sym (same_return op ∙ puts_no_return s op n said rest e) ∙ end)

tight_rows : (rows : List Row) → is_steady rows ≡ true → IsTightMade rows
tight_rows [] e = record { free = λ t. refl; behind = λ n t. refl; gone = λ n t. refl; alone = λ n t. refl }
tight_rows (At (syms.Label label) act said ∷ rows) e =
    let later = tight_rows rows (steady_later (syms.Label label) act said rows e) in
    record { free = later.free; behind = λ n. later.free; gone = λ n. later.free; alone = λ n. later.free }
tight_rows (At s Keeps said ∷ rows) e =
    let later = tight_rows rows (steady_later s Keeps said rows e) in
    let here = stays rows later false s (kept_next s said rows e) in
    record { free = here; behind = λ n. stays rows later true s (kept_next s said rows e); gone = λ n t. never n; alone = λ n t. here (untied s (olds rows) n t) }
tight_rows (At s Drops said ∷ rows) e =
    let later = tight_rows rows (steady_later s Drops said rows e) in
    let here = goes rows later true s (gone_next s said rows e) in
    record { free = goes rows later false s (gone_next s said rows e); behind = λ n t. never n; gone = λ n. here; alone = λ n. here }
tight_rows (At s (Puts op n) said ∷ rows) e =
    let later = tight_rows rows (steady_later s (Puts op n) said rows e) in
    let t = syms.Literal op (Number n) in
    let here = becomes rows later false s t (put_next s said rows op n e) refl (number_ends s said rows op n e) in
    record {
      alone = λ n k. here (untied s (olds rows) n k);
      free = becomes rows later false s t (put_next s said rows op n e) refl (number_ends s said rows op n e);
      behind = λ k. becomes rows later true s t (put_next s said rows op n e) refl (number_ends s said rows op n e);
      gone = λ k t. never k;
    }
tight_rows (At s Narrows said ∷ rows) e =
    let later = tight_rows rows (steady_later s Narrows said rows e) in
    let plain = narrow_plain s said rows e in
    let here = becomes rows later false s (narrowed s) (λ k. never (sym plain ∙ k)) (narrowed_skips s ∙ plain) (λ end. sym (narrowed_ends s) ∙ end) in
    record {
      alone = λ n k. here (untied s (olds rows) n k);
      free = becomes rows later false s (narrowed s) (λ k. never (sym plain ∙ k)) (narrowed_skips s ∙ plain) (λ end. sym (narrowed_ends s) ∙ end);
      behind = λ k. becomes rows later true s (narrowed s) (λ k. never (sym plain ∙ k)) (narrowed_skips s ∙ plain) (λ end. sym (narrowed_ends s) ∙ end);
      gone = λ k t. never k;
    }
tight_rows (At s Clears said ∷ rows) e =
    let later = tight_rows rows (steady_later s Clears said rows e) in
    let plain = clear_plain s said rows e in
    let here = becomes rows later false s (cleared s) (λ k. never (sym plain ∙ k)) (cleared_skips s ∙ plain) (λ end. sym (cleared_ends s) ∙ end) in
    record {
      alone = λ n k. here (untied s (olds rows) n k);
      free = becomes rows later false s (cleared s) (λ k. never (sym plain ∙ k)) (cleared_skips s ∙ plain) (λ end. sym (cleared_ends s) ∙ end);
      behind = λ k. becomes rows later true s (cleared s) (λ k. never (sym plain ∙ k)) (cleared_skips s ∙ plain) (λ end. sym (cleared_ends s) ∙ end);
      gone = λ k t. never k;
    }
tight_rows (At s (Reads n) said ∷ rows) e =
    let later = tight_rows rows (steady_later s (Reads n) said rows e) in
    let here = becomes_like rows later false s (reads_before n s) (read_skips n s) (read_ends n s) (read_next s said rows n e) in
    record {
      alone = λ k t. here (untied s (olds rows) k t);
      free = becomes_like rows later false s (reads_before n s) (read_skips n s) (read_ends n s) (read_next s said rows n e);
      behind = λ k. becomes_like rows later true s (reads_before n s) (read_skips n s) (read_ends n s) (read_next s said rows n e);
      gone = λ k t. never k;
    }
tight_rows (At s (Tests flag turned) said ∷ rows) e =
    let later = tight_rows rows (steady_later s (Tests flag turned) said rows e) in
    let here = becomes_like rows later false s (tests_flag flag turned s) (test_skips flag turned s) (test_ends flag turned s) (test_next s said rows flag turned e) in
    record {
      alone = λ k t. here (untied s (olds rows) k t);
      free = becomes_like rows later false s (tests_flag flag turned s) (test_skips flag turned s) (test_ends flag turned s) (test_next s said rows flag turned e);
      behind = λ k. becomes_like rows later true s (tests_flag flag turned s) (test_skips flag turned s) (test_ends flag turned s) (test_next s said rows flag turned e);
      gone = λ k t. never k;
    }

pub tight_made : (rows : List Row) → is_steady rows ≡ true → is_tight false (olds rows) ≡ true → is_tight false (puts rows) ≡ true
tight_made rows steady e = (tight_rows rows steady).free e
