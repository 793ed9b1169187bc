-- Of rows that stand one behind the other with no label among them: what is made of them has none, and ends with no skip.
use Rattle.std.proofs.Common.{◌≡◌, ℕ, zero, suc, ◌≤◌, Bool, true, false, not, ◌&&◌, if◌then◌else◌, List, [], ◌∷◌, ◌++◌, length, take, Option, Some, None, refl, sym, ap, ◌∙◌, true≢false, arith}
use Rattle.core_code.specs.declared.code.Byte.{Byte}
use Rattle.core_code.specs.declared.code.Byte.TheVariants as bytes
use Rattle.sym_code.specs.declared.code.BitOperation.TheVariants.{Btfsc, Btfss}
use Rattle.sym_code.specs.declared.code.FileOperation.TheVariants.{Decfsz, Incfsz}
use Rattle.sym_code.specs.declared.code.Literal.{Literal}
use Rattle.sym_code.specs.declared.code.Literal.TheVariants.{Number}
use Rattle.sym_code.specs.declared.code.LiteralOperation.{LiteralOperation}
use Rattle.sym_code.specs.declared.code.LiteralOperation.TheVariants as literals
use Rattle.sym_code.specs.declared.code.Operand.TheVariants as operands
use Rattle.sym_code.specs.declared.code.Sym.{Sym}
use Rattle.sym_code.specs.declared.code.Sym.TheVariants as syms
use Rattle.math_helpers.specs.Shape.{is_skip, breaks, is_straight}
use Rattle.select_wide.specs.Links.{IsNearByte, IsNear, AreNear}
use Rattle.lean_code.specs.Changes.{is_retlw}
use Rattle.lean_code.specs.Rows.{Note, Act, Keeps, Drops, Puts, Narrows, narrowed, Clears, cleared, Reads, Tests, FlagName, Carry, Zero, tests_flag, byte_before, reads_before, Row, At, old_of, olds, put_by, in_front, puts, is_none}
use Rattle.lean_code.specs.Steady.{skips, next_stays, next_leads_on, is_steady_skip, puts_return, is_steady_row, is_steady}

pub never : {A : Type 0} → false ≡ true → A
never e = absurd (true≢false (sym e))

pub and_first : (a b : Bool) → (a && b) ≡ true → a ≡ true
and_first true b e = refl
and_first false b e = e

pub and_last : (a b : Bool) → (a && b) ≡ true → b ≡ true
and_last true b e = e
and_last false b e = never e

-- ---- lists
pub olds_take : (k : ℕ) (rows : List Row) → olds (take k rows) ≡ take k (olds rows)
olds_take zero rows = refl
olds_take (suc k) [] = refl
olds_take (suc k) (row ∷ rows) = ap (λ (l : List Sym). old_of row ∷ l) (olds_take k rows)

front_on : (o : Option Sym) (xs ys : List Sym) → in_front o (xs ++ ys) ≡ in_front o xs ++ ys
front_on None xs ys = refl
front_on (Some s) xs ys = refl

pub puts_on : (xs ys : List Row) → puts (xs ++ ys) ≡ puts xs ++ puts ys
puts_on [] ys = refl
puts_on (row ∷ xs) ys = ap (in_front (put_by row)) (puts_on xs ys) ∙ front_on (put_by row) (puts xs) (puts ys)

front_few : (o : Option Sym) (list : List Sym) → length (in_front o list) ≤ suc (length list)
front_few None list = omega arith
front_few (Some s) list = omega arith

pub fewer : (rows : List Row) → length (puts rows) ≤ length (olds rows)
fewer [] = omega arith
fewer (row ∷ rows) =
    let here = front_few (put_by row) (puts rows) in
    let later = fewer rows in
    omega arith

-- ---- straight instructions
pub straight_first : (s : Sym) (rest : List Sym) → is_straight (s ∷ rest) ≡ true → breaks s ≡ false
straight_first (syms.Label label) rest e = never e
straight_first (syms.Table table root) rest e = never e
straight_first s rest e = refl

last_by : (s : Sym) → is_straight (s ∷ []) ≡ true → not (is_skip s) ≡ true
last_by (syms.Label label) e = never e
last_by (syms.Table table root) e = never e
last_by s e = e

pub not_true : (b : Bool) → not b ≡ true → b ≡ false
not_true true e = never e
not_true false e = refl

straight_last : (s : Sym) → is_straight (s ∷ []) ≡ true → is_skip s ≡ false
straight_last s e = not_true (is_skip s) (last_by s e)

pub straight_later : (s : Sym) (rest : List Sym) → is_straight (s ∷ rest) ≡ true → is_straight rest ≡ true
straight_later s [] e = refl
straight_later (syms.Label label) (next ∷ rest) e = never e
straight_later (syms.Table table root) (next ∷ rest) e = never e
straight_later s (next ∷ rest) e = e

straight_more : (s next : Sym) (rest : List Sym) → breaks s ≡ false → is_straight (next ∷ rest) ≡ true → is_straight (s ∷ next ∷ rest) ≡ true
straight_more (syms.Label label) next rest l e = never (sym l)
straight_more (syms.Table table root) next rest l e = never (sym l)
straight_more s next rest l e = e

straight_one : (s : Sym) → breaks s ≡ false → is_skip s ≡ false → is_straight (s ∷ []) ≡ true
straight_one (syms.Label label) l e = never (sym l)
straight_one (syms.Table table root) l e = never (sym l)
straight_one s l e = ap not e

-- ---- what is made of one
narrowed_label : (s : Sym) → breaks s ≡ false → breaks (narrowed s) ≡ false
narrowed_label (syms.File op operand to) l = refl
narrowed_label s l = l

narrowed_skip : (s : Sym) → is_skip (narrowed s) ≡ is_skip s
narrowed_skip (syms.File Decfsz operand to) = refl
narrowed_skip (syms.File Incfsz operand to) = refl
narrowed_skip (syms.File op operand to) = refl
narrowed_skip s = refl

cleared_label : (s : Sym) → breaks s ≡ false → breaks (cleared s) ≡ false
cleared_label (syms.Movwf operand) l = refl
cleared_label s l = l

cleared_skip : (s : Sym) → is_skip (cleared s) ≡ is_skip s
cleared_skip (syms.Movwf operand) = refl
cleared_skip s = refl

read_label : (n : ℕ) (s : Sym) → breaks s ≡ false → breaks (reads_before n s) ≡ false
read_label n (syms.File op operand to) l = refl
read_label n (syms.Bit op operand bit) l = refl
read_label n s l = l

read_skip : (n : ℕ) (s : Sym) → is_skip (reads_before n s) ≡ is_skip s
read_skip n (syms.File Decfsz operand to) = refl
read_skip n (syms.File Incfsz operand to) = refl
read_skip n (syms.File op operand to) = refl
read_skip n (syms.Bit Btfsc operand bit) = refl
read_skip n (syms.Bit Btfss operand bit) = refl
read_skip n (syms.Bit op operand bit) = refl
read_skip n s = refl

test_label : (flag : FlagName) (turned : Bool) (s : Sym) → breaks s ≡ false → breaks (tests_flag flag turned s) ≡ false
test_label flag turned (syms.Bit op operand bit) l = refl
test_label flag turned s l = l

test_skip : (flag : FlagName) (turned : Bool) (s : Sym) → is_skip (tests_flag flag turned s) ≡ is_skip s
test_skip flag true (syms.Bit Btfsc operand bit) = refl
test_skip flag true (syms.Bit Btfss operand bit) = refl
test_skip flag true (syms.Bit op operand bit) = refl
test_skip flag false (syms.Bit Btfsc operand bit) = refl
test_skip flag false (syms.Bit Btfss operand bit) = refl
test_skip flag false (syms.Bit op operand bit) = refl
test_skip flag turned s = refl

pub same_skip : (s : Sym) → skips s ≡ is_skip s
same_skip (syms.File Decfsz operand to) = refl
same_skip (syms.File Incfsz operand to) = refl
same_skip (syms.File op operand to) = refl
same_skip (syms.Bit Btfsc operand bit) = refl
same_skip (syms.Bit Btfss operand bit) = refl
same_skip (syms.Bit op operand bit) = refl
same_skip s = refl

-- ---- what is said of rows
steady_first : (s : Sym) (act : Act) (said : Option Note) (rest : List Row) → is_steady (At s act said ∷ rest) ≡ true → is_steady_row s act rest ≡ true
steady_first s act said rest e = and_first (is_steady_row s act rest) (is_steady rest) e

pub steady_later : (s : Sym) (act : Act) (said : Option Note) (rest : List Row) → is_steady (At s act said ∷ rest) ≡ true → is_steady rest ≡ true
steady_later s act said rest e = and_last (is_steady_row s act rest) (is_steady rest) e

-- of a skip
skip_act : (s : Sym) (act : Act) (said : Option Note) (rest : List Row) → is_steady (At s act said ∷ rest) ≡ true → is_skip s ≡ true → is_steady_skip act rest ≡ true
skip_act s act said rest e k = sym (ap (λ (b : Bool). if b then is_steady_skip act rest else not (puts_return act)) (same_skip s ∙ k)) ∙ steady_first s act said rest e

false_by : (b : Bool) → (b ≡ true → false ≡ true) → b ≡ false
false_by true h = never (h refl)
false_by false h = refl

narrows_skip : (s : Sym) (said : Option Note) (rest : List Row) → is_steady (At s Narrows said ∷ rest) ≡ true → is_skip (narrowed s) ≡ false
narrows_skip s said rest e = narrowed_skip s ∙ false_by (is_skip s) (skip_act s Narrows said rest e)

clears_skip : (s : Sym) (said : Option Note) (rest : List Row) → is_steady (At s Clears said ∷ rest) ≡ true → is_skip (cleared s) ≡ false
clears_skip s said rest e = cleared_skip s ∙ false_by (is_skip s) (skip_act s Clears said rest e)

pub puts_no_return : (s : Sym) (op : LiteralOperation) (n : ℕ) (said : Option Note) (rest : List Row) → is_steady (At s (Puts op n) said ∷ rest) ≡ true → is_retlw op ≡ false
puts_no_return s op n said rest e = by_skip (skips s) (steady_first s (Puts op n) said rest e)
  where
    by_skip : (b : Bool) → (if b then not (is_retlw op) && next_leads_on rest else not (is_retlw op)) ≡ true → is_retlw op ≡ false
    by_skip true e = not_true (is_retlw op) (and_first (not (is_retlw op)) (next_leads_on rest) e)
    by_skip false e = not_true (is_retlw op) e

-- ---- straight rows
put_front : (t : Sym) (made : List Sym) → breaks t ≡ false → (made ≡ [] → is_skip t ≡ false) → is_straight made ≡ true → is_straight (t ∷ made) ≡ true
put_front t [] l e f = straight_one t l (e refl)
put_front t (u ∷ made) l e f = straight_more t u made l f

-- a row that stays leaves something
something : {A : Type 0} → (o : Option Sym) (list : List Sym) → not (is_none o) ≡ true → in_front o list ≡ [] → A
something None list e f = never e
something (Some s) list e f = absurd (cc)

-- a skip that stays isn't the last that is made
kept_skip : (s : Sym) (ys zs : List Row) → is_straight (s ∷ olds ys) ≡ true → (is_skip s ≡ true → next_stays (ys ++ zs) ≡ true) → puts ys ≡ [] → is_skip s ≡ false
kept_skip s [] zs e f none = straight_last s e
kept_skip s (row ∷ ys) zs e f none = false_by (is_skip s) (λ k. something (put_by row) (puts ys) (f k) none)

pub straight_made : (ys zs : List Row) → is_straight (olds ys) ≡ true → is_steady (ys ++ zs) ≡ true → is_straight (puts ys) ≡ true
straight_made [] zs e f = refl
straight_made (At (syms.Label label) act said ∷ ys) zs e f = never (sym (straight_first (syms.Label label) (olds ys) e))
straight_made (At s Keeps said ∷ ys) zs e f =
    put_front s (puts ys) (straight_first s (olds ys) e) (kept_skip s ys zs e (skip_act s Keeps said (ys ++ zs) f)) (straight_made ys zs (straight_later s (olds ys) e) (steady_later s Keeps said (ys ++ zs) f))
straight_made (At s Drops said ∷ ys) zs e f = straight_made ys zs (straight_later s (olds ys) e) (steady_later s Drops said (ys ++ zs) f)
straight_made (At s (Puts op n) said ∷ ys) zs e f =
    put_front (syms.Literal op (Number n)) (puts ys) refl (λ none. refl) (straight_made ys zs (straight_later s (olds ys) e) (steady_later s (Puts op n) said (ys ++ zs) f))
straight_made (At s Narrows said ∷ ys) zs e f =
    put_front (narrowed s) (puts ys) (narrowed_label s (straight_first s (olds ys) e)) (λ none. narrows_skip s said (ys ++ zs) f) (straight_made ys zs (straight_later s (olds ys) e) (steady_later s Narrows said (ys ++ zs) f))
straight_made (At s Clears said ∷ ys) zs e f =
    put_front (cleared s) (puts ys) (cleared_label s (straight_first s (olds ys) e)) (λ none. clears_skip s said (ys ++ zs) f) (straight_made ys zs (straight_later s (olds ys) e) (steady_later s Clears said (ys ++ zs) f))
straight_made (At s (Reads n) said ∷ ys) zs e f =
    put_front (reads_before n s) (puts ys) (read_label n s (straight_first s (olds ys) e)) (λ none. read_skip n s ∙ kept_skip s ys zs e (skip_act s (Reads n) said (ys ++ zs) f) none)
    (straight_made ys zs (straight_later s (olds ys) e) (steady_later s (Reads n) said (ys ++ zs) f))
straight_made (At s (Tests flag turned) said ∷ ys) zs e f =
    put_front (tests_flag flag turned s) (puts ys) (test_label flag turned s (straight_first s (olds ys) e)) (λ none. test_skip flag turned s ∙ kept_skip s ys zs e (skip_act s (Tests flag turned) said (ys ++ zs) f) none)
    (straight_made ys zs (straight_later s (olds ys) e) (steady_later s (Tests flag turned) said (ys ++ zs) f))

-- ---- instructions that ask for no bank but that of one frame
near_literal : (c size : ℕ) (op : LiteralOperation) (value : Literal) → is_retlw op ≡ false → IsNear c size (syms.Literal op value)
near_literal c size literals.Retlw value e = never (sym e)
near_literal c size op value e = tt

near_narrowed : (c size : ℕ) (s : Sym) → IsNear c size s → IsNear c size (narrowed s)
near_narrowed c size (syms.File op (operands.Byte byte) to) h = h
near_narrowed c size (syms.File op operand to) h = absurd h
near_narrowed c size s h = h

near_cleared : (c size : ℕ) (s : Sym) → IsNear c size s → IsNear c size (cleared s)
near_cleared c size (syms.Movwf (operands.Byte byte)) h = h
near_cleared c size (syms.Movwf operand) h = absurd h
near_cleared c size s h = h

near_byte : (c size n : ℕ) (byte : Byte) → IsNearByte c size byte → IsNearByte c size (byte_before n byte)
near_byte c size n (bytes.Frame d k) h = let below = h.1 in (h.0, omega arith)
near_byte c size n (bytes.Result r k) h = h
near_byte c size n byte h = absurd h

near_read : (c size n : ℕ) (s : Sym) → IsNear c size s → IsNear c size (reads_before n s)
near_read c size n (syms.File op (operands.Byte byte) to) h = near_byte c size n byte h
near_read c size n (syms.File op operand to) h = absurd h
near_read c size n (syms.Bit op (operands.Byte byte) bit) h = near_byte c size n byte h
near_read c size n (syms.Bit op (operands.Saved cell) bit) h = absurd h
near_read c size n s h = h

near_test : (c size : ℕ) (flag : FlagName) (turned : Bool) (s : Sym) → IsNear c size s → IsNear c size (tests_flag flag turned s)
near_test c size Carry turned (syms.Bit op operand bit) h = omega arith
near_test c size Zero turned (syms.Bit op operand bit) h = omega arith
near_test c size flag turned s h = h

pub near_made : (c size : ℕ) (ys zs : List Row) → is_steady (ys ++ zs) ≡ true → AreNear c size (olds ys) → AreNear c size (puts ys)
near_made c size [] zs e h = tt
near_made c size (At (syms.Label label) act said ∷ ys) zs e h = absurd h.0
near_made c size (At s Keeps said ∷ ys) zs e h = (h.0, near_made c size ys zs (steady_later s Keeps said (ys ++ zs) e) h.1)
near_made c size (At s Drops said ∷ ys) zs e h = near_made c size ys zs (steady_later s Drops said (ys ++ zs) e) h.1
near_made c size (At s (Puts op n) said ∷ ys) zs e h =
    (near_literal c size op (Number n) (puts_no_return s op n said (ys ++ zs) e), near_made c size ys zs (steady_later s (Puts op n) said (ys ++ zs) e) h.1)
near_made c size (At s Narrows said ∷ ys) zs e h = (near_narrowed c size s h.0, near_made c size ys zs (steady_later s Narrows said (ys ++ zs) e) h.1)
near_made c size (At s Clears said ∷ ys) zs e h = (near_cleared c size s h.0, near_made c size ys zs (steady_later s Clears said (ys ++ zs) e) h.1)
near_made c size (At s (Reads n) said ∷ ys) zs e h = (near_read c size n s h.0, near_made c size ys zs (steady_later s (Reads n) said (ys ++ zs) e) h.1)
near_made c size (At s (Tests flag turned) said ∷ ys) zs e h = (near_test c size flag turned s h.0, near_made c size ys zs (steady_later s (Tests flag turned) said (ys ++ zs) e) h.1)
