-- How many words the code of single operations takes on bytes of the frame.
use Rattle.std.proofs.Common.{◌≡◌, ℕ, zero, suc, ◌+◌, ◌*◌, ◌≤◌, Bool, true, false, cond, ◌&&◌, nat_eq, min, if◌then◌else◌, List, [], ◌∷◌, ◌++◌, refl, sym, ap, ◌∙◌, subst, ne_eqb, arith}
use Rattle.core_code.specs.Bytes.{same_byte}
use Rattle.core_code.specs.declared.code.Byte.{Byte}
use Rattle.core_code.specs.declared.code.Byte.TheVariants as bytes
use Rattle.pic_world.specs.declared.Root.{Root}
use Rattle.sym_code.specs.declared.code.BitOperation.TheVariants.{Bcf, Bsf, Btfsc, Btfss}
use Rattle.sym_code.specs.declared.code.FileOperation.{FileOperation}
use Rattle.sym_code.specs.declared.code.FileOperation.TheVariants.{Movf, Incf, Incfsz}
use Rattle.sym_code.specs.declared.code.Into.{Into}
use Rattle.sym_code.specs.declared.code.Into.TheVariants.{W, File}
use Rattle.sym_code.specs.declared.code.Literal.{Literal}
use Rattle.sym_code.specs.declared.code.Literal.TheVariants.{Number, Low, High}
use Rattle.sym_code.specs.declared.code.LiteralOperation.TheVariants.{Movlw, Xorlw}
use Rattle.sym_code.specs.declared.code.Operand.TheVariants as operands
use Rattle.sym_code.specs.declared.code.PlainOperation.TheVariants.{Clrw}
use Rattle.sym_code.specs.declared.code.Register.TheVariants.{Status, Fsr, Indf}
use Rattle.sym_code.specs.declared.code.Sym.{Sym}
use Rattle.sym_code.specs.declared.code.Sym.TheVariants as syms
use Rattle.bank_page.specs.Kinds.{skips_by_file}
use Rattle.select_code.specs.Pieces.{byte_behind, file_code, store_code, clear_code, number_code, flag_bit, flag_code, is_clearable, set_code, copy_code}
use Rattle.select_code.specs.declared.pieces.Flag.{Flag}
use Rattle.select_code.specs.declared.pieces.Flag.TheVariants.{Carry, Irp}
use Rattle.select_wide.specs.Pieces.{rising, register_code, register_store_code, literal_code, if_bit_code, pair_code}
use Rattle.select_wide.specs.Moves.{copies_code, stores_code, clears_code}
use Rattle.select_wide.specs.Pointers.{address_code, pointer_code, load_byte_code, load_code, store_byte_code, store_all_code}
use Rattle.select_wide.specs.Sums.{chain_operation, unless_carried, further_code, link_code, apart_code, chain_byte_code, chain_code, sum_code, bits_at_code, bits_code}
use Rattle.select_wide.specs.declared.operands.Chain.{Chain}
use Rattle.select_wide.specs.declared.operands.Chain.TheVariants.{Sum, Difference}
use Rattle.program_code.proofs.Chain.{never}
use Rattle.program_code.proofs.Paying.{extra, IsMine, IsEasy, easy_mine, mine_behind, easy_behind, Pays, pays_none, pays_on, pays_more, pays_plain, file_held, store_held, bit_held, file_mine, store_mine, clear_mine, Tame, Held, Bare, held_on, held_tame, held_bare, tame_on, tame_behind, bare_on, tame_more}

module _ (c : ℕ) where
  -- ---- behind a skip
  pub held_skip : (n m : ℕ) (pre d e : List Sym) → Held c n pre → Pays c true false 1 true true d → Pays c true true m true false e → Held c (n + 1 + m) (pre ++ d ++ e)
  held_skip n m pre d e p q r = pays_on c true false true true true false (n + 1) m (pre ++ d) e (pays_on c true false true false true true n 1 pre d p q) r

  pub tame_skip : (n m : ℕ) (pre d e : List Sym) → Tame c n pre → Pays c true false 1 true true d → Pays c true true m true false e → Tame c (n + 1 + m) (pre ++ d ++ e)
  tame_skip n m pre d e p q r has =
      pays_more c has false true false (n + extra has + 1 + m) (n + 1 + m + extra has) (pre ++ d ++ e) (omega arith)
      (pays_on c has false true true true false (n + extra has + 1) m (pre ++ d) e (pays_on c has false true false true true (n + extra has) 1 pre d (p has) q) r)

  pub held_skips : (n : ℕ) (pre d e f : List Sym) → Held c n pre → Pays c true false 1 true true d → Pays c true true 1 true true e → Pays c true true 1 true false f → Held c (n + 3) (pre ++ d ++ e ++ f)
  held_skips n pre d e f p q r s =
      pays_more c true false true false (n + 1 + 1 + 1) (n + 3) (pre ++ d ++ e ++ f) (omega arith)
      (pays_on c true false true true true false (n + 1 + 1) 1 (pre ++ d ++ e) f
      (pays_on c true false true true true true (n + 1) 1 (pre ++ d) e (pays_on c true false true false true true n 1 pre d p q) r) s)

  -- ---- single instructions
  pub number_bare : (value : ℕ) → Bare c 1 (number_code value)
  number_bare value has = pays_plain c (syms.Literal Movlw (Number value)) has false (refl, refl, refl, refl, refl)

  pub movlw_bare : (value : Literal) → Bare c 1 (syms.Literal Movlw value ∷ [])
  movlw_bare value has = pays_plain c (syms.Literal Movlw value) has false (refl, refl, refl, refl, refl)

  pub number_behind : (value : ℕ) → Pays c true true 1 true false (number_code value)
  number_behind value = pays_plain c (syms.Literal Movlw (Number value)) true true (refl, refl, refl, refl, refl)

  pub xor_behind : (value : ℕ) → Pays c true true 1 true false (syms.Literal Xorlw (Number value) ∷ [])
  xor_behind value = pays_plain c (syms.Literal Xorlw (Number value)) true true (refl, refl, refl, refl, refl)

  pub flag_clear : (flag : Flag) → Pays c true false 1 true true (flag_code Btfsc flag)
  flag_clear flag = pays_plain c (syms.Bit Btfsc (operands.Register Status) (flag_bit flag)) true false (refl, refl, refl, refl, refl)

  pub flag_set : (flag : Flag) → Pays c true false 1 true true (flag_code Btfss flag)
  flag_set flag = pays_plain c (syms.Bit Btfss (operands.Register Status) (flag_bit flag)) true false (refl, refl, refl, refl, refl)

  pub carry_off : Bare c 1 (flag_code Bcf Carry)
  carry_off has = pays_plain c (syms.Bit Bcf (operands.Register Status) (flag_bit Carry)) has false (refl, refl, refl, refl, refl)

  pub irp_off : Bare c 1 (flag_code Bcf Irp)
  irp_off has = pays_plain c (syms.Bit Bcf (operands.Register Status) (flag_bit Irp)) has false (refl, refl, refl, refl, refl)

  pub irp_on : Pays c true true 1 true false (flag_code Bsf Irp)
  irp_on = pays_plain c (syms.Bit Bsf (operands.Register Status) (flag_bit Irp)) true true (refl, refl, refl, refl, refl)

  pub to_fsr : Bare c 1 (syms.Movwf (operands.Register Fsr) ∷ [])
  to_fsr has = pays_plain c (syms.Movwf (operands.Register Fsr)) has false (refl, refl, refl, refl, refl)

  pub next_fsr : Bare c 1 (syms.File Incf (operands.Register Fsr) File ∷ [])
  next_fsr has = pays_plain c (syms.File Incf (operands.Register Fsr) File) has false (refl, refl, refl, refl, refl)

  pub from_indf : Bare c 1 (syms.File Movf (operands.Register Indf) W ∷ [])
  from_indf has = pays_plain c (syms.File Movf (operands.Register Indf) W) has false (refl, refl, refl, refl, refl)

  pub to_indf : Bare c 1 (syms.Movwf (operands.Register Indf) ∷ [])
  to_indf has = pays_plain c (syms.Movwf (operands.Register Indf)) has false (refl, refl, refl, refl, refl)

  pub clrw_bare : Bare c 1 (syms.Plain Clrw ∷ [])
  clrw_bare has = pays_plain c (syms.Plain Clrw) has false (refl, refl, refl, refl, refl)

  -- a byte of the frame or a result, where the frame's bank is selected
  pub file_one : (op : FileOperation) (byte : Byte) (into : Into) → skips_by_file op ≡ false → IsEasy c byte → Held c 1 (file_code op byte into)
  file_one op byte into e h = subst (λ (k : Bool). Pays c true false 1 true k (file_code op byte into)) e (file_held c op byte into false h)

  pub file_behind : (op : FileOperation) (byte : Byte) (into : Into) → skips_by_file op ≡ false → IsEasy c byte → Pays c true true 1 true false (file_code op byte into)
  file_behind op byte into e h = subst (λ (k : Bool). Pays c true true 1 true k (file_code op byte into)) e (file_held c op byte into true h)

  pub file_tame : (op : FileOperation) (byte : Byte) (into : Into) → skips_by_file op ≡ false → IsMine c byte → Tame c 1 (file_code op byte into)
  file_tame op byte into e h has = file_mine c op byte into has h e

  pub store_tame : (byte : Byte) → IsMine c byte → Tame c 1 (store_code byte)
  store_tame byte h has = store_mine c byte has h

  pub store_one : (byte : Byte) → IsEasy c byte → Held c 1 (store_code byte)
  store_one byte h = store_held c byte false h

  pub store_result : (r : Root) (k : ℕ) → Bare c 1 (store_code (bytes.Result r k))
  store_result r k has = pays_plain c (syms.Movwf (operands.Byte (bytes.Result r k))) has false (refl, refl, refl, refl, refl)

  pub load_result : (r : Root) (k : ℕ) → Bare c 1 (file_code Movf (bytes.Result r k) W)
  load_result r k has = pays_plain c (syms.File Movf (operands.Byte (bytes.Result r k)) W) has false (refl, refl, refl, refl, refl)

  -- ---- a number to a byte
  set_by : (byte : Byte) (value : ℕ) (clears : Bool) → IsMine c byte → Tame c 2 (cond clears (clear_code byte) (number_code value ++ store_code byte))
  set_by byte value true h = tame_more c 1 2 (clear_code byte) (omega arith) (λ has. clear_mine c byte has h)
  set_by byte value false h = tame_behind c 1 1 (number_code value) (store_code byte) (number_bare value) (store_tame byte h)

  pub set_tame : (byte : Byte) (value : ℕ) → IsMine c byte → Tame c 2 (set_code byte value)
  set_tame byte value h = set_by byte value (nat_eq value 0 && is_clearable byte) h

  pub zero_tame : (byte : Byte) → IsMine c byte → Tame c 1 (set_code byte 0)
  zero_tame (bytes.Frame d k) h has = clear_mine c (bytes.Frame d k) has h
  zero_tame (bytes.Static object offset) h has = absurd h
  zero_tame (bytes.Result r k) h has = absurd h
  zero_tame (bytes.Device address) h has = absurd h

  result_by : (r : Root) (k value : ℕ) (clears : Bool) → Bare c 2 (cond clears (clear_code (bytes.Result r k)) (number_code value ++ store_code (bytes.Result r k)))
  result_by r k value true has = pays_more c has false has false 1 2 (clear_code (bytes.Result r k)) (omega arith) (pays_plain c (syms.Clrf (operands.Byte (bytes.Result r k))) has false (refl, refl, refl, refl, refl))
  result_by r k value false has = bare_on c 1 1 (number_code value) (store_code (bytes.Result r k)) (number_bare value) (store_result r k) has

  pub set_result : (r : Root) (k value : ℕ) → Bare c 2 (set_code (bytes.Result r k) value)
  set_result r k value = result_by r k value (nat_eq value 0 && is_clearable (bytes.Result r k))

  -- ---- copies of a byte
  pub copy_tame : (to from : Byte) → IsMine c to → IsMine c from → Tame c 2 (copy_code to from)
  copy_tame to from h g = tame_on c 1 1 (file_code Movf from W) (store_code to) (file_tame Movf from W refl g) (store_one to (easy_mine c to h))

  pub copy_out : (to : Byte) (r : Root) (k : ℕ) → IsMine c to → Tame c 2 (copy_code to (bytes.Result r k))
  copy_out to r k h = tame_behind c 1 1 (file_code Movf (bytes.Result r k) W) (store_code to) (load_result r k) (store_tame to h)

  -- ---- so many bytes
  pub rising_held : (code : ℕ → List Sym) (n : ℕ → ℕ) (b : ℕ) → ((k : ℕ) → n k + b ≤ n (suc k)) → ((k : ℕ) → Held c b (code k)) → (w : ℕ) → Held c (n w) (rising code w)
  rising_held code n b l h zero = pays_more c true false true false 0 (n zero) [] (omega arith) (pays_none c true false)
  rising_held code n b l h (suc w) =
      let more = l w in
      pays_more c true false true false (n w + b) (n (suc w)) (rising code (suc w)) more (held_on c (n w) b (rising code w) (code w) (rising_held code n b l h w) (h w))

  not_first : (k : ℕ) → nat_eq (suc k) 0 ≡ false
  not_first k = ne_eqb (suc k) 0 (λ e. absurd (omega (arith, e)))

  pub rising_tame : (code : ℕ → List Sym) (n : ℕ → ℕ) (b : ℕ) → ((k : ℕ) → n k + b ≤ n (suc k)) → Tame c (n 0) (code 0) → ((k : ℕ) → nat_eq k 0 ≡ false → Held c b (code k)) → (k : ℕ) → Tame c (n k) (rising code (suc k))
  rising_tame code n b l first h zero = first
  rising_tame code n b l first h (suc k) =
      tame_more c (n k + b) (n (suc k)) (rising code (suc (suc k))) (l k) (tame_on c (n k) b (rising code (suc k)) (code (suc k)) (rising_tame code n b l first h k) (h (suc k) (not_first k)))

  -- each byte by itself, the first as the others
  pub rising_alike : (code : ℕ → List Sym) (b : ℕ) (n : ℕ → ℕ) → b ≤ n 0 → ((k : ℕ) → n k + b ≤ n (suc k)) → ((k : ℕ) → Tame c b (code k)) → (k : ℕ) → Tame c (n k) (rising code (suc k))
  rising_alike code b n f l h k = rising_tame code n b l (tame_more c b (n 0) (code 0) f (h 0)) (λ k e. held_tame c b (code k) (h k)) k

  pub copies_tame : (to from : Byte) → IsMine c to → IsMine c from → (k : ℕ) → Tame c (2 * k + 2) (copies_code to from (suc k))
  copies_tame to from h g k =
      rising_alike (λ k. copy_code (byte_behind to k) (byte_behind from k)) 2 (λ k. 2 * k + 2) (omega arith) (λ k. omega arith) (λ k. copy_tame (byte_behind to k) (byte_behind from k) (mine_behind c to k h) (mine_behind c from k g)) k

  pub copies_out : (to : Byte) (r : Root) (n : ℕ) → IsMine c to → (k : ℕ) → Tame c (2 * k + 2) (copies_code to (bytes.Result r n) (suc k))
  copies_out to r n h k =
      rising_alike (λ k. copy_code (byte_behind to k) (byte_behind (bytes.Result r n) k)) 2 (λ k. 2 * k + 2) (omega arith) (λ k. omega arith) (λ k. copy_out (byte_behind to k) r (min (n + k) 255) (mine_behind c to k h)) k

  pub clears_held : (to : Byte) → IsMine c to → (w : ℕ) → Held c (1 * w) (clears_code to w)
  clears_held to h w = rising_held (λ k. set_code (byte_behind to k) 0) (λ w. 1 * w) 1 (λ k. omega arith) (λ k. held_tame c 1 (set_code (byte_behind to k) 0) (zero_tame (byte_behind to k) (mine_behind c to k h))) w

  pub clears_tame : (to : Byte) → IsMine c to → (k : ℕ) → Tame c (k + 1) (clears_code to (suc k))
  clears_tame to h k = rising_alike (λ k. set_code (byte_behind to k) 0) 1 (λ k. k + 1) (omega arith) (λ k. omega arith) (λ k. zero_tame (byte_behind to k) (mine_behind c to k h)) k

  pub stores_held : (to : Byte) → IsMine c to → (w : ℕ) → Held c (1 * w) (stores_code to w)
  stores_held to h w = rising_held (λ k. store_code (byte_behind to k)) (λ w. 1 * w) 1 (λ k. omega arith) (λ k. store_one (byte_behind to k) (easy_mine c (byte_behind to k) (mine_behind c to k h))) w

  -- ---- addresses and pointers
  pub address_tame : (to place : Byte) → IsMine c to → Tame c 4 (address_code to place)
  address_tame to place h =
      tame_on c 3 1 (literal_code Movlw (Low place) ++ store_code to ++ literal_code Movlw (High place)) (store_code (byte_behind to 1))
      (tame_on c 2 1 (literal_code Movlw (Low place) ++ store_code to) (literal_code Movlw (High place)) (tame_behind c 1 1 (literal_code Movlw (Low place)) (store_code to) (movlw_bare (Low place)) (store_tame to h))
      (held_bare c 1 (literal_code Movlw (High place)) (movlw_bare (High place))))
      (store_one (byte_behind to 1) (easy_mine c (byte_behind to 1) (mine_behind c to 1 h)))

  pub pointer_tame : (pointer : Byte) → IsMine c pointer → Tame c 5 (pointer_code pointer)
  pointer_tame pointer h =
      tame_skip 3 1 (file_code Movf pointer W ++ register_store_code Fsr ++ flag_code Bcf Irp) (if_bit_code (byte_behind pointer 1) 0) (flag_code Bsf Irp)
      (tame_on c 2 1 (file_code Movf pointer W ++ register_store_code Fsr) (flag_code Bcf Irp) (tame_on c 1 1 (file_code Movf pointer W) (register_store_code Fsr) (file_tame Movf pointer W refl h) (held_bare c 1 (register_store_code Fsr) to_fsr))
      (held_bare c 1 (flag_code Bcf Irp) irp_off))
      (bit_held c Btfsc (byte_behind pointer 1) 0 false (mine_behind c pointer 1 h)) irp_on

  advance_by : (first : Bool) → Held c (if first then 0 else 1) (if first then [] else register_code Incf Fsr File)
  advance_by true = pays_none c true false
  advance_by false = held_bare c 1 (register_code Incf Fsr File) next_fsr

  load_by : (to : Byte) (k : ℕ) (first : Bool) → IsMine c to → Held c ((if first then 0 else 1) + 2) ((if first then [] else register_code Incf Fsr File) ++ register_code Movf Indf W ++ store_code (byte_behind to k))
  load_by to k first h =
      pays_more c true false true false ((if first then 0 else 1) + 1 + 1) ((if first then 0 else 1) + 2) ((if first then [] else register_code Incf Fsr File) ++ register_code Movf Indf W ++ store_code (byte_behind to k)) (omega arith)
      (held_on c ((if first then 0 else 1) + 1) 1 ((if first then [] else register_code Incf Fsr File) ++ register_code Movf Indf W) (store_code (byte_behind to k))
      (held_on c (if first then 0 else 1) 1 (if first then [] else register_code Incf Fsr File) (register_code Movf Indf W) (advance_by first) (held_bare c 1 (register_code Movf Indf W) from_indf))
      (store_one (byte_behind to k) (easy_mine c (byte_behind to k) (mine_behind c to k h))))

  store_by : (from : Byte) (k : ℕ) (first : Bool) → IsMine c from → Held c ((if first then 0 else 1) + 2) ((if first then [] else register_code Incf Fsr File) ++ file_code Movf (byte_behind from k) W ++ register_store_code Indf)
  store_by from k first h =
      pays_more c true false true false ((if first then 0 else 1) + 1 + 1) ((if first then 0 else 1) + 2) ((if first then [] else register_code Incf Fsr File) ++ file_code Movf (byte_behind from k) W ++ register_store_code Indf) (omega arith)
      (held_on c ((if first then 0 else 1) + 1) 1 ((if first then [] else register_code Incf Fsr File) ++ file_code Movf (byte_behind from k) W) (register_store_code Indf)
      (held_on c (if first then 0 else 1) 1 (if first then [] else register_code Incf Fsr File) (file_code Movf (byte_behind from k) W) (advance_by first)
      (file_one Movf (byte_behind from k) W refl (easy_mine c (byte_behind from k) (mine_behind c from k h)))) (held_bare c 1 (register_store_code Indf) to_indf))

  -- the bytes behind the pointer: two words the first, and three each further one
  moved_held : (code : ℕ → Bool → List Sym) → ((k : ℕ) (first : Bool) → Held c ((if first then 0 else 1) + 2) (code k first)) → (k : ℕ) → Held c (3 * k + 2) (rising (λ k. code k (nat_eq k 0)) (suc k))
  moved_held code h zero = h zero true
  moved_held code h (suc k) =
      pays_more c true false true false (3 * k + 2 + 3) (3 * suc k + 2) (rising (λ k. code k (nat_eq k 0)) (suc (suc k))) (omega arith)
      (held_on c (3 * k + 2) 3 (rising (λ k. code k (nat_eq k 0)) (suc k)) (code (suc k) (nat_eq (suc k) 0)) (moved_held code h k)
      (subst (λ (b : Bool). Held c 3 (code (suc k) b)) (sym (not_first k)) (h (suc k) false)))

  pub load_tame : (to pointer : Byte) → IsMine c to → IsMine c pointer → (k : ℕ) → Tame c (3 * k + 7) (load_code to pointer (suc k))
  load_tame to pointer h g k =
      tame_more c (5 + (3 * k + 2)) (3 * k + 7) (load_code to pointer (suc k)) (omega arith)
      (tame_on c 5 (3 * k + 2) (pointer_code pointer) (rising (load_byte_code to) (suc k)) (pointer_tame pointer g) (moved_held (λ k first. (if first then [] else register_code Incf Fsr File) ++ register_code Movf Indf W ++ store_code (byte_behind to k)) (λ k first. load_by to k first h) k))

  pub store_all_tame : (pointer from : Byte) → IsMine c pointer → IsMine c from → (k : ℕ) → Tame c (3 * k + 7) (store_all_code pointer from (suc k))
  store_all_tame pointer from h g k =
      tame_more c (5 + (3 * k + 2)) (3 * k + 7) (store_all_code pointer from (suc k)) (omega arith)
      (tame_on c 5 (3 * k + 2) (pointer_code pointer) (rising (store_byte_code from) (suc k)) (pointer_tame pointer h) (moved_held (λ k first. (if first then [] else register_code Incf Fsr File) ++ file_code Movf (byte_behind from k) W ++ register_store_code Indf) (λ k first. store_by from k first g) k))

  -- ---- sums, differences and bit operations
  no_skip : (chain : Chain) → skips_by_file (chain_operation chain) ≡ false
  no_skip Sum = refl
  no_skip Difference = refl

  pub pair_tame : (op : FileOperation) (left right : Byte) (into : Into) → skips_by_file op ≡ false → IsMine c left → IsEasy c right → Tame c 2 (pair_code op left right into)
  pair_tame op left (bytes.Frame d k) into e h g = tame_on c 1 1 (file_code Movf (bytes.Frame d k) W) (file_code op left into) (file_tame Movf (bytes.Frame d k) W refl g) (file_one op left into e (easy_mine c left h))
  pair_tame op left (bytes.Result r k) into e h g = tame_behind c 1 1 (file_code Movf (bytes.Result r k) W) (file_code op left into) (load_result r k) (file_tame op left into e h)
  pair_tame op left (bytes.Static object offset) into e h g = absurd g
  pair_tame op left (bytes.Device address) into e h g = absurd g

  carried : (chain : Chain) → Pays c true false 1 true true (flag_code (unless_carried chain) Carry)
  carried Sum = flag_clear Carry
  carried Difference = flag_set Carry

  pub further_held : (chain : Chain) (left right : Byte) (into : Into) → IsMine c left → IsEasy c right → Held c 4 (further_code chain left right into)
  further_held chain left right into h g =
      held_skips 1 (file_code Movf right W) (flag_code (unless_carried chain) Carry) (file_code Incfsz right W) (file_code (chain_operation chain) left into) (file_one Movf right W refl g) (carried chain)
      (file_held c Incfsz right W true g) (file_behind (chain_operation chain) left into (no_skip chain) (easy_mine c left h))

  further_tame : (chain : Chain) (left right : Byte) (into : Into) → IsMine c left → IsMine c right → Tame c 4 (further_code chain left right into)
  further_tame chain left right into h g has =
      pays_more c has false true false (1 + extra has + 1 + 1 + 1) (4 + extra has) (further_code chain left right into) (omega arith)
      (pays_on c has false true true true false (1 + extra has + 1 + 1) 1 (file_code Movf right W ++ flag_code (unless_carried chain) Carry ++ file_code Incfsz right W) (file_code (chain_operation chain) left into)
      (pays_on c has false true true true true (1 + extra has + 1) 1 (file_code Movf right W ++ flag_code (unless_carried chain) Carry) (file_code Incfsz right W)
      (pays_on c has false true false true true (1 + extra has) 1 (file_code Movf right W) (flag_code (unless_carried chain) Carry) (file_tame Movf right W refl g has) (carried chain)) (file_held c Incfsz right W true (easy_mine c right g)))
      (file_behind (chain_operation chain) left into (no_skip chain) (easy_mine c left h)))

  link_later : (chain : Chain) (left right : Byte) (into : Into) (k : ℕ) → nat_eq k 0 ≡ false → IsMine c left → IsEasy c right → Held c 4 (link_code chain left right into k)
  link_later chain left right into k e h g =
      subst (λ (b : Bool). Held c 4 (if b then pair_code (chain_operation chain) left right into else further_code chain (byte_behind left k) (byte_behind right k) into)) (sym e)
      (further_held chain (byte_behind left k) (byte_behind right k) into (mine_behind c left k h) (easy_behind c right k g))

  -- the links of a chain
  pub links_tame : (chain : Chain) (left right : Byte) (into : Into) → IsMine c left → IsEasy c right → (k : ℕ) → Tame c (4 * k + 2) (rising (link_code chain left right into) (suc k))
  links_tame chain left right into h g k =
      rising_tame (link_code chain left right into) (λ k. 4 * k + 2) 4 (λ k. omega arith) (pair_tame (chain_operation chain) left right into (no_skip chain) h g) (λ k e. link_later chain left right into k e h g) k

  rising_same : (f g : ℕ → List Sym) → ((k : ℕ) → f k ≡ g k) → (w : ℕ) → rising f w ≡ rising g w
  rising_same f g e zero = refl
  rising_same f g e (suc w) = ap (λ (l : List Sym). l ++ f w) (rising_same f g e w) ∙ ap (λ (l : List Sym). rising g w ++ l) (e w)

  pub chain_in_place : (chain : Chain) (to left right : Byte) → same_byte to left ≡ true → IsMine c left → IsEasy c right → (k : ℕ) → Tame c (4 * k + 2) (chain_code chain to left right (suc k))
  chain_in_place chain to left right e h g k =
      subst (Tame c (4 * k + 2)) (sym (rising_same (chain_byte_code chain to left right) (link_code chain left right File) (λ k. ap (λ (b : Bool). if b then link_code chain left right File k else apart_code chain to left right k) e) (suc k)))
      (links_tame chain left right File h g k)

  same_mine : (to right : Byte) → IsMine c to → IsEasy c right → same_byte to right ≡ true → IsMine c right
  same_mine to (bytes.Frame d k) h g e = g
  same_mine (bytes.Frame d k) (bytes.Result r n) h g e = never e
  same_mine (bytes.Static object offset) (bytes.Result r n) h g e = absurd h
  same_mine (bytes.Result q m) (bytes.Result r n) h g e = absurd h
  same_mine (bytes.Device address) (bytes.Result r n) h g e = absurd h
  same_mine to (bytes.Static object offset) h g e = absurd g
  same_mine to (bytes.Device address) h g e = absurd g

  pub sum_in_place : (to right : Byte) → same_byte to to ≡ true → IsMine c to → IsEasy c right → (k : ℕ) → Tame c (4 * k + 2) (sum_code to to right (suc k))
  sum_in_place to right same h g k = by_same (same_byte to right) refl
    where
      by_same : (b : Bool) → same_byte to right ≡ b → Tame c (4 * k + 2) (if b then chain_code Sum to right to (suc k) else chain_code Sum to to right (suc k))
      by_same true e = chain_in_place Sum to right to e (same_mine to right h g e) (easy_mine c to h) k
      by_same false e = chain_in_place Sum to to right same h g k

  -- a sum of two other values, or of whatever
  apart_first : (chain : Chain) (to left right : Byte) → IsMine c to → IsMine c left → IsMine c right → Tame c 3 (pair_code (chain_operation chain) left right W ++ store_code to)
  apart_first chain to left right h g f =
      tame_on c 2 1 (pair_code (chain_operation chain) left right W) (store_code to) (pair_tame (chain_operation chain) left right W (no_skip chain) g (easy_mine c right f)) (store_one to (easy_mine c to h))

  chain_byte : (chain : Chain) (to left right : Byte) (k : ℕ) (same first : Bool) → IsMine c to → IsMine c left → IsMine c right
      → Tame c 6 (if same then (if first then pair_code (chain_operation chain) left right File else further_code chain (byte_behind left k) (byte_behind right k) File) else (if first then pair_code (chain_operation chain) left right W ++ store_code to else copy_code (byte_behind to k) (byte_behind left k) ++ further_code chain (byte_behind to k) (byte_behind right k) File))
  chain_byte chain to left right k true true h g f = tame_more c 2 6 (pair_code (chain_operation chain) left right File) (omega arith) (pair_tame (chain_operation chain) left right File (no_skip chain) g (easy_mine c right f))
  chain_byte chain to left right k true false h g f = tame_more c 4 6 (further_code chain (byte_behind left k) (byte_behind right k) File) (omega arith) (further_tame chain (byte_behind left k) (byte_behind right k) File (mine_behind c left k g) (mine_behind c right k f))
  chain_byte chain to left right k false true h g f = tame_more c 3 6 (pair_code (chain_operation chain) left right W ++ store_code to) (omega arith) (apart_first chain to left right h g f)
  chain_byte chain to left right k false false h g f =
      tame_on c 2 4 (copy_code (byte_behind to k) (byte_behind left k)) (further_code chain (byte_behind to k) (byte_behind right k) File) (copy_tame (byte_behind to k) (byte_behind left k) (mine_behind c to k h) (mine_behind c left k g))
      (further_held chain (byte_behind to k) (byte_behind right k) File (mine_behind c to k h) (easy_mine c (byte_behind right k) (mine_behind c right k f)))

  pub chain_tame : (chain : Chain) (to left right : Byte) → IsMine c to → IsMine c left → IsMine c right → (k : ℕ) → Tame c (6 * k + 6) (chain_code chain to left right (suc k))
  chain_tame chain to left right h g f k =
      rising_alike (chain_byte_code chain to left right) 6 (λ k. 6 * k + 6) (omega arith) (λ k. omega arith) (λ k. chain_byte chain to left right k (same_byte to left) (nat_eq k 0) h g f) k

  pub sum_tame : (to left right : Byte) → IsMine c to → IsMine c left → IsMine c right → (k : ℕ) → Tame c (6 * k + 6) (sum_code to left right (suc k))
  sum_tame to left right h g f k = by_same (same_byte to right)
    where
      by_same : (b : Bool) → Tame c (6 * k + 6) (if b then chain_code Sum to right left (suc k) else chain_code Sum to left right (suc k))
      by_same true = chain_tame Sum to right left h f g k
      by_same false = chain_tame Sum to left right h g f k

  bits_by : (op : FileOperation) (to left right : Byte) (same : Bool) → skips_by_file op ≡ false → IsMine c to → IsMine c left → IsEasy c right → Tame c 3 (if same then pair_code op left right File else pair_code op left right W ++ store_code to)
  bits_by op to left right true e h g f = tame_more c 2 3 (pair_code op left right File) (omega arith) (pair_tame op left right File e g f)
  bits_by op to left right false e h g f = tame_on c 2 1 (pair_code op left right W) (store_code to) (pair_tame op left right W e g f) (store_one to (easy_mine c to h))

  pub bits_tame : (op : FileOperation) (to left right : Byte) → skips_by_file op ≡ false → IsMine c to → IsMine c left → IsEasy c right → (k : ℕ) → Tame c (3 * k + 3) (bits_code op to left right (suc k))
  bits_tame op to left right e h g f k =
      rising_alike (bits_at_code op to left right) 3 (λ k. 3 * k + 3) (omega arith) (λ k. omega arith)
      (λ k. bits_by op (byte_behind to k) (byte_behind left k) (byte_behind right k) (same_byte (byte_behind to k) (byte_behind left k)) e (mine_behind c to k h) (mine_behind c left k g) (easy_behind c right k f)) k
