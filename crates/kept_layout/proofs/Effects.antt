-- What an instruction does over the layout in which private objects are main's own bytes.
use Rattle.std.proofs.Common.{◌≡◌, ℕ, Bool, true, false, not, ◌&&◌, ◌||◌, nat_eq, nat_lt, if◌then◌else◌, List, [], ◌∷◌, length, Option, Some, None, refl, sym, ap, ◌∙◌}
use Rattle.core_code.specs.declared.code.Byte.TheVariants as bytes
use Rattle.pic_world.specs.Bits.{bit, set_bit, clear_bit, truth}
use Rattle.pic_world.specs.declared.Root.{Root}
use Rattle.pic_world.specs.declared.Root.TheVariants.{Main, Isr}
use Rattle.kept_trace.specs.Kept.{is_kept_cell}
use Rattle.select_wide.specs.Direct.{is_clear, is_indf, clears}
use Rattle.sym_code.specs.Effect.{Setting, Thread, Memory, Loud, Port, Shared, Access, Pointer, Event, Silent, Denied, Effect, Stuck, Quiet, Reads, Writes, access_of, goes, result_in_w, after_file, file_to_w, file_to_file, store, change, test, file_bit, put_flag, test_flag, flag, bits, is_in_page, jump_to, halt, restore, goto, call, back, literal_value, literal, plain, is_far, select, silent_byte, result_byte, number_of, table_byte, brought, looked_up, look_up, effect_of}
use Rattle.sym_code.specs.Layout.{IsLaidOut, address_byte, address_of, general_at, all_near, owner}
use Rattle.sym_code.specs.Programs.{Program, Position, stand, behind, onward, place_of, own_place}
use Rattle.sym_code.specs.Registers.{Registers, Spoiled, pointer, status_bit, with_status_bit, with_bank_bit, literal_row, after_row, result_with}
use Rattle.sym_code.specs.declared.code.BankBit.{BankBit}
use Rattle.sym_code.specs.declared.code.BitOperation.{BitOperation}
use Rattle.sym_code.specs.declared.code.BitOperation.TheVariants.{Bcf, Bsf, Btfsc, Btfss}
use Rattle.sym_code.specs.declared.code.BlockName.{BlockName}
use Rattle.sym_code.specs.declared.code.FileOperation.{FileOperation}
use Rattle.sym_code.specs.declared.code.Into.TheVariants as into
use Rattle.sym_code.specs.declared.code.Label.TheVariants as labels
use Rattle.sym_code.specs.declared.code.Literal.{Literal}
use Rattle.sym_code.specs.declared.code.Literal.TheVariants as literals
use Rattle.sym_code.specs.declared.code.LiteralOperation.{LiteralOperation}
use Rattle.sym_code.specs.declared.code.LiteralOperation.TheVariants.{Retlw}
use Rattle.sym_code.specs.declared.code.Operand.{Operand}
use Rattle.sym_code.specs.declared.code.Operand.TheVariants as operands
use Rattle.sym_code.specs.declared.code.PageBit.{PageBit}
use Rattle.sym_code.specs.declared.code.PlainOperation.{PlainOperation}
use Rattle.sym_code.specs.declared.code.PlainOperation.TheVariants.{Clrw, Nop, Retfie, Return}
use Rattle.sym_code.specs.declared.code.Register.TheVariants.{Indf, Status, Fsr, Pclath}
use Rattle.sym_code.specs.declared.code.Sym.{Sym}
use Rattle.sym_code.specs.declared.code.Sym.TheVariants as syms
use Rattle.sym_code.specs.declared.code.Target.{Target}
use Rattle.sym_code.specs.declared.code.Target.TheVariants as targets
use Rattle.kept_layout.specs.KeptLayout.{kept_layout, kept_program, kept_setting, is_private_byte}
use Rattle.kept_layout.specs.OpenCode.{operand_opens, literal_opens, sym_by, sym_opens}
use Rattle.kept_layout.proofs.Owners.{never, common_clear}
use Rattle.kept_layout.proofs.Accesses.{address_same, near_same, is_kept_loud, seen_access, access_opens, access_same, access_open}

-- ---- effects
-- an event of a private byte is none
abbrev pub reads_seen : Memory → Loud → (ℕ → Thread) → Bool → Effect
reads_seen m (Port address) next k = Reads (Port address) next
reads_seen m (Shared j cell) next k = if k then Reads (Shared j cell) next else Quiet (next (m j)) None

abbrev pub writes_seen : Loud → ℕ → Thread → Bool → Effect
writes_seen (Port address) v th k = Writes (Port address) v th
writes_seen (Shared j cell) v th k = if k then Writes (Shared j cell) v th else Quiet th (Some (record { number = j; byte = v }))

abbrev pub seen_effect : List Bool → Memory → Effect → Effect
seen_effect kept m (Reads b next) = reads_seen m b next (is_kept_loud kept b)
seen_effect kept m (Writes b v th) = writes_seen b v th (is_kept_loud kept b)
seen_effect kept m e = e

module _ (kept : List Bool) (q : Program) (p : Position) (th : Thread) (m : Memory) where
  abbrev other : Program
  other = kept_program kept q

  file_w_seen : (op : FileOperation) (a : Access) → file_to_w other p th m op (seen_access kept a) ≡ seen_effect kept m (file_to_w q p th m op a)
  unfolding stand
  file_w_seen op Pointer = refl
  file_w_seen op (Event (Port address)) = refl
  file_w_seen op (Event (Shared k cell)) = by (is_kept_cell kept cell)
    where
      by : (b : Bool) → file_to_w other p th m op (if b then Event (Shared k cell) else Silent k) ≡ reads_seen m (Shared k cell) (λ x. result_in_w q p th op x) b
      by true = refl
      by false = refl
  file_w_seen op (Silent k) = refl
  file_w_seen op Denied = refl

  file_file_seen : (op : FileOperation) (a : Access) → access_opens kept false a ≡ true → file_to_file other p th m op (seen_access kept a) ≡ seen_effect kept m (file_to_file q p th m op a)
  unfolding stand
  file_file_seen op Pointer e = refl
  file_file_seen op (Event (Port address)) e = refl
  file_file_seen op (Event (Shared k cell)) e = by (is_kept_cell kept cell) e
    where
      by : (b : Bool) → b ≡ true → file_to_file other p th m op (if b then Event (Shared k cell) else Silent k) ≡ reads_seen m (Shared k cell) (λ x. record (after_file q p th op x) { rest = Some (record { to = Shared k cell; byte = result_with th.registers op x }) }) b
      by true h = refl
      by false h = never (sym h)
  file_file_seen op (Silent k) e = refl
  file_file_seen op Denied e = refl

  store_seen : (r : Registers) (v : ℕ) (a : Access) → store other p th r v (seen_access kept a) ≡ seen_effect kept m (store q p th r v a)
  unfolding stand
  store_seen r v Pointer = refl
  store_seen r v (Event (Port address)) = refl
  store_seen r v (Event (Shared k cell)) = by (is_kept_cell kept cell)
    where
      by : (b : Bool) → store other p th r v (if b then Event (Shared k cell) else Silent k) ≡ writes_seen (Shared k cell) v (goes th (behind q p) r) b
      by true = refl
      by false = refl
  store_seen r v (Silent k) = refl
  store_seen r v Denied = refl

  change_seen : (f : ℕ → ℕ) (a : Access) → access_opens kept false a ≡ true → change other p th m f (seen_access kept a) ≡ seen_effect kept m (change q p th m f a)
  unfolding stand
  change_seen f Pointer e = refl
  change_seen f (Event (Port address)) e = refl
  change_seen f (Event (Shared k cell)) e = by (is_kept_cell kept cell) e
    where
      by : (b : Bool) → b ≡ true → change other p th m f (if b then Event (Shared k cell) else Silent k) ≡ reads_seen m (Shared k cell) (λ x. record (goes th (behind q p) th.registers) { rest = Some (record { to = Shared k cell; byte = f x }) }) b
      by true h = refl
      by false h = never (sym h)
  change_seen f (Silent k) e = refl
  change_seen f Denied e = refl

  test_seen : (holds : ℕ → Bool) (a : Access) → test other p th m holds (seen_access kept a) ≡ seen_effect kept m (test q p th m holds a)
  unfolding stand
  test_seen holds Pointer = refl
  test_seen holds (Event (Port address)) = refl
  test_seen holds (Event (Shared k cell)) = by (is_kept_cell kept cell)
    where
      by : (b : Bool) → test other p th m holds (if b then Event (Shared k cell) else Silent k) ≡ reads_seen m (Shared k cell) (λ x. goes th (onward q p (holds x)) th.registers) b
      by true = refl
      by false = refl
  test_seen holds (Silent k) = refl
  test_seen holds Denied = refl

  -- ---- flags, jumps and the others
  put_flag_seen : (o : Option Registers) → put_flag other p th o ≡ seen_effect kept m (put_flag q p th o)
  unfolding stand
  put_flag_seen None = refl
  put_flag_seen (Some r) = refl

  test_flag_seen : (v : ℕ) (o : Option ℕ) → test_flag other p th v o ≡ seen_effect kept m (test_flag q p th v o)
  unfolding stand
  test_flag_seen v None = refl
  test_flag_seen v (Some x) = refl

  stuck_or : (b : Bool) (e f : Effect) → e ≡ seen_effect kept m f → (if b then Stuck else e) ≡ seen_effect kept m (if b then Stuck else f)
  stuck_or true e f h = refl
  stuck_or false e f h = h

  or_stuck : (b : Bool) (e f : Effect) → e ≡ seen_effect kept m f → (if b then e else Stuck) ≡ seen_effect kept m (if b then f else Stuck)
  or_stuck true e f h = h
  or_stuck false e f h = refl

  flag_seen : (op : BitOperation) (b : ℕ) → flag other p th op b ≡ seen_effect kept m (flag q p th op b)
  flag_seen Bcf b = put_flag_seen (with_status_bit th.registers b 0)
  flag_seen Bsf b =
      ap (λ (c : Bool). if nat_eq b 7 && c then Stuck else put_flag other p th (with_status_bit th.registers b 1)) (near_same kept q.layout)
      ∙ stuck_or (nat_eq b 7 && all_near q.layout) (put_flag other p th (with_status_bit th.registers b 1)) (put_flag q p th (with_status_bit th.registers b 1)) (put_flag_seen (with_status_bit th.registers b 1))
  flag_seen Btfsc b = test_flag_seen 0 (status_bit th.registers b)
  flag_seen Btfss b = test_flag_seen 1 (status_bit th.registers b)

  jump_seen : (th : Thread) (o : Option Position) → jump_to th o ≡ seen_effect kept m (jump_to th o)
  jump_seen th None = refl
  jump_seen th (Some p) = refl

  halt_seen : (inside : Bool) (stack : List Position) → halt inside th stack ≡ seen_effect kept m (halt inside th stack)
  halt_seen false [] = refl
  halt_seen false (s ∷ stack) = refl
  halt_seen true [] = refl
  halt_seen true (s ∷ stack) = refl

  restore_seen : (inside : Bool) (stack : List Position) → restore inside stack ≡ seen_effect kept m (restore inside stack)
  restore_seen false [] = refl
  restore_seen false (s ∷ stack) = refl
  restore_seen true [] = refl
  restore_seen true (s ∷ stack) = refl

  back_seen : (th : Thread) (stack : List Position) → back th stack ≡ seen_effect kept m (back th stack)
  back_seen th [] = refl
  back_seen th (s ∷ stack) = refl

  place_same : (target : Target) → place_of other p target ≡ place_of q p target
  unfolding stand
  place_same (targets.Block name) = refl
  place_same (targets.Label labels.Halt) = refl
  place_same (targets.Label labels.Restore) = refl
  place_same (targets.Label (labels.Inner n)) = refl

  literal_seen : (op : LiteralOperation) (r : Registers) → literal other p th op r ≡ seen_effect kept m (literal q p th op r)
  unfolding stand
  literal_seen Retlw r = back_seen (record th { registers = r }) th.stack
  literal_seen op r = refl

  plain_seen : (op : PlainOperation) → plain other p th op ≡ seen_effect kept m (plain q p th op)
  unfolding stand
  plain_seen Clrw = refl
  plain_seen Nop = refl
  plain_seen Retfie = refl
  plain_seen Return = back_seen th th.stack

  quiet_select : (which : BankBit) (to : Bool) → select other p th which to ≡ seen_effect kept m (select q p th which to)
  unfolding stand
  quiet_select which to =
      ap (λ (c : Bool). if is_far which to && c then Stuck else Quiet (goes th (behind other p) (with_bank_bit th.registers which (truth to))) None) (near_same kept q.layout)
      ∙ stuck_or (is_far which to && all_near q.layout) (Quiet (goes th (behind other p) (with_bank_bit th.registers which (truth to))) None) (Quiet (goes th (behind q p) (with_bank_bit th.registers which (truth to))) None) refl

module _ (kept : List Bool) (reaches : ℕ → ℕ → Bool) (g : Setting) (laid : IsLaidOut reaches g.program.layout) (handlers : BlockName → Bool) (inside : Bool) (p : Position) (th : Thread) (m : Memory) where
  abbrev q : Program
  q = g.program

  abbrev h : Setting
  h = kept_setting kept g

  abbrev hidden : ℕ → Bool
  hidden = is_private_byte kept q.layout

  -- what is known of an operand
  pub record IsClearOperand (operand : Operand) : Type 0 where
    is : is_indf operand ≡ true → is_clear hidden (general_at (pointer th.registers)) ≡ true

  abbrev seen_there : Effect → Effect
  seen_there = seen_effect kept m

  goto_seen : (target : Target) → goto h inside p th target ≡ seen_there (goto g inside p th target)
  goto_seen (targets.Label labels.Halt) = halt_seen kept q p th m inside th.stack
  goto_seen (targets.Label labels.Restore) = restore_seen kept q p th m inside th.stack
  goto_seen (targets.Block name) = ap (jump_to th) (place_same kept q p th m (targets.Block name)) ∙ jump_seen kept q p th m th (place_of q p (targets.Block name))
  goto_seen (targets.Label (labels.Inner n)) = ap (jump_to th) (place_same kept q p th m (targets.Label (labels.Inner n))) ∙ jump_seen kept q p th m th (place_of q p (targets.Label (labels.Inner n)))

  call_seen : (target : Target) → call h inside p th target ≡ seen_there (call g inside p th target)
  unfolding stand
  call_seen target =
      ap (λ (o : Option Position). if nat_lt (length th.stack) (g.limit inside) then jump_to (record th { stack = behind q p ∷ th.stack }) o else Stuck) (place_same kept q p th m target)
      ∙ or_stuck kept q p th m (nat_lt (length th.stack) (g.limit inside)) (jump_to (record th { stack = behind q p ∷ th.stack }) (place_of q p target)) (jump_to (record th { stack = behind q p ∷ th.stack }) (place_of q p target)) (jump_seen kept q p th m (record th { stack = behind q p ∷ th.stack }) (place_of q p target))

  -- ---- tables
  silent_seen : (a : Access) → access_opens kept false a ≡ true → silent_byte m (seen_access kept a) ≡ silent_byte m a
  silent_seen Pointer e = refl
  silent_seen (Event (Port address)) e = refl
  silent_seen (Event (Shared k cell)) e = by (is_kept_cell kept cell) e
    where
      by : (b : Bool) → b ≡ true → silent_byte m (if b then Event (Shared k cell) else Silent k) ≡ None
      by true f = refl
      by false f = never (sym f)
  silent_seen (Silent k) e = refl
  silent_seen Denied e = refl

  result_clear : (root : Root) (low : Bool) → is_clear hidden (general_at (address_of q.layout (bytes.Result root (if low then 0 else 1)))) ≡ true
  unfolding address_of general_at owner
  result_clear Main true = ap not (common_clear kept reaches q.layout laid 0x70 refl)
  result_clear Main false = ap not (common_clear kept reaches q.layout laid 0x71 refl)
  result_clear Isr true = ap not (common_clear kept reaches q.layout laid 0x74 refl)
  result_clear Isr false = ap not (common_clear kept reaches q.layout laid 0x75 refl)

  no_free : false ≡ true → inside ≡ false
  no_free e = never (sym e)

  byte_seen : (root : Root) (k : ℕ) → is_clear hidden (general_at (address_of q.layout (bytes.Result root k))) ≡ true → result_byte h inside th.registers m root k ≡ result_byte g inside th.registers m root k
  byte_seen root k e =
      ap (silent_byte m) (access_same kept reaches g laid inside false th.registers false no_free (operands.Byte (bytes.Result root k)) e (λ f. never (sym f)))
      ∙ silent_seen (access_of g inside false th.registers (operands.Byte (bytes.Result root k))) (access_open kept reaches g laid inside false th.registers false (operands.Byte (bytes.Result root k)) e (λ f. never (sym f)))

  brought_seen : (left : Spoiled) (o : Option ℕ) → brought h p th left o ≡ seen_there (brought g p th left o)
  unfolding stand
  brought_seen left None = refl
  brought_seen left (Some v) = refl

  looked_seen : (table : ℕ) (o : Option ℕ) → looked_up h p th table o ≡ seen_there (looked_up g p th table o)
  looked_seen table None = refl
  looked_seen table (Some k) = brought_seen (g.leaves table k) (table_byte (q.tables table) k)

  look_seen : (table : ℕ) (root : Root) → look_up h inside p th m table root ≡ seen_there (look_up g inside p th m table root)
  look_seen table root =
      ap (λ (o : Option ℕ). if nat_lt (length th.stack) (g.limit inside) then looked_up h p th table (number_of o (result_byte h inside th.registers m root 1)) else Stuck) (byte_seen root 0 (result_clear root true))
      ∙ ap (λ (o : Option ℕ). if nat_lt (length th.stack) (g.limit inside) then looked_up h p th table (number_of (result_byte g inside th.registers m root 0) o) else Stuck) (byte_seen root 1 (result_clear root false))
      ∙ or_stuck kept q p th m (nat_lt (length th.stack) (g.limit inside)) (looked_up h p th table (number_of (result_byte g inside th.registers m root 0) (result_byte g inside th.registers m root 1)))
      (looked_up g p th table (number_of (result_byte g inside th.registers m root 0) (result_byte g inside th.registers m root 1)))
      (looked_seen table (number_of (result_byte g inside th.registers m root 0) (result_byte g inside th.registers m root 1)))

  -- ---- one instruction
  module _ (home : (not inside || handlers p.block) ≡ true) where
    outside : not (handlers p.block) ≡ true → inside ≡ false
    outside e = by inside (handlers p.block) home e
      where
        by : (i b : Bool) → (not i || b) ≡ true → not b ≡ true → i ≡ false
        by false b f e = refl
        by true true f e = never (sym e)
        by true false f e = never (sym f)

    abbrev Opens : Sym → Type 0
    Opens s = sym_opens handlers hidden q.layout p.block s ≡ true

    abbrev Clears : Sym → Type 0
    Clears s = clears hidden th.registers (Some s) ≡ true

    clear_if : (b c : Bool) → (not b || c) ≡ true → b ≡ true → c ≡ true
    clear_if true c e f = e
    clear_if false c e f = never (sym f)

    read_same : (operand : Operand) → operand_opens hidden q.layout (not (handlers p.block)) operand ≡ true → (not (is_indf operand) || is_clear hidden (general_at (pointer th.registers))) ≡ true → (writes : Bool)
        → access_of h inside writes th.registers operand ≡ seen_access kept (access_of g inside writes th.registers operand)
    read_same operand o c writes = access_same kept reaches g laid inside writes th.registers (not (handlers p.block)) outside operand o (clear_if (is_indf operand) (is_clear hidden (general_at (pointer th.registers))) c)

    whole_same : (operand : Operand) → operand_opens hidden q.layout false operand ≡ true → (not (is_indf operand) || is_clear hidden (general_at (pointer th.registers))) ≡ true
        → access_of h inside true th.registers operand ≡ seen_access kept (access_of g inside true th.registers operand)
    whole_same operand o c = access_same kept reaches g laid inside true th.registers false no_free operand o (clear_if (is_indf operand) (is_clear hidden (general_at (pointer th.registers))) c)

    pub whole_open : (operand : Operand) → operand_opens hidden q.layout false operand ≡ true → (not (is_indf operand) || is_clear hidden (general_at (pointer th.registers))) ≡ true → access_opens kept false (access_of g inside true th.registers operand) ≡ true
    whole_open operand o c = access_open kept reaches g laid inside true th.registers false operand o (clear_if (is_indf operand) (is_clear hidden (general_at (pointer th.registers))) c)

    file_bit_seen : (op : BitOperation) (b : ℕ) (operand : Operand) → Opens (syms.Bit op operand b) → Clears (syms.Bit op operand b) → file_bit h inside p th m op b operand ≡ seen_there (file_bit g inside p th m op b operand)
    unfolding sym_by
    file_bit_seen Bcf b operand o c = ap (change h.program p th m (clear_bit b)) (whole_same operand o c) ∙ change_seen kept q p th m (clear_bit b) (access_of g inside true th.registers operand) (whole_open operand o c)
    file_bit_seen Bsf b operand o c = ap (change h.program p th m (set_bit b)) (whole_same operand o c) ∙ change_seen kept q p th m (set_bit b) (access_of g inside true th.registers operand) (whole_open operand o c)
    file_bit_seen Btfsc b operand o c = ap (test h.program p th m (λ x. nat_eq (bit x b) 0)) (read_same operand o c false) ∙ test_seen kept q p th m (λ x. nat_eq (bit x b) 0) (access_of g inside false th.registers operand)
    file_bit_seen Btfss b operand o c = ap (test h.program p th m (λ x. nat_eq (bit x b) 1)) (read_same operand o c false) ∙ test_seen kept q p th m (λ x. nat_eq (bit x b) 1) (access_of g inside false th.registers operand)

    bits_seen : (op : BitOperation) (b : ℕ) (operand : Operand) → Opens (syms.Bit op operand b) → Clears (syms.Bit op operand b) → bits h inside p th m op b operand ≡ seen_there (bits g inside p th m op b operand)
    bits_seen op b (operands.Register Status) o c = flag_seen kept q p th m op b
    bits_seen op b (operands.Register Indf) o c = file_bit_seen op b (operands.Register Indf) o c
    bits_seen op b (operands.Register Fsr) o c = file_bit_seen op b (operands.Register Fsr) o c
    bits_seen op b (operands.Register Pclath) o c = file_bit_seen op b (operands.Register Pclath) o c
    bits_seen op b (operands.Byte byte) o c = file_bit_seen op b (operands.Byte byte) o c
    bits_seen op b (operands.Saved cell) o c = file_bit_seen op b (operands.Saved cell) o c

    value_same : (v : Literal) → literal_opens q.layout v ≡ true → literal_value (kept_layout kept q.layout) v ≡ literal_value q.layout v
    value_same (literals.Number n) e = refl
    value_same (literals.Low byte) e = ap (address_byte false) (address_same kept q.layout byte e)
    value_same (literals.High byte) e = ap (address_byte true) (address_same kept q.layout byte e)

    page_seen : (which : PageBit) (target : Target) → effect_of h inside p th m (syms.SelectPage which target) ≡ seen_there (effect_of g inside p th m (syms.SelectPage which target))
    unfolding effect_of stand
    page_seen which target = refl

    pub one_seen : (s : Sym) → Opens s → Clears s → effect_of h inside p th m s ≡ seen_there (effect_of g inside p th m s)
    unfolding effect_of sym_by
    one_seen (syms.File op operand into.W) o c = ap (file_to_w h.program p th m op) (read_same operand o c false) ∙ file_w_seen kept q p th m op (access_of g inside false th.registers operand)
    one_seen (syms.File op operand into.File) o c = ap (file_to_file h.program p th m op) (whole_same operand o c) ∙ file_file_seen kept q p th m op (access_of g inside true th.registers operand) (whole_open operand o c)
    one_seen (syms.Movwf operand) o c = ap (store h.program p th th.registers th.registers.w) (read_same operand o c true) ∙ store_seen kept q p th m th.registers th.registers.w (access_of g inside true th.registers operand)
    one_seen (syms.Clrf operand) o c = ap (store h.program p th (record th.registers { z = 1 }) 0) (read_same operand o c true) ∙ store_seen kept q p th m (record th.registers { z = 1 }) 0 (access_of g inside true th.registers operand)
    one_seen (syms.Bit op operand b) o c = bits_seen op b operand o c
    one_seen (syms.Literal op value) o c =
        ap (λ (v : ℕ). literal h.program p th op (after_row (literal_row op v) th.registers)) (value_same value o)
        ∙ literal_seen kept q p th m op (after_row (literal_row op (literal_value q.layout value)) th.registers)
    one_seen (syms.Plain op) o c = plain_seen kept q p th m op
    one_seen (syms.Call target) o c = or_stuck kept q p th m (is_in_page g p th.registers target) (call h inside p th target) (call g inside p th target) (call_seen target)
    one_seen (syms.Goto target) o c = or_stuck kept q p th m (is_in_page g p th.registers target) (goto h inside p th target) (goto g inside p th target) (goto_seen target)
    one_seen (syms.Label label) o c = refl
    one_seen (syms.SelectBank which to) o c = quiet_select kept q p th m which to
    one_seen (syms.SelectPage which target) o c = page_seen which target
    one_seen (syms.Table table root) o c = or_stuck kept q p th m (is_in_page g p th.registers own_place) (look_up h inside p th m table root) (look_up g inside p th m table root) (look_seen table root)
