-- A thread stays in the blocks of its root, and what is left of its instruction to write isn't private.
use Rattle.std.proofs.Common.{◌≡◌, ℕ, Bool, true, false, not, ◌&&◌, ◌||◌, nat_eq, nat_lt, if◌then◌else◌, List, [], ◌∷◌, length, Option, Some, None, option_map, refl, sym, ap, ◌∙◌}
use Rattle.std.specs.List.{list_all}
use Rattle.pic_world.specs.Bits.{bit, set_bit, clear_bit}
use Rattle.pic_world.specs.declared.Root.{Root}
use Rattle.select_wide.specs.Direct.{is_clear, is_indf, clears}
use Rattle.sym_code.specs.Effect.{Setting, Thread, Memory, Rest, Loud, Access, Pointer, Event, Silent, Denied, Effect, Stuck, Quiet, Reads, Writes, Leaves, Ends, Rests, access_of, goes, file_to_w, file_to_file, store, change, test, file_bit, put_flag, test_flag, flag, bits, is_in_page, jump_to, halt, restore, goto, call, back, literal_value, literal, plain, is_far, select, result_byte, number_of, table_byte, brought, looked_up, look_up, effect_of}
use Rattle.sym_code.specs.Layout.{IsLaidOut, all_near, general_at}
use Rattle.sym_code.specs.Programs.{Program, Position, position, stand, behind, onward, place_of, own_place, label_from}
use Rattle.sym_code.specs.Registers.{Registers, Spoiled, pointer, status_bit, with_status_bit, literal_row, after_row}
use Rattle.sym_code.specs.declared.code.BankBit.{BankBit}
use Rattle.sym_code.specs.declared.code.BitOperation.{BitOperation}
use Rattle.sym_code.specs.declared.code.BitOperation.TheVariants.{Bcf, Bsf, Btfsc, Btfss}
use Rattle.sym_code.specs.declared.code.BlockName.{BlockName}
use Rattle.sym_code.specs.declared.code.FileOperation.{FileOperation}
use Rattle.sym_code.specs.declared.code.Into.TheVariants as into
use Rattle.sym_code.specs.declared.code.Label.TheVariants as labels
use Rattle.sym_code.specs.declared.code.LiteralOperation.{LiteralOperation}
use Rattle.sym_code.specs.declared.code.LiteralOperation.TheVariants.{Retlw}
use Rattle.sym_code.specs.declared.code.Operand.{Operand}
use Rattle.sym_code.specs.declared.code.Operand.TheVariants as operands
use Rattle.sym_code.specs.declared.code.PlainOperation.{PlainOperation}
use Rattle.sym_code.specs.declared.code.PlainOperation.TheVariants.{Clrw, Nop, Retfie, Return}
use Rattle.sym_code.specs.declared.code.Register.TheVariants.{Indf, Status, Fsr, Pclath}
use Rattle.sym_code.specs.declared.code.Sym.{Sym}
use Rattle.sym_code.specs.declared.code.Sym.TheVariants as syms
use Rattle.sym_code.specs.declared.code.Target.{Target}
use Rattle.sym_code.specs.declared.code.Target.TheVariants as targets
use Rattle.kept_layout.specs.KeptLayout.{is_private_byte}
use Rattle.kept_layout.specs.OpenCode.{operand_opens, target_stays, sym_by, sym_opens}
use Rattle.kept_layout.proofs.Owners.{never, left_of, right_of}
use Rattle.kept_layout.proofs.Accesses.{is_kept_loud, access_opens}
use Rattle.kept_layout.proofs.Effects.{whole_open}

abbrev pub rest_kept : List Bool → Option Rest → Bool
rest_kept kept None = true
rest_kept kept (Some x) = is_kept_loud kept x.to

module _ (kept : List Bool) (handlers : BlockName → Bool) (inside : Bool) where
  abbrev pub is_home : Position → Bool
  is_home p = not inside || handlers p.block

  abbrev pub at_home : Option Position → Bool
  at_home None = true
  at_home (Some p) = is_home p

  pub record Fits (th : Thread) : Type 0 where
    pub rest : rest_kept kept th.rest ≡ true
    pub at : at_home th.at ≡ true
    pub stack : list_all is_home th.stack ≡ true

  -- so of each thread that an effect leads to
  abbrev pub Fine : Effect → Type 0
  Fine Stuck = Unit {0}
  Fine (Quiet th x) = Fits th
  Fine (Reads b next) = (v : ℕ) → Fits (next v)
  Fine (Writes b v th) = Fits th
  Fine Leaves = Unit {0}
  Fine (Ends th) = Fits th
  Fine Rests = Unit {0}

  module _ (q : Program) (p : Position) (th : Thread) (m : Memory) (fits : Fits th) (home : is_home p ≡ true) where
    behind_fits : (r : Registers) → Fits (goes th (behind q p) r)
    unfolding stand
    behind_fits r = record { rest = fits.rest; at = home; stack = fits.stack }

    onward_fits : (b : Bool) (r : Registers) → Fits (goes th (onward q p b) r)
    unfolding stand
    onward_fits true r = record { rest = fits.rest; at = home; stack = fits.stack }
    onward_fits false r = record { rest = fits.rest; at = home; stack = fits.stack }

    with_rest : (b : Loud) (v : ℕ) (u : Thread) → Fits u → is_kept_loud kept b ≡ true → Fits (record u { rest = Some (record { to = b; byte = v }) })
    with_rest b v u f e = record { rest = e; at = f.at; stack = f.stack }

    file_w_fine : (op : FileOperation) (a : Access) → Fine (file_to_w q p th m op a)
    file_w_fine op Pointer = onward_fits _ _
    file_w_fine op (Event b) = λ x. onward_fits _ _
    file_w_fine op (Silent k) = onward_fits _ _
    file_w_fine op Denied = tt

    file_file_fine : (op : FileOperation) (a : Access) → access_opens kept false a ≡ true → Fine (file_to_file q p th m op a)
    file_file_fine op Pointer e = onward_fits _ _
    file_file_fine op (Event b) e = λ x. with_rest b _ _ (onward_fits _ _) e
    file_file_fine op (Silent k) e = onward_fits _ _
    file_file_fine op Denied e = tt

    store_fine : (r : Registers) (v : ℕ) (a : Access) → Fine (store q p th r v a)
    store_fine r v Pointer = behind_fits _
    store_fine r v (Event b) = behind_fits _
    store_fine r v (Silent k) = behind_fits _
    store_fine r v Denied = tt

    change_fine : (f : ℕ → ℕ) (a : Access) → access_opens kept false a ≡ true → Fine (change q p th m f a)
    change_fine f Pointer e = behind_fits _
    change_fine f (Event b) e = λ x. with_rest b _ _ (behind_fits _) e
    change_fine f (Silent k) e = behind_fits _
    change_fine f Denied e = tt

    test_fine : (holds : ℕ → Bool) (a : Access) → Fine (test q p th m holds a)
    test_fine holds Pointer = onward_fits _ _
    test_fine holds (Event b) = λ x. onward_fits _ _
    test_fine holds (Silent k) = onward_fits _ _
    test_fine holds Denied = tt

    put_flag_fine : (o : Option Registers) → Fine (put_flag q p th o)
    put_flag_fine None = tt
    put_flag_fine (Some r) = behind_fits r

    test_flag_fine : (v : ℕ) (o : Option ℕ) → Fine (test_flag q p th v o)
    test_flag_fine v None = tt
    test_flag_fine v (Some x) = onward_fits _ _

    stuck_fine : (b : Bool) (e : Effect) → Fine e → Fine (if b then Stuck else e)
    stuck_fine true e f = tt
    stuck_fine false e f = f

    or_stuck_fine : (b : Bool) (e : Effect) → Fine e → Fine (if b then e else Stuck)
    or_stuck_fine true e f = f
    or_stuck_fine false e f = tt

    flag_fine : (op : BitOperation) (b : ℕ) → Fine (flag q p th op b)
    flag_fine Bcf b = put_flag_fine (with_status_bit th.registers b 0)
    flag_fine Bsf b = stuck_fine (nat_eq b 7 && all_near q.layout) (put_flag q p th (with_status_bit th.registers b 1)) (put_flag_fine (with_status_bit th.registers b 1))
    flag_fine Btfsc b = test_flag_fine 0 (status_bit th.registers b)
    flag_fine Btfss b = test_flag_fine 1 (status_bit th.registers b)

    jump_fine : (u : Thread) → Fits u → (o : Option Position) → at_home o ≡ true → Fine (jump_to u o)
    jump_fine u f None e = tt
    jump_fine u f (Some p) e = record { rest = f.rest; at = e; stack = f.stack }

    target_home : (target : Target) → target_stays handlers p.block target ≡ true → at_home (place_of q p target) ≡ true
    unfolding stand
    target_home (targets.Block name) e = by inside (handlers p.block) home e
      where
        by : (i b : Bool) → (not i || b) ≡ true → (not b || handlers name) ≡ true → (not i || handlers name) ≡ true
        by false b f e = refl
        by true true f e = e
        by true false f e = never (sym f)
    target_home (targets.Label labels.Halt) e = refl
    target_home (targets.Label labels.Restore) e = refl
    target_home (targets.Label (labels.Inner n)) e = by (label_from (q.block p.block) (labels.Inner n) 0)
      where
        by : (o : Option ℕ) → at_home (option_map (λ k. stand q (position p.block k)) o) ≡ true
        by None = refl
        by (Some k) = home

    halt_fine : (inside : Bool) (stack : List Position) → Fine (halt inside th stack)
    halt_fine false [] = record { rest = fits.rest; at = refl; stack = fits.stack }
    halt_fine false (s ∷ stack) = tt
    halt_fine true [] = tt
    halt_fine true (s ∷ stack) = tt

    restore_fine : (inside : Bool) (stack : List Position) → Fine (restore inside stack)
    restore_fine false [] = tt
    restore_fine false (s ∷ stack) = tt
    restore_fine true [] = tt
    restore_fine true (s ∷ stack) = tt

    back_fine : (u : Thread) → Fits u → (stack : List Position) → list_all is_home stack ≡ true → Fine (back u stack)
    back_fine u f [] e = tt
    back_fine u f (s ∷ stack) e = record { rest = f.rest; at = left_of (is_home s) (list_all is_home stack) e; stack = right_of (is_home s) (list_all is_home stack) e }

    literal_fine : (op : LiteralOperation) (r : Registers) → Fine (literal q p th op r)
    literal_fine Retlw r = back_fine (record th { registers = r }) (record { rest = fits.rest; at = fits.at; stack = fits.stack }) th.stack fits.stack
    literal_fine op r = behind_fits r

    plain_fine : (op : PlainOperation) → Fine (plain q p th op)
    plain_fine Clrw = behind_fits _
    plain_fine Nop = behind_fits _
    plain_fine Retfie = tt
    plain_fine Return = back_fine th fits th.stack fits.stack

    select_fine : (which : BankBit) (to : Bool) → Fine (select q p th which to)
    select_fine which to = stuck_fine (is_far which to && all_near q.layout) _ (behind_fits _)

    called_fits : Fits (record th { stack = behind q p ∷ th.stack })
    unfolding stand
    called_fits = record { rest = fits.rest; at = fits.at; stack = ap (λ (b : Bool). b && list_all is_home th.stack) home ∙ fits.stack }

module _ (kept : List Bool) (reaches : ℕ → ℕ → Bool) (g : Setting) (laid : IsLaidOut reaches g.program.layout) (handlers : BlockName → Bool) (inside : Bool) (p : Position) (th : Thread) (m : Memory)
    (fits : Fits kept handlers inside th) (home : is_home kept handlers inside p ≡ true) where
  abbrev q : Program
  q = g.program

  abbrev hidden : ℕ → Bool
  hidden = is_private_byte kept q.layout

  abbrev FineHere : Effect → Type 0
  FineHere = Fine kept handlers inside

  goto_fine : (target : Target) → target_stays handlers p.block target ≡ true → FineHere (goto g inside p th target)
  goto_fine (targets.Label labels.Halt) e = halt_fine kept handlers inside q p th m fits home inside th.stack
  goto_fine (targets.Label labels.Restore) e = restore_fine kept handlers inside q p th m fits home inside th.stack
  goto_fine (targets.Block name) e = jump_fine kept handlers inside q p th m fits home th fits (place_of q p (targets.Block name)) (target_home kept handlers inside q p th m fits home (targets.Block name) e)
  goto_fine (targets.Label (labels.Inner n)) e = jump_fine kept handlers inside q p th m fits home th fits (place_of q p (targets.Label (labels.Inner n))) (target_home kept handlers inside q p th m fits home (targets.Label (labels.Inner n)) e)

  call_fine : (target : Target) → target_stays handlers p.block target ≡ true → FineHere (call g inside p th target)
  call_fine target e =
      or_stuck_fine kept handlers inside q p th m fits home (nat_lt (length th.stack) (g.limit inside)) (jump_to (record th { stack = behind q p ∷ th.stack }) (place_of q p target))
      (jump_fine kept handlers inside q p th m fits home (record th { stack = behind q p ∷ th.stack }) (called_fits kept handlers inside q p th m fits home) (place_of q p target) (target_home kept handlers inside q p th m fits home target e))

  brought_fine : (left : Spoiled) (o : Option ℕ) → FineHere (brought g p th left o)
  brought_fine left None = tt
  brought_fine left (Some v) = behind_fits kept handlers inside q p th m fits home _

  looked_fine : (table : ℕ) (o : Option ℕ) → FineHere (looked_up g p th table o)
  looked_fine table None = tt
  looked_fine table (Some k) = brought_fine (g.leaves table k) (table_byte (q.tables table) k)

  look_fine : (table : ℕ) (root : Root) → FineHere (look_up g inside p th m table root)
  look_fine table root =
      or_stuck_fine kept handlers inside q p th m fits home (nat_lt (length th.stack) (g.limit inside)) (looked_up g p th table (number_of (result_byte g inside th.registers m root 0) (result_byte g inside th.registers m root 1)))
      (looked_fine table (number_of (result_byte g inside th.registers m root 0) (result_byte g inside th.registers m root 1)))

  abbrev Opens : Sym → Type 0
  Opens s = sym_opens handlers hidden q.layout p.block s ≡ true

  abbrev Clears : Sym → Type 0
  Clears s = clears hidden th.registers (Some s) ≡ true

  abbrev open_whole : (operand : Operand) → operand_opens hidden q.layout false operand ≡ true → (not (is_indf operand) || is_clear hidden (general_at (pointer th.registers))) ≡ true → access_opens kept false (access_of g inside true th.registers operand) ≡ true
  open_whole = whole_open kept reaches g laid handlers inside p th m home

  file_bit_fine : (op : BitOperation) (b : ℕ) (operand : Operand) → Opens (syms.Bit op operand b) → Clears (syms.Bit op operand b) → FineHere (file_bit g inside p th m op b operand)
  unfolding sym_by
  file_bit_fine Bcf b operand o c = change_fine kept handlers inside q p th m fits home (clear_bit b) (access_of g inside true th.registers operand) (open_whole operand o c)
  file_bit_fine Bsf b operand o c = change_fine kept handlers inside q p th m fits home (set_bit b) (access_of g inside true th.registers operand) (open_whole operand o c)
  file_bit_fine Btfsc b operand o c = test_fine kept handlers inside q p th m fits home (λ x. nat_eq (bit x b) 0) (access_of g inside false th.registers operand)
  file_bit_fine Btfss b operand o c = test_fine kept handlers inside q p th m fits home (λ x. nat_eq (bit x b) 1) (access_of g inside false th.registers operand)

  bits_fine : (op : BitOperation) (b : ℕ) (operand : Operand) → Opens (syms.Bit op operand b) → Clears (syms.Bit op operand b) → FineHere (bits g inside p th m op b operand)
  bits_fine op b (operands.Register Status) o c = flag_fine kept handlers inside q p th m fits home op b
  bits_fine op b (operands.Register Indf) o c = file_bit_fine op b (operands.Register Indf) o c
  bits_fine op b (operands.Register Fsr) o c = file_bit_fine op b (operands.Register Fsr) o c
  bits_fine op b (operands.Register Pclath) o c = file_bit_fine op b (operands.Register Pclath) o c
  bits_fine op b (operands.Byte byte) o c = file_bit_fine op b (operands.Byte byte) o c
  bits_fine op b (operands.Saved cell) o c = file_bit_fine op b (operands.Saved cell) o c

  pub one_fine : (s : Sym) → Opens s → Clears s → FineHere (effect_of g inside p th m s)
  unfolding effect_of sym_by
  one_fine (syms.File op operand into.W) o c = file_w_fine kept handlers inside q p th m fits home op (access_of g inside false th.registers operand)
  one_fine (syms.File op operand into.File) o c = file_file_fine kept handlers inside q p th m fits home op (access_of g inside true th.registers operand) (open_whole operand o c)
  one_fine (syms.Movwf operand) o c = store_fine kept handlers inside q p th m fits home th.registers th.registers.w (access_of g inside true th.registers operand)
  one_fine (syms.Clrf operand) o c = store_fine kept handlers inside q p th m fits home (record th.registers { z = 1 }) 0 (access_of g inside true th.registers operand)
  one_fine (syms.Bit op operand b) o c = bits_fine op b operand o c
  one_fine (syms.Literal op value) o c = literal_fine kept handlers inside q p th m fits home op (after_row (literal_row op (literal_value q.layout value)) th.registers)
  one_fine (syms.Plain op) o c = plain_fine kept handlers inside q p th m fits home op
  one_fine (syms.Call target) o c = or_stuck_fine kept handlers inside q p th m fits home (is_in_page g p th.registers target) (call g inside p th target) (call_fine target o)
  one_fine (syms.Goto target) o c = or_stuck_fine kept handlers inside q p th m fits home (is_in_page g p th.registers target) (goto g inside p th target) (goto_fine target o)
  one_fine (syms.Label label) o c = tt
  one_fine (syms.SelectBank which to) o c = select_fine kept handlers inside q p th m fits home which to
  one_fine (syms.SelectPage which target) o c = behind_fits kept handlers inside q p th m fits home _
  one_fine (syms.Table table root) o c = or_stuck_fine kept handlers inside q p th m fits home (is_in_page g p th.registers own_place) (look_up g inside p th m table root) (look_fine table root)
