-- A machine rests only where main has ended.
use Rattle.std.proofs.Common.{◌≡◌, ℕ, Bool, true, false, if◌then◌else◌, List, [], ◌∷◌, Option, Some, None, refl, sym, ◌∙◌}
use Rattle.std.specs.Prelude.{◌&&◌, nat_eq, nat_lt, length}
use Rattle.pic_world.specs.World.{Outside, is_due}
use Rattle.pic_world.specs.Bits.{truth, bit, set_bit, clear_bit}
use Rattle.sym_code.specs.Layout.{all_near}
use Rattle.sym_code.specs.Effect.{Setting, Rest, Thread, Memory, Access, Pointer, Event, Silent, Denied, access_of, Effect, Stuck, Quiet, Reads, Writes, Leaves, Ends, Rests, file_to_w, file_to_file, store, change, test, flag, put_flag, test_flag, is_in_page, jump_to, halt, restore, goto, call, back, literal, plain, quiet, goes, is_far, table_byte, number_of, result_byte, brought, looked_up, look_up, effect_of, effect_if, effect}
use Rattle.sym_code.specs.Machine as next
use Rattle.sym_code.specs.Machine.{Machine, Entry, Next, Stops, Still, Made, made, checked, moved, running, acted, act, enter, with_entry, at_front, sym_step_at}
use Rattle.sym_code.specs.Programs.{Program, Position, own_place, fetched, front, lands, behind, place_of}
use Rattle.sym_code.specs.Registers.{Registers, Spoiled, status_bit, with_status_bit, with_bank_bit}
use Rattle.sym_code.specs.Runs.{is_still}
use Rattle.sym_code.specs.declared.code.BitOperation.{BitOperation}
use Rattle.sym_code.specs.declared.code.BitOperation.TheVariants.{Bcf, Bsf, Btfsc, Btfss}
use Rattle.sym_code.specs.declared.code.BlockName.TheVariants.{Copy}
use Rattle.sym_code.specs.declared.code.FileOperation.{FileOperation}
use Rattle.sym_code.specs.declared.code.Into.TheVariants as into
use Rattle.sym_code.specs.declared.code.Label.TheVariants as labels
use Rattle.sym_code.specs.declared.code.LiteralOperation.{LiteralOperation}
use Rattle.sym_code.specs.declared.code.LiteralOperation.TheVariants as literals
use Rattle.sym_code.specs.declared.code.Operand.TheVariants as operands
use Rattle.sym_code.specs.declared.code.PlainOperation.{PlainOperation}
use Rattle.sym_code.specs.declared.code.PlainOperation.TheVariants.{Clrw, Nop, Retfie, Return}
use Rattle.sym_code.specs.declared.code.Register.TheVariants.{Status}
use Rattle.sym_code.specs.declared.code.Sym.{Sym}
use Rattle.sym_code.specs.declared.code.Sym.TheVariants as syms
use Rattle.sym_code.specs.declared.code.Target.{Target}
use Rattle.sym_code.specs.declared.code.Target.TheVariants as targets
use Rattle.lean_code.specs.Links.{is_open}
use Rattle.lean_code.proofs.Lists.{never}

abbrev is_rest : Effect → Bool
is_rest Rests = true
is_rest e = false

abbrev Moves : Effect → Type 0
Moves e = is_rest e ≡ false

module _ (q : Program) (p : Position) (th : Thread) (m : Memory) where
  to_w_moves : (op : FileOperation) (a : Access) → Moves (file_to_w q p th m op a)
  to_w_moves op Pointer = refl
  to_w_moves op (Event b) = refl
  to_w_moves op (Silent k) = refl
  to_w_moves op Denied = refl

  to_file_moves : (op : FileOperation) (a : Access) → Moves (file_to_file q p th m op a)
  to_file_moves op Pointer = refl
  to_file_moves op (Event b) = refl
  to_file_moves op (Silent k) = refl
  to_file_moves op Denied = refl

  store_moves : (r : Registers) (v : ℕ) (a : Access) → Moves (store q p th r v a)
  store_moves r v Pointer = refl
  store_moves r v (Event b) = refl
  store_moves r v (Silent k) = refl
  store_moves r v Denied = refl

  change_moves : (f : ℕ → ℕ) (a : Access) → Moves (change q p th m f a)
  change_moves f Pointer = refl
  change_moves f (Event b) = refl
  change_moves f (Silent k) = refl
  change_moves f Denied = refl

  test_moves : (f : ℕ → Bool) (a : Access) → Moves (test q p th m f a)
  test_moves f Pointer = refl
  test_moves f (Event b) = refl
  test_moves f (Silent k) = refl
  test_moves f Denied = refl

  put_moves : (o : Option Registers) → Moves (put_flag q p th o)
  put_moves None = refl
  put_moves (Some r) = refl

  test_flag_moves : (v : ℕ) (o : Option ℕ) → Moves (test_flag q p th v o)
  test_flag_moves v None = refl
  test_flag_moves v (Some i) = refl

  stuck_moves : (c : Bool) (e : Effect) → Moves e → Moves (if c then Stuck else e)
  stuck_moves true e z = refl
  stuck_moves false e z = z

  flag_moves : (op : BitOperation) (b : ℕ) → Moves (flag q p th op b)
  flag_moves Bcf b = put_moves (with_status_bit th.registers b 0)
  flag_moves Bsf b = stuck_moves (nat_eq b 7 && all_near q.layout) (put_flag q p th (with_status_bit th.registers b 1)) (put_moves (with_status_bit th.registers b 1))
  flag_moves Btfsc b = test_flag_moves 0 (status_bit th.registers b)
  flag_moves Btfss b = test_flag_moves 1 (status_bit th.registers b)

  back_moves : (t : Thread) (stack : List Position) → Moves (back t stack)
  back_moves t [] = refl
  back_moves t (p ∷ stack) = refl

  literal_moves : (op : LiteralOperation) (r : Registers) → Moves (literal q p th op r)
  literal_moves literals.Retlw r = back_moves (record th { registers = r }) th.stack
  literal_moves op r = refl

  plain_moves : (op : PlainOperation) → Moves (plain q p th op)
  plain_moves Clrw = refl
  plain_moves Nop = refl
  plain_moves Retfie = refl
  plain_moves Return = back_moves th th.stack

jump_moves : (th : Thread) (o : Option Position) → Moves (jump_to th o)
jump_moves th None = refl
jump_moves th (Some p) = refl

halt_moves : (inside : Bool) (th : Thread) (stack : List Position) → Moves (halt inside th stack)
halt_moves false th [] = refl
halt_moves false th (p ∷ stack) = refl
halt_moves true th [] = refl
halt_moves true th (p ∷ stack) = refl

restore_moves : (inside : Bool) (stack : List Position) → Moves (restore inside stack)
restore_moves true [] = refl
restore_moves true (p ∷ stack) = refl
restore_moves false [] = refl
restore_moves false (p ∷ stack) = refl

moves_if : (c : Bool) (e : Effect) → Moves e → Moves (if c then e else Stuck)
moves_if true e h = h
moves_if false e h = refl

brought_moves : (g : Setting) (p : Position) (th : Thread) (left : Spoiled) (o : Option ℕ) → Moves (brought g p th left o)
brought_moves g p th left None = refl
brought_moves g p th left (Some v) = refl

looked_up_moves : (g : Setting) (p : Position) (th : Thread) (table : ℕ) (o : Option ℕ) → Moves (looked_up g p th table o)
looked_up_moves g p th table None = refl
looked_up_moves g p th table (Some k) = brought_moves g p th (g.leaves table k) (table_byte (g.program.tables table) k)

module _ (g : Setting) (inside : Bool) (p : Position) (th : Thread) (m : Memory) where
  goto_moves : (target : Target) → Moves (goto g inside p th target)
  goto_moves (targets.Label labels.Halt) = halt_moves inside th th.stack
  goto_moves (targets.Label labels.Restore) = restore_moves inside th.stack
  goto_moves (targets.Label (labels.Inner n)) = jump_moves th (place_of g.program p (targets.Label (labels.Inner n)))
  goto_moves (targets.Block name) = refl

  row_moves : (s : Sym) → Moves (effect_of g inside p th m s)
  unfolding effect_of
  row_moves (syms.File op operand into.W) = to_w_moves g.program p th m op (access_of g inside false th.registers operand)
  row_moves (syms.File op operand into.File) = to_file_moves g.program p th m op (access_of g inside true th.registers operand)
  row_moves (syms.Movwf operand) = store_moves g.program p th m th.registers th.registers.w (access_of g inside true th.registers operand)
  row_moves (syms.Clrf operand) = store_moves g.program p th m (record th.registers { z = 1 }) 0 (access_of g inside true th.registers operand)
  row_moves (syms.Bit op (operands.Register Status) b) = flag_moves g.program p th m op b
  row_moves (syms.Bit Bcf operand b) = change_moves g.program p th m (clear_bit b) (access_of g inside true th.registers operand)
  row_moves (syms.Bit Bsf operand b) = change_moves g.program p th m (set_bit b) (access_of g inside true th.registers operand)
  row_moves (syms.Bit Btfsc operand b) = test_moves g.program p th m (λ x. nat_eq (bit x b) 0) (access_of g inside false th.registers operand)
  row_moves (syms.Bit Btfss operand b) = test_moves g.program p th m (λ x. nat_eq (bit x b) 1) (access_of g inside false th.registers operand)
  row_moves (syms.Literal op value) = literal_moves g.program p th m op _
  row_moves (syms.Plain op) = plain_moves g.program p th m op
  row_moves (syms.Call target) =
      moves_if (is_in_page g p th.registers target) (call g inside p th target)
      (moves_if (nat_lt (length th.stack) (g.limit inside)) (jump_to (record th { stack = behind g.program p ∷ th.stack }) (place_of g.program p target)) (jump_moves (record th { stack = behind g.program p ∷ th.stack }) (place_of g.program p target)))
  row_moves (syms.Goto target) = moves_if (is_in_page g p th.registers target) (goto g inside p th target) (goto_moves target)
  row_moves (syms.Label label) = refl
  row_moves (syms.SelectBank which on) = stuck_moves g.program p th m (is_far which on && all_near g.program.layout) (quiet (goes th (behind g.program p) (with_bank_bit th.registers which (truth on)))) refl
  row_moves (syms.SelectPage which target) = refl
  row_moves (syms.Table table root) =
      let k = number_of (result_byte g inside th.registers m root 0) (result_byte g inside th.registers m root 1) in
      moves_if (is_in_page g p th.registers own_place) (look_up g inside p th m table root)
      (moves_if (nat_lt (length th.stack) (g.limit inside)) (looked_up g p th table k) (looked_up_moves g p th table k))

  some_moves : (o : Option Sym) → Moves (effect_if g inside p th m o)
  some_moves None = refl
  some_moves (Some s) = row_moves s

moved_moves : (u : Machine) (y : Option Made) → is_still (moved u y) ≡ false
moved_moves u None = refl
moved_moves u (Some y) = refl

acted_moves : (g : Setting) (o : Outside) (u : Machine) (e : Effect) → Moves e → is_still (acted g o u e) ≡ false
unfolding acted
acted_moves g o u Stuck h = moved_moves u (checked g.program (made o u.memory u.world Stuck))
acted_moves g o u (Quiet th w) h = moved_moves u (checked g.program (made o u.memory u.world (Quiet th w)))
acted_moves g o u (Reads b f) h = moved_moves u (checked g.program (made o u.memory u.world (Reads b f)))
acted_moves g o u (Writes b v th) h = moved_moves u (checked g.program (made o u.memory u.world (Writes b v th)))
acted_moves g o u Leaves h = refl
acted_moves g o u (Ends th) h = refl
acted_moves g o u Rests h = never (sym h)

entered_moves : (g : Setting) (e : Entry) (h : Option ℕ) (u : Machine) → is_still (enter g e h u) ≡ false
entered_moves g e None u = refl
entered_moves g e (Some copy) u = by_land (lands g.program (front g.program (Copy copy)))
  where
    by_land : (c : Bool) → is_still (if c then next.Goes (with_entry (at_front g.program copy (e u.entries)) u) else Stops) ≡ false
    by_land true = refl
    by_land false = refl

-- where it rests no instruction is next
pub open_at_rest : (hidden : ℕ → Bool) (g : Setting) (e : Entry) (o : Outside) (u : Machine) → is_still (sym_step_at g e o u) ≡ true → is_open hidden g.program (running u) ≡ true
unfolding effect
open_at_rest hidden g e o u rests = by_due (is_due u.world) rests
  where
    by_parts : (i : Bool) (w : Option Rest) (at : Option Position) (stack : List Position) (r : Registers) → is_still (acted g o u (effect g i (record { rest = w; at = at; stack = stack; registers = r }) u.memory)) ≡ true
        → is_open hidden g.program (record { rest = w; at = at; stack = stack; registers = r }) ≡ true
    by_parts i (Some w) at stack r h = never (sym (acted_moves g o u (effect g i (record { rest = Some w; at = at; stack = stack; registers = r }) u.memory) refl) ∙ h)
    by_parts i None None stack r h = refl
    by_parts true None (Some p) stack r h = never (sym (acted_moves g o u (effect_if g true p (record { rest = None; at = Some p; stack = stack; registers = r }) u.memory (fetched g.program p)) (some_moves g true p (record { rest = None; at = Some p; stack = stack; registers = r }) u.memory (fetched g.program p))) ∙ h)
    by_parts false None (Some p) stack r h = never (sym (acted_moves g o u (effect_if g false p (record { rest = None; at = Some p; stack = stack; registers = r }) u.memory (fetched g.program p)) (some_moves g false p (record { rest = None; at = Some p; stack = stack; registers = r }) u.memory (fetched g.program p))) ∙ h)

    by_due : (c : Bool) → is_still (if c then enter g e g.program.handler u else act g o u) ≡ true → is_open hidden g.program (running u) ≡ true
    by_due true h = never (sym (entered_moves g e g.program.handler u) ∙ h)
    by_due false h = by_parts u.world.inside (running u).rest (running u).at (running u).stack (running u).registers h
