-- An instruction accesses what its thread may access, keeps to the depth of its calls, and never leads into the start block.
use Rattle.std.proofs.Common.{◌≡◌, ℕ, ◌+◌, ◌≤◌, ◌<◌, Bool, true, false, List, [], ◌∷◌, length, Option, Some, None, refl, sym, ap, ◌∙◌, subst, arith}
use Rattle.std.specs.Prelude.{nat_lt, if◌then◌else◌, ◌&&◌, nat_eq, option_map, slice_get}
use Rattle.std.proofs.lemmas.Bool.{ltb-true}
use Rattle.pic_world.specs.Bits.{bit, set_bit, clear_bit, truth}
use Rattle.pic_world.specs.Registers.{is_register, lowest}
use Rattle.sym_code.specs.Effect.{Setting, Loud, Port, Shared, Rest, Thread, Memory, Write, write, Access, Pointer, Event, Silent, Denied, Effect, Stuck, Quiet, Reads, Writes, Leaves, Ends, Rests, goes, quiet, file_to_w, file_to_file, store, change, test, file_bit, put_flag, test_flag, flag, bits, is_in_page, jump_to, halt, restore, goto, call, back, literal, literal_value, plain, is_far, select, effect_of, effect_if, effect_at, effect_rest, effect, silent_byte, result_byte, number_of, table_byte, brought, looked_up, look_up}
use Rattle.sym_code.specs.Layout.{DataLayout, Watched, owner, all_near}
use Rattle.sym_code.specs.Programs.{Program, Position, position, fetched, behind, onward, place_of, stand, label_from, own_place}
use Rattle.sym_code.specs.Registers.{Registers, flags_with, after_row, literal_row, skips_with, status_bit, with_status_bit, with_bank_bit, with_page_bit, Spoiled}
use Rattle.sym_code.specs.declared.code.BitOperation.{BitOperation}
use Rattle.sym_code.specs.declared.code.BitOperation.TheVariants.{Bcf, Bsf, Btfsc, Btfss}
use Rattle.sym_code.specs.declared.code.BlockName.{BlockName}
use Rattle.sym_code.specs.declared.code.BlockName.TheVariants.{Start, Copy}
use Rattle.sym_code.specs.declared.code.BankBit.{BankBit}
use Rattle.sym_code.specs.declared.code.BankBit.TheVariants.{Rp0, Rp1, Irp}
use Rattle.sym_code.specs.declared.code.PageBit.{PageBit}
use Rattle.sym_code.specs.declared.code.PageBit.TheVariants as pages
use Rattle.sym_code.specs.declared.code.FileOperation.{FileOperation}
use Rattle.sym_code.specs.declared.code.FileOperation.TheVariants as file
use Rattle.pic_isa.specs.declared.Ins.TheVariants as isa
use Rattle.sym_code.specs.declared.code.Into.TheVariants as into
use Rattle.sym_code.specs.declared.code.Label.TheVariants.{Inner, Halt, Restore}
use Rattle.sym_code.specs.declared.code.LiteralOperation.{LiteralOperation}
use Rattle.sym_code.specs.declared.code.LiteralOperation.TheVariants.{Addlw, Andlw, Iorlw, Movlw, Retlw, Sublw, Xorlw}
use Rattle.sym_code.specs.declared.code.Operand.{Operand}
use Rattle.sym_code.specs.declared.code.Operand.TheVariants as operands
use Rattle.sym_code.specs.declared.code.PlainOperation.{PlainOperation}
use Rattle.sym_code.specs.declared.code.PlainOperation.TheVariants.{Clrw, Nop, Retfie, Return}
use Rattle.sym_code.specs.declared.code.Register.TheVariants.{Indf, Status, Fsr, Pclath}
use Rattle.sym_code.specs.declared.code.Sym.{Sym}
use Rattle.sym_code.specs.declared.code.Sym.TheVariants as sym'
use Rattle.sym_code.specs.declared.code.Target.{Target}
use Rattle.sym_code.specs.declared.code.Target.TheVariants as targets
use Rattle.chip_trace.specs.Arriving.{is_outside, keeps_out}
use Rattle.chip_trace.proofs.Effects.{IsAccess, access_sound, writes_silently}

-- ---- positions in copies
abbrev pub is_copy : BlockName → Bool
is_copy Start = false
is_copy (Copy c) = true

abbrev pub is_out : Option Position → Bool
is_out None = true
is_out (Some p) = is_copy p.block

abbrev pub are_out : List Position → Bool
are_out [] = true
are_out (p ∷ s) = is_copy p.block && are_out s

pub both : (a b : Bool) → a ≡ true → b ≡ true → (a && b) ≡ true
both true true e f = refl
both true false e f = f
both false b e f = e

pub left_of : (a b : Bool) → (a && b) ≡ true → a ≡ true
left_of true b e = refl
left_of false b e = e

pub right_of : (a b : Bool) → (a && b) ≡ true → b ≡ true
right_of true b e = e
right_of false b e = absurd (cc)

pub stand_block : (q : Program) (p : Position) → (stand q p).block ≡ p.block
unfolding stand
stand_block q p = refl

pub behind_block : (q : Program) (p : Position) → (behind q p).block ≡ p.block
behind_block q p = stand_block q (position p.block (p.index + 1))

pub onward_block : (q : Program) (p : Position) (b : Bool) → (onward q p b).block ≡ p.block
onward_block q p true = behind_block q (behind q p) ∙ behind_block q p
onward_block q p false = behind_block q p

-- ---- RP1 and IRP
abbrev pub IsLow : Registers → Type 0
IsLow r = (r.rp1 ≡ 0) × (r.irp ≡ 0)

flags_bits : (r : Registers) (op : FileOperation) (x : ℕ) → ((flags_with r op x).rp1 ≡ r.rp1) × ((flags_with r op x).irp ≡ r.irp)
unfolding flags_with
flags_bits r file.Addwf x = (refl, refl)
flags_bits r file.Andwf x = (refl, refl)
flags_bits r file.Comf x = (refl, refl)
flags_bits r file.Decf x = (refl, refl)
flags_bits r file.Decfsz x = (refl, refl)
flags_bits r file.Incf x = (refl, refl)
flags_bits r file.Incfsz x = (refl, refl)
flags_bits r file.Iorwf x = (refl, refl)
flags_bits r file.Movf x = (refl, refl)
flags_bits r file.Rlf x = (refl, refl)
flags_bits r file.Rrf x = (refl, refl)
flags_bits r file.Subwf x = (refl, refl)
flags_bits r file.Swapf x = (refl, refl)
flags_bits r file.Xorwf x = (refl, refl)

literal_bits : (r : Registers) (op : LiteralOperation) (v : ℕ) → ((after_row (literal_row op v) r).rp1 ≡ r.rp1) × ((after_row (literal_row op v) r).irp ≡ r.irp)
unfolding after_row
literal_bits r Addlw v = (refl, refl)
literal_bits r Andlw v = (refl, refl)
literal_bits r Iorlw v = (refl, refl)
literal_bits r Movlw v = (refl, refl)
literal_bits r Retlw v = (refl, refl)
literal_bits r Sublw v = (refl, refl)
literal_bits r Xorlw v = (refl, refl)

clear_bits : (r : Registers) → ((after_row isa.Clrw r).rp1 ≡ r.rp1) × ((after_row isa.Clrw r).irp ≡ r.irp)
unfolding after_row
clear_bits r = (refl, refl)

never_both : {A : Type 0} (b : Bool) → b ≡ true → b ≡ false → A
never_both true e f = absurd (cc)
never_both false e f = absurd (cc)

-- ---- what is right of an effect
abbrev pub IsLoud : DataLayout → Loud → Type 0
IsLoud l (Port a) = (is_register a ≡ true) × (lowest a ≡ a)
IsLoud l (Shared k cell) = owner l k ≡ Watched cell

abbrev pub IsLeft : DataLayout → Option Rest → Type 0
IsLeft l None = Unit {0}
IsLeft l (Some x) = IsLoud l x.to

module _ (g : Setting) (i : Bool) where
  abbrev pub IsOwn : Option Write → Type 0
  IsOwn None = Unit {0}
  IsOwn (Some x) = writes_silently i (owner g.program.layout x.number) ≡ true

  -- Calls are within the limit, and nothing leads into the start block. Where the layout is taken to be near, RP1 and IRP are 0.
  pub record IsGoodBy (near : Bool) (u : Thread) : Type 0 where
    pub deep : length u.stack ≤ g.limit i
    pub at : is_out u.at ≡ true
    pub stack : are_out u.stack ≡ true
    pub left : IsLeft g.program.layout u.rest
    pub low : near ≡ true → IsLow u.registers

  abbrev pub IsGood : Thread → Type 0
  IsGood = IsGoodBy (all_near g.program.layout)

  abbrev pub IsSoundBy : Bool → Thread → Effect → Type 0
  IsSoundBy near th Stuck = Unit {0}
  IsSoundBy near th (Quiet u x) = IsOwn x × IsGoodBy near u × (u.rest ≡ None)
  IsSoundBy near th (Reads b k) = IsLoud g.program.layout b × ((v : ℕ) → IsGoodBy near (k v))
  IsSoundBy near th (Writes b v u) = IsLoud g.program.layout b × IsGoodBy near u × (u.rest ≡ None)
  IsSoundBy near th Leaves = (i ≡ true) × (th.stack ≡ [])
  IsSoundBy near th (Ends u) = (i ≡ false) × (th.stack ≡ []) × (u ≡ record th { at = None })
  IsSoundBy near th Rests = (i ≡ false) × (th.at ≡ None)

  abbrev pub IsSound : Thread → Effect → Type 0
  IsSound = IsSoundBy (all_near g.program.layout)

  module _ (near : Bool) (is_near : near ≡ true → all_near g.program.layout ≡ true) (outside : (copy n : ℕ) (s : Sym) → slice_get (g.program.block (Copy copy)) n ≡ Some s → keeps_out s ≡ true) where
    module _ (th : Thread) (p : Position) (good : IsGoodBy near th) (none : th.rest ≡ None) (here : is_copy p.block ≡ true) where
      abbrev q : Program
      q = g.program

      abbrev Keeps : Registers → Type 0
      Keeps r = near ≡ true → IsLow r

      kept_flags : (op : FileOperation) (v : ℕ) → Keeps (flags_with th.registers op v)
      kept_flags op v n = let l = good.low n in let f = flags_bits th.registers op v in (f.0 ∙ l.0, f.1 ∙ l.1)

      good_goes : (p' : Position) (r : Registers) → p'.block ≡ p.block → Keeps r → IsGoodBy near (goes th p' r)
      good_goes p' r e k = record { deep = good.deep; at = ap is_copy e ∙ here; stack = good.stack; left = good.left; low = k }

      good_rest : (p' : Position) (r : Registers) (x : Rest) → p'.block ≡ p.block → IsLoud g.program.layout x.to → Keeps r → IsGoodBy near (record (goes th p' r) { rest = Some x })
      good_rest p' r x e loud k = record { deep = good.deep; at = ap is_copy e ∙ here; stack = good.stack; left = loud; low = k }

      good_next : (b : Bool) (r : Registers) → Keeps r → IsGoodBy near (goes th (onward q p b) r)
      good_next b r k = good_goes (onward q p b) r (onward_block q p b) k

      good_behind : (r : Registers) → Keeps r → IsGoodBy near (goes th (behind q p) r)
      good_behind r k = good_goes (behind q p) r (behind_block q p) k

      loud_of : (w : Bool) (b : Loud) → IsAccess g.program.layout i w (Event b) → IsLoud g.program.layout b
      loud_of w (Port a) x = x
      loud_of w (Shared k cell) x = x

      own_of : (k v : ℕ) → IsAccess g.program.layout i true (Silent k) → IsOwn (write k v)
      own_of k v a = a.1

      w_sound : (m : Memory) (op : FileOperation) (x : Access) → IsAccess g.program.layout i false x → IsSoundBy near th (file_to_w q p th m op x)
      w_sound m op Pointer a = (tt, good_next (skips_with th.registers op th.registers.fsr) _ (kept_flags op th.registers.fsr), none)
      w_sound m op (Event b) a = (loud_of false b a, λ v. good_next (skips_with th.registers op v) _ (kept_flags op v))
      w_sound m op (Silent k) a = (tt, good_next (skips_with th.registers op (m k)) _ (kept_flags op (m k)), none)
      w_sound m op Denied a = tt

      f_sound : (m : Memory) (op : FileOperation) (x : Access) → IsAccess g.program.layout i true x → IsSoundBy near th (file_to_file q p th m op x)
      f_sound m op Pointer a = (tt, good_next (skips_with th.registers op th.registers.fsr) _ (kept_flags op th.registers.fsr), none)
      f_sound m op (Event b) a = (loud_of true b a, λ v. good_rest (onward q p (skips_with th.registers op v)) _ _ (onward_block q p (skips_with th.registers op v)) (loud_of true b a) (kept_flags op v))
      f_sound m op (Silent k) a = (own_of k 0 a, good_next (skips_with th.registers op (m k)) _ (kept_flags op (m k)), none)
      f_sound m op Denied a = tt

      store_sound : (r : Registers) → Keeps r → (v : ℕ) (x : Access) → IsAccess g.program.layout i true x → IsSoundBy near th (store q p th r v x)
      store_sound r kr v Pointer a = (tt, good_behind _ kr, none)
      store_sound r kr v (Event b) a = (loud_of true b a, good_behind r kr, none)
      store_sound r kr v (Silent k) a = (own_of k 0 a, good_behind r kr, none)
      store_sound r kr v Denied a = tt

      change_sound : (m : Memory) (f : ℕ → ℕ) (x : Access) → IsAccess g.program.layout i true x → IsSoundBy near th (change q p th m f x)
      change_sound m f Pointer a = (tt, good_behind _ good.low, none)
      change_sound m f (Event b) a = (loud_of true b a, λ v. good_rest (behind q p) _ _ (behind_block q p) (loud_of true b a) good.low)
      change_sound m f (Silent k) a = (own_of k 0 a, good_behind th.registers good.low, none)
      change_sound m f Denied a = tt

      test_sound : (m : Memory) (f : ℕ → Bool) (x : Access) → IsAccess g.program.layout i false x → IsSoundBy near th (test q p th m f x)
      test_sound m f Pointer a = (tt, good_next (f th.registers.fsr) _ good.low, none)
      test_sound m f (Event b) a = (loud_of false b a, λ v. good_next (f v) _ good.low)
      test_sound m f (Silent k) a = (tt, good_next (f (m k)) _ good.low, none)
      test_sound m f Denied a = tt

      bit_sound : (m : Memory) (op : BitOperation) (b : ℕ) (x : Operand) → IsSoundBy near th (file_bit g i p th m op b x)
      bit_sound m Bcf b x = change_sound m (clear_bit b) _ (access_sound g i true th.registers x)
      bit_sound m Bsf b x = change_sound m (set_bit b) _ (access_sound g i true th.registers x)
      bit_sound m Btfsc b x = test_sound m (λ x. nat_eq (bit x b) 0) _ (access_sound g i false th.registers x)
      bit_sound m Btfss b x = test_sound m (λ x. nat_eq (bit x b) 1) _ (access_sound g i false th.registers x)

      put_zero : (b0 b1 b2 b7 : Bool) → IsSoundBy near th (put_flag q p th (if b0 then Some (record th.registers { c = 0 }) else if b1 then Some (record th.registers { dc = 0 }) else if b2 then Some (record th.registers { z = 0 }) else if b7 then Some (record th.registers { irp = 0 }) else None))
      put_zero true b1 b2 b7 = (tt, good_behind _ good.low, none)
      put_zero false true b2 b7 = (tt, good_behind _ good.low, none)
      put_zero false false true b7 = (tt, good_behind _ good.low, none)
      put_zero false false false true = (tt, good_behind _ (λ n. ((good.low n).0, refl)), none)
      put_zero false false false false = tt

      put_one : (b0 b1 b2 b7 nr : Bool) → all_near g.program.layout ≡ nr
          → IsSoundBy near th (if b7 && nr then Stuck else put_flag q p th (if b0 then Some (record th.registers { c = 1 }) else if b1 then Some (record th.registers { dc = 1 }) else if b2 then Some (record th.registers { z = 1 }) else if b7 then Some (record th.registers { irp = 1 }) else None))
      put_one b0 b1 b2 true true e = tt
      put_one true b1 b2 true false e = (tt, good_behind _ good.low, none)
      put_one false true b2 true false e = (tt, good_behind _ good.low, none)
      put_one false false true true false e = (tt, good_behind _ good.low, none)
      put_one false false false true false e = (tt, good_behind _ (λ n. never_both (all_near g.program.layout) (is_near n) e), none)
      put_one true b1 b2 false nr e = (tt, good_behind _ good.low, none)
      put_one false true b2 false nr e = (tt, good_behind _ good.low, none)
      put_one false false true false nr e = (tt, good_behind _ good.low, none)
      put_one false false false false nr e = tt

      flag_test_sound : (v : ℕ) (x : Option ℕ) → IsSoundBy near th (test_flag q p th v x)
      flag_test_sound v None = tt
      flag_test_sound v (Some x) = (tt, good_next (nat_eq x v) _ good.low, none)

      flag_sound : (op : BitOperation) (b : ℕ) → IsSoundBy near th (flag q p th op b)
      flag_sound Bcf b = put_zero (nat_eq b 0) (nat_eq b 1) (nat_eq b 2) (nat_eq b 7)
      flag_sound Bsf b = put_one (nat_eq b 0) (nat_eq b 1) (nat_eq b 2) (nat_eq b 7) (all_near g.program.layout) refl
      flag_sound Btfsc b = flag_test_sound 0 (status_bit th.registers b)
      flag_sound Btfss b = flag_test_sound 1 (status_bit th.registers b)

      bits_sound : (m : Memory) (op : BitOperation) (b : ℕ) (x : Operand) → IsSoundBy near th (bits g i p th m op b x)
      bits_sound m op b (operands.Byte x) = bit_sound m op b (operands.Byte x)
      bits_sound m op b (operands.Register Indf) = bit_sound m op b (operands.Register Indf)
      bits_sound m op b (operands.Register Fsr) = bit_sound m op b (operands.Register Fsr)
      bits_sound m op b (operands.Register Status) = flag_sound op b
      bits_sound m op b (operands.Register Pclath) = bit_sound m op b (operands.Register Pclath)
      bits_sound m op b (operands.Saved x) = bit_sound m op b (operands.Saved x)

      -- ---- control
      place_out : (t : Target) → is_outside t ≡ true → is_out (place_of q p t) ≡ true
      place_out (targets.Block Start) e = absurd (cc)
      place_out (targets.Block (Copy c)) e = ap is_copy (stand_block q (position (Copy c) 0))
      place_out (targets.Label Halt) e = refl
      place_out (targets.Label Restore) e = refl
      place_out (targets.Label (Inner n)) e = inner (label_from (q.block p.block) (Inner n) 0) where
        inner : (k : Option ℕ) → is_out (option_map (λ k. stand q (position p.block k)) k) ≡ true
        inner None = refl
        inner (Some k) = ap is_copy (stand_block q (position p.block k)) ∙ here

      jump_sound : (x : Option Position) → is_out x ≡ true → IsSoundBy near th (jump_to th x)
      jump_sound None e = tt
      jump_sound (Some p') e = (tt, record { deep = good.deep; at = e; stack = good.stack; left = good.left; low = good.low }, none)

      halt_sound : (b : Bool) (s : List Position) → i ≡ b → th.stack ≡ s → IsSoundBy near th (halt b th s)
      halt_sound false [] e f = (e, f, refl)
      halt_sound false (x ∷ s) e f = tt
      halt_sound true s e f = tt

      restore_sound : (b : Bool) (s : List Position) → i ≡ b → th.stack ≡ s → IsSoundBy near th (restore b s)
      restore_sound true [] e f = (e, f)
      restore_sound true (x ∷ s) e f = tt
      restore_sound false s e f = tt

      goto_sound : (t : Target) → is_outside t ≡ true → IsSoundBy near th (goto g i p th t)
      goto_sound (targets.Label Halt) e = halt_sound i th.stack refl refl
      goto_sound (targets.Label Restore) e = restore_sound i th.stack refl refl
      goto_sound (targets.Label (Inner n)) e = jump_sound (place_of q p (targets.Label (Inner n))) (place_out (targets.Label (Inner n)) e)
      goto_sound (targets.Block name) e = jump_sound (place_of q p (targets.Block name)) (place_out (targets.Block name) e)

      pushed_sound : (x : Option Position) → is_out x ≡ true → length th.stack < g.limit i → IsSoundBy near th (jump_to (record th { stack = behind q p ∷ th.stack }) x)
      pushed_sound None e lt = tt
      pushed_sound (Some p') e lt = (tt, record { deep = let z = lt in omega arith; at = e; stack = both (is_copy (behind q p).block) (are_out th.stack) (ap is_copy (behind_block q p) ∙ here) good.stack; left = good.left; low = good.low }, none)

      call_sound : (t : Target) → is_outside t ≡ true → IsSoundBy near th (call g i p th t)
      call_sound t e = by_limit (nat_lt (length th.stack) (g.limit i)) refl where
        by_limit : (b : Bool) → nat_lt (length th.stack) (g.limit i) ≡ b → IsSoundBy near th (if b then jump_to (record th { stack = behind g.program p ∷ th.stack }) (place_of g.program p t) else Stuck)
        by_limit true f = pushed_sound (place_of q p t) (place_out t e) (ltb-true (length th.stack) (g.limit i) f)
        by_limit false f = tt

      back_sound : (r : Registers) → Keeps r → (s : List Position) → length s ≤ g.limit i → are_out s ≡ true → IsSoundBy near th (back (record th { registers = r }) s)
      back_sound r kr [] d o = tt
      back_sound r kr (p' ∷ s) d o = (tt, record { deep = let z = d in omega arith; at = left_of (is_copy p'.block) (are_out s) o; stack = right_of (is_copy p'.block) (are_out s) o; left = good.left; low = kr }, none)

      literal_sound : (op : LiteralOperation) (r : Registers) → Keeps r → IsSoundBy near th (literal q p th op r)
      literal_sound Retlw r kr = back_sound r kr th.stack good.deep good.stack
      literal_sound Addlw r kr = (tt, good_behind r kr, none)
      literal_sound Andlw r kr = (tt, good_behind r kr, none)
      literal_sound Iorlw r kr = (tt, good_behind r kr, none)
      literal_sound Movlw r kr = (tt, good_behind r kr, none)
      literal_sound Sublw r kr = (tt, good_behind r kr, none)
      literal_sound Xorlw r kr = (tt, good_behind r kr, none)

      plain_sound : (op : PlainOperation) → IsSoundBy near th (plain q p th op)
      plain_sound Clrw = (tt, good_behind _ (λ n. let l = good.low n in let f = clear_bits th.registers in (f.0 ∙ l.0, f.1 ∙ l.1)), none)
      plain_sound Nop = (tt, good_behind _ good.low, none)
      plain_sound Retfie = tt
      plain_sound Return = back_sound th.registers good.low th.stack good.deep good.stack

      paged : (b : Bool) (x : Effect) → IsSoundBy near th x → IsSoundBy near th (if b then x else Stuck)
      paged true x s = s
      paged false x s = tt

      select_sound : (x : BankBit) (b : Bool) → IsSoundBy near th (select q p th x b)
      select_sound Rp0 b = (tt, good_behind _ good.low, none)
      select_sound Rp1 false = (tt, good_behind _ (λ n. (refl, (good.low n).1)), none)
      select_sound Irp false = (tt, good_behind _ (λ n. ((good.low n).0, refl)), none)
      select_sound Rp1 true = by (all_near g.program.layout) refl where
        by : (nr : Bool) → all_near g.program.layout ≡ nr → IsSoundBy near th (if nr then Stuck else quiet (goes th (behind q p) (record th.registers { rp1 = 1 })))
        by true e = tt
        by false e = (tt, good_behind _ (λ n. never_both (all_near g.program.layout) (is_near n) e), none)
      select_sound Irp true = by (all_near g.program.layout) refl where
        by : (nr : Bool) → all_near g.program.layout ≡ nr → IsSoundBy near th (if nr then Stuck else quiet (goes th (behind q p) (record th.registers { irp = 1 })))
        by true e = tt
        by false e = (tt, good_behind _ (λ n. never_both (all_near g.program.layout) (is_near n) e), none)

      page_keeps : (x : PageBit) (v : ℕ) → Keeps (with_page_bit th.registers x v)
      page_keeps pages.Low v = good.low
      page_keeps pages.High v = good.low

      -- what a read of a table leaves is neither RP1 nor IRP
      brought_sound : (left : Spoiled) (o : Option ℕ) → IsSoundBy near th (brought g p th left o)
      brought_sound left None = tt
      brought_sound left (Some v) = (tt, good_behind _ good.low, none)

      looked_up_sound : (table : ℕ) (o : Option ℕ) → IsSoundBy near th (looked_up g p th table o)
      looked_up_sound table None = tt
      looked_up_sound table (Some k) = brought_sound (g.leaves table k) (table_byte (g.program.tables table) k)

      pub sound_of : (m : Memory) (s : Sym) → keeps_out s ≡ true → IsSoundBy near th (effect_of g i p th m s)
      unfolding effect_of
      sound_of m (sym'.File op x into.W) e = w_sound m op _ (access_sound g i false th.registers x)
      sound_of m (sym'.File op x into.File) e = f_sound m op _ (access_sound g i true th.registers x)
      sound_of m (sym'.Movwf x) e = store_sound _ good.low _ _ (access_sound g i true th.registers x)
      sound_of m (sym'.Clrf x) e = store_sound _ good.low _ _ (access_sound g i true th.registers x)
      sound_of m (sym'.Bit op x b) e = bits_sound m op b x
      sound_of m (sym'.Literal op v) e = literal_sound op _ (λ n. let l = good.low n in let f = literal_bits th.registers op (literal_value g.program.layout v) in (f.0 ∙ l.0, f.1 ∙ l.1))
      sound_of m (sym'.Plain op) e = plain_sound op
      sound_of m (sym'.Call t) e = paged (is_in_page g p th.registers t) (call g i p th t) (call_sound t e)
      sound_of m (sym'.Goto t) e = paged (is_in_page g p th.registers t) (goto g i p th t) (goto_sound t e)
      sound_of m (sym'.Label x) e = tt
      sound_of m (sym'.SelectBank x b) e = select_sound x b
      sound_of m (sym'.SelectPage x t) e = (tt, good_behind _ (page_keeps x _), none)
      sound_of m (sym'.Table table root) e =
          let k = number_of (result_byte g i th.registers m root 0) (result_byte g i th.registers m root 1) in
          paged (is_in_page g p th.registers own_place) (look_up g i p th m table root)
          (paged (nat_lt (length th.stack) (g.limit i)) (looked_up g p th table k) (looked_up_sound table k))

    sound_if : (th : Thread) (p : Position) → IsGoodBy near th → th.rest ≡ None → is_copy p.block ≡ true → (m : Memory) (s : Option Sym) → fetched g.program p ≡ s → IsSoundBy near th (effect_if g i p th m s)
    sound_if th p good none here m None e = tt
    sound_if th p good none here m (Some s) e = sound_of th p good none here m s (out_block p.block here e) where
      out_block : (name : BlockName) → is_copy name ≡ true → slice_get (g.program.block name) p.index ≡ Some s → keeps_out s ≡ true
      out_block Start h f = absurd (cc)
      out_block (Copy c) h f = outside c p.index s f

    sound_at : (th : Thread) → IsGoodBy near th → th.rest ≡ None → (m : Memory) (b : Bool) (x : Option Position) → i ≡ b → th.at ≡ x → IsSoundBy near th (effect_at g b th m x)
    sound_at th good none m true None e f = tt
    sound_at th good none m false None e f = (e, f)
    sound_at th good none m b (Some p) e f = subst (λ z. IsSoundBy near th (effect_if g z p th m (fetched g.program p))) e (sound_if th p good none (ap is_out (sym f) ∙ good.at) m (fetched g.program p) refl)

    sound_rest : (th : Thread) → IsGoodBy near th → (m : Memory) (x : Option Rest) → th.rest ≡ x → IsSoundBy near th (effect_rest g i th m x)
    sound_rest th good m None e = sound_at th good e m i th.at refl refl
    sound_rest th good m (Some x) e = (subst (IsLeft g.program.layout) e good.left, record { deep = good.deep; at = good.at; stack = good.stack; left = tt; low = good.low }, refl)

    pub sound_by : (th : Thread) (m : Memory) → IsGoodBy near th → IsSoundBy near th (effect g i th m)
    unfolding effect
    sound_by th m good = sound_rest th good m th.rest refl

  pub sound : (outside : (copy n : ℕ) (s : Sym) → slice_get (g.program.block (Copy copy)) n ≡ Some s → keeps_out s ≡ true) (th : Thread) (m : Memory) → IsGood th → IsSound th (effect g i th m)
  sound outside th m good = sound_by (all_near g.program.layout) (λ e. e) outside th m good
