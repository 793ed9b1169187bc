-- What an instruction does depends on its thread and on the bytes that it may read, and it writes its own bytes alone.
use Rattle.std.proofs.Common.{◌≡◌, ℕ, Bool, true, false, Option, Some, None, refl, sym, ap, ◌∙◌, if◌then◌else◌, nat_lt, List, length}
use Rattle.std.specs.Prelude.{if◌then◌else◌, ◌&&◌, nat_eq}
use Rattle.std.proofs.lemmas.Bool.{eqb-true}
use Rattle.pic_world.specs.Bits.{bit, set_bit, clear_bit}
use Rattle.pic_world.specs.Registers.{is_register, lowest}
use Rattle.pic_world.specs.declared.Root.TheVariants.{Main, Isr}
use Rattle.pic_world.specs.declared.Root.{Root}
use Rattle.core_code.specs.declared.code.Byte.TheVariants as bytes
use Rattle.sym_code.specs.Effect.{Setting, Port, Shared, Rest, Thread, Memory, write, Access, Pointer, Event, Silent, Denied, access_by, general_access, is_selected, access_of, Quiet, goes, quiet, after_file, result_in_w, file_to_w, file_to_file, store, change, test, file_bit, bits, effect_of, effect_if, effect_at, effect_rest, effect, Effect, Stuck, is_in_page, silent_byte, result_byte, number_of, looked_up, look_up}
use Rattle.sym_code.specs.Layout.{is_covered, DataLayout, address_of, general_at, Owner, Watched, Constant, Of, Nobody, owner}
use Rattle.sym_code.specs.Programs.{Position, fetched, behind, onward, own_place}
use Rattle.sym_code.specs.Registers.{Registers, pointer, result_with}
use Rattle.sym_code.specs.declared.code.BitOperation.{BitOperation}
use Rattle.sym_code.specs.declared.code.BitOperation.TheVariants.{Bcf, Bsf, Btfsc, Btfss}
use Rattle.sym_code.specs.declared.code.FileOperation.{FileOperation}
use Rattle.sym_code.specs.declared.code.Into.TheVariants as into
use Rattle.sym_code.specs.declared.code.Operand.{Operand}
use Rattle.sym_code.specs.declared.code.Operand.TheVariants as operands
use Rattle.sym_code.specs.declared.code.Register.TheVariants.{Indf, Status, Fsr, Pclath}
use Rattle.sym_code.specs.declared.code.Sym.{Sym}
use Rattle.sym_code.specs.declared.code.Sym.TheVariants as sym'

-- ---- owners
-- which bytes a thread reads without an event, and which it writes so
abbrev pub reads_silently : Bool → Owner → Bool
reads_silently i (Watched cell) = false
reads_silently i Constant = true
reads_silently false (Of Main) = true
reads_silently true (Of Main) = false
reads_silently false (Of Isr) = false
reads_silently true (Of Isr) = true
reads_silently i Nobody = false

abbrev pub writes_silently : Bool → Owner → Bool
writes_silently i (Watched cell) = false
writes_silently i Constant = false
writes_silently false (Of Main) = true
writes_silently true (Of Main) = false
writes_silently false (Of Isr) = false
writes_silently true (Of Isr) = true
writes_silently i Nobody = false

-- what an access is of
abbrev pub IsAccess : DataLayout → Bool → Bool → Access → Type 0
IsAccess l i w Pointer = Unit {0}
IsAccess l i w (Event (Port a)) = (is_register a ≡ true) × (lowest a ≡ a)
IsAccess l i w (Event (Shared k cell)) = owner l k ≡ Watched cell
IsAccess l i false (Silent k) = reads_silently i (owner l k) ≡ true
IsAccess l i true (Silent k) = (reads_silently i (owner l k) ≡ true) × (writes_silently i (owner l k) ≡ true)
IsAccess l i w Denied = Unit {0}

by_owner : (l : DataLayout) (i w : Bool) (k : ℕ) (o : Owner) → owner l k ≡ o → IsAccess l i w (access_by i w k o)
by_owner l i w k (Watched cell) e = e
by_owner l i false k Constant e = ap (reads_silently i) e
by_owner l i true k Constant e = tt
by_owner l false false k (Of Main) e = ap (reads_silently false) e
by_owner l false true k (Of Main) e = (ap (reads_silently false) e, ap (writes_silently false) e)
by_owner l true w k (Of Main) e = tt
by_owner l false w k (Of Isr) e = tt
by_owner l true false k (Of Isr) e = ap (reads_silently true) e
by_owner l true true k (Of Isr) e = (ap (reads_silently true) e, ap (writes_silently true) e)
by_owner l i w k Nobody e = tt

general : (l : DataLayout) (i w : Bool) (k : Option ℕ) → IsAccess l i w (general_access l i w k)
general l i w None = tt
general l i w (Some k) = by_owner l i w k (owner l k) refl

named : (g : Setting) (i w : Bool) (r : Registers) (a : ℕ) (b : Bool) → IsAccess g.program.layout i w (if b then general_access g.program.layout i w (general_at a) else Denied)
named g i w r a true = general g.program.layout i w (general_at a)
named g i w r a false = tt

device : (l : DataLayout) (i w : Bool) (a : ℕ) (x y z : Bool) → is_register a ≡ x → nat_eq (lowest a) a ≡ y → IsAccess l i w (if x && y && z then Event (Port a) else Denied)
device l i w a true true true e f = (e, eqb-true (lowest a) a f)
device l i w a true true false e f = tt
device l i w a true false z e f = tt
device l i w a false y z e f = tt

pub access_sound : (g : Setting) (i w : Bool) (r : Registers) (x : Operand) → IsAccess g.program.layout i w (access_of g i w r x)
unfolding access_of
access_sound g i w r (operands.Byte (bytes.Device a)) = device g.program.layout i w a (is_register a) (nat_eq (lowest a) a) (is_selected g r a) refl refl
access_sound g i w r (operands.Byte (bytes.Static n o)) = named g i w r (address_of g.program.layout (bytes.Static n o)) (is_selected g r (address_of g.program.layout (bytes.Static n o)))
access_sound g i w r (operands.Byte (bytes.Frame n o)) = named g i w r (address_of g.program.layout (bytes.Frame n o)) (is_selected g r (address_of g.program.layout (bytes.Frame n o)))
access_sound g i w r (operands.Byte (bytes.Result n o)) = named g i w r (address_of g.program.layout (bytes.Result n o)) (is_selected g r (address_of g.program.layout (bytes.Result n o)))
access_sound g i w r (operands.Register Indf) = named g i w r (pointer r) (is_covered g.program.layout (pointer r))
access_sound g i w r (operands.Register Fsr) = tt
access_sound g i w r (operands.Register Status) = tt
access_sound g i w r (operands.Register Pclath) = tt
access_sound g i w r (operands.Saved cell) = tt

-- ---- the same bytes, the same effect
module _ (g : Setting) (i : Bool) (th : Thread) where
  abbrev pub l : DataLayout
  l = g.program.layout

  abbrev pub Own : Memory → Memory → Type 0
  Own m k = (a : ℕ) → reads_silently i (owner l a) ≡ true → m a ≡ k a

  reads_of : (w : Bool) (a : ℕ) → IsAccess l i w (Silent a) → reads_silently i (owner l a) ≡ true
  reads_of false a s = s
  reads_of true a s = s.0

  w_same : (p : Position) (m k : Memory) (op : FileOperation) (x : Access) → IsAccess l i false x → Own m k → file_to_w g.program p th m op x ≡ file_to_w g.program p th k op x
  w_same p m k op Pointer a s = refl
  w_same p m k op (Event b) a s = refl
  w_same p m k op (Silent n) a s = ap (λ v. quiet (result_in_w g.program p th op v)) (s n a)
  w_same p m k op Denied a s = refl

  f_same : (p : Position) (m k : Memory) (op : FileOperation) (x : Access) → IsAccess l i true x → Own m k → file_to_file g.program p th m op x ≡ file_to_file g.program p th k op x
  f_same p m k op Pointer a s = refl
  f_same p m k op (Event b) a s = refl
  f_same p m k op (Silent n) a s = ap (λ v. Quiet (after_file g.program p th op v) (write n (result_with th.registers op v))) (s n a.0)
  f_same p m k op Denied a s = refl

  change_same : (p : Position) (m k : Memory) (f : ℕ → ℕ) (x : Access) → IsAccess l i true x → Own m k → change g.program p th m f x ≡ change g.program p th k f x
  change_same p m k f Pointer a s = refl
  change_same p m k f (Event b) a s = refl
  change_same p m k f (Silent n) a s = ap (λ v. Quiet (goes th (behind g.program p) th.registers) (write n (f v))) (s n a.0)
  change_same p m k f Denied a s = refl

  test_same : (p : Position) (m k : Memory) (f : ℕ → Bool) (x : Access) → IsAccess l i false x → Own m k → test g.program p th m f x ≡ test g.program p th k f x
  test_same p m k f Pointer a s = refl
  test_same p m k f (Event b) a s = refl
  test_same p m k f (Silent n) a s = ap (λ v. quiet (goes th (onward g.program p (f v)) th.registers)) (s n a)
  test_same p m k f Denied a s = refl

  store_same : (p : Position) (m k : Memory) (r : Registers) (v : ℕ) (x : Access) → store g.program p th r v x ≡ store g.program p th r v x
  store_same p m k r v x = refl

  bit_same : (p : Position) (m k : Memory) (op : BitOperation) (b : ℕ) (x : Operand) → Own m k → file_bit g i p th m op b x ≡ file_bit g i p th k op b x
  bit_same p m k Bcf b x s = change_same p m k (clear_bit b) _ (access_sound g i true th.registers x) s
  bit_same p m k Bsf b x s = change_same p m k (set_bit b) _ (access_sound g i true th.registers x) s
  bit_same p m k Btfsc b x s = test_same p m k (λ x. nat_eq (bit x b) 0) _ (access_sound g i false th.registers x) s
  bit_same p m k Btfss b x s = test_same p m k (λ x. nat_eq (bit x b) 1) _ (access_sound g i false th.registers x) s

  bits_same : (p : Position) (m k : Memory) (op : BitOperation) (b : ℕ) (x : Operand) → Own m k → bits g i p th m op b x ≡ bits g i p th k op b x
  bits_same p m k op b (operands.Byte x) s = bit_same p m k op b (operands.Byte x) s
  bits_same p m k op b (operands.Register Indf) s = bit_same p m k op b (operands.Register Indf) s
  bits_same p m k op b (operands.Register Fsr) s = bit_same p m k op b (operands.Register Fsr) s
  bits_same p m k op b (operands.Register Status) s = refl
  bits_same p m k op b (operands.Register Pclath) s = bit_same p m k op b (operands.Register Pclath) s
  bits_same p m k op b (operands.Saved x) s = bit_same p m k op b (operands.Saved x) s

  silent_same : (m k : Memory) (x : Access) → IsAccess l i false x → Own m k → silent_byte m x ≡ silent_byte k x
  silent_same m k Pointer a s = refl
  silent_same m k (Event b) a s = refl
  silent_same m k (Silent n) a s = ap (λ (v : ℕ). Some v) (s n a)
  silent_same m k Denied a s = refl

  result_same : (m k : Memory) (root : Root) (n : ℕ) → Own m k → result_byte g i th.registers m root n ≡ result_byte g i th.registers k root n
  result_same m k root n s = silent_same m k _ (access_sound g i false th.registers (operands.Byte (bytes.Result root n))) s

  look_up_same : (p : Position) (m k : Memory) (table : ℕ) (root : Root) → Own m k → look_up g i p th m table root ≡ look_up g i p th k table root
  look_up_same p m k table root s =
      let f : Option ℕ → Option ℕ → Effect = λ v w. if nat_lt (length th.stack) (g.limit i) then looked_up g p th table (number_of v w) else Stuck in
      ap (λ (v : Option ℕ). f v (result_byte g i th.registers m root 1)) (result_same m k root 0 s) ∙ ap (f (result_byte g i th.registers k root 0)) (result_same m k root 1 s)

  same_of : (p : Position) (m k : Memory) (s : Sym) → Own m k → effect_of g i p th m s ≡ effect_of g i p th k s
  unfolding effect_of
  same_of p m k (sym'.File op x into.W) s = w_same p m k op _ (access_sound g i false th.registers x) s
  same_of p m k (sym'.File op x into.File) s = f_same p m k op _ (access_sound g i true th.registers x) s
  same_of p m k (sym'.Movwf x) s = refl
  same_of p m k (sym'.Clrf x) s = refl
  same_of p m k (sym'.Bit op x b) s = bits_same p m k op b x s
  same_of p m k (sym'.Literal op v) s = refl
  same_of p m k (sym'.Plain op) s = refl
  same_of p m k (sym'.Call t) s = refl
  same_of p m k (sym'.Goto t) s = refl
  same_of p m k (sym'.Label x) s = refl
  same_of p m k (sym'.SelectBank x b) s = refl
  same_of p m k (sym'.SelectPage x t) s = refl
  same_of p m k (sym'.Table table root) s = ap (λ (e : Effect). if is_in_page g p th.registers own_place then e else Stuck) (look_up_same p m k table root s)

  same_if : (p : Position) (m k : Memory) (s : Option Sym) → Own m k → effect_if g i p th m s ≡ effect_if g i p th k s
  same_if p m k None s = refl
  same_if p m k (Some x) s = same_of p m k x s

  same_at : (b : Bool) (o : Option Position) (m k : Memory) → i ≡ b → Own m k → effect_at g i th m o ≡ effect_at g i th k o
  same_at true None m k e s = ap (λ b. effect_at g b th m None) e ∙ sym (ap (λ b. effect_at g b th k None) e)
  same_at false None m k e s = ap (λ b. effect_at g b th m None) e ∙ sym (ap (λ b. effect_at g b th k None) e)
  same_at b (Some p) m k e s = same_if p m k (fetched g.program p) s

  same_rest : (o : Option Rest) (m k : Memory) → Own m k → effect_rest g i th m o ≡ effect_rest g i th k o
  same_rest None m k s = same_at i th.at m k refl s
  same_rest (Some x) m k s = refl

  pub effect_same : (m k : Memory) → Own m k → effect g i th m ≡ effect g i th k
  unfolding effect
  effect_same m k s = same_rest th.rest m k s
