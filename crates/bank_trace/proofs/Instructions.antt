-- One instruction, with its selects and without them.
use Rattle.std.proofs.Common.{◌≡◌, ℕ, ◌+◌, ◌*◌, Bool, true, false, ◌&&◌, nat_eq, if◌then◌else◌, List, Option, Some, None, slice_get, refl, sym, subst, ◌%◌, nat_lt, length, map, ap}
use Rattle.std.proofs.lemmas.Bool.{eq-eqb}
use Rattle.pic_world.specs.Bits.{bit, set_bit, clear_bit, truth}
use Rattle.sym_code.specs.Effect.{Memory, Access, Effect, Stuck, goes, quiet, access_of, file_to_w, file_to_file, store, change, test, file_bit, flag, put_flag, is_in_page, goto, call, literal, literal_value, plain, effect_of, silent_byte, result_byte, number_of, table_byte, brought, looked_up, look_up}
use Rattle.sym_code.specs.Layout.{all_near}
use Rattle.sym_code.specs.Programs.{Position, block_of, behind, own_place}
use Rattle.sym_code.specs.Registers.{Registers, after_row, literal_row, status_bit, with_status_bit, Spoiled, spoiled}
use Rattle.std.proofs.lemmas.List.{length-map}
use Rattle.pic_world.specs.declared.Root.{Root}
use Rattle.core_code.specs.declared.code.Byte.TheVariants as bytes
use Rattle.sym_code.specs.Touching.{touches}
use Rattle.sym_code.specs.declared.code.BankBit.TheVariants.{Rp0, Rp1, Irp}
use Rattle.sym_code.specs.declared.code.BitOperation.{BitOperation}
use Rattle.sym_code.specs.declared.code.BitOperation.TheVariants.{Bcf, Bsf, Btfsc, Btfss}
use Rattle.sym_code.specs.declared.code.BlockName.{BlockName}
use Rattle.sym_code.specs.declared.code.Into.TheVariants as into
use Rattle.sym_code.specs.declared.code.Literal.{Literal}
use Rattle.sym_code.specs.declared.code.LiteralOperation.{LiteralOperation}
use Rattle.sym_code.specs.declared.code.LiteralOperation.TheVariants.{Retlw}
use Rattle.sym_code.specs.declared.code.PlainOperation.{PlainOperation}
use Rattle.sym_code.specs.declared.code.PlainOperation.TheVariants.{Clrw, Nop, Retfie, Return}
use Rattle.sym_code.specs.declared.code.Operand.{Operand}
use Rattle.sym_code.specs.declared.code.Operand.TheVariants as operands
use Rattle.sym_code.specs.declared.code.Register.TheVariants.{Status}
use Rattle.sym_code.specs.declared.code.Sym.{Sym}
use Rattle.sym_code.specs.declared.code.Sym.TheVariants as syms
use Rattle.sym_code.specs.declared.code.Target.{Target}
use Rattle.code_place.specs.Layouts.{layout_of}
use Rattle.bank_page.specs.Kinds.{is_skip, byte_of, byte_named, target_of}
use Rattle.bank_page.specs.Known.{is_retlw}
use Rattle.bank_page.specs.Selected.{reaches_byte}
use Rattle.bank_page.specs.declared.known.Known.{Known}
use Rattle.flow_facts.specs.Facts.{Fact, gives, at_target}
use Rattle.flow_facts.specs.Walk.{finds_target, is_right, holds_of, all_hold, leaves, leads}
use Rattle.bank_trace.proofs.Lists.{is_plain, calm_at, never}
use Rattle.bank_trace.proofs.Facts.{spot_front, passes_at}
use Rattle.bank_trace.proofs.Holding.{Bits, Holds, HoldsFact, holds_given, both_first, both_last, page_is}
use Rattle.bank_trace.proofs.Banks.{over, row_over, with_status_over}
use Rattle.bank_trace.proofs.Sites.{Site, IsSound, IsNamed, without, with, plain_setting, banked_setting}
use Rattle.bank_trace.proofs.Access.{access_same}
use Rattle.bank_trace.proofs.Places.{under, under_behind, block_behind, fact_at, fine_read, goes_past, AreBack, Onto, onto}
use Rattle.bank_trace.proofs.Twins.{Quietly, Does, GetsStuck, Done}
use Rattle.bank_trace.proofs.Rows.{one, other, goes_does, store_does, change_does, test_does, put_flag_does, test_flag_does, file_to_w_does, file_to_file_does}
use Rattle.bank_trace.proofs.Jumps.{goto_does, call_if, call_does, back_does, straight_does, clear_does}

module _ (x : Site) (sound : IsSound x) (q : Position) (stack : List Position) (r : Registers) (b : Bits) (open_stack : AreBack x q.block stack) (m : Memory) (inside : Bool) (known : Known) (is : fact_at x q ≡ Some known) (holds : Holds x.pages known b) where
  -- an access, as both make it
  by_access : (operand : Operand) (writes : Bool) → reaches_byte x.placed known (byte_named operand) ≡ true → IsNamed x.placed (Some (operand, writes)) → (e f : Access → Effect) → ((a : Access) → Does x (e a) (f a))
      → Does x (e (access_of (plain_setting x) inside writes r operand)) (f (access_of (banked_setting x) inside writes (over b r) operand))
  by_access operand writes reach named e f does =
      subst (λ (a : Access). Does x (e (access_of (plain_setting x) inside writes r operand)) (f a)) (sym (access_same x b r known operand inside writes holds reach named))
      (does (access_of (plain_setting x) inside writes r operand))

  in_page : (target : Target) → finds_target x.facts q.block known (Some target) ≡ true → (e f : Effect) → Does x e f → Does x e (if is_in_page (banked_setting x) q (over b r) target then f else Stuck)
  in_page target reach e f does =
      subst (λ (c : Bool). Does x e (if c then f else Stuck)) (sym (eq-eqb (2 * b.high + b.low) (x.pages (block_of q.block target)) (page_is x.pages x.facts sound.mates q.block known target b (sound.pages (block_of q.block target)) reach holds))) does

  module _ (s : Sym) (fetch : slice_get (x.made q.block) q.index ≡ Some s) (plain_one : is_plain s ≡ true) where
    next : goes_past s ≡ true → (c : Bool) → (c ≡ true → is_skip s ≡ true) → Onto x b q c
    next past c ok = onto x sound b q s known c fetch past ok is holds

    -- a test of each place, there
    test_there : (test : Known → Sym → Bool) → all_hold test x.facts q.block (x.facts.front q.block) false (x.made q.block) ≡ true → test known s ≡ true
    test_there test all =
        subst (λ (y : Fact). holds_of test y s ≡ true) is (passes_at x.facts q.block test (spot_front x.facts q.block) (x.made q.block) q.index s all fetch)

    pub right : is_right x.placed x.facts q.block known s ≡ true
    right = test_there (is_right x.placed x.facts q.block) (sound.reaches q.block)

    reach_byte : reaches_byte x.placed known (byte_of s) ≡ true
    reach_byte = both_first (reaches_byte x.placed known (byte_of s)) (finds_target x.facts q.block known (target_of s)) right

    reach_target : finds_target x.facts q.block known (target_of s) ≡ true
    reach_target = both_last (reaches_byte x.placed known (byte_of s)) (finds_target x.facts q.block known (target_of s)) right

    -- what is expected where it leads to is known
    pub lead : leads x.facts q.block known s ≡ true
    lead = test_there (leads x.facts q.block) (sound.lead q.block)

    named : IsNamed x.placed (touches s)
    named = sound.named q.block q.index s fetch

  abbrev DoesAt : Sym → Type 0
  DoesAt s = Does x (effect_of (plain_setting x) inside (under x q) (one x q stack r b open_stack) m s) (effect_of (banked_setting x) inside q (other x q stack r b open_stack) m s)

  bit_does : (op : BitOperation) (k : ℕ) (operand : Operand) → slice_get (x.made q.block) q.index ≡ Some (syms.Bit op operand k)
      → Does x (file_bit (plain_setting x) inside (under x q) (one x q stack r b open_stack) m op k operand) (file_bit (banked_setting x) inside q (other x q stack r b open_stack) m op k operand)
  bit_does Bcf k operand fetch =
      let s = syms.Bit Bcf operand k in
      by_access operand true (reach_byte s fetch refl) (named s fetch refl) (change (without x) (under x q) (one x q stack r b open_stack) m (clear_bit k)) (change (with x) q (other x q stack r b open_stack) m (clear_bit k))
      (change_does x q stack r b open_stack false (next s fetch refl refl) m (clear_bit k))
  bit_does Bsf k operand fetch =
      let s = syms.Bit Bsf operand k in
      by_access operand true (reach_byte s fetch refl) (named s fetch refl) (change (without x) (under x q) (one x q stack r b open_stack) m (set_bit k)) (change (with x) q (other x q stack r b open_stack) m (set_bit k))
      (change_does x q stack r b open_stack false (next s fetch refl refl) m (set_bit k))
  bit_does Btfsc k operand fetch =
      let s = syms.Bit Btfsc operand k in
      by_access operand false (reach_byte s fetch refl) (named s fetch refl) (test (without x) (under x q) (one x q stack r b open_stack) m (λ v. nat_eq (bit v k) 0)) (test (with x) q (other x q stack r b open_stack) m (λ v. nat_eq (bit v k) 0))
      (test_does x q stack r b open_stack true (next s fetch refl refl) refl m (λ v. nat_eq (bit v k) 0))
  bit_does Btfss k operand fetch =
      let s = syms.Bit Btfss operand k in
      by_access operand false (reach_byte s fetch refl) (named s fetch refl) (test (without x) (under x q) (one x q stack r b open_stack) m (λ v. nat_eq (bit v k) 1)) (test (with x) q (other x q stack r b open_stack) m (λ v. nat_eq (bit v k) 1))
      (test_does x q stack r b open_stack true (next s fetch refl refl) refl m (λ v. nat_eq (bit v k) 1))

  put_does : (s : Sym) → slice_get (x.made q.block) q.index ≡ Some s → is_plain s ≡ true → goes_past s ≡ true → (k v : ℕ) → Does x (put_flag (without x) (under x q) (one x q stack r b open_stack) (with_status_bit r k v)) (put_flag (with x) q (other x q stack r b open_stack) (with_status_bit (over b r) k v))
  put_does s fetch p past k v =
      subst (λ (o : Option Registers). Does x (put_flag (without x) (under x q) (one x q stack r b open_stack) (with_status_bit r k v)) (put_flag (with x) q (other x q stack r b open_stack) o)) (sym (with_status_over b r k v))
      (put_flag_does x q stack r b open_stack (is_skip s) (next s fetch p past) (with_status_bit r k v))

  -- what is stuck without selects may be stuck with them
  unless : (c : Bool) (e f : Effect) → Does x e f → Does x (if c then Stuck else e) (if c then Stuck else f)
  unless true e f does = GetsStuck refl
  unless false e f does = does

  flag_does : (op : BitOperation) (k : ℕ) → slice_get (x.made q.block) q.index ≡ Some (syms.Bit op (operands.Register Status) k)
      → Does x (flag (without x) (under x q) (one x q stack r b open_stack) op k) (flag (with x) q (other x q stack r b open_stack) op k)
  flag_does Bcf k fetch = put_does (syms.Bit Bcf (operands.Register Status) k) fetch refl refl k 0
  flag_does Bsf k fetch =
      unless (nat_eq k 7 && all_near (layout_of x.placed)) (put_flag (without x) (under x q) (one x q stack r b open_stack) (with_status_bit r k 1)) (put_flag (with x) q (other x q stack r b open_stack) (with_status_bit (over b r) k 1))
      (put_does (syms.Bit Bsf (operands.Register Status) k) fetch refl refl k 1)
  flag_does Btfsc k fetch = test_flag_does x q stack r b open_stack true (next (syms.Bit Btfsc (operands.Register Status) k) fetch refl refl) refl 0 (status_bit r k)
  flag_does Btfss k fetch = test_flag_does x q stack r b open_stack true (next (syms.Bit Btfss (operands.Register Status) k) fetch refl refl) refl 1 (status_bit r k)

  -- what is expected elsewhere holds
  expected : (wanted : Fact) → gives (Some known) wanted ≡ true → HoldsFact x.pages wanted b
  expected wanted e = holds_given x.pages (Some known) wanted b e holds

  returned : (op : LiteralOperation) (value : Literal) → slice_get (x.made q.block) q.index ≡ Some (syms.Literal op value) → is_retlw op ≡ true → HoldsFact x.pages (x.facts.back q.block) b
  returned op value fetch does =
      expected (x.facts.back q.block) (subst (λ (c : Bool). (if c then gives (Some known) (x.facts.back q.block) else true) ≡ true) does (lead (syms.Literal op value) fetch refl))

  literal_does : (op : LiteralOperation) (value : Literal) → slice_get (x.made q.block) q.index ≡ Some (syms.Literal op value) → (s : Registers)
      → Does x (literal (without x) (under x q) (one x q stack r b open_stack) op s) (literal (with x) q (other x q stack r b open_stack) op (over b s))
  literal_does Retlw value fetch s = back_does x q r b s stack stack open_stack (returned Retlw value fetch refl)
  literal_does op value fetch s = straight_does x q r b (next (syms.Literal op value) fetch refl refl) stack open_stack s

  plain_does : (op : PlainOperation) → slice_get (x.made q.block) q.index ≡ Some (syms.Plain op)
      → Does x (plain (without x) (under x q) (one x q stack r b open_stack) op) (plain (with x) q (other x q stack r b open_stack) op)
  plain_does Clrw fetch = clear_does x q r b (next (syms.Plain Clrw) fetch refl refl) stack open_stack
  plain_does Nop fetch = straight_does x q r b (next (syms.Plain Nop) fetch refl refl) stack open_stack r
  plain_does Retfie fetch = GetsStuck refl
  plain_does Return fetch = back_does x q r b r stack stack open_stack (expected (x.facts.back q.block) (lead (syms.Plain Return) fetch refl))

  -- ---- a read of a table
  -- the bits of the page behind it are those that its words leave
  brought_does : (table : ℕ) (root : Root) → slice_get (x.made q.block) q.index ≡ Some (syms.Table table root) → (left : Spoiled) (v : Option ℕ)
      → Does x (brought (plain_setting x) (under x q) (one x q stack r b open_stack) left v) (brought (banked_setting x) q (other x q stack r b open_stack) left v)
  brought_does table root fetch left None = GetsStuck refl
  brought_does table root fetch left (Some v) =
      let s : Registers = record (spoiled left r) { w = v % 256 } in
      let bits : Bits = record b { low = truth left.page_low; high = truth left.page_high } in
      let calm : calm_at (slice_get (x.made q.block) q.index) ≡ true = ap calm_at fetch in
      Done (Quietly (record { rest = None; at = Some (behind (with x) q); stack = stack; registers = s; bits = bits }) None)
      (record {
        at = fine_read x sound q table root known b (truth left.page_low) (truth left.page_high) fetch is holds;
        stack = subst (λ (n : BlockName). AreBack x n stack) (sym (block_behind x q)) open_stack;
      })
      (ap (λ (p : Position). quiet (record { rest = None; at = Some p; stack = map (under x) stack; registers = s })) (under_behind x q calm))
      refl refl

  looked_up_does : (table : ℕ) (root : Root) → slice_get (x.made q.block) q.index ≡ Some (syms.Table table root) → (k : Option ℕ)
      → Does x (looked_up (plain_setting x) (under x q) (one x q stack r b open_stack) table k) (looked_up (banked_setting x) q (other x q stack r b open_stack) table k)
  looked_up_does table root fetch None = GetsStuck refl
  looked_up_does table root fetch (Some k) = brought_does table root fetch (x.leaves table k) (table_byte (x.tables table) k)

  -- both results stand in every bank
  look_up_does : (table : ℕ) (root : Root) → slice_get (x.made q.block) q.index ≡ Some (syms.Table table root)
      → Does x (look_up (plain_setting x) inside (under x q) (one x q stack r b open_stack) m table root) (look_up (banked_setting x) inside q (other x q stack r b open_stack) m table root)
  look_up_does table root fetch =
      let low : Operand = operands.Byte (bytes.Result root 0) in
      let high : Operand = operands.Byte (bytes.Result root 1) in
      let e : Option ℕ → Option ℕ → Effect = λ v w. looked_up (plain_setting x) (under x q) (one x q stack r b open_stack) table (number_of v w) in
      let f : Option ℕ → Option ℕ → Effect = λ v w. looked_up (banked_setting x) q (other x q stack r b open_stack) table (number_of v w) in
      let second = result_byte (plain_setting x) inside r m root 1 in
      let banked_second = result_byte (banked_setting x) inside (over b r) m root 1 in
      call_if x q r b (nat_lt (length (map (under x) stack)) (x.limit inside)) (nat_lt (length stack) (x.limit inside)) (ap (λ n. nat_lt n (x.limit inside)) (length-map stack (under x)))
      (e (result_byte (plain_setting x) inside r m root 0) second) (f (result_byte (banked_setting x) inside (over b r) m root 0) banked_second)
      (by_access low false refl refl (λ a. e (silent_byte m a) second) (λ a. f (silent_byte m a) banked_second)
      (λ a. by_access high false refl refl (λ c. e (silent_byte m a) (silent_byte m c)) (λ c. f (silent_byte m a) (silent_byte m c))
      (λ c. looked_up_does table root fetch (number_of (silent_byte m a) (silent_byte m c)))))

  pub row_does : (s : Sym) → slice_get (x.made q.block) q.index ≡ Some s → is_plain s ≡ true → DoesAt s
  unfolding effect_of
  row_does (syms.File op operand into.W) fetch p =
      let s = syms.File op operand into.W in
      by_access operand false (reach_byte s fetch p) (named s fetch p) (file_to_w (without x) (under x q) (one x q stack r b open_stack) m op) (file_to_w (with x) q (other x q stack r b open_stack) m op)
      (file_to_w_does x q stack r b open_stack (is_skip s) (next s fetch p refl) op refl m)
  row_does (syms.File op operand into.File) fetch p =
      let s = syms.File op operand into.File in
      by_access operand true (reach_byte s fetch p) (named s fetch p) (file_to_file (without x) (under x q) (one x q stack r b open_stack) m op) (file_to_file (with x) q (other x q stack r b open_stack) m op)
      (file_to_file_does x q stack r b open_stack (is_skip s) (next s fetch p refl) op refl m)
  row_does (syms.Movwf operand) fetch p =
      let s = syms.Movwf operand in
      by_access operand true (reach_byte s fetch p) (named s fetch p) (store (without x) (under x q) (one x q stack r b open_stack) r r.w) (store (with x) q (other x q stack r b open_stack) (over b r) r.w)
      (store_does x q stack r b open_stack false (next s fetch p refl) r r.w)
  row_does (syms.Clrf operand) fetch p =
      let s = syms.Clrf operand in
      by_access operand true (reach_byte s fetch p) (named s fetch p) (store (without x) (under x q) (one x q stack r b open_stack) (record r { z = 1 }) 0) (store (with x) q (other x q stack r b open_stack) (over b (record r { z = 1 })) 0)
      (store_does x q stack r b open_stack false (next s fetch p refl) (record r { z = 1 }) 0)
  row_does (syms.Bit op (operands.Register Status) k) fetch p = flag_does op k fetch
  row_does (syms.Bit op operand k) fetch p = bit_does op k operand fetch
  row_does (syms.Literal op value) fetch p =
      let i = literal_row op (literal_value (without x).layout value) in
      subst (λ (t : Registers). Does x (literal (without x) (under x q) (one x q stack r b open_stack) op (after_row i r)) (literal (with x) q (other x q stack r b open_stack) op t)) (sym (row_over b i r))
      (literal_does op value fetch (after_row i r))
  row_does (syms.Plain op) fetch p = plain_does op fetch
  row_does (syms.Call target) fetch p =
      in_page target (reach_target (syms.Call target) fetch p) (call (plain_setting x) inside (under x q) (one x q stack r b open_stack) target) (call (banked_setting x) inside q (other x q stack r b open_stack) target)
      (call_does x q r b sound inside stack open_stack target fetch known is (expected (at_target x.facts q.block target) (lead (syms.Call target) fetch p)))
  row_does (syms.Goto target) fetch p =
      let led = lead (syms.Goto target) fetch p in
      let there = gives (Some known) (at_target x.facts q.block target) in
      in_page target (reach_target (syms.Goto target) fetch p) (goto (plain_setting x) inside (under x q) (one x q stack r b open_stack) target) (goto (banked_setting x) inside q (other x q stack r b open_stack) target)
      (goto_does x q r b sound inside stack open_stack target (expected (at_target x.facts q.block target) (both_first there (leaves x.facts q.block target) led)) (both_last there (leaves x.facts q.block target) led))
  row_does (syms.Label label) fetch p = GetsStuck refl
  row_does (syms.SelectBank Irp on) fetch p =
      unless (on && all_near (layout_of x.placed)) (quiet (goes (one x q stack r b open_stack) (behind (without x) (under x q)) (record r { irp = truth on }))) (quiet (goes (other x q stack r b open_stack) (behind (with x) q) (over b (record r { irp = truth on }))))
      (goes_does x q stack r b open_stack false (next (syms.SelectBank Irp on) fetch p refl) (record r { irp = truth on }) None)
  row_does (syms.SelectBank Rp0 on) fetch p = never p
  row_does (syms.SelectBank Rp1 on) fetch p = never p
  row_does (syms.SelectPage bit target) fetch p = never p
  row_does (syms.Table table root) fetch p =
      in_page own_place (reach_target (syms.Table table root) fetch p) (look_up (plain_setting x) inside (under x q) (one x q stack r b open_stack) m table root) (look_up (banked_setting x) inside q (other x q stack r b open_stack) m table root)
      (look_up_does table root fetch)
