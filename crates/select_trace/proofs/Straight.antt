-- Code that jumps nowhere, on own bytes: a run of the symbolic machine along it, by the run over bytes by number.
use Rattle.std.proofs.Common.{◌≡◌, ℕ, suc, ◌+◌, ◌≤◌, Bool, true, false, List, [], ◌∷◌, ◌++◌, Option, Some, None, refl, ap, sym, ◌∙◌, subst, arith, drop, length}
use Rattle.std.specs.Prelude.{nat_eq, if◌then◌else◌}
use Rattle.core_code.specs.declared.code.Byte.{Byte}
use Rattle.pic_world.specs.Bits.{bit}
use Rattle.math_helpers.specs.Shape.{sum_from}
use Rattle.sym_code.specs.Effect.{Setting, Memory}
use Rattle.sym_code.specs.Programs.{Program, Position, position, stand, behind, lands, is_word, labels_in_front}
use Rattle.sym_code.specs.Quiet.{Scene, quiet_cost, price_at}
use Rattle.sym_code.specs.Registers.{Registers}
use Rattle.sym_code.specs.declared.code.BitOperation.TheVariants.{Bcf, Bsf, Btfsc, Btfss}
use Rattle.sym_code.specs.declared.code.BlockName.{BlockName}
use Rattle.sym_code.specs.declared.code.Into.TheVariants.{W, File}
use Rattle.sym_code.specs.declared.code.Literal.TheVariants as literals
use Rattle.sym_code.specs.declared.code.LiteralOperation.TheVariants.{Addlw, Movlw, Xorlw}
use Rattle.sym_code.specs.declared.code.Operand.TheVariants as operands
use Rattle.sym_code.specs.declared.code.PlainOperation.TheVariants as plains
use Rattle.sym_code.specs.declared.code.Register.TheVariants.{Status}
use Rattle.sym_code.specs.declared.code.Sym.{Sym}
use Rattle.sym_code.specs.declared.code.Sym.TheVariants as sym
use Rattle.select_wide.specs.Direct.{is_indirect, direct_step, direct_run}
use Rattle.select_trace.specs.Rows.{skips_with, status_bit}
use Rattle.select_trace.specs.Run as run
use Rattle.select_trace.specs.Run.{Mode, Going, Skipping, Seeking, Returned, Machine, execute, skipping_if, skipped, step_in}
use Rattle.select_trace.specs.Silent.{number_at, AreQuiet, IsStraight, plain, plain_code, AreStraight}
use Rattle.select_trace.proofs.Effects.{next, scene, goes_if, does}
use Rattle.select_trace.proofs.QuietSteps.{head_of, first_then, first_cost, step_is, stand_at}

-- ---- one instruction
abbrev pub IsOn : Mode → Type 0
IsOn Going = Unit {0}
IsOn Skipping = Unit {0}
IsOn _ = ⊥

on_if : (b : Bool) → IsOn (skipping_if b)
on_if true = tt
on_if false = tt

-- it goes on, or skips the next one
pub on : (P : Byte → Type 0) (at : Byte → ℕ) (r : Registers) (m : Memory) (x : Sym) → IsStraight P x → IsOn (execute (plain at x) r m).mode
on P at r m (sym.File op (operands.Byte byte) W) h = on_if (skips_with r op (m (at byte)))
on P at r m (sym.File op (operands.Byte byte) File) h = on_if (skips_with r op (m (at byte)))
on P at r m (sym.Movwf (operands.Byte byte)) h = tt
on P at r m (sym.Clrf (operands.Byte byte)) h = tt
on P at r m (sym.Bit Btfsc (operands.Byte byte) n) h = on_if (nat_eq (bit (m (at byte)) n) 0)
on P at r m (sym.Bit Btfss (operands.Byte byte) n) h = on_if (nat_eq (bit (m (at byte)) n) 1)
on P at r m (sym.Bit Bcf (operands.Register Status) n) h = tt
on P at r m (sym.Bit Bsf (operands.Register Status) n) h = tt
on P at r m (sym.Bit Btfsc (operands.Register Status) n) h = on_if (nat_eq (status_bit r n) 0)
on P at r m (sym.Bit Btfss (operands.Register Status) n) h = on_if (nat_eq (status_bit r n) 1)
on P at r m (sym.Literal Movlw (literals.Number n)) h = tt
on P at r m (sym.Literal Addlw (literals.Number n)) h = tt
on P at r m (sym.Literal Xorlw (literals.Number n)) h = tt
on P at r m (sym.Plain plains.Clrw) h = tt
on P at r m x h = absurd h

-- it is a word
pub front_of : (P : Byte → Type 0) (x : Sym) (rest : List Sym) → IsStraight P x → labels_in_front (x ∷ rest) ≡ 0
front_of P (sym.Label label) rest h = absurd h
front_of P (sym.File op file into) rest h = refl
front_of P (sym.Movwf file) rest h = refl
front_of P (sym.Clrf file) rest h = refl
front_of P (sym.Bit op file n) rest h = refl
front_of P (sym.Literal op value) rest h = refl
front_of P (sym.Plain op) rest h = refl
front_of P (sym.Call target) rest h = refl
front_of P (sym.Goto target) rest h = refl
front_of P (sym.SelectBank which to) rest h = refl
front_of P (sym.SelectPage which target) rest h = refl
front_of P (sym.Table table root) rest h = refl

pub word_of : (P : Byte → Type 0) (x : Sym) → IsStraight P x → is_word (Some x) ≡ true
word_of P (sym.Label label) h = absurd h
word_of P (sym.File op file into) h = refl
word_of P (sym.Movwf file) h = refl
word_of P (sym.Clrf file) h = refl
word_of P (sym.Bit op file n) h = refl
word_of P (sym.Literal op value) h = refl
word_of P (sym.Plain op) h = refl
word_of P (sym.Call target) h = refl
word_of P (sym.Goto target) h = refl
word_of P (sym.SelectBank which to) h = refl
word_of P (sym.SelectPage which target) h = refl
word_of P (sym.Table table root) h = refl

-- it doesn't go through FSR
pub direct_of : (P : Byte → Type 0) (x : Sym) → IsStraight P x → is_indirect (Some x) ≡ false
direct_of P (sym.File op (operands.Byte byte) into) h = refl
direct_of P (sym.Movwf (operands.Byte byte)) h = refl
direct_of P (sym.Clrf (operands.Byte byte)) h = refl
direct_of P (sym.Bit op (operands.Register Status) n) h = refl
direct_of P (sym.Bit Btfsc (operands.Byte byte) n) h = refl
direct_of P (sym.Bit Btfss (operands.Byte byte) n) h = refl
direct_of P (sym.Literal op value) h = refl
direct_of P (sym.Plain op) h = refl
direct_of P x h = absurd h

-- a skip goes past it
pub passed : (P : Byte → Type 0) (at : Byte → ℕ) (x : Sym) → IsStraight P x → skipped (plain at x) ≡ Going
passed P at (sym.File op (operands.Byte byte) into) h = refl
passed P at (sym.Movwf (operands.Byte byte)) h = refl
passed P at (sym.Clrf (operands.Byte byte)) h = refl
passed P at (sym.Bit Btfsc (operands.Byte byte) n) h = refl
passed P at (sym.Bit Btfss (operands.Byte byte) n) h = refl
passed P at (sym.Bit op (operands.Register Status) n) h = refl
passed P at (sym.Literal Movlw (literals.Number n)) h = refl
passed P at (sym.Literal Addlw (literals.Number n)) h = refl
passed P at (sym.Literal Xorlw (literals.Number n)) h = refl
passed P at (sym.Plain plains.Clrw) h = refl
passed P at x h = absurd h

-- where a thread stands at place i of a block
abbrev pub stands : Program → BlockName → ℕ → Mode → Position
stands q block i Going = stand q (position block i)
stands q block i Skipping = behind q (stand q (position block i))
stands q block i (Seeking l) = position block i
stands q block i Returned = position block i

abbrev pub in_mode : Mode → Scene → Machine
in_mode k s = record { mode = k; registers = s.thread.registers; memory = s.memory }

-- a thread that has come to the place behind, in so many steps
pub record Comes (g : Setting) (price : BlockName → ℕ → ℕ) (inside : Bool) (block : BlockName) (s : Scene) (n : ℕ) (u : Machine) (long most : ℕ) : Type 0 where
  pub count : ℕ
  pub few : count ≤ long
  pub run : direct_run g inside count s ≡ Some (scene s.thread (stand g.program (position block n)) u)
  pub cost : quiet_cost g price inside count s ≤ most

module _ (g : Setting) (inside : Bool) (P : Byte → Type 0) (quiet : AreQuiet g inside P) (price : BlockName → ℕ → ℕ) (block : BlockName) (post : List Sym) where
  abbrev at : Byte → ℕ
  at = number_at g.program.layout

  abbrev code : List Sym
  code = g.program.block block

  at_word : (i : ℕ) (x : Sym) (rest : List Sym) → drop i code ≡ x ∷ rest → IsStraight P x → stand g.program (position block i) ≡ position block i
  at_word i x rest e h = stand_at g.program block i (ap labels_in_front e ∙ front_of P x rest h)

  -- it stands at an instruction wherever it comes to
  arrives : (xs : List Sym) (i : ℕ) (k : Mode) (r : Registers) (m : Memory) → drop i code ≡ xs ++ post → AreStraight P xs → IsOn k →
      (run.run (plain_code at xs) (record { mode = k; registers = r; memory = m })).mode ≡ Going → lands g.program (stand g.program (position block (i + length xs))) ≡ true → lands g.program (stands g.program block i k) ≡ true
  arrives [] i Going r m e all o goes end = subst (λ (n : ℕ). lands g.program (stand g.program (position block n)) ≡ true) (let f : i + 0 ≡ i = omega arith in f) end
  arrives (x ∷ xs) i Going r m e all o goes end =
      ap (λ (p : Position). lands g.program p) (at_word i x (xs ++ post) e all.0) ∙ ap is_word (head_of code i x (xs ++ post) e).0 ∙ word_of P x all.0
  arrives [] i Skipping r m e all o goes end = absurd (cc)
  arrives (x ∷ xs) i Skipping r m e all o goes end =
      ap (λ (p : Position). lands g.program (behind g.program p)) (at_word i x (xs ++ post) e all.0)
      ∙ arrives xs (i + 1) Going r m (head_of code i x (xs ++ post) e).1 all.1 tt
      (subst (λ (k : Mode). (run.run (plain_code at xs) (record { mode = k; registers = r; memory = m })).mode ≡ Going) (passed P at x all.0) goes)
      (subst (λ (n : ℕ). lands g.program (stand g.program (position block n)) ≡ true) (let f : i + suc (length xs) ≡ i + 1 + length xs = omega arith in f) end)
  arrives xs i (Seeking l) r m e all o goes end = absurd o
  arrives xs i Returned r m e all o goes end = absurd o

  next_is : (i : ℕ) (k : Mode) → IsOn k → next g.program (position block i) k ≡ stands g.program block (i + 1) k
  next_is i Going o = refl
  next_is i Skipping o = refl
  next_is i (Seeking l) o = absurd o
  next_is i Returned o = absurd o

  further : (xs : List Sym) (i : ℕ) → lands g.program (stand g.program (position block (i + suc (length xs)))) ≡ true → lands g.program (stand g.program (position block (i + 1 + length xs))) ≡ true
  further xs i = subst (λ (n : ℕ). lands g.program (stand g.program (position block n)) ≡ true) (let f : i + suc (length xs) ≡ i + 1 + length xs = omega arith in f)

  -- the instruction at the place, and then the others
  step_then : (x : Sym) (xs : List Sym) (i : ℕ) (s : Scene) → drop i code ≡ x ∷ (xs ++ post) → IsStraight P x → s.thread.rest ≡ None → s.thread.at ≡ Some (stand g.program (position block i)) →
      lands g.program (stands g.program block (i + 1) (execute (plain at x) s.thread.registers s.memory).mode) ≡ true →
      (u : Machine) (most : ℕ) → Comes g price inside block (scene s.thread (stands g.program block (i + 1) (execute (plain at x) s.thread.registers s.memory).mode) (execute (plain at x) s.thread.registers s.memory)) (i + 1 + length xs) u (length xs) most →
      Comes g price inside block s (i + suc (length xs)) u (suc (length xs)) (price block i + most)
  step_then x xs i s e h idle stood end u most rest =
      let p = position block i in
      let v : Machine = execute (plain at x) s.thread.registers s.memory in
      let s1 : Scene = scene s.thread (stands g.program block (i + 1) v.mode) v in
      let here : s.thread.at ≡ Some p = stood ∙ ap (λ (k : Position). Some k) (at_word i x (xs ++ post) e h) in
      let one : direct_step g inside s ≡ Some s1 =
      step_is g inside s p x idle here (head_of code i x (xs ++ post) e).0 (direct_of P x h)
      ∙ does g inside P quiet p s.thread s.memory x h
      ∙ ap (λ (k : Position). goes_if g.program (scene s.thread k v)) (next_is i v.mode (on P at s.thread.registers s.memory x h))
      ∙ ap (λ b. if b then Some s1 else None) end in
      let paid : price_at price s.thread.at ≡ price block i = ap (price_at price) here in
      let f : quiet_cost g price inside (suc rest.count) s ≡ price_at price s.thread.at + quiet_cost g price inside rest.count s1 = first_cost g price inside rest.count s s1 one in
      let c : quiet_cost g price inside rest.count s1 ≤ most = rest.cost in
      record {
        count = suc rest.count;
        few = let l : rest.count ≤ length xs = rest.few in omega arith;
        run = first_then g inside rest.count s s1 one ∙ rest.run ∙ ap (λ (n : ℕ). Some (scene s.thread (stand g.program (position block n)) u)) (let f : i + 1 + length xs ≡ i + suc (length xs) = omega arith in f);
        cost = omega arith;
      }

  pub walk : (xs : List Sym) (i : ℕ) (k : Mode) (s : Scene) → drop i code ≡ xs ++ post → AreStraight P xs → IsOn k → s.thread.rest ≡ None → s.thread.at ≡ Some (stands g.program block i k) →
      (run.run (plain_code at xs) (in_mode k s)).mode ≡ Going → lands g.program (stand g.program (position block (i + length xs))) ≡ true →
      Comes g price inside block s (i + length xs) (run.run (plain_code at xs) (in_mode k s)) (length xs) (sum_from (price block) i xs)
  unfolding direct_run quiet_cost
  walk [] i Going s e all o idle stood goes end = record {
    count = 0;
    few = omega arith;
    run = ap (λ (k : Option Position). Some (record { thread = record s.thread { at = k }; memory = s.memory })) (stood ∙ ap (λ (n : ℕ). Some (stand g.program (position block n))) (let f : i ≡ i + 0 = omega arith in f));
    cost = omega arith;
  }
  walk [] i Skipping s e all o idle stood goes end = absurd (cc)
  walk (x ∷ xs) i Going s e all o idle stood goes end =
      let v : Machine = execute (plain at x) s.thread.registers s.memory in
      let on1 : IsOn v.mode = on P at s.thread.registers s.memory x all.0 in
      let e1 : drop (i + 1) code ≡ xs ++ post = (head_of code i x (xs ++ post) e).1 in
      let end1 = further xs i end in
      let there : lands g.program (stands g.program block (i + 1) v.mode) ≡ true = arrives xs (i + 1) v.mode v.registers v.memory e1 all.1 on1 goes end1 in
      step_then x xs i s e all.0 idle stood there (run.run (plain_code at xs) v) (sum_from (price block) (i + 1) xs)
      (walk xs (i + 1) v.mode (scene s.thread (stands g.program block (i + 1) v.mode) v) e1 all.1 on1 idle refl goes end1)
  walk (x ∷ xs) i Skipping s e all o idle stood goes end =
      let e1 : drop (i + 1) code ≡ xs ++ post = (head_of code i x (xs ++ post) e).1 in
      let there : s.thread.at ≡ Some (stand g.program (position block (i + 1))) = stood ∙ ap (λ (k : Position). Some (behind g.program k)) (at_word i x (xs ++ post) e all.0) in
      let same : skipped (plain at x) ≡ Going = passed P at x all.0 in
      let rest : Comes g price inside block s (i + 1 + length xs) (run.run (plain_code at xs) (in_mode Going s)) (length xs) (sum_from (price block) (i + 1) xs) =
      walk xs (i + 1) Going s e1 all.1 tt idle there (subst (λ (k : Mode). (run.run (plain_code at xs) (in_mode k s)).mode ≡ Going) same goes) (further xs i end) in
      let c : quiet_cost g price inside rest.count s ≤ sum_from (price block) (i + 1) xs = rest.cost in
      record {
        count = rest.count;
        few = let l : rest.count ≤ length xs = rest.few in omega arith;
        run = rest.run
            ∙ ap (λ (n : ℕ). Some (scene s.thread (stand g.program (position block n)) (run.run (plain_code at xs) (in_mode Going s)))) (let f : i + 1 + length xs ≡ i + suc (length xs) = omega arith in f)
            ∙ ap (λ (k : Mode). Some (scene s.thread (stand g.program (position block (i + suc (length xs)))) (run.run (plain_code at xs) (in_mode k s)))) (sym same);
        cost = omega arith;
      }
  walk xs i (Seeking l) s e all o idle stood goes end = absurd o
  walk xs i Returned s e all o idle stood goes end = absurd o
