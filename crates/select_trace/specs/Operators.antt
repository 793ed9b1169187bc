-- What the code of operators that call no routine does: from where it begins it comes behind itself without an event, the value's
-- bytes are where they are to go, and nothing else has changed but W and the flags.
use Rattle.std.specs.Prelude.{◌≡◌, ◌≢◌, ℕ, ◌<◌, Bool, true, false, nat_eq, if◌then◌else◌, List, pos, Option, Some, None}
use Rattle.c_ints.specs.Operators.{cut_to, outcome, type_of, unary_type, exact_unary}
use Rattle.c_ints.specs.Quantity.{Quantity}
use Rattle.c_ints.specs.Range.{bytes_of, cut, pattern}
use Rattle.c_ints.specs.declared.operators.BinOp.{BinOp}
use Rattle.c_ints.specs.declared.operators.UnOp.{UnOp}
use Rattle.c_ints.specs.declared.types.IntTy.{IntTy}
use Rattle.call_graph.specs.declared.types.FnCopy.{FnCopy}
use Rattle.core_code.specs.Bytes.{behind}
use Rattle.core_code.specs.Operands.{number_left, is_helped, fits_unary, fits_together}
use Rattle.core_code.specs.Tree.{Tree}
use Rattle.core_code.specs.Values.{right_type}
use Rattle.core_code.specs.declared.code.Byte.{Byte}
use Rattle.math_helpers.specs.Wanted.{byte_at}
use Rattle.pic_world.specs.declared.Root.{Root}
use Rattle.select_code.specs.Pieces.{byte_behind, test_code}
use Rattle.select_wide.specs.Moves.{copies_code}
use Rattle.select_wide.specs.Selection.{binary_code}
use Rattle.select_wide.specs.Single.{unary_code, widening_code}
use Rattle.sym_code.specs.Effect.{Setting, Memory, root_of}
use Rattle.sym_code.specs.Layout.{DataLayout}
use Rattle.sym_code.specs.Quiet.{Scene}
use Rattle.sym_code.specs.declared.code.BlockName.{BlockName}
use Rattle.sym_code.specs.declared.code.Sym.{Sym}
use Rattle.select_trace.specs.Run.{run, going, Going}
use Rattle.select_trace.specs.Silent.{number_at, OwnsBytes, AreQuiet, IsIn, AreStraight, plain_code, Begins, Passes}
use Rattle.select_trace.specs.Values.{val}

-- the number that so many bytes make, the lowest first
abbrev pub number_from : DataLayout → Memory → Byte → ℕ → ℕ
number_from l m byte width = val (λ k. m (number_at l (behind byte k))) width

-- The code has run, and so many bytes from one on have become those of a number.
pub record Computes (g : Setting) (price : BlockName → ℕ → ℕ) (inside : Bool) (block : BlockName) (i : ℕ) (code : List Sym) (to : Byte) (width answer : ℕ) (s : Scene) : Type 0 where
  pub passes : Passes g price inside block i code s
  pub bytes : (k : ℕ) → k < width → passes.end.memory (number_at g.program.layout (behind to k)) ≡ byte_at answer k
  pub others : (n : ℕ) → ((k : ℕ) → k < width → n ≢ number_at g.program.layout (behind to k)) → passes.end.memory n ≡ s.memory n

-- the count that is known is the one that the byte holds
abbrev pub IsCount : Option ℕ → ℕ → Type 0
IsCount None n = Unit {0}
IsCount (Some count) n = n ≡ count

-- an operator on two values
abbrev pub BinaryRuns : Type 0
BinaryRuns =
    (g : Setting) (price : BlockName → ℕ → ℕ) (inside : Bool) (copy size : ℕ) (block : BlockName) (i : ℕ) (s : Scene)
    (list : List FnCopy) (root : Root) (before : List Tree) (op : BinOp) (ty : IntTy) (to left right : Byte) (value : Quantity) →
    OwnsBytes g inside copy size → is_helped op (number_left before right) ≡ false → fits_together op ty (number_left before right) to left right ≡ true →
    IsIn (root_of inside) copy size to (bytes_of (type_of op ty)) → IsIn (root_of inside) copy size left (bytes_of ty) → IsIn (root_of inside) copy size right (bytes_of (right_type op ty)) →
    IsCount (number_left before right) (s.memory (number_at g.program.layout right)) →
    Begins g block i (binary_code list root before op ty to left right) s →
    outcome op (cut_to ty (pos (number_from g.program.layout s.memory left (bytes_of ty)))) (cut_to (right_type op ty) (pos (number_from g.program.layout s.memory right (bytes_of (right_type op ty))))) ≡ Some value →
    Computes g price inside block i (binary_code list root before op ty to left right) to (bytes_of value.ty) (pattern value.ty value.number) s

-- an operator on one value, in its place
abbrev pub UnaryRuns : Type 0
UnaryRuns =
    (g : Setting) (price : BlockName → ℕ → ℕ) (inside : Bool) (copy size : ℕ) (block : BlockName) (i : ℕ) (s : Scene) (op : UnOp) (ty : IntTy) (at : Byte) →
    OwnsBytes g inside copy size → fits_unary op ty ≡ true → IsIn (root_of inside) copy size at (bytes_of ty) → IsIn (root_of inside) copy size at (bytes_of (unary_type op ty)) →
    Begins g block i (unary_code op ty at) s →
    Computes g price inside block i (unary_code op ty at) at (bytes_of (unary_type op ty))
    (pattern (unary_type op ty) (cut (unary_type op ty) (exact_unary op (cut ty (pos (number_from g.program.layout s.memory at (bytes_of ty))))))) s

-- a conversion, in the value's place
abbrev pub ConvertRuns : Type 0
ConvertRuns =
    (g : Setting) (price : BlockName → ℕ → ℕ) (inside : Bool) (copy size : ℕ) (block : BlockName) (i : ℕ) (s : Scene) (from to : IntTy) (at : Byte) →
    OwnsBytes g inside copy size → IsIn (root_of inside) copy size at (bytes_of from) → IsIn (root_of inside) copy size at (bytes_of to) →
    Begins g block i (widening_code from to at) s →
    Computes g price inside block i (widening_code from to at) at (bytes_of to) (pattern to (cut to (cut from (pos (number_from g.program.layout s.memory at (bytes_of from)))))) s

-- Copies of several bytes. A byte that is written is none that is read later.
pub record Copies (g : Setting) (price : BlockName → ℕ → ℕ) (inside : Bool) (block : BlockName) (i : ℕ) (to from : Byte) (width : ℕ) (s : Scene) : Type 0 where
  pub passes : Passes g price inside block i (copies_code to from width) s
  pub bytes : (k : ℕ) → k < width → passes.end.memory (number_at g.program.layout (byte_behind to k)) ≡ s.memory (number_at g.program.layout (byte_behind from k))
  pub others : (n : ℕ) → ((k : ℕ) → k < width → n ≢ number_at g.program.layout (byte_behind to k)) → passes.end.memory n ≡ s.memory n

abbrev pub CopiesRun : Type 0
CopiesRun =
    (g : Setting) (price : BlockName → ℕ → ℕ) (inside : Bool) (among : Byte → Bool) (block : BlockName) (i : ℕ) (s : Scene) (to from : Byte) (width : ℕ) →
    AreQuiet g inside (λ byte. among byte ≡ true) → ((k : ℕ) → k < width → (among (byte_behind to k) ≡ true) × (among (byte_behind from k) ≡ true)) →
    ((j k : ℕ) → j < k → k < width → (number_at g.program.layout (byte_behind to j) ≢ number_at g.program.layout (byte_behind to k)) × (number_at g.program.layout (byte_behind to j) ≢ number_at g.program.layout (byte_behind from k))) →
    Begins g block i (copies_code to from width) s → Copies g price inside block i to from width s

-- whether so many bytes are all 0, told by Z
pub record Tests (g : Setting) (price : BlockName → ℕ → ℕ) (inside : Bool) (block : BlockName) (i : ℕ) (test : Byte) (width : ℕ) (s : Scene) : Type 0 where
  pub passes : Passes g price inside block i (test_code test width) s
  pub zero : passes.end.thread.registers.z ≡ (if nat_eq (number_from g.program.layout s.memory test width) 0 then 1 else 0)
  pub same : (n : ℕ) → passes.end.memory n ≡ s.memory n

abbrev pub TestRuns : Type 0
TestRuns =
    (g : Setting) (price : BlockName → ℕ → ℕ) (inside : Bool) (copy size : ℕ) (block : BlockName) (i : ℕ) (s : Scene) (test : Byte) (width : ℕ) →
    OwnsBytes g inside copy size → IsIn (root_of inside) copy size test width → Begins g block i (test_code test width) s → Tests g price inside block i test width s

-- Any code that jumps nowhere, on quiet bytes, does what it does over bytes by number, where that doesn't end in a skip.
pub record RunsAlong (g : Setting) (price : BlockName → ℕ → ℕ) (inside : Bool) (block : BlockName) (i : ℕ) (code : List Sym) (s : Scene) : Type 0 where
  pub passes : Passes g price inside block i code s
  pub registers : passes.end.thread.registers ≡ (run (plain_code (number_at g.program.layout) code) (going s.thread.registers s.memory)).registers
  pub memory : passes.end.memory ≡ (run (plain_code (number_at g.program.layout) code) (going s.thread.registers s.memory)).memory

abbrev pub StraightRuns : Type 0
StraightRuns =
    (g : Setting) (price : BlockName → ℕ → ℕ) (inside : Bool) (among : Byte → Bool) (block : BlockName) (i : ℕ) (code : List Sym) (s : Scene) →
    AreQuiet g inside (λ byte. among byte ≡ true) → AreStraight (λ byte. among byte ≡ true) code → Begins g block i code s → (run (plain_code (number_at g.program.layout) code) (going s.thread.registers s.memory)).mode ≡ Going →
    RunsAlong g price inside block i code s
