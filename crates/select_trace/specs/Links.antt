-- What the code of a chain does: of one byte, and of so many.
use Rattle.std.specs.Prelude.{◌≡◌, ℕ, zero, suc, ◌+◌, ◌*◌, ◌^◌, ◌<◌, List}
use Rattle.select_trace.specs.Run.{Sym, Machine, Going, run}
use Rattle.sym_code.specs.Effect.{Memory}
use Rattle.select_trace.specs.Code.{Operand, Chain, Sum, Difference}
use Rattle.select_trace.specs.Values.{val}

-- the carry that byte k adds; a difference has borrowed where C is 0, and the lowest byte takes none
abbrev pub carried : Chain → ℕ → ℕ → ℕ
carried Sum zero c = 0
carried Difference zero c = 1
carried chain (suc k) c = c

-- x with the carry d stands for l and r with the carry c, where x counts below p
abbrev pub Adds : Chain → ℕ → ℕ → ℕ → ℕ → ℕ → ℕ → Type 0
Adds Sum p l r c x d = x + p * d ≡ l + r + c
Adds Difference p l r c x d = x + r + p * d + 1 ≡ l + c + p

abbrev pub AreBytes : Memory → Type 0
AreBytes m = (a : ℕ) → m a < 256

-- it goes, and all it has is within range
pub record Fine (t : Machine) : Type 0 where
  pub going : t.mode ≡ Going
  pub carry : t.registers.c < 2
  pub zero : t.registers.z < 2
  pub bytes : AreBytes t.memory

-- one byte has become the sum or difference, and no other has changed
pub record Links (chain : Chain) (m : Memory) (c : ℕ) (t : Machine) (to left right : ℕ) : Type 0 where
  pub going : t.mode ≡ Going
  pub carry : t.registers.c < 2
  pub zero : t.registers.z < 2
  pub byte : t.memory to < 256
  pub adds : Adds chain 256 (m left) (m right) c (t.memory to) t.registers.c
  pub others : (b : ℕ) → (b ≡ to → ⊥) → t.memory b ≡ m b

-- the code of each byte below w does that, whatever the machine is
abbrev pub EachLinks : Chain → (ℕ → List Sym) → Operand → Operand → Operand → ℕ → Type 0
EachLinks chain code to left right w =
    (k : ℕ) → k < w → (u : Machine) → Fine u →
    Links chain u.memory (carried chain k u.registers.c) (run (code k) u) (to k) (left k) (right k)

-- a write of a byte of one operand spoils no later byte of another
abbrev pub Apart : ℕ → Operand → Operand → Type 0
Apart w f g = (j k : ℕ) → j < k → k < w → f j ≡ g k → ⊥

-- bytes below k have become those of the sum or difference of the operands as they were
pub record Chained (chain : Chain) (m : Memory) (t : Machine) (to left right : Operand) (k : ℕ) : Type 0 where
  pub fine : Fine t
  pub adds : Adds chain (256 ^ k) (val (λ j. m (left j)) k) (val (λ j. m (right j)) k) (carried chain 0 0) (val (λ j. t.memory (to j)) k) (carried chain k t.registers.c)
  pub others : (a : ℕ) → ((j : ℕ) → j < k → a ≡ to j → ⊥) → t.memory a ≡ m a

-- One byte of a difference that goes nowhere: the machine has not changed but for W and the flags.
pub record Tells (m : Memory) (c : ℕ) (t : Machine) (left right : ℕ) : Type 0 where
  pub going : t.mode ≡ Going
  pub carry : t.registers.c < 2
  pub zero : t.registers.z < 2
  pub byte : ℕ
  pub small : byte < 256
  pub adds : Adds Difference 256 (m left) (m right) c byte t.registers.c
  pub same : (b : ℕ) → t.memory b ≡ m b

-- so many bytes
pub record Told (m : Memory) (t : Machine) (left right : Operand) (k : ℕ) : Type 0 where
  pub fine : Fine t
  pub number : ℕ
  pub small : number < 256 ^ k
  pub adds : Adds Difference (256 ^ k) (val (λ j. m (left j)) k) (val (λ j. m (right j)) k) 1 number (carried Difference k t.registers.c)
  pub same : (b : ℕ) → t.memory b ≡ m b
