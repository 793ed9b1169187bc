-- A thread of both machines in one: positions are those with selects, and the registers differ in what is selected.
use Rattle.std.proofs.Common.{◌≡◌, ℕ, Bool, true, false, List, map, Option, Some, None, option_map}
use Rattle.sym_code.specs.Effect.{Loud, Rest, Thread, Write, Effect, Stuck, Quiet, Reads, Writes, Leaves, Ends, Rests}
use Rattle.sym_code.specs.Programs.{Position}
use Rattle.sym_code.specs.Registers.{Registers}
use Rattle.bank_trace.proofs.Holding.{Bits}
use Rattle.bank_trace.proofs.Banks.{over}
use Rattle.bank_trace.proofs.Sites.{Site}
use Rattle.bank_trace.proofs.Places.{under, IsFine, AreBack}

pub record Twin : Type 0 where
  pub rest : Option Rest
  pub at : Option Position
  pub stack : List Position
  pub registers : Registers
  pub bits : Bits

abbrev pub plain_thread : Site → Twin → Thread
plain_thread x t = record { rest = t.rest; at = option_map (under x) t.at; stack = map (under x) t.stack; registers = t.registers }

abbrev pub banked_thread : Twin → Thread
banked_thread t = record { rest = t.rest; at = t.at; stack = t.stack; registers = over t.bits t.registers }

abbrev pub FineAt : Site → Option Position → Bits → Type 0
FineAt x None b = Unit {0}
FineAt x (Some q) b = IsFine x q b

-- what the block leaves holds where calls come back to
abbrev pub StackAt : Site → Option Position → List Position → Type 0
StackAt x None stack = Unit {0}
StackAt x (Some q) stack = AreBack x q.block stack

pub record IsFineTwin (x : Site) (t : Twin) : Type 0 where
  pub at : FineAt x t.at t.bits
  pub stack : StackAt x t.at t.stack

-- ---- an effect on both
pub data Deed : Type 0 where
  Quietly : Twin → Option Write → Deed
  Reading : Loud → (ℕ → Twin) → Deed
  Writing : Loud → ℕ → Twin → Deed
  Leaving : Deed
  Ending : Twin → Deed
  Resting : Deed

abbrev pub plain_effect : Site → Deed → Effect
plain_effect x (Quietly t write) = Quiet (plain_thread x t) write
plain_effect x (Reading b next) = Reads b (λ v. plain_thread x (next v))
plain_effect x (Writing b v t) = Writes b v (plain_thread x t)
plain_effect x Leaving = Leaves
plain_effect x (Ending t) = Ends (plain_thread x t)
plain_effect x Resting = Rests

abbrev pub banked_effect : Deed → Effect
banked_effect (Quietly t write) = Quiet (banked_thread t) write
banked_effect (Reading b next) = Reads b (λ v. banked_thread (next v))
banked_effect (Writing b v t) = Writes b v (banked_thread t)
banked_effect Leaving = Leaves
banked_effect (Ending t) = Ends (banked_thread t)
banked_effect Resting = Rests

abbrev pub IsFineDeed : Site → Deed → Type 0
IsFineDeed x (Quietly t write) = IsFineTwin x t
IsFineDeed x (Reading b next) = (v : ℕ) → IsFineTwin x (next v)
IsFineDeed x (Writing b v t) = IsFineTwin x t
IsFineDeed x Leaving = Unit {0}
IsFineDeed x (Ending t) = IsFineTwin x t
IsFineDeed x Resting = Unit {0}

abbrev pub is_resting : Deed → Bool
is_resting Resting = true
is_resting _ = false

-- the code without selects is stuck, or both do the same
pub data Does (x : Site) (e f : Effect) : Type 0 where
  GetsStuck : e ≡ Stuck → Does x e f
  Done : (d : Deed) → IsFineDeed x d → e ≡ plain_effect x d → f ≡ banked_effect d → is_resting d ≡ false → Does x e f
