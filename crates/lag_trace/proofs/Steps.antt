-- What is ahead of the next state is no more than what was ahead, less the step that was counted, and less what it pays: each micro-step.
use Rattle.std.proofs.Common.{ℕ, ◌+◌, ◌*◌, ◌≤◌, List, arith}
use Rattle.c_typed.specs.Trees as tree
use Rattle.c_typed.specs.Trees.{Statement, Program}
use Rattle.pic_world.specs.World.{World}
use Rattle.src_rules.specs.Parts.{IsStatementOf}
use Rattle.src_rules.specs.Step.{act}
use Rattle.src_values.specs.Control as control
use Rattle.src_values.specs.Control.{Focus, Pending}
use Rattle.src_values.specs.Counting.{counted_line}
use Rattle.src_values.specs.Memory.{Setting, Memory}
use Rattle.src_values.specs.declared.objects.Byte.{Byte}
use Rattle.src_values.specs.declared.objects.CopyOf.{CopyOf}
use Rattle.lag_trace.proofs.Ahead.{with_focus, stack_ahead}
use Rattle.lag_trace.proofs.Bytes.{HasFewBytes, fetch_stays, skim_stays, write_stays, put_bit_stays, copy_read_stays, copy_write_stays, spell_stays, blank_stays}
use Rattle.lag_trace.proofs.Statements.{past_price, given_price, EndsTested, SomeArm, IsShort, IsShortCall, proceed_stays, begin_stays, compares_stay, give_stays, call_stays, leave_stays}
use Rattle.lag_trace.proofs.Stays.{Stays, counts_as, eval_stays, find_stays, found_stays}

-- Micro-steps that surely come with a mark: a call, and the jump of a loop.
unfoldable pub price : Focus → List Pending → ℕ
price (control.Holds v) k = given_price v k
price control.Past k = past_price k
price control.Calls k = 1
price _ k = 0

-- what is known of the focus
abbrev pub IsFit : List ℕ → Program → ℕ → Focus → List Pending → Type 0
IsFit q p room (control.Run t) k = SomeArm t
IsFit q p room control.Past k = EndsTested k
IsFit q p room control.Calls k = IsShortCall q p room k
IsFit q p room _ k = Unit {0}

pub some_arm : (p : Program) (f : ℕ) (d l r : _) (t : Statement) → IsStatementOf p f d l r t → SomeArm t
some_arm p f d l r (tree.If chain otherwise line) h = h.0
some_arm p f d l r _ h = tt

module _ (s : Setting) (room : ℕ) where
  abbrev q : List ℕ
  q = s.program.sizes

  pub act_stays : (most : ℕ) (x : Focus) (k : List Pending) (c : CopyOf) (m : Memory) (w : World Byte) → IsFit q s.program room x k → HasFewBytes s c → IsShort q room k → with_focus q x k (stack_ahead q k) + price x k * room ≤ most
      → Stays q most (counts_as (counted_line s.program c x k)) (act s x k c m w)
  unfolding act counted_line price
  act_stays most (control.Eval e) k c m w fit few short h = eval_stays s most e k c m w (omega arith)
  act_stays most (control.Find place) k c m w fit few short h = find_stays s most place k c m w (omega arith)
  act_stays most (control.Holds v) k c m w fit few short h = give_stays s room most v k c m w short h
  act_stays most (control.Found spot) k c m w fit few short h = found_stays s most s.program spot k c m w (omega arith)
  act_stays most (control.Run t) k c m w fit few short h = begin_stays s room most t k c m w few fit (omega arith)
  act_stays most control.Past k c m w fit few short h = proceed_stays s room most k c m w fit short h
  act_stays most (control.Fetch spot read) k c m w fit few short h = fetch_stays s most spot read k c m w (omega arith)
  act_stays most (control.Skim spot left byte) k c m w fit few short h = skim_stays s most spot left byte k c m w (omega arith)
  act_stays most (control.Write spot v at) k c m w fit few short h = write_stays s most spot v at k c m w few (omega arith)
  act_stays most (control.PutBit register number v old) k c m w fit few short h = put_bit_stays s most register number v old k c m w (omega arith)
  act_stays most (control.CopyRead to from left) k c m w fit few short h = copy_read_stays s most to from left k c m w few (omega arith)
  act_stays most (control.CopyWrite to from byte left) k c m w fit few short h = copy_write_stays s most to from byte left k c m w (omega arith)
  act_stays most (control.Spell spot text left) k c m w fit few short h = spell_stays s most spot text left k c m w few (omega arith)
  act_stays most (control.Blank at left) k c m w fit few short h = blank_stays s most at left k c m w few (omega arith)
  act_stays most control.Calls k c m w fit few short h = call_stays s room most k c m w fit (omega arith)
  act_stays most (control.Leaves v) k c m w fit few short h = leave_stays s room most v k m w (omega arith)
  act_stays most (control.Compares v labels) k c m w fit few short h = compares_stay s room most v labels k c m w (omega arith)
  act_stays most control.Over k c m w fit few short h = tt
