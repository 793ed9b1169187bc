-- What is ahead of the next state is no more than what was ahead, less the step that was counted, and less what it costs: each micro-step.
use Rattle.std.proofs.Common.{◌≡◌, ℕ, ◌+◌, ◌*◌, ◌≤◌, Bool, true, List, [], ◌∷◌, length, arith}
use Rattle.std.proofs.lemmas.Bool.{false≢true}
use Rattle.std.specs.Prelude.{nat_lt}
use Rattle.c_typed.specs.TreeNodes.{nodes_in, statement_nodes, nodes_of_body}
use Rattle.c_typed.specs.Trees as tree
use Rattle.c_typed.specs.Trees.{Expression, Place, Statement, Program}
use Rattle.c_typed.specs.Types.{type_bytes}
use Rattle.c_typed.specs.declared.types.Ty.{Ty}
use Rattle.pic_world.specs.World.{World}
use Rattle.src_rules.proofs.Rooms.{cap, Sized}
use Rattle.src_rules.specs.Parts.{IsStatementOf}
use Rattle.src_rules.specs.Runs.{one_if}
use Rattle.src_rules.specs.Standing.{listed, leaves, repeats, IsWritten, WaitsForValue, Writes, Copying, Spells, BlanksOf, FocusStands, StackStands}
use Rattle.src_rules.specs.Step.{act}
use Rattle.src_values.specs.Control as control
use Rattle.src_values.specs.Control.{Focus, Got, Stores, Copies, Stage, Fills, Items, Blanks, Pending, In, To, Doing, Before, Returns, Resumes, read_type}
use Rattle.src_values.specs.Counting.{counted_line, blank_counts}
use Rattle.src_values.specs.Memory.{Setting, Memory}
use Rattle.src_values.specs.Objects.{function_at}
use Rattle.src_values.specs.Values.{written_bytes}
use Rattle.src_values.specs.declared.objects.Byte.{Byte}
use Rattle.src_values.specs.declared.objects.CopyOf.{CopyOf}
use Rattle.src_values.specs.declared.objects.Spot.{Spot}
use Rattle.lower_trace.proofs.LagAccesses.{some_left, fetch_stays, skim_stays, write_stays, put_bit_stays, copy_read_stays, copy_write_stays, spell_stays, blank_stays}
use Rattle.lower_trace.proofs.LagStatements.{past_price, given_price, EndsTested, SomeArm, cap_small, some_nodes, proceed_stays, begin_stays, compares_stay, give_stays, call_stays, leave_stays}
use Rattle.lower_trace.proofs.LagStays.{enabled, Stays, counts_as, eval_stays, find_stays, found_stays}
use Rattle.lower_trace.proofs.LagWeights.{with_focus, stack_ahead, few_in, few_at}

-- Micro-steps that surely cost an instruction: a byte that is read or written but for the reads of copies and the writes of bits, a
-- call, the end of a function, and what follows the condition of a loop.
unfoldable pub price : Program → Focus → List Pending → ℕ
price p (control.Holds v) k = given_price k
price p control.Past k = past_price k
price p (control.Fetch spot read) k = one_if (nat_lt (length read) (type_bytes p.sizes (read_type k)))
price p (control.Skim spot left byte) k = some_left left
price p (control.Write spot v at) k = one_if (nat_lt at (written_bytes spot v))
price p (control.CopyWrite to from byte left) k = 1
price p (control.Spell spot text left) k = some_left left
price p (control.Blank at left) k = counts_as (blank_counts p at left k)
price p control.Calls k = 1
price p (control.Eval e) k = 0
price p (control.Find place) k = 0
price p (control.Found spot) k = 0
price p (control.Run t) k = 0
price p (control.PutBit register number v old) k = 0
price p (control.CopyRead to from left) k = 0
price p (control.Leaves v) k = 0
price p (control.Compares v labels) k = 0
price p control.Over k = 0

-- where a turn of a loop ends the loop has its condition
abbrev pub IsTested : Focus → List Pending → Type 0
IsTested control.Past k = EndsTested k
IsTested _ k = Unit {0}

some_arm : (p : Program) (f : ℕ) (d l r : Bool) (t : Statement) → IsStatementOf p f d l r t → SomeArm t
some_arm p f d l r (tree.Block ss line) h = tt
some_arm p f d l r (tree.Empty line) h = tt
some_arm p f d l r (tree.Expr e line) h = tt
some_arm p f d l r (tree.Declare local line) h = tt
some_arm p f d l r (tree.InitScalar local e line) h = tt
some_arm p f d l r (tree.InitList local all line) h = tt
some_arm p f d l r (tree.If chain otherwise line) h = h.0
some_arm p f d l r (tree.Loop shape first condition step body line) h = tt
some_arm p f d l r (tree.Switch e cases default ss line) h = tt
some_arm p f d l r (tree.Break line) h = tt
some_arm p f d l r (tree.Continue line) h = tt
some_arm p f d l r (tree.Return value line) h = tt

-- what is written has a place
written_nodes : (p : Program) (c : CopyOf) (e : Expression) (spot : Spot) → IsWritten p c e spot → 2 ≤ nodes_in e
unfolding nodes_in
written_nodes p c (tree.Assign place value ty line) spot h = let d = few_at place in omega arith
written_nodes p c (tree.Update op place value operation size ty line) spot h = let d = few_at place in omega arith
written_nodes p c (tree.Step op place operation size ty line) spot h = let d = few_at place in omega arith
written_nodes p c _ spot h = absurd h

module _ (s : Setting) (nodes : ℕ) (bodies : (f : ℕ) → 1 + nodes_of_body (function_at s.program f).body ≤ nodes) where
  abbrev p : Program
  p = s.program

  -- ---- a program with accesses has some nodes
  waiting_small : (k : List Pending) (c : CopyOf) (ty : Ty) → WaitsForValue k ty → Sized p c k → cap p c k + 1 ≤ nodes
  waiting_small [] c ty h z = absurd h
  waiting_small (In e got ∷ k) c ty h z = let d = cap_small p nodes bodies k c z.2 in let a = z.0 in let o = some_nodes p nodes bodies in omega arith
  waiting_small (To place ∷ k) c ty h z = let d = cap_small p nodes bodies k c z.1 in let a = z.0 in let o = some_nodes p nodes bodies in omega arith
  waiting_small (Doing t stage ∷ k) c ty h z = let d = cap_small p nodes bodies k c z.2 in let a = z.0 in let o = some_nodes p nodes bodies in omega arith
  waiting_small (Before ss ∷ k) c ty h z = absurd h
  waiting_small (Returns d ∷ k) c ty h z = absurd h
  waiting_small (Resumes d x ∷ k) c ty h z = absurd h

  listed_small : (k : List Pending) (c : CopyOf) → listed k ≡ true → Sized p c k → cap p c k + 1 ≤ nodes
  listed_small (Before ss ∷ k) c e z = let d = cap_small p nodes bodies k c z.1 in let a = z.0 in omega arith
  listed_small [] c e z = absurd (false≢true e)
  listed_small (In x got ∷ k) c e z = absurd (false≢true e)
  listed_small (To place ∷ k) c e z = absurd (false≢true e)
  listed_small (Doing t stage ∷ k) c e z = absurd (false≢true e)
  listed_small (Returns d ∷ k) c e z = absurd (false≢true e)
  listed_small (Resumes d x ∷ k) c e z = absurd (false≢true e)

  writes_some : (k : List Pending) (c : CopyOf) (start : Spot) (ty : Ty) → Writes p c k start ty → StackStands p c k → Sized p c k → 3 ≤ nodes
  unfolding statement_nodes
  writes_some (In e (Stores spot u) ∷ k) c start ty h st z = let d = written_nodes p c e spot st.2.0 in let b = waiting_small k c _ st.1 z.2 in let a = z.0 in omega arith
  writes_some (Doing (tree.InitScalar local e line) Fills ∷ k) c start ty h st z = let b = listed_small k c st.0.0 z.2 in let a = z.0 in let d = few_in e in omega arith
  writes_some (Doing (tree.InitList local all line) (Items (tree.Scalar offset e) rest) ∷ k) c start ty h st z = let b = listed_small k c st.0.0 z.2 in let a = z.0 in let i = z.1 in let d = few_in e in omega arith
  writes_some _ c start ty h st z = absurd h

  copies_some : (k : List Pending) (c : CopyOf) (to from : Spot) (size : ℕ) → Copying p c k to from size → StackStands p c k → Sized p c k → 3 ≤ nodes
  unfolding nodes_in statement_nodes
  copies_some (In (tree.StructAssign place other n line) Copies ∷ k) c to from size h st z = let b = waiting_small k c _ st.1 z.2 in let a = z.0 in let d = few_at place in omega arith
  copies_some (Doing (tree.InitList local all line) (Items (tree.Struct offset other n) rest) ∷ k) c to from size h st z = let b = listed_small k c st.0.0 z.2 in let a = z.0 in let i = z.1 in let d = few_at other in omega arith
  copies_some _ c to from size h st z = absurd h

  spells_some : (k : List Pending) (c : CopyOf) (start : Spot) (whole : List ℕ) (size : ℕ) → Spells p c k start whole size → StackStands p c k → Sized p c k → 2 ≤ nodes
  unfolding statement_nodes
  spells_some (Doing (tree.InitList local all line) (Items (tree.Text offset text n) rest) ∷ k) c start whole size h st z = let b = listed_small k c st.0.0 z.2 in let a = z.0 in omega arith
  spells_some _ c start whole size h st z = absurd h

  blanks_some : (k : List Pending) (c : CopyOf) (size : ℕ) → BlanksOf p c k size → StackStands p c k → Sized p c k → 2 ≤ nodes
  unfolding statement_nodes
  blanks_some (Doing (tree.InitList local all line) Blanks ∷ k) c size h st z = let b = listed_small k c st.0.0 z.2 in let a = z.0 in omega arith
  blanks_some _ c size h st z = absurd h

  -- ---- one micro-step
  pub act_stays : (most : ℕ) (x : Focus) (k : List Pending) (c : CopyOf) (m : Memory) (w : World Byte) → IsTested x k → FocusStands p c x k → StackStands p c k → Sized p c k → with_focus x (stack_ahead k) + enabled w + price p x k * nodes ≤ most
      → Stays most (counts_as (counted_line p c x k)) (act s x k c m w)
  unfolding act counted_line price
  act_stays most (control.Eval e) k c m w tested f st z h = eval_stays most e k c m w (omega arith)
  act_stays most (control.Find place) k c m w tested f st z h = find_stays most s place k c m w (omega arith)
  act_stays most (control.Holds v) k c m w tested f st z h = give_stays p nodes bodies s most v k c m w z h
  act_stays most (control.Found spot) k c m w tested f st z h = found_stays most s p spot k c m w (omega arith)
  act_stays most (control.Run t) k c m w tested f st z h = begin_stays p nodes bodies s most t k c m w (some_arm p c.function (listed k) (leaves k) (repeats k) t f.0) (omega arith)
  act_stays most control.Past k c m w tested f st z h = proceed_stays p nodes bodies s most k c m w tested z h
  act_stays most (control.Fetch spot read) k c m w tested f st z h = fetch_stays s most nodes spot read k c m w (some_nodes p nodes bodies) h
  act_stays most (control.Skim spot left byte) k c m w tested f st z h = skim_stays s most nodes spot left byte k c m w (some_nodes p nodes bodies) h
  act_stays most (control.Write spot v at) k c m w tested f st z h = write_stays s most nodes spot v at k c m w (writes_some k c f.start f.type f.node st z) h
  act_stays most (control.PutBit register number v old) k c m w tested f st z h = put_bit_stays s most register number v old k c m w (omega arith)
  act_stays most (control.CopyRead to from left) k c m w tested f st z h = copy_read_stays s most to from left k c m w (omega arith)
  act_stays most (control.CopyWrite to from byte left) k c m w tested f st z h = copy_write_stays s most nodes to from byte left k c m w (copies_some k c f.0.first f.0.other f.0.size f.0.node st z) (omega arith)
  act_stays most (control.Spell spot text left) k c m w tested f st z h = spell_stays s most nodes spot text left k c m w (spells_some k c f.start f.whole f.size f.node st z) h
  act_stays most (control.Blank at left) k c m w tested f st z h = blank_stays s most nodes at left k c m w (blanks_some k c f.0 f.1 st z) h
  act_stays most control.Calls k c m w tested f st z h = call_stays p nodes bodies s most k c m w (omega arith)
  act_stays most (control.Leaves v) k c m w tested f st z h = leave_stays p nodes bodies s most v k m w (omega arith)
  act_stays most (control.Compares v labels) k c m w tested f st z h = compares_stay p nodes bodies s most v labels k c m w (omega arith)
  act_stays most control.Over k c m w tested f st z h = tt
