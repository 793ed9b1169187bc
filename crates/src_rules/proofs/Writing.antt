-- Writes, copies, strings and blanks keep what stands.
use Rattle.std.proofs.Common.{◌≡◌, ℕ, suc, ◌+◌, ◌-◌, ◌<◌, ◌≤◌, Bool, true, false, ◌&&◌, List, [], ◌∷◌, ◌++◌, length, refl, sym, ap, ◌∙◌, arith, pos}
use Rattle.std.proofs.lemmas.Bool.{and_parts, leb-true}
use Rattle.std.proofs.lemmas.List.{length-append}
use Rattle.std.proofs.lemmas.Option.{slice_get_within}
use Rattle.std.specs.Prelude.{if◌then◌else◌, nat_le, slice_get}
use Rattle.c_ints.specs.declared.types.IntTy.TheVariants as int
use Rattle.c_typed.specs.Trees as tree
use Rattle.c_typed.specs.Trees.{Expression, Place, Item, Statement, Program, VariableTree}
use Rattle.c_typed.specs.Types.{type_of, place_type, item_start}
use Rattle.c_typed.specs.Words.{item_bytes}
use Rattle.c_typed.specs.declared.types.Ty.{Ty}
use Rattle.pic_world.specs.World.{World}
use Rattle.src_rules.proofs.Answers.{of_int}
use Rattle.src_rules.proofs.Keeping.{Keeps, Around, on}
use Rattle.src_rules.proofs.Places.{stepped_zero, bit_type}
use Rattle.src_rules.proofs.Rules.{assign_rule, update_rule, step_rule}
use Rattle.src_rules.specs.Accesses.{items, stored_in, stored_for, stored}
use Rattle.src_rules.specs.Parts.{IsExpressionOf, IsStatementOf, IsFirstOf, IsListOf, AreItemsOf, local_bytes}
use Rattle.src_rules.specs.Standing.{IsReached, IsThere, HasType, IsPlaced, IsSpotOf, WaitsForEnd, listed, leaves, repeats, IsWritten, StackStands}
use Rattle.src_values.specs.Control.{Got, Stores, Copies, Stage, Fills, Items, Blanks, Pending, In, To, Doing, Before, Returns, Resumes}
use Rattle.src_values.specs.Data.{Datum}
use Rattle.src_values.specs.Memory.{Setting, Memory}
use Rattle.src_values.specs.Objects.{function_at, object_bytes, bytes_of_variable, local_of, behind}
use Rattle.src_values.specs.Values.{lowest_bit, kept_in, is_postfix, answer_of}
use Rattle.src_values.specs.declared.objects.Byte.{Byte}
use Rattle.src_values.specs.declared.objects.CopyOf.{CopyOf}
use Rattle.src_values.specs.declared.objects.Spot.{Spot}
use Rattle.src_values.specs.declared.objects.Spot.TheVariants as spots

-- ---- locals
pub get_behind : {A : Type 0} (xs ys : List A) (n : ℕ) → slice_get (xs ++ ys) (length xs + n) ≡ slice_get ys n
get_behind [] ys n = let e : 0 + n ≡ n = omega arith in ap (slice_get ys) e
get_behind (x ∷ xs) ys n = let e : suc (length xs) + n ≡ suc (length xs + n) = omega arith in ap (slice_get (x ∷ (xs ++ ys))) e ∙ get_behind xs ys n

pub local_size : (p : Program) (c : CopyOf) (local : ℕ) → object_bytes p (local_of p c local) ≡ local_bytes p c.function local
unfolding object_bytes
local_size p c local = let f = function_at p c.function in ap (bytes_of_variable p.sizes) (get_behind f.params f.locals local)

pub local_there : (p : Program) (c : CopyOf) (local : ℕ) → IsReached p c → local < length (function_at p c.function).locals → IsThere p (local_of p c local)
local_there p c local r h = let f = function_at p c.function in (r, omega (arith, length-append f.params f.locals))

pub local_placed : (p : Program) (c : CopyOf) (local n : ℕ) → IsReached p c → local < length (function_at p c.function).locals → n ≤ local_bytes p c.function local → IsPlaced p (behind (local_of p c local) n)
local_placed p c local n r h l = (local_there p c local r h, rw (local_size p c local) l)

-- an item ends within its local
pub item_within : (p : Program) (f size before : ℕ) (item : Item) (rest : List Item) → AreItemsOf p f size before (item ∷ rest) → item_start item + item_bytes p.sizes item ≤ size
item_within p f size before item rest h =
    let bytes = item_bytes p.sizes item in
    let a = and_parts (nat_le before (item_start item)) (nat_le (item_start item) size && nat_le bytes (size - item_start item)) h.0 in
    let b = and_parts (nat_le (item_start item) size) (nat_le bytes (size - item_start item)) a.1 in
    let first = leb-true (item_start item) size b.0 in
    let second = leb-true bytes (size - item_start item) b.1 in
    omega arith

pub scalar_there : (p : Program) (c : CopyOf) (local : ℕ) (e : Expression) → IsFirstOf p c.function local e → local < length (function_at p c.function).locals
scalar_there p c local e h = slice_get_within (function_at p c.function).locals local h.variable h.there

pub list_there : (p : Program) (c : CopyOf) (local : ℕ) (all : List Item) → IsListOf p c.function local all → local < length (function_at p c.function).locals
list_there p c local all h = slice_get_within (function_at p c.function).locals local h.variable h.there

-- ---- the value of a node that has written
kept_stands : (p : Program) (c : CopyOf) (place : Place) (ty : Ty) (spot : Spot) (v : Datum) → IsSpotOf p c place spot → (place_type place).ty ≡ ty → HasType p ty v → HasType p ty (kept_in spot v)
unfolding kept_in
kept_stands p c place ty (spots.Device address) v s e h = h
kept_stands p c place ty (spots.Bit register number) v s e h = rw (sym e ∙ bit_type p c place register number s) (of_int p int.UChar (pos (lowest_bit v)))
kept_stands p c place ty (spots.Memory x) v s e h = h

postfix_stands : (p : Program) (ty : Ty) (b : Bool) (u v : Datum) → HasType p ty u → HasType p ty v → HasType p ty (if b then u else v)
postfix_stands p ty true u v h g = h
postfix_stands p ty false u v h g = g

answer_stands : (p : Program) (c : CopyOf) (e : Expression) (spot : Spot) (v : Datum) → IsExpressionOf p c.function e → IsWritten p c e spot → HasType p (type_of e) v → HasType p (type_of e) (answer_of e spot v)
answer_stands p c (tree.Assign place value ty line) spot v e s h = kept_stands p c place ty spot v s (assign_rule p place value ty line e.0).0 h
answer_stands p c (tree.Update op place value operation size ty line) spot v e s h = kept_stands p c place ty spot v s (update_rule p op place value operation size ty line e.0).0 h
answer_stands p c (tree.Step op place operation size ty line) spot v e s h =
    postfix_stands p ty (is_postfix op) v (kept_in spot v) h (kept_stands p c place ty spot v s (step_rule p op place operation size ty line e.0).0 h)
answer_stands p c _ spot v e s h = absurd s

-- ---- items of lists
module _ (s : Setting) where
  pub items_keep : (local : ℕ) (full : List Item) (line before : ℕ) (all : List Item) (k : List Pending) (c : CopyOf) (m : Memory) (w : World Byte)
      → Around s.program c m w → IsStatementOf s.program c.function (listed k) (leaves k) (repeats k) (tree.InitList local full line) → WaitsForEnd k → StackStands s.program c k
      → AreItemsOf s.program c.function (local_bytes s.program c.function local) before all
      → Keeps s.program (items s (tree.InitList local full line) (local_of s.program c local) all k c m w)
  items_keep local full line before [] k c m w a t h st i = let e = local_size s.program c local in on a (local_bytes s.program c.function local, refl, omega arith) (t, h, tt, st)
  items_keep local full line before (tree.Scalar offset value ∷ rest) k c m w a t h st i = on a (i.1.1, refl) (t, h, (before, i), st)
  items_keep local full line before (tree.Struct offset from size ∷ rest) k c m w a t h st i = on a (i.1.2, refl) (t, h, (before, i), st)
  items_keep local full line before (tree.Text offset text size ∷ rest) k c m w a t h st i =
      on a (record { start = behind (local_of s.program c local) offset; whole = text; size = size; done = 0; node = (refl, refl, refl); all = omega arith; written = stepped_zero _; rest = refl }) (t, h, (before, i), st)

-- ---- what follows a write
abbrev pub EndsWrite : List Pending → Type 0
EndsWrite (In e (Stores spot v) ∷ k) = Unit {0}
EndsWrite (In e Copies ∷ k) = Unit {0}
EndsWrite (Doing (tree.InitScalar local e line) Fills ∷ k) = Unit {0}
EndsWrite (Doing (tree.InitList local all line) (Items item rest) ∷ k) = Unit {0}
EndsWrite (Doing (tree.InitList local all line) Blanks ∷ k) = Unit {0}
EndsWrite _ = ⊥

module _ (s : Setting) where
  stored_in_keeps : (e : Expression) (got : Got) (k : List Pending) (c : CopyOf) (m : Memory) (w : World Byte) → Around s.program c m w → StackStands s.program c (In e got ∷ k) → EndsWrite (In e got ∷ k) → Keeps s.program (stored_in e got k c m w)
  stored_in_keeps e (Stores spot v) k c m w a st n = on a (type_of e, st.1, answer_stands s.program c e spot v st.0 st.2.0 st.2.1) st.3
  stored_in_keeps e Copies k c m w a st n = on a (type_of e, st.1, tt) st.3
  stored_in_keeps e _ k c m w a st n = absurd n

  stored_for_keeps : (t : Statement) (stage : Stage) (k : List Pending) (c : CopyOf) (m : Memory) (w : World Byte) → Around s.program c m w → StackStands s.program c (Doing t stage ∷ k) → EndsWrite (Doing t stage ∷ k) → Keeps s.program (stored_for s t stage k c m w)
  stored_for_keeps (tree.InitScalar local e line) Fills k c m w a st n = on a st.1 st.3
  stored_for_keeps (tree.InitList local all line) (Items item rest) k c m w a st n = items_keep s local all line _ rest k c m w a st.0 st.1 st.3 st.2.1.2
  stored_for_keeps (tree.InitList local all line) Blanks k c m w a st n = on a st.1 st.3
  stored_for_keeps _ _ k c m w a st n = absurd n

  pub stored_keeps : (k : List Pending) (c : CopyOf) (m : Memory) (w : World Byte) → Around s.program c m w → StackStands s.program c k → EndsWrite k → Keeps s.program (stored s k c m w)
  stored_keeps [] c m w a st n = absurd n
  stored_keeps (In e got ∷ k) c m w a st n = stored_in_keeps e got k c m w a st n
  stored_keeps (To place ∷ k) c m w a st n = absurd n
  stored_keeps (Doing t stage ∷ k) c m w a st n = stored_for_keeps t stage k c m w a st n
  stored_keeps (Before ss ∷ k) c m w a st n = absurd n
  stored_keeps (Returns d ∷ k) c m w a st n = absurd n
  stored_keeps (Resumes d x ∷ k) c m w a st n = absurd n
