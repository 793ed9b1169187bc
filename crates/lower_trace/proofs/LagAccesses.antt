-- What is ahead of the next state is no more than what was ahead, less the step that was counted, and less what it costs: accesses.
use Rattle.std.proofs.Common.{◌≡◌, ℕ, zero, suc, ◌+◌, ◌-◌, ◌*◌, ◌≤◌, Bool, true, false, List, [], ◌∷◌, length, Option, Some, None, refl, arith}
use Rattle.std.proofs.lemmas.Bool.{ltb-true, ltb-false}
use Rattle.std.specs.Prelude.{if◌then◌else◌, nat_lt}
use Rattle.c_typed.specs.Trees as tree
use Rattle.c_typed.specs.Trees.{Expression, Item, Statement, Program}
use Rattle.c_typed.specs.Types.{type_bytes}
use Rattle.pic_world.specs.Bits.{bit}
use Rattle.pic_world.specs.Control.{is_stored, is_enabled}
use Rattle.pic_world.specs.World.{Happening, ReadOf, World, device_value, after_device_read}
use Rattle.pic_world.specs.declared.Root.{Root}
use Rattle.src_rules.specs.Accesses.{after_taking, after_putting, fetched, fetch, skim, items, stored_in, stored_for, stored, put_bit, write_at, write, copy_read, copy_write, spell, blank_at, blank_for, blank}
use Rattle.src_rules.specs.Runs.{one_if}
use Rattle.src_rules.specs.State.{Outcome}
use Rattle.src_values.specs.Accesses.{Taking, Takes, Breaks, Putting, Puts, Refuses, read_fault, event_at, noting, taken_unless, device_taken, take_byte}
use Rattle.src_values.specs.Control.{Focus, PutBit, Got, At, Stores, Copies, Stage, Fills, Items, Blanks, Pending, In, To, Doing, Before, Returns, Resumes, line_at, read_type}
use Rattle.src_values.specs.Counting.{counted_if, any_left, blank_counts_for, blank_counts}
use Rattle.src_values.specs.Data.{Datum, Missing}
use Rattle.src_values.specs.Lists.{covered_from}
use Rattle.src_values.specs.Memory.{Setting, Memory}
use Rattle.src_values.specs.Objects.{local_of}
use Rattle.src_values.specs.Values.{number_in, written_bytes}
use Rattle.src_values.specs.declared.objects.Byte.{Byte}
use Rattle.src_values.specs.declared.objects.CopyOf.{CopyOf}
use Rattle.src_values.specs.declared.objects.Object.{Object}
use Rattle.src_values.specs.declared.objects.Pointer.TheVariants.{Null, Into}
use Rattle.src_values.specs.declared.objects.Spot.{Spot}
use Rattle.src_values.specs.declared.objects.Spot.TheVariants as spots
use Rattle.src_values.specs.declared.objects.Undef.{Undef}
use Rattle.lower_trace.proofs.LagWeights.{items_ahead, with_focus, stack_ahead}
use Rattle.lower_trace.proofs.LagStays.{enabled, Stays, counts_as}

abbrev pub some_left : ℕ → ℕ
some_left zero = 0
some_left (suc left) = 1

-- ---- worlds
pub enabled_small : (w : World Byte) → enabled w ≤ 1
unfolding enabled
enabled_small w = by (is_enabled w.control)
  where
    by : (b : Bool) → one_if b ≤ 1
    by true = omega arith
    by false = omega arith

-- a read leaves what enables interrupts
abbrev IsCalm : World Byte → Taking → Type 0
IsCalm w (Takes byte u event) = enabled u ≡ enabled w
IsCalm w (Breaks kind) = Unit {0}

device_calm : (s : Setting) (address value : ℕ) (w : World Byte) → IsCalm w (device_taken s address value w)
unfolding enabled after_device_read
device_calm s address value w = by (is_stored address)
  where
    by : (b : Bool) → one_if (is_enabled (if b then w else record w { taken = w.taken + 1 }).control) ≡ one_if (is_enabled w.control)
    by true = refl
    by false = refl

noting_calm : (o : Option (Happening Byte)) (w : World Byte) → enabled (noting o w) ≡ enabled w
unfolding enabled
noting_calm None w = refl
noting_calm (Some e) w = refl

object_calm : (fault : Option Undef) (byte : Byte) (w : World Byte) (event : Option (Happening Byte)) → IsCalm w (taken_unless fault byte w event)
object_calm (Some kind) byte w event = tt
object_calm None byte w event = noting_calm event w

byte_calm : (s : Setting) (live : List CopyOf) (root : Root) (fits : Byte → Bool) (spot : Spot) (m : Memory) (w : World Byte) → IsCalm w (take_byte s live root fits spot m w)
unfolding take_byte
byte_calm s live root fits (spots.Device address) m w = device_calm s address (device_value s.outside address w) w
byte_calm s live root fits (spots.Bit register number) m w = device_calm s register (bit (device_value s.outside register w) number) w
byte_calm s live root fits (spots.Memory Null) m w = tt
byte_calm s live root fits (spots.Memory (Into object offset)) m w = object_calm (read_fault s.program live root fits object offset (m object offset)) (m object offset) w (event_at s.program ReadOf object offset (m object offset))

module _ (s : Setting) (most : ℕ) where
  -- ---- one byte
  taking_stays : (n : ℕ) (o : Taking) (next : Byte → Focus) (c : CopyOf) (k : List Pending) (m : Memory) (line : ℕ) (w : World Byte) → IsCalm w o → ((byte : Byte) → n + with_focus (next byte) (stack_ahead k) + enabled w ≤ most) → Stays most n (after_taking o next c k m line)
  taking_stays n (Takes byte u event) next c k m line w calm h = let d = h byte in omega arith
  taking_stays n (Breaks kind) next c k m line w calm h = tt

  putting_stays : (n : ℕ) (o : Putting) (next : Focus) (c : CopyOf) (k : List Pending) (line : ℕ) → n + with_focus next (stack_ahead k) + 1 ≤ most → Stays most n (after_putting o next c k line)
  putting_stays n (Puts m u event) next c k line h = let d = enabled_small u in omega arith
  putting_stays n (Refuses kind) next c k line h = tt

  -- a byte is left, which counts and costs; or none is
  paid_or : (base nodes : ℕ) (b : Bool) (line : ℕ) (x y : Outcome) → base + one_if b * nodes ≤ most → (base + nodes ≤ most → Stays most 1 x) → (base ≤ most → Stays most 0 y) → Stays most (counts_as (counted_if b line)) (if b then x else y)
  paid_or base nodes true line x y h f g = f (omega arith)
  paid_or base nodes false line x y h f g = g (omega arith)

  -- ---- reads
  fetched_stays : (v : Datum) (k : List Pending) (c : CopyOf) (m : Memory) (w : World Byte) → stack_ahead k + enabled w ≤ most → Stays most 0 (fetched v k c m w)
  fetched_stays v (In (tree.Read place ty line) (At spot) ∷ k) c m w h = omega arith
  fetched_stays v k c m w h = omega arith

  pub fetch_stays : (nodes : ℕ) (spot : Spot) (read : List Byte) (k : List Pending) (c : CopyOf) (m : Memory) (w : World Byte) → 1 ≤ nodes → stack_ahead k + enabled w + one_if (nat_lt (length read) (type_bytes s.program.sizes (read_type k))) * nodes ≤ most
      → Stays most (counts_as (counted_if (nat_lt (length read) (type_bytes s.program.sizes (read_type k))) (line_at k))) (fetch s spot read k c m w)
  fetch_stays nodes spot read k c m w one h =
      paid_or (stack_ahead k + enabled w) nodes (nat_lt (length read) (type_bytes s.program.sizes (read_type k))) (line_at k) _ _ h
      (λ le. taking_stays 1 _ _ c k m (line_at k) w (byte_calm s _ c.root _ spot m w) (λ byte. omega arith))
      (λ le. fetched_stays _ k c m w le)

  pub skim_stays : (nodes : ℕ) (spot : Spot) (left : ℕ) (byte : Option Byte) (k : List Pending) (c : CopyOf) (m : Memory) (w : World Byte) → 1 ≤ nodes → stack_ahead k + enabled w + some_left left * nodes ≤ most → Stays most (counts_as (any_left left (line_at k))) (skim s spot left byte k c m w)
  skim_stays nodes spot zero byte k c m w one h = fetched_stays Missing k c m w (omega arith)
  skim_stays nodes spot (suc left) byte k c m w one h = taking_stays 1 _ _ c k m (line_at k) w (byte_calm s _ c.root _ spot m w) (λ next. omega arith)

  -- ---- what follows a write
  pub items_stay : (local : ℕ) (full : List Item) (line : ℕ) (object : Object) (all : List Item) (k : List Pending) (c : CopyOf) (m : Memory) (w : World Byte) → items_ahead all + stack_ahead k + enabled w ≤ most → Stays most 0 (items s (tree.InitList local full line) object all k c m w)
  items_stay local full line object [] k c m w h = omega arith
  items_stay local full line object (tree.Scalar offset value ∷ rest) k c m w h = omega arith
  items_stay local full line object (tree.Struct offset from size ∷ rest) k c m w h = omega arith
  items_stay local full line object (tree.Text offset text size ∷ rest) k c m w h = omega arith

  stored_in_stays : (e : Expression) (got : Got) (k : List Pending) (c : CopyOf) (m : Memory) (w : World Byte) → stack_ahead k + enabled w ≤ most → Stays most 0 (stored_in e got k c m w)
  stored_in_stays e (Stores spot v) k c m w h = omega arith
  stored_in_stays e Copies k c m w h = omega arith
  stored_in_stays e _ k c m w h = tt

  stored_for_stays : (t : Statement) (stage : Stage) (k : List Pending) (c : CopyOf) (m : Memory) (w : World Byte) → stack_ahead (Doing t stage ∷ k) + enabled w ≤ most → Stays most 0 (stored_for s t stage k c m w)
  stored_for_stays (tree.InitScalar local e line) Fills k c m w h = omega arith
  stored_for_stays (tree.InitList local all line) (Items item rest) k c m w h = items_stay local all line _ rest k c m w h
  stored_for_stays (tree.InitList local all line) Blanks k c m w h = omega arith
  stored_for_stays _ _ k c m w h = tt

  stored_stays : (k : List Pending) (c : CopyOf) (m : Memory) (w : World Byte) → stack_ahead k + enabled w ≤ most → Stays most 0 (stored s k c m w)
  stored_stays [] c m w h = tt
  stored_stays (In e got ∷ k) c m w h = stored_in_stays e got k c m w (omega arith)
  stored_stays (To place ∷ k) c m w h = tt
  stored_stays (Doing t stage ∷ k) c m w h = stored_for_stays t stage k c m w h
  stored_stays (Before ss ∷ k) c m w h = tt
  stored_stays (Returns d ∷ k) c m w h = tt
  stored_stays (Resumes d x ∷ k) c m w h = tt

  -- ---- writes
  write_at_stays : (nodes : ℕ) (spot : Spot) (v : Datum) (at : ℕ) (k : List Pending) (c : CopyOf) (m : Memory) (w : World Byte) → 3 ≤ nodes → stack_ahead k + enabled w + nodes ≤ most → Stays most 1 (write_at s spot v at k c m w)
  write_at_stays nodes (spots.Bit register number) v at k c m w some h = taking_stays 1 (device_taken s register (device_value s.outside register w) w) (λ byte. PutBit register number v (number_in byte)) c k m (line_at k) w (device_calm s register (device_value s.outside register w) w) (λ byte. omega arith)
  write_at_stays nodes spot v at k c m w some h = putting_stays 1 _ _ c k (line_at k) (omega arith)

  pub write_stays : (nodes : ℕ) (spot : Spot) (v : Datum) (at : ℕ) (k : List Pending) (c : CopyOf) (m : Memory) (w : World Byte) → 3 ≤ nodes → stack_ahead k + enabled w + one_if (nat_lt at (written_bytes spot v)) * nodes ≤ most
      → Stays most (counts_as (counted_if (nat_lt at (written_bytes spot v)) (line_at k))) (write s spot v at k c m w)
  write_stays nodes spot v at k c m w some h =
      paid_or (stack_ahead k + enabled w) nodes (nat_lt at (written_bytes spot v)) (line_at k) _ _ h
      (λ le. write_at_stays nodes spot v at k c m w some le)
      (λ le. stored_stays k c m w le)

  -- The write of a bit's register takes none, and may enable interrupts.
  pub put_bit_stays : (register number : ℕ) (v : Datum) (old : ℕ) (k : List Pending) (c : CopyOf) (m : Memory) (w : World Byte) → 2 + stack_ahead k + enabled w ≤ most → Stays most 1 (put_bit s register number v old k c m w)
  put_bit_stays register number v old k c m w h = putting_stays 1 _ _ c k (line_at k) (omega arith)

  -- ---- structures and strings
  pub copy_read_stays : (to from : Spot) (left : ℕ) (k : List Pending) (c : CopyOf) (m : Memory) (w : World Byte) → 1 + stack_ahead k + enabled w ≤ most → Stays most (counts_as (any_left left (line_at k))) (copy_read s to from left k c m w)
  copy_read_stays to from zero k c m w h = stored_stays k c m w (omega arith)
  copy_read_stays to from (suc left) k c m w h = taking_stays 1 _ _ c k m (line_at k) w (byte_calm s _ c.root _ from m w) (λ byte. omega arith)

  pub copy_write_stays : (nodes : ℕ) (to from : Spot) (byte : Byte) (left : ℕ) (k : List Pending) (c : CopyOf) (m : Memory) (w : World Byte) → 3 ≤ nodes → stack_ahead k + enabled w + nodes ≤ most → Stays most 1 (copy_write s to from byte left k c m w)
  copy_write_stays nodes to from byte left k c m w some h = putting_stays 1 _ _ c k (line_at k) (omega arith)

  pub spell_stays : (nodes : ℕ) (spot : Spot) (text : List ℕ) (left : ℕ) (k : List Pending) (c : CopyOf) (m : Memory) (w : World Byte) → 2 ≤ nodes → stack_ahead k + enabled w + some_left left * nodes ≤ most → Stays most (counts_as (any_left left (line_at k))) (spell s spot text left k c m w)
  spell_stays nodes spot text zero k c m w some h = stored_stays k c m w (omega arith)
  spell_stays nodes spot text (suc left) k c m w some h = putting_stays 1 _ _ c k (line_at k) (omega arith)

  -- ---- the bytes without an item
  blank_at_stays : (nodes : ℕ) (object : Object) (at left : ℕ) (k : List Pending) (c : CopyOf) (m : Memory) (w : World Byte) → 2 ≤ nodes → stack_ahead k + enabled w + nodes ≤ most → 1 ≤ left → Stays most 1 (blank_at s object at left k c m w)
  blank_at_stays nodes object at zero k c m w some h l = absurd (omega arith)
  blank_at_stays nodes object at (suc left) k c m w some h l = putting_stays 1 _ _ c k (line_at k) (omega arith)

  blank_none_stays : (object : Object) (at left : ℕ) (k : List Pending) (c : CopyOf) (m : Memory) (w : World Byte) → stack_ahead k + enabled w ≤ most → left ≡ 0 → Stays most 0 (blank_at s object at left k c m w)
  blank_none_stays object at zero k c m w h e = stored_stays k c m w h
  blank_none_stays object at (suc left) k c m w h e = absurd (omega arith)

  blank_by_stays : (nodes : ℕ) (object : Object) (at covered left line : ℕ) (b : Bool) (k : List Pending) (c : CopyOf) (m : Memory) (w : World Byte) → nat_lt covered left ≡ b → 2 ≤ nodes → stack_ahead k + enabled w + counts_as (counted_if b line) * nodes ≤ most
      → Stays most (counts_as (counted_if b line)) (blank_at s object (at + covered) (left - covered) k c m w)
  blank_by_stays nodes object at covered left line true k c m w e some h = let d = ltb-true covered left e in blank_at_stays nodes object (at + covered) (left - covered) k c m w some (omega arith) (omega arith)
  blank_by_stays nodes object at covered left line false k c m w e some h = let d = ltb-false covered left e in blank_none_stays object (at + covered) (left - covered) k c m w (omega arith) (omega arith)

  blank_for_stays : (nodes : ℕ) (t : Statement) (stage : Stage) (at left : ℕ) (k : List Pending) (c : CopyOf) (m : Memory) (w : World Byte) → 2 ≤ nodes → stack_ahead (Doing t stage ∷ k) + enabled w + counts_as (blank_counts_for s.program t at left) * nodes ≤ most
      → Stays most (counts_as (blank_counts_for s.program t at left)) (blank_for s t at left (Doing t stage ∷ k) c m w)
  blank_for_stays nodes (tree.InitList local all line) stage at left k c m w some h =
      blank_by_stays nodes (local_of s.program c local) at (covered_from s.program.sizes all at left) left line (nat_lt (covered_from s.program.sizes all at left) left) (Doing (tree.InitList local all line) stage ∷ k) c m w refl some h
  blank_for_stays nodes _ stage at left k c m w some h = tt

  pub blank_stays : (nodes : ℕ) (at left : ℕ) (k : List Pending) (c : CopyOf) (m : Memory) (w : World Byte) → 2 ≤ nodes → stack_ahead k + enabled w + counts_as (blank_counts s.program at left k) * nodes ≤ most → Stays most (counts_as (blank_counts s.program at left k)) (blank s at left k c m w)
  blank_stays nodes at left [] c m w some h = tt
  blank_stays nodes at left (In e got ∷ k) c m w some h = tt
  blank_stays nodes at left (To place ∷ k) c m w some h = tt
  blank_stays nodes at left (Doing t stage ∷ k) c m w some h = blank_for_stays nodes t stage at left k c m w some h
  blank_stays nodes at left (Before ss ∷ k) c m w some h = tt
  blank_stays nodes at left (Returns d ∷ k) c m w some h = tt
  blank_stays nodes at left (Resumes d x ∷ k) c m w some h = tt
