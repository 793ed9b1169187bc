-- What is ahead of the next state is no more than what was ahead, less the step that was counted: accesses.
use Rattle.std.proofs.Common.{◌≡◌, ℕ, zero, suc, ◌+◌, ◌-◌, ◌*◌, ◌<◌, ◌≤◌, Bool, true, false, List, [], ◌∷◌, ◌++◌, length, length-append, Option, refl, arith}
use Rattle.std.proofs.lemmas.Bool.{ltb-true, ltb-false}
use Rattle.std.specs.Prelude.{if◌then◌else◌, nat_lt}
use Rattle.c_typed.specs.Trees as tree
use Rattle.c_typed.specs.Trees.{Expression, Item, Statement}
use Rattle.c_typed.specs.Types.{type_bytes}
use Rattle.pic_world.specs.World.{World, device_value}
use Rattle.src_rules.specs.Accesses.{after_taking, after_putting, fetched, fetch, skim, items, stored_in, stored_for, stored, put_bit, write_at, write, copy_read, copy_write, spell, blank_at, blank_for, blank}
use Rattle.src_rules.specs.State.{Outcome}
use Rattle.src_values.specs.Accesses.{Taking, Takes, Breaks, Putting, Puts, Refuses, device_taken}
use Rattle.src_values.specs.Control.{Focus, Got, At, Stores, Copies, Stage, Fills, Items, Blanks, Pending, In, To, Doing, Before, Returns, Resumes, line_at, read_type}
use Rattle.src_values.specs.Control as control
use Rattle.src_values.specs.Counting.{counted_if, any_left, blank_counts_for, blank_counts}
use Rattle.src_values.specs.Data.{Datum, Missing}
use Rattle.src_values.specs.Lists.{covered_from}
use Rattle.src_values.specs.Memory.{Setting, Memory}
use Rattle.src_values.specs.Objects.{local_of, object_bytes}
use Rattle.src_values.specs.Values.{number_in, written_bytes}
use Rattle.src_values.specs.declared.objects.Byte.{Byte}
use Rattle.src_values.specs.declared.objects.CopyOf.{CopyOf}
use Rattle.src_values.specs.declared.objects.Object.{Object}
use Rattle.src_values.specs.declared.objects.Pointer.TheVariants.{Null, Into}
use Rattle.src_values.specs.declared.objects.Spot.{Spot}
use Rattle.src_values.specs.declared.objects.Spot.TheVariants as spots
use Rattle.lag_trace.proofs.Ahead.{items_ahead, write_left, with_focus, stack_ahead}
use Rattle.lag_trace.proofs.Stays.{Stays, counts_as}

-- no local of a copy has more bytes than any local may have
abbrev pub HasFewBytes : Setting → CopyOf → Type 0
HasFewBytes s c = (local : ℕ) → object_bytes s.program (local_of s.program c local) ≤ 96

module _ (s : Setting) (most : ℕ) where
  abbrev q : List ℕ
  q = s.program.sizes

  -- ---- one byte
  taking_stays : (n : ℕ) (o : Taking) (next : Byte → Focus) (c : CopyOf) (k : List Pending) (m : Memory) (line : ℕ) → ((byte : Byte) → n + with_focus q (next byte) k (stack_ahead q k) ≤ most) → Stays q most n (after_taking o next c k m line)
  taking_stays n (Takes byte u event) next c k m line h = h byte
  taking_stays n (Breaks kind) next c k m line h = tt

  putting_stays : (n : ℕ) (o : Putting) (next : Focus) (c : CopyOf) (k : List Pending) (line : ℕ) → n + with_focus q next k (stack_ahead q k) ≤ most → Stays q most n (after_putting o next c k line)
  putting_stays n (Puts m u event) next c k line h = h
  putting_stays n (Refuses kind) next c k line h = tt

  -- a byte is left, which counts; or none is
  if_left : (b : Bool) (line : ℕ) (x y : Outcome) → (b ≡ true → Stays q most 1 x) → (b ≡ false → Stays q most 0 y) → Stays q most (counts_as (counted_if b line)) (if b then x else y)
  if_left true line x y f g = f refl
  if_left false line x y f g = g refl

  -- ---- reads
  fetched_stays : (v : Datum) (k : List Pending) (c : CopyOf) (m : Memory) (w : World Byte) → stack_ahead q k ≤ most → Stays q most 0 (fetched v k c m w)
  fetched_stays v (In (tree.Read place ty line) (At spot) ∷ k) c m w h = omega arith
  fetched_stays v k c m w h = omega arith

  pub fetch_stays : (spot : Spot) (read : List Byte) (k : List Pending) (c : CopyOf) (m : Memory) (w : World Byte) → type_bytes q (read_type k) - length read + stack_ahead q k ≤ most
      → Stays q most (counts_as (counted_if (nat_lt (length read) (type_bytes q (read_type k))) (line_at k))) (fetch s spot read k c m w)
  fetch_stays spot read k c m w h =
      if_left (nat_lt (length read) (type_bytes q (read_type k))) (line_at k) _ _
      (λ e. let d = ltb-true (length read) (type_bytes q (read_type k)) e in taking_stays 1 _ _ c k m (line_at k) (λ byte. let n : length (read ++ byte ∷ []) ≡ length read + 1 = length-append read (byte ∷ []) in omega arith))
      (λ e. fetched_stays _ k c m w (omega arith))

  pub skim_stays : (spot : Spot) (left : ℕ) (byte : Option Byte) (k : List Pending) (c : CopyOf) (m : Memory) (w : World Byte) → left + stack_ahead q k ≤ most → Stays q most (counts_as (any_left left (line_at k))) (skim s spot left byte k c m w)
  skim_stays spot zero byte k c m w h = fetched_stays Missing k c m w (omega arith)
  skim_stays spot (suc left) byte k c m w h = taking_stays 1 _ _ c k m (line_at k) (λ next. omega arith)

  -- ---- what follows a write
  pub items_stay : (local : ℕ) (full : List Item) (line : ℕ) (object : Object) (all : List Item) (k : List Pending) (c : CopyOf) (m : Memory) (w : World Byte) → object_bytes s.program object ≤ 96 → items_ahead q all + stack_ahead q k ≤ most
      → Stays q most 0 (items s (tree.InitList local full line) object all k c m w)
  items_stay local full line object [] k c m w small h = omega arith
  items_stay local full line object (tree.Scalar offset value ∷ rest) k c m w small h = omega arith
  items_stay local full line object (tree.Struct offset from size ∷ rest) k c m w small h = omega arith
  items_stay local full line object (tree.Text offset text size ∷ rest) k c m w small h = omega arith

  stored_in_stays : (e : Expression) (got : Got) (k : List Pending) (c : CopyOf) (m : Memory) (w : World Byte) → stack_ahead q k ≤ most → Stays q most 0 (stored_in e got k c m w)
  stored_in_stays e (Stores spot v) k c m w h = omega arith
  stored_in_stays e Copies k c m w h = omega arith
  stored_in_stays e _ k c m w h = tt

  stored_for_stays : (t : Statement) (stage : Stage) (k : List Pending) (c : CopyOf) (m : Memory) (w : World Byte) → HasFewBytes s c → stack_ahead q (Doing t stage ∷ k) ≤ most → Stays q most 0 (stored_for s t stage k c m w)
  stored_for_stays (tree.InitScalar local e line) Fills k c m w small h = omega arith
  stored_for_stays (tree.InitList local all line) (Items item rest) k c m w small h = items_stay local all line (local_of s.program c local) rest k c m w (small local) h
  stored_for_stays (tree.InitList local all line) Blanks k c m w small h = omega arith
  stored_for_stays _ _ k c m w small h = tt

  stored_stays : (k : List Pending) (c : CopyOf) (m : Memory) (w : World Byte) → HasFewBytes s c → stack_ahead q k ≤ most → Stays q most 0 (stored s k c m w)
  stored_stays [] c m w small h = tt
  stored_stays (In e got ∷ k) c m w small h = stored_in_stays e got k c m w (omega arith)
  stored_stays (To place ∷ k) c m w small h = tt
  stored_stays (Doing t stage ∷ k) c m w small h = stored_for_stays t stage k c m w small h
  stored_stays (Before ss ∷ k) c m w small h = tt
  stored_stays (Returns d ∷ k) c m w small h = tt
  stored_stays (Resumes d x ∷ k) c m w small h = tt

  -- ---- writes
  write_at_stays : (spot : Spot) (v : Datum) (at : ℕ) (k : List Pending) (c : CopyOf) (m : Memory) (w : World Byte) → at < written_bytes spot v → write_left spot v at + stack_ahead q k ≤ most → Stays q most 1 (write_at s spot v at k c m w)
  write_at_stays (spots.Bit register number) v at k c m w some h = taking_stays 1 (device_taken s register (device_value s.outside register w) w) (λ byte. control.PutBit register number v (number_in byte)) c k m (line_at k) (λ byte. omega arith)
  write_at_stays (spots.Device address) v at k c m w some h = putting_stays 1 _ _ c k (line_at k) (omega arith)
  write_at_stays (spots.Memory Null) v at k c m w some h = putting_stays 1 _ _ c k (line_at k) (omega arith)
  write_at_stays (spots.Memory (Into object offset)) v at k c m w some h = putting_stays 1 _ _ c k (line_at k) (omega arith)

  pub write_stays : (spot : Spot) (v : Datum) (at : ℕ) (k : List Pending) (c : CopyOf) (m : Memory) (w : World Byte) → HasFewBytes s c → write_left spot v at + stack_ahead q k ≤ most
      → Stays q most (counts_as (counted_if (nat_lt at (written_bytes spot v)) (line_at k))) (write s spot v at k c m w)
  write_stays spot v at k c m w small h =
      if_left (nat_lt at (written_bytes spot v)) (line_at k) _ _
      (λ e. write_at_stays spot v at k c m w (ltb-true at (written_bytes spot v) e) h)
      (λ e. stored_stays k c m w small (omega arith))

  pub put_bit_stays : (register number : ℕ) (v : Datum) (old : ℕ) (k : List Pending) (c : CopyOf) (m : Memory) (w : World Byte) → 1 + stack_ahead q k ≤ most → Stays q most 1 (put_bit s register number v old k c m w)
  put_bit_stays register number v old k c m w h = putting_stays 1 _ _ c k (line_at k) (omega arith)

  -- ---- structures and strings
  pub copy_read_stays : (to from : Spot) (left : ℕ) (k : List Pending) (c : CopyOf) (m : Memory) (w : World Byte) → HasFewBytes s c → 2 * left + stack_ahead q k ≤ most → Stays q most (counts_as (any_left left (line_at k))) (copy_read s to from left k c m w)
  copy_read_stays to from zero k c m w small h = stored_stays k c m w small (omega arith)
  copy_read_stays to from (suc left) k c m w small h = taking_stays 1 _ _ c k m (line_at k) (λ byte. omega arith)

  pub copy_write_stays : (to from : Spot) (byte : Byte) (left : ℕ) (k : List Pending) (c : CopyOf) (m : Memory) (w : World Byte) → 1 + 2 * left + stack_ahead q k ≤ most → Stays q most 1 (copy_write s to from byte left k c m w)
  copy_write_stays to from byte left k c m w h = putting_stays 1 _ _ c k (line_at k) (omega arith)

  pub spell_stays : (spot : Spot) (text : List ℕ) (left : ℕ) (k : List Pending) (c : CopyOf) (m : Memory) (w : World Byte) → HasFewBytes s c → left + stack_ahead q k ≤ most → Stays q most (counts_as (any_left left (line_at k))) (spell s spot text left k c m w)
  spell_stays spot text zero k c m w small h = stored_stays k c m w small (omega arith)
  spell_stays spot text (suc left) k c m w small h = putting_stays 1 _ _ c k (line_at k) (omega arith)

  -- ---- the bytes without an item
  blank_some : (object : Object) (at left : ℕ) (k : List Pending) (c : CopyOf) (m : Memory) (w : World Byte) → left + stack_ahead q k ≤ most → 1 ≤ left → Stays q most 1 (blank_at s object at left k c m w)
  blank_some object at zero k c m w h l = absurd (omega arith)
  blank_some object at (suc left) k c m w h l = putting_stays 1 _ _ c k (line_at k) (omega arith)

  blank_none : (object : Object) (at left : ℕ) (k : List Pending) (c : CopyOf) (m : Memory) (w : World Byte) → HasFewBytes s c → stack_ahead q k ≤ most → left ≡ 0 → Stays q most 0 (blank_at s object at left k c m w)
  blank_none object at zero k c m w small h e = stored_stays k c m w small h
  blank_none object at (suc left) k c m w small h e = absurd (omega arith)

  blank_by : (object : Object) (at covered left line : ℕ) (b : Bool) (k : List Pending) (c : CopyOf) (m : Memory) (w : World Byte) → nat_lt covered left ≡ b → HasFewBytes s c → left + stack_ahead q k ≤ most
      → Stays q most (counts_as (counted_if b line)) (blank_at s object (at + covered) (left - covered) k c m w)
  blank_by object at covered left line true k c m w e small h = let d = ltb-true covered left e in blank_some object (at + covered) (left - covered) k c m w (omega arith) (omega arith)
  blank_by object at covered left line false k c m w e small h = let d = ltb-false covered left e in blank_none object (at + covered) (left - covered) k c m w small (omega arith) (omega arith)

  blank_for_stays : (t : Statement) (stage : Stage) (at left : ℕ) (k : List Pending) (c : CopyOf) (m : Memory) (w : World Byte) → HasFewBytes s c → left + stack_ahead q (Doing t stage ∷ k) ≤ most
      → Stays q most (counts_as (blank_counts_for s.program t at left)) (blank_for s t at left (Doing t stage ∷ k) c m w)
  blank_for_stays (tree.InitList local all line) stage at left k c m w small h =
      blank_by (local_of s.program c local) at (covered_from q all at left) left line (nat_lt (covered_from q all at left) left) (Doing (tree.InitList local all line) stage ∷ k) c m w refl small h
  blank_for_stays _ stage at left k c m w small h = tt

  pub blank_stays : (at left : ℕ) (k : List Pending) (c : CopyOf) (m : Memory) (w : World Byte) → HasFewBytes s c → left + stack_ahead q k ≤ most → Stays q most (counts_as (blank_counts s.program at left k)) (blank s at left k c m w)
  blank_stays at left [] c m w small h = tt
  blank_stays at left (In e got ∷ k) c m w small h = tt
  blank_stays at left (To place ∷ k) c m w small h = tt
  blank_stays at left (Doing t stage ∷ k) c m w small h = blank_for_stays t stage at left k c m w small h
  blank_stays at left (Before ss ∷ k) c m w small h = tt
  blank_stays at left (Returns d ∷ k) c m w small h = tt
  blank_stays at left (Resumes d x ∷ k) c m w small h = tt
