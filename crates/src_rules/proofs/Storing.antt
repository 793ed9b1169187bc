-- The bytes of a write, of a copy, of a string and of a blank, one by one.
use Rattle.std.proofs.Common.{◌≡◌, ℕ, zero, suc, ◌+◌, ◌-◌, ◌<◌, Bool, true, false, nat_eq, List, [], ◌∷◌, drop, refl, sym, ap, ◌∙◌, subst, arith}
use Rattle.std.proofs.lemmas.Bool.{and_parts, false≢true, ltb-true}
use Rattle.std.proofs.lemmas.List.Elements.{All-drop, All-head}
use Rattle.std.specs.List.{All}
use Rattle.std.specs.Prelude.{if◌then◌else◌, nat_lt}
use Rattle.c_typed.specs.Fits.{place_rule_holds, is_device}
use Rattle.c_typed.specs.Trees as tree
use Rattle.c_typed.specs.Trees.{Expression, Place, Item, Statement, Program}
use Rattle.c_typed.specs.declared.expression.Object.TheVariants as names
use Rattle.c_typed.specs.declared.types.Ty.{Ty}
use Rattle.pic_world.specs.Bits.{set_bit, clear_bit}
use Rattle.pic_world.specs.World.{World, device_value}
use Rattle.src_rules.proofs.Keeping.{Keeps, Around}
use Rattle.src_rules.proofs.Memories.{byte_of_stands}
use Rattle.src_rules.proofs.Places.{SpotIsThere, is_bit, stepped_next, next_placed, stepped_there, spot_there}
use Rattle.src_rules.proofs.Touches.{any_fits, take_stands, device_taken_stands, device_stands, put_byte_stands, number_small, take_inside, put_inside, taking_keeps, taking_keeps_at, putting_keeps, putting_keeps_at}
use Rattle.src_rules.proofs.Writing.{EndsWrite, local_there, scalar_there, list_there, stored_keeps}
use Rattle.src_rules.specs.Accesses.{is_any, stored, put_bit, write_at, write, copy_read, copy_write, first_or_zero, behind_first, spell, blank_at, blank_for, blank}
use Rattle.src_rules.specs.Parts.{IsExpressionOf, IsPlaceOf, local_bytes}
use Rattle.src_rules.specs.Standing.{IsReached, IsByte, IsInside, IsSpotOf, stepped, IsWritten, Writes, Copying, Spells, BlanksOf, WriteStands, CopyStands, SpellStands, StackStands}
use Rattle.src_values.specs.Accesses.{with_bit, device_taken}
use Rattle.src_values.specs.Control.{Write, PutBit, CopyRead, CopyWrite, Spell, Stores, Copies, Stage, Fills, Items, Blanks, Pending, In, To, Doing, Before, Returns, Resumes, line_at, active}
use Rattle.src_values.specs.Data.{Datum}
use Rattle.src_values.specs.Lists.{covered_from}
use Rattle.src_values.specs.Memory.{Setting, Memory}
use Rattle.src_values.specs.Objects.{local_of, behind, next_byte}
use Rattle.src_values.specs.Values.{byte_of, number_in, lowest_bit, written_bytes}
use Rattle.src_values.specs.declared.objects.Byte.{Byte}
use Rattle.src_values.specs.declared.objects.Byte.TheVariants as bytes
use Rattle.src_values.specs.declared.objects.CopyOf.{CopyOf}
use Rattle.src_values.specs.declared.objects.Pointer.TheVariants.{Null, Into}
use Rattle.src_values.specs.declared.objects.Spot.{Spot}
use Rattle.src_values.specs.declared.objects.Spot.TheVariants as spots

-- ---- what a node writes to is there
writes_in : (p : Program) (c : CopyOf) (e : Expression) (start : Spot) → IsReached p c → IsExpressionOf p c.function e → IsWritten p c e start → SpotIsThere p start
writes_in p c (tree.Assign place value ty line) start r e s = spot_there p c place start r e.1 s
writes_in p c (tree.Update op place value operation size ty line) start r e s = spot_there p c place start r e.1 s
writes_in p c (tree.Step op place operation size ty line) start r e s = spot_there p c place start r e.1 s
writes_in p c _ start r e s = absurd s

pub writes_there : (p : Program) (c : CopyOf) (k : List Pending) (start : Spot) (ty : Ty) → IsReached p c → StackStands p c k → Writes p c k start ty → SpotIsThere p start
writes_there p c (In e (Stores spot v) ∷ k) start ty r st n = rw n.0 (writes_in p c e spot r st.0 st.2.0)
writes_there p c (Doing (tree.InitScalar local e line) Fills ∷ k) start ty r st n = rw n.0 (local_there p c local r (scalar_there p c local e st.0.1))
writes_there p c (Doing (tree.InitList local all line) (Items (tree.Scalar offset e) rest) ∷ k) start ty r st n = rw n.0 (local_there p c local r (list_there p c local all st.0.1))
writes_there p c _ start ty r st n = absurd n

writes_end : (p : Program) (c : CopyOf) (k : List Pending) (start : Spot) (ty : Ty) → Writes p c k start ty → EndsWrite k
writes_end p c (In e (Stores spot v) ∷ k) start ty n = tt
writes_end p c (Doing (tree.InitScalar local e line) Fills ∷ k) start ty n = tt
writes_end p c (Doing (tree.InitList local all line) (Items (tree.Scalar offset e) rest) ∷ k) start ty n = tt
writes_end p c _ start ty n = absurd n

-- ---- bits
pub bit_start : (n : ℕ) (start : Spot) (register number : ℕ) → spots.Bit register number ≡ stepped n start → start ≡ spots.Bit register number
bit_start n (spots.Device address) register number e = absurd (false≢true (sym (ap is_bit e)))
bit_start n (spots.Bit a b) register number e = sym e
bit_start n (spots.Memory Null) register number e = absurd (false≢true (sym (ap is_bit e)))
bit_start n (spots.Memory (Into object offset)) register number e = absurd (false≢true (sym (ap is_bit e)))

number_of_bit : Spot → ℕ
number_of_bit (spots.Device address) = 0
number_of_bit (spots.Bit register number) = number
number_of_bit (spots.Memory x) = 0

bit_below : (p : Program) (c : CopyOf) (place : Place) (register number : ℕ) → IsPlaceOf p c.function place → IsSpotOf p c place (spots.Bit register number) → number < 8
unfolding place_rule_holds number_of_bit
bit_below p c (tree.Name (names.Static n) ty line) register number h s = absurd (false≢true (sym (ap is_bit s)))
bit_below p c (tree.Name (names.Param n) ty line) register number h s = absurd (false≢true (sym (ap is_bit s)))
bit_below p c (tree.Name (names.Local n) ty line) register number h s = absurd (false≢true (sym (ap is_bit s)))
bit_below p c (tree.Name (names.Register a) ty line) register number h s = absurd (false≢true (sym (ap is_bit s)))
bit_below p c (tree.Bit other at line) register number h s = subst (λ n. n < 8) (sym (ap number_of_bit s)) (ltb-true at 8 (and_parts (is_device other) (nat_lt at 8) h).1)
bit_below p c (tree.Member whole member offset ty line) register number h s = absurd (false≢true (sym (ap is_bit s.4)))
bit_below p c (tree.Deref pointer ty line) register number h s = absurd (false≢true (sym (ap is_bit s.2)))

written_bit : (p : Program) (c : CopyOf) (e : Expression) (register number : ℕ) → IsExpressionOf p c.function e → IsWritten p c e (spots.Bit register number) → number < 8
written_bit p c (tree.Assign place value ty line) register number e s = bit_below p c place register number e.1 s
written_bit p c (tree.Update op place value operation size ty line) register number e s = bit_below p c place register number e.1 s
written_bit p c (tree.Step op place operation size ty line) register number e s = bit_below p c place register number e.1 s
written_bit p c _ register number e s = absurd s

pub writes_bit : (p : Program) (c : CopyOf) (k : List Pending) (register number : ℕ) (ty : Ty) → StackStands p c k → Writes p c k (spots.Bit register number) ty → number < 8
writes_bit p c (In e (Stores spot v) ∷ k) register number ty st n = written_bit p c e register number st.0 (subst (IsWritten p c e) (sym n.0) st.2.0)
writes_bit p c (Doing (tree.InitScalar local e line) Fills ∷ k) register number ty st n = absurd (false≢true (sym (ap is_bit n.0)))
writes_bit p c (Doing (tree.InitList local all line) (Items (tree.Scalar offset e) rest) ∷ k) register number ty st n = absurd (false≢true (sym (ap is_bit n.0)))
writes_bit p c _ register number ty st n = absurd n

set_small : (n x : ℕ) → n < 8 → x < 256 → set_bit n x < 256
set_small zero x l h = omega arith
set_small (suc zero) x l h = omega arith
set_small (suc (suc zero)) x l h = omega arith
set_small (suc (suc (suc zero))) x l h = omega arith
set_small (suc (suc (suc (suc zero)))) x l h = omega arith
set_small (suc (suc (suc (suc (suc zero))))) x l h = omega arith
set_small (suc (suc (suc (suc (suc (suc zero)))))) x l h = omega arith
set_small (suc (suc (suc (suc (suc (suc (suc zero))))))) x l h = omega arith
set_small (suc (suc (suc (suc (suc (suc (suc (suc n)))))))) x l h = absurd (omega arith)

clear_small : (n x : ℕ) → x < 256 → clear_bit n x < 256
clear_small n x h = omega arith

either_small : (b : Bool) (x y : ℕ) → x < 256 → y < 256 → (if b then x else y) < 256
either_small true x y h g = h
either_small false x y h g = g

with_bit_small : (n value old : ℕ) → n < 8 → old < 256 → with_bit n value old < 256
with_bit_small n value old l h = either_small (nat_eq value 1) _ _ (set_small n old l h) (clear_small n old h)

written_same : (n : ℕ) (start : Spot) (v : Datum) → written_bytes (stepped n start) v ≡ written_bytes start v
written_same n (spots.Device address) v = refl
written_same n (spots.Bit register number) v = refl
written_same n (spots.Memory Null) v = refl
written_same n (spots.Memory (Into object offset)) v = refl

-- ---- writes
module _ (s : Setting) (input : All (λ byte. byte < 256) s.outside.input) where
  next_write : (c : CopyOf) (k : List Pending) (spot : Spot) (v : Datum) (at : ℕ) (h : WriteStands s.program c k spot v at) → at < written_bytes spot v → WriteStands s.program c k (next_byte spot) v (at + 1)
  next_write c k spot v at h l =
      let e : written_bytes spot v ≡ written_bytes h.start v = ap (λ q. written_bytes q v) h.there ∙ written_same at h.start v in
      record { start = h.start; type = h.type; node = h.node; there = ap next_byte h.there ∙ stepped_next at h.start; typed = h.typed; part = omega arith }

  spot_is_there : (c : CopyOf) (k : List Pending) (spot : Spot) (v : Datum) (at : ℕ) → IsReached s.program c → StackStands s.program c k → (h : WriteStands s.program c k spot v at) → SpotIsThere s.program spot
  spot_is_there c k spot v at r st h = rw h.there (stepped_there s.program at h.start (writes_there s.program c k h.start h.type r st h.node))

  bit_write : (c : CopyOf) (k : List Pending) (register number : ℕ) (v : Datum) (at : ℕ) → WriteStands s.program c k (spots.Bit register number) v at → WriteStands s.program c k (spots.Bit register number) v 0
  bit_write c k register number v at h =
      record { start = spots.Bit register number; type = h.type; node = subst (λ q. Writes s.program c k q h.type) (bit_start at h.start register number h.there) h.node; there = refl; typed = h.typed; part = omega arith }

  write_at_keeps : (spot : Spot) (v : Datum) (at : ℕ) (k : List Pending) (c : CopyOf) (m : Memory) (w : World Byte) → Around s.program c m w → WriteStands s.program c k spot v at → StackStands s.program c k → at < written_bytes spot v → Keeps s.program (write_at s spot v at k c m w)
  write_at_keeps (spots.Bit register number) v at k c m w a h st l =
      taking_keeps s.program is_any (device_taken s register (device_value s.outside register w) w) (λ byte. PutBit register number v (number_in byte)) c k m w (line_at k) a st (device_taken_stands s register w input a.control) (λ byte b. (bit_write c k register number v at h, number_small s.program byte b.stands))
  write_at_keeps (spots.Device address) v at k c m w a h st l =
      putting_keeps s.program _ _ c k m w (line_at k) a st
      (put_byte_stands s (active c (Write (spots.Device address) v at) k) c.root (spots.Device address) (byte_of v at) m w tt (byte_of_stands s.program h.type v at h.typed) a.memory a.control)
      (next_write c k (spots.Device address) v at h l)
  write_at_keeps (spots.Memory x) v at k c m w a h st l =
      putting_keeps s.program _ _ c k m w (line_at k) a st
      (put_byte_stands s (active c (Write (spots.Memory x) v at) k) c.root (spots.Memory x) (byte_of v at) m w (spot_is_there c k (spots.Memory x) v at a.reached st h) (byte_of_stands s.program h.type v at h.typed) a.memory a.control)
      (next_write c k (spots.Memory x) v at h l)

  write_case : (b : Bool) (spot : Spot) (v : Datum) (at : ℕ) (k : List Pending) (c : CopyOf) (m : Memory) (w : World Byte) → nat_lt at (written_bytes spot v) ≡ b → Around s.program c m w → WriteStands s.program c k spot v at → StackStands s.program c k → Keeps s.program (if b then write_at s spot v at k c m w else stored s k c m w)
  write_case true spot v at k c m w e a h st = write_at_keeps spot v at k c m w a h st (ltb-true at (written_bytes spot v) e)
  write_case false spot v at k c m w e a h st = stored_keeps s k c m w a st (writes_end s.program c k h.start h.type h.node)

  pub write_keeps : (spot : Spot) (v : Datum) (at : ℕ) (k : List Pending) (c : CopyOf) (m : Memory) (w : World Byte) → Around s.program c m w → WriteStands s.program c k spot v at → StackStands s.program c k → Keeps s.program (write s spot v at k c m w)
  write_keeps spot v at k c m w a h st = write_case (nat_lt at (written_bytes spot v)) spot v at k c m w refl a h st

  pub put_bit_keeps : (register number : ℕ) (v : Datum) (old : ℕ) (k : List Pending) (c : CopyOf) (m : Memory) (w : World Byte) → Around s.program c m w → WriteStands s.program c k (spots.Bit register number) v 0 → old < 256 → StackStands s.program c k → Keeps s.program (put_bit s register number v old k c m w)
  unfolding bit_write
  put_bit_keeps register number v old k c m w a h o st =
      let g = bit_write c k register number v 0 h in
      putting_keeps s.program _ _ c k m w (line_at k) a st
      (device_stands s.program register (with_bit number (lowest_bit v) old) m w (with_bit_small number (lowest_bit v) old (writes_bit s.program c k register number g.type st g.node) o) a.memory a.control)
      (record { start = spots.Bit register number; type = g.type; node = g.node; there = refl; typed = g.typed; part = omega arith })

-- ---- copies
copying_in : (p : Program) (c : CopyOf) (k : List Pending) (to from : Spot) (n : ℕ) → IsReached p c → StackStands p c k → Copying p c k to from n → SpotIsThere p to
copying_in p c (In (tree.StructAssign place other size line) Copies ∷ k) to from n r st h = spot_there p c place to r st.0.1 h.0
copying_in p c (Doing (tree.InitList local all line) (Items (tree.Struct offset other size) rest) ∷ k) to from n r st h = rw h.0 (local_there p c local r (list_there p c local all st.0.1))
copying_in p c _ to from n r st h = absurd h

copying_end : (p : Program) (c : CopyOf) (k : List Pending) (to from : Spot) (n : ℕ) → Copying p c k to from n → EndsWrite k
copying_end p c (In (tree.StructAssign place other size line) Copies ∷ k) to from n h = tt
copying_end p c (Doing (tree.InitList local all line) (Items (tree.Struct offset other size) rest) ∷ k) to from n h = tt
copying_end p c _ to from n h = absurd h

module _ (s : Setting) (input : All (λ byte. byte < 256) s.outside.input) where
  pub copy_read_keeps : (to from : Spot) (left : ℕ) (k : List Pending) (c : CopyOf) (m : Memory) (w : World Byte) → Around s.program c m w → CopyStands s.program c k to from left → StackStands s.program c k → Keeps s.program (copy_read s to from left k c m w)
  copy_read_keeps to from zero k c m w a h st = stored_keeps s k c m w a st (copying_end s.program c k h.first h.other h.size h.node)
  copy_read_keeps to from (suc left) k c m w a h st =
      let live = active c (CopyRead to from (suc left)) k in
      taking_keeps_at s.program is_any _ (λ byte. CopyWrite to from byte left) c k m w (line_at k) a st
      (take_stands s live c.root is_any from m w input a.memory a.control (any_fits from))
      (λ byte u event is b. (h, b.stands, take_inside s live c.root is_any from m w byte u event is))

  pub copy_write_keeps : (to from : Spot) (byte : Byte) (left : ℕ) (k : List Pending) (c : CopyOf) (m : Memory) (w : World Byte) → Around s.program c m w → CopyStands s.program c k to from (suc left) → IsByte s.program byte → IsInside s.program from → StackStands s.program c k → Keeps s.program (copy_write s to from byte left k c m w)
  copy_write_keeps to from byte left k c m w a h b inside st =
      let live = active c (CopyWrite to from byte left) k in
      putting_keeps_at s.program _ _ c k m w (line_at k) a st
      (put_byte_stands s live c.root to byte m w (rw h.written (stepped_there s.program h.done h.first (copying_in s.program c k h.first h.other h.size a.reached st h.node))) b a.memory a.control)
      (λ n u event is. record {
        first = h.first;
        other = h.other;
        size = h.size;
        done = h.done + 1;
        node = h.node;
        all = let e = h.all in omega arith;
        written = ap next_byte h.written ∙ stepped_next h.done h.first;
        read = ap next_byte h.read ∙ stepped_next h.done h.other;
        target = next_placed s.program to h.target (put_inside s live c.root to byte m w n u event is);
        source = next_placed s.program from h.source inside;
      })

-- ---- strings
spells_in : (p : Program) (c : CopyOf) (k : List Pending) (start : Spot) (whole : List ℕ) (n : ℕ) → IsReached p c → StackStands p c k → Spells p c k start whole n → SpotIsThere p start × All (λ x. x < 256) whole
spells_in p c (Doing (tree.InitList local all line) (Items (tree.Text offset text size) rest) ∷ k) start whole n r st h =
    (rw h.0 (local_there p c local r (list_there p c local all st.0.1)), rw h.1 st.2.1.1.1)
spells_in p c _ start whole n r st h = absurd h

spells_end : (p : Program) (c : CopyOf) (k : List Pending) (start : Spot) (whole : List ℕ) (n : ℕ) → Spells p c k start whole n → EndsWrite k
spells_end p c (Doing (tree.InitList local all line) (Items (tree.Text offset text size) rest) ∷ k) start whole n h = tt
spells_end p c _ start whole n h = absurd h

drop_behind : (n : ℕ) (xs : List ℕ) → behind_first (drop n xs) ≡ drop (n + 1) xs
drop_behind zero [] = refl
drop_behind zero (x ∷ xs) = refl
drop_behind (suc n) [] = let e : suc n + 1 ≡ suc (suc n) = omega arith in ap (λ k. drop k []) (sym e)
drop_behind (suc n) (x ∷ xs) = let e : suc n + 1 ≡ suc (n + 1) = omega arith in drop_behind n xs ∙ ap (λ k. drop k (x ∷ xs)) (sym e)

head_small : (xs : List ℕ) → All (λ x. x < 256) xs → first_or_zero xs < 256
head_small [] h = omega arith
head_small (x ∷ xs) h = All-head (λ x. x < 256) x xs h

first_small : (n : ℕ) (xs : List ℕ) → All (λ x. x < 256) xs → first_or_zero (drop n xs) < 256
first_small n xs h = head_small (drop n xs) (All-drop (λ x. x < 256) n xs h)

module _ (s : Setting) where
  pub spell_keeps : (spot : Spot) (text : List ℕ) (left : ℕ) (k : List Pending) (c : CopyOf) (m : Memory) (w : World Byte) → Around s.program c m w → SpellStands s.program c k spot text left → StackStands s.program c k → Keeps s.program (spell s spot text left k c m w)
  spell_keeps spot text zero k c m w a h st = stored_keeps s k c m w a st (spells_end s.program c k h.start h.whole h.size h.node)
  spell_keeps spot text (suc left) k c m w a h st =
      let g = spells_in s.program c k h.start h.whole h.size a.reached st h.node in
      putting_keeps s.program _ _ c k m w (line_at k) a st
      (put_byte_stands s (active c (Spell spot text (suc left)) k) c.root spot (bytes.Number (first_or_zero text)) m w (rw h.written (stepped_there s.program h.done h.start g.0)) (rw h.rest (first_small h.done h.whole g.1)) a.memory a.control)
      (record {
        start = h.start;
        whole = h.whole;
        size = h.size;
        done = h.done + 1;
        node = h.node;
        all = let e = h.all in omega arith;
        written = ap next_byte h.written ∙ stepped_next h.done h.start;
        rest = ap behind_first h.rest ∙ drop_behind h.done h.whole;
      })

  -- ---- bytes without an item
  blank_at_keeps : (local : ℕ) (all : List Item) (line at left size : ℕ) (k : List Pending) (c : CopyOf) (m : Memory) (w : World Byte) → Around s.program c m w → StackStands s.program c (Doing (tree.InitList local all line) Blanks ∷ k)
      → size ≡ local_bytes s.program c.function local → (0 < left → at + left ≡ size) → Keeps s.program (blank_at s (local_of s.program c local) at left (Doing (tree.InitList local all line) Blanks ∷ k) c m w)
  blank_at_keeps local all line at zero size k c m w a st is e = stored_keeps s (Doing (tree.InitList local all line) Blanks ∷ k) c m w a st tt
  blank_at_keeps local all line at (suc left) size k c m w a st is e =
      putting_keeps s.program _ _ c (Doing (tree.InitList local all line) Blanks ∷ k) m w line a st
      (put_byte_stands s _ c.root (behind (local_of s.program c local) at) (bytes.Number 0) m w (local_there s.program c local a.reached (list_there s.program c local all st.0.1)) (omega arith) a.memory a.control)
      (size, is, (let d = e (omega arith) in omega arith))

  blank_for_keeps : (t : Statement) (stage : Stage) (at left size : ℕ) (k : List Pending) (c : CopyOf) (m : Memory) (w : World Byte) → Around s.program c m w → StackStands s.program c (Doing t stage ∷ k) → BlanksOf s.program c (Doing t stage ∷ k) size → at + left ≡ size
      → Keeps s.program (blank_for s t at left (Doing t stage ∷ k) c m w)
  blank_for_keeps (tree.InitList local all line) Blanks at left size k c m w a st n e =
      blank_at_keeps local all line (at + covered_from s.program.sizes all at left) (left - covered_from s.program.sizes all at left) size k c m w a st n (λ l. omega arith)
  blank_for_keeps _ _ at left size k c m w a st n e = absurd n

  pub blank_keeps : (at left : ℕ) (k : List Pending) (c : CopyOf) (m : Memory) (w : World Byte) (size : ℕ) → Around s.program c m w → StackStands s.program c k → BlanksOf s.program c k size → at + left ≡ size → Keeps s.program (blank s at left k c m w)
  blank_keeps at left [] c m w size a st n e = absurd n
  blank_keeps at left (In x got ∷ k) c m w size a st n e = absurd n
  blank_keeps at left (To place ∷ k) c m w size a st n e = absurd n
  blank_keeps at left (Doing t stage ∷ k) c m w size a st n e = blank_for_keeps t stage at left size k c m w a st n e
  blank_keeps at left (Before ss ∷ k) c m w size a st n e = absurd n
  blank_keeps at left (Returns d ∷ k) c m w size a st n e = absurd n
  blank_keeps at left (Resumes d x ∷ k) c m w size a st n e = absurd n
