-- The bytes of a list of first values are written: those of numbers and pointers, of strings, and those that no item has.
use Rattle.std.proofs.Common.{◌≡◌, ℕ, zero, suc, ◌+◌, ◌-◌, ◌*◌, ◌<◌, ◌≤◌, Bool, true, false, nat_lt, if◌then◌else◌, List, [], ◌∷◌, length, drop, Option, Some, None, refl, sym, ap, ◌∙◌, subst, arith}
use Rattle.std.proofs.lemmas.Grind.{common_steps}
use Rattle.std.specs.Prelude.{slice_index}
use Rattle.c_typed.specs.Trees as tree
use Rattle.c_typed.specs.Trees.{Expression, Item, Statement}
use Rattle.core_code.specs.Bytes as bytes
use Rattle.core_code.specs.Bytes.{Held, Memory, with_byte}
use Rattle.core_code.specs.Cost.{is_kept, one_if}
use Rattle.core_code.specs.Machine.{Machine, Task, Do as Todo}
use Rattle.core_code.specs.Tree as code
use Rattle.core_code.specs.declared.code.Byte.{Byte}
use Rattle.core_code.specs.declared.code.Byte.TheVariants.{Frame}
use Rattle.core_puts.specs.Bytes.{behind}
use Rattle.lower_stmt.specs.Ground.{Ground, first, local_byte, local_bytes}
use Rattle.lower_stmt.specs.Ground as ground
use Rattle.pic_world.specs.World.{World, arrived, is_due, world_as}
use Rattle.src_rules.specs.Accesses.{after_putting, write, spell, blank, blank_at, first_or_zero, behind_first}
use Rattle.src_rules.specs.Standing.{stepped}
use Rattle.src_rules.specs.State.{state}
use Rattle.src_values.specs.Accesses.{put_byte, put_unless, write_fault}
use Rattle.src_values.specs.Control.{Focus, Past, Write, Spell, Blank, Items, Blanks, Pending, Doing, active}
use Rattle.src_values.specs.Data.{Datum}
use Rattle.src_values.specs.Lists.{covered_from, is_covered}
use Rattle.src_values.specs.Memory as source
use Rattle.src_values.specs.Memory.{with_byte as with_source}
use Rattle.src_values.specs.Objects as objects_of
use Rattle.src_values.specs.Objects.{object_bytes, variables_of, function_at, local_of, next_byte, variable_offset}
use Rattle.src_values.specs.Values.{byte_count}
use Rattle.src_values.specs.declared.objects.Byte as value
use Rattle.src_values.specs.declared.objects.Byte.TheVariants as values
use Rattle.src_values.specs.declared.objects.CopyOf.{CopyOf}
use Rattle.src_values.specs.declared.objects.Object as object
use Rattle.src_values.specs.declared.objects.Object.TheVariants as objects
use Rattle.src_values.specs.declared.objects.Pointer.TheVariants.{Into}
use Rattle.src_values.specs.declared.objects.Spot.TheVariants as spots
use Rattle.src_values.specs.declared.objects.Undef.{Undef}
use Rattle.lower_trace.proofs.Assigning.{writable}
use Rattle.lower_trace.proofs.Beginnings.{Follow}
use Rattle.lower_trace.proofs.CodeLeft.{Scene, held, number, ground_in, core_in, source_in, todo, items_left, text_from, blanks_from, code_after, code_at, stack_after, stack_at, copy_at}
use Rattle.lower_trace.proofs.Constants.{due_below, again_below}
use Rattle.lower_trace.proofs.FixedWrites.{store_fixed}
use Rattle.lower_trace.proofs.Flow.{arrive}
use Rattle.lower_trace.proofs.Giving.{Around, placed_of}
use Rattle.lower_trace.proofs.Kept.{SceneLaws, Reached}
use Rattle.lower_trace.proofs.Listing.{item_written, first_left, next_blank, blanks_next}
use Rattle.lower_trace.proofs.Members.{byte_is_so}
use Rattle.lower_trace.proofs.Mirrors.{Mirrors, Agrees, Holds, HasValue, core_byte, at_byte}
use Rattle.lower_trace.proofs.Operations.{comes_within, beyond_is, set_then}
use Rattle.lower_trace.proofs.Placed.{Placed}
use Rattle.lower_trace.proofs.Reading.{lt_true}
use Rattle.lower_trace.proofs.Storing.{store_agrees, temps_kept, holds_temps, results_kept}

-- ---- a known byte goes to a variable
module _ (z : Scene) (laws : SceneLaws z) (cp : CopyOf) (k : List Pending) (l : source.Memory) (around : Around z cp k) (reach : Reached z (ground_in z cp) k) (own_room : (ground_in z cp).base ≤ (core_in z).program.frame_bytes (number z cp)) (i at byte line : ℕ) (x : Focus) (r : List Task) (w : World value.Byte) (m : Memory) (c : Machine) (live : List CopyOf) (there : i < length (variables_of (function_at z.program cp.function))) (due : is_due (arrived z.outside w) ≡ false)
    (agrees : Agrees z (active cp x k) l m) (holds : Holds z (ground_in z cp) k m) (same : copy_at cp x k ≡ cp) (next : code_at z (ground_in z cp) x k ≡ r) (stack : stack_at z (ground_in z cp) x k ≡ stack_after z (ground_in z cp) k) (has : (y : Memory) → HasValue z (ground_in z cp) x k y)
    (p : Placed (core_in z) (number z cp) None (Todo [] (code.Set (core_byte z (objects.Variable cp i) at) byte) ∷ r) (stack_after z (ground_in z cp) k) m (world_as (held z) (arrived z.outside w)) c) where
  set_case : (fault : Option Undef) → write_fault z.program live cp.root (objects.Variable cp i) at ≡ fault → Follow z 4 1 c (after_putting (put_unless fault (objects.Variable cp i) at (values.Number byte) None l (arrived z.outside w)) x cp k line)
  set_case (Some kind) e = tt
  set_case None e =
      let n = number z cp in
      let g = ground_in z cp in
      let o = objects.Variable cp i in
      let W = world_as (held z) (arrived z.outside w) in
      let h = bytes.Number byte in
      let m' = with_byte m (core_byte z o at) h in
      let l' = with_source l o at (values.Number byte) in
      let T = Mirrors z (state cp x k l' (arrived z.outside w)) in
      let inside = writable z live cp.root o at e in
      let below = laws.below cp i at around.reached there inside in
      let sure : 1 ≤ one_if (is_kept (core_in z).program.variable_bytes (core_byte z o at)) = let q = ap one_if (laws.kept o at (around.reached, there) inside) in omega arith in
      comes_within (core_in z) T (4 + 0) (1 + 0) 4 1 c
      (set_then (core_in z) T n None (stack_after z g k) W (due_below z (arrived z.outside w) due) (again_below z w) (variable_offset z.program cp.function i + at) byte r m c 0 0 1 sure (omega arith) p
      (λ d pd. arrive z cp x k l' w m' d
      (subst (λ y. Placed (core_in z) (number z y) None (code_at z g x k) (stack_at z g x k) m' W d) (sym same)
      (subst (λ y. Placed (core_in z) n None y (stack_at z g x k) m' W d) (sym next)
      (subst (λ y. Placed (core_in z) n None r y m' W d) (sym stack) pd)))
      (store_agrees z laws o at (around.reached, there) inside m h (active cp x k) l (values.Number byte) refl agrees)
      (holds_temps z cp k m m' (temps_kept z laws o at (around.reached, there) inside m h) (results_kept z o at h m) around.reached around.piled reach holds)
      (has m')))
      (omega arith) (omega arith)

  set_byte : Follow z 4 1 c (after_putting (put_byte (source_in z) live cp.root (spots.Memory (Into (objects.Variable cp i) at)) (values.Number byte) l (arrived z.outside w)) x cp k line)
  unfolding put_byte
  set_byte = set_case (write_fault z.program live cp.root (objects.Variable cp i) at) refl

own_sizes : (z : Scene) (cp : CopyOf) → (ground_in z cp).layout.sizes ≡ z.program.sizes
unfolding ground_in
own_sizes z cp = refl

lt_none : (a b : ℕ) → b ≤ a → nat_lt a b ≡ false
lt_none a b le = grind (arith, common_steps)

covered_one : (here : Bool) (n left : ℕ) → n ≤ left → (if here then n + 1 else 0) ≤ suc left
covered_one true n left le = omega arith
covered_one false n left le = omega arith

covered_few : (sizes : List ℕ) (all : List Item) (at left : ℕ) → covered_from sizes all at left ≤ left
covered_few sizes all at zero = omega arith
covered_few sizes all at (suc left) = covered_one (is_covered sizes all at) (covered_from sizes all (at + 1) left) left (covered_few sizes all (at + 1) left)

-- What is known of a local that begins with a list: it is there, and its bytes lie one behind the other.
pub record Listed (z : Scene) (cp : CopyOf) (local : ℕ) : Type 0 where
  pub there : length (function_at z.program cp.function).params + local < length (variables_of (function_at z.program cp.function))
  pub starts : at_byte z (objects_of.behind (local_of z.program cp local) 0) ≡ Some (local_byte (ground_in z cp) local)
  pub size : object_bytes z.program (local_of z.program cp local) ≡ local_bytes (ground_in z cp) local

abbrev pub some_left : ℕ → ℕ
some_left zero = 0
some_left (suc left) = 1

module _ (z : Scene) (laws : SceneLaws z) (local : ℕ) (all : List Item) (line : ℕ) (k : List Pending) (cp : CopyOf) (l : source.Memory) (listed : Listed z cp local) (own_room : (ground_in z cp).base ≤ (core_in z).program.frame_bytes (number z cp)) where
  abbrev t : Statement
  t = tree.InitList local all line

  abbrev g : Ground
  g = ground_in z cp

  abbrev n : ℕ
  n = number z cp

  abbrev to : Byte
  to = local_byte g local

  abbrev o : object.Object
  o = local_of z.program cp local

  -- where the bytes of the local are
  pub byte_there : (at : ℕ) → Around z cp (Doing t Blanks ∷ k) → at ≤ object_bytes z.program o → behind to at ≡ core_byte z o at
  byte_there at around le =
      let i = length (function_at z.program cp.function).params + local in
      let fit = laws.fits o (around.reached, listed.there) in
      let few = laws.reach o (around.reached, listed.there) in
      ap (λ y. behind y at) (sym (byte_is_so (core_byte z o 0) to listed.starts)) ∙ ap (Frame n) (beyond_is (variable_offset z.program cp.function i + 0) at (omega arith) ∙ (omega arith))

  byte_far : (offset at : ℕ) → Around z cp (Doing t Blanks ∷ k) → offset + at ≤ object_bytes z.program o → behind (behind to offset) at ≡ core_byte z o (offset + at)
  byte_far offset at around le =
      let i = length (function_at z.program cp.function).params + local in
      let fit = laws.fits o (around.reached, listed.there) in
      let few = laws.reach o (around.reached, listed.there) in
      ap (λ y. behind y at) (byte_there offset around (omega arith)) ∙ ap (Frame n) (beyond_is (variable_offset z.program cp.function i + offset) at (omega arith) ∙ (omega arith))

  -- ---- numbers and pointers
  module _ (offset : ℕ) (e : Expression) (rest : List Item) (around : Around z cp (Doing (tree.InitList local all line) (Items (tree.Scalar offset e) rest) ∷ k)) (reach : Reached z (ground_in z cp) (Doing (tree.InitList local all line) (Items (tree.Scalar offset e) rest) ∷ k)) (low : (ground_in z cp).base ≤ 96) (v : Datum) (all_bytes : byte_count v ≡ ground.width (ground_in z cp) e) (fits : offset ≤ object_bytes z.program (local_of z.program cp local)) (room : (ground_in z cp).base + ground.width (ground_in z cp) e ≤ (core_in z).program.frame_bytes (number z cp)) where
    abbrev frames : List Pending
    frames = Doing t (Items (tree.Scalar offset e) rest) ∷ k

    start_there : at_byte z (objects_of.behind o offset) ≡ Some (behind to offset)
    start_there = ap Some (sym (byte_there offset (record { reached = around.reached; apart = around.apart; mains = around.mains; piled = around.piled }) fits))

    -- the next byte
    pub item_byte : (done : ℕ) (w : World value.Byte) (c : Machine) → done < byte_count v → is_due (arrived z.outside w) ≡ false
        → Mirrors z (state cp (Write (stepped done (objects_of.behind (local_of z.program cp local) offset)) v done) (Doing (tree.InitList local all line) (Items (tree.Scalar offset e) rest) ∷ k) l w) c
        → Follow z 6 1 c (write (source_in z) (stepped done (objects_of.behind (local_of z.program cp local) offset)) v done (Doing (tree.InitList local all line) (Items (tree.Scalar offset e) rest) ∷ k) cp l (arrived z.outside w))
    item_byte done w c lt due h =
        let more = lt_true done (byte_count v) lt in
        rw more
        (store_fixed z laws cp frames l around reach low (behind to offset) (ground.width g e) g.base (code_after g frames) (λ a i. refl) refl room own_room (objects_of.behind o offset) v done line w c start_there (refl, listed.there) tt tt (λ a q. absurd (cc)) (omega arith) lt due h)

    -- what follows the last one
    pub item_end : (done : ℕ) (w : World value.Byte) (c : Machine) → byte_count v ≤ done
        → Mirrors z (state cp (Write (stepped done (objects_of.behind (local_of z.program cp local) offset)) v done) (Doing (tree.InitList local all line) (Items (tree.Scalar offset e) rest) ∷ k) l w) c
        → Follow z 0 0 c (write (source_in z) (stepped done (objects_of.behind (local_of z.program cp local) offset)) v done (Doing (tree.InitList local all line) (Items (tree.Scalar offset e) rest) ∷ k) cp l (arrived z.outside w))
    item_end done w c le h =
        let none = lt_none done (byte_count v) le in
        rw none (item_written z local all line k cp listed.size offset e rest v done (stepped done (objects_of.behind o offset)) l w c (omega arith) h)

  -- ---- strings
  -- the next character
  pub text_byte : (offset : ℕ) (chars : List ℕ) (size : ℕ) (rest : List Item) (done left : ℕ) (text : List ℕ) (w : World value.Byte) (c : Machine) → Around z cp (Doing (tree.InitList local all line) (Items (tree.Text offset chars size) rest) ∷ k) → Reached z (ground_in z cp) (Doing (tree.InitList local all line) (Items (tree.Text offset chars size) rest) ∷ k)
      → done + suc left ≡ size → text ≡ drop done chars → offset + size ≤ object_bytes z.program (local_of z.program cp local) → is_due (arrived z.outside w) ≡ false
      → Mirrors z (state cp (Spell (stepped done (objects_of.behind (local_of z.program cp local) offset)) text (suc left)) (Doing (tree.InitList local all line) (Items (tree.Text offset chars size) rest) ∷ k) l w) c
      → Follow z 4 1 c (spell (source_in z) (stepped done (objects_of.behind (local_of z.program cp local) offset)) text (suc left) (Doing (tree.InitList local all line) (Items (tree.Text offset chars size) rest) ∷ k) cp l (arrived z.outside w))
  unfolding active
  text_byte offset chars size rest done left text w c around reach sum is fits due h =
      let K = Doing t (Items (tree.Text offset chars size) rest) ∷ k in
      let C = todo (items_left g local all rest) (code_after g k) in
      let spot = stepped done (objects_of.behind o offset) in
      let at : size - suc left ≡ done = omega arith in
      let later : size - suc left + 1 ≡ size - left = omega arith in
      let R = todo (text_from (behind to offset) chars (size - suc left + 1) left) C in
      let target : behind (behind to offset) (size - suc left) ≡ core_byte z o (offset + done) =
      ap (behind (behind to offset)) at ∙ byte_far offset done (record { reached = around.reached; apart = around.apart; mains = around.mains; piled = around.piled }) (omega arith) in
      let char_is : slice_index chars (size - suc left) ≡ first_or_zero text = ap (slice_index chars) at ∙ sym (first_left done chars) ∙ ap first_or_zero (sym is) in
      let now : Todo [] (code.Set (behind (behind to offset) (size - suc left)) (slice_index chars (size - suc left))) ∷ R ≡ Todo [] (code.Set (core_byte z o (offset + done)) (first_or_zero text)) ∷ R =
      ap (λ y. Todo [] (code.Set y (slice_index chars (size - suc left))) ∷ R) target ∙ ap (λ y. Todo [] (code.Set (core_byte z o (offset + done)) y) ∷ R) char_is in
      set_byte z laws cp K l around reach own_room (length (function_at z.program cp.function).params + local) (offset + done) (first_or_zero text) line (Spell (next_byte spot) (behind_first text) left) R w c.memory c (active cp (Spell spot text (suc left)) K) listed.there due h.agrees h.holds refl
      (sym (ap (λ y. todo (text_from (behind to offset) chars y left) C) later)) refl (λ y. tt)
      (subst (λ y. Placed (core_in z) n None y (stack_after z g K) c.memory (world_as (held z) (arrived z.outside w)) c) now (placed_of z (state cp (Spell spot text (suc left)) K l w) c h))

  -- ---- bytes without an item
  blank_rest : (left at before : ℕ) (w : World value.Byte) (c : Machine) → Around z cp (Doing t Blanks ∷ k) → Reached z (ground_in z cp) (Doing t Blanks ∷ k) → before ≡ left → at + before ≤ object_bytes z.program o → is_due (arrived z.outside w) ≡ false → Agrees z (active cp Past k) l c.memory → Holds z (ground_in z cp) k c.memory
      → Placed (core_in z) n None (todo (next_blank g to all at before) (code_after g k)) (stack_after z g k) c.memory (world_as (held z) (arrived z.outside w)) c
      → Follow z (4 * some_left left) (some_left left) c (blank_at (source_in z) (local_of z.program cp local) at left (Doing t Blanks ∷ k) cp l (arrived z.outside w))
  unfolding active
  blank_rest zero at before w c around reach is fits due agrees holds p =
      arrive z cp Past k l w c.memory c (subst (λ y. Placed (core_in z) n None (todo (next_blank g to all at y) (code_after g k)) (stack_after z g k) c.memory (world_as (held z) (arrived z.outside w)) c) is p) agrees holds tt
  blank_rest (suc left) at before w c around reach is fits due agrees holds p =
      let K = Doing t Blanks ∷ k in
      let R = todo (blanks_from g to all (at + 1) left) (code_after g k) in
      set_byte z laws cp K l around reach own_room (length (function_at z.program cp.function).params + local) at 0 line (Blank (at + 1) left) R w c.memory c (active cp (Blank at (suc left)) K) listed.there due agrees holds refl refl refl (λ y. tt)
      (subst (λ y. Placed (core_in z) n None (Todo [] (code.Set y 0) ∷ R) (stack_after z g K) c.memory (world_as (held z) (arrived z.outside w)) c) (byte_there at around (omega arith))
      (subst (λ y. Placed (core_in z) n None (todo (next_blank g to all at y) (code_after g k)) (stack_after z g k) c.memory (world_as (held z) (arrived z.outside w)) c) is p))

  -- The next byte without an item becomes 0, or none is left.
  pub blank_goes : (at left : ℕ) (w : World value.Byte) (c : Machine) → Around z cp (Doing (tree.InitList local all line) Blanks ∷ k) → Reached z (ground_in z cp) (Doing (tree.InitList local all line) Blanks ∷ k) → at + left ≤ object_bytes z.program (local_of z.program cp local) → is_due (arrived z.outside w) ≡ false
      → Mirrors z (state cp (Blank at left) (Doing (tree.InitList local all line) Blanks ∷ k) l w) c
      → Follow z (4 * some_left (left - covered_from z.program.sizes all at left)) (some_left (left - covered_from z.program.sizes all at left)) c (blank (source_in z) at left (Doing (tree.InitList local all line) Blanks ∷ k) cp l (arrived z.outside w))
  unfolding active
  blank_goes at left w c around reach fits due h =
      let covered = covered_from z.program.sizes all at left in
      let same = ap (λ y. covered_from y all at left) (own_sizes z cp) in
      let next : blanks_from g to all at left ≡ next_blank g to all (at + covered) (left - covered) =
      blanks_next g to all at left ∙ ap (λ y. next_blank g to all (at + y) (left - y)) same in
      let few = covered_few z.program.sizes all at left in
      blank_rest (left - covered) (at + covered) (left - covered) w c around reach refl (omega arith) due h.agrees h.holds
      (subst (λ y. Placed (core_in z) n None (todo y (code_after g k)) (stack_after z g k) c.memory (world_as (held z) (arrived z.outside w)) c) next
      (placed_of z (state cp (Blank at left) (Doing t Blanks ∷ k) l w) c h))
