-- A local begins with a list: its items one after the other, and then the bytes that no item has.
use Rattle.std.proofs.Common.{◌≡◌, ℕ, zero, suc, ◌+◌, ◌-◌, ◌≤◌, ⊎_elim, Bool, true, false, not, ◌&&◌, ◌||◌, nat_le, nat_lt, if◌then◌else◌, List, [], ◌∷◌, ◌++◌, drop, append_assoc, append-nil, None, refl, sym, ap, ◌∙◌, subst, arith}
use Rattle.std.proofs.lemmas.Bool.{cases_lt}
use Rattle.std.proofs.lemmas.Grind.{common_steps}
use Rattle.std.specs.Prelude.{slice_index}
use Rattle.c_typed.specs.Types.{item_start}
use Rattle.c_typed.specs.Trees as tree
use Rattle.c_typed.specs.Trees.{Expression, Item, Place, Statement}
use Rattle.c_typed.specs.Words.{item_bytes}
use Rattle.core_code.specs.Bytes.{Memory}
use Rattle.core_code.specs.Machine.{Machine}
use Rattle.core_code.specs.Tree as code
use Rattle.core_code.specs.Tree.{Tree}
use Rattle.core_code.specs.declared.code.Byte.{Byte}
use Rattle.core_puts.specs.Bytes.{behind}
use Rattle.core_puts.specs.Puts.{copies}
use Rattle.lower_stmt.specs.Declarators as lower
use Rattle.lower_stmt.specs.Declarators.{text_code, items_code, rest_code, is_within, offset_of}
use Rattle.lower_stmt.specs.Ground.{Ground, first, local_byte, local_bytes}
use Rattle.lower_stmt.specs.Ground as ground
use Rattle.lower_stmt.specs.Statements.{stmt_code}
use Rattle.pic_world.specs.World.{World, arrived, world_as}
use Rattle.src_rules.specs.Accesses.{items, stored_for, spell, first_or_zero}
use Rattle.src_rules.specs.Giving.{take_for}
use Rattle.src_rules.specs.State.{state}
use Rattle.src_rules.specs.Statements.{begin}
use Rattle.src_values.specs.Control.{Eval, Find, Holds as Value, Run, Past, Write, Spell, Blank, AtItem, Items, Blanks, Pending, Doing, active}
use Rattle.src_values.specs.Data as datum
use Rattle.src_values.specs.Data.{Datum}
use Rattle.src_values.specs.Lists as lists
use Rattle.src_values.specs.Lists.{covered_from}
use Rattle.src_values.specs.Memory as source
use Rattle.src_values.specs.Memory.{cleared, with_byte as with_source}
use Rattle.src_values.specs.Objects as objects_of
use Rattle.src_values.specs.Objects.{object_bytes, variables_of, function_at, local_of, variable_offset}
use Rattle.src_values.specs.declared.objects.Byte as value
use Rattle.src_values.specs.declared.objects.CopyOf.{CopyOf}
use Rattle.src_values.specs.declared.objects.Spot as spot
use Rattle.lower_trace.proofs.Assigning.{none_left}
use Rattle.lower_trace.proofs.Beginnings.{Follow, rests}
use Rattle.lower_trace.proofs.CodeLeft.{Scene, held, number, ground_in, core_in, source_in, todo, items_left, item_left, text_from, blank_byte, blanks_from, copies_from, code_after, stack_after}
use Rattle.lower_trace.proofs.Flow.{arrive, cleared_agrees}
use Rattle.lower_trace.proofs.Giving.{placed_of}
use Rattle.lower_trace.proofs.Mirrors.{Mirrors, Agrees, Holds}
use Rattle.lower_trace.proofs.Placed.{Placed, todo_join}
use Rattle.lower_trace.proofs.Places.{copies_are}

-- ---- code that is left, as a list of bytes
texts_between : (to : Byte) (chars : List ℕ) (at left : ℕ) → text_code to chars at ++ text_from to chars at left ≡ text_code to chars (at + left)
unfolding text_code
texts_between to chars at zero = let e : at ≡ at + 0 = omega arith in append-nil (text_code to chars at) ∙ ap (text_code to chars) e
texts_between to chars at (suc left) =
    let e : at + 1 ≡ suc at = omega arith in
    let f : at + 1 + left ≡ at + suc left = omega arith in
    sym (append_assoc (text_code to chars at) (code.Set (behind to at) (slice_index chars at) ∷ []) (text_from to chars (at + 1) left))
    ∙ ap (λ y. text_code to chars y ++ text_from to chars (at + 1) left) (sym e)
    ∙ texts_between to chars (at + 1) left
    ∙ ap (text_code to chars) f

texts_are : (to : Byte) (chars : List ℕ) (n : ℕ) → text_code to chars n ≡ text_from to chars (n - n) n
unfolding text_code
texts_are to chars n =
    let e : 0 ≡ n - n = omega arith in
    let f : n ≡ 0 + n = omega arith in
    ap (text_code to chars) f ∙ sym (texts_between to chars 0 n) ∙ ap (λ y. text_from to chars y n) e

blanks_between : (g : Ground) (to : Byte) (all : List Item) (at left : ℕ) → rest_code g to all at ++ blanks_from g to all at left ≡ rest_code g to all (at + left)
unfolding rest_code
blanks_between g to all at zero = let e : at ≡ at + 0 = omega arith in append-nil (rest_code g to all at) ∙ ap (rest_code g to all) e
blanks_between g to all at (suc left) =
    let e : at + 1 ≡ suc at = omega arith in
    let f : at + 1 + left ≡ at + suc left = omega arith in
    sym (append_assoc (rest_code g to all at) (blank_byte g to all at) (blanks_from g to all (at + 1) left))
    ∙ ap (λ y. rest_code g to all y ++ blanks_from g to all (at + 1) left) (sym e)
    ∙ blanks_between g to all (at + 1) left
    ∙ ap (rest_code g to all) f

blanks_are : (g : Ground) (to : Byte) (all : List Item) (n : ℕ) → rest_code g to all n ≡ blanks_from g to all 0 n
unfolding rest_code
blanks_are g to all n = let f : n ≡ 0 + n = omega arith in ap (rest_code g to all) f ∙ sym (blanks_between g to all 0 n)

-- ---- bytes that an item has
within_case : (offset size at : ℕ) → is_within offset size at ≡ (not (nat_lt at offset) && nat_lt at (offset + size))
within_case offset size at =
    ⊎_elim
    (λ low. let a : nat_le offset at ≡ false = grind (arith, common_steps) in let b : nat_lt at offset ≡ true = grind (arith, common_steps) in rw (a, b) refl)
    (λ high. let a : nat_le offset at ≡ true = grind (arith, common_steps) in let b : nat_lt at offset ≡ false = grind (arith, common_steps) in rw (a, b) (inside offset size at high))
    (cases_lt at offset)
  where
    inside : (offset size at : ℕ) → offset ≤ at → nat_lt (at - offset) size ≡ nat_lt at (offset + size)
    inside offset size at high =
        ⊎_elim
        (λ low. let a : nat_lt (at - offset) size ≡ true = grind (arith, common_steps) in let b : nat_lt at (offset + size) ≡ true = grind (arith, common_steps) in a ∙ sym b)
        (λ past. let a : nat_lt (at - offset) size ≡ false = grind (arith, common_steps) in let b : nat_lt at (offset + size) ≡ false = grind (arith, common_steps) in a ∙ sym b)
        (cases_lt (at - offset) size)

start_is : (item : Item) → offset_of item ≡ item_start item
start_is (tree.Scalar offset e) = refl
start_is (tree.Struct offset from size) = refl
start_is (tree.Text offset chars size) = refl

covers_is : (g : Ground) (item : Item) (at : ℕ) → lower.covers g at item ≡ lists.covers g.layout.sizes item at
covers_is g item at = ap (λ y. is_within y (item_bytes g.layout.sizes item) at) (start_is item) ∙ within_case (item_start item) (item_bytes g.layout.sizes item) at

or_is : (a b c d : Bool) → a ≡ b → c ≡ d → (a || c) ≡ (if b then true else d)
or_is true b c d e f = ap (λ y. if y then true else d) e
or_is false b c d e f = f ∙ ap (λ y. if y then true else d) e

covered_is : (g : Ground) (all : List Item) (at : ℕ) → lower.is_covered g all at ≡ lists.is_covered g.layout.sizes all at
unfolding lists.is_covered
covered_is g [] at = refl
covered_is g (item ∷ all) at = or_is (lower.covers g at item) (lists.covers g.layout.sizes item at) (lower.is_covered g all at) (lists.is_covered g.layout.sizes all at) (covers_is g item at) (covered_is g all at)

-- the next byte without an item, and what follows it
abbrev pub next_blank : Ground → Byte → List Item → ℕ → ℕ → List Tree
next_blank g to all at zero = []
next_blank g to all at (suc left) = code.Set (behind to at) 0 ∷ blanks_from g to all (at + 1) left

blank_case : (here : Bool) (g : Ground) (to : Byte) (all : List Item) (at left : ℕ) → lists.is_covered g.layout.sizes all at ≡ here
    → blanks_from g to all (at + 1) left ≡ next_blank g to all (at + 1 + covered_from g.layout.sizes all (at + 1) left) (left - covered_from g.layout.sizes all (at + 1) left)
    → blanks_from g to all at (suc left) ≡ next_blank g to all (at + (if here then covered_from g.layout.sizes all (at + 1) left + 1 else 0)) (suc left - (if here then covered_from g.layout.sizes all (at + 1) left + 1 else 0))
blank_case true g to all at left here next =
    let n = covered_from g.layout.sizes all (at + 1) left in
    let e : at + 1 + n ≡ at + (n + 1) = omega arith in
    let f : left - n ≡ suc left - (n + 1) = omega arith in
    ap (λ y. (if y then [] else code.Set (behind to at) 0 ∷ []) ++ blanks_from g to all (at + 1) left) (covered_is g all at ∙ here)
    ∙ next ∙ ap (λ y. next_blank g to all y (left - n)) e ∙ ap (next_blank g to all (at + (n + 1))) f
blank_case false g to all at left here next =
    let e : at ≡ at + 0 = omega arith in
    let f : suc left ≡ suc left - 0 = omega arith in
    ap (λ y. (if y then [] else code.Set (behind to at) 0 ∷ []) ++ blanks_from g to all (at + 1) left) (covered_is g all at ∙ here)
    ∙ ap (λ y. next_blank g to all y (suc left)) e ∙ ap (next_blank g to all (at + 0)) f

pub blanks_next : (g : Ground) (to : Byte) (all : List Item) (at left : ℕ) → blanks_from g to all at left ≡ next_blank g to all (at + covered_from g.layout.sizes all at left) (left - covered_from g.layout.sizes all at left)
blanks_next g to all at zero = refl
blanks_next g to all at (suc left) = blank_case (lists.is_covered g.layout.sizes all at) g to all at left refl (blanks_next g to all (at + 1) left)

-- ---- characters
pub first_left : (d : ℕ) (chars : List ℕ) → first_or_zero (drop d chars) ≡ slice_index chars d
first_left zero [] = refl
first_left zero (x ∷ chars) = refl
first_left (suc d) [] = refl
first_left (suc d) (x ∷ chars) = first_left d chars

-- ---- the items that are left
module _ (z : Scene) (local : ℕ) (all : List Item) (line : ℕ) (k : List Pending) (cp : CopyOf) (size_is : object_bytes z.program (local_of z.program cp local) ≡ local_bytes (ground_in z cp) local) where
  abbrev t : Statement
  t = tree.InitList local all line

  abbrev g : Ground
  g = ground_in z cp

  abbrev n : ℕ
  n = number z cp

  abbrev to : Byte
  to = local_byte g local

  pub items_follow : (rest : List Item) (l : source.Memory) (w : World value.Byte) (m : Memory) (c : Machine) → Agrees z (active cp Past k) l m → Holds z (ground_in z cp) k m
      → Placed (core_in z) (number z cp) None (todo (items_left (ground_in z cp) local all rest) (code_after (ground_in z cp) k)) (stack_after z (ground_in z cp) k) m (world_as (held z) (arrived z.outside w)) c
      → Follow z 0 0 c (items (source_in z) (tree.InitList local all line) (local_of z.program cp local) rest k cp l (arrived z.outside w))
  unfolding active
  items_follow [] l w m c agrees holds p =
      let size = object_bytes z.program (local_of z.program cp local) in
      arrive z cp (Blank 0 size) (Doing t Blanks ∷ k) l w m c
      (subst (λ y. Placed (core_in z) n None (todo y (code_after g k)) (stack_after z g k) m (world_as (held z) (arrived z.outside w)) c) (blanks_are g to all (local_bytes g local) ∙ ap (blanks_from g to all 0) (sym size_is)) p)
      agrees holds tt
  items_follow (tree.Scalar offset e ∷ rest) l w m c agrees holds p =
      arrive z cp (Eval e) (Doing t (AtItem (tree.Scalar offset e) rest) ∷ k) l w m c
      (subst (λ y. Placed (core_in z) n None y (stack_after z g k) m (world_as (held z) (arrived z.outside w)) c) (simp todo_join) p)
      agrees holds tt
  items_follow (tree.Struct offset from size ∷ rest) l w m c agrees holds p =
      arrive z cp (Find from) (Doing t (AtItem (tree.Struct offset from size) rest) ∷ k) l w m c
      (subst (λ y. Placed (core_in z) n None y (stack_after z g k) m (world_as (held z) (arrived z.outside w)) c) (simp todo_join) p)
      agrees holds tt
  items_follow (tree.Text offset chars size ∷ rest) l w m c agrees holds p =
      let R = todo (items_left g local all rest) (code_after g k) in
      arrive z cp (Spell (objects_of.behind (local_of z.program cp local) offset) chars size) (Doing t (Items (tree.Text offset chars size) rest) ∷ k) l w m c
      (subst (λ y. Placed (core_in z) n None y (stack_after z g k) m (world_as (held z) (arrived z.outside w)) c) (split offset chars size rest ∙ ap (λ y. todo y R) (texts_are (behind to offset) chars size)) p)
      agrees holds tt
    where
      split : (offset : ℕ) (chars : List ℕ) (size : ℕ) (rest : List Item) → todo (items_left g local all (tree.Text offset chars size ∷ rest)) (code_after g k) ≡ todo (text_code (behind to offset) chars size) (todo (items_left g local all rest) (code_after g k))
      split offset chars size rest = simp todo_join

  -- the declarator begins
  pub begin_list : (l : source.Memory) (w : World value.Byte) (c : Machine) → Mirrors z (state cp (Run (tree.InitList local all line)) k l w) c
      → Follow z 0 0 c (begin (source_in z) (tree.InitList local all line) k cp l (arrived z.outside w))
  unfolding active stmt_code
  begin_list l w c h =
      items_follow all (cleared l (local_of z.program cp local)) w c.memory c (cleared_agrees z (active cp Past k) l c.memory (local_of z.program cp local) h.agrees) h.holds
      (placed_of z (state cp (Run t) k l w) c h)

  -- ---- a number or a pointer
  scalar_code_is : (offset : ℕ) (e : Expression) (rest : List Item)
      → todo (item_left g to (tree.Scalar offset e) ++ items_left g local all rest) (code_after g k) ≡ todo (copies_from (behind to offset) (first g) 0 (ground.width g e - 0)) (todo (items_left g local all rest) (code_after g k))
  scalar_code_is offset e rest =
      let q : ground.width g e ≡ ground.width g e - 0 = omega arith in
      let R = todo (items_left g local all rest) (code_after g k) in
      todo_join (copies (behind to offset) (first g) (ground.width g e)) (items_left g local all rest) (code_after g k)
      ∙ ap (λ y. todo y R) (copies_are (behind to offset) (first g) (ground.width g e)) ∙ ap (λ y. todo (copies_from (behind to offset) (first g) 0 y) R) q

  pub item_given : (offset : ℕ) (e : Expression) (rest : List Item) (v : Datum) (l : source.Memory) (w : World value.Byte) (c : Machine)
      → Mirrors z (state cp (Value v) (Doing (tree.InitList local all line) (AtItem (tree.Scalar offset e) rest) ∷ k) l w) c
      → Follow z 0 0 c (take_for (source_in z) (tree.InitList local all line) (AtItem (tree.Scalar offset e) rest) v k cp l (arrived z.outside w))
  unfolding active
  item_given offset e rest datum.Missing l w c h = tt
  item_given offset e rest (datum.Number q) l w c h =
      rests z cp (Value (datum.Number q)) (Write (objects_of.behind (local_of z.program cp local) offset) (datum.Number q) 0) (Doing t (AtItem (tree.Scalar offset e) rest) ∷ k) (Doing t (Items (tree.Scalar offset e) rest) ∷ k) l l w c h refl
      (scalar_code_is offset e rest) refl h.agrees h.holds h.value
  item_given offset e rest (datum.Pointer x) l w c h =
      rests z cp (Value (datum.Pointer x)) (Write (objects_of.behind (local_of z.program cp local) offset) (datum.Pointer x) 0) (Doing t (AtItem (tree.Scalar offset e) rest) ∷ k) (Doing t (Items (tree.Scalar offset e) rest) ∷ k) l l w c h refl
      (scalar_code_is offset e rest) refl h.agrees h.holds h.value

  -- all bytes of a number or a pointer are written
  pub item_written : (offset : ℕ) (e : Expression) (rest : List Item) (v : Datum) (done : ℕ) (now : spot.Spot) (l : source.Memory) (w : World value.Byte) (c : Machine) → ground.width (ground_in z cp) e ≤ done
      → Mirrors z (state cp (Write now v done) (Doing (tree.InitList local all line) (Items (tree.Scalar offset e) rest) ∷ k) l w) c
      → Follow z 0 0 c (stored_for (source_in z) (tree.InitList local all line) (Items (tree.Scalar offset e) rest) k cp l (arrived z.outside w))
  unfolding active
  item_written offset e rest v done now l w c le h =
      items_follow rest l w c.memory c h.agrees h.holds
      (subst (λ y. Placed (core_in z) n None y (stack_after z g k) c.memory (world_as (held z) (arrived z.outside w)) c) (none_left (behind to offset) (first g) done (ground.width g e) (todo (items_left g local all rest) (code_after g k)) le)
      (placed_of z (state cp (Write now v done) (Doing t (Items (tree.Scalar offset e) rest) ∷ k) l w) c h))

  -- all characters of a string are written
  pub text_written : (offset : ℕ) (chars : List ℕ) (size : ℕ) (rest : List Item) (at : spot.Spot) (text : List ℕ) (l : source.Memory) (w : World value.Byte) (c : Machine)
      → Mirrors z (state cp (Spell at text 0) (Doing (tree.InitList local all line) (Items (tree.Text offset chars size) rest) ∷ k) l w) c
      → Follow z 0 0 c (spell (source_in z) at text 0 (Doing (tree.InitList local all line) (Items (tree.Text offset chars size) rest) ∷ k) cp l (arrived z.outside w))
  unfolding active
  text_written offset chars size rest at text l w c h =
      items_follow rest l w c.memory c h.agrees h.holds (placed_of z (state cp (Spell at text 0) (Doing t (Items (tree.Text offset chars size) rest) ∷ k) l w) c h)
