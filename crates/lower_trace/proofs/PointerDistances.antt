-- Differences of pointers: the distance in bytes, divided by the bytes of an element.
use Rattle.c_ints.proofs.Cut.{same as unchanged}
use Rattle.c_ints.specs.Operators.{cut_to, divides_badly, outcome}
use Rattle.c_ints.specs.Quantity.{Quantity}
use Rattle.c_ints.specs.Range.{IsInRange, pattern}
use Rattle.c_ints.specs.declared.operators.BinOp.TheVariants as ops
use Rattle.c_ints.specs.declared.types.IntTy.TheVariants as int
use Rattle.c_typed.specs.Trees as tree
use Rattle.c_typed.specs.Trees.{Expression}
use Rattle.core_code.specs.Bytes as bytes
use Rattle.core_code.specs.Bytes.{Held, Memory, Place as core_bytes_place, with_bytes}
use Rattle.core_code.specs.Machine.{Machine, Task, Do as Todo, Waiting, extent}
use Rattle.core_code.specs.Operands.{fits_together, number_left}
use Rattle.core_code.specs.Tree as code
use Rattle.core_code.specs.Values as core
use Rattle.core_code.specs.Values.{Extent, binary_value, value_in}
use Rattle.core_code.specs.declared.code.Byte.TheVariants.{Frame}
use Rattle.core_puts.specs.Bytes as lower
use Rattle.core_puts.specs.Bytes.{beyond, byte_at}
use Rattle.core_puts.specs.Puts.{operator, sets}
use Rattle.lower_expr.specs.Rows.{difference_row, quotient_row}
use Rattle.lower_trace.proofs.Beginnings.{Follow}
use Rattle.lower_trace.proofs.Changing.{OnlyAbove, above_then, above_written, agrees_above, holds_above}
use Rattle.lower_trace.proofs.CodeLeft.{Scene, base, code_after, core_in, ground_in, held, number, source_in, stack_after, todo, wanted}
use Rattle.lower_trace.proofs.Constants.{again_below, byte_is, due_below}
use Rattle.lower_trace.proofs.Converting.{not_less}
use Rattle.lower_trace.proofs.Flow.{arrive}
use Rattle.lower_trace.proofs.Giving.{Around, agrees_same, placed_of, value_high}
use Rattle.lower_trace.proofs.Helped.{helped_then, spoiled, spoiled_frame, spoiled_object, spoiled_others}
use Rattle.lower_trace.proofs.Kept.{SceneLaws, own_copy}
use Rattle.lower_trace.proofs.Members.{if_datum}
use Rattle.lower_trace.proofs.Mirrors.{Agrees, HasDatum, Holds, Mirrors}
use Rattle.lower_trace.proofs.Moving.{binary_any_then, pointer_value}
use Rattle.lower_trace.proofs.Narrowing.{pattern_cut}
use Rattle.lower_trace.proofs.NumberBytes.{core_object_same}
use Rattle.lower_trace.proofs.Operating.{plain_fits, value_number}
use Rattle.lower_trace.proofs.Operations.{Comes, beyond_is, comes_within, own_frame, sets_then}
use Rattle.lower_trace.proofs.Placed.{Placed, todo_join}
use Rattle.lower_trace.proofs.PointerTests.{object_is}
use Rattle.lower_trace.proofs.Reading.{lt_of}
use Rattle.lower_trace.proofs.Returning.{Resumables, holds_frames}
use Rattle.lower_trace.proofs.Written.{and_false, bytes_clear, bytes_there, same_nat}
use Rattle.lower_trace.specs.Lowering.{object_as, offset_as}
use Rattle.pic_world.specs.World.{World, arrived, is_due, world_as}
use Rattle.src_rules.specs.Giving.{answered, take_in}
use Rattle.src_rules.specs.Standing.{IsPointer, IsThere}
use Rattle.src_rules.specs.State.{state}
use Rattle.src_values.specs.Control.{In, One, Pending, Holds as Value, active}
use Rattle.src_values.specs.Data as datum
use Rattle.src_values.specs.Memory as source
use Rattle.src_values.specs.Objects.{object_bytes, same_object}
use Rattle.src_values.specs.Values as answers
use Rattle.src_values.specs.Values.{difference_answer}
use Rattle.src_values.specs.declared.objects.Byte as value
use Rattle.src_values.specs.declared.objects.Byte.TheVariants as values
use Rattle.src_values.specs.declared.objects.CopyOf.{CopyOf}
use Rattle.src_values.specs.declared.objects.Object as object
use Rattle.src_values.specs.declared.objects.Pointer.TheVariants.{Into, Null}
use Rattle.src_values.specs.declared.objects.Pointer.{Pointer}
use Rattle.src_values.specs.declared.objects.Undef.TheVariants.{Order}
use Rattle.std.proofs.Common.{Bool, List, None, Some, [], ap, arith, false, if◌then◌else◌, inl, inr, nat_eq, nat_lt, neg_ℤ, negsuc, pos, refl, subst, suc, sym, true, ℕ, ℤ, ◌%◌, ◌*◌, ◌++◌, ◌+◌, ◌/◌, ◌<◌, ◌^◌, ◌∙◌, ◌∷◌, ◌≡◌, ◌≤◌}
use Rattle.std.proofs.Math.Nat.{div-eq_of_lt}
use Rattle.std.proofs.lemmas.Grind.{common_steps}
use Rattle.std.proofs.lemmas.Int.{ints}
use Rattle.std.specs.Ordering.{int_eq}
use Rattle.std.specs.Prelude.{int_div, ◌-ℤ◌}

-- ---- numbers
abbrev pub sint : ℤ → Quantity
sint d = record { ty = int.Int; number = d }

abbrev pub far : ℕ → ℕ → ℤ
far f g = pos f -ℤ pos g

far_is : (a f g : ℕ) → pos (a + f) -ℤ pos (a + g) ≡ far f g
far_is a f g = omega (arith, ints)

far_range : (f g : ℕ) → f ≤ 32767 → g ≤ 32767 → IsInRange int.Int (far f g)
far_range f g a b = (omega (arith, ints), omega (arith, ints))

size_range : (n : ℕ) → n ≤ 32767 → IsInRange int.Int (pos n)
size_range n le = (omega (arith, ints), omega (arith, ints))

size_pattern : (n : ℕ) → n ≤ 32767 → pattern int.Int (pos n) ≡ n
size_pattern n le = omega (arith, ints)

same_pattern : (d : ℤ) → pattern int.UInt d ≡ pattern int.Int d
same_pattern d = refl

div_one : (d : ℤ) → int_div d (pos 1) ≡ d
div_one (pos a) = let e : a / 1 ≡ a = omega arith in ap pos e
div_one (negsuc a) = let e : suc a / 1 ≡ suc a = omega arith in ap (λ t. neg_ℤ (pos t)) e

div_none_pos : (a size : ℕ) → a < size → int_div (pos a) (pos size) ≡ pos 0
div_none_pos a size lt = ap pos (div-eq_of_lt lt)

div_none : (d : ℤ) (f g size : ℕ) → far f g ≡ d → f ≤ 32767 → g ≤ 32767 → 32767 < size → int_div d (pos size) ≡ pos 0
div_none (pos a) f g size e fl gl lt = let h : a < size = positive_less f g a size e fl lt in div_none_pos a size h
  where
    positive_less : (f g a size : ℕ) → far f g ≡ pos a → f ≤ 32767 → 32767 < size → a < size
    positive_less f g a size e fl lt = omega (arith, ints)
div_none (negsuc a) f g size e fl gl lt = let h : suc a < size = negative_less f g a size e gl lt in ap (λ t. neg_ℤ (pos t)) (div-eq_of_lt h)
  where
    negative_less : (f g a size : ℕ) → far f g ≡ negsuc a → g ≤ 32767 → 32767 < size → suc a < size
    negative_less f g a size e gl lt = omega (arith, ints)

divides_well : (d : ℤ) (size : ℕ) → 1 ≤ size → divides_badly int.Int d (pos size) ≡ false
divides_well d size some =
    let first : int_eq (pos size) (pos 0) ≡ false = not_zero size some in
    let second : int_eq (pos size) (negsuc 0) ≡ false = not_below size in
    rw first (and_false _ (int_eq (pos size) (negsuc 0)) second)
  where
    not_zero : (n : ℕ) → 1 ≤ n → int_eq (pos n) (pos 0) ≡ false
    not_zero n le = grind (ints, arith, common_steps)

    not_below : (n : ℕ) → int_eq (pos n) (negsuc 0) ≡ false
    not_below n = grind (ints, arith, common_steps)

-- bytes that are set are those of a number
set_there : (z : Scene) (n b v : ℕ) (m : Memory) → v ≤ 32767 → HasDatum z n b (datum.Number (sint (pos v))) (with_bytes m (Frame n b) 2 (λ i. bytes.Number (byte_at v i)))
set_there z n b v m le i lt =
    bytes_there m n b 2 (λ j. bytes.Number (byte_at v j)) i lt
    ∙ ap bytes.Number (byte_is v i (omega arith))
    ∙ ap (λ t. held z (values.Number (t / 256 ^ i % 256))) (sym (size_pattern v le))

subtracts : (e : Extent) (x y : core_bytes_place) → binary_value e ops.Sub int.UInt (core.Pointer x) (core.Pointer y) ≡ core.in_one_object x y (core.Number (cut_to int.UInt (pos x.offset -ℤ pos y.offset)))
unfolding binary_value
subtracts e x y = refl

module _ (z : Scene) (laws : SceneLaws z) (bounded : (o : object.Object) → IsThere z.program o → object_bytes z.program o ≤ 32767) where
  -- the distance of two places in one object, in bytes
  distance_then : (a : object.Object) (f g n b : ℕ) (T : Machine → Type 0) (s : List Waiting) (w : World Held) (due : is_due w ≡ false) (now : arrived (core_in z).outside w ≡ w) (r : List Task) (m : Memory) (c : Machine) (q l : ℕ) → IsPointer z.program (Into a f) → IsPointer z.program (Into a g) → b + 4 ≤ (core_in z).program.frame_bytes n → HasDatum z n b (datum.Pointer (Into a f)) m → HasDatum z n (b + 2) (datum.Pointer (Into a g)) m
      → Placed (core_in z) n None (Todo [] (code.Binary ops.Sub int.UInt (Frame n b) (Frame n b) (Frame n (b + 2))) ∷ r) s m w c
      → ((d : Machine) (m' : Memory) → OnlyAbove n b m m' → HasDatum z n b (datum.Number (sint (far f g))) m' → Placed (core_in z) n None r s m' w d → Comes (core_in z) T q l d) → Comes (core_in z) T (50 + q) l c
  unfolding fits_together
  distance_then a f g n b T s w due now r m c q l pf pg room hx hy p next =
      let o = offset_as z.program a in
      let X : core_bytes_place = record { object = object_as z.copies a; offset = o + f } in
      let Y : core_bytes_place = record { object = object_as z.copies a; offset = o + g } in
      let v = core.Number (cut_to int.UInt (far f g)) in
      let gives_it : (e : Extent) → binary_value e ops.Sub int.UInt (core.Pointer X) (core.Pointer Y) ≡ Some v =
      λ e. subtracts e X Y ∙ ap (λ t. if t then Some (core.Number (cut_to int.UInt (pos (o + f) -ℤ pos (o + g)))) else None) (core_object_same (object_as z.copies a)) ∙ ap (λ t. Some (core.Number (cut_to int.UInt t))) (far_is o f g) in
      let m' = with_bytes m (Frame n b) 2 (core.byte_of v) in
      binary_any_then (core_in z) T n s w due now ops.Sub int.UInt (Frame n b) (Frame n b) (Frame n (b + 2)) (core.Pointer X) (core.Pointer Y) v r m c q l 50
      (λ before. plain_fits ops.Sub 2 (number_left before (Frame n (b + 2))) n b tt) (λ count. refl) (own_frame (core_in z).program n b 2 (omega arith)) (own_frame (core_in z).program n (b + 2) 2 (omega arith))
      (pointer_value z n b a f m hx) (pointer_value z n (b + 2) a g m hy) (λ s' e. gives_it (extent (core_in z).program n s')) (own_frame (core_in z).program n b 2 (omega arith)) (λ count. omega arith) p
      (λ d pd. next d m' (above_written n b b 2 m (core.byte_of v) (omega arith))
      (λ i lt. bytes_there m n b 2 (core.byte_of v) i lt ∙ ap (λ t. held z (values.Number (t / 256 ^ i % 256))) (pattern_cut int.UInt (far f g) ∙ same_pattern (far f g))) pd)

  module _ (k : List Pending) (cp : CopyOf) (l : source.Memory) (w : World value.Byte) (around : Around z cp k) (due : is_due (arrived z.outside w) ≡ false) where
    abbrev n : ℕ
    n = number z cp

    abbrev b : ℕ
    b = base (ground_in z cp) k

    abbrev W : World Held
    W = world_as (held z) (arrived z.outside w)

    -- the number stands there, and all else is as it was
    lands : (q : Quantity) (m m' : Memory) (d : Machine) → Agrees z (active cp (Value (datum.Number q)) k) l m → Holds z (ground_in z cp) k m → OnlyAbove n b m m' → HasDatum z n b (datum.Number q) m' → Placed (core_in z) n None (code_after (ground_in z cp) k) (stack_after z (ground_in z cp) k) m' W d
        → Comes (core_in z) (Mirrors z (state cp (Value (datum.Number q)) k l (arrived z.outside w))) 0 0 d
    lands q m m' d agrees holds above h pd =
        arrive z cp (Value (datum.Number q)) k l w m' d pd
        (agrees_above z laws cp (active cp (Value (datum.Number q)) k) l m m' b around.reached (value_high z cp k around) above agrees)
        (holds_above z cp k m m' b around (omega arith) above holds)
        (if_datum z (wanted k) (ground_in z cp).copy b (datum.Number q) m' (subst (λ t. HasDatum z t b (datum.Number q) m') (sym (own_copy z cp)) h))

    module _ (a : object.Object) (f g size : ℕ) (resumables : Resumables cp.root k) (some : 1 ≤ size) (there : nat_eq size 1 ≡ false → (core_in z).program.helped n ops.Div int.Int ≡ true) (pf : IsPointer z.program (Into a f)) (pg : IsPointer z.program (Into a g)) (room : b + 4 ≤ (core_in z).program.frame_bytes n) where
      abbrev answer : Quantity
      answer = cut_to int.Int (int_div (far f g) (pos size))

      abbrev T : Machine → Type 0
      T = Mirrors z (state cp (Value (datum.Number answer)) k l (arrived z.outside w))

      row_then : (huge one : Bool) (c : Machine) → nat_lt 32767 size ≡ huge → nat_eq size 1 ≡ one → Agrees z (active cp (Value (datum.Number answer)) k) l c.memory → Holds z (ground_in z cp) k c.memory → HasDatum z n b (datum.Pointer (Into a f)) c.memory → HasDatum z n (b + 2) (datum.Pointer (Into a g)) c.memory
          → Placed (core_in z) n None (todo (difference_row (Frame n b) size) (code_after (ground_in z cp) k)) (stack_after z (ground_in z cp) k) c.memory W c → Comes (core_in z) T 2250 0 c
      row_then true one c huge_is one_is agrees holds hx hy p =
          let small = laws.small n in
          let large = lt_of 32767 size huge_is in
          let fl = bounded a pf.0 in
          let fe = pf.1 in
          let ge = pg.1 in
          let range = far_range f g (omega arith) (omega arith) in
          let none : answer ≡ sint (pos 0) = ap (cut_to int.Int) (div_none (far f g) f g size refl (omega arith) (omega arith) large) ∙ ap (λ t. record { ty = int.Int; number = t }) (unchanged int.Int (pos 0) (size_range 0 (omega arith))) in
          let m' = with_bytes c.memory (Frame n b) 2 (λ i. bytes.Number (byte_at 0 i)) in
          comes_within (core_in z) T (4 * 2 + 0) 0 2250 0 c
          (sets_then (core_in z) T n None (stack_after z (ground_in z cp) k) W (due_below z (arrived z.outside w) due) (again_below z w) 2 b 0 (code_after (ground_in z cp) k) c.memory c 0 0 (omega arith) (omega arith)
          (subst (λ t. Placed (core_in z) n None t (stack_after z (ground_in z cp) k) c.memory W c) (ap (λ t. todo (if t then sets (Frame n b) 0 2 else (operator ops.Sub int.UInt (Frame n b) (lower.behind (Frame n b) 2) ∷ [] ++ quotient_row (Frame n b) size)) (code_after (ground_in z cp) k)) huge_is) p)
          (λ d pd. lands answer c.memory m' d agrees holds (above_written n b b 2 c.memory (λ i. bytes.Number (byte_at 0 i)) (omega arith)) (subst (λ t. HasDatum z n b (datum.Number t) m') (sym none) (set_there z n b 0 c.memory (omega arith))) pd))
          (omega arith) (omega arith)
      row_then false true c huge_is one_is agrees holds hx hy p =
          let small = laws.small n in
          let fl = bounded a pf.0 in
          let fe = pf.1 in
          let ge = pg.1 in
          let range = far_range f g (omega arith) (omega arith) in
          let second : beyond b 2 ≡ b + 2 = beyond_is b 2 (omega arith) in
          let one = same_nat size 1 one_is in
          let is : answer ≡ sint (far f g) = ap (λ t. cut_to int.Int (int_div (far f g) (pos t))) one ∙ ap (cut_to int.Int) (div_one (far f g)) ∙ ap (λ t. record { ty = int.Int; number = t }) (unchanged int.Int (far f g) range) in
          let now : todo (difference_row (Frame n b) size) (code_after (ground_in z cp) k) ≡ Todo [] (code.Binary ops.Sub int.UInt (Frame n b) (Frame n b) (Frame n (b + 2))) ∷ code_after (ground_in z cp) k =
          ap (λ t. todo (if t then sets (Frame n b) 0 2 else (operator ops.Sub int.UInt (Frame n b) (lower.behind (Frame n b) 2) ∷ [] ++ quotient_row (Frame n b) size)) (code_after (ground_in z cp) k)) huge_is
          ∙ ap (λ t. todo (operator ops.Sub int.UInt (Frame n b) (lower.behind (Frame n b) 2) ∷ [] ++ (if t then [] else (sets (lower.behind (Frame n b) 2) size 2 ++ operator ops.Div int.Int (Frame n b) (lower.behind (Frame n b) 2) ∷ []))) (code_after (ground_in z cp) k)) one_is
          ∙ ap (λ t. Todo [] (code.Binary ops.Sub int.UInt (Frame n b) (Frame n b) (Frame n t)) ∷ code_after (ground_in z cp) k) second in
          comes_within (core_in z) T (50 + 0) 0 2250 0 c
          (distance_then a f g n b T (stack_after z (ground_in z cp) k) W (due_below z (arrived z.outside w) due) (again_below z w) (code_after (ground_in z cp) k) c.memory c 0 0 pf pg room hx hy
          (subst (λ t. Placed (core_in z) n None t (stack_after z (ground_in z cp) k) c.memory W c) now p)
          (λ d m' above h pd. lands answer c.memory m' d agrees holds above (subst (λ t. HasDatum z n b (datum.Number t) m') (sym is) h) pd))
          (omega arith) (omega arith)
      row_then false false c huge_is one_is agrees holds hx hy p =
          let small = laws.small n in
          let few = not_less 32767 size huge_is in
          let fl = bounded a pf.0 in
          let fe = pf.1 in
          let ge = pg.1 in
          let range = far_range f g (omega arith) (omega arith) in
          let second : beyond b 2 ≡ b + 2 = beyond_is b 2 (omega arith) in
          let r = code_after (ground_in z cp) k in
          let s = stack_after z (ground_in z cp) k in
          let D = Todo [] (code.Binary ops.Div int.Int (Frame n b) (Frame n b) (Frame n (b + 2))) ∷ r in
          let bits_are = λ (i : ℕ). bytes.Number (byte_at size i) in
          let now : todo (difference_row (Frame n b) size) r ≡ Todo [] (code.Binary ops.Sub int.UInt (Frame n b) (Frame n b) (Frame n (b + 2))) ∷ todo (sets (Frame n (b + 2)) size 2) D =
          ap (λ t. todo (if t then sets (Frame n b) 0 2 else (operator ops.Sub int.UInt (Frame n b) (lower.behind (Frame n b) 2) ∷ [] ++ quotient_row (Frame n b) size)) r) huge_is
          ∙ ap (λ t. todo (operator ops.Sub int.UInt (Frame n b) (lower.behind (Frame n b) 2) ∷ [] ++ (if t then [] else (sets (lower.behind (Frame n b) 2) size 2 ++ operator ops.Div int.Int (Frame n b) (lower.behind (Frame n b) 2) ∷ []))) r) one_is
          ∙ ap (λ t. Todo [] (code.Binary ops.Sub int.UInt (Frame n b) (Frame n b) (Frame n t)) ∷ todo (sets (Frame n t) size 2 ++ operator ops.Div int.Int (Frame n b) (Frame n t) ∷ []) r) second
          ∙ ap (λ t. Todo [] (code.Binary ops.Sub int.UInt (Frame n b) (Frame n b) (Frame n (b + 2))) ∷ t) (todo_join (sets (Frame n (b + 2)) size 2) (operator ops.Div int.Int (Frame n b) (Frame n (b + 2)) ∷ []) r) in
          let outcome_is : outcome ops.Div (sint (far f g)) (sint (pos size)) ≡ Some answer = ap (λ t. if t then None else Some answer) (divides_well (far f g) size some) in
          let cut_size : sint (pos size) ≡ sint (pos size) = refl in
          comes_within (core_in z) T (50 + (4 * 2 + (2138 + 0))) 0 2250 0 c
          (distance_then a f g n b T s W (due_below z (arrived z.outside w) due) (again_below z w) (todo (sets (Frame n (b + 2)) size 2) D) c.memory c (4 * 2 + (2138 + 0)) 0 pf pg room hx hy
          (subst (λ t. Placed (core_in z) n None t s c.memory W c) now p)
          (λ d1 m1 above1 h1 p1. sets_then (core_in z) T n None s W (due_below z (arrived z.outside w) due) (again_below z w) 2 (b + 2) size D m1 d1 (2138 + 0) 0 (omega arith) (omega arith) p1
          (λ d2 p2.
          let m2 = with_bytes m1 (Frame n (b + 2)) 2 bits_are in
          let above2 : OnlyAbove n b c.memory m2 = above_then n b c.memory m1 m2 above1 (above_written n b (b + 2) 2 m1 bits_are (omega arith)) in
          let hd : HasDatum z n b (datum.Number (sint (far f g))) m2 = λ i lt. bytes_clear m1 n (b + 2) 2 bits_are (Frame n (b + i)) (inr (inl (omega arith))) ∙ h1 i lt in
          let hs : HasDatum z n (b + 2) (datum.Number (sint (pos size))) m2 = set_there z n (b + 2) size m1 few in
          helped_then z (core_in z) T n s W (due_below z (arrived z.outside w) due) (again_below z w) ops.Div int.Int b (b + 2) (sint (far f g)) (sint (pos size)) answer r m2 d2 0 0 tt refl (omega arith) (there one_is) (omega arith) (omega arith) (omega arith)
          (value_number z n b (sint (far f g)) m2 range hd) (value_number z n (b + 2) (sint (pos size)) m2 (size_range size few) hs) outcome_is p2
          (λ helped d3 p3.
          let root = (core_in z).program.root n in
          let m3 = spoiled helped root m2 in
          let m4 = with_bytes m3 (Frame n b) 2 (core.byte_of (core.Number answer)) in
          lands answer m3 m4 d3
          (agrees_same z (active cp (Value (datum.Number answer)) k) l m2 m3 (λ o t th lt. spoiled_object z helped root m2 o t) (agrees_above z laws cp (active cp (Value (datum.Number answer)) k) l c.memory m2 b around.reached (value_high z cp k around) above2 agrees))
          (holds_frames z cp.root cp k m2 m3 resumables (λ i t. spoiled_frame helped root m2 i t) (spoiled_others helped root cp.root m2 (laws.roots cp around.reached)) (holds_above z cp k c.memory m2 b around (omega arith) above2 holds))
          (above_written n b b 2 m3 (core.byte_of (core.Number answer)) (omega arith)) (λ i lt. bytes_there m3 n b 2 (core.byte_of (core.Number answer)) i lt) p3))))
          (omega arith) (omega arith)

  same_case : (one : Bool) (a c_a : object.Object) (f g size : ℕ) (left right : Expression) (line : ℕ) (k : List Pending) (cp : CopyOf) (l : source.Memory) (w : World value.Byte) (c : Machine) → same_object a c_a ≡ one → Around z cp k → Resumables cp.root k → 1 ≤ size → (nat_eq size 1 ≡ false → (core_in z).program.helped (number z cp) ops.Div int.Int ≡ true) → IsPointer z.program (Into a f) → IsPointer z.program (Into c_a g)
      → base (ground_in z cp) k + 4 ≤ (core_in z).program.frame_bytes (number z cp) → is_due (arrived z.outside w) ≡ false
      → Mirrors z (state cp (Value (datum.Pointer (Into c_a g))) (In (tree.Difference left right size line) (One (datum.Pointer (Into a f))) ∷ k) l w) c
      → Follow z 2250 0 c (answered (if one then answers.Gives (datum.Number (cut_to int.Int (int_div (far f g) (pos size)))) else answers.Fails Order) line k cp l (arrived z.outside w))
  unfolding active
  same_case false a c_a f g size left right line k cp l w c one around resumables some there pf pg room due h = tt
  same_case true a c_a f g size left right line k cp l w c one around resumables some there pf pg room due h =
      let e = tree.Difference left right size line in
      let n1 = number z cp in
      let g1 = ground_in z cp in
      let b1 = base g1 k in
      let small = laws.small n1 in
      let same = object_is a c_a one in
      let second : beyond b1 2 ≡ b1 + 2 = beyond_is b1 2 (omega arith) in
      let hx : HasDatum z n1 b1 (datum.Pointer (Into a f)) c.memory = subst (λ t. HasDatum z t b1 (datum.Pointer (Into a f)) c.memory) (own_copy z cp) h.holds.0 in
      let hy : HasDatum z n1 (b1 + 2) (datum.Pointer (Into a g)) c.memory = subst (λ t. HasDatum z n1 (b1 + 2) (datum.Pointer (Into t g)) c.memory) (sym same) (subst (λ t. HasDatum z n1 t (datum.Pointer (Into c_a g)) c.memory) second (subst (λ t. HasDatum z t (beyond b1 2) (datum.Pointer (Into c_a g)) c.memory) (own_copy z cp) h.value)) in
      row_then k cp l w around due a f g size resumables some there pf (subst (λ t. IsPointer z.program (Into t g)) (sym same) pg) room (nat_lt 32767 size) (nat_eq size 1) c refl refl h.agrees h.holds.1 hx hy
      (subst (λ t. Placed (core_in z) n1 None t (stack_after z g1 k) c.memory (world_as (held z) (arrived z.outside w)) c) (ap (λ t. todo (difference_row (Frame t b1) size) (code_after g1 k)) (own_copy z cp))
      (placed_of z (state cp (Value (datum.Pointer (Into c_a g))) (In e (One (datum.Pointer (Into a f))) ∷ k) l w) c h))

  -- A pointer is taken from one that stands there. Where an element has more than one byte the distance is divided.
  pub difference_given : (x y : Pointer) (size : ℕ) (left right : Expression) (line : ℕ) (k : List Pending) (cp : CopyOf) (l : source.Memory) (w : World value.Byte) (c : Machine) → Around z cp k → Resumables cp.root k → 1 ≤ size → (nat_eq size 1 ≡ false → (core_in z).program.helped (number z cp) ops.Div int.Int ≡ true) → IsPointer z.program x → IsPointer z.program y
      → base (ground_in z cp) k + 4 ≤ (core_in z).program.frame_bytes (number z cp) → is_due (arrived z.outside w) ≡ false
      → Mirrors z (state cp (Value (datum.Pointer y)) (In (tree.Difference left right size line) (One (datum.Pointer x)) ∷ k) l w) c
      → Follow z 2250 0 c (take_in (source_in z) (tree.Difference left right size line) (One (datum.Pointer x)) (datum.Pointer y) k cp l (arrived z.outside w))
  unfolding difference_answer
  difference_given Null y size left right line k cp l w c around resumables some there px py room due h = tt
  difference_given (Into a f) Null size left right line k cp l w c around resumables some there px py room due h = tt
  difference_given (Into a f) (Into c_a g) size left right line k cp l w c around resumables some there px py room due h = same_case (same_object a c_a) a c_a f g size left right line k cp l w c refl around resumables some there px py room due h
