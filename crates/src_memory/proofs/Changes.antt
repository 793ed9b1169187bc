-- A memory whose objects change, as a memory of the definitions; and what stays of it.
use Rattle.std.proofs.Common.{◌≡◌, ◌≢◌, ℕ, zero, suc, Bool, true, false, ◌&&◌, nat_eq, nat_lt, if◌then◌else◌, ◌<◌, ◌≤◌, ◌%◌, refl, sym, ap, subst, ◌∙◌, arith}
use Rattle.std.proofs.lemmas.List.{length-set}
use Rattle.std.specs.Prelude.{slice_get, slice_set}
use Rattle.c_typed.specs.Trees.{Program}
use Rattle.pic_map.specs.MapContent.{MapContent}
use Rattle.src_memory.specs.Cells.{Cell, cell_in, put_cell, put_first, cleared_cell, byte_at, byte_or, memory_in, size_of, with_value}
use Rattle.src_memory.specs.Shape.{IsAlike, IsShaped}
use Rattle.src_memory.specs.declared.memory.Memory.{Memory}
use Rattle.src_memory.proofs.Cells.{alike, byte_cleared, get_set_same, get_set_other}
use Rattle.src_memory.proofs.Tests.{by_eq, by_lt, eq_no, lt_yes, lt_no}
use Rattle.src_values.specs.Data.{Datum}
use Rattle.src_values.specs.Memory as spec
use Rattle.src_values.specs.Memory.{cleared, fresh, is_of, with_byte}
use Rattle.src_values.specs.Objects.{same_object}
use Rattle.src_values.specs.Values.{byte_count, byte_of}
use Rattle.src_values.specs.declared.objects.Byte.{Byte}
use Rattle.src_values.specs.declared.objects.CopyOf.{CopyOf}
use Rattle.src_values.specs.declared.objects.Object.{Object}

pub same_memory : (m n : spec.Memory) → ((o : Object) (at : ℕ) → m o at ≡ n o at) → m ≡ n
same_memory m n p = λ i o at. p o at i

-- ---- no byte has a value any longer
pub clears : (old new : Memory) (object : Object) → ((o : Object) → cell_in new o ≡ if same_object o object then cleared_cell (cell_in old o) else cell_in old o) → memory_in new ≡ cleared (memory_in old) object
unfolding memory_in
clears old new object h = same_memory (memory_in new) (cleared (memory_in old) object) (λ o at. ap (λ c. byte_at c at) (h o) ∙ byte_cleared (same_object o object) (cell_in old o) at)

pub freshens : (old new : Memory) (copy : CopyOf) → ((o : Object) → cell_in new o ≡ if is_of copy o then cleared_cell (cell_in old o) else cell_in old o) → memory_in new ≡ fresh (memory_in old) copy
unfolding memory_in
freshens old new copy h = same_memory (memory_in new) (fresh (memory_in old) copy) (λ o at. ap (λ c. byte_at c at) (h o) ∙ byte_cleared (is_of copy o) (cell_in old o) at)

-- ---- what stays
pub stays : (f : Cell → Cell) → ((c : Cell) → IsAlike (f c) c) → (test : Object → Bool) (old new : Memory) → ((o : Object) → cell_in new o ≡ if test o then f (cell_in old o) else cell_in old o) → (p : Program) (map : MapContent) → IsShaped p map old → IsShaped p map new
stays f a test old new h p map s =
    let same : (o : Object) → IsAlike (if test o then f (cell_in old o) else cell_in old o) (cell_in old o) = λ o. alike f a (test o) (cell_in old o) in
    record {
      small = s.small;
      size = λ o. ap size_of (h o) ∙ (same o).size ∙ s.size o;
      watched = λ o t. ap (λ (c : Cell). c.watched) (h o) ∙ (same o).watched ∙ s.watched o t;
      address = λ o t. ap (λ (c : Cell). c.address % 512) (h o) ∙ ap (λ n. n % 512) (same o).address ∙ s.address o t;
    }

-- ---- bytes are put
-- the byte of an object at a place, where one was put at a place that it has
pub byte_of_put : (c : Cell) (k at : ℕ) (b : Byte) → k < size_of c → byte_at (put_cell c k b) at ≡ if nat_eq at k then b else byte_at c at
byte_of_put c k at b h = by_eq at k b (byte_at c at) (byte_at (put_cell c k b) at)
    (λ e. ap (λ n. byte_or (slice_get (slice_set c.bytes k b) n)) e ∙ ap byte_or (get_set_same c.bytes k b h))
    (λ e. ap byte_or (get_set_other c.bytes k at b e))

pub puts : (old new : Memory) (object : Object) (offset : ℕ) (b : Byte) → offset < size_of (cell_in old object) → ((o : Object) → same_object o object ≡ true → o ≡ object) →
    ((o : Object) → cell_in new o ≡ if same_object o object then put_cell (cell_in old o) offset b else cell_in old o) → memory_in new ≡ with_byte (memory_in old) object offset b
unfolding memory_in
puts old new object offset b small one h = same_memory (memory_in new) (with_byte (memory_in old) object offset b)
    (λ o at. ap (λ c. byte_at c at) (h o) ∙ cases o at (same_object o object) refl)
  where
    cases : (o : Object) (at : ℕ) (t : Bool) → same_object o object ≡ t → byte_at (if t then put_cell (cell_in old o) offset b else cell_in old o) at ≡ if t && nat_eq at offset then b else byte_at (cell_in old o) at
    cases o at true e = byte_of_put (cell_in old o) offset at b (subst (λ x. offset < size_of (cell_in old x)) (sym (one o e)) small)
    cases o at false e = refl

pub first_size : (v : Datum) (n : ℕ) (c : Cell) → size_of (put_first v n c) ≡ size_of c
first_size v zero c = refl
first_size v (suc n) c = length-set (put_first v n c).bytes n (byte_of v n) ∙ first_size v n c

pub alike_first : (v : Datum) (n : ℕ) (c : Cell) → IsAlike (put_first v n c) c
alike_first v zero c = record { size = refl; address = refl; watched = refl }
alike_first v (suc n) c =
    let q = alike_first v n c in
    record { size = first_size v (suc n) c; address = q.address; watched = q.watched }

pub first_byte : (v : Datum) (n at : ℕ) (c : Cell) → n ≤ size_of c → byte_at (put_first v n c) at ≡ if nat_lt at n then byte_of v at else byte_at c at
first_byte v zero at c h = sym (lt_no at 0 (byte_of v at) (byte_at c at) (omega arith))
first_byte v (suc n) at c h =
    let s = first_size v n c in
    byte_of_put (put_first v n c) n at (byte_of v n) (omega arith) ∙
    by_lt at (suc n) (byte_of v at) (byte_at c at) (if nat_eq at n then byte_of v n else byte_at (put_first v n c) at)
    (λ l. sym (by_eq at n (byte_of v n) (byte_at (put_first v n c) at) (byte_of v at) (λ e. ap (byte_of v) e)
    (λ e. sym (first_byte v n at c (omega arith) ∙ lt_yes at n (byte_of v at) (byte_at c at) (less at n l e)))))
    (λ l. eq_no at n (byte_of v n) (byte_at (put_first v n c) at) (λ e. absurd (omega arith)) ∙ first_byte v n at c (omega arith) ∙ lt_no at n (byte_of v at) (byte_at c at) (omega arith))
  where
    less : (j m : ℕ) → j < suc m → j ≢ m → j < m
    less j m l e = omega arith

pub puts_value : (old new : Memory) (object : Object) (v : Datum) (n : ℕ) → n ≡ byte_count v → ((o : Object) → same_object o object ≡ true → o ≡ object) →
    ((o : Object) → cell_in new o ≡ if same_object o object then put_first v n (cell_in old o) else cell_in old o) →
    byte_count v ≤ size_of (cell_in old object) → memory_in new ≡ with_value (memory_in old) object v
unfolding memory_in
puts_value old new object v n q one h small = same_memory (memory_in new) (with_value (memory_in old) object v)
    (λ o at. ap (λ c. byte_at c at) (h o) ∙ ap (λ k. byte_at (if same_object o object then put_first v k (cell_in old o) else cell_in old o) at) q ∙ cases o at (same_object o object) refl)
  where
    cases : (o : Object) (at : ℕ) (t : Bool) → same_object o object ≡ t → byte_at (if t then put_first v (byte_count v) (cell_in old o) else cell_in old o) at ≡ if t && nat_lt at (byte_count v) then byte_of v at else byte_at (cell_in old o) at
    cases o at true e = first_byte v (byte_count v) at (cell_in old o) (subst (λ x. byte_count v ≤ size_of (cell_in old x)) (sym (one o e)) small)
    cases o at false e = refl
