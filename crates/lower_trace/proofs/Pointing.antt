-- What operations on pointers do, each in front of what follows it: a load and a store leave their bytes as tasks.
use Rattle.std.proofs.Common.{◌≡◌, ℕ, zero, suc, ◌+◌, true, false, nat_lt, List, [], ◌∷◌, Option, Some, refl, ap, ◌∙◌, arith}
use Rattle.pic_world.specs.World.{World, arrived, is_due}
use Rattle.core_code.specs.Bytes.{Object, Fixed, FrameOf, Held, Place, Memory, behind, byte_in, with_byte}
use Rattle.core_code.specs.Cost.{step_least, cost_of, one_if}
use Rattle.core_code.specs.Machine.{Setting, Machine, Task, Do, Put, LoadFrom, StoreTo, Waiting, act, operate, is_own, is_reached, may_hold, memory_with, after_write, held_at, after_read, loading, storing}
use Rattle.core_code.specs.Values.{pointer_in}
use Rattle.core_code.specs.Tree as code
use Rattle.core_code.specs.Tree.{Tree}
use Rattle.core_code.specs.declared.code.Byte.{Byte}
use Rattle.core_code.specs.declared.code.Byte.TheVariants.{Static, Frame}
use Rattle.lower_trace.proofs.CodeLeft.{plain, plain_behind}
use Rattle.lower_trace.proofs.Operations.{Comes, comes_here, comes_first, comes_free, comes_within, own_put}
use Rattle.lower_trace.proofs.Reading.{lt_true}
use Rattle.lower_trace.proofs.Placed.{Placed, front, other, operates, most_operates, does, most_does, least_does}

plain_loading : (to : Byte) (object : Object) (offset n : ℕ) (c : List Task) → plain (loading to object offset n c) ≡ loading to object offset n (plain c)
plain_loading to object offset zero c = refl
plain_loading to object offset (suc n) c = refl

plain_storing : (object : Object) (offset : ℕ) (from : Byte) (n : ℕ) (c : List Task) → plain (storing object offset from n c) ≡ storing object offset from n (plain c)
plain_storing object offset from zero c = refl
plain_storing object offset from (suc n) c = refl

module _ (g : Setting) (T : Machine → Type 0) (n : ℕ) (a : Option ℕ) (s : List Waiting) (w : World Held) (due : is_due w ≡ false) (again : arrived g.outside w ≡ w) where
  -- the pointer is read, and its bytes are left
  pub load_then : (to pointer : Byte) (count : ℕ) (x : Place) (r : List Task) (m : Memory) (c : Machine) (q l : ℕ) → is_own g.program n pointer 2 ≡ true → pointer_in m pointer ≡ Some x
      → Placed g n a (Do [] (code.Load to pointer count) ∷ r) s m w c → ((d : Machine) → Placed g n a (loading to x.object x.offset count r) s m w d → Comes g T q l d) → Comes g T (14 + q) l c
  unfolding operate cost_of
  load_then to pointer count x r m c q l own is p next =
      let t = code.Load to pointer count in
      let f = front c.code t r p.code in
      let d : Machine = record { copy = n; passing = a; code = loading to x.object x.offset count f.rest; stack = c.stack; memory = m; world = w } in
      let em = most_operates g n a (Do [] t ∷ r) s m w c p t r f due in
      comes_free g T q l 14 c d
      (operates g n a (Do [] t ∷ r) s m w c p t r f due ∙ rw (own, is) refl)
      (omega arith)
      (next d (record { copy = refl; passing = refl; code = plain_loading to x.object x.offset count f.rest ∙ ap (loading to x.object x.offset count) f.behind; stack = p.stack; memory = refl; world = again }))

  pub store_then : (pointer from : Byte) (count : ℕ) (x : Place) (r : List Task) (m : Memory) (c : Machine) (q l : ℕ) → is_own g.program n pointer 2 ≡ true → pointer_in m pointer ≡ Some x
      → Placed g n a (Do [] (code.Store pointer from count) ∷ r) s m w c → ((d : Machine) → Placed g n a (storing x.object x.offset from count r) s m w d → Comes g T q l d) → Comes g T (14 + q) l c
  unfolding operate cost_of
  store_then pointer from count x r m c q l own is p next =
      let t = code.Store pointer from count in
      let f = front c.code t r p.code in
      let d : Machine = record { copy = n; passing = a; code = storing x.object x.offset from count f.rest; stack = c.stack; memory = m; world = w } in
      let em = most_operates g n a (Do [] t ∷ r) s m w c p t r f due in
      comes_free g T q l 14 c d
      (operates g n a (Do [] t ∷ r) s m w c p t r f due ∙ rw (own, is) refl)
      (omega arith)
      (next d (record { copy = refl; passing = refl; code = plain_storing x.object x.offset from count f.rest ∙ ap (storing x.object x.offset from count) f.behind; stack = p.stack; memory = refl; world = again }))

  -- a byte of a frame is read and written at once
  pub load_frame_then : (to : Byte) (i offset left : ℕ) (r : List Task) (m : Memory) (c : Machine) (q l : ℕ) → is_own g.program n to 1 ≡ true → ((s' : List Waiting) → plain_behind s' ≡ s → is_reached g.program n s' (FrameOf i) offset ≡ true)
      → Placed g n a (LoadFrom to (FrameOf i) offset (suc left) ∷ r) s m w c → ((d : Machine) → Placed g n a (loading (behind to 1) (FrameOf i) (offset + 1) left r) s (with_byte m to (m (Frame i offset))) w d → Comes g T q l d) → Comes g T (6 + q) (1 + l) c
  unfolding act
  load_frame_then to i offset left r m c q l own reached p next =
      let x = LoadFrom to (FrameOf i) offset (suc left) in
      let f = other c.code x r tt p.code in
      let d : Machine = record { copy = n; passing = a; code = loading (behind to 1) (FrameOf i) (offset + 1) left f.rest; stack = c.stack; memory = with_byte m to (m (Frame i offset)); world = w } in
      let em = most_does g n a (x ∷ r) s m w c p x r f due in
      let positive : one_if (nat_lt 0 (suc left)) ≡ 1 = ap one_if (lt_true 0 (suc left) (omega arith)) in
      let el : step_least g c ≡ one_if (nat_lt 0 (suc left)) = least_does g n a (x ∷ r) s m w c p x r f due in
      let there = reached c.stack p.stack in
      comes_first g T q l 6 1 c d
      (does g n a (x ∷ r) s m w c p x r f due ∙ rw (own, there) (own_put g.program to (m (Frame i offset)) (loading (behind to 1) (FrameOf i) (offset + 1) left f.rest) n a c.stack m w own))
      (omega arith) (omega arith)
      (next d (record { copy = refl; passing = refl; code = plain_loading (behind to 1) (FrameOf i) (offset + 1) left f.rest ∙ ap (loading (behind to 1) (FrameOf i) (offset + 1) left) f.behind; stack = p.stack; memory = refl; world = again }))

  -- a byte of a static object is read, which is an event, and is written next
  pub load_static_then : (to : Byte) (i offset left : ℕ) (r : List Task) (m : Memory) (c : Machine) → is_own g.program n to 1 ≡ true → ((s' : List Waiting) → plain_behind s' ≡ s → is_reached g.program n s' (Fixed i) offset ≡ true)
      → Placed g n a (LoadFrom to (Fixed i) offset (suc left) ∷ r) s m w c → ((d : Machine) → Placed g n a (Put to (held_at g (Static i offset) m w) ∷ loading (behind to 1) (Fixed i) (offset + 1) left r) s m (arrived g.outside (after_read g (Static i offset) m w)) d → T d) → Comes g T 16 1 c
  unfolding act
  load_static_then to i offset left r m c own reached p next =
      let x = LoadFrom to (Fixed i) offset (suc left) in
      let f = other c.code x r tt p.code in
      let d : Machine = record { copy = n; passing = a; code = Put to (held_at g (Static i offset) m w) ∷ loading (behind to 1) (Fixed i) (offset + 1) left f.rest; stack = c.stack; memory = m; world = after_read g (Static i offset) m w } in
      let em = most_does g n a (x ∷ r) s m w c p x r f due in
      let positive : one_if (nat_lt 0 (suc left)) ≡ 1 = ap one_if (lt_true 0 (suc left) (omega arith)) in
      let el : step_least g c ≡ one_if (nat_lt 0 (suc left)) = least_does g n a (x ∷ r) s m w c p x r f due in
      let there = reached c.stack p.stack in
      comes_within g T (16 + 0) (1 + 0) 16 1 c
      (comes_first g T 0 0 16 1 c d
      (does g n a (x ∷ r) s m w c p x r f due ∙ rw (own, there) refl)
      (omega arith) (omega arith)
      (comes_here g T d (next d (record { copy = refl; passing = refl; code = ap (λ y. Put to (held_at g (Static i offset) m w) ∷ y) (plain_loading (behind to 1) (Fixed i) (offset + 1) left f.rest ∙ ap (loading (behind to 1) (Fixed i) (offset + 1) left) f.behind); stack = p.stack; memory = refl; world = refl }))))
      (omega arith) (omega arith)

  -- a byte is written where a pointer leads, which may be an event
  pub store_byte_then : (object : Object) (offset : ℕ) (from : Byte) (left : ℕ) (r : List Task) (m : Memory) (c : Machine) → is_own g.program n from 1 ≡ true → ((s' : List Waiting) → plain_behind s' ≡ s → is_reached g.program n s' object offset ≡ true) → may_hold g.program (byte_in object offset) (m from) w ≡ true
      → Placed g n a (StoreTo object offset from (suc left) ∷ r) s m w c → ((d : Machine) → Placed g n a (storing object (offset + 1) (behind from 1) left r) s (memory_with (byte_in object offset) (m from) m) (arrived g.outside (after_write (byte_in object offset) (m from) w)) d → T d) → Comes g T 6 1 c
  unfolding act
  store_byte_then object offset from left r m c own reached may p next =
      let x = StoreTo object offset from (suc left) in
      let f = other c.code x r tt p.code in
      let d : Machine = record { copy = n; passing = a; code = storing object (offset + 1) (behind from 1) left f.rest; stack = c.stack; memory = memory_with (byte_in object offset) (m from) m; world = after_write (byte_in object offset) (m from) w } in
      let em = most_does g n a (x ∷ r) s m w c p x r f due in
      let positive : one_if (nat_lt 0 (suc left)) ≡ 1 = ap one_if (lt_true 0 (suc left) (omega arith)) in
      let el : step_least g c ≡ one_if (nat_lt 0 (suc left)) = least_does g n a (x ∷ r) s m w c p x r f due in
      let there = reached c.stack p.stack in
      comes_within g T (6 + 0) (1 + 0) 6 1 c
      (comes_first g T 0 0 6 1 c d
      (does g n a (x ∷ r) s m w c p x r f due ∙ rw (own, there, may) refl)
      (omega arith) (omega arith)
      (comes_here g T d (next d (record { copy = refl; passing = refl; code = plain_storing object (offset + 1) (behind from 1) left f.rest ∙ ap (storing object (offset + 1) (behind from 1) left) f.behind; stack = p.stack; memory = refl; world = refl }))))
      (omega arith) (omega arith)
