-- A step of byte code asks of the outside its input, and its schedule at the length of the trace alone; and traces only grow.
use Rattle.std.proofs.Common.{◌≡◌, ℕ, zero, suc, ◌+◌, Bool, true, false, ◌&&◌, List, [], ◌∷◌, length, Option, Some, None, refl, ap, ◌∙◌}
use Rattle.std.specs.Prelude.{nat_lt, ◌%◌, if◌then◌else◌}
use Rattle.c_ints.specs.Range.{bytes_of}
use Rattle.pic_world.specs.Bits.{bit}
use Rattle.pic_world.specs.Control.{raised_by, is_stored, with_stored}
use Rattle.pic_world.specs.World.{World, Schedule, Happening, arrived, is_due, entered, left, noted, device_value, after_device_read, after_device_write, input_used, value_kept}
use Rattle.core_code.specs.Bytes.{Object, Held, Place, Memory, Number, byte_in, behind, is_private, with_byte, with_bytes, without_frame}
use Rattle.core_code.specs.Cost.{step_most, step_least, context_cost, task_most, least_task}
use Rattle.core_code.specs.Machine as core
use Rattle.core_code.specs.Machine.{Program, Setting, Machine, Next, Goes, Stuck, Still, Task, Do, Put, PutBit, PutBack, Join, LoadFrom, StoreTo, Reading, Over, Waiting, InLoop, InCall, InHandler, goes, when, gone, core_step, core_step_at, act, operate, enter, copy, load_from, store_to, bit_read, bit_write, held_at, after_read, after_write, noting_if, put, written, passed, pass, writes, called, chosen, exit, again, leave, at_end, has_read, load, store}
use Rattle.core_code.specs.Tree as tree
use Rattle.core_code.specs.Tree.{Tree}
use Rattle.core_code.specs.Values.{Value, byte_count, byte_of, value_in, converted}
use Rattle.core_code.specs.declared.code.Byte.{Byte}
use Rattle.core_code.specs.declared.code.Byte.TheVariants.{Static, Frame, Result, Device}
use Rattle.kept_trace.specs.Filtering.{Grows}
use Rattle.kept_trace.proofs.Filtering.{grows_none, grows_on}

module _ (q : Program) (input : List ℕ) (f g : Schedule) where
  abbrev one : Setting
  one = record { program = q; outside = record { input = input; schedule = f } }

  abbrev other : Setting
  other = record { program = q; outside = record { input = input; schedule = g } }

  held_same : (b : Byte) (m : Memory) (w : World Held) → held_at one b m w ≡ held_at other b m w
  unfolding held_at device_value
  held_same (Static n offset) m w = refl
  held_same (Frame c offset) m w = refl
  held_same (Result r k) m w = refl
  held_same (Device address) m w = refl

  read_same : (b : Byte) (m : Memory) (w : World Held) → after_read one b m w ≡ after_read other b m w
  unfolding after_read after_device_read device_value
  read_same (Static n offset) m w = refl
  read_same (Frame c offset) m w = refl
  read_same (Result r k) m w = refl
  read_same (Device address) m w = refl

  module _ (p : ℕ) (a : Option ℕ) (s : List Waiting) (m : Memory) (w : World Held) where
    copy_same : (to from : Byte) (c : List Task) → copy one to from c p a s m w ≡ copy other to from c p a s m w
    copy_same to from c =
        ap (λ (v : World Held). if is_private from then put q to (m from) c p a s m w else goes (Put to (held_at one from m w) ∷ c) p a s m v) (read_same from m w)
        ∙ ap (λ (h : Held). if is_private from then put q to (m from) c p a s m w else goes (Put to h ∷ c) p a s m (after_read other from m w)) (held_same from m w)

    load_same : (to : Byte) (object : Object) (offset n : ℕ) (c : List Task) → load_from one to object offset n c p a s m w ≡ load_from other to object offset n c p a s m w
    load_same to object offset zero c = refl
    load_same to object offset (suc n) c = ap (when _) (copy_same to (byte_in object offset) (core.loading (behind to 1) object (offset + 1) n c))

    store_same : (object : Object) (offset : ℕ) (from : Byte) (n : ℕ) (c : List Task) → store_to one object offset from n c p a s m w ≡ store_to other object offset from n c p a s m w
    store_same object offset from zero c = refl
    store_same object offset from (suc n) c = refl

    bit_read_same : (to : Byte) (register number : ℕ) (c : List Task) → bit_read one to register number c p a s m w ≡ bit_read other to register number c p a s m w
    unfolding after_read after_device_read device_value
    bit_read_same to register number c = refl

    bit_write_same : (register number : ℕ) (h : Held) (c : List Task) → bit_write one register number h c p a s m w ≡ bit_write other register number h c p a s m w
    unfolding after_read after_device_read device_value
    bit_write_same register number (Number n) c = refl
    bit_write_same register number _ c = refl

    operate_same : (before : List Tree) (t : Tree) (c : List Task) → operate one before t c p a s m w ≡ operate other before t c p a s m w
    unfolding operate
    operate_same before (tree.Set to value) c = refl
    operate_same before (tree.Address to place) c = refl
    operate_same before (tree.Copy to from) c = ap (when _) (copy_same to from c)
    operate_same before (tree.Load to pointer count) c = refl
    operate_same before (tree.Store pointer from count) c = refl
    operate_same before (tree.Unary op ty at) c = refl
    operate_same before (tree.Binary op ty to x y) c = refl
    operate_same before (tree.Convert from to at) c = refl
    operate_same before (tree.BitRead to register number) c = bit_read_same to register number c
    operate_same before (tree.BitWrite register number from) c = ap (when _) (bit_write_same register number (m from) c)
    operate_same before (tree.Call callee) c = refl
    operate_same before tree.Leave c = refl
    operate_same before (tree.Many ts) c = refl
    operate_same before (tree.If test size first second) c = refl
    operate_same before (tree.Loop body) c = refl
    operate_same before (tree.Exit loops) c = refl
    operate_same before (tree.Again loops) c = refl

    act_same : (c : List Task) → act one c p a s m w ≡ act other c p a s m w
    unfolding act
    act_same [] = refl
    act_same (Do before t ∷ c) = operate_same before t c
    act_same (Put to held ∷ c) = refl
    act_same (PutBit to value ∷ c) = refl
    act_same (PutBack register value ∷ c) = refl
    act_same (Join ∷ c) = refl
    act_same (LoadFrom to object offset n ∷ c) = load_same to object offset n c
    act_same (StoreTo object offset from n ∷ c) = store_same object offset from n c
    act_same (Reading bytes ∷ c) = refl
    act_same (Over ∷ c) = refl

    step_at_same : (c : List Task) → core_step_at one c p a s m w ≡ core_step_at other c p a s m w
    step_at_same c = ap (λ (n : Next). if is_due w then enter q q.handler c p a s m w else n) (act_same c)

  module _ (t : Machine) (same : f (length t.world.trace) ≡ g (length t.world.trace)) where
    arrived_same : arrived one.outside t.world ≡ arrived other.outside t.world
    unfolding arrived
    arrived_same = ap (λ (mask : ℕ). record t.world { control = raised_by mask t.world.control }) same

    pub code_step_same : core_step one t ≡ core_step other t
    unfolding core_step
    code_step_same = ap (λ (w : World Held). core_step_at one t.code t.copy t.passing t.stack t.memory w) arrived_same ∙ step_at_same t.copy t.passing t.stack t.memory (arrived other.outside t.world) t.code

    pub most_same : step_most one t ≡ step_most other t
    unfolding step_most
    most_same = ap (λ (w : World Held). if is_due w then context_cost else task_most t.code t.stack) arrived_same

    pub least_same : step_least one t ≡ step_least other t
    unfolding step_least
    least_same = ap (λ (w : World Held). if is_due w then 1 else least_task q t.code t.stack) arrived_same

-- ---- traces only grow
one_more : (e : Happening Held) (w : World Held) → Grows w.trace (noted e w).trace
one_more e w = (e ∷ [], refl)

abbrev Grown : World Held → Next → Type 0
Grown w (Goes t) = Grows w.trace t.world.trace
Grown w Stuck = Unit {0}
Grown w Still = Unit {0}

record GrowsTo (w : World Held) (n : Next) : Type 0 where
  pub is : Grown w n

when_grows : (b : Bool) (w : World Held) (n : Next) → GrowsTo w n → GrowsTo w (when b n)
when_grows true w n g = g
when_grows false w n g = record { is = tt }

either_grows : (b : Bool) (w : World Held) (n k : Next) → GrowsTo w n → GrowsTo w k → GrowsTo w (if b then n else k)
either_grows true w n k g h = g
either_grows false w n k g h = h

noting_grows : (b : Bool) (e : Happening Held) (w : World Held) → Grows w.trace (noting_if b e w).trace
noting_grows true e w = one_more e w
noting_grows false e w = grows_none w.trace

used_grows : (address : ℕ) (w : World Held) → Grows w.trace (input_used address w).trace
used_grows address w = by (is_stored address)
  where
    by : (b : Bool) → Grows w.trace (if b then w else record w { taken = w.taken + 1 }).trace
    by true = grows_none w.trace
    by false = grows_none w.trace

kept_grows : (address value : ℕ) (w : World Held) → Grows w.trace (value_kept address value w).trace
kept_grows address value w = by (is_stored address)
  where
    by : (b : Bool) → Grows w.trace (if b then record w { control = with_stored address value w.control } else w).trace
    by true = grows_none w.trace
    by false = grows_none w.trace

module _ (g : Setting) where
  read_grows : (b : Byte) (m : Memory) (w : World Held) → Grows w.trace (after_read g b m w).trace
  unfolding after_read after_device_read
  read_grows (Static n offset) m w = noting_grows (g.program.is_watched n) _ w
  read_grows (Frame c offset) m w = grows_none w.trace
  read_grows (Result r k) m w = grows_none w.trace
  read_grows (Device address) m w = grows_on w.trace (input_used address w).trace _ (used_grows address w) (one_more _ (input_used address w))

  write_grows : (b : Byte) (held : Held) (w : World Held) → Grows w.trace (after_write b held w).trace
  unfolding after_write after_device_write
  write_grows (Static n offset) held w = one_more _ w
  write_grows (Frame c offset) held w = grows_none w.trace
  write_grows (Result r k) held w = grows_none w.trace
  write_grows (Device address) held w = grows_on w.trace (value_kept address (core.number_held held) w).trace _ (kept_grows address (core.number_held held) w) (one_more _ (value_kept address (core.number_held held) w))

  module _ (p : ℕ) (a : Option ℕ) (s : List Waiting) (m : Memory) (w : World Held) where
    stays : (c : List Task) (n : Memory) → GrowsTo w (goes c p a s n w)
    stays c n = record { is = grows_none w.trace }

    written_grows : (to : Byte) (held : Held) (c : List Task) → GrowsTo w (written g.program to held c p a s m w)
    written_grows to held c = when_grows (core.may_hold g.program to held w) w _ (record { is = write_grows to held w })

    pass_grows : (callee offset : ℕ) (held : Held) (c : List Task) → GrowsTo w (pass g.program callee offset held c p a s m w)
    pass_grows callee offset held c =
        when_grows (core.may_call g.program p a callee && nat_lt offset (g.program.parameter_bytes callee) && nat_lt offset (g.program.frame_bytes callee)) w
        (goes c p (Some callee) s (with_byte (core.opened a callee m) (Frame callee offset) held) w) (record { is = grows_none w.trace })

    passed_grows : (to : Byte) (held : Held) (c : List Task) → GrowsTo w (passed g.program to held c p a s m w)
    passed_grows (Frame callee offset) held c = pass_grows callee offset held c
    passed_grows (Static n offset) held c = record { is = tt }
    passed_grows (Result r k) held c = record { is = tt }
    passed_grows (Device address) held c = record { is = tt }

    put_grows : (to : Byte) (held : Held) (c : List Task) → GrowsTo w (put g.program to held c p a s m w)
    unfolding put
    put_grows to held c = either_grows (core.is_others p to) w _ _ (passed_grows to held c) (when_grows (core.is_valid g.program p to) w _ (written_grows to held c))

    copy_grows : (to from : Byte) (c : List Task) → GrowsTo w (copy g to from c p a s m w)
    copy_grows to from c = either_grows (is_private from) w _ _ (put_grows to (m from) c) (record { is = read_grows from m w })

    writes_grows : (to : Byte) (v : Option Value) (c : List Task) (n : Memory) → GrowsTo w (writes g.program to v c p a s n w)
    writes_grows to None c n = record { is = tt }
    writes_grows to (Some v) c n = when_grows (core.is_own g.program p to (byte_count v)) w (goes c p a s (with_bytes n to (byte_count v) (byte_of v)) w) (record { is = grows_none w.trace })

    load_grows : (to : Byte) (x : Option Place) (count : ℕ) (c : List Task) → GrowsTo w (load to x count c p a s m w)
    load_grows to None count c = record { is = tt }
    load_grows to (Some x) count c = record { is = grows_none w.trace }

    store_grows : (x : Option Place) (from : Byte) (count : ℕ) (c : List Task) → GrowsTo w (store x from count c p a s m w)
    store_grows None from count c = record { is = tt }
    store_grows (Some x) from count c = record { is = grows_none w.trace }

    load_from_grows : (to : Byte) (object : Object) (offset n : ℕ) (c : List Task) → GrowsTo w (load_from g to object offset n c p a s m w)
    load_from_grows to object offset zero c = record { is = grows_none w.trace }
    load_from_grows to object offset (suc n) c = when_grows _ w _ (copy_grows to (byte_in object offset) (core.loading (behind to 1) object (offset + 1) n c))

    store_to_grows : (object : Object) (offset : ℕ) (from : Byte) (n : ℕ) (c : List Task) → GrowsTo w (store_to g object offset from n c p a s m w)
    store_to_grows object offset from zero c = record { is = grows_none w.trace }
    store_to_grows object offset from (suc n) c = when_grows _ w _ (written_grows (byte_in object offset) (m from) (core.storing object (offset + 1) (behind from 1) n c))

    bit_write_grows : (register number : ℕ) (h : Held) (c : List Task) → GrowsTo w (bit_write g register number h c p a s m w)
    bit_write_grows register number (Number n) c =
        when_grows (core.has_bit g.program p register number) w
        (goes (PutBack register (core.with_bit number (n % 2) (device_value g.outside register w)) ∷ Join ∷ c) p a s m (after_read g (Device register) m w)) (record { is = read_grows (Device register) m w })
    bit_write_grows register number _ c = record { is = tt }

    called_grows : (bytes : Option (List ℕ)) (callee : ℕ) (r : List Waiting) (n : Memory) → GrowsTo w (called g.program bytes callee r n w)
    called_grows None callee r n = record { is = grows_none w.trace }
    called_grows (Some bytes) callee r n = record { is = grows_none w.trace }

    read_result_grows : (byte : Option ℕ) (c : List Task) → GrowsTo w (has_read g.program byte c p a s m w)
    read_result_grows None c = record { is = tt }
    read_result_grows (Some byte) c = record { is = grows_none w.trace }

    chosen_grows : (b : Option Bool) (first second : Tree) (c : List Task) → GrowsTo w (chosen b first second c p a s m w)
    chosen_grows None first second c = record { is = tt }
    chosen_grows (Some true) first second c = record { is = grows_none w.trace }
    chosen_grows (Some false) first second c = record { is = grows_none w.trace }

  module _ (m : Memory) (w : World Held) where
    exit_grows : (n p : ℕ) (a : Option ℕ) (s : List Waiting) → GrowsTo w (exit n p a s m w)
    exit_grows zero p a [] = record { is = tt }
    exit_grows (suc n) p a [] = record { is = tt }
    exit_grows zero p a (InLoop body c ∷ s) = record { is = grows_none w.trace }
    exit_grows (suc n) p a (InLoop body c ∷ s) = exit_grows n p a s
    exit_grows zero p a (InCall d c ∷ s) = record { is = tt }
    exit_grows (suc n) p a (InCall d c ∷ s) = record { is = tt }
    exit_grows zero p a (InHandler d b c ∷ s) = record { is = tt }
    exit_grows (suc n) p a (InHandler d b c ∷ s) = record { is = tt }

    again_grows : (n p : ℕ) (a : Option ℕ) (s : List Waiting) → GrowsTo w (again n p a s m w)
    again_grows zero p a [] = record { is = tt }
    again_grows (suc n) p a [] = record { is = tt }
    again_grows zero p a (InLoop body c ∷ s) = record { is = grows_none w.trace }
    again_grows (suc n) p a (InLoop body c ∷ s) = again_grows n p a s
    again_grows zero p a (InCall d c ∷ s) = record { is = tt }
    again_grows (suc n) p a (InCall d c ∷ s) = record { is = tt }
    again_grows zero p a (InHandler d b c ∷ s) = record { is = tt }
    again_grows (suc n) p a (InHandler d b c ∷ s) = record { is = tt }

    leave_grows : (p : ℕ) (s : List Waiting) → GrowsTo w (leave p s m w)
    unfolding left
    leave_grows p [] = record { is = one_more _ w }
    leave_grows p (InLoop body c ∷ s) = leave_grows p s
    leave_grows p (InCall d c ∷ s) = record { is = grows_none w.trace }
    leave_grows p (InHandler d b c ∷ s) = record { is = grows_none w.trace }

    end_grows : (p : ℕ) (a : Option ℕ) (s : List Waiting) → GrowsTo w (at_end p a s m w)
    end_grows p a [] = record { is = tt }
    end_grows p a (InLoop body c ∷ s) = record { is = grows_none w.trace }
    end_grows p a (InCall d c ∷ s) = record { is = tt }
    end_grows p a (InHandler d b c ∷ s) = record { is = tt }

  module _ (p : ℕ) (a : Option ℕ) (s : List Waiting) (m : Memory) (w : World Held) where
    operate_grows : (before : List Tree) (t : Tree) (c : List Task) → GrowsTo w (operate g before t c p a s m w)
    unfolding operate
    operate_grows before (tree.Set to value) c = put_grows p a s m w to (Number value) c
    operate_grows before (tree.Address to place) c = when_grows _ w _ (writes_grows p a s m w to (core.address_of place) c m)
    operate_grows before (tree.Copy to from) c = when_grows _ w _ (copy_grows p a s m w to from c)
    operate_grows before (tree.Load to pointer count) c = when_grows _ w _ (load_grows p a s m w to _ count c)
    operate_grows before (tree.Store pointer from count) c = when_grows _ w _ (store_grows p a s m w _ from count c)
    operate_grows before (tree.Unary op ty at) c = when_grows _ w _ (writes_grows p a s m w at _ c m)
    operate_grows before (tree.Binary op ty to x y) c = when_grows _ w _ (writes_grows p a s m w to _ c _)
    operate_grows before (tree.Convert from to at) c =
        let v = core.and_then (value_in from m at) (converted to) in
        when_grows (core.is_own g.program p at (bytes_of from)) w (writes g.program at v c p a s m w) (writes_grows p a s m w at v c m)
    operate_grows before (tree.BitRead to register number) c =
        when_grows (core.has_bit g.program p register number) w
        (goes (PutBit to (bit (device_value g.outside register w) number) ∷ c) p a s m (after_read g (Device register) m w)) (record { is = read_grows (Device register) m w })
    operate_grows before (tree.BitWrite register number from) c = when_grows _ w _ (bit_write_grows p a s m w register number (m from) c)
    operate_grows before (tree.Call callee) c = when_grows _ w _ (called_grows p a s m w (g.program.reads callee) callee (InCall p c ∷ s) _)
    operate_grows before tree.Leave c = leave_grows m w p s
    operate_grows before (tree.Many ts) c = record { is = grows_none w.trace }
    operate_grows before (tree.If test size first second) c = when_grows _ w _ (chosen_grows p a s m w _ first second c)
    operate_grows before (tree.Loop body) c = record { is = grows_none w.trace }
    operate_grows before (tree.Exit loops) c = exit_grows m w loops p a s
    operate_grows before (tree.Again loops) c = again_grows m w loops p a s

    act_grows : (c : List Task) → GrowsTo w (act g c p a s m w)
    unfolding act
    act_grows [] = end_grows m w p a s
    act_grows (Do before t ∷ c) = operate_grows before t c
    act_grows (Put to held ∷ c) = put_grows p a s m w to held c
    act_grows (PutBit to value ∷ c) = put_grows p a s m w to (Number value) c
    act_grows (PutBack register value ∷ c) = put_grows p a s m w (Device register) (Number value) c
    act_grows (Join ∷ c) = record { is = grows_none w.trace }
    act_grows (LoadFrom to object offset n ∷ c) = load_from_grows p a s m w to object offset n c
    act_grows (StoreTo object offset from n ∷ c) = store_to_grows p a s m w object offset from n c
    act_grows (Reading bytes ∷ c) = read_result_grows p a s m w _ c
    act_grows (Over ∷ c) = record { is = tt }

    enter_grows : (h : Option ℕ) (c : List Task) → GrowsTo w (enter g.program h c p a s m w)
    unfolding entered
    enter_grows None c = record { is = tt }
    enter_grows (Some h) c = when_grows (core.may_interrupt g.program h p) w (core.begins g.program h (InHandler p a c ∷ s) (without_frame h m) (entered w)) (record { is = grows_none w.trace })

    step_at_grows : (c : List Task) → GrowsTo w (core_step_at g c p a s m w)
    step_at_grows c = either_grows (is_due w) w _ _ (enter_grows g.program.handler c) (act_grows c)

  step_grows : (t : Machine) → GrowsTo t.world (core_step g t)
  unfolding core_step arrived
  step_grows t = record { is = (step_at_grows t.copy t.passing t.stack t.memory (arrived g.outside t.world) t.code).is }

  pub code_grows : (t : Machine) → Grows t.world.trace (gone t (core_step g t)).world.trace
  code_grows t = by (core_step g t) (step_grows t).is
    where
      by : (n : Next) → Grown t.world n → Grows t.world.trace (gone t n).world.trace
      by (Goes u) h = h
      by Stuck h = grows_none t.world.trace
      by Still h = grows_none t.world.trace
