-- From the call of a reader up to its sum, and from `*` in it up to its end.
use Rattle.std.proofs.Common.{◌≡◌, ℕ, suc, ◌+◌, ◌*◌, ◌^◌, ◌/◌, ◌%◌, ◌<◌, ◌≤◌, Bool, true, false, ◌&&◌, nat_eq, List, [], ◌∷◌, Option, Some, None, refl, sym, ap, ◌∙◌, subst, arith, pos}
use Rattle.std.proofs.lemmas.Bool.{false≢true, eq-eqb, lt-ltb, ne_eqb}
use Rattle.std.proofs.lemmas.Int.{ints}
use Rattle.std.specs.Prelude.{slice_get}
use Rattle.c_ints.specs.Range.{cut, pattern}
use Rattle.c_ints.specs.declared.types.IntTy.TheVariants as kind
use Rattle.c_typed.specs.Trees as tree
use Rattle.c_typed.specs.Trees.{Expression, StaticTree, FunctionTree, Program}
use Rattle.c_typed.specs.Types.{type_bytes}
use Rattle.c_typed.specs.declared.expression.Object.TheVariants as names
use Rattle.c_typed.specs.declared.types.Qualified.{Qualified}
use Rattle.c_typed.specs.declared.types.Ty.{Ty}
use Rattle.c_typed.specs.declared.types.Ty.TheVariants as types
use Rattle.pic_world.specs.Roots.{same_root}
use Rattle.pic_world.specs.World.{Outside, World, Happening, ReadOf, arrived, is_due}
use Rattle.pic_world.specs.declared.Root.{Root}
use Rattle.pic_world.specs.declared.Root.TheVariants.{Main, Isr}
use Rattle.rom_source.proofs.Indices.{number, made_sum}
use Rattle.rom_source.proofs.Links.{TableRead, pointer_at, with_parts, IsMade, IsTableRead, Agree}
use Rattle.rom_source.proofs.Standing.{element_spot, typed, own_sum, own_place, own_read, own_return, reader, reader_copy, the_call, below_return, returning, Walk, Stop, Brief, AtIndex, FindsIndex, FoundIndex, TakesIndex, FindsPlace, AtSum, AtStart, FindsTable, FoundTable, HasTable, Begins, Returning, Reads, Points, FoundElement, TakesElement, Answers, Leaves}
use Rattle.rom_source.proofs.Stepping.{then_free, free_step, enters_none, free_passes, counts_is}
use Rattle.rom_source.proofs.Values.{own_bytes}
use Rattle.rom_tables.specs.Outlined.{element_type, reader_for, reader_index, table_start, unsigned_int, index_type}
use Rattle.rom_tables.specs.Tables.{tables_of, place_in}
use Rattle.src_rules.specs.Accesses.{after_taking}
use Rattle.src_rules.specs.Giving.{answered}
use Rattle.src_rules.specs.Runs.{one_if}
use Rattle.src_rules.specs.State.{State, state, Went}
use Rattle.src_rules.specs.Step.{is_some_line, call, act, with_values, step, enters, counts}
use Rattle.src_values.specs.Accesses.{Taking, Takes, Breaks, read_fault, event_at, taken_unless, take_byte}
use Rattle.src_values.specs.Control as control
use Rattle.src_values.specs.Control.{Focus, Eval, Find, Holds, Found, Fetch, Got, Nothing, One, At, Args, Passed, Called, Tests, Pending, In, To, Doing, Before, Returns, active, line_at}
use Rattle.src_values.specs.Counting.{counted_line, found_counts}
use Rattle.src_values.specs.Data as datum
use Rattle.src_values.specs.Data.{Datum}
use Rattle.src_values.specs.Memory.{Setting, Memory, fresh}
use Rattle.src_values.specs.Objects.{function_at, variables_of, bytes_of_variable, object_bytes, same_copy, is_alive, is_watched, breaks_isolation}
use Rattle.src_values.specs.Values.{byte_of, number_from, value_from, fits_behind}
use Rattle.src_values.specs.declared.objects.Byte.{Byte}
use Rattle.src_values.specs.declared.objects.Byte.TheVariants as bytes
use Rattle.src_values.specs.declared.objects.CopyOf.{CopyOf}
use Rattle.src_values.specs.declared.objects.Object.TheVariants.{Fixed, Variable}
use Rattle.src_values.specs.declared.objects.Pointer.TheVariants.{Into}
use Rattle.src_values.specs.declared.objects.Spot.{Spot}
use Rattle.src_values.specs.declared.objects.Undef.{Undef}
use Rattle.src_values.specs.declared.objects.Spot.TheVariants as spots

-- ---- copies
root_itself : (a : Root) → same_root a a ≡ true
root_itself Main = refl
root_itself Isr = refl

copy_itself : (d : CopyOf) → same_copy d d ≡ true
copy_itself d = rw (root_itself d.root, eq-eqb d.function d.function refl) refl

own_root : (a : Root) → (same_root a Isr && same_root a Main) ≡ false
own_root Main = refl
own_root Isr = refl

and_no : (b : Bool) → (b && false) ≡ false
and_no true = refl
and_no false = refl

-- ---- the two bytes of an index
abbrev low : ℕ → ℕ
low j = pattern kind.UInt (pos j) / 256 ^ 0 % 256

abbrev high : ℕ → ℕ
high j = pattern kind.UInt (pos j) / 256 ^ 1 % 256

index_again : (j : ℕ) → j < 65536 → value_from unsigned_int (bytes.Number (low j) ∷ bytes.Number (high j) ∷ []) ≡ number kind.UInt j
unfolding value_from number_from
index_again j h =
    let e : low j + 256 * (high j + 256 * 0) ≡ j = omega (arith, ints) in
    let f : cut kind.UInt (pos j) ≡ pos j = omega (arith, ints) in
    ap (λ n. datum.Number (record { ty = kind.UInt; number = cut kind.UInt (pos n) })) e ∙ ap (λ z. datum.Number (record { ty = kind.UInt; number = z })) f

abbrev is_taking : Taking → Bool
is_taking (Takes byte w event) = true
is_taking (Breaks kind) = false

abbrev byte_in : Byte → Taking → Byte
byte_in other (Takes byte w event) = byte
byte_in other (Breaks kind) = other

abbrev world_in : World Byte → Taking → World Byte
world_in other (Takes byte w event) = w
world_in other (Breaks kind) = other

abbrev event_in : Taking → Option (Happening Byte)
event_in (Takes byte w event) = event
event_in (Breaks kind) = None

module _ (p : Program) (rows : List Qualified) (fs : List FunctionTree) (mk : IsMade p rows fs) (o : Outside) where
  abbrev q : Program
  q = with_parts p rows fs

  abbrev g : Setting
  g = record { program = q; outside = o }

  module _ (r : TableRead) (t : StaticTree) (place : place_in r.object 0 (tables_of p) ≡ Some r.table) (there : slice_get p.statics r.object ≡ Some t) (c : CopyOf) (k : List Pending) (n : Memory) (w : World Byte) (again : arrived o w ≡ w) (free : is_due w ≡ false) (j : ℕ) (small : j < 65536) where
    abbrev d : CopyOf
    d = reader_copy p r c

    abbrev v : Datum
    v = number kind.UInt j

    reader_is : function_at q (reader p r) ≡ reader_for (typed p) r.object t
    reader_is = mk.readers r.object r.table t place there

    -- its parameter is written
    abbrev pub passed : Memory
    passed = with_values (fresh n d) d 0 (v ∷ [])

    parameter_at : (i : ℕ) → i < 2 → passed (Variable d 0) i ≡ byte_of v i
    parameter_at i l = rw (copy_itself d, lt-ltb i 2 l) refl

    parameter_bytes : object_bytes q (Variable d 0) ≡ 2
    unfolding object_bytes
    parameter_bytes = ap (λ (f : FunctionTree). bytes_of_variable p.sizes (slice_get (variables_of f) 0)) reader_is

    no_fault : (live : List CopyOf) (i b : ℕ) (read : List Byte) → i < 2 → read_fault q (d ∷ live) d.root (fits_behind unsigned_int read) (Variable d 0) i (bytes.Number b) ≡ None
    unfolding fits_behind is_alive breaks_isolation
    no_fault live i b read l = rw (parameter_bytes, lt-ltb i 2 l, copy_itself d, own_root c.root) refl

    -- a byte of it is read
    parameter_taken : (x : Focus) (l : List Pending) (i : ℕ) (read : List Byte) → i < 2 → active d x l ≡ d ∷ control.callers l
        → take_byte g (active d x l) d.root (fits_behind unsigned_int read) (spots.Memory (Into (Variable d 0) i)) passed w ≡ Takes (byte_of v i) w None
    unfolding take_byte
    parameter_taken x l i read lt is =
        rw (is, parameter_at i lt, no_fault (control.callers l) i (pattern kind.UInt (pos j) / 256 ^ i % 256) read lt) refl

    -- ---- the nodes of the reader
    abbrev start : Expression
    start = table_start (typed p) r.object t

    abbrev index : Expression
    index = reader_index t.line

    abbrev sum : Expression
    sum = own_sum p r t

    abbrev read : Expression
    read = own_read p r t

    abbrev k1 : List Pending
    k1 = below_return p r t c k

    abbrev k2 : List Pending
    k2 = returning p r t c k

    abbrev k3 : List Pending
    k3 = To (own_place p r t) ∷ In read Nothing ∷ k2

    abbrev k4 : List Pending
    k4 = In sum (One (pointer_at r 0)) ∷ k3

    abbrev spot : ℕ → Spot
    spot i = spots.Memory (Into (Variable d 0) i)

    abbrev k5 : List Pending
    k5 = In index (At (spot 0)) ∷ k4

    -- where the sum takes its index
    abbrev pub at_sum : State
    at_sum = state d (Holds v) k4 passed w

    one : (i h : ℕ) (b : Bool) (x : Focus) (l : List Pending) (m : Memory) (u : State) → Brief p x l → is_some_line (counted_line q d x l) ≡ b → act g x l d m w ≡ Went u None → Walk p g i h u at_sum → Walk p g (suc i) (one_if b + h) (state d x l m w) at_sum
    one i h b x l m u brief f a rest = then_free g d x l m w w again p brief i h b u at_sum None free f a rest

    -- from the parameter's read on
    index_read : Walk p g 6 2 (state d (Eval index) k4 passed w) at_sum
    unfolding act counted_line active
    index_read =
        one 5 2 false (Eval index) k4 passed (state d (Find (tree.Name (names.Param 0) index_type t.line)) (In index Nothing ∷ k4) passed w) (AtIndex t.line k4) refl refl
        (one 4 2 false (Find (tree.Name (names.Param 0) index_type t.line)) (In index Nothing ∷ k4) passed (state d (Found (spot 0)) (In index Nothing ∷ k4) passed w) (FindsIndex t.line (In index Nothing ∷ k4)) refl refl
        (one 3 2 false (Found (spot 0)) (In index Nothing ∷ k4) passed (state d (Fetch (spot 0) []) k5 passed w) (FoundIndex t.line (spot 0) k4) refl refl
        (one 2 1 true (Fetch (spot 0) []) k5 passed (state d (Fetch (spot 1) (bytes.Number (low j) ∷ [])) k5 passed w) (TakesIndex t.line (spot 0) (spot 0) [] k4) refl
        (ap (λ y. after_taking y (λ byte. Fetch (spot 1) (byte ∷ [])) d k5 passed (line_at k5)) (parameter_taken (Fetch (spot 0) []) k5 0 [] (omega arith) (active_is (spot 0) [] k5)))
        (one 1 0 true (Fetch (spot 1) (bytes.Number (low j) ∷ [])) k5 passed (state d (Fetch (spot 2) (bytes.Number (low j) ∷ bytes.Number (high j) ∷ [])) k5 passed w) (TakesIndex t.line (spot 1) (spot 0) (bytes.Number (low j) ∷ []) k4) refl
        (ap (λ y. after_taking y (λ byte. Fetch (spot 2) (bytes.Number (low j) ∷ byte ∷ [])) d k5 passed (line_at k5)) (parameter_taken (Fetch (spot 1) (bytes.Number (low j) ∷ [])) k5 1 (bytes.Number (low j) ∷ []) (omega arith) (active_is (spot 1) (bytes.Number (low j) ∷ []) k5)))
        (one 0 0 false (Fetch (spot 2) (bytes.Number (low j) ∷ bytes.Number (high j) ∷ [])) k5 passed at_sum (TakesIndex t.line (spot 2) (spot 0) (bytes.Number (low j) ∷ bytes.Number (high j) ∷ []) k4) refl
        (ap (λ y. Went (state d (Holds y) k4 passed w) None) (index_again j small))
        (Stop at_sum))))))
      where
        active_is : (s : Spot) (l : List Byte) (m : List Pending) → active d (Fetch s l) m ≡ d ∷ control.callers m
        active_is s l m = refl

    -- the start of the table in the sum takes no step
    start_plain : is_some_line (found_counts q (In start Nothing ∷ In sum Nothing ∷ k3)) ≡ false
    start_plain = rw (mk.starts r.object r.table t place there) refl

    -- from the element's place on
    node_read : Walk p g 12 2 (state d (Find (own_place p r t)) (In read Nothing ∷ k2) passed w) at_sum
    unfolding act counted_line
    node_read =
        one 11 2 false (Find (own_place p r t)) (In read Nothing ∷ k2) passed (state d (Eval sum) k3 passed w) (FindsPlace r t (In read Nothing ∷ k2)) refl refl
        (one 10 2 false (Eval sum) k3 passed (state d (Eval start) (In sum Nothing ∷ k3) passed w) (AtSum r t k3) refl refl
        (one 9 2 false (Eval start) (In sum Nothing ∷ k3) passed (state d (Find (tree.Name (names.Static r.object) t.ty t.line)) (In start Nothing ∷ In sum Nothing ∷ k3) passed w) (AtStart r t (In sum Nothing ∷ k3)) refl refl
        (one 8 2 false (Find (tree.Name (names.Static r.object) t.ty t.line)) (In start Nothing ∷ In sum Nothing ∷ k3) passed (state d (Found (element_spot r 0)) (In start Nothing ∷ In sum Nothing ∷ k3) passed w) (FindsTable r t (In start Nothing ∷ In sum Nothing ∷ k3)) refl refl
        (one 7 2 false (Found (element_spot r 0)) (In start Nothing ∷ In sum Nothing ∷ k3) passed (state d (Holds (pointer_at r 0)) (In sum Nothing ∷ k3) passed w) (FoundTable r t (element_spot r 0) (In sum Nothing ∷ k3)) start_plain refl
        (one 6 2 false (Holds (pointer_at r 0)) (In sum Nothing ∷ k3) passed (state d (Eval index) k4 passed w) (HasTable r t (pointer_at r 0) k3) refl refl
        index_read)))))

    -- from its body on
    pub body_read : Walk p g 15 3 (state d control.Past (Before (tree.AndStatement (own_return p r t) tree.NoStatement) ∷ Returns c ∷ In (the_call p r) Called ∷ k) passed w) at_sum
    unfolding act counted_line
    body_read =
        one 14 3 false control.Past (Before (tree.AndStatement (own_return p r t) tree.NoStatement) ∷ Returns c ∷ In (the_call p r) Called ∷ k) passed (state d (control.Run (own_return p r t)) k1 passed w) (Begins r t c (In (the_call p r) Called ∷ k)) refl refl
        (one 13 2 true (control.Run (own_return p r t)) k1 passed (state d (Eval read) k2 passed w) (Returning r t k1) refl refl
        (one 12 2 false (Eval read) k2 passed (state d (Find (own_place p r t)) (In read Nothing ∷ k2) passed w) (Reads r t k2) refl refl node_read))

    -- from the call on
    call_goes : call q (In (the_call p r) (Passed (v ∷ [])) ∷ k) c n w ≡ Went (state d control.Past (Before (tree.AndStatement (own_return p r t) tree.NoStatement) ∷ Returns c ∷ In (the_call p r) Called ∷ k) passed w) None
    call_goes = ap (λ (f : FunctionTree). Went (state d control.Past (Before f.body ∷ Returns c ∷ In (the_call p r) Called ∷ k) passed w) None) reader_is

    abbrev pub at_call : State
    at_call = state c control.Calls (In (the_call p r) (Passed (v ∷ [])) ∷ k) n w

    abbrev pub in_body : State
    in_body = state d control.Past (Before (tree.AndStatement (own_return p r t) tree.NoStatement) ∷ Returns c ∷ In (the_call p r) Called ∷ k) passed w

    pub call_step : step g at_call ≡ Went in_body None
    unfolding act
    call_step = free_step g c control.Calls (In (the_call p r) (Passed (v ∷ [])) ∷ k) n w w again in_body None free call_goes

    pub call_none : enters g at_call ≡ false
    call_none = enters_none g c control.Calls (In (the_call p r) (Passed (v ∷ [])) ∷ k) n w w again (free_passes g c control.Calls (In (the_call p r) (Passed (v ∷ [])) ∷ k) n w w again free)

    pub call_counts : counts g at_call ≡ true
    unfolding counted_line
    call_counts = counts_is g c control.Calls (In (the_call p r) (Passed (v ∷ [])) ∷ k) n w w again (free_passes g c control.Calls (In (the_call p r) (Passed (v ∷ [])) ∷ k) n w w again free)

    pub agree_passed : (m : Memory) → Agree p m n → Agree p m passed
    agree_passed m h (Fixed a) i own = h (Fixed a) i own
    agree_passed m h (Variable e a) i own =
        let f : nat_eq e.function d.function ≡ false = ne_eqb e.function d.function (λ is. absurd (omega arith)) in
        apart f ∙ h (Variable e a) i own
      where
        apart : nat_eq e.function d.function ≡ false → passed (Variable e a) i ≡ n (Variable e a) i
        apart f = rw (f, and_no (same_root e.root d.root)) refl

  taken_as : (f : Option Undef) (found byte : Byte) (w v : World Byte) (event : Option (Happening Byte)) → taken_unless f found w None ≡ Takes byte v event
      → (taken_unless f found w None ≡ Takes byte w None) × (v ≡ w) × (event ≡ None)
  taken_as (Some kind) found byte w v event is = absurd (false≢true (ap is_taking is))
  taken_as None found byte w v event is = (ap (λ b. Takes b w None) (ap (byte_in found) is), sym (ap (world_in w) is), sym (ap event_in is))

  -- ---- from `*` up to the value of the call
  module _ (r : TableRead) (t : StaticTree) (z : IsTableRead p r) (place : place_in r.object 0 (tables_of p) ≡ Some r.table) (there : slice_get p.statics r.object ≡ Some t) (c : CopyOf) (k : List Pending) (n : Memory) (w : World Byte) (again : arrived o w ≡ w) (free : is_due w ≡ false) (j : ℕ) where
    abbrev e : CopyOf
    e = reader_copy p r c

    abbrev l2 : List Pending
    l2 = returning p r t c k

    static_same : z.static ≡ t
    static_same = ap (unwrap_or_self z.static) (sym z.there ∙ there)
      where
        unwrap_or_self : StaticTree → Option StaticTree → StaticTree
        unwrap_or_self s None = s
        unwrap_or_self s (Some x) = x

    -- the reader's value has the type of the read
    element_same : element_type (typed p) t ≡ types.Int z.element
    element_same = mk.elements r.object r.table t place there ∙ ap (element_type p) (sym static_same) ∙ z.element_is

    abbrev E : Expression
    E = own_read p r t

    -- its read, once it has that type
    abbrev typed_read : Ty → Expression
    typed_read ty = tree.Read (own_place p r t) ty t.line

    abbrev value : Byte → Datum
    value byte = value_from (types.Int z.element) (byte ∷ [])

    abbrev here : State
    here = state e (Holds (pointer_at r j)) (To (own_place p r t) ∷ In E Nothing ∷ l2) n w

    abbrev done : Byte → State
    done byte = state c (Holds (value byte)) k n w

    step_one : (i h : ℕ) (b : Bool) (x : Focus) (l : List Pending) (u v : State) → Brief p x l → is_some_line (counted_line q e x l) ≡ b → act g x l e n w ≡ Went u None → Walk p g i h u v → Walk p g (suc i) (one_if b + h) (state e x l n w) v
    step_one i h b x l u v brief f a rest = then_free g e x l n w w again p brief i h b u v None free f a rest

    module _ (byte : Byte) (took : (live : List CopyOf) (root : Root) → take_byte g live root (fits_behind (types.Int z.element) []) (element_spot r j) n w ≡ Takes byte w None) where
      -- of a read of this type
      tail : Walk p g 6 2 (state e (Holds (pointer_at r j)) (To (own_place p r t) ∷ In (typed_read (types.Int z.element)) Nothing ∷ l2) n w) (done byte)
      unfolding act counted_line value_from
      tail =
          step_one 5 1 true (Holds (pointer_at r j)) (To (own_place p r t) ∷ In R Nothing ∷ l2) (state e (Found (element_spot r j)) (In R Nothing ∷ l2) n w) (done byte) (Points r t (pointer_at r j) (In R Nothing ∷ l2)) refl refl
          (step_one 4 1 false (Found (element_spot r j)) (In R Nothing ∷ l2) (state e (Fetch (element_spot r j) []) (In R (At (element_spot r j)) ∷ l2) n w) (done byte) (FoundElement r t (types.Int z.element) (element_spot r j) l2) refl refl
          (step_one 3 0 true (Fetch (element_spot r j) []) (In R (At (element_spot r j)) ∷ l2) (state e (Fetch (element_spot r (j + 1)) (byte ∷ [])) (In R (At (element_spot r j)) ∷ l2) n w) (done byte) (TakesElement r t (types.Int z.element) (element_spot r j) (element_spot r j) [] l2) some first
          (step_one 2 0 false (Fetch (element_spot r (j + 1)) (byte ∷ [])) (In R (At (element_spot r j)) ∷ l2) (state e (Holds (value byte)) l2 n w) (done byte) (TakesElement r t (types.Int z.element) (element_spot r (j + 1)) (element_spot r j) (byte ∷ []) l2) none last
          (step_one 1 0 false (Holds (value byte)) l2 (state e (control.Leaves (value byte)) (Returns c ∷ In (the_call p r) Called ∷ k) n w) (done byte) (Answers r t (value byte) (below_return p r t c k) (ap (type_bytes p.sizes) element_same ∙ z.one)) refl (used byte)
          (step_one 0 0 false (control.Leaves (value byte)) (Returns c ∷ In (the_call p r) Called ∷ k) (done byte) (done byte) (Leaves r (value byte) c k (ap (type_bytes p.sizes) z.ty ∙ z.one)) refl refl
          (Stop (done byte)))))))
        where
          R : Expression
          R = typed_read (types.Int z.element)

          some : is_some_line (counted_line q e (Fetch (element_spot r j) []) (In (typed_read (types.Int z.element)) (At (element_spot r j)) ∷ l2)) ≡ true
          some = rw z.one refl

          none : is_some_line (counted_line q e (Fetch (element_spot r (j + 1)) (byte ∷ [])) (In (typed_read (types.Int z.element)) (At (element_spot r j)) ∷ l2)) ≡ false
          none = rw z.one refl

          first : act g (Fetch (element_spot r j) []) (In (typed_read (types.Int z.element)) (At (element_spot r j)) ∷ l2) e n w ≡ Went (state e (Fetch (element_spot r (j + 1)) (byte ∷ [])) (In (typed_read (types.Int z.element)) (At (element_spot r j)) ∷ l2) n w) None
          first = rw (z.one, took (active e (Fetch (element_spot r j) []) (In (typed_read (types.Int z.element)) (At (element_spot r j)) ∷ l2)) e.root) refl

          last : act g (Fetch (element_spot r (j + 1)) (byte ∷ [])) (In (typed_read (types.Int z.element)) (At (element_spot r j)) ∷ l2) e n w ≡ Went (state e (Holds (value byte)) l2 n w) None
          last = rw z.one refl

          used : (byte : Byte) → act g (Holds (value byte)) l2 e n w ≡ Went (state e (control.Leaves (value byte)) (Returns c ∷ In (the_call p r) Called ∷ k) n w) None
          used byte = refl

      pub ended : Walk p g 6 2 here (done byte)
      ended = subst (λ ty. Walk p g 6 2 (state e (Holds (pointer_at r j)) (To (own_place p r t) ∷ In (typed_read ty) Nothing ∷ l2) n w) (done byte)) (sym element_same) tail

    -- the sum in the reader
    pub reader_sums : j ≤ object_bytes p (Fixed r.object) → act g (Holds (number kind.UInt j)) (In (own_sum p r t) (One (pointer_at r 0)) ∷ To (own_place p r t) ∷ In E Nothing ∷ l2) e n w ≡ Went here None
    unfolding act
    reader_sums near =
        let own = own_bytes p rows fs mk (Fixed r.object) tt in
        ap (λ a. answered a t.line (To (own_place p r t) ∷ In E Nothing ∷ l2) e n w) (made_sum q r.object j (rw own near))

  -- ---- a byte of a table is read in the one program as in the other
  abbrev s : Setting
  s = record { program = p; outside = o }

  -- no event, and nothing else changes
  pub table_taken : (r : TableRead) (t : StaticTree) (j : ℕ) (live other : List CopyOf) (root turn : Root) (fits : Byte → Bool) (m n : Memory) (w v : World Byte) (byte : Byte) (event : Option (Happening Byte))
      → slice_get p.statics r.object ≡ Some t → t.ty.constant ≡ true → Agree p m n → take_byte s live root fits (element_spot r j) m w ≡ Takes byte v event
      → (take_byte g other turn fits (element_spot r j) n w ≡ Takes byte w None) × (v ≡ w) × (event ≡ None)
  unfolding take_byte is_watched is_alive breaks_isolation object_bytes
  table_taken r t j live other root turn fits m n w v byte event there constant agree is =
      let same = agree (Fixed r.object) j tt in
      let quiet : event_at p ReadOf (Fixed r.object) j (m (Fixed r.object) j) ≡ None = rw (there, constant) refl in
      let a = ap (λ e. taken_unless (read_fault p live root fits (Fixed r.object) j (m (Fixed r.object) j)) (m (Fixed r.object) j) w e) quiet in
      let b = taken_as (read_fault p live root fits (Fixed r.object) j (m (Fixed r.object) j)) (m (Fixed r.object) j) byte w v event (sym a ∙ is) in
      (ap (λ y. taken_unless (read_fault q other turn fits (Fixed r.object) j y) y w (event_at q ReadOf (Fixed r.object) j y)) same ∙ (a ∙ b.0), b.1, b.2)
