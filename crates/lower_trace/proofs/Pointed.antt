-- Nodes that read places to which pointers lead: the next byte, or the value that the bytes make.
use Rattle.c_ints.specs.declared.operators.BinOp.{BinOp}
use Rattle.c_typed.specs.Trees as tree
use Rattle.c_typed.specs.Trees.{Expression, Place}
use Rattle.c_typed.specs.Types.{type_bytes}
use Rattle.c_typed.specs.declared.expression.StepOp.{StepOp}
use Rattle.c_typed.specs.declared.types.Ty.{Ty}
use Rattle.core_code.specs.Bytes as bytes
use Rattle.core_code.specs.Bytes.{Memory, with_byte, with_bytes}
use Rattle.core_code.specs.Machine.{Machine, Put, Task, loading}
use Rattle.core_code.specs.declared.code.Byte.TheVariants.{Frame}
use Rattle.core_code.specs.declared.code.Byte.{Byte}
use Rattle.core_puts.specs.Bytes.{beyond}
use Rattle.lower_expr.specs.Layout.{place_width, width}
use Rattle.core_puts.specs.Puts.{copies}
use Rattle.lower_expr.specs.Spots.{pointer_bytes, spot_of}
use Rattle.lower_expr.specs.declared.places.Spot.TheVariants.{Computed}
use Rattle.src_rules.specs.Runs.{one_if}
use Rattle.lower_trace.proofs.Costs.{either, either_within}
use Rattle.lower_trace.proofs.Beginnings.{Follow}
use Rattle.lower_trace.proofs.Changing.{OnlyAbove, above_same, above_written, agrees_above, holds_above}
use Rattle.lower_trace.proofs.CodeLeft.{Scene, above, base, code_after, core_in, ground_in, held, kept_value, number, source_in, stack_after, todo}
use Rattle.lower_trace.proofs.Constants.{again_below, due_below, same_below}
use Rattle.lower_trace.proofs.Converting.{not_less}
use Rattle.lower_trace.proofs.Fetching.{Reads, one_written, read_more}
use Rattle.lower_trace.proofs.FixedFetches.{follow_within, value_size}
use Rattle.lower_trace.proofs.FixedReads.{reads_read, reads_step, reads_update}
use Rattle.lower_trace.proofs.FixedWrites.{move_then}
use Rattle.lower_trace.proofs.Flow.{arrive}
use Rattle.lower_trace.proofs.Giving.{Around, gives, placed_of, value_high}
use Rattle.lower_trace.proofs.Kept.{SceneLaws, own_copy}
use Rattle.lower_trace.proofs.Loading.{ReachesAll, code_static, code_variable, fetch_pointed}
use Rattle.lower_trace.proofs.Members.{spot_is}
use Rattle.lower_trace.proofs.Mirrors.{Agrees, HasDatum, HasRead, Holds, IsAt, Mirrors}
use Rattle.lower_trace.proofs.Operations.{Comes, beyond_is, comes_here, comes_within, own_frame, put_then}
use Rattle.lower_trace.proofs.Placed.{Placed}
use Rattle.lower_trace.proofs.ReadValues.{value_read_back}
use Rattle.lower_trace.proofs.Reading.{lt_of}
use Rattle.pic_world.specs.World.{World, arrived, is_due, world_as}
use Rattle.src_rules.proofs.Places.{SpotIsThere}
use Rattle.src_rules.specs.Accesses.{after_taking, fetch, fetch_as, fetched, goes}
use Rattle.src_rules.specs.Standing.{AreRead, stepped}
use Rattle.src_rules.specs.State.{state}
use Rattle.src_values.specs.Accesses.{take_byte}
use Rattle.src_values.specs.Control.{At, AtWith, Fetch, In, Past, Pending, Holds as Value, active, line_at, read_type}
use Rattle.src_values.specs.Data as datum
use Rattle.src_values.specs.Data.{Datum}
use Rattle.src_values.specs.Memory as source
use Rattle.src_values.specs.Objects.{next_byte, variable_offset}
use Rattle.src_values.specs.Values.{byte_count, byte_of, fits_behind, value_from}
use Rattle.src_values.specs.declared.objects.Byte as value
use Rattle.src_values.specs.declared.objects.Byte.TheVariants as values
use Rattle.src_values.specs.declared.objects.CopyOf.{CopyOf}
use Rattle.src_values.specs.declared.objects.Object.TheVariants as objects
use Rattle.src_values.specs.declared.objects.Pointer.TheVariants.{Into, Null}
use Rattle.src_values.specs.declared.objects.Pointer.{Pointer}
use Rattle.src_values.specs.declared.objects.Spot.TheVariants as spots
use Rattle.std.proofs.Common.{Bool, List, None, [], ap, arith, false, inl, length, nat_lt, refl, subst, suc, sym, true, ℕ, ◌*◌, ◌++◌, ◌+◌, ◌-◌, ◌<◌, ◌∙◌, ◌∷◌, ◌≡◌, ◌≤◌}
use Rattle.std.specs.Prelude.{slice_index_or}

no_bytes : (to : Byte) (x : bytes.Object) (offset j count : ℕ) (r : List Task) → count ≤ j → loading to x offset (count - j) r ≡ r
no_bytes to x offset j count r le = let e : count - j ≡ 0 = omega arith in ap (λ i. loading to x offset i r) e

-- ---- all bytes were read
module _ (z : Scene) (laws : SceneLaws z) (cp : CopyOf) (k : List Pending) (l : source.Memory) (to count at_pointer : ℕ) (r : List Task) (reads : Reads z (ground_in z cp) k Computed to count (Frame (ground_in z cp).copy at_pointer) r) (around : Around z cp k) (room : to + count ≤ (core_in z).program.frame_bytes (number z cp)) (apart : at_pointer + 2 ≤ to) (reach : ReachesAll z cp k) where
  pub pointed_all : (T : Machine → Type 0) (y : Pointer) (j : ℕ) (read : List value.Byte) (v : Datum) (w : World value.Byte) (c : Machine) (q e : ℕ) → length read ≡ suc j → count ≡ suc j → byte_count v ≤ count → ((i : ℕ) → i < byte_count v → held z (slice_index_or read i values.Unset) ≡ held z (byte_of v i)) → is_due (arrived z.outside w) ≡ false
      → ((d : Machine) (m' : Memory) → OnlyAbove (number z cp) to c.memory m' → HasDatum z (number z cp) to v m' → Placed (core_in z) (number z cp) None r (stack_after z (ground_in z cp) k) m' (world_as (held z) (arrived z.outside w)) d → Comes (core_in z) T q e d)
      → Mirrors z (state cp (Fetch (spots.Memory y) read) k l w) c → Comes (core_in z) T (3 + q) e c
  pointed_all T Null j [] v w c q e all whole few same_bytes due next h = absurd (omega arith)
  pointed_all T Null j (x ∷ more) v w c q e all whole few same_bytes due next h =
      let n = number z cp in
      let read = x ∷ more in
      let W = world_as (held z) (arrived z.outside w) in
      let has : HasRead z n to read (length read) c.memory = subst (λ y. HasRead z y to read (length read) c.memory) (own_copy z cp) (reads.has (spots.Memory Null) read c.memory h.value) in
      comes_within (core_in z) T q e (3 + q) e c
      (next c c.memory (above_same n to c.memory) (λ y lt. has y (omega arith) ∙ same_bytes y lt)
      (subst (λ y. Placed (core_in z) n None y (stack_after z (ground_in z cp) k) c.memory W c) (reads.code (spots.Memory Null) read) (placed_of z (state cp (Fetch (spots.Memory Null) read) k l w) c h)))
      (omega arith) (omega arith)
  pointed_all T (Into (objects.Variable d i) f) j read v w c q e all whole few same_bytes due next h =
      let n = number z cp in
      let W = world_as (held z) (arrived z.outside w) in
      let has : HasRead z n to read (length read) c.memory = subst (λ y. HasRead z y to read (length read) c.memory) (own_copy z cp) (reads.has (spots.Memory (Into (objects.Variable d i) f)) read c.memory h.value) in
      comes_within (core_in z) T q e (3 + q) e c
      (next c c.memory (above_same n to c.memory) (λ y lt. has y (omega arith) ∙ same_bytes y lt)
      (subst (λ y. Placed (core_in z) n None y (stack_after z (ground_in z cp) k) c.memory W c)
      (code_variable z laws cp k l to count at_pointer r reads around room apart reach d i f read j all ∙ no_bytes (Frame n (to + suc j)) (bytes.FrameOf (number z d)) (variable_offset z.program d.function i + f) (suc j) count r (omega arith))
      (placed_of z (state cp (Fetch (spots.Memory (Into (objects.Variable d i) f)) read) k l w) c h)))
      (omega arith) (omega arith)
  pointed_all T (Into (objects.Fixed i) f) j read v w c q e all whole few same_bytes due next h =
      let n = number z cp in
      let W = world_as (held z) (arrived z.outside w) in
      let last = held z (slice_index_or read j values.Unset) in
      let m' = with_byte c.memory (Frame n (to + j)) last in
      let has : HasRead z n to read (length read - 1) c.memory = subst (λ y. HasRead z y to read (length read - 1) c.memory) (own_copy z cp) (reads.has (spots.Memory (Into (objects.Fixed i) f)) read c.memory h.value) in
      let more_read : HasRead z n to read (suc j) m' = read_more z n to read c.memory last j (λ y lt. has y (omega arith)) refl in
      put_then (core_in z) T n None (stack_after z (ground_in z cp) k) W (due_below z (arrived z.outside w) due) (again_below z w) (Frame n (to + j)) last r c.memory c q e (own_frame (core_in z).program n (to + j) 1 (omega arith))
      (subst (λ y. Placed (core_in z) n None y (stack_after z (ground_in z cp) k) c.memory W c)
      (code_static z laws cp k l to count at_pointer r reads around room apart reach i f read j all ∙ ap (λ y. Put (Frame n (to + j)) last ∷ y) (no_bytes (Frame n (to + suc j)) (bytes.Fixed i) (0 + f) (suc j) count r (omega arith)))
      (placed_of z (state cp (Fetch (spots.Memory (Into (objects.Fixed i) f)) read) k l w) c h))
      (λ d pd. next d m' (subst (λ y. OnlyAbove n to c.memory y) (sym (one_written c.memory n (to + j) last)) (above_written n to (to + j) 1 c.memory (λ y. last) (omega arith))) (λ y lt. more_read y (omega arith) ∙ same_bytes y lt) pd)

  -- ---- the next byte, or the value
  module _ (k' : List Pending) (ty : Ty) (x : Pointer) (there : SpotIsThere z.program (spots.Memory x)) (size : count ≡ type_bytes z.program.sizes ty) (some : 0 < count) (type_is : read_type k ≡ ty)
      (has : (m : Memory) → Holds z (ground_in z cp) k m → HasDatum z (ground_in z cp).copy at_pointer (datum.Pointer x) m)
      (ends : (v : Datum) (w : World value.Byte) → fetched v k cp l w ≡ goes cp (Value v) k' l w)
      (finish : (v : Datum) (w : World value.Byte) (m m' : Memory) (d : Machine) → byte_count v ≤ count → is_due (arrived z.outside w) ≡ false → Agrees z (active cp Past k) l m → Holds z (ground_in z cp) k m → OnlyAbove (number z cp) to m m' → HasDatum z (number z cp) to v m' → Placed (core_in z) (number z cp) None r (stack_after z (ground_in z cp) k) m' (world_as (held z) (arrived z.outside w)) d
      → Comes (core_in z) (Mirrors z (state cp (Value v) k' l (arrived z.outside w))) 24 0 d) where
    byte_next : (y : Pointer) (read : List value.Byte) (w : World value.Byte) (c : Machine) → y ≡ x → length read < count → is_due (arrived z.outside w) ≡ false
        → Mirrors z (state cp (Fetch (stepped (length read) (spots.Memory y)) read) k l w) c
        → Follow z 30 1 c (after_taking (take_byte (source_in z) (active cp (Fetch (stepped (length read) (spots.Memory y)) read) k) cp.root (fits_behind ty read) (stepped (length read) (spots.Memory y)) l (arrived z.outside w)) (λ byte. Fetch (next_byte (stepped (length read) (spots.Memory y))) (read ++ byte ∷ [])) cp k l (line_at k))
    unfolding take_byte
    byte_next Null read w c is lt due h = tt
    byte_next (Into o f) read w c is lt due h =
        fetch_pointed z laws cp k l to count at_pointer r reads around room apart reach o (f + length read) (fits_behind ty read) read (line_at k) w c lt (subst (λ t. SpotIsThere z.program (spots.Memory t)) (sym is) there)
        (λ none.
        let e : f + 0 ≡ f + length read = ap (λ t. f + length t) (sym none) in
        let q : f ≡ f + 0 = omega arith in
        subst (λ t. HasDatum z (ground_in z cp).copy at_pointer (datum.Pointer (Into o t)) c.memory) (q ∙ e) (subst (λ t. HasDatum z (ground_in z cp).copy at_pointer (datum.Pointer t) c.memory) (sym is) (has c.memory h.holds)))
        due h

    memory_spot : (i : ℕ) (y : Pointer) → (p : Pointer) × (stepped i (spots.Memory y) ≡ spots.Memory p)
    memory_spot i Null = (Null, refl)
    memory_spot i (Into o f) = (Into o (f + i), refl)

    fetch_case : (more : Bool) (read : List value.Byte) (w : World value.Byte) (c : Machine) → nat_lt (length read) (type_bytes z.program.sizes ty) ≡ more → length read ≤ count → AreRead z.program ty [] read → is_due (arrived z.outside w) ≡ false
        → Mirrors z (state cp (Fetch (stepped (length read) (spots.Memory x)) read) k l w) c → Follow z (either more 30 27) (one_if more) c (fetch_as ty (source_in z) (stepped (length read) (spots.Memory x)) read k cp l (arrived z.outside w))
    unfolding active
    fetch_case true read w c lt le are due h =
        let less : length read < count = let q = lt_of (length read) (type_bytes z.program.sizes ty) lt in omega arith in
        rw lt (byte_next x read w c refl less due h)
    fetch_case false read w c lt le are due h =
        let all : length read ≡ type_bytes z.program.sizes ty = let q = not_less (length read) (type_bytes z.program.sizes ty) lt in omega arith in
        let v = value_from ty read in
        let few : byte_count v ≤ count = let q = value_size z.program.sizes ty read in omega arith in
        let p = memory_spot (length read) x in
        let T = Mirrors z (state cp (Value v) k' l (arrived z.outside w)) in
        rw (lt, ends v (arrived z.outside w))
        (comes_within (core_in z) T (3 + 24) 0 27 0 c
        (pointed_all T p.0 (count - 1) read v w c 24 0 (omega arith) (omega arith) few (λ i lt2. value_read_back z ty read are all i lt2) due
        (λ d m' only hv pd. finish v w c.memory m' d few due h.agrees h.holds only hv pd)
        (subst (λ t. Mirrors z (state cp (Fetch t read) k l w) c) p.1 h))
        (omega arith) (omega arith))

    pub pointed_fetched : (read : List value.Byte) (w : World value.Byte) (c : Machine) → length read ≤ count → AreRead z.program ty [] read → is_due (arrived z.outside w) ≡ false
        → Mirrors z (state cp (Fetch (stepped (length read) (spots.Memory x)) read) k l w) c → Follow z (either (nat_lt (length read) (type_bytes z.program.sizes ty)) 30 27) (one_if (nat_lt (length read) (type_bytes z.program.sizes ty))) c (fetch (source_in z) (stepped (length read) (spots.Memory x)) read k cp l (arrived z.outside w))
    pointed_fetched read w c le are due h =
        subst (λ t. Follow z (either (nat_lt (length read) (type_bytes z.program.sizes ty)) 30 27) (one_if (nat_lt (length read) (type_bytes z.program.sizes ty))) c (fetch_as t (source_in z) (stepped (length read) (spots.Memory x)) read k cp l (arrived z.outside w))) (sym type_is)
        (fetch_case (nat_lt (length read) (type_bytes z.program.sizes ty)) read w c refl le are due h)

    -- the same within one bound
    pub pointed_fetch : (read : List value.Byte) (w : World value.Byte) (c : Machine) → length read ≤ count → AreRead z.program ty [] read → is_due (arrived z.outside w) ≡ false
        → Mirrors z (state cp (Fetch (stepped (length read) (spots.Memory x)) read) k l w) c → Follow z 30 0 c (fetch (source_in z) (stepped (length read) (spots.Memory x)) read k cp l (arrived z.outside w))
    pointed_fetch read w c le are due h = follow_within z (either (nat_lt (length read) (type_bytes z.program.sizes ty)) 30 27) (one_if (nat_lt (length read) (type_bytes z.program.sizes ty))) 30 0 c _ (pointed_fetched read w c le are due h) (either_within (nat_lt (length read) (type_bytes z.program.sizes ty)) 30 27 30 (omega arith) (omega arith)) (omega arith)

-- What a node needs that reads or writes a computed place of so many bytes.
pub record PointedPlace (z : Scene) (cp : CopyOf) (sought : Place) (x : Pointer) (count : ℕ) : Type 0 where
  pub spot : spot_of (ground_in z cp).layout (ground_in z cp).copy sought ≡ Computed
  pub there : SpotIsThere z.program (spots.Memory x)
  pub some : 0 < count
  pub few : count ≤ 4

pub pointer_at : (z : Scene) (n b : ℕ) (x : Pointer) (m : Memory) → IsAt z n b Computed (spots.Memory x) m → HasDatum z n b (datum.Pointer x) m
pointer_at z n b x m is = subst (λ y. HasDatum z n b (datum.Pointer y) m) (sym (spot_is x is.0 is.1)) is.2

module _ (z : Scene) (laws : SceneLaws z) (cp : CopyOf) (l : source.Memory) where
  -- an expression that only reads: its value comes to the front
  pub pointed_read : (sought : Place) (ty : Ty) (line : ℕ) (x : Pointer) (k : List Pending) (read : List value.Byte) (w : World value.Byte) (c : Machine) → PointedPlace z cp sought x (type_bytes z.program.sizes ty) → Around z cp (In (tree.Read sought ty line) (At (spots.Memory x)) ∷ k) → Around z cp k → ReachesAll z cp (In (tree.Read sought ty line) (At (spots.Memory x)) ∷ k)
      → width (ground_in z cp).layout ty ≡ type_bytes z.program.sizes ty → base (ground_in z cp) k + 2 + type_bytes z.program.sizes ty ≤ (core_in z).program.frame_bytes (number z cp) → length read ≤ type_bytes z.program.sizes ty → AreRead z.program ty [] read → is_due (arrived z.outside w) ≡ false
      → Mirrors z (state cp (Fetch (stepped (length read) (spots.Memory x)) read) (In (tree.Read sought ty line) (At (spots.Memory x)) ∷ k) l w) c
      → Follow z (either (nat_lt (length read) (type_bytes z.program.sizes ty)) 30 27) (one_if (nat_lt (length read) (type_bytes z.program.sizes ty))) c (fetch (source_in z) (stepped (length read) (spots.Memory x)) read (In (tree.Read sought ty line) (At (spots.Memory x)) ∷ k) cp l (arrived z.outside w))
  unfolding active
  pointed_read sought ty line x k read w c p around below reach wide room le are due h =
      let g = ground_in z cp in
      let n = number z cp in
      let b = base g k in
      let s = spot_of g.layout g.copy sought in
      let e = tree.Read sought ty line in
      let start = spots.Memory x in
      let f = In e (At start) ∷ k in
      let to = above g b e (At start) in
      let small = laws.small n in
      let few = p.few in
      let to_is : to ≡ b + 2 = ap (λ y. beyond b (pointer_bytes y)) p.spot ∙ beyond_is b 2 (omega arith) in
      let count = width g.layout ty in
      let r_is : code_after g f ≡ todo (copies (Frame n b) (Frame n to) count) (code_after g k) =
      ap (λ y. todo (kept_value y (Frame g.copy b) count) (code_after g k)) p.spot
      ∙ ap (λ y. todo (copies (Frame g.copy b) (Frame g.copy y) count) (code_after g k)) (sym (ap (λ y. beyond b (pointer_bytes y)) p.spot))
      ∙ ap (λ y. todo (copies (Frame y b) (Frame y to) count) (code_after g k)) (own_copy z cp) in
      pointed_fetched z laws cp f l to count b (code_after g f) (reads_read z g sought ty line start k Computed p.spot) around (omega arith) (omega arith) reach
      k ty x p.there wide (let q = p.some in omega arith) refl
      (λ m d. pointer_at z g.copy b x m (subst (λ y. IsAt z g.copy b y start m) p.spot d.0))
      (λ v w2. refl)
      (λ v w2 m m' d short no_handler agrees holds only hv pd.
      let T = Mirrors z (state cp (Value v) k l (arrived z.outside w2)) in
      let W = world_as (held z) (arrived z.outside w2) in
      comes_within (core_in z) T (6 * count + 0) 0 24 0 d
      (move_then (core_in z) T n None (stack_after z g k) W (due_below z (arrived z.outside w2) no_handler) (again_below z w2) small b to count (code_after g k) m' d 0 0 (inl (omega arith)) (omega arith) (omega arith)
      (subst (λ y. Placed (core_in z) n None y (stack_after z g k) m' W d) r_is pd)
      (λ d2 pd2. comes_here (core_in z) T d2
      (gives z laws cp k l (arrived z.outside w2) m' count (λ j. m' (Frame n (to + j))) v d2 below short (λ i lt. hv i lt)
      (subst (λ y. Placed (core_in z) n None (code_after g k) (stack_after z g k) (with_bytes m' (Frame n b) count (λ j. m' (Frame n (to + j)))) y d2) (same_below z w2) pd2)
      (agrees_above z laws cp (active cp (Value v) k) l m m' to around.reached (let q = value_high z cp k below in omega arith) only agrees)
      (holds_above z cp k m m' to below (omega arith) only holds.1))))
      (omega arith) (omega arith))
      read w c (omega arith) are due h

  -- updates and steps go on with it
  pub pointed_update : (op : BinOp) (sought : Place) (right : Expression) (operation : Ty) (size : ℕ) (ty : Ty) (line : ℕ) (x : Pointer) (u : Datum) (k : List Pending) (read : List value.Byte) (w : World value.Byte) (c : Machine) → PointedPlace z cp sought x (type_bytes z.program.sizes ty) → Around z cp (In (tree.Update op sought right operation size ty line) (AtWith (spots.Memory x) u) ∷ k) → ReachesAll z cp (In (tree.Update op sought right operation size ty line) (AtWith (spots.Memory x) u) ∷ k)
      → place_width (ground_in z cp).layout sought ≡ type_bytes z.program.sizes ty → base (ground_in z cp) k + 2 ≤ above (ground_in z cp) (base (ground_in z cp) k) (tree.Update op sought right operation size ty line) (AtWith (spots.Memory x) u)
      → above (ground_in z cp) (base (ground_in z cp) k) (tree.Update op sought right operation size ty line) (AtWith (spots.Memory x) u) + type_bytes z.program.sizes ty ≤ (core_in z).program.frame_bytes (number z cp) → length read ≤ type_bytes z.program.sizes ty → AreRead z.program ty [] read → is_due (arrived z.outside w) ≡ false
      → Mirrors z (state cp (Fetch (stepped (length read) (spots.Memory x)) read) (In (tree.Update op sought right operation size ty line) (AtWith (spots.Memory x) u) ∷ k) l w) c
      → Follow z (either (nat_lt (length read) (type_bytes z.program.sizes ty)) 30 27) (one_if (nat_lt (length read) (type_bytes z.program.sizes ty))) c (fetch (source_in z) (stepped (length read) (spots.Memory x)) read (In (tree.Update op sought right operation size ty line) (AtWith (spots.Memory x) u) ∷ k) cp l (arrived z.outside w))
  unfolding active
  pointed_update op sought right operation size ty line x u k read w c p around reach wide high room le are due h =
      let g = ground_in z cp in
      let n = number z cp in
      let b = base g k in
      let e = tree.Update op sought right operation size ty line in
      let start = spots.Memory x in
      let f = In e (AtWith start u) ∷ k in
      let to = above g b e (AtWith start u) in
      pointed_fetched z laws cp f l to (place_width g.layout sought) b (code_after g f) (reads_update z g op sought right operation size ty line start u k Computed p.spot) around (omega arith) high reach
      f ty x p.there wide (let q = p.some in omega arith) refl
      (λ m d. pointer_at z g.copy b x m (subst (λ y. IsAt z g.copy b y start m) p.spot d.0.0))
      (λ v w2. refl)
      (λ v w2 m m' d short no_handler agrees holds only hv pd.
      comes_within (core_in z) (Mirrors z (state cp (Value v) f l (arrived z.outside w2))) 0 0 24 0 d
      (arrive z cp (Value v) f l w2 m' d pd
      (agrees_above z laws cp (active cp (Value v) f) l m m' to around.reached (value_high z cp f around) only agrees)
      (holds_above z cp f m m' to around (omega arith) only holds)
      (subst (λ y. HasDatum z y to v m') (sym (own_copy z cp)) hv))
      (omega arith) (omega arith))
      read w c (omega arith) are due h

  pub pointed_step : (op : StepOp) (sought : Place) (operation : Ty) (size : ℕ) (ty : Ty) (line : ℕ) (x : Pointer) (k : List Pending) (read : List value.Byte) (w : World value.Byte) (c : Machine) → PointedPlace z cp sought x (type_bytes z.program.sizes ty) → Around z cp (In (tree.Step op sought operation size ty line) (At (spots.Memory x)) ∷ k) → ReachesAll z cp (In (tree.Step op sought operation size ty line) (At (spots.Memory x)) ∷ k)
      → place_width (ground_in z cp).layout sought ≡ type_bytes z.program.sizes ty → base (ground_in z cp) k + 2 ≤ above (ground_in z cp) (base (ground_in z cp) k) (tree.Step op sought operation size ty line) (At (spots.Memory x))
      → above (ground_in z cp) (base (ground_in z cp) k) (tree.Step op sought operation size ty line) (At (spots.Memory x)) + type_bytes z.program.sizes ty ≤ (core_in z).program.frame_bytes (number z cp) → length read ≤ type_bytes z.program.sizes ty → AreRead z.program ty [] read → is_due (arrived z.outside w) ≡ false
      → Mirrors z (state cp (Fetch (stepped (length read) (spots.Memory x)) read) (In (tree.Step op sought operation size ty line) (At (spots.Memory x)) ∷ k) l w) c
      → Follow z (either (nat_lt (length read) (type_bytes z.program.sizes ty)) 30 27) (one_if (nat_lt (length read) (type_bytes z.program.sizes ty))) c (fetch (source_in z) (stepped (length read) (spots.Memory x)) read (In (tree.Step op sought operation size ty line) (At (spots.Memory x)) ∷ k) cp l (arrived z.outside w))
  unfolding active
  pointed_step op sought operation size ty line x k read w c p around reach wide high room le are due h =
      let g = ground_in z cp in
      let b = base g k in
      let e = tree.Step op sought operation size ty line in
      let start = spots.Memory x in
      let f = In e (At start) ∷ k in
      let to = above g b e (At start) in
      pointed_fetched z laws cp f l to (place_width g.layout sought) b (code_after g f) (reads_step z g op sought operation size ty line start k Computed p.spot) around (omega arith) high reach
      f ty x p.there wide (let q = p.some in omega arith) refl
      (λ m d. pointer_at z g.copy b x m (subst (λ y. IsAt z g.copy b y start m) p.spot d.0.0))
      (λ v w2. refl)
      (λ v w2 m m' d short no_handler agrees holds only hv pd.
      comes_within (core_in z) (Mirrors z (state cp (Value v) f l (arrived z.outside w2))) 0 0 24 0 d
      (arrive z cp (Value v) f l w2 m' d pd
      (agrees_above z laws cp (active cp (Value v) f) l m m' to around.reached (value_high z cp f around) only agrees)
      (holds_above z cp f m m' to around (omega arith) only holds)
      (subst (λ y. HasDatum z y to v m') (sym (own_copy z cp)) hv))
      (omega arith) (omega arith))
      read w c (omega arith) are due h
