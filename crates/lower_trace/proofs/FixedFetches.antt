-- Nodes that read fixed places: the next byte, or the value that the bytes make.
use Rattle.c_ints.specs.declared.operators.BinOp.{BinOp}
use Rattle.c_typed.specs.Trees as tree
use Rattle.c_typed.specs.Trees.{Expression, Place}
use Rattle.c_typed.specs.Types.{type_bytes}
use Rattle.c_typed.specs.declared.expression.StepOp.{StepOp}
use Rattle.c_typed.specs.declared.types.Ty.TheVariants as types
use Rattle.c_typed.specs.declared.types.Ty.{Ty}
use Rattle.core_code.specs.Bytes.{Memory, is_private}
use Rattle.core_code.specs.Machine.{Machine, Task}
use Rattle.core_code.specs.declared.code.Byte.TheVariants.{Frame}
use Rattle.core_code.specs.declared.code.Byte.{Byte}
use Rattle.core_puts.specs.Bytes.{beyond}
use Rattle.lower_expr.specs.Layout.{place_width, width}
use Rattle.lower_expr.specs.Spots.{pointer_bytes, spot_of}
use Rattle.lower_expr.specs.declared.places.Spot.TheVariants.{Fixed}
use Rattle.src_rules.specs.Runs.{one_if}
use Rattle.lower_trace.proofs.Costs.{either, either_within}
use Rattle.lower_trace.proofs.Beginnings.{Follow}
use Rattle.lower_trace.proofs.CodeLeft.{Scene, above, base, code_after, core_in, ground_in, kept_value, number, source_in, stack_after, todo}
use Rattle.lower_trace.proofs.Converting.{not_less}
use Rattle.lower_trace.proofs.Fetching.{Reads, fixed_done}
use Rattle.lower_trace.proofs.FixedPlaces.{IsOwnSpot, own_spot}
use Rattle.lower_trace.proofs.FixedReads.{fetch_fixed, reads_read, reads_step, reads_update}
use Rattle.lower_trace.proofs.Giving.{Around}
use Rattle.lower_trace.proofs.Kept.{SceneLaws}
use Rattle.lower_trace.proofs.Mirrors.{Holds, IsAt, Mirrors, at_byte}
use Rattle.lower_trace.proofs.Operations.{beyond_is, comes_within}
use Rattle.lower_trace.proofs.ReadValues.{value_read_back}
use Rattle.lower_trace.proofs.Reading.{lt_of}
use Rattle.pic_world.specs.World.{World, arrived, is_due}
use Rattle.src_rules.specs.Accesses.{fetch, fetch_as, fetched, goes}
use Rattle.src_rules.specs.Parts.{IsPlaceOf}
use Rattle.src_rules.specs.Standing.{AreRead, IsSpotOf, stepped}
use Rattle.src_rules.specs.State.{Idle, Lost, Outcome, Undefined, Went, state}
use Rattle.src_rules.specs.Step.{start}
use Rattle.src_values.specs.Control.{At, AtWith, Fetch, In, Pending, Holds as Value, active, line_at, read_type}
use Rattle.src_values.specs.Data.{Datum}
use Rattle.src_values.specs.Memory as source
use Rattle.src_values.specs.Values as answers
use Rattle.src_values.specs.Values.{byte_count, fits_behind, joined, pointer_from, value_from}
use Rattle.src_values.specs.declared.objects.Byte as value
use Rattle.src_values.specs.declared.objects.CopyOf.{CopyOf}
use Rattle.src_values.specs.declared.objects.Spot as spot
use Rattle.src_values.specs.declared.objects.Spot.TheVariants as spots
use Rattle.std.proofs.Common.{Bool, List, None, Option, Some, [], ap, arith, false, length, nat_lt, refl, subst, sym, true, ℕ, ◌+◌, ◌<◌, ◌∙◌, ◌∷◌, ◌≡◌, ◌≤◌}

pub follow_within : (z : Scene) (q e x y : ℕ) (c : Machine) (o : Outcome) → Follow z q e c o → q ≤ x → y ≤ e → Follow z x y c o
follow_within z q e x y c (Went u event) f a b = comes_within (core_in z) (Mirrors z u) q e x y c f a b
follow_within z q e x y c (Undefined kind line) f a b = tt
follow_within z q e x y c Idle f a b = tt
follow_within z q e x y c Lost f a b = tt

-- ---- how many bytes a value that was read has
held_size : (o : Option _) → byte_count (answers.pointer_held o) ≤ 2
held_size (Some x) = omega arith
held_size None = omega arith

pointer_size : (read : List value.Byte) → byte_count (pointer_from read) ≤ 2
pointer_size [] = omega arith
pointer_size (x ∷ []) = omega arith
pointer_size (x ∷ y ∷ []) = held_size (joined x y)
pointer_size (x ∷ y ∷ u ∷ more) = omega arith

pub value_size : (sizes : List ℕ) (ty : Ty) (read : List value.Byte) → byte_count (value_from ty read) ≤ type_bytes sizes ty
unfolding value_from
value_size sizes types.Void read = omega arith
value_size sizes (types.Int ty) read = omega arith
value_size sizes (types.Pointer row) read = pointer_size read
value_size sizes (types.Array element count size) read = omega arith
value_size sizes (types.Struct number) read = omega arith

-- ---- a node that reads, and where the value goes: to the node itself, or to what waits below it
module _ (z : Scene) (laws : SceneLaws z) (cp : CopyOf) (k : List Pending) (l : source.Memory) (from : Byte) (to count : ℕ) (pointer : Byte) (r : List Task) (reads : Reads z (ground_in z cp) k (Fixed from) to count pointer r) (around : Around z cp k) (room : to + count ≤ (core_in z).program.frame_bytes (number z cp))
    (k' : List Pending) (ty : Ty) (start : spot.Spot) (is : at_byte z start ≡ Some from) (own : IsOwnSpot z cp start) (one : (a : ℕ) → start ≡ spots.Device a → count ≡ 1) (size : count ≡ type_bytes z.program.sizes ty) (type_is : read_type k ≡ ty)
    (rest : r ≡ code_after (ground_in z cp) k') (stack : stack_after z (ground_in z cp) k ≡ stack_after z (ground_in z cp) k') (based : base (ground_in z cp) k' ≡ to) (holds : (m : Memory) → Holds z (ground_in z cp) k m → Holds z (ground_in z cp) k' m)
    (live : (at : spot.Spot) (read : List value.Byte) (v : Datum) → active cp (Fetch at read) k ≡ active cp (Value v) k') (ends : (v : Datum) (w : World value.Byte) → fetched v k cp l w ≡ goes cp (Value v) k' l w) where
  fetch_case : (more : Bool) (read : List value.Byte) (w : World value.Byte) (c : Machine) → nat_lt (length read) (type_bytes z.program.sizes ty) ≡ more → length read ≤ count → AreRead z.program ty [] read → is_due (arrived z.outside w) ≡ false
      → Mirrors z (state cp (Fetch (stepped (length read) start) read) k l w) c → Follow z (either more 6 3) (one_if more) c (fetch_as ty (source_in z) (stepped (length read) start) read k cp l (arrived z.outside w))
  fetch_case true read w c lt le are due h =
      let at = stepped (length read) start in
      let less : length read < count = let q = lt_of (length read) (type_bytes z.program.sizes ty) lt in omega arith in
      rw lt
      (fetch_fixed z laws cp k l from to count pointer r reads around room start (fits_behind ty read) read (line_at k) w c is own one less due h)
  fetch_case false read w c lt le are due h =
      let at = stepped (length read) start in
      let all : length read ≡ type_bytes z.program.sizes ty = let q = not_less (length read) (type_bytes z.program.sizes ty) lt in omega arith in
      let v = value_from ty read in
      let few = value_size z.program.sizes ty read in
      rw (lt, ends v (arrived z.outside w))
      (fixed_done z laws cp k l from to count pointer r reads around at read v k' w c (omega arith) room (omega arith)
      (λ i lt2. value_read_back z ty read are all i lt2)
      rest stack based holds (live at read v) due (is_private from) refl h)

  pub fixed_fetched : (read : List value.Byte) (w : World value.Byte) (c : Machine) → length read ≤ count → AreRead z.program ty [] read → is_due (arrived z.outside w) ≡ false
      → Mirrors z (state cp (Fetch (stepped (length read) start) read) k l w) c → Follow z (either (nat_lt (length read) (type_bytes z.program.sizes ty)) 6 3) (one_if (nat_lt (length read) (type_bytes z.program.sizes ty))) c (fetch (source_in z) (stepped (length read) start) read k cp l (arrived z.outside w))
  fixed_fetched read w c le are due h =
      subst (λ t. Follow z (either (nat_lt (length read) (type_bytes z.program.sizes ty)) 6 3) (one_if (nat_lt (length read) (type_bytes z.program.sizes ty))) c (fetch_as t (source_in z) (stepped (length read) start) read k cp l (arrived z.outside w))) (sym type_is)
      (fetch_case (nat_lt (length read) (type_bytes z.program.sizes ty)) read w c refl le are due h)

  -- the same within one bound
  pub fixed_fetch : (read : List value.Byte) (w : World value.Byte) (c : Machine) → length read ≤ count → AreRead z.program ty [] read → is_due (arrived z.outside w) ≡ false
      → Mirrors z (state cp (Fetch (stepped (length read) start) read) k l w) c → Follow z 6 0 c (fetch (source_in z) (stepped (length read) start) read k cp l (arrived z.outside w))
  fixed_fetch read w c le are due h = follow_within z (either (nat_lt (length read) (type_bytes z.program.sizes ty)) 6 3) (one_if (nat_lt (length read) (type_bytes z.program.sizes ty))) 6 0 c _ (fixed_fetched read w c le are due h) (either_within (nat_lt (length read) (type_bytes z.program.sizes ty)) 6 3 6 (omega arith) (omega arith)) (omega arith)

-- What a node needs that reads or writes a fixed place of so many bytes.
pub record FixedPlace (z : Scene) (cp : CopyOf) (sought : Place) (start : spot.Spot) (from : Byte) (count : ℕ) : Type 0 where
  pub spot : spot_of (ground_in z cp).layout (ground_in z cp).copy sought ≡ Fixed from
  pub there : IsPlaceOf z.program cp.function sought
  pub found : IsSpotOf z.program cp sought start
  pub one : (a : ℕ) → start ≡ spots.Device a → count ≡ 1

module _ (z : Scene) (laws : SceneLaws z) (cp : CopyOf) (l : source.Memory) where
  -- an expression that only reads
  pub read_fetch : (sought : Place) (ty : Ty) (line : ℕ) (start : spot.Spot) (from : Byte) (k : List Pending) (read : List value.Byte) (w : World value.Byte) (c : Machine) → FixedPlace z cp sought start from (type_bytes z.program.sizes ty) → Around z cp (In (tree.Read sought ty line) (At start) ∷ k)
      → width (ground_in z cp).layout ty ≡ type_bytes z.program.sizes ty → base (ground_in z cp) k ≤ 96 → base (ground_in z cp) k + type_bytes z.program.sizes ty ≤ (core_in z).program.frame_bytes (number z cp) → length read ≤ type_bytes z.program.sizes ty → AreRead z.program ty [] read → is_due (arrived z.outside w) ≡ false
      → Mirrors z (state cp (Fetch (stepped (length read) start) read) (In (tree.Read sought ty line) (At start) ∷ k) l w) c
      → Follow z (either (nat_lt (length read) (type_bytes z.program.sizes ty)) 6 3) (one_if (nat_lt (length read) (type_bytes z.program.sizes ty))) c (fetch (source_in z) (stepped (length read) start) read (In (tree.Read sought ty line) (At start) ∷ k) cp l (arrived z.outside w))
  unfolding active
  read_fetch sought ty line start from k read w c p around wide low room le are due h =
      let g = ground_in z cp in
      let b = base g k in
      let s = spot_of g.layout g.copy sought in
      let e = tree.Read sought ty line in
      let at_b : above g b e (At start) ≡ b = ap (λ y. beyond b (pointer_bytes y)) p.spot ∙ beyond_is b 0 (omega arith) ∙ (omega arith) in
      let is : at_byte z start ≡ Some from = subst (λ y. IsAt z g.copy b y start c.memory) p.spot h.holds.0 in
      fixed_fetched z laws cp (In e (At start) ∷ k) l from (above g b e (At start)) (width g.layout ty) (Frame g.copy b) (code_after g (In e (At start) ∷ k)) (reads_read z g sought ty line start k (Fixed from) p.spot) around (omega arith)
      k ty start is (own_spot z cp g.layout g.copy sought from start p.spot around.reached p.there p.found) (λ a q. wide ∙ p.one a q) wide refl
      (ap (λ y. todo (kept_value y (Frame g.copy b) (width g.layout ty)) (code_after g k)) p.spot)
      refl (sym at_b) (λ m d. d.1) (λ at r v. refl) (λ v w2. refl) read w c (omega arith) are due h

  -- updates and steps read their place, and go on
  pub update_fetch : (op : BinOp) (sought : Place) (right : Expression) (operation : Ty) (size : ℕ) (ty : Ty) (line : ℕ) (start : spot.Spot) (u : Datum) (from : Byte) (k : List Pending) (read : List value.Byte) (w : World value.Byte) (c : Machine) → FixedPlace z cp sought start from (type_bytes z.program.sizes ty) → Around z cp (In (tree.Update op sought right operation size ty line) (AtWith start u) ∷ k)
      → place_width (ground_in z cp).layout sought ≡ type_bytes z.program.sizes ty → above (ground_in z cp) (base (ground_in z cp) k) (tree.Update op sought right operation size ty line) (AtWith start u) + type_bytes z.program.sizes ty ≤ (core_in z).program.frame_bytes (number z cp) → length read ≤ type_bytes z.program.sizes ty → AreRead z.program ty [] read → is_due (arrived z.outside w) ≡ false
      → Mirrors z (state cp (Fetch (stepped (length read) start) read) (In (tree.Update op sought right operation size ty line) (AtWith start u) ∷ k) l w) c
      → Follow z (either (nat_lt (length read) (type_bytes z.program.sizes ty)) 6 3) (one_if (nat_lt (length read) (type_bytes z.program.sizes ty))) c (fetch (source_in z) (stepped (length read) start) read (In (tree.Update op sought right operation size ty line) (AtWith start u) ∷ k) cp l (arrived z.outside w))
  unfolding active
  update_fetch op sought right operation size ty line start u from k read w c p around wide room le are due h =
      let g = ground_in z cp in
      let b = base g k in
      let e = tree.Update op sought right operation size ty line in
      let f = In e (AtWith start u) ∷ k in
      let is : at_byte z start ≡ Some from = subst (λ y. IsAt z g.copy b y start c.memory) p.spot h.holds.0.0 in
      fixed_fetched z laws cp f l from (above g b e (AtWith start u)) (place_width g.layout sought) (Frame g.copy b) (code_after g f) (reads_update z g op sought right operation size ty line start u k (Fixed from) p.spot) around (omega arith)
      f ty start is (own_spot z cp g.layout g.copy sought from start p.spot around.reached p.there p.found) (λ a q. wide ∙ p.one a q) wide refl
      refl refl refl (λ m d. d) (λ at r v. refl) (λ v w2. refl) read w c (omega arith) are due h

  pub step_fetch : (op : StepOp) (sought : Place) (operation : Ty) (size : ℕ) (ty : Ty) (line : ℕ) (start : spot.Spot) (from : Byte) (k : List Pending) (read : List value.Byte) (w : World value.Byte) (c : Machine) → FixedPlace z cp sought start from (type_bytes z.program.sizes ty) → Around z cp (In (tree.Step op sought operation size ty line) (At start) ∷ k)
      → place_width (ground_in z cp).layout sought ≡ type_bytes z.program.sizes ty → above (ground_in z cp) (base (ground_in z cp) k) (tree.Step op sought operation size ty line) (At start) + type_bytes z.program.sizes ty ≤ (core_in z).program.frame_bytes (number z cp) → length read ≤ type_bytes z.program.sizes ty → AreRead z.program ty [] read → is_due (arrived z.outside w) ≡ false
      → Mirrors z (state cp (Fetch (stepped (length read) start) read) (In (tree.Step op sought operation size ty line) (At start) ∷ k) l w) c
      → Follow z (either (nat_lt (length read) (type_bytes z.program.sizes ty)) 6 3) (one_if (nat_lt (length read) (type_bytes z.program.sizes ty))) c (fetch (source_in z) (stepped (length read) start) read (In (tree.Step op sought operation size ty line) (At start) ∷ k) cp l (arrived z.outside w))
  unfolding active
  step_fetch op sought operation size ty line start from k read w c p around wide room le are due h =
      let g = ground_in z cp in
      let b = base g k in
      let e = tree.Step op sought operation size ty line in
      let f = In e (At start) ∷ k in
      let is : at_byte z start ≡ Some from = subst (λ y. IsAt z g.copy b y start c.memory) p.spot h.holds.0.0 in
      fixed_fetched z laws cp f l from (above g b e (At start)) (place_width g.layout sought) (Frame g.copy b) (code_after g f) (reads_step z g op sought operation size ty line start k (Fixed from) p.spot) around (omega arith)
      f ty start is (own_spot z cp g.layout g.copy sought from start p.spot around.reached p.there p.found) (λ a q. wide ∙ p.one a q) wide refl
      refl refl refl (λ m d. d) (λ at r v. refl) (λ v w2. refl) read w c (omega arith) are due h
