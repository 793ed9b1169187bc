-- Structures that are read for nothing: byte code reads them as if their bytes were wanted.
use Rattle.c_typed.specs.Trees as tree
use Rattle.c_typed.specs.Trees.{Place}
use Rattle.c_typed.specs.Types.{type_bytes}
use Rattle.c_typed.specs.declared.types.Ty.TheVariants as types
use Rattle.c_typed.specs.declared.types.Ty.{Ty}
use Rattle.core_code.specs.Bytes.{behind as core_behind, is_private, with_bytes}
use Rattle.core_code.specs.Machine.{Machine, Put, Task, loading}
use Rattle.core_code.specs.declared.code.Byte.TheVariants.{Frame}
use Rattle.core_code.specs.declared.code.Byte.{Byte}
use Rattle.core_puts.specs.Bytes.{beyond}
use Rattle.lower_expr.specs.Layout.{width}
use Rattle.core_puts.specs.Puts.{copies}
use Rattle.lower_expr.specs.Spots.{pointer_bytes, spot_of}
use Rattle.lower_expr.specs.declared.places.Spot as place
use Rattle.lower_expr.specs.declared.places.Spot.TheVariants.{Bit, Computed, Fixed}
use Rattle.lower_trace.proofs.Beginnings.{Follow}
use Rattle.lower_trace.proofs.Changing.{agrees_above, holds_above}
use Rattle.lower_trace.proofs.CodeLeft.{Scene, above, base, code_after, copies_from, core_in, ground_in, held, is_fixed, kept_value, number, putting, putting_if, reading, reading_at, skimmed, source_in, stack_after, todo, unset_bytes}
use Rattle.lower_trace.proofs.Constants.{again_below, due_below, same_below}
use Rattle.lower_trace.proofs.Costs.{skimmed_cost}
use Rattle.lower_trace.proofs.Fetching.{fixed_done, more_length, more_there, putting_last}
use Rattle.lower_trace.proofs.FixedFetches.{FixedPlace, follow_within}
use Rattle.lower_trace.proofs.FixedPlaces.{own_spot}
use Rattle.lower_trace.proofs.FixedReads.{fetch_fixed, reads_read}
use Rattle.lower_trace.proofs.FixedWrites.{move_then}
use Rattle.lower_trace.proofs.Giving.{Around, gives, value_high}
use Rattle.lower_trace.proofs.Kept.{SceneLaws, own_copy}
use Rattle.lower_trace.proofs.Loading.{ReachesAll, fetch_pointed}
use Rattle.lower_trace.proofs.Mirrors.{HasDatum, IsAt, Mirrors, at_byte, last_of}
use Rattle.lower_trace.proofs.Operations.{Comes, beyond_is, comes_here, comes_within}
use Rattle.lower_trace.proofs.Placed.{Placed}
use Rattle.lower_trace.proofs.Places.{read_found}
use Rattle.lower_trace.proofs.Prices.{some_left}
use Rattle.lower_trace.proofs.Pointed.{pointed_all, pointer_at}
use Rattle.lower_trace.specs.Lowering.{object_as, offset_as}
use Rattle.pic_world.specs.World.{World, arrived, is_due, world_as}
use Rattle.src_rules.proofs.Places.{SpotIsThere}
use Rattle.src_rules.specs.Accesses.{after_taking, is_any, skim}
use Rattle.src_rules.specs.Standing.{stepped}
use Rattle.src_rules.specs.State.{state}
use Rattle.src_values.specs.Accesses.{Breaks, Takes, Taking, take_byte}
use Rattle.src_values.specs.Control.{At, Fetch, Focus, Found, In, Nothing, Pending, Holds as Value, Skim, active, line_at}
use Rattle.src_values.specs.Data as datum
use Rattle.src_values.specs.Memory as source
use Rattle.src_values.specs.Objects.{next_byte}
use Rattle.src_values.specs.declared.objects.Byte as value
use Rattle.src_values.specs.declared.objects.Byte.TheVariants as values
use Rattle.src_values.specs.declared.objects.CopyOf.{CopyOf}
use Rattle.src_values.specs.declared.objects.Object as object
use Rattle.src_values.specs.declared.objects.Pointer.TheVariants.{Into, Null}
use Rattle.src_values.specs.declared.objects.Pointer.{Pointer}
use Rattle.src_values.specs.declared.objects.Spot as spot
use Rattle.src_values.specs.declared.objects.Spot.TheVariants as spots
use Rattle.std.proofs.Common.{Bool, List, None, Option, Some, [], ap, arith, false, if◌then◌else◌, inl, length, refl, subst, suc, sym, true, zero, ℕ, ◌*◌, ◌++◌, ◌+◌, ◌-◌, ◌<◌, ◌∙◌, ◌∷◌, ◌≡◌, ◌≤◌}
use Rattle.std.specs.Prelude.{slice_index_or}

-- ---- the byte that was read last
last_is : (read : List value.Byte) (j : ℕ) → length read ≡ suc j → last_of read ≡ Some (slice_index_or read j values.Unset)
last_is [] j e = absurd (omega arith)
last_is (x ∷ []) zero e = refl
last_is (x ∷ []) (suc j) e = absurd (omega arith)
last_is (x ∷ y ∷ more) zero e = absurd (omega arith)
last_is (x ∷ y ∷ more) (suc j) e = last_is (y ∷ more) j (omega arith)

unset_length : (n : ℕ) → length (unset_bytes n) ≡ n
unset_length zero = refl
unset_length (suc n) = ap suc (unset_length n)

last_more : (read : List value.Byte) (byte : value.Byte) → last_of (read ++ byte ∷ []) ≡ Some byte
last_more read byte = last_is (read ++ byte ∷ []) (length read) (more_length read byte ∙ (omega arith)) ∙ ap Some (more_there read byte)

-- bytes as code has them: as many, and the same one last
pub record Alike (read other : List value.Byte) : Type 0 where
  pub count : length read ≡ length other
  pub last : last_of read ≡ last_of other

skimmed_alike : (read : List value.Byte) → Alike (skimmed (length read) (last_of read)) read
skimmed_alike [] = record { count = refl; last = refl }
skimmed_alike (x ∷ more) =
    let j = length more in
    let byte = slice_index_or (x ∷ more) j values.Unset in
    let e : last_of (x ∷ more) ≡ Some byte = last_is (x ∷ more) j refl in
    let same : skimmed (length (x ∷ more)) (last_of (x ∷ more)) ≡ unset_bytes (length (x ∷ more) - 1) ++ byte ∷ [] = ap (skimmed (length (x ∷ more))) e in
    let n : length (unset_bytes (length (x ∷ more) - 1)) ≡ length (x ∷ more) - 1 = unset_length (length (x ∷ more) - 1) in
    record {
      count = ap length same ∙ more_length (unset_bytes (length (x ∷ more) - 1)) byte ∙ (omega arith);
      last = ap last_of same ∙ last_more (unset_bytes (length (x ∷ more) - 1)) byte ∙ sym e;
    }

putting_alike : (z : Scene) (n b j : ℕ) (read other : List value.Byte) (c : List Task) → length read ≡ suc j → length other ≡ suc j → last_of read ≡ last_of other → putting z (Frame n b) read c ≡ putting z (Frame n b) other c
putting_alike z n b j read other c e f g =
    putting_last z n b j read c e
    ∙ ap (λ y. Put (Frame n (b + j)) (held z y) ∷ c) (same_byte_is (slice_index_or read j values.Unset) (slice_index_or other j values.Unset) (sym (last_is read j e) ∙ g ∙ last_is other j f))
    ∙ sym (putting_last z n b j other c f)
  where
    or_unset : Option value.Byte → value.Byte
    or_unset None = values.Unset
    or_unset (Some x) = x

    same_byte_is : (x y : value.Byte) → Some x ≡ Some y → x ≡ y
    same_byte_is x y e = ap or_unset e

putting_if_alike : (b : Bool) (z : Scene) (n t j : ℕ) (read other : List value.Byte) (c : List Task) → length read ≡ suc j → length other ≡ suc j → last_of read ≡ last_of other → putting_if b z (Frame n t) read c ≡ putting_if b z (Frame n t) other c
putting_if_alike true z n t j read other c e f g = putting_alike z n t j read other c e f g
putting_if_alike false z n t j read other c e f g = refl

reading_alike : (z : Scene) (s : place.Spot) (at : spot.Spot) (pointer : Byte) (n t count : ℕ) (read other : List value.Byte) (r : List Task) → ((register bit : ℕ) → s ≡ Bit register bit → ⊥) → length read ≡ length other → last_of read ≡ last_of other
    → reading z s at pointer (Frame n t) count read r ≡ reading z s at pointer (Frame n t) count other r
reading_alike z s at pointer n t count [] [] r unlike e g = refl
reading_alike z s at pointer n t count [] (y ∷ more) r unlike e g = absurd (omega arith)
reading_alike z s at pointer n t count (x ∷ more) [] r unlike e g = absurd (omega arith)
reading_alike z (Bit register bit) at pointer n t count (x ∷ more) (y ∷ rest) r unlike e g = absurd (unlike register bit refl)
reading_alike z (Fixed from) at pointer n t count (x ∷ more) (y ∷ rest) r unlike e g =
    putting_if_alike (if is_private from then false else true) z n t (length more) (x ∷ more) (y ∷ rest) (todo (copies_from (Frame n t) from (length (x ∷ more)) (count - length (x ∷ more))) r) refl (sym e) g
    ∙ ap (λ i. putting_if (if is_private from then false else true) z (Frame n t) (y ∷ rest) (todo (copies_from (Frame n t) from i (count - i)) r)) e
reading_alike z Computed (spots.Memory Null) pointer n t count (x ∷ more) (y ∷ rest) r unlike e g = refl
reading_alike z Computed (spots.Device a) pointer n t count (x ∷ more) (y ∷ rest) r unlike e g = refl
reading_alike z Computed (spots.Bit register bit) pointer n t count (x ∷ more) (y ∷ rest) r unlike e g = refl
reading_alike z Computed (spots.Memory (Into o f)) pointer n t count (x ∷ more) (y ∷ rest) r unlike e g =
    putting_if_alike (is_fixed o) z n t (length more) (x ∷ more) (y ∷ rest) (loading (core_behind (Frame n t) (length (x ∷ more))) (object_as z.copies o) (offset_as z.program o + f) (count - length (x ∷ more)) r) refl (sym e) g
    ∙ ap (λ i. putting_if (is_fixed o) z (Frame n t) (y ∷ rest) (loading (core_behind (Frame n t) i) (object_as z.copies o) (offset_as z.program o + f) (count - i) r)) e

-- ---- as a read whose bytes are wanted
follow_as : (z : Scene) (q e : ℕ) (c : Machine) (t : Taking) (next other : value.Byte → Focus) (cp : CopyOf) (k : List Pending) (l : source.Memory) (line : ℕ)
    → ((byte : value.Byte) (w : World value.Byte) (d : Machine) → Mirrors z (state cp (next byte) k l w) d → Mirrors z (state cp (other byte) k l w) d)
    → Follow z q e c (after_taking t next cp k l line) → Follow z q e c (after_taking t other cp k l line)
follow_as z q e c (Takes byte w event) next other cp k l line turns h = record { count = h.count; place = h.place; walk = h.walk; is = turns byte w h.place h.is }
follow_as z q e c (Breaks kind) next other cp k l line turns h = tt

-- a read of which so many bytes are left
pub record AsFetch (z : Scene) (cp : CopyOf) (sought : Place) (ty : Ty) (line : ℕ) (start at : spot.Spot) (left : ℕ) (byte : Option value.Byte) (k : List Pending) (l : source.Memory) (w : World value.Byte) (c : Machine) : Type 0 where
  pub read : List value.Byte
  pub count : length read + left ≡ width (ground_in z cp).layout ty
  pub last : last_of read ≡ byte
  pub stands : Mirrors z (state cp (Fetch at read) (In (tree.Read sought ty line) (At start) ∷ k) l w) c

module _ (z : Scene) (laws : SceneLaws z) (cp : CopyOf) (l : source.Memory) (sought : Place) (ty : Ty) (line : ℕ) (start : spot.Spot) (k : List Pending) (plain : (register bit : ℕ) → spot_of (ground_in z cp).layout (ground_in z cp).copy sought ≡ Bit register bit → ⊥) where
  skim_code : (at : spot.Spot) (read : List value.Byte) (left : ℕ) → length read + left ≡ width (ground_in z cp).layout ty
      → reading_at z (ground_in z cp) (In (tree.Read sought ty line) (At start) ∷ k) at (skimmed (width (ground_in z cp).layout ty - left) (last_of read)) ≡ reading_at z (ground_in z cp) (In (tree.Read sought ty line) (At start) ∷ k) at read
  skim_code at read left e =
      let g = ground_in z cp in
      let f = In (tree.Read sought ty line) (At start) ∷ k in
      let n : width g.layout ty - left ≡ length read = omega arith in
      let a = skimmed_alike read in
      ap (λ i. reading_at z g f at (skimmed i (last_of read))) n
      ∙ reading_alike z (spot_of g.layout g.copy sought) at (Frame g.copy (base g k)) g.copy (above g (base g k) (tree.Read sought ty line) (At start)) (width g.layout ty) (skimmed (length read) (last_of read)) read (code_after g f) plain a.count a.last

  as_fetch : (at : spot.Spot) (left : ℕ) (byte : Option value.Byte) (w : World value.Byte) (c : Machine) → Mirrors z (state cp (Skim at left byte) (In (tree.Read sought ty line) (At start) ∷ k) l w) c → AsFetch z cp sought ty line start at left byte k l w c
  unfolding active
  as_fetch at left byte w c h =
      let v = h.value in
      let g = ground_in z cp in
      let f = In (tree.Read sought ty line) (At start) ∷ k in
      record {
        read = v.0;
        count = v.1;
        last = v.2;
        stands = record {
          copy = h.copy;
          passing = h.passing;
          code = h.code ∙ ap (λ y. reading_at z g f at (skimmed (width g.layout ty - left) y)) (sym v.2) ∙ skim_code at v.0 left v.1;
          stack = h.stack;
          agrees = h.agrees;
          holds = h.holds;
          value = v.3;
          world = h.world;
        };
      }

  as_skim : (at : spot.Spot) (read : List value.Byte) (left : ℕ) (byte : Option value.Byte) (w : World value.Byte) (c : Machine) → length read + left ≡ width (ground_in z cp).layout ty → last_of read ≡ byte → Mirrors z (state cp (Fetch at read) (In (tree.Read sought ty line) (At start) ∷ k) l w) c
      → Mirrors z (state cp (Skim at left byte) (In (tree.Read sought ty line) (At start) ∷ k) l w) c
  unfolding active
  as_skim at read left byte w c e last h =
      let g = ground_in z cp in
      let f = In (tree.Read sought ty line) (At start) ∷ k in
      record {
        copy = h.copy;
        passing = h.passing;
        code = h.code ∙ sym (ap (λ y. reading_at z g f at (skimmed (width g.layout ty - left) y)) (sym last) ∙ skim_code at read left e);
        stack = h.stack;
        agrees = h.agrees;
        holds = h.holds;
        value = (read, e, last, h.value);
        world = h.world;
      }

  -- the read begins
  pub skim_begins : (at : spot.Spot) (number : ℕ) (w : World value.Byte) (c : Machine) → ty ≡ types.Struct number → start ≡ at → width (ground_in z cp).layout ty ≡ type_bytes z.program.sizes ty → base (ground_in z cp) k ≤ 65535
      → Mirrors z (state cp (Found at) (In (tree.Read sought ty line) Nothing ∷ k) l w) c
      → Comes (core_in z) (Mirrors z (state cp (Skim at (type_bytes z.program.sizes ty) None) (In (tree.Read sought ty line) (At at) ∷ k) l (arrived z.outside w))) 0 0 c
  skim_begins at number w c is same wide small h =
      let x = read_found z laws sought ty line at k cp l w c small h in
      record { count = x.count; place = x.place; walk = x.walk; is = begun x.place x.is }
    where
      begun : (d : Machine) → Mirrors z (state cp (Fetch at []) (In (tree.Read sought ty line) (At at) ∷ k) l (arrived z.outside w)) d → Mirrors z (state cp (Skim at (type_bytes z.program.sizes ty) None) (In (tree.Read sought ty line) (At at) ∷ k) l (arrived z.outside w)) d
      begun d m = subst (λ s. Mirrors z (state cp (Skim at (type_bytes z.program.sizes ty) None) (In (tree.Read sought ty line) (At s) ∷ k) l (arrived z.outside w)) d) same
          (as_skim at [] (type_bytes z.program.sizes ty) None (arrived z.outside w) d (let e : 0 + type_bytes z.program.sizes ty ≡ type_bytes z.program.sizes ty = omega arith in e ∙ sym wide) refl
          (subst (λ s. Mirrors z (state cp (Fetch at []) (In (tree.Read sought ty line) (At s) ∷ k) l (arrived z.outside w)) d) (sym same) m))

  -- ---- a fixed place
  skim_next : (at next : spot.Spot) (left : ℕ) (read : List value.Byte) (t : Taking) (w : World value.Byte) (c : Machine) (q e : ℕ) → length read + suc left ≡ width (ground_in z cp).layout ty
      → Follow z q e c (after_taking t (λ byte. Fetch next (read ++ byte ∷ [])) cp (In (tree.Read sought ty line) (At start) ∷ k) l (line_at (In (tree.Read sought ty line) (At start) ∷ k)))
      → Follow z q e c (after_taking t (λ byte. Skim next left (Some byte)) cp (In (tree.Read sought ty line) (At start) ∷ k) l (line_at (In (tree.Read sought ty line) (At start) ∷ k)))
  skim_next at next left read t w c q e count h =
      follow_as z q e c t (λ byte. Fetch next (read ++ byte ∷ [])) (λ byte. Skim next left (Some byte)) cp (In (tree.Read sought ty line) (At start) ∷ k) l (line_at (In (tree.Read sought ty line) (At start) ∷ k))
      (λ byte w2 d m. as_skim next (read ++ byte ∷ []) left (Some byte) w2 d (let n = more_length read byte in omega arith) (last_more read byte) m) h

  pub skim_fixed : (from : Byte) (done left : ℕ) (byte : Option value.Byte) (w : World value.Byte) (c : Machine) → FixedPlace z cp sought start from (type_bytes z.program.sizes ty) → Around z cp (In (tree.Read sought ty line) (At start) ∷ k)
      → width (ground_in z cp).layout ty ≡ type_bytes z.program.sizes ty → base (ground_in z cp) k + type_bytes z.program.sizes ty ≤ (core_in z).program.frame_bytes (number z cp) → base (ground_in z cp) k ≤ 96 → done + left ≡ type_bytes z.program.sizes ty → is_due (arrived z.outside w) ≡ false
      → Mirrors z (state cp (Skim (stepped done start) left byte) (In (tree.Read sought ty line) (At start) ∷ k) l w) c
      → Follow z 6 (some_left left) c (skim (source_in z) (stepped done start) left byte (In (tree.Read sought ty line) (At start) ∷ k) cp l (arrived z.outside w))
  unfolding active
  skim_fixed from done zero byte w c p around wide room low all due h =
      let g = ground_in z cp in
      let b = base g k in
      let e = tree.Read sought ty line in
      let f = In e (At start) ∷ k in
      let at = stepped done start in
      let x = as_fetch at zero byte w c h in
      let n = x.count in
      let to_is : b ≡ above g b e (At start) = sym (ap (λ y. beyond b (pointer_bytes y)) p.spot ∙ beyond_is b 0 (omega arith) ∙ (omega arith)) in
      comes_within (core_in z) (Mirrors z (state cp (Value datum.Missing) k l (arrived z.outside w))) 3 0 6 0 c
      (fixed_done z laws cp f l from (above g b e (At start)) (width g.layout ty) (Frame g.copy b) (code_after g f) (reads_read z g sought ty line start k (Fixed from) p.spot) around at x.read datum.Missing k w c (omega arith) (omega arith) (omega arith) (λ i lt. absurd (omega arith))
      (ap (λ y. todo (kept_value y (Frame g.copy b) (width g.layout ty)) (code_after g k)) p.spot) refl to_is (λ m d. d.1) refl due (is_private from) refl x.stands)
      (omega arith) (omega arith)
  skim_fixed from done (suc left) byte w c p around wide room low all due h =
      let g = ground_in z cp in
      let b = base g k in
      let e = tree.Read sought ty line in
      let f = In e (At start) ∷ k in
      let at = stepped done start in
      let x = as_fetch at (suc left) byte w c h in
      let n = x.count in
      let done_is : length x.read ≡ done = omega arith in
      let is : at_byte z start ≡ Some from = subst (λ y. IsAt z g.copy b y start c.memory) p.spot h.holds.0 in
      let to_is : b ≡ above g b e (At start) = sym (ap (λ y. beyond b (pointer_bytes y)) p.spot ∙ beyond_is b 0 (omega arith) ∙ (omega arith)) in
      skim_next at (next_byte at) left x.read (take_byte (source_in z) (active cp (Skim at (suc left) byte) f) cp.root is_any at l (arrived z.outside w)) w c 6 1 n
      (subst (λ i. Follow z 6 1 c (after_taking (take_byte (source_in z) (active cp (Fetch (stepped i start) x.read) f) cp.root is_any (stepped i start) l (arrived z.outside w)) (λ y. Fetch (next_byte (stepped i start)) (x.read ++ y ∷ [])) cp f l (line_at f))) done_is
      (fetch_fixed z laws cp f l from (above g b e (At start)) (width g.layout ty) (Frame g.copy b) (code_after g f) (reads_read z g sought ty line start k (Fixed from) p.spot) around (omega arith) start is_any x.read (line_at f) w c is
      (own_spot z cp g.layout g.copy sought from start p.spot around.reached p.there p.found) (λ a q. wide ∙ p.one a q) (omega arith) due
      (subst (λ i. Mirrors z (state cp (Fetch (stepped i start) x.read) f l w) c) (sym done_is) x.stands)))

  -- ---- a place that a pointer leads to
  null_skim : (left : ℕ) (byte : Option value.Byte) (w : World value.Byte) (c : Machine) → Follow z 30 1 c (skim (source_in z) (spots.Memory Null) (suc left) byte (In (tree.Read sought ty line) (At start) ∷ k) cp l (arrived z.outside w))
  unfolding take_byte
  null_skim left byte w c = tt

  pub skim_pointed : (x : Pointer) (done left : ℕ) (byte : Option value.Byte) (w : World value.Byte) (c : Machine) → start ≡ spots.Memory x → spot_of (ground_in z cp).layout (ground_in z cp).copy sought ≡ Computed → SpotIsThere z.program (spots.Memory x) → 0 < type_bytes z.program.sizes ty → Around z cp (In (tree.Read sought ty line) (At start) ∷ k) → Around z cp k → ReachesAll z cp (In (tree.Read sought ty line) (At start) ∷ k)
      → width (ground_in z cp).layout ty ≡ type_bytes z.program.sizes ty → base (ground_in z cp) k + 2 + type_bytes z.program.sizes ty ≤ (core_in z).program.frame_bytes (number z cp) → done + left ≡ type_bytes z.program.sizes ty → is_due (arrived z.outside w) ≡ false
      → Mirrors z (state cp (Skim (stepped done (spots.Memory x)) left byte) (In (tree.Read sought ty line) (At start) ∷ k) l w) c
      → Follow z (skimmed_cost (type_bytes z.program.sizes ty) left) (some_left left) c (skim (source_in z) (stepped done (spots.Memory x)) left byte (In (tree.Read sought ty line) (At start) ∷ k) cp l (arrived z.outside w))
  unfolding active
  skim_pointed x done zero byte w c same computed there some around below reach wide room all due h =
      let g = ground_in z cp in
      let n = number z cp in
      let b = base g k in
      let e = tree.Read sought ty line in
      let f = In e (At start) ∷ k in
      let size = type_bytes z.program.sizes ty in
      let at = stepped done (spots.Memory x) in
      let y = as_fetch at zero byte w c h in
      let count_is = y.count in
      let small = laws.small n in
      let to = above g b e (At start) in
      let to_is : to ≡ b + 2 = ap (λ t. beyond b (pointer_bytes t)) computed ∙ beyond_is b 2 (omega arith) in
      let p = memory_again done x in
      let V = arrived z.outside w in
      let T = Mirrors z (state cp (Value datum.Missing) k l V) in
      let W = world_as (held z) V in
      let r_is : code_after g f ≡ todo (copies (Frame n b) (Frame n to) size) (code_after g k) =
      ap (λ t. todo (kept_value t (Frame g.copy b) (width g.layout ty)) (code_after g k)) computed
      ∙ ap (λ t. todo (copies (Frame g.copy b) (Frame g.copy t) (width g.layout ty)) (code_after g k)) (sym (ap (λ t. beyond b (pointer_bytes t)) computed))
      ∙ ap (λ t. todo (copies (Frame t b) (Frame t to) (width g.layout ty)) (code_after g k)) (own_copy z cp)
      ∙ ap (λ t. todo (copies (Frame n b) (Frame n to) t) (code_after g k)) wide in
      comes_within (core_in z) T (3 + (6 * size + 0)) 0 (20 + 6 * size) 0 c
      (pointed_all z laws cp f l to (width g.layout ty) b (code_after g f) (reads_read z g sought ty line start k Computed computed) around (omega arith) (omega arith) reach T p.0 (size - 1) y.read datum.Missing w c (6 * size + 0) 0 (omega arith) (omega arith) (omega arith) (λ i lt. absurd (omega arith)) due
      (λ d m' only hv pd. move_then (core_in z) T n None (stack_after z g k) W (due_below z V due) (again_below z w) small b to size (code_after g k) m' d 0 0 (inl (omega arith)) (omega arith) (omega arith)
      (subst (λ t. Placed (core_in z) n None t (stack_after z g k) m' W d) r_is pd)
      (λ d2 pd2. comes_here (core_in z) T d2
      (gives z laws cp k l V m' size (λ j. m' (Frame n (to + j))) datum.Missing d2 below (omega arith) (λ i lt. absurd (omega arith))
      (subst (λ t. Placed (core_in z) n None (code_after g k) (stack_after z g k) (with_bytes m' (Frame n b) size (λ j. m' (Frame n (to + j)))) t d2) (same_below z w) pd2)
      (agrees_above z laws cp (active cp (Value datum.Missing) k) l c.memory m' to around.reached (let q = value_high z cp k below in omega arith) only h.agrees)
      (holds_above z cp k c.memory m' to below (omega arith) only h.holds.1))))
      (subst (λ t. Mirrors z (state cp (Fetch t y.read) f l w) c) p.1 y.stands))
      (omega arith) (omega arith)
    where
      memory_again : (i : ℕ) (y : Pointer) → (p : Pointer) × (stepped i (spots.Memory y) ≡ spots.Memory p)
      memory_again i Null = (Null, refl)
      memory_again i (Into o f) = (Into o (f + i), refl)
  skim_pointed Null done (suc left) byte w c same computed there some around below reach wide room all due h = null_skim left byte w c
  skim_pointed (Into o i) done (suc left) byte w c same computed there some around below reach wide room all due h =
      let g = ground_in z cp in
      let b = base g k in
      let e = tree.Read sought ty line in
      let f = In e (At start) ∷ k in
      let at = stepped done (spots.Memory (Into o i)) in
      let y = as_fetch at (suc left) byte w c h in
      let count_is = y.count in
      let small = laws.small (number z cp) in
      let to = above g b e (At start) in
      let to_is : to ≡ b + 2 = ap (λ t. beyond b (pointer_bytes t)) computed ∙ beyond_is b 2 (omega arith) in
      let pointer : HasDatum z g.copy b (datum.Pointer (Into o i)) c.memory = pointer_at z g.copy b (Into o i) c.memory (subst (λ t. IsAt z g.copy b Computed t c.memory) same (subst (λ t. IsAt z g.copy b t start c.memory) computed h.holds.0)) in
      skim_next at (next_byte at) left y.read (take_byte (source_in z) (active cp (Skim at (suc left) byte) f) cp.root is_any at l (arrived z.outside w)) w c 30 1 count_is
      (fetch_pointed z laws cp f l to (width g.layout ty) b (code_after g f) (reads_read z g sought ty line start k Computed computed) around (omega arith) (omega arith) reach o (i + done) is_any y.read (line_at f) w c (omega arith) there
      (λ none. let n : 0 ≡ done = let q = ap length none in omega arith in let q : i ≡ i + 0 = omega arith in subst (λ t. HasDatum z g.copy b (datum.Pointer (Into o t)) c.memory) (q ∙ ap (λ t. i + t) n) pointer)
      due y.stands)
