-- Nodes that read bits of registers: the byte that has the bit, and the value that it makes.
use Rattle.c_ints.specs.declared.operators.BinOp.{BinOp}
use Rattle.c_ints.specs.declared.types.IntTy.TheVariants as int
use Rattle.c_typed.specs.Fits.{is_device}
use Rattle.c_typed.specs.Trees as tree
use Rattle.c_typed.specs.Trees.{Expression, Place}
use Rattle.c_typed.specs.declared.expression.StepOp.{StepOp}
use Rattle.c_typed.specs.declared.types.Ty.TheVariants as types
use Rattle.c_typed.specs.declared.types.Ty.{Ty}
use Rattle.core_code.specs.Bytes as bytes
use Rattle.core_code.specs.Bytes.{Memory}
use Rattle.core_code.specs.Machine.{Machine, Task}
use Rattle.core_code.specs.declared.code.Byte.TheVariants.{Frame}
use Rattle.core_code.specs.declared.code.Byte.{Byte}
use Rattle.core_puts.specs.Bytes.{beyond}
use Rattle.lower_expr.specs.Layout.{place_width, width}
use Rattle.lower_expr.specs.Spots.{pointer_bytes, spot_of}
use Rattle.lower_expr.specs.declared.places.Spot.TheVariants.{Bit}
use Rattle.src_rules.specs.Runs.{one_if}
use Rattle.lower_trace.proofs.Beginnings.{Follow}
use Rattle.lower_trace.proofs.Bits.{bit_done, fetch_bit}
use Rattle.lower_trace.proofs.CodeLeft.{Scene, above, base, code_after, core_in, ground_in, held, kept_value, number, source_in, stack_after, todo}
use Rattle.lower_trace.proofs.Fetching.{Reads}
use Rattle.lower_trace.proofs.FixedFetches.{follow_within}
use Rattle.lower_trace.proofs.FixedReads.{reads_read, reads_step, reads_update}
use Rattle.lower_trace.proofs.Giving.{Around}
use Rattle.lower_trace.proofs.Kept.{SceneLaws}
use Rattle.lower_trace.proofs.Mirrors.{Holds, Mirrors}
use Rattle.lower_trace.proofs.Operations.{beyond_is, comes_within}
use Rattle.lower_trace.proofs.ReadValues.{value_read_back}
use Rattle.pic_world.specs.World.{World, arrived, is_due}
use Rattle.src_rules.specs.Accesses.{fetch, fetch_as, fetched, goes}
use Rattle.src_rules.specs.Standing.{AreRead}
use Rattle.src_rules.specs.State.{state}
use Rattle.src_values.specs.Control.{At, AtWith, Fetch, In, Pending, Holds as Value, active, line_at, read_type}
use Rattle.src_values.specs.Data.{Datum}
use Rattle.src_values.specs.Memory as source
use Rattle.src_values.specs.Values.{byte_count, fits_behind, number_in, value_from}
use Rattle.src_values.specs.declared.objects.Byte as value
use Rattle.src_values.specs.declared.objects.Byte.TheVariants as values
use Rattle.src_values.specs.declared.objects.CopyOf.{CopyOf}
use Rattle.src_values.specs.declared.objects.Spot as spot
use Rattle.src_values.specs.declared.objects.Spot.TheVariants as spots
use Rattle.std.proofs.Common.{List, [], ap, arith, false, length, nat_lt, refl, subst, sym, true, ℕ, ◌+◌, ◌<◌, ◌∙◌, ◌∷◌, ◌≡◌, ◌≤◌}

number_byte : (z : Scene) (byte : value.Byte) → fits_behind (types.Int int.UChar) [] byte ≡ true → bytes.Number (number_in byte) ≡ held z byte
unfolding fits_behind
number_byte z values.Unset e = absurd (cc)
number_byte z (values.Number n) e = refl
number_byte z (values.Part o f high) e = absurd (cc)

one_byte : (byte : value.Byte) → byte_count (value_from (types.Int int.UChar) (byte ∷ [])) ≡ 1
unfolding value_from
one_byte byte = refl

module _ (z : Scene) (laws : SceneLaws z) (cp : CopyOf) (k : List Pending) (l : source.Memory) (register bit to count : ℕ) (pointer : Byte) (r : List Task) (reads : Reads z (ground_in z cp) k (Bit register bit) to count pointer r) (around : Around z cp k) (room : to + 1 ≤ (core_in z).program.frame_bytes (number z cp)) (known : is_device register ≡ true) (small_bit : bit < 8)
    (k' : List Pending) (type_is : read_type k ≡ types.Int int.UChar)
    (rest : r ≡ code_after (ground_in z cp) k') (stack : stack_after z (ground_in z cp) k ≡ stack_after z (ground_in z cp) k') (based : base (ground_in z cp) k' ≡ to) (holds : (m : Memory) → Holds z (ground_in z cp) k m → Holds z (ground_in z cp) k' m)
    (live : (at : spot.Spot) (read : List value.Byte) (v : Datum) → active cp (Fetch at read) k ≡ active cp (Value v) k') (ends : (v : Datum) (w : World value.Byte) → fetched v k cp l w ≡ goes cp (Value v) k' l w) where
  bit_as : (read : List value.Byte) (w : World value.Byte) (c : Machine) → length read ≤ 1 → AreRead z.program (types.Int int.UChar) [] read → is_due (arrived z.outside w) ≡ false
      → Mirrors z (state cp (Fetch (spots.Bit register bit) read) k l w) c → Follow z 6 (one_if (nat_lt (length read) 1)) c (fetch_as (types.Int int.UChar) (source_in z) (spots.Bit register bit) read k cp l (arrived z.outside w))
  bit_as [] w c le are due h =
      fetch_bit z laws cp k l register bit to count pointer r reads around room known small_bit (spots.Bit register bit) (fits_behind (types.Int int.UChar) []) (line_at k) w c refl due h
  bit_as (byte ∷ []) w c le are due h =
      let v = value_from (types.Int int.UChar) (byte ∷ []) in
      subst (λ o. Follow z 6 0 c o) (sym (ends v (arrived z.outside w)))
      (comes_within (core_in z) (Mirrors z (state cp (Value v) k' l (arrived z.outside w))) 4 0 6 0 c
      (bit_done z laws cp k l register bit to count pointer r reads around room known small_bit (spots.Bit register bit) byte v k' w c (let q = one_byte byte in omega arith) (number_byte z byte are.2 ∙ value_read_back z (types.Int int.UChar) (byte ∷ []) are refl 0 (let q = one_byte byte in omega arith)) rest stack based holds (live (spots.Bit register bit) (byte ∷ []) v) due h)
      (omega arith) (omega arith))
  bit_as (x ∷ y ∷ more) w c le are due h = absurd (omega arith)

  pub bit_fetch : (read : List value.Byte) (w : World value.Byte) (c : Machine) → length read ≤ 1 → AreRead z.program (types.Int int.UChar) [] read → is_due (arrived z.outside w) ≡ false
      → Mirrors z (state cp (Fetch (spots.Bit register bit) read) k l w) c → Follow z 6 (one_if (nat_lt (length read) 1)) c (fetch (source_in z) (spots.Bit register bit) read k cp l (arrived z.outside w))
  bit_fetch read w c le are due h =
      subst (λ t. Follow z 6 (one_if (nat_lt (length read) 1)) c (fetch_as t (source_in z) (spots.Bit register bit) read k cp l (arrived z.outside w))) (sym type_is) (bit_as read w c le are due h)

-- What a node needs that reads a bit.
pub record BitPlace (z : Scene) (cp : CopyOf) (sought : Place) (register bit : ℕ) : Type 0 where
  pub spot : spot_of (ground_in z cp).layout (ground_in z cp).copy sought ≡ Bit register bit
  pub known : is_device register ≡ true
  pub small : bit < 8

module _ (z : Scene) (laws : SceneLaws z) (cp : CopyOf) (l : source.Memory) where
  -- an expression that only reads
  pub bit_read : (sought : Place) (line register bit : ℕ) (k : List Pending) (read : List value.Byte) (w : World value.Byte) (c : Machine) → BitPlace z cp sought register bit → Around z cp (In (tree.Read sought (types.Int int.UChar) line) (At (spots.Bit register bit)) ∷ k)
      → base (ground_in z cp) k ≤ 96 → base (ground_in z cp) k + 1 ≤ (core_in z).program.frame_bytes (number z cp) → length read ≤ 1 → AreRead z.program (types.Int int.UChar) [] read → is_due (arrived z.outside w) ≡ false
      → Mirrors z (state cp (Fetch (spots.Bit register bit) read) (In (tree.Read sought (types.Int int.UChar) line) (At (spots.Bit register bit)) ∷ k) l w) c
      → Follow z 6 (one_if (nat_lt (length read) 1)) c (fetch (source_in z) (spots.Bit register bit) read (In (tree.Read sought (types.Int int.UChar) line) (At (spots.Bit register bit)) ∷ k) cp l (arrived z.outside w))
  unfolding active
  bit_read sought line register bit k read w c p around low room le are due h =
      let g = ground_in z cp in
      let b = base g k in
      let ty = types.Int int.UChar in
      let at = spots.Bit register bit in
      let e = tree.Read sought ty line in
      let at_b : above g b e (At at) ≡ b = ap (λ y. beyond b (pointer_bytes y)) p.spot ∙ beyond_is b 0 (omega arith) ∙ (omega arith) in
      bit_fetch z laws cp (In e (At at) ∷ k) l register bit (above g b e (At at)) (width g.layout ty) (Frame g.copy b) (code_after g (In e (At at) ∷ k)) (reads_read z g sought ty line at k (Bit register bit) p.spot) around (omega arith) p.known p.small
      k refl
      (ap (λ y. todo (kept_value y (Frame g.copy b) (width g.layout ty)) (code_after g k)) p.spot)
      refl (sym at_b) (λ m d. d.1) (λ at r v. refl) (λ v w2. refl) read w c le are due h

  -- updates and steps read their bit, and go on
  pub bit_update : (op : BinOp) (sought : Place) (right : Expression) (operation : Ty) (size : ℕ) (line register bit : ℕ) (u : Datum) (k : List Pending) (read : List value.Byte) (w : World value.Byte) (c : Machine) → BitPlace z cp sought register bit → Around z cp (In (tree.Update op sought right operation size (types.Int int.UChar) line) (AtWith (spots.Bit register bit) u) ∷ k)
      → above (ground_in z cp) (base (ground_in z cp) k) (tree.Update op sought right operation size (types.Int int.UChar) line) (AtWith (spots.Bit register bit) u) + 1 ≤ (core_in z).program.frame_bytes (number z cp) → length read ≤ 1 → AreRead z.program (types.Int int.UChar) [] read → is_due (arrived z.outside w) ≡ false
      → Mirrors z (state cp (Fetch (spots.Bit register bit) read) (In (tree.Update op sought right operation size (types.Int int.UChar) line) (AtWith (spots.Bit register bit) u) ∷ k) l w) c
      → Follow z 6 (one_if (nat_lt (length read) 1)) c (fetch (source_in z) (spots.Bit register bit) read (In (tree.Update op sought right operation size (types.Int int.UChar) line) (AtWith (spots.Bit register bit) u) ∷ k) cp l (arrived z.outside w))
  unfolding active
  bit_update op sought right operation size line register bit u k read w c p around room le are due h =
      let g = ground_in z cp in
      let b = base g k in
      let ty = types.Int int.UChar in
      let at = spots.Bit register bit in
      let e = tree.Update op sought right operation size ty line in
      let f = In e (AtWith at u) ∷ k in
      bit_fetch z laws cp f l register bit (above g b e (AtWith at u)) (place_width g.layout sought) (Frame g.copy b) (code_after g f) (reads_update z g op sought right operation size ty line at u k (Bit register bit) p.spot) around room p.known p.small
      f refl refl refl refl (λ m d. d) (λ at r v. refl) (λ v w2. refl) read w c le are due h

  pub bit_step : (op : StepOp) (sought : Place) (operation : Ty) (size : ℕ) (line register bit : ℕ) (k : List Pending) (read : List value.Byte) (w : World value.Byte) (c : Machine) → BitPlace z cp sought register bit → Around z cp (In (tree.Step op sought operation size (types.Int int.UChar) line) (At (spots.Bit register bit)) ∷ k)
      → above (ground_in z cp) (base (ground_in z cp) k) (tree.Step op sought operation size (types.Int int.UChar) line) (At (spots.Bit register bit)) + 1 ≤ (core_in z).program.frame_bytes (number z cp) → length read ≤ 1 → AreRead z.program (types.Int int.UChar) [] read → is_due (arrived z.outside w) ≡ false
      → Mirrors z (state cp (Fetch (spots.Bit register bit) read) (In (tree.Step op sought operation size (types.Int int.UChar) line) (At (spots.Bit register bit)) ∷ k) l w) c
      → Follow z 6 (one_if (nat_lt (length read) 1)) c (fetch (source_in z) (spots.Bit register bit) read (In (tree.Step op sought operation size (types.Int int.UChar) line) (At (spots.Bit register bit)) ∷ k) cp l (arrived z.outside w))
  unfolding active
  bit_step op sought operation size line register bit k read w c p around room le are due h =
      let g = ground_in z cp in
      let b = base g k in
      let ty = types.Int int.UChar in
      let at = spots.Bit register bit in
      let e = tree.Step op sought operation size ty line in
      let f = In e (At at) ∷ k in
      bit_fetch z laws cp f l register bit (above g b e (At at)) (place_width g.layout sought) (Frame g.copy b) (code_after g f) (reads_step z g op sought operation size ty line at k (Bit register bit) p.spot) around room p.known p.small
      f refl refl refl refl (λ m d. d) (λ at r v. refl) (λ v w2. refl) read w c le are due h
