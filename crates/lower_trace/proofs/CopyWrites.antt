-- A byte of a structure that is copied goes to its place, and the pointers to both places go on with the next one.
use Rattle.core_code.specs.Bytes.{Held, Memory, with_byte}
use Rattle.core_code.specs.Cost.{is_kept, one_if}
use Rattle.core_code.specs.Machine.{Machine, Put, Setting, Task, Waiting, act, after_write, is_others, is_valid, may_hold, memory_with, put}
use Rattle.core_code.specs.declared.code.Byte.TheVariants.{Device, Frame, Result, Static}
use Rattle.core_code.specs.declared.code.Byte.{Byte}
use Rattle.core_puts.specs.Bytes.{behind, beyond, little_beyond}
use Rattle.lower_expr.specs.declared.places.Spot as place
use Rattle.lower_trace.proofs.CodeLeft.{Scene, code_after, copying, core_in, ground_in, held, number, stack_after, todo}
use Rattle.lower_trace.proofs.CopyNodes.{CopyNode}
use Rattle.lower_trace.proofs.FixedWrites.{IsOpen}
use Rattle.lower_trace.proofs.Giving.{Around, mirrors}
use Rattle.lower_trace.proofs.Kept.{Reached, SameTemps, SceneLaws}
use Rattle.lower_trace.proofs.Mirrors.{Agrees, HasCopied, Holds, Mirrors, core_byte}
use Rattle.lower_trace.proofs.Operations.{Comes, comes_first, comes_here, comes_within}
use Rattle.lower_trace.proofs.Placed.{Placed, does, least_does, most_does, other}
use Rattle.lower_trace.proofs.Reading.{noted_if}
use Rattle.lower_trace.proofs.Storing.{holds_temps, memory_object, results_kept, store_agrees, temps_kept}
use Rattle.pic_world.proofs.WorldLaws.{arrived_as}
use Rattle.pic_world.specs.World.{World, WriteOf, arrived, is_due, noted, world_as}
use Rattle.pic_world.specs.declared.Cell.TheVariants as cells
use Rattle.src_rules.specs.Standing.{IsReached, IsThere}
use Rattle.src_rules.specs.State.{state}
use Rattle.src_values.specs.Accesses.{event_at, is_unset, noting}
use Rattle.src_values.specs.Control.{CopyRead, Pending, active, callers}
use Rattle.src_values.specs.Memory as source
use Rattle.src_values.specs.Objects.{object_bytes}
use Rattle.src_values.specs.declared.objects.Byte as value
use Rattle.src_values.specs.declared.objects.Byte.TheVariants as values
use Rattle.src_values.specs.declared.objects.CopyOf.{CopyOf}
use Rattle.src_values.specs.declared.objects.Object as object
use Rattle.src_values.specs.declared.objects.Object.TheVariants as objects
use Rattle.src_values.specs.declared.objects.Pointer.TheVariants.{Into}
use Rattle.src_values.specs.declared.objects.Spot as spot
use Rattle.src_values.specs.declared.objects.Spot.TheVariants as spots
use Rattle.std.proofs.Common.{List, None, Option, Some, ap, arith, false, if◌then◌else◌, refl, subst, sym, true, ℕ, ◌+◌, ◌-◌, ◌<◌, ◌∙◌, ◌∷◌, ◌≡◌}
use Rattle.std.proofs.lemmas.Grind.{common_steps}

-- ---- a byte that was read goes to any byte of the source that may be accessed by its name, which may be an event
pub put_any_then : (g : Setting) (T : Machine → Type 0) (n : ℕ) (a : Option ℕ) (s : List Waiting) (w : World Held) (due : is_due w ≡ false) (x : Byte) (h : Held) (r : List Task) (m : Memory) (c : Machine) → is_kept g.program.variable_bytes x ≡ true → is_others n x ≡ false → is_valid g.program n x ≡ true → may_hold g.program x h w ≡ true
    → Placed g n a (Put x h ∷ r) s m w c → ((d : Machine) → Placed g n a r s (memory_with x h m) (arrived g.outside (after_write x h w)) d → T d) → Comes g T 3 1 c
unfolding act put
put_any_then g T n a s w due x h r m c kept own there may p next =
    let f = other c.code (Put x h) r tt p.code in
    let d : Machine = record { copy = n; passing = a; code = f.rest; stack = c.stack; memory = memory_with x h m; world = after_write x h w } in
    let em = most_does g n a (Put x h ∷ r) s m w c p (Put x h) r f due in
    let el = least_does g n a (Put x h ∷ r) s m w c p (Put x h) r f due in
    let sure : one_if (is_kept g.program.variable_bytes x) ≡ 1 = ap one_if kept in
    comes_within g T (3 + 0) (1 + 0) 3 1 c
    (comes_first g T 0 0 3 1 c d
    (does g n a (Put x h ∷ r) s m w c p (Put x h) r f due ∙ rw (own, there, may) refl)
    (omega arith) (omega arith)
    (comes_here g T d (next d (record { copy = refl; passing = refl; code = f.behind; stack = p.stack; memory = refl; world = refl }))))
    (omega arith) (omega arith)

beyond_next : (b n : ℕ) → beyond (beyond b n) 1 ≡ beyond b (n + 1)
unfolding beyond
beyond_next b n = grind (arith, common_steps)

little_next : (b n : ℕ) → little_beyond (little_beyond b n) 1 ≡ little_beyond b (n + 1)
unfolding little_beyond
little_next b n = grind (arith, common_steps)

pub behind_next : (x : Byte) (n : ℕ) → behind (behind x n) 1 ≡ behind x (n + 1)
behind_next (Static i b) n = ap (Static i) (beyond_next b n)
behind_next (Frame c b) n = ap (Frame c) (beyond_next b n)
behind_next (Result r b) n = ap (Result r) (little_next b n)
behind_next (Device b) n = ap Device (little_next b n)

-- ---- what may be written
pub byte_holds : (z : Scene) (o : object.Object) (f : ℕ) (byte : value.Byte) (w : World Held) (laws : SceneLaws z) → IsThere z.program o → IsOpen z (spots.Memory (Into o f)) → is_unset byte ≡ false → may_hold (core_in z).program (core_byte z o f) (held z byte) w ≡ true
byte_holds z (objects.Fixed i) f values.Unset w laws there open_is set = absurd (cc)
byte_holds z (objects.Fixed i) f (values.Number n) w laws there open_is set = laws.watched i there ∙ open_is
byte_holds z (objects.Fixed i) f (values.Part o offset high) w laws there open_is set = laws.watched i there ∙ open_is
byte_holds z (objects.Variable d i) f byte w laws there open_is set = refl

pub byte_world : (z : Scene) (o : object.Object) (f : ℕ) (byte : value.Byte) (V : World value.Byte) → IsOpen z (spots.Memory (Into o f))
    → arrived z.outside (after_write (core_byte z o f) (held z byte) (world_as (held z) V)) ≡ world_as (held z) (arrived z.outside (noting (event_at z.program WriteOf o f byte) V))
unfolding after_write
byte_world z (objects.Fixed i) f byte V open_is =
    let same : 0 + f ≡ f = omega arith in
    ap (λ y. arrived z.outside (noted (WriteOf (cells.Static i y) (held z byte)) (world_as (held z) V))) same
    ∙ noted_if z true (WriteOf (cells.Static i f) byte) V
    ∙ ap (λ b. world_as (held z) (arrived z.outside (noting (if b then Some (WriteOf (cells.Static i f) byte) else None) V))) (sym open_is)
byte_world z (objects.Variable d i) f byte V open_is = arrived_as (held z) z.outside V

-- ---- the byte is written
module _ (z : Scene) (laws : SceneLaws z) (cp : CopyOf) (k : List Pending) (l : source.Memory) (around : Around z cp k) (reach : Reached z (ground_in z cp) k) (p q : place.Spot) (b size : ℕ) (node : CopyNode z cp k p q b size) where
  -- the relation holds again, where byte code has written it
  pub copied_arrives : (o : object.Object) (f : ℕ) (from : spot.Spot) (byte : value.Byte) (left : ℕ) (m : Memory) (w w' : World value.Byte) (d : Machine) → IsThere z.program o → f < object_bytes z.program o
      → Agrees z (cp ∷ callers k) l m → Holds z (ground_in z cp) k m
      → HasCopied z cp.root (number z cp) b p q (spots.Memory (Into o (f + 1))) from (size - left) (with_byte m (core_byte z o f) (held z byte))
      → Placed (core_in z) (number z cp) None (todo (copying cp.root p q (Frame (number z cp) b) size (size - left)) (code_after (ground_in z cp) k)) (stack_after z (ground_in z cp) k) (memory_with (core_byte z o f) (held z byte) m) (world_as (held z) (arrived z.outside w')) d
      → Mirrors z (state cp (CopyRead (spots.Memory (Into o (f + 1))) from left) k (source.with_byte l o f byte) w') d
  unfolding active
  copied_arrives o f from byte left m w w' d there inside agrees holds has pd =
      let n = number z cp in
      let g = ground_in z cp in
      let to = spots.Memory (Into o (f + 1)) in
      let m' = with_byte m (core_byte z o f) (held z byte) in
      let kept : (e : CopyOf) → IsReached z.program e → SameTemps z e m m' = temps_kept z laws o f there inside m (held z byte) in
      mirrors z cp (CopyRead to from left) k (source.with_byte l o f byte) w' m' d
      (subst (λ y. Placed (core_in z) n None y (stack_after z g k) m' (world_as (held z) (arrived z.outside w')) d) (sym (node.code left))
      (subst (λ y. Placed (core_in z) n None (todo (copying cp.root p q (Frame n b) size (size - left)) (code_after g k)) (stack_after z g k) y (world_as (held z) (arrived z.outside w')) d) (memory_object z o f (held z byte) m) pd))
      (store_agrees z laws o f there inside m (held z byte) (cp ∷ callers k) l byte refl agrees)
      (holds_temps z cp k m m' kept (results_kept z o f (held z byte) m) around.reached around.piled reach holds)
      (node.had to from left m' has)
