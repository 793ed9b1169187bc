-- Expressions that begin: constants, and nodes whose first part is evaluated.
use Rattle.std.proofs.Common.{◌≡◌, ℕ, zero, suc, ◌+◌, ◌*◌, ◌/◌, ◌%◌, ◌^◌, ◌<◌, ◌≤◌, true, false, List, None, sym, ap, ◌∙◌, subst, arith}
use Rattle.c_ints.specs.Quantity.{Quantity}
use Rattle.c_ints.specs.Range.{bytes_of}
use Rattle.c_typed.specs.Folding.{bits}
use Rattle.c_typed.specs.Trees as tree
use Rattle.core_code.specs.Bytes as bytes
use Rattle.core_code.specs.Bytes.{Held, Memory, with_bytes}
use Rattle.core_code.specs.Machine.{Machine}
use Rattle.core_code.specs.declared.code.Byte.TheVariants.{Frame}
use Rattle.core_puts.specs.Bytes.{byte_at}
use Rattle.lower_expr.specs.Lowering.{expr_code}
use Rattle.pic_world.specs.World.{World, arrived, is_due, world_as}
use Rattle.pic_world.proofs.WorldLaws.{arrived_again, arrived_as, due_as}
use Rattle.src_rules.specs.State.{state}
use Rattle.src_values.specs.Control.{Eval, Holds as Value, Pending, active}
use Rattle.src_values.specs.Data as datum
use Rattle.src_values.specs.Data.{Datum}
use Rattle.src_values.specs.Memory as source
use Rattle.src_values.specs.declared.objects.Byte as value
use Rattle.src_values.specs.declared.objects.CopyOf.{CopyOf}
use Rattle.lower_trace.proofs.CodeLeft.{Scene, held, number, ground_in, core_in, todo, base, code_after, stack_after}
use Rattle.lower_trace.proofs.Giving.{Around, placed_of, gives}
use Rattle.lower_trace.proofs.Kept.{SceneLaws, own_copy, bytes_small}
use Rattle.lower_trace.proofs.Mirrors.{Mirrors}
use Rattle.lower_trace.proofs.Operations.{Comes, comes_here, comes_within, sets_then}
use Rattle.lower_trace.proofs.Placed.{Placed}

-- ---- worlds
pub due_below : (z : Scene) (w : World value.Byte) → is_due w ≡ false → is_due (world_as (held z) w) ≡ false
due_below z w d = due_as (held z) w ∙ d

pub again_below : (z : Scene) (w : World value.Byte) → arrived z.outside (world_as (held z) (arrived z.outside w)) ≡ world_as (held z) (arrived z.outside w)
again_below z w = arrived_as (held z) z.outside (arrived z.outside w) ∙ ap (world_as (held z)) (arrived_again z.outside w)

pub same_below : (z : Scene) (w : World value.Byte) → world_as (held z) (arrived z.outside w) ≡ world_as (held z) (arrived z.outside (arrived z.outside w))
same_below z w = ap (world_as (held z)) (sym (arrived_again z.outside w))

-- ---- the bytes of a number
-- as code has them, and as values have them
pub byte_is : (x k : ℕ) → k < 4 → byte_at x k ≡ x / 256 ^ k % 256
unfolding byte_at
byte_is x zero lt = omega arith
byte_is x (suc zero) lt = omega arith
byte_is x (suc (suc zero)) lt = omega arith
byte_is x (suc (suc (suc zero))) lt = omega arith
byte_is x (suc (suc (suc (suc k)))) lt = absurd (omega arith)

-- ---- constants
pub constant_goes : (z : Scene) (laws : SceneLaws z) (q : Quantity) (line : ℕ) (k : List Pending) (cp : CopyOf) (l : source.Memory) (w : World value.Byte) (c : Machine) → Around z cp k → base (ground_in z cp) k + bytes_of q.ty ≤ (core_in z).program.frame_bytes (number z cp) → is_due (arrived z.outside w) ≡ false
    → Mirrors z (state cp (Eval (tree.Constant q line)) k l w) c
    → Comes (core_in z) (Mirrors z (state cp (Value (datum.Number q)) k l (arrived z.outside w))) (4 * bytes_of q.ty) 0 c
unfolding expr_code active bits
constant_goes z laws q line k cp l w c around room due h =
    let n = number z cp in
    let b = base (ground_in z cp) k in
    let cnt = bytes_of q.ty in
    let w' = world_as (held z) (arrived z.outside w) in
    let small = laws.small n in
    let few = bytes_small q.ty in
    comes_within (core_in z) (Mirrors z (state cp (Value (datum.Number q)) k l (arrived z.outside w))) (4 * cnt + 0) 0 (4 * cnt) 0 c
    (sets_then (core_in z) (Mirrors z (state cp (Value (datum.Number q)) k l (arrived z.outside w))) n None (stack_after z (ground_in z cp) k) w' (due_below z (arrived z.outside w) due) (again_below z w)
    cnt b (bits q) (code_after (ground_in z cp) k) c.memory c 0 0 room (omega arith)
    (subst (λ i. Placed (core_in z) n None (todo (expr_code (ground_in z cp).layout i b true (tree.Constant q line)) (code_after (ground_in z cp) k)) (stack_after z (ground_in z cp) k) c.memory w' c) (own_copy z cp) (placed_of z (state cp (Eval (tree.Constant q line)) k l w) c h))
    (λ d pd. comes_here (core_in z) (Mirrors z (state cp (Value (datum.Number q)) k l (arrived z.outside w))) d
    (gives z laws cp k l (arrived z.outside w) c.memory cnt (λ i. bytes.Number (byte_at (bits q) i)) (datum.Number q) d around (omega arith)
    (λ i lt. ap bytes.Number (byte_is (bits q) i (omega arith)))
    (subst (λ x. Placed (core_in z) n None (code_after (ground_in z cp) k) (stack_after z (ground_in z cp) k) (with_bytes c.memory (Frame n b) cnt (λ i. bytes.Number (byte_at (bits q) i))) x d) (same_below z w) pd)
    h.agrees h.holds)))
    (omega arith)
    (omega arith)
