-- The end of main, the operator +, and locals that begin with a value.
use Rattle.c_ints.proofs.Cut.{same as unchanged}
use Rattle.c_ints.specs.Conversions.{promoted}
use Rattle.c_ints.specs.Operators.{cut_to}
use Rattle.c_ints.specs.Quantity.{Quantity}
use Rattle.c_ints.specs.Range.{IsInRange}
use Rattle.c_ints.specs.declared.operators.UnOp.TheVariants as unary
use Rattle.c_typed.specs.Trees as tree
use Rattle.c_typed.specs.Trees.{Expression}
use Rattle.c_typed.specs.declared.types.Ty.{Ty}
use Rattle.core_code.specs.Machine as core_machine
use Rattle.core_code.specs.Machine.{Machine, act, core_step, is_still}
use Rattle.lower_stmt.specs.Ground as ground
use Rattle.lower_stmt.specs.Ground.{local_byte}
use Rattle.src_rules.specs.Runs.{one_if}
use Rattle.lower_trace.proofs.Costs.{either}
use Rattle.lower_trace.proofs.Assigning.{scalar_stored}
use Rattle.lower_trace.proofs.Beginnings.{Follow, rests}
use Rattle.lower_trace.proofs.CodeLeft.{Scene, base, code_after, core_in, ground_in, held, number, source_in, stack_after, wanted}
use Rattle.lower_trace.proofs.Constants.{due_below}
use Rattle.lower_trace.proofs.FixedFetches.{follow_within}
use Rattle.lower_trace.proofs.FixedWrites.{fixed_written}
use Rattle.lower_trace.proofs.Giving.{Around, placed_of}
use Rattle.lower_trace.proofs.Kept.{Reached, SceneLaws}
use Rattle.lower_trace.proofs.Members.{if_datum}
use Rattle.lower_trace.proofs.Mirrors.{HasIf, Mirrors, at_byte}
use Rattle.lower_trace.proofs.Operations.{Comes}
use Rattle.lower_trace.proofs.Placed.{does, other}
use Rattle.pic_world.specs.World.{World, arrived, is_due, world_as}
use Rattle.src_rules.specs.Accesses.{stored_for, write}
use Rattle.src_rules.specs.Giving.{take_in}
use Rattle.src_rules.specs.Standing.{stepped}
use Rattle.src_rules.specs.State.{state}
use Rattle.src_values.specs.Control as control
use Rattle.src_values.specs.Control.{Doing, Fills, In, Nothing, Pending, Holds as Value, Write, active}
use Rattle.src_values.specs.Data as datum
use Rattle.src_values.specs.Data.{Datum}
use Rattle.src_values.specs.Memory as source
use Rattle.src_values.specs.Objects.{behind, function_at, local_of, variables_of}
use Rattle.src_values.specs.Values.{byte_count, unary_answer}
use Rattle.src_values.specs.declared.objects.Byte as value
use Rattle.src_values.specs.declared.objects.CopyOf.{CopyOf}
use Rattle.std.proofs.Common.{List, None, Some, [], ap, arith, false, length, nat_lt, refl, subst, sym, true, ℕ, ◌+◌, ◌<◌, ◌∙◌, ◌∷◌, ◌≡◌, ◌≤◌}

-- main has ended, and no handler is due: byte code rests too
pub over_rests : (z : Scene) (k : List Pending) (cp : CopyOf) (l : source.Memory) (w : World value.Byte) (c : Machine) → is_due (arrived z.outside w) ≡ false → Mirrors z (state cp control.Over k l w) c → is_still (core_step (core_in z) c) ≡ true
unfolding act
over_rests z k cp l w c due h =
    let n = number z cp in
    let g = ground_in z cp in
    let p = placed_of z (state cp control.Over k l w) c h in
    let W = world_as (held z) (arrived z.outside w) in
    let f = other c.code core_machine.Over [] tt h.code in
    ap is_still (does (core_in z) n None (core_machine.Over ∷ []) (stack_after z g k) c.memory W c p core_machine.Over [] f (due_below z (arrived z.outside w) due))

-- ---- + gives the promoted value, which its operand is by now
plus_case : (z : Scene) (operand : Expression) (ty : Ty) (line : ℕ) (x : Quantity) (k : List Pending) (cp : CopyOf) (l : source.Memory) (w : World value.Byte) (c : Machine) → promoted x.ty ≡ x.ty → IsInRange x.ty x.number
    → Mirrors z (state cp (Value (datum.Number x)) (In (tree.Unary unary.Plus operand ty line) Nothing ∷ k) l w) c
    → Comes (core_in z) (Mirrors z (state cp (Value (datum.Number (cut_to (promoted x.ty) x.number))) k l (arrived z.outside w))) 0 0 c
unfolding active
plus_case z operand ty line x k cp l w c same_type_is xr h =
    let g = ground_in z cp in
    let v = datum.Number (cut_to (promoted x.ty) x.number) in
    let is : cut_to (promoted x.ty) x.number ≡ x = ap (λ t. cut_to t x.number) same_type_is ∙ ap (λ i. record { ty = x.ty; number = i }) (unchanged x.ty x.number xr) in
    rests z cp (Value (datum.Number x)) (Value v) (In (tree.Unary unary.Plus operand ty line) Nothing ∷ k) k l l w c h refl refl refl h.agrees h.holds.1
    (subst (λ y. HasIf (wanted k) z g.copy (base g k) (datum.Number y) c.memory) (sym is) (if_datum z (wanted k) g.copy (base g k) (datum.Number x) c.memory h.value))

pub plus_given : (z : Scene) (operand : Expression) (ty : Ty) (line : ℕ) (x : Quantity) (k : List Pending) (cp : CopyOf) (l : source.Memory) (w : World value.Byte) (c : Machine) → promoted x.ty ≡ x.ty → IsInRange x.ty x.number
    → Mirrors z (state cp (Value (datum.Number x)) (In (tree.Unary unary.Plus operand ty line) Nothing ∷ k) l w) c
    → Follow z 0 0 c (take_in (source_in z) (tree.Unary unary.Plus operand ty line) Nothing (datum.Number x) k cp l (arrived z.outside w))
unfolding unary_answer
plus_given z operand ty line x k cp l w c same_type_is xr h = plus_case z operand ty line x k cp l w c same_type_is xr h

-- ---- a local that begins with a value
pub scalar_write : (z : Scene) (laws : SceneLaws z) (cp : CopyOf) (l : source.Memory) (local : ℕ) (e : Expression) (line : ℕ) (v : Datum) (done : ℕ) (k : List Pending) (w : World value.Byte) (c : Machine) → Around z cp (Doing (tree.InitScalar local e line) Fills ∷ k) → Reached z (ground_in z cp) (Doing (tree.InitScalar local e line) Fills ∷ k) → (ground_in z cp).base ≤ 96
    → at_byte z (behind (local_of z.program cp local) 0) ≡ Some (local_byte (ground_in z cp) local) → length (function_at z.program cp.function).params + local < length (variables_of (function_at z.program cp.function))
    → byte_count v ≡ ground.width (ground_in z cp) e → (ground_in z cp).base + ground.width (ground_in z cp) e ≤ (core_in z).program.frame_bytes (number z cp) → (ground_in z cp).base ≤ (core_in z).program.frame_bytes (number z cp) → is_due (arrived z.outside w) ≡ false
    → Mirrors z (state cp (Write (stepped done (behind (local_of z.program cp local) 0)) v done) (Doing (tree.InitScalar local e line) Fills ∷ k) l w) c
    → Follow z (either (nat_lt done (byte_count v)) 6 0) (one_if (nat_lt done (byte_count v))) c (write (source_in z) (stepped done (behind (local_of z.program cp local) 0)) v done (Doing (tree.InitScalar local e line) Fills ∷ k) cp l (arrived z.outside w))
scalar_write z laws cp l local e line v done k w c around reach low is there all room own_room due h =
    let g = ground_in z cp in
    let f = Doing (tree.InitScalar local e line) Fills ∷ k in
    let start = behind (local_of z.program cp local) 0 in
    fixed_written z laws cp f l around reach low (local_byte g local) (ground.width g e) g.base (code_after g k) (λ a i. refl) refl room own_room start v done 0 w c is (refl, there) tt tt (λ a q. absurd (cc)) all due
    (λ le. scalar_stored z local e line v done (stepped done start) k cp l w c le h)
    h
