-- The laws of all foci, from those of each kind of step, and what follows of each state of a run.
use Rattle.std.proofs.Common.{◌≡◌, ℕ, zero, suc, ◌<◌, ◌⊎◌, inl, inr, true, false, List, ◌∷◌, Option, refl, ⊎_elim, arith}
use Rattle.std.proofs.lemmas.Bool.{cases_lt}
use Rattle.std.specs.List.{All}
use Rattle.c_ints.specs.declared.operators.BinOp.{BinOp}
use Rattle.c_ints.specs.declared.operators.BinOp.TheVariants as ops
use Rattle.c_typed.specs.Sameness.{is_scalar}
use Rattle.c_typed.specs.Trees as tree
use Rattle.c_typed.specs.Trees.{Expression, Place}
use Rattle.c_typed.specs.Types.{type_bytes}
use Rattle.c_typed.specs.declared.expression.StepOp.{StepOp}
use Rattle.c_typed.specs.declared.types.Ty.{Ty}
use Rattle.c_typed.specs.declared.types.Ty.TheVariants as types
use Rattle.lower_expr.specs.Lowering.{shifts_by_constant}
use Rattle.src_rules.proofs.Rules.{read_rule}
use Rattle.src_rules.specs.Runs.{moment}
use Rattle.src_values.specs.Control.{Holds, Found, Skim, Write, CopyRead, Nothing, One, At, AtWith, Pending, In, Stores, Fills, Items, Doing, Copies}
use Rattle.src_values.specs.Data as datum
use Rattle.src_values.specs.Data.{Datum}
use Rattle.src_values.specs.Values.{byte_count}
use Rattle.src_values.specs.declared.objects.Byte.{Byte}
use Rattle.src_values.specs.declared.objects.Spot.{Spot}
use Rattle.lower_trace.specs.Lowering.{IsLowerable}
use Rattle.lower_trace.proofs.Changing.{IsSum}
use Rattle.lower_trace.proofs.CodeLeft.{Scene, source_in}
use Rattle.lower_trace.proofs.HelperCopies.{difference_helped}
use Rattle.lower_trace.proofs.Leads.{Law}
use Rattle.lower_trace.proofs.Entering.{bool_cases}
use Rattle.lower_trace.proofs.LedBits.{bits}
use Rattle.lower_trace.proofs.LedBytes.{copy_reads as bytes_read, copy_writes}
use Rattle.lower_trace.proofs.LedCalling.{calls}
use Rattle.lower_trace.proofs.LedConstants.{constant_updates}
use Rattle.lower_trace.proofs.LedCounts.{known_counts, known_updates}
use Rattle.lower_trace.proofs.LedHelped.{helped_binaries}
use Rattle.lower_trace.proofs.LedHelpedUpdates.{helped_updates}
use Rattle.lower_trace.proofs.LedMoves.{place_addresses, pointer_steps, pointer_updates, updates_apart}
use Rattle.lower_trace.proofs.LedPointers.{DifferencesDivide, pointer_binaries, pointer_differences, pointer_offsets, turned_offsets}
use Rattle.lower_trace.proofs.TypeSizes.{structure_some}
use Rattle.lower_trace.proofs.LedCalls.{leavings, returns}
use Rattle.lower_trace.proofs.LedChanges.{number_steps, number_sums}
use Rattle.lower_trace.proofs.LedConverts.{null_or, converts, casts}
use Rattle.lower_trace.proofs.LedCopies.{assigns_end, items_end}
use Rattle.lower_trace.proofs.LedFetches.{fetches}
use Rattle.lower_trace.proofs.LedItems.{item_writes, missing_writes}
use Rattle.lower_trace.proofs.LedLists.{spells, blanks}
use Rattle.lower_trace.proofs.LedMissing.{apart_binaries, apart_offsets, apart_differences, missing_updates, updates_missing, missing_steps}
use Rattle.lower_trace.proofs.LedNulls.{null_casts, null_converts}
use Rattle.lower_trace.proofs.LedOperators.{unaries, plain_binaries}
use Rattle.lower_trace.proofs.LedPlaces.{PlaceLaws, places}
use Rattle.lower_trace.proofs.LedReads.{HaveBytes, empty_items, empty_skims, plain_skims, structures_fetched, void_reads}
use Rattle.lower_trace.proofs.LedRuns.{Followed, followed, most_to, least_to}
use Rattle.lower_trace.proofs.LedSkims.{structures_found, structures_skimmed}
use Rattle.lower_trace.proofs.LedSteps.{NodeLaws}
use Rattle.lower_trace.proofs.LedStores.{carries_open, node_writes}
use Rattle.lower_trace.proofs.LedSwitches.{comparisons}
use Rattle.lower_trace.proofs.LedValues.{ValueLaws, values}
use Rattle.lower_trace.proofs.LedWrites.{scalar_writes}
use Rattle.lower_trace.proofs.Operating.{IsPlain}

-- a structure with a body has a byte
sized_bytes : (z : Scene) → IsLowerable z.program z.copies → HaveBytes z.program
sized_bytes z given = λ number complete. let some = structure_some z.program given.typed given.same given.sound number complete in omega arith

plain_or : (op : BinOp) → IsPlain op ⊎ (IsPlain op → ⊥)
plain_or ops.Add = inl tt
plain_or ops.Sub = inl tt
plain_or ops.And = inl tt
plain_or ops.Or = inl tt
plain_or ops.Xor = inl tt
plain_or ops.Lt = inl tt
plain_or ops.Gt = inl tt
plain_or ops.Le = inl tt
plain_or ops.Ge = inl tt
plain_or ops.Eq = inl tt
plain_or ops.Ne = inl tt
plain_or ops.Mul = inr (λ h. h)
plain_or ops.Div = inr (λ h. h)
plain_or ops.Rem = inr (λ h. h)
plain_or ops.Shl = inr (λ h. h)
plain_or ops.Shr = inr (λ h. h)

sum_or : (op : BinOp) → IsSum op ⊎ (IsSum op → ⊥)
sum_or ops.Add = inl tt
sum_or ops.Sub = inl tt
sum_or ops.And = inl tt
sum_or ops.Or = inl tt
sum_or ops.Xor = inl tt
sum_or ops.Lt = inr (λ h. h)
sum_or ops.Gt = inr (λ h. h)
sum_or ops.Le = inr (λ h. h)
sum_or ops.Ge = inr (λ h. h)
sum_or ops.Eq = inr (λ h. h)
sum_or ops.Ne = inr (λ h. h)
sum_or ops.Mul = inr (λ h. h)
sum_or ops.Div = inr (λ h. h)
sum_or ops.Rem = inr (λ h. h)
sum_or ops.Shl = inr (λ h. h)
sum_or ops.Shr = inr (λ h. h)

true_false : true ≡ false → ⊥
true_false e = cc

module _ (z : Scene) (given : IsLowerable z.program z.copies) (input : All (λ byte. byte < 256) z.outside.input) where
  binaries_by : (op : BinOp) (left right : Expression) (ty : Ty) (line : ℕ) (u v : Datum) (k : List Pending) → Law z (Holds v) (In (tree.Binary op left right ty line) (One u) ∷ k)
  binaries_by op left right ty line (datum.Number x) (datum.Number y) k cp l w c known due h =
      ⊎_elim
      (λ plain. plain_binaries z given input op left right ty line x y k plain cp l w c known due h)
      (λ other. helped_binaries z given input op left right ty line x y k other cp l w c known due h)
      (plain_or op)
  binaries_by op left right ty line (datum.Pointer x) (datum.Pointer y) k cp l w c known due h = pointer_binaries z given input op left right ty line x y k cp l w c known due h
  binaries_by op left right ty line (datum.Number x) (datum.Pointer y) k cp l w c known due h = apart_binaries z op left right ty line (datum.Number x) (datum.Pointer y) k tt cp l w c known due h
  binaries_by op left right ty line (datum.Pointer x) (datum.Number y) k cp l w c known due h = apart_binaries z op left right ty line (datum.Pointer x) (datum.Number y) k tt cp l w c known due h
  binaries_by op left right ty line (datum.Number x) datum.Missing k cp l w c known due h = apart_binaries z op left right ty line (datum.Number x) datum.Missing k tt cp l w c known due h
  binaries_by op left right ty line (datum.Pointer x) datum.Missing k cp l w c known due h = apart_binaries z op left right ty line (datum.Pointer x) datum.Missing k tt cp l w c known due h
  binaries_by op left right ty line datum.Missing v k cp l w c known due h = apart_binaries z op left right ty line datum.Missing v k tt cp l w c known due h

  offsets_by : (op : BinOp) (left right : Expression) (size : ℕ) (ty : Ty) (line : ℕ) (u v : Datum) (k : List Pending) → Law z (Holds v) (In (tree.Offset op left right size ty line) (One u) ∷ k)
  offsets_by op left right size ty line (datum.Pointer x) (datum.Number q) k cp l w c known due h = pointer_offsets z given input op left right size ty line x q k cp l w c known due h
  offsets_by op left right size ty line (datum.Number q) (datum.Pointer x) k cp l w c known due h = turned_offsets z given input op left right size ty line q x k cp l w c known due h
  offsets_by op left right size ty line (datum.Number q) (datum.Number y) k cp l w c known due h = apart_offsets z op left right size ty line (datum.Number q) (datum.Number y) k tt cp l w c known due h
  offsets_by op left right size ty line (datum.Number q) datum.Missing k cp l w c known due h = apart_offsets z op left right size ty line (datum.Number q) datum.Missing k tt cp l w c known due h
  offsets_by op left right size ty line (datum.Pointer x) (datum.Pointer y) k cp l w c known due h = apart_offsets z op left right size ty line (datum.Pointer x) (datum.Pointer y) k tt cp l w c known due h
  offsets_by op left right size ty line (datum.Pointer x) datum.Missing k cp l w c known due h = apart_offsets z op left right size ty line (datum.Pointer x) datum.Missing k tt cp l w c known due h
  offsets_by op left right size ty line datum.Missing v k cp l w c known due h = apart_offsets z op left right size ty line datum.Missing v k tt cp l w c known due h

  -- where a difference of pointers divides, its helper is there
  differences_divide : DifferencesDivide z
  differences_divide left right size line u v k cp l w known many = difference_helped z given cp known.stands.reached left right size line many known.parts.1.0.0

  differences_by : (left right : Expression) (size line : ℕ) (u v : Datum) (k : List Pending) → Law z (Holds v) (In (tree.Difference left right size line) (One u) ∷ k)
  differences_by left right size line (datum.Pointer x) (datum.Pointer y) k cp l w c known due h = pointer_differences z given input differences_divide left right size line x y k cp l w c known due h
  differences_by left right size line (datum.Pointer x) (datum.Number q) k cp l w c known due h = apart_differences z left right size line (datum.Pointer x) (datum.Number q) k tt cp l w c known due h
  differences_by left right size line (datum.Pointer x) datum.Missing k cp l w c known due h = apart_differences z left right size line (datum.Pointer x) datum.Missing k tt cp l w c known due h
  differences_by left right size line (datum.Number q) v k cp l w c known due h = apart_differences z left right size line (datum.Number q) v k tt cp l w c known due h
  differences_by left right size line datum.Missing v k cp l w c known due h = apart_differences z left right size line datum.Missing v k tt cp l w c known due h

  converts_by : (operand : Expression) (ty : Ty) (line : ℕ) (v : Datum) (k : List Pending) → Law z (Holds v) (In (tree.Convert operand ty line) Nothing ∷ k)
  converts_by operand ty line v k cp l w c known due h =
      ⊎_elim
      (λ null. converts z given input operand ty line v k null cp l w c known due h)
      (λ made. null_converts z given input operand ty line v k made cp l w c known due h)
      (null_or ty v)

  casts_by : (operand : Expression) (ty : Ty) (line : ℕ) (v : Datum) (k : List Pending) → Law z (Holds v) (In (tree.Cast operand ty line) Nothing ∷ k)
  casts_by operand ty line v k cp l w c known due h =
      ⊎_elim
      (λ null. casts z given input operand ty line v k null cp l w c known due h)
      (λ made. null_casts z given input operand ty line v k made cp l w c known due h)
      (null_or ty v)

  updates_by : (op : BinOp) (place : Place) (value : Expression) (operation : Ty) (size : ℕ) (ty : Ty) (line : ℕ) (spot : Spot) (u v : Datum) (k : List Pending) → Law z (Holds v) (In (tree.Update op place value operation size ty line) (AtWith spot u) ∷ k)
  updates_by op place value operation size ty line spot (datum.Number y) (datum.Number x) k cp l w c known due h =
      ⊎_elim
      (λ sum. number_sums z given input op place value operation size ty line spot y x k sum cp l w c known due h)
      (λ other.
      ⊎_elim
      (λ constant. constant_updates z given input op place value operation size ty line spot y x k constant cp l w c known due h)
      (λ no. helped_updates z given input op place value operation size ty line spot y x k other cp l w c known due h)
      (bool_cases (shifts_by_constant op value)))
      (sum_or op)
  updates_by op place value operation size ty line spot (datum.Number y) (datum.Pointer x) k cp l w c known due h = pointer_updates z given input op place value operation size ty line spot y x k cp l w c known due h
  updates_by op place value operation size ty line spot (datum.Pointer y) (datum.Number x) k cp l w c known due h = updates_apart z given input op place value operation size ty line spot y (datum.Number x) k cp l w c known due h
  updates_by op place value operation size ty line spot (datum.Pointer y) (datum.Pointer x) k cp l w c known due h = updates_apart z given input op place value operation size ty line spot y (datum.Pointer x) k cp l w c known due h
  updates_by op place value operation size ty line spot (datum.Number y) datum.Missing k cp l w c known due h = missing_updates z op place value operation size ty line spot (datum.Number y) k cp l w c known due h
  updates_by op place value operation size ty line spot (datum.Pointer y) datum.Missing k cp l w c known due h = missing_updates z op place value operation size ty line spot (datum.Pointer y) k cp l w c known due h
  updates_by op place value operation size ty line spot datum.Missing v k cp l w c known due h = updates_missing z op place value operation size ty line spot v k cp l w c known due h

  steps_by : (op : StepOp) (place : Place) (operation : Ty) (size : ℕ) (ty : Ty) (line : ℕ) (spot : Spot) (v : Datum) (k : List Pending) → Law z (Holds v) (In (tree.Step op place operation size ty line) (At spot) ∷ k)
  steps_by op place operation size ty line spot (datum.Number x) k cp l w c known due h = number_steps z given input op place operation size ty line spot x k cp l w c known due h
  steps_by op place operation size ty line spot (datum.Pointer x) k cp l w c known due h = pointer_steps z given input op place operation size ty line spot x k cp l w c known due h
  steps_by op place operation size ty line spot datum.Missing k cp l w c known due h = missing_steps z op place operation size ty line spot k cp l w c known due h

  skims_by : (place : Place) (ty : Ty) (line : ℕ) (spot : Spot) (k : List Pending) → is_scalar ty ≡ false → Law z (Found spot) (In (tree.Read place ty line) Nothing ∷ k)
  skims_by place types.Void line spot k is cp l w c known due h = void_reads z given place line spot k cp l w c known due h
  skims_by place (types.Int ty) line spot k is cp l w c known due h = absurd (true_false is)
  skims_by place (types.Pointer row) line spot k is cp l w c known due h = absurd (true_false is)
  skims_by place (types.Array element length bytes) line spot k is cp l w c known due h = absurd (true_false (read_rule z.program place (types.Array element length bytes) line known.stands.stack.0.0).1)
  skims_by place (types.Struct number) line spot k is cp l w c known due h = structures_found z given input place number line spot k cp l w c known due h

  structures_by : (place : Place) (number line : ℕ) (start spot : Spot) (left : ℕ) (byte : Option Byte) (k : List Pending) → Law z (Skim spot left byte) (In (tree.Read place (types.Struct number) line) (At start) ∷ k)
  structures_by place number line start spot left byte k cp l w c known due h =
      ⊎_elim
      (λ some. structures_skimmed z given input place number line start spot left byte k some cp l w c known due h)
      (λ none. empty_skims z given (sized_bytes z given) place number line start spot left byte k (omega arith) cp l w c known due h)
      (cases_lt 0 (type_bytes z.program.sizes (types.Struct number)))

  reads_skim : (place : Place) (ty : Ty) (line : ℕ) (start spot : Spot) (left : ℕ) (byte : Option Byte) (k : List Pending) → Law z (Skim spot left byte) (In (tree.Read place ty line) (At start) ∷ k)
  reads_skim place types.Void line start spot left byte k cp l w c known due h = plain_skims z given place types.Void line start spot left byte k refl cp l w c known due h
  reads_skim place (types.Int ty) line start spot left byte k cp l w c known due h = plain_skims z given place (types.Int ty) line start spot left byte k refl cp l w c known due h
  reads_skim place (types.Pointer row) line start spot left byte k cp l w c known due h = plain_skims z given place (types.Pointer row) line start spot left byte k refl cp l w c known due h
  reads_skim place (types.Array element length bytes) line start spot left byte k cp l w c known due h = plain_skims z given place (types.Array element length bytes) line start spot left byte k refl cp l w c known due h
  reads_skim place (types.Struct number) line start spot left byte k cp l w c known due h = structures_by place number line start spot left byte k cp l w c known due h

  skims : (spot : Spot) (left : ℕ) (byte : Option Byte) (k : List Pending) → Law z (Skim spot left byte) k
  skims spot left byte (In (tree.Read place ty line) (At start) ∷ k) cp l w c known due h = reads_skim place ty line start spot left byte k cp l w c known due h
  skims spot left byte _ cp l w c known due h = absurd known.stands.focus.node

  locals_by : (local : ℕ) (e : Expression) (line : ℕ) (spot : Spot) (v : Datum) (at : ℕ) (k : List Pending) → Law z (Write spot v at) (Doing (tree.InitScalar local e line) Fills ∷ k)
  locals_by local e line spot v at k cp l w c known due h =
      ⊎_elim
      (λ some. scalar_writes z given input local e line spot v at k some cp l w c known due h)
      (λ none. missing_writes z given input local e line spot v at k (omega arith) cp l w c known due h)
      (cases_lt 0 (byte_count v))

  writes : (spot : Spot) (v : Datum) (at : ℕ) (k : List Pending) → Law z (Write spot v at) k
  writes spot v at (In e (Stores start u) ∷ k) cp l w c known due h = node_writes z given input e start spot u v at k cp l w c known due h
  writes spot v at (Doing (tree.InitScalar local e line) Fills ∷ k) cp l w c known due h = locals_by local e line spot v at k cp l w c known due h
  writes spot v at (Doing (tree.InitList local all line) (Items (tree.Scalar offset e) rest) ∷ k) cp l w c known due h = item_writes z given input local all line offset e rest spot v at k cp l w c known due h
  writes spot v at _ cp l w c known due h = absurd known.stands.focus.node

  copy_reads : (to from : Spot) (left : ℕ) (k : List Pending) → Law z (CopyRead to from left) k
  copy_reads to from (suc left) k cp l w c known due h = bytes_read z given input to from left k cp l w c known due h
  copy_reads to from zero (In (tree.StructAssign place other size line) Copies ∷ k) cp l w c known due h = assigns_end z given input place other size line to from k cp l w c known due h
  copy_reads to from zero (Doing (tree.InitList local all line) (Items (tree.Struct offset other zero) rest) ∷ k) cp l w c known due h = empty_items z given (sized_bytes z given) local all line offset other rest to from k cp l w c known due h
  copy_reads to from zero (Doing (tree.InitList local all line) (Items (tree.Struct offset other (suc size)) rest) ∷ k) cp l w c known due h = items_end z given input local all line offset other (suc size) rest to from k (omega arith) cp l w c known due h
  copy_reads to from zero _ cp l w c known due h = absurd known.stands.focus.node

  pub value_laws : ValueLaws z
  value_laws = record {
    converts = converts_by;
    casts = casts_by;
    unaries = unaries z given input;
    known_counts = known_counts z given input;
    binaries = binaries_by;
    offsets = offsets_by;
    differences = differences_by;
    updates = updates_by;
    steps = steps_by;
    returns = returns z given input;
  }

  pub place_laws : PlaceLaws z
  place_laws = record { skims = skims_by; addresses = place_addresses z given input; known_counts = known_updates z given input }

  pub node_laws : NodeLaws z
  node_laws = record {
    values = values z given input value_laws;
    places = places z given input place_laws;
    fetches = fetches z given input (structures_fetched z given);
    skims = skims;
    writes = writes;
    bits = bits z given input;
    copy_reads = copy_reads;
    copy_writes = copy_writes z given input (λ place other size line to from byte left k cp l w is known. carries_open z to from byte left (In (tree.StructAssign place other size line) Copies ∷ k) cp l w known);
    spells = spells z given input;
    blanks = blanks z given input;
    calls = calls z given input;
    leavings = leavings z given input;
    compares = comparisons z given input;
  }

  -- Byte code follows each state of a run.
  pub run_followed : (n : ℕ) → Followed z (moment (source_in z) n) (most_to z n) (least_to z n)
  run_followed n = followed z given input node_laws n
