-- The laws of conversions, put together. A number becomes a pointer only where it is a null constant, which isn't said here.
use Rattle.std.proofs.Common.{◌≡◌, ℕ, ◌+◌, ◌-◌, ◌*◌, ◌<◌, ◌≤◌, ◌⊎◌, inl, inr, false, if◌then◌else◌, List, ◌∷◌, nat_lt, sym, ap, subst, arith}
use Rattle.std.proofs.lemmas.Grind.{common_steps}
use Rattle.std.proofs.Math.Nat.{le-max_right}
use Rattle.std.specs.List.{All}
use Rattle.c_ints.specs.Range.{bytes_of}
use Rattle.c_typed.specs.Room.{room}
use Rattle.c_typed.specs.Trees as tree
use Rattle.c_typed.specs.Trees.{Expression, Program}
use Rattle.c_typed.specs.Types.{type_bytes, type_of, value_bytes}
use Rattle.c_typed.specs.Words.{convert_words}
use Rattle.c_typed.specs.declared.types.Ty.{Ty}
use Rattle.c_typed.specs.declared.types.Ty.TheVariants as types
use Rattle.src_rules.specs.Standing.{HasType}
use Rattle.src_rules.specs.State.{state}
use Rattle.src_rules.specs.Step.{act}
use Rattle.src_values.specs.Control.{Holds, Nothing, Pending, In}
use Rattle.src_values.specs.Data as datum
use Rattle.src_values.specs.Data.{Datum}
use Rattle.lower_trace.specs.Lowering.{IsLowerable}
use Rattle.lower_trace.proofs.CodeLeft.{Scene}
use Rattle.lower_trace.proofs.Converting.{IsNullFor, convert_most, to_bytes, convert_given, cast_given}
use Rattle.lower_trace.proofs.Fitting.{typed_bytes}
use Rattle.lower_trace.proofs.Known.{around}
use Rattle.lower_trace.proofs.Leads.{Law, led_by}
use Rattle.lower_trace.proofs.LedValues.{around_in}
use Rattle.lower_trace.proofs.Rooms.{pointer_bytes_are}
use Rattle.lower_trace.proofs.Scenes.{frame_is, scene_laws}

-- a number that becomes a pointer
abbrev pub IsNullMade : Ty → Datum → Type 0
IsNullMade (types.Pointer row) (datum.Number q) = Unit {0}
IsNullMade _ _ = ⊥

pub null_or : (ty : Ty) (v : Datum) → IsNullFor ty v ⊎ IsNullMade ty v
null_or (types.Pointer row) (datum.Number q) = inr tt
null_or (types.Pointer row) (datum.Pointer x) = inl tt
null_or (types.Pointer row) datum.Missing = inl tt
null_or types.Void v = inl tt
null_or (types.Int ty) v = inl tt
null_or (types.Array element length bytes) v = inl tt
null_or (types.Struct number) v = inl tt

-- ---- what a conversion takes
none_less : (n : ℕ) → nat_lt n 0 ≡ false
none_less n = grind (arith, common_steps)

none_words : (n q : ℕ) → convert_words n 0 ≤ q
none_words n q = subst (λ b. (if b then 8 + 4 * (0 - n) else 0) ≤ q) (sym (none_less n)) (omega arith)

words_to : (sizes : List ℕ) (n m : ℕ) (ty : Ty) → n ≡ m → convert_words n (to_bytes ty) ≤ convert_words m (type_bytes sizes ty)
words_to sizes n m types.Void e = none_words n (convert_words m (type_bytes sizes types.Void))
words_to sizes n m (types.Int t) e = subst (λ y. convert_words n (bytes_of t) ≤ convert_words y (bytes_of t)) e (omega arith)
words_to sizes n m (types.Pointer row) e = subst (λ y. convert_words n 2 ≤ convert_words y 2) e (omega arith)
words_to sizes n m (types.Array element length bytes) e = none_words n (convert_words m (type_bytes sizes (types.Array element length bytes)))
words_to sizes n m (types.Struct number) e = none_words n (convert_words m (type_bytes sizes (types.Struct number)))

convert_low : (p : Program) (operand : Expression) (ty : Ty) (v : Datum) → HasType p (type_of operand) v → convert_most v ty ≤ convert_words (value_bytes p.sizes operand) (type_bytes p.sizes ty)
convert_low p operand ty (datum.Number q) h = words_to p.sizes (bytes_of q.ty) (value_bytes p.sizes operand) ty (sym (ap (type_bytes p.sizes) h.0))
convert_low p operand ty (datum.Pointer x) h = words_to p.sizes 2 (value_bytes p.sizes operand) ty (sym (pointer_bytes_are p.sizes (type_of operand) h.0))
convert_low p operand ty datum.Missing h = omega arith

made_few : (sizes : List ℕ) (ty : Ty) → to_bytes ty ≤ type_bytes sizes ty
made_few sizes types.Void = omega arith
made_few sizes (types.Int ty) = omega arith
made_few sizes (types.Pointer row) = omega arith
made_few sizes (types.Array element length bytes) = omega arith
made_few sizes (types.Struct number) = omega arith

module _ (z : Scene) (given : IsLowerable z.program z.copies) (input : All (λ byte. byte < 256) z.outside.input) where
  -- A value is converted.
  pub converts : (operand : Expression) (ty : Ty) (line : ℕ) (v : Datum) (k : List Pending) → IsNullFor ty v → Law z (Holds v) (In (tree.Convert operand ty line) Nothing ∷ k)
  unfolding act room
  converts operand ty line v k null cp l w c known due h =
      let e = tree.Convert operand ty line in
      let s = known.stands in
      let sizes = z.program.sizes in
      let t = subst (λ y. HasType z.program y v) s.focus.1 s.focus.2 in
      let f = frame_is z given cp s.reached in
      let fits = known.stack.0 in
      let all = le-max_right (room sizes operand) (value_bytes sizes operand + type_bytes sizes ty) in
      let from = typed_bytes z.program (type_of operand) v t in
      let to = made_few sizes ty in
      led_by z _ _ (convert_most v ty) 0 c _ (convert_low z.program operand ty v t) (omega arith)
      (convert_given z (scene_laws z given) operand ty line v k cp l w c
      (record { around = around_in z cp e Nothing k (around z given input (state cp (Holds v) (In e Nothing ∷ k) l w) known); before = omega arith; behind = omega arith }) t null due h)

  pub casts : (operand : Expression) (ty : Ty) (line : ℕ) (v : Datum) (k : List Pending) → IsNullFor ty v → Law z (Holds v) (In (tree.Cast operand ty line) Nothing ∷ k)
  unfolding act room
  casts operand ty line v k null cp l w c known due h =
      let e = tree.Cast operand ty line in
      let s = known.stands in
      let sizes = z.program.sizes in
      let t = subst (λ y. HasType z.program y v) s.focus.1 s.focus.2 in
      let f = frame_is z given cp s.reached in
      let fits = known.stack.0 in
      let all = le-max_right (room sizes operand) (value_bytes sizes operand + type_bytes sizes ty) in
      let from = typed_bytes z.program (type_of operand) v t in
      let to = made_few sizes ty in
      led_by z _ _ 24 0 c _ (omega arith) (omega arith)
      (cast_given z (scene_laws z given) operand ty line v k cp l w c
      (record { around = around_in z cp e Nothing k (around z given input (state cp (Holds v) (In e Nothing ∷ k) l w) known); before = omega arith; behind = omega arith }) t null due h)
