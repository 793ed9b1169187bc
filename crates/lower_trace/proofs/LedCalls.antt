-- The laws of values that functions give, put together: a `return` with a value, and the call that it goes to.
use Rattle.std.proofs.Common.{◌≡◌, ℕ, ◌+◌, ◌*◌, ◌<◌, ◌≤◌, inl, true, false, ◌&&◌, ◌||◌, List, ◌∷◌, Option, Some, None, slice_get, refl, sym, ap, ◌∙◌, subst, ⊎_elim, arith}
use Rattle.std.proofs.lemmas.Bool.{and_parts, or_cases}
use Rattle.std.specs.List.{All, list_all}
use Rattle.c_typed.proofs.Facts.{function_of_sound}
use Rattle.c_typed.specs.Room.{room, arguments_room, arguments_bytes, statement_room}
use Rattle.c_typed.specs.Sameness.{is_scalar, is_void}
use Rattle.c_typed.specs.Sound.{is_sound, function_fits, result_fits, param_fits, local_fits, statements_fit, type_is_there}
use Rattle.c_typed.specs.Trees as tree
use Rattle.c_typed.specs.Trees.{Expression, Expressions, FunctionTree, Program}
use Rattle.c_typed.specs.Types.{type_bytes, type_of}
use Rattle.c_typed.specs.declared.types.Ty.{Ty}
use Rattle.c_typed.specs.declared.types.Ty.TheVariants as types
use Rattle.lower_expr.specs.Layout.{width}
use Rattle.lower_stmt.specs.Ground as ground
use Rattle.src_rules.proofs.Distinct.{distinct}
use Rattle.src_rules.proofs.Starts.{sound_runs}
use Rattle.src_rules.proofs.Statements.{unwound_stands, gives_to_call}
use Rattle.src_rules.specs.Standing.{HasType, ReturnsOf}
use Rattle.src_rules.specs.State.{state}
use Rattle.src_rules.specs.Statements.{unwound}
use Rattle.src_rules.specs.Step.{act}
use Rattle.src_values.specs.Control.{Holds, Leaves, Called, Tests, Pending, In, Doing, Returns}
use Rattle.src_values.specs.Data as datum
use Rattle.src_values.specs.Data.{Datum}
use Rattle.src_values.specs.Objects.{function_at, or_no_function}
use Rattle.src_values.specs.Values.{byte_count}
use Rattle.src_values.specs.declared.objects.CopyOf.{CopyOf}
use Rattle.lower_trace.specs.Lowering.{IsLowerable}
use Rattle.lower_trace.proofs.CodeLeft.{Scene, ground_in}
use Rattle.lower_trace.proofs.Fitting.{piled, width_is}
use Rattle.lower_trace.proofs.Giving.{Around}
use Rattle.lower_trace.proofs.Handing.{call_handed}
use Rattle.lower_trace.proofs.Known.{small, unwound_held, resumables_of}
use Rattle.lower_trace.proofs.Leads.{Law, led_by}
use Rattle.lower_trace.proofs.LedValues.{int_some, pointer_two}
use Rattle.lower_trace.proofs.Returning.{Resumables, return_given}
use Rattle.lower_trace.proofs.Rooms.{three_parts, value_room}
use Rattle.lower_trace.proofs.Scenes.{frame_is, scene_laws}
use Rattle.lower_trace.proofs.Surroundings.{mains_wait, others_wait}

-- ---- types of results
pub scalar_few : (sizes : List ℕ) (ty : Ty) → is_scalar ty ≡ true → type_bytes sizes ty ≤ 4
scalar_few sizes types.Void e = absurd (cc)
scalar_few sizes (types.Int ty) e = (int_some ty).1
scalar_few sizes (types.Pointer row) e = omega arith
scalar_few sizes (types.Array element length size) e = absurd (cc)
scalar_few sizes (types.Struct number) e = absurd (cc)

void_few : (sizes : List ℕ) (ty : Ty) → is_void ty ≡ true → type_bytes sizes ty ≤ 4
void_few sizes types.Void e = omega arith
void_few sizes (types.Int ty) e = absurd (cc)
void_few sizes (types.Pointer row) e = absurd (cc)
void_few sizes (types.Array element length size) e = absurd (cc)
void_few sizes (types.Struct number) e = absurd (cc)

result_few : (p : Program) (f : FunctionTree) → function_fits p f ≡ true → type_bytes p.sizes f.result ≤ 4
result_few p f e =
    let parts = and_parts (result_fits p f.result) (list_all (param_fits p) f.params && (list_all (local_fits p) f.locals && statements_fit p f true false false f.body)) e in
    let kind = and_parts (is_scalar f.result || is_void f.result) (type_is_there p f.result) parts.0 in
    ⊎_elim (scalar_few p.sizes f.result) (void_few p.sizes f.result) (or_cases (is_scalar f.result) (is_void f.result) kind.0)

result_bytes : (p : Program) → is_sound p ≡ true → (f : ℕ) → type_bytes p.sizes (function_at p f).result ≤ 4
result_bytes p sound f = by (slice_get p.functions f) refl
  where
    by : (o : Option FunctionTree) → slice_get p.functions f ≡ o → type_bytes p.sizes (or_no_function o).result ≤ 4
    by None e = omega arith
    by (Some function) e = result_few p function (function_of_sound p f function sound e)

-- a value has no more bytes than its type
typed_bytes : (p : Program) (ty : Ty) (v : Datum) → HasType p ty v → byte_count v ≤ type_bytes p.sizes ty
typed_bytes p ty (datum.Number q) h = let e = ap (type_bytes p.sizes) h.0 in omega arith
typed_bytes p ty (datum.Pointer x) h = let e = pointer_two p.sizes ty h.0 in omega arith
typed_bytes p ty datum.Missing h = omega arith

module _ (z : Scene) (given : IsLowerable z.program z.copies) (input : All (λ byte. byte < 256) z.outside.input) where
  call_room : (g : ℕ) (arguments : Expressions) (ty : Ty) (line : ℕ) → type_bytes z.program.sizes ty ≤ room z.program.sizes (tree.Call g arguments ty line)
  unfolding room
  call_room g arguments ty line = (three_parts (arguments_room z.program.sizes 0 arguments) (arguments_bytes z.program.sizes arguments) (type_bytes z.program.sizes ty)).2

  -- The value of a function goes to its call.
  pub leavings : (v : Datum) (k : List Pending) → Law z (Leaves v) k
  unfolding act
  leavings v (Returns d ∷ In (tree.Call g arguments ty line) Called ∷ k) cp l w c known due h =
      let s = known.stands in
      let st = s.stack in
      let below = st.3.3 in
      let fits = known.stack in
      let free = (distinct z.program given.acyclic (state cp (Leaves v) (Returns d ∷ In (tree.Call g arguments ty line) Called ∷ k) l w) s).1.0 in
      let is : (function_at z.program cp.function).result ≡ ty = ap (λ x. (function_at z.program x).result) (sym st.2) ∙ st.3.0.2 in
      let few = result_bytes z.program given.sound cp.function in
      let same = ap (type_bytes z.program.sizes) is in
      let count = typed_bytes z.program (function_at z.program cp.function).result v s.focus.1 in
      let wide = width_is z d ty (omega arith) in
      let f = frame_is z given d st.0 in
      let part = call_room g arguments ty line in
      let room_is = fits.0 in
      let a : Around z d k = record {
        reached = st.0;
        apart = others_wait z (scene_laws z given) d d k refl st.0 below free;
        mains = mains_wait z.program d k below;
        piled = piled z d (small z given input d st.0) k below fits.1;
      } in
      led_by z _ _ (6 * width (ground_in z d).layout ty) 0 c _ (omega arith) (omega arith) (call_handed z (scene_laws z given) g arguments ty line v d cp k l w c a st.0 (omega arith) (omega arith) (omega arith) st.1 due h)
  leavings v (Returns d ∷ _) cp l w c known due h = absurd known.stands.stack.2
  leavings v _ cp l w c known due h = absurd known.stands.focus.0

  -- ---- a return with a value
  record Caller (k : List Pending) : Type 0 where
    copy : CopyOf
    rest : List Pending
    is : k ≡ Returns copy ∷ rest

  caller : (k : List Pending) → ReturnsOf k → Caller k
  caller (Returns d ∷ k) h = record { copy = d; rest = k; is = refl }
  caller _ h = absurd h

  -- The value of a `return` goes to the function's result.
  pub returns : (e : Expression) (line : ℕ) (v : Datum) (k : List Pending) → Law z (Holds v) (Doing (tree.Return (Some e) line) Tests ∷ k)
  unfolding act statement_room
  returns e line v k cp l w c known due h =
      let s = known.stands in
      let st = s.stack in
      let u = unwound_stands z.program k cp st.1 st.3 in
      let goes = st.0.0 in
      let runs = sound_runs z.program given.sound given.roots given.numbers in
      let d = caller (unwound k) (gives_to_call z.program runs e (unwound k) cp u.0 u.1 goes) in
      let resumables : Resumables cp.root d.rest = subst (Resumables cp.root) d.is (resumables_of z.program cp.root cp (unwound k) (inl refl) u.1 (unwound_held k known.resumable)) in
      let few = scalar_few z.program.sizes (function_at z.program cp.function).result goes.1 in
      let same = ap (type_bytes z.program.sizes) goes.0 in
      let count = typed_bytes z.program (type_of e) v (subst (λ y. HasType z.program y v) s.focus.1 s.focus.2) in
      let wide = width_is z cp (type_of e) (omega arith) in
      let value = value_room z.program cp.function e st.0.1 in
      let f = frame_is z given cp s.reached in
      let fits = known.stack.0.0 in
      led_by z _ _ (6 * ground.width (ground_in z cp) e + 4) 1 c _ (omega arith) (omega arith) (return_given z (scene_laws z given) e line v d.copy k d.rest cp l w c d.is resumables s.reached (omega arith) (omega arith) (omega arith) due h)
