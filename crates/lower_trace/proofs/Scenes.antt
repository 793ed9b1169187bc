-- What is given of a program makes the facts of its copies and objects that the laws of single steps need.
use Rattle.std.proofs.Common.{◌≡◌, ℕ, zero, suc, ◌+◌, ◌<◌, ◌≤◌, inl, inr, Bool, true, false, not, ◌&&◌, nat_eq, List, [], ◌∷◌, ◌++◌, length, map, Option, Some, None, slice_get, slice_index, take, refl, sym, ap, ◌∙◌, subst, ⊎_elim, arith}
use Rattle.std.proofs.lemmas.Grind.{common_steps}
use Rattle.std.proofs.lemmas.List.{length-append, length-map}
use Rattle.std.proofs.lemmas.Option.{same_Some, slice_get_within}
use Rattle.std.specs.Option.{option_map}
use Rattle.std.specs.Prelude.{slice_index_or}
use Rattle.c_typed.specs.Fits.{place_rule_holds, is_named, names_local, declared_type, static_type, variable_type}
use Rattle.c_typed.specs.Room.{frame_size, variables_bytes}
use Rattle.c_typed.specs.Trees as tree
use Rattle.c_typed.specs.Trees.{FunctionTree, Program, StaticTree, VariableTree}
use Rattle.c_typed.specs.Types.{type_bytes}
use Rattle.c_typed.specs.declared.calls.FnId.{FnId}
use Rattle.c_typed.specs.declared.calls.FnId.TheVariants as callee
use Rattle.c_typed.specs.declared.expression.Object.{Object as Name}
use Rattle.c_typed.specs.declared.expression.Object.TheVariants as names
use Rattle.c_typed.specs.declared.program.Initial.{Initial}
use Rattle.c_typed.specs.declared.types.Qualified.{Qualified}
use Rattle.call_graph.specs.declared.types.FnCopy.{FnCopy}
use Rattle.core_code.specs.Bytes.{Held, same_byte}
use Rattle.core_code.specs.Cost.{is_kept}
use Rattle.core_code.specs.FirstBytes.{first_held}
use Rattle.core_code.specs.Machine.{static_bytes, object_bytes as core_bytes}
use Rattle.core_code.specs.Tree as code
use Rattle.core_code.specs.declared.code.Byte.TheVariants.{Static, Frame}
use Rattle.lower_expr.specs.Layout.{static_number, object_byte}
use Rattle.lower_stmt.specs.Bodies.{code_of}
use Rattle.lower_stmt.specs.FirstBytes as firsts
use Rattle.lower_stmt.specs.Frames.{base_of}
use Rattle.lower_stmt.specs.Jumps.{outside}
use Rattle.lower_stmt.specs.Programs.{core_of, root_in, body_in, body_for, function_in, size_or_none, isnt_const}
use Rattle.lower_stmt.specs.Statements.{stmts_code}
use Rattle.pic_world.specs.declared.Root.TheVariants.{Main, Isr}
use Rattle.ram_place.specs.Sizes as sizes
use Rattle.src_rules.proofs.Places.{name_placed}
use Rattle.src_rules.proofs.Starts.{sound_runs}
use Rattle.src_rules.specs.Parts.{IsPlaceOf, IsRunnable}
use Rattle.src_rules.specs.Standing.{IsReached, IsThere}
use Rattle.src_rules.specs.Step.{copy_of}
use Rattle.src_values.specs.Objects as objects_of
use Rattle.src_values.specs.Objects.{object_bytes, is_constant_static, is_watched, same_copy, same_object, variables_of, function_at, handler_in, main_of, variable_offset, bytes_of_static, bytes_of_variable}
use Rattle.src_values.specs.declared.objects.CopyOf.{CopyOf}
use Rattle.src_values.specs.declared.objects.Object as object
use Rattle.src_values.specs.declared.objects.Object.TheVariants as objects
use Rattle.lower_trace.specs.Lowering.{IsLowerable, IsSmallCopy, copy_number, object_as, offset_as}
use Rattle.lower_trace.proofs.CodeLeft.{Scene, number, ground_in, core_in}
use Rattle.lower_trace.proofs.Entering.{copy_is, copy_self, bool_cases}
use Rattle.lower_trace.proofs.Kept.{SceneLaws}
use Rattle.lower_trace.proofs.Mirrors.{core_byte, at_byte}
use Rattle.lower_trace.proofs.Reading.{lt_true}
use Rattle.lower_trace.proofs.Numbering.{IsNumbered, numbered, numbers_apart, handler_numbered, main_numbered, function_there, at_is, roots_agree}
use Rattle.lower_trace.proofs.Variables.{base_is, params_is, locals_is, in_frame, in_all, is_in, same_variable, joined_bytes}
use Rattle.lower_trace.proofs.Written.{nat_same, same_nat}

-- ---- lists
first_count : (initial : List Initial) (n : ℕ) → length (firsts.bytes_in initial n) ≡ n
unfolding firsts.bytes_in
first_count initial zero = refl
first_count initial (suc n) = let l = length-append (firsts.bytes_in initial n) (firsts.byte_at initial n ∷ []) in let r = first_count initial n in omega (arith, l, r)

pub element_there : {A : Type 0} (xs : List A) (i : ℕ) → i < length xs → (x : A) × (slice_get xs i ≡ Some x)
element_there [] i lt = absurd (omega arith)
element_there (x ∷ xs) zero lt = (x, refl)
element_there (x ∷ xs) (suc i) lt = element_there xs i (omega (arith, lt))

static_at : (xs : List StaticTree) (i : ℕ) (x d : StaticTree) → slice_get xs i ≡ Some x → slice_index_or xs i d ≡ x
static_at [] i x d e = absurd (cc)
static_at (y ∷ xs) zero x d e = same_Some y x e
static_at (y ∷ xs) (suc i) x d e = static_at xs i x d e

declared_there : (local : Bool) (vs : List VariableTree) (i : ℕ) (ty : Qualified) → is_named local (option_map variable_type (slice_get vs i)) ty ≡ true → i < length vs
declared_there local vs i ty e = by (slice_get vs i) refl e where
  by : (o : Option VariableTree) → slice_get vs i ≡ o → is_named local (option_map variable_type o) ty ≡ true → i < length vs
  by None is h = absurd (cc)
  by (Some v) is h = slice_get_within vs i v is

small_number : (n : ℕ) → n ≤ 65535 → static_number n ≡ n
unfolding static_number
small_number n le = grind (arith, common_steps)

module _ (z : Scene) (given : IsLowerable z.program z.copies) where
  abbrev pub p : Program
  p = z.program

  pub runs : IsRunnable p
  runs = sound_runs p given.sound given.roots given.numbers

  -- ---- copies
  pub own_number : (c : CopyOf) → IsReached p c → IsNumbered z.copies c
  own_number c r = numbered p z.copies given.known given.acyclic c r

  -- what the machine asks of a copy by its number
  function_is : (c : CopyOf) → IsReached p c → function_in p (slice_get z.copies (number z c)) ≡ Some (function_at p c.function)
  function_is c r =
      let x = own_number c r in
      ap (function_in p) x.there ∙ ap (λ (f : FnId). function_in p (Some (record { root = x.copy.root; function = f; level = x.copy.level }))) x.is ∙ function_there p c.function r.there

  pub frame_is : (c : CopyOf) → IsReached p c → (core_in z).program.frame_bytes (number z c) ≡ frame_size p.sizes (function_at p c.function)
  unfolding core_of
  frame_is c r = ap (size_or_none (frame_size p.sizes)) (function_is c r)

  pub parameters_is : (c : CopyOf) → IsReached p c → (core_in z).program.parameter_bytes (number z c) ≡ variables_bytes p.sizes (function_at p c.function).params
  unfolding core_of
  parameters_is c r = ap (size_or_none (λ f. variables_bytes p.sizes f.params)) (function_is c r)

  pub variables_is : (c : CopyOf) → IsReached p c → (core_in z).program.variable_bytes (number z c) ≡ variables_bytes p.sizes (function_at p c.function).params + variables_bytes p.sizes (function_at p c.function).locals
  unfolding core_of
  variables_is c r = ap (size_or_none (λ f. variables_bytes p.sizes f.params + variables_bytes p.sizes f.locals)) (function_is c r)

  small_at : (n : ℕ) (copy : FnCopy) → slice_get z.copies n ≡ Some copy → IsSmallCopy p copy
  small_at n copy e = subst (IsSmallCopy p) (at_is z.copies n copy copy e) (given.small_copies n copy (slice_get_within z.copies n copy e))

  pub frame_small : (c : CopyOf) → IsReached p c → frame_size p.sizes (function_at p c.function) ≤ 96
  frame_small c r =
      let x = own_number c r in
      let s = (small_at (number z c) x.copy x.there).frame in
      let e : sizes.frame_bytes p x.copy.function ≡ frame_size p.sizes (function_at p c.function) = ap (sizes.frame_bytes p) x.is ∙ ap (sizes.size_or_none (frame_size p.sizes)) (function_there p c.function r.there) in
      omega (arith, s, e)

  pub block_small : (c : CopyOf) → IsReached p c → sizes.block_words p (callee.User c.function) ≤ 2048
  block_small c r =
      let x = own_number c r in
      let s = (small_at (number z c) x.copy x.there).block in
      let e : sizes.block_words p x.copy.function ≡ sizes.block_words p (callee.User c.function) = ap (sizes.block_words p) x.is in
      omega (arith, s, e)

  all_small : (n : ℕ) → (core_in z).program.frame_bytes n ≤ 96
  unfolding core_of
  all_small n = by (slice_get z.copies n) refl where
    of_function : (copy : FnCopy) (f : FnId) → copy.function ≡ f → slice_get z.copies n ≡ Some copy → size_or_none (frame_size p.sizes) (function_in p (Some (record { root = copy.root; function = f; level = copy.level }))) ≤ 96
    of_function copy (callee.User g) is e =
        let s = (small_at n copy e).frame in
        let q : sizes.frame_bytes p copy.function ≡ sizes.size_or_none (frame_size p.sizes) (slice_get p.functions g) = ap (sizes.frame_bytes p) is in
        same_size (slice_get p.functions g) (omega (arith, s, q))
      where
        same_size : (o : Option FunctionTree) → sizes.size_or_none (frame_size p.sizes) o ≤ 96 → size_or_none (frame_size p.sizes) o ≤ 96
        same_size None le = le
        same_size (Some f) le = le
    of_function copy (callee.Helper h) is e = omega arith

    by : (o : Option FnCopy) → slice_get z.copies n ≡ o → size_or_none (frame_size p.sizes) (function_in p o) ≤ 96
    by None e = omega arith
    by (Some copy) e = of_function copy copy.function refl e

  -- ---- variables
  pub base_at : (c : CopyOf) → IsReached p c → (ground_in z c).base ≡ variables_bytes p.sizes (variables_of (function_at p c.function))
  unfolding ground_in
  base_at c r =
      let f = function_at p c.function in
      let le = frame_small c r in
      let b = base_is p.sizes f (omega (arith, le)) in
      let j = joined_bytes p.sizes f.params f.locals in
      omega (arith, b, j)

  below : (c : CopyOf) (i at : ℕ) → IsReached p c → i < length (variables_of (function_at p c.function)) → at < object_bytes p (objects.Variable c i) → variable_offset p c.function i + at < (ground_in z c).base
  unfolding object_bytes
  below c i at r lt within =
      let x = is_in p.sizes (variables_of (function_at p c.function)) i at within in
      let l = in_all p.sizes (variables_of (function_at p c.function)) i x.variable x.there in
      let w = x.inside in
      let b = base_at c r in
      omega (arith, l, w, b)

  kept : (o : object.Object) (at : ℕ) → IsThere p o → at < object_bytes p o → is_kept (core_in z).program.variable_bytes (core_byte z o at) ≡ true
  kept (objects.Fixed n) at there inside = refl
  kept (objects.Variable c i) at there inside =
      let l = below c i at there.0 there.1 inside in
      let b = base_at c there.0 in
      let j = joined_bytes p.sizes (function_at p c.function).params (function_at p c.function).locals in
      let v = variables_is c there.0 in
      lt_true (variable_offset p c.function i + at) ((core_in z).program.variable_bytes (number z c)) (omega (arith, l, b, j, v))

  -- ---- two bytes
  apart_spots : (a b : CopyOf) (x y i j : ℕ) → IsReached p a → IsReached p b → same_copy a b ≡ false → same_byte (core_byte z (objects.Variable a x) i) (core_byte z (objects.Variable b y) j) ≡ (same_object (objects.Variable a x) (objects.Variable b y) && nat_eq i j)
  apart_spots a b x y i j ra rb other =
      let far : nat_eq (number z a) (number z b) ≡ false =
      ⊎_elim (λ t. absurd (let e = numbers_apart p z.copies given.known given.acyclic a b ra rb (same_nat (number z a) (number z b) t) in let q : same_copy a b ≡ true = ap (same_copy a) (sym e) ∙ copy_self a in let w : true ≡ false = sym q ∙ other in cc)) (λ f. f) (bool_cases (nat_eq (number z a) (number z b))) in
      ap (λ t. t && nat_eq (variable_offset p a.function x + i) (variable_offset p b.function y + j)) far ∙ sym (ap (λ t. (t && nat_eq x y) && nat_eq i j) other)

  one_spots : (a b : CopyOf) (x y i j : ℕ) → i < object_bytes p (objects.Variable a x) → j < object_bytes p (objects.Variable b y) → a ≡ b → same_byte (core_byte z (objects.Variable a x) i) (core_byte z (objects.Variable b y) j) ≡ (same_object (objects.Variable a x) (objects.Variable b y) && nat_eq i j)
  unfolding object_bytes
  one_spots a b x y i j li lj is =
      let vs = variables_of (function_at p a.function) in
      let lj' : j < bytes_of_variable p.sizes (slice_get vs y) = subst (λ (c : CopyOf). j < bytes_of_variable p.sizes (slice_get (variables_of (function_at p c.function)) y)) (sym is) lj in
      let here : same_byte (core_byte z (objects.Variable a x) i) (core_byte z (objects.Variable a y) j) ≡ (same_object (objects.Variable a x) (objects.Variable a y) && nat_eq i j) =
      ap (λ t. t && nat_eq (variable_offset p a.function x + i) (variable_offset p a.function y + j)) (nat_same (number z a))
      ∙ same_variable p.sizes vs x y i j (is_in p.sizes vs x i li) (is_in p.sizes vs y j lj')
      ∙ sym (ap (λ t. (t && nat_eq x y) && nat_eq i j) (copy_self a)) in
      subst (λ (c : CopyOf). same_byte (core_byte z (objects.Variable a x) i) (core_byte z (objects.Variable c y) j) ≡ (same_object (objects.Variable a x) (objects.Variable c y) && nat_eq i j)) is here

  spots : (a : object.Object) (i : ℕ) (b : object.Object) (j : ℕ) → IsThere p a → i < object_bytes p a → IsThere p b → j < object_bytes p b → same_byte (core_byte z a i) (core_byte z b j) ≡ (same_object a b && nat_eq i j)
  spots (objects.Fixed n) i (objects.Fixed m) j ta li tb lj = let x : 0 + i ≡ i = omega arith in let y : 0 + j ≡ j = omega arith in ap (λ k. nat_eq n m && nat_eq k (0 + j)) x ∙ ap (λ k. nat_eq n m && nat_eq i k) y
  spots (objects.Fixed n) i (objects.Variable b y) j ta li tb lj = refl
  spots (objects.Variable a x) i (objects.Fixed m) j ta li tb lj = refl
  spots (objects.Variable a x) i (objects.Variable b y) j ta li tb lj =
      ⊎_elim (λ t. one_spots a b x y i j li lj (copy_is a b t)) (λ f. apart_spots a b x y i j ta.0 tb.0 f) (bool_cases (same_copy a b))

  -- ---- static objects
  static_size : (n : ℕ) → n < length p.statics → static_bytes (core_in z).program n ≡ object_bytes p (objects.Fixed n)
  unfolding core_of object_bytes
  static_size n lt =
      let s = element_there p.statics n lt in
      let held_is : slice_index_or (map (map first_held) (map (firsts.static_bytes p.sizes) p.statics)) n [] ≡ map first_held (firsts.static_bytes p.sizes s.0) =
      mapped_twice p.statics n s.0 s.1 in
      ap length held_is ∙ length-map (firsts.static_bytes p.sizes s.0) first_held ∙ first_count s.0.initial (type_bytes p.sizes s.0.ty.ty) ∙ sym (ap (bytes_of_static p.sizes) s.1)
    where
      mapped_twice : (xs : List StaticTree) (i : ℕ) (x : StaticTree) → slice_get xs i ≡ Some x → slice_index_or (map (map first_held) (map (firsts.static_bytes p.sizes) xs)) i [] ≡ map first_held (firsts.static_bytes p.sizes x)
      mapped_twice [] i x e = absurd (cc)
      mapped_twice (y ∷ xs) zero x e = ap (λ s. map first_held (firsts.static_bytes p.sizes s)) (same_Some y x e)
      mapped_twice (y ∷ xs) (suc i) x e = mapped_twice xs i x e

  pub static_small : (n : ℕ) → n < length p.statics → object_bytes p (objects.Fixed n) ≤ 32767
  unfolding object_bytes
  static_small n lt =
      let s = element_there p.statics n lt in
      let a = given.small_statics n s.0 lt in
      let b : slice_index_or p.statics n s.0 ≡ s.0 = static_at p.statics n s.0 s.0 s.1 in
      let c : type_bytes p.sizes s.0.ty.ty ≤ 32767 = subst (λ (x : StaticTree). type_bytes p.sizes x.ty.ty ≤ 32767) b a in
      let d = ap (bytes_of_static p.sizes) s.1 in
      omega (arith, c, d)

  static_watched : (n : ℕ) → n < length p.statics → (core_in z).program.is_watched n ≡ is_watched p (objects.Fixed n)
  unfolding core_of is_watched
  static_watched n lt = let s = element_there p.statics n lt in ap isnt_const s.1 ∙ sym (ap (λ o. not (is_constant_static o)) s.1)

  -- ---- names
  name_at : (c : CopyOf) (object : Name) (ty : Qualified) (line : ℕ) → IsReached p c → IsPlaceOf p c.function (tree.Name object ty line) → at_byte z (objects_of.spot_of p c object) ≡ Some (object_byte (ground_in z c).layout (number z c) object)
  unfolding place_rule_holds ground_in
  name_at c (names.Static n) ty line r e =
      let lt = (name_placed p c (names.Static n) ty r e).0 in
      let few = given.few_statics in
      ap (λ k. Some (Static k 0)) (sym (small_number n (omega (arith, lt, few))))
  name_at c (names.Param n) ty line r e =
      let f = function_at p c.function in
      let lt = declared_there (names_local (names.Param n)) f.params n ty e in
      let le = frame_small c r in
      ap (λ k. Some (Frame (number z c) k)) (sym (params_is p.sizes f n (omega (arith, le)) lt))
  name_at c (names.Local n) ty line r e =
      let f = function_at p c.function in
      let lt = declared_there (names_local (names.Local n)) f.locals n ty e in
      let le = frame_small c r in
      ap (λ k. Some (Frame (number z c) k)) (sym (locals_is p.sizes f n (omega (arith, le)) lt))
  name_at c (names.Register a) ty line r e = refl

  -- ---- code
  body_is : (c : CopyOf) → IsReached p c → (core_in z).program.body (number z c) ≡ stmts_code (ground_in z c) outside (function_at p c.function).body ++ code.Leave ∷ []
  unfolding core_of ground_in
  body_is c r =
      let x = own_number c r in
      let n = number z c in
      ap (body_in p z.copies n) x.there
      ∙ ap (λ q. body_for p z.copies n q x.copy.function) x.root
      ∙ ap (body_for p z.copies n c.root) x.is
      ∙ ap (code_of p z.copies n c.root) (function_there p c.function r.there)

  root_at : (c : CopyOf) → IsReached p c → (core_in z).program.root (number z c) ≡ c.root
  unfolding core_of
  root_at c r = let x = own_number c r in ap root_in x.there ∙ x.root

  pub handler_reached : (h : ℕ) → handler_in p ≡ Some h → IsReached p (copy_of Isr h)
  handler_reached h e = record { root = h; entered = e; chain = ([], refl); there = runs.handler_there h e }

  handler_is : (h : ℕ) → handler_in p ≡ Some h → IsReached p (copy_of Isr h) × ((core_in z).program.handler ≡ Some (number z (copy_of Isr h)))
  unfolding core_of
  handler_is h e = let r = handler_reached h e in (r, handler_numbered p z.copies given.known given.acyclic h (roots_agree p Isr ∙ e) r)

  pub main_reached : IsReached p (copy_of Main (main_of p))
  main_reached = record { root = main_of p; entered = runs.main; chain = ([], refl); there = runs.main_there }

  pub main_first : number z (copy_of Main (main_of p)) ≡ 0
  main_first = main_numbered p z.copies given.known given.acyclic (main_of p) (roots_agree p Main ∙ runs.main) main_reached

  -- ---- objects within the objects of byte code
  variable_fits : (c : CopyOf) (i : ℕ) → i < length (variables_of (function_at p c.function)) → variable_offset p c.function i + object_bytes p (objects.Variable c i) ≤ frame_size p.sizes (function_at p c.function)
  unfolding object_bytes
  variable_fits c i lt =
      let f = function_at p c.function in
      let l = in_frame p.sizes (variables_of f) i lt in
      let j = joined_bytes p.sizes f.params f.locals in
      omega (arith, l, j)

  fits : (object : object.Object) → IsThere p object → offset_as p object + object_bytes p object ≤ core_bytes (core_in z).program (object_as z.copies object)
  fits (objects.Fixed n) there = let e = static_size n there in omega (arith, e)
  fits (objects.Variable c i) there =
      let e = frame_is c there.0 in
      let l = variable_fits c i there.1 in
      omega (arith, e, l)

  reach : (object : object.Object) → IsThere p object → core_bytes (core_in z).program (object_as z.copies object) ≤ 65535
  reach (objects.Fixed n) there = let e = static_size n there in let s = static_small n there in omega (arith, e, s)
  reach (objects.Variable c i) there = let s = all_small (number z c) in omega (arith, s)

  pub scene_laws : SceneLaws z
  scene_laws = record {
    apart = λ c d rc rd e. numbers_apart p z.copies given.known given.acyclic c d rc rd e;
    below = below;
    kept = kept;
    spots = spots;
    statics = static_size;
    watched = static_watched;
    names = name_at;
    bodies = body_is;
    roots = root_at;
    handles = handler_is;
    fits = fits;
    reach = reach;
    small = all_small;
  }
