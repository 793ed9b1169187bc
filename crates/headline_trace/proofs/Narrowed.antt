-- Byte code with operators, comparisons and conditions on low bytes follows byte code as it is lowered: each step keeps runs, since calls go up
-- by the levels of copies, main's copies before those of the handler, and static objects begin with no address of a frame.
use Rattle.std.proofs.Common.{◌≡◌, ℕ, zero, suc, ◌+◌, ◌<◌, ◌≤◌, Bool, true, false, ◌&&◌, nat_eq, if◌then◌else◌, List, [], ◌∷◌, length, map, Option, Some, None, refl, sym, ap, ◌∙◌, subst, ⊎_elim, arith}
use Rattle.std.specs.Prelude.{slice_get, slice_index_or}
use Rattle.std.specs.List.{All}
use Rattle.std.proofs.lemmas.Bool.{cases_lt, and_parts}
use Rattle.std.proofs.lemmas.List.{get_or_past}
use Rattle.std.proofs.lemmas.Option.{slice_get_within, get_or_from_slice_get}
use mathlib.Core.Path.{fun_ext}
use Rattle.c_typed.specs.Sound.{is_sound}
use Rattle.c_typed.specs.Trees.{Program}
use Rattle.call_graph.specs.declared.types.FnCopy.{FnCopy}
use Rattle.core_code.specs.Bytes as bytes
use Rattle.core_code.specs.Bytes.{Held, Fixed, FrameOf}
use Rattle.core_code.specs.Machine as byte_code
use Rattle.core_code.specs.Machine.{static_byte}
use Rattle.core_code.specs.Tree.{Tree}
use Rattle.core_code.specs.View.{trees_in}
use Rattle.core_code.specs.declared.code.Body.{Body}
use Rattle.core_code.specs.declared.code.CoreProgram.{CoreProgram}
use Rattle.headline_trace.specs.Linked.{CodeFollows, code_at, program_with}
use Rattle.lower_stmt.specs.Bodies.{body_of, bodies_of}
use Rattle.lower_stmt.specs.Programs.{calls_function, core_of, function_at, may_call, root_in}
use Rattle.headline_trace.proofs.Chains.{through}
use Rattle.core_code.specs.Runs.{run_of}
use Rattle.narrow_code.specs.Lending.{leads_lent}
use Rattle.narrow_code.specs.Links.{is_lent}
use Rattle.narrow_pass.proofs.Keeping.{narrowed_keeps}
use Rattle.narrow_pass.specs.Kept.{code_of, with_bodies, IsOrdered}
use Rattle.narrow_pass.specs.Narrowed.{IsNarrowed}
use Rattle.pic_world.specs.Roots.{same_root}
use Rattle.pic_world.specs.declared.Root.{Root}
use Rattle.pic_world.specs.declared.Root.TheVariants.{Main, Isr}
use Rattle.program_code.specs.Passed.{IsByteCode}
use Rattle.program_code.specs.Translated.{HasCalls}
use Rattle.select_wide.specs.Blocks.{body_at}
use Rattle.select_wide.specs.Links.{IsFirst, is_inside}
use Rattle.src_rules.specs.Numbers.{ProgramHasNumbers}
use Rattle.src_rules.specs.Parts.{IsRunnable}
use Rattle.headline_trace.specs.Selection.{level_in, level_of, limit_of}
use Rattle.headline_trace.proofs.Depths.{levels_had, roots_same}
use Rattle.headline_trace.proofs.Lowered.{code_there}
use Rattle.headline_trace.proofs.Statics.{first_there}

-- ---- code by copies
code_is : (bodies : List Body) (c : ℕ) → code_of bodies c ≡ code_at (body_at bodies c)
code_is [] c = refl
code_is (b ∷ bodies) c = by (nat_eq b.copy c) (code_is bodies c) where
  by : (t : Bool) → code_of bodies c ≡ code_at (body_at bodies c) → (if t then trees_in b.code.items else code_of bodies c) ≡ code_at (if t then Some b else body_at bodies c)
  by true below = refl
  by false below = below

-- one program behind the other
chained : (q r t : byte_code.Program) → CodeFollows q r → CodeFollows r t → CodeFollows q t
chained q r t first second o n goes =
    let f = first o n goes in
    through (λ event. event) (λ event. event) (run_of (record { program = q; outside = o })) (run_of (record { program = r; outside = o })) (run_of (record { program = t; outside = o })) n (λ k. Unit {0}) (f.0, f.1, tt)
    (λ k there is. second o k there)

-- ---- ranks
roots_alike : (p : Program) (a b : Option FnCopy) → may_call p a b ≡ true → root_in a ≡ root_in b
roots_alike p None b e = absurd (cc)
roots_alike p (Some a) None e = absurd (cc)
roots_alike p (Some a) (Some b) e = roots_same a.root b.root (and_parts (same_root a.root b.root) (calls_function (function_at p a.function) b.function) e).0

module _ (p : Program) (copies : List FnCopy) (has : HasCalls p copies) where
  calls_alike : (c d : ℕ) → (core_of p copies).calls c d ≡ true → (core_of p copies).root c ≡ (core_of p copies).root d
  unfolding core_of
  calls_alike c d e = roots_alike p (slice_get copies c) (slice_get copies d) e

  beyond : Root → ℕ
  beyond Main = 0
  beyond Isr = suc (limit_of copies false)

  rank : ℕ → ℕ
  rank c = level_in copies c + beyond ((core_of p copies).root c)

  rises : (c d : ℕ) → (core_of p copies).calls c d ≡ true → rank c < rank d
  unfolding rank
  rises c d e = let up = (levels_had p copies has).calls c d e in let same = ap beyond (calls_alike c d e) in omega (arith, up, same)

  main_low : (c : ℕ) → (core_of p copies).root c ≡ Main → level_in copies c ≤ limit_of copies false
  main_low c main = by (slice_get copies c) refl where
    by : (o : Option FnCopy) → slice_get copies c ≡ o → level_of o ≤ limit_of copies false
    by None is = omega arith
    by (Some copy) is =
        let low = (levels_had p copies has).within c (slice_get_within copies c copy is) in
        let inside = ap (λ (r : Root). limit_of copies (is_inside r)) main in
        let same = ap level_of is in
        omega (arith, low, inside, same)

  apart : (c h : ℕ) → same_root ((core_of p copies).root c) Main ≡ true → same_root ((core_of p copies).root h) Isr ≡ true → rank c < rank h
  unfolding rank beyond
  apart c h main isr =
      let m = roots_same ((core_of p copies).root c) Main main in
      let i = roots_same ((core_of p copies).root h) Isr isr in
      let low = main_low c m in
      let first : beyond ((core_of p copies).root c) ≡ 0 = ap beyond m in
      let second : beyond ((core_of p copies).root h) ≡ suc (limit_of copies false) = ap beyond i in
      omega (arith, low, first, second)

-- ---- first bytes lead to no frame
lent_first : (lent : ℕ → Bool) (objects : List (List Held)) (h : Held) → IsFirst objects h → leads_lent (is_lent lent) h ≡ true
lent_first lent objects bytes.Unset is = refl
lent_first lent objects (bytes.Number n) is = refl
lent_first lent objects (bytes.Part (Fixed n) offset high) is = refl
lent_first lent objects (bytes.Part (FrameOf c) offset high) is = absurd is

module _ (lent : ℕ → Bool) (objects : List (List Held)) where
  at_list : (list : List Held) → All (IsFirst objects) list → (offset : ℕ) → leads_lent (is_lent lent) (slice_index_or list offset bytes.Unset) ≡ true
  at_list list all offset =
      ⊎_elim
      (λ lt. lent_first lent objects (slice_index_or list offset bytes.Unset) (all offset bytes.Unset lt))
      (λ ge. ap (leads_lent (is_lent lent)) (get_or_past list offset bytes.Unset ge))
      (cases_lt offset (length list))

  at_object : (o : Option (List Held)) → ((list : List Held) → o ≡ Some list → All (IsFirst objects) list) → (offset : ℕ) → leads_lent (is_lent lent) (static_byte o offset) ≡ true
  at_object None all offset = refl
  at_object (Some list) all offset = at_list list (all list refl) offset

  pub at_first : All (All (IsFirst objects)) objects → (n offset : ℕ) → leads_lent (is_lent lent) (static_byte (slice_get objects n) offset) ≡ true
  at_first all n offset = at_object (slice_get objects n) there offset where
    there : (list : List Held) → slice_get objects n ≡ Some list → All (IsFirst objects) list
    there list is = subst (λ (l : List Held). All (IsFirst objects) l) (get_or_from_slice_get objects n list [] is) (all n [] (slice_get_within objects n list is))

-- ---- what follows
module _ (p : Program) (copies : List FnCopy) (sound : is_sound p ≡ true) (numbers : ProgramHasNumbers p) (has : HasCalls p copies) (runs : IsRunnable p) (lowered : CoreProgram) (bodies : map body_of lowered.bodies.items ≡ bodies_of p copies) where
  with_code : (ℕ → List Tree) → byte_code.Program
  with_code code = record (core_of p copies) { body = code }

  same_program : core_of p copies ≡ program_with p copies lowered.bodies.items
  unfolding with_code
  same_program = ap with_code (fun_ext (code_there p copies runs lowered.bodies.items bodies))

  -- What narrowing asks of a program holds of byte code.
  ordered : IsOrdered (core_of p copies)
  ordered = record { rank = rank p copies has; rises = rises p copies has; apart = apart p copies has; first = at_first (λ c. false) (core_of p copies).first (first_there p copies sound numbers) }

  with_same : (bodies : List Body) → with_bodies (core_of p copies) bodies ≡ program_with p copies bodies
  unfolding with_code
  with_same bodies = ap with_code (fun_ext (code_is bodies))

  step_follows : (given made : CoreProgram) → IsNarrowed given made → CodeFollows (program_with p copies given.bodies.items) (program_with p copies made.bodies.items)
  step_follows given made is =
      let both : CodeFollows (with_bodies (core_of p copies) given.bodies.items) (with_bodies (core_of p copies) made.bodies.items) =
      λ o n goes. let kept = narrowed_keeps given made is (core_of p copies) ordered o n goes in (kept.link, kept.slow) in
      subst (λ (q : byte_code.Program). CodeFollows q (program_with p copies made.bodies.items)) (with_same given.bodies.items)
      (subst (λ (q : byte_code.Program). CodeFollows (with_bodies (core_of p copies) given.bodies.items) q) (with_same made.bodies.items) both)

  code_follows : (core : CoreProgram) → IsByteCode lowered core → CodeFollows (core_of p copies) (program_with p copies core.bodies.items)
  code_follows core code =
      subst (λ (q : byte_code.Program). CodeFollows q (program_with p copies core.bodies.items)) (sym same_program)
      (chained (program_with p copies lowered.bodies.items) (program_with p copies code.between.bodies.items) (program_with p copies core.bodies.items) (step_follows lowered code.between code.narrowed)
      (step_follows code.between core code.tested))

-- The program of byte code of which blocks are made follows the one that was lowered.
pub bodies_follow : (p : Program) (copies : List FnCopy) → is_sound p ≡ true → ProgramHasNumbers p → HasCalls p copies → IsRunnable p → (lowered core : CoreProgram) → map body_of lowered.bodies.items ≡ bodies_of p copies → IsByteCode lowered core
    → CodeFollows (core_of p copies) (program_with p copies core.bodies.items)
bodies_follow p copies sound numbers has runs lowered core bodies code = code_follows p copies sound numbers has runs lowered bodies core code
