-- A function that another one calls: its copy under the same root is one that byte code may call from there, isn't the caller's, and is
-- neither main's nor the handler's.
use Rattle.std.proofs.Common.{◌≡◌, ℕ, ◌<◌, inl, inr, true, false, not, ◌&&◌, ◌||◌, nat_eq, get_or, map, List, [], ◌∷◌, length, replicate, Option, Some, None, slice_get, refl, sym, ap, ◌∙◌, subst, ⊎_elim, arith}
use Rattle.std.proofs.lemmas.Bool.{false_from_ne_true, cases_lt}
use Rattle.std.proofs.lemmas.List.{get_or_append_left, get_or-map, length-map}
use Rattle.std.proofs.lemmas.List.Quantifiers.{position-Some}
use Rattle.std.proofs.lemmas.Option.{same_Some, get_or_from_slice_get}
use Rattle.std.specs.List.{Contains}
use Rattle.c_typed.specs.Calls.{statements_calls}
use Rattle.c_typed.specs.Chains.{graph_of, number_of, row_of, Calls, IsChain}
use Rattle.c_typed.specs.Trees.{Program}
use Rattle.c_typed.specs.declared.calls.FnId.{FnId}
use Rattle.c_typed.specs.declared.calls.FnId.TheVariants as callee
use Rattle.call_graph.specs.Levels.{IsAcyclic}
use Rattle.call_graph.specs.Numbers.{handler_at}
use Rattle.call_graph.specs.declared.types.FnCopy.{FnCopy}
use Rattle.core_code.specs.Machine.{is_copy, is_entry}
use Rattle.lower_stmt.specs.Programs as programs
use Rattle.lower_stmt.specs.Programs.{core_of, may_call, calls_function, is_function}
use Rattle.pic_world.specs.Roots.{same_root}
use Rattle.pic_world.specs.declared.Root.{Root}
use Rattle.pic_world.specs.declared.Root.TheVariants.{Main, Isr}
use Rattle.src_rules.specs.Standing.{IsReached, root_in}
use Rattle.src_rules.specs.Step.{copy_of}
use Rattle.src_values.specs.Objects.{function_at, handler_in, main_of}
use Rattle.src_values.specs.declared.objects.CopyOf.{CopyOf}
use Rattle.lower_trace.specs.Lowering.{IsLowerable}
use Rattle.lower_trace.proofs.CodeLeft.{Scene, number, core_in}
use Rattle.lower_trace.proofs.Numbering.{function_there, at_is}
use Rattle.lower_trace.proofs.Passing.{allowed}
use Rattle.lower_trace.proofs.Reaches.{Member, contained_member, in_any}
use Rattle.lower_trace.proofs.Scenes.{own_number, runs, scene_laws, main_reached, main_first}
use Rattle.lower_trace.proofs.Written.{nat_same, same_nat, nat_apart, both, root_same}

-- ---- calls of a body
member_mapped : {A B : Type 0} (f : A → B) (xs : List A) (y : B) → Member y (map f xs) → (x : A) × Member x xs × (f x ≡ y)
member_mapped f [] y m = absurd m
member_mapped f (x ∷ xs) y (inl e) = (x, inl refl, e)
member_mapped f (x ∷ xs) y (inr m) = let r = member_mapped f xs y m in (r.0, inr r.1, r.2)

-- below the number of functions stand functions
user_called : (functions g : ℕ) (x : FnId) → number_of functions x ≡ g → g < functions → x ≡ callee.User g
user_called functions g (callee.User f) e lt = ap callee.User e
user_called functions g (callee.Helper h) e lt = absurd (omega (arith, e, lt))

row_is : (p : Program) (f : ℕ) → f < length p.functions → get_or (graph_of p) f [] ≡ row_of (length p.functions) (function_at p f)
row_is p f lt =
    let n = length p.functions in
    let none : List ℕ = [] in
    let l = length-map p.functions (row_of n) in
    get_or_append_left (map (row_of n) p.functions) (replicate 16 none) none f (omega (arith, l, lt))
    ∙ get_or-map (row_of n) p.functions f (function_at p f) none lt
    ∙ ap (row_of n) (get_or_from_slice_get p.functions f (function_at p f) (function_at p f) (function_there p f lt))

-- The function that is called stands among the calls of the caller's body.
pub called_among : (p : Program) (f g : ℕ) → f < length p.functions → g < length p.functions → Calls (graph_of p) f g → Member (callee.User g) (statements_calls (function_at p f).body)
called_among p f g own there call =
    let n = length p.functions in
    let calls = statements_calls (function_at p f).body in
    let m = contained_member g (map (number_of n) calls) (subst (λ (row : List ℕ). Contains row g) (row_is p f own) call) in
    let r = member_mapped (number_of n) calls g m in
    subst (λ (x : FnId). Member x calls) (user_called n g r.0 r.2 there) r.1

-- a call back to the root's own function would be recursion
cycle : (p : Program) → IsAcyclic (graph_of p) → (c : CopyOf) (g : ℕ) → IsReached p c → Calls (graph_of p) c.function g → root_in p c.root ≡ Some g → ⊥
cycle p acyclic c g r call e =
    acyclic c.function (g, r.chain.0, (call, subst (λ i. IsChain (graph_of p) i r.chain.0 c.function) (same_Some r.root g (sym r.entered ∙ e)) r.chain.1))

root_is : (a b : Root) → same_root a b ≡ true → a ≡ b
root_is Main Main e = refl
root_is Main Isr e = absurd (cc)
root_is Isr Main e = absurd (cc)
root_is Isr Isr e = refl

some_place : (n : ℕ) → (n ≡ 0 → ⊥) → nat_eq n 0 ≡ false
some_place n far = nat_apart n 0 (inr (⊎_elim (λ lt. lt) (λ ge. absurd (far (omega (arith, ge)))) (cases_lt 0 n)))

module _ (z : Scene) (given : IsLowerable z.program z.copies) (c : CopyOf) (g : ℕ) (reached : IsReached z.program c) (there : IsReached z.program (copy_of c.root g)) (call : Calls (graph_of z.program) c.function g) where
  abbrev p : Program
  p = z.program

  abbrev other : CopyOf
  other = copy_of c.root g

  -- the two copies are two
  pub called_apart : number z c ≡ number z other → ⊥
  called_apart e =
      let same = (scene_laws z given).apart c other reached there e in
      given.acyclic c.function (g, [], (call, sym (ap (λ x. x.function) same)))

  -- the body has the call
  calls_copy : (core_in z).program.calls (number z c) (number z other) ≡ true
  unfolding core_of
  calls_copy =
      let a = own_number z given c reached in
      let b = own_number z given other there in
      let roots : same_root a.copy.root b.copy.root ≡ true = ap (λ q. same_root q b.copy.root) (a.root ∙ sym b.root) ∙ root_same b.copy.root in
      let body : calls_function (programs.function_at p a.copy.function) b.copy.function ≡ true =
      ap (λ f. calls_function (programs.function_at p f) b.copy.function) a.is
      ∙ ap (λ f. calls_function (slice_get p.functions c.function) f) b.is
      ∙ ap (λ o. calls_function o (callee.User g)) (function_there p c.function reached.there)
      ∙ in_any (is_function (callee.User g)) (statements_calls (function_at p c.function).body) (callee.User g) (called_among p c.function g reached.there there.there call) (nat_same g) in
      ap (λ o. may_call p o (slice_get z.copies (number z other))) a.there
      ∙ ap (may_call p (Some a.copy)) b.there
      ∙ both (same_root a.copy.root b.copy.root) (calls_function (programs.function_at p a.copy.function) b.copy.function) roots body

  -- main's copy is another one
  main_apart : number z other ≡ 0 → ⊥
  main_apart e =
      let same = (scene_laws z given).apart other (copy_of Main (main_of p)) there (main_reached z given) (e ∙ sym (main_first z given)) in
      cycle p given.acyclic c g reached call (ap (λ x. root_in p x.root) same ∙ (runs z given).main ∙ ap Some (sym (ap (λ x. x.function) same)))

  -- and so is the handler's
  handler_apart : (o : Option ℕ) → handler_at z.copies ≡ o → is_copy o (number z other) ≡ false
  unfolding core_of
  handler_apart None e = refl
  handler_apart (Some m) e =
      false_from_ne_true (nat_eq m (number z other))
      (λ t.
      let is : m ≡ number z other = same_nat m (number z other) t in
      let b = own_number z given other there in
      let s = position-Some (λ (x : FnCopy). same_root x.root Isr) z.copies m b.copy e in
      let at : get_or z.copies m b.copy ≡ b.copy = ap (λ i. get_or z.copies i b.copy) is ∙ at_is z.copies (number z other) b.copy b.copy b.there in
      let root : b.copy.root ≡ Isr = root_is b.copy.root Isr (ap (λ (x : FnCopy). same_root x.root Isr) (sym at) ∙ s.1) in
      let entered : handler_in p ≡ Some reached.root = ap (root_in p) (sym root ∙ b.root) ∙ reached.entered in
      let h = (scene_laws z given).handles reached.root entered in
      let numbers : number z other ≡ number z (copy_of Isr reached.root) = sym is ∙ same_Some m (number z (copy_of Isr reached.root)) (sym e ∙ h.1) in
      let same = (scene_laws z given).apart other (copy_of Isr reached.root) there h.0 numbers in
      cycle p given.acyclic c g reached call (reached.entered ∙ ap Some (sym (ap (λ x. x.function) same))))

  no_entry : is_entry (core_in z).program (number z other) ≡ false
  unfolding core_of
  no_entry =
      ap (λ b. b || is_copy (handler_at z.copies) (number z other)) (some_place (number z other) main_apart)
      ∙ handler_apart (handler_at z.copies) refl

  -- so byte code may call it
  pub called_allowed : allowed (core_in z).program (number z c) (number z other) ≡ true
  called_allowed =
      let q = (core_in z).program in
      let laws = scene_laws z given in
      let roots : same_root (q.root (number z c)) (q.root (number z other)) ≡ true =
      ap (λ r. same_root r (q.root (number z other))) (laws.roots c reached) ∙ ap (same_root c.root) (laws.roots other there) ∙ root_same c.root in
      both (q.calls (number z c) (number z other) && same_root (q.root (number z c)) (q.root (number z other))) (not (is_entry q (number z other)))
      (both (q.calls (number z c) (number z other)) (same_root (q.root (number z c)) (q.root (number z other))) calls_copy roots)
      (ap not no_entry)
