-- From the levels under the roots to the copies of a program and its depth.
use Rattle.std.proofs.Common.{◌≡◌, ℕ, ◌+◌, ◌-◌, ◌^◌, ◌<◌, ◌≤◌, ◌⊎◌, inl, inr, List, [], Option, Some, None, length, get_or, map, replicate, refl, sym, ap, ◌∙◌, subst, arith}
use Rattle.std.specs.Global.{Global}
use Rattle.std.specs.List.{Contains}
use Rattle.std.specs.Option.{MatchOption}
use Rattle.std.specs.declared.vec.Vec.{Vec}
use Rattle.std.proofs.lemmas.Bool.{cases_lt}
use Rattle.std.proofs.lemmas.List.{get_or-append_right, get_or-map, length-append, length-map, length-replicate}
use Rattle.c_typed.proofs.Facts.{few_functions}
use Rattle.c_typed.specs.Chains.{graph_of, row_of, number_of, helper_number, Calls, IsLevel}
use Rattle.c_typed.specs.Trees.{FunctionTree, Program}
use Rattle.c_typed.specs.Views.{function_of, program_of}
use Rattle.c_typed.specs.declared.calls.FnId.{FnId}
use Rattle.c_typed.specs.declared.calls.FnId.TheVariants as callee
use Rattle.c_typed.specs.declared.calls.Helper.{Helper}
use Rattle.c_typed.specs.declared.calls.Helper.TheVariants.{Mul2, Mul4, Divu2, Divs2, Remu2, Rems2, Divu4, Divs4, Remu4, Rems4, Shl2, Shru2, Shrs2, Shl4, Shru4, Shrs4}
use Rattle.c_typed.specs.declared.program.Function.{Function}
use Rattle.c_typed.specs.declared.program.Typed.{Typed}
use Rattle.call_graph.specs.Adding.{Adds, UnderRoot, UnderHandler, UnderRoots, Measures, MeasuresHandler, longest_by}
use Rattle.call_graph.specs.Copies.{IsOne, IsCopy, AreCopies, IsDepthBy, HasDepthBy, name_at, root_of}
use Rattle.call_graph.specs.Levels.{HasLevel, IsFirstRecursive, IsLongestBy}
use Rattle.call_graph.specs.Rows.{rows_of}
use Rattle.call_graph.specs.declared.levels.Levels.{Levels}
use Rattle.call_graph.specs.declared.types.FnCopy.{FnCopy}
use Rattle.call_graph.proofs.Additions.{numbered}
use Rattle.call_graph.proofs.Callers.{none_calls}
use Rattle.call_graph.proofs.Deeper.{longest_is, no_shorter}
use Rattle.call_graph.proofs.Marking.{in_none}
use Rattle.pic_world.specs.declared.Root.{Root}
use Rattle.pic_world.specs.declared.Root.TheVariants as root

-- how many numbers a program's graph has
pub graph_size : (p : Program) → length (graph_of p) ≡ length p.functions + 16
graph_size p =
    let none : List ℕ = [] in
    let front : List (List ℕ) = map (row_of (length p.functions)) p.functions in
    let a = length-append front (replicate 16 none) in
    let b = length-map p.functions (row_of (length p.functions)) in
    let c = length-replicate 16 none in
    omega (arith, a, b, c)

pub rows_size : (rows : List (Vec ℕ Global)) (p : Program) → rows_of rows ≡ graph_of p → length rows ≡ length p.functions + 16
rows_size rows p is = sym (length-map rows (λ (v : Vec ℕ Global). v.items)) ∙ (ap length is ∙ graph_size p)

-- A typed program's graph is short enough for numbers of 32 bits.
pub few_rows : (p : Typed) (rows : List (Vec ℕ Global)) → rows_of rows ≡ graph_of (program_of p) → length rows < 2 ^ 32
few_rows p rows is =
    let size = rows_size rows (program_of p) is in
    let count = length-map p.functions.items function_of in
    let few = few_functions p in
    omega (arith, size, count, few)

pub named : (fs : List Function) (n : ℕ) (f : Function) → n < length fs → f ≡ get_or fs n f → get_or (map (λ (g : FunctionTree). g.name) (map function_of fs)) n [] ≡ f.name.items
named fs n f lt is =
    let size = length-map fs function_of in
    let outer : get_or (map (λ (g : FunctionTree). g.name) (map function_of fs)) n [] ≡ (get_or (map function_of fs) n (function_of f)).name = get_or-map (λ (g : FunctionTree). g.name) (map function_of fs) n (function_of f) [] (omega (arith, size)) in
    let inner : get_or (map function_of fs) n (function_of f) ≡ function_of f = get_or-map function_of fs n f (function_of f) lt ∙ ap function_of (sym is) in
    outer ∙ ap (λ (g : FunctionTree). g.name) inner

helper_below : (h : Helper) → helper_number h < 16
helper_below Mul2 = omega arith
helper_below Mul4 = omega arith
helper_below Divu2 = omega arith
helper_below Divs2 = omega arith
helper_below Remu2 = omega arith
helper_below Rems2 = omega arith
helper_below Divu4 = omega arith
helper_below Divs4 = omega arith
helper_below Remu4 = omega arith
helper_below Rems4 = omega arith
helper_below Shl2 = omega arith
helper_below Shru2 = omega arith
helper_below Shrs2 = omega arith
helper_below Shl4 = omega arith
helper_below Shru4 = omega arith
helper_below Shrs4 = omega arith

-- one of a program stands in its graph
pub one_below : (functions : ℕ) (id : FnId) → IsOne functions id → number_of functions id < functions + 16
one_below functions (callee.User n) one = let lt : n < functions = one in omega arith
one_below functions (callee.Helper h) one = let lt = helper_below h in omega (arith, lt)

-- the level that is told is the level
has_level : (graph : List (List ℕ)) (root n level : ℕ) (o : Option ℕ) → HasLevel graph root n o → o ≡ Some level → IsLevel graph root n level
has_level graph root n level o h is = subst (λ (x : Option ℕ). HasLevel graph root n x) is h

is_level : (graph : List (List ℕ)) (root n level : ℕ) (o : Option ℕ) → HasLevel graph root n o → IsLevel graph root n level → o ≡ Some level
is_level graph root n level None h l = absurd (h (l.0.0, l.0.1))
is_level graph root n level (Some found) h l =
    let most : length l.0.0 ≤ found = h.1 l.0.0 l.0.1 in
    let here : length l.0.0 ≡ level = l.0.2 in
    let least : length h.0.0 ≤ level = l.1 h.0.0 h.0.1 in
    let there : length h.0.0 ≡ found = h.0.2 in
    let same : found ≡ level = omega arith in
    ap Some same

root_copy : (graph : List (List ℕ)) (functions number : ℕ) (entry : Root) (found : Levels) (c : FnCopy) → Measures graph number found → UnderRoot functions entry found.levels.items c → IsLevel graph number (number_of functions c.function) c.level
root_copy graph functions number entry found c m u =
    let n : ℕ = number_of functions c.function in
    let lt : n < length found.levels.items = numbered found.levels.items n c.level u.level in
    let size : length found.levels.items ≡ length graph = m.size in
    has_level graph number n c.level (get_or found.levels.items n None) (m.levels n (omega arith)) u.level

copy_root : (graph : List (List ℕ)) (functions number : ℕ) (entry : Root) (found : Levels) (c : FnCopy) → length graph ≡ functions + 16 → Measures graph number found → c.root ≡ entry → IsOne functions c.function → IsLevel graph number (number_of functions c.function) c.level → UnderRoot functions entry found.levels.items c
copy_root graph functions number entry found c count m same one level =
    let n : ℕ = number_of functions c.function in
    let lt : n < functions + 16 = one_below functions c.function one in
    record { same = same; one = one; level = is_level graph number n c.level (get_or found.levels.items n None) (m.levels n (omega arith)) level }

handler_copy : (graph : List (List ℕ)) (functions : ℕ) (entry : Option ℕ) (handler : Option Levels) (c : FnCopy) → MeasuresHandler graph entry handler → UnderHandler functions handler c → (number : ℕ) × (entry ≡ Some number) × IsLevel graph number (number_of functions c.function) c.level × IsOne functions c.function × (c.root ≡ root.Isr)
handler_copy graph functions None None c m u = absurd u
handler_copy graph functions None (Some found) c m u = absurd m
handler_copy graph functions (Some number) None c m u = absurd m
handler_copy graph functions (Some number) (Some found) c m u = (number, refl, root_copy graph functions number root.Isr found c m u, u.one, u.same)

copy_handler : (graph : List (List ℕ)) (functions number : ℕ) (entry : Option ℕ) (handler : Option Levels) (c : FnCopy) → length graph ≡ functions + 16 → MeasuresHandler graph entry handler → entry ≡ Some number → c.root ≡ root.Isr → IsOne functions c.function → IsLevel graph number (number_of functions c.function) c.level → UnderHandler functions handler c
copy_handler graph functions number None None c count m is same one level = cc
copy_handler graph functions number None (Some found) c count m is same one level = absurd m
copy_handler graph functions number (Some n) None c count m is same one level = absurd m
copy_handler graph functions number (Some n) (Some found) c count m is same one level =
    let e : number ≡ n = cc in
    copy_root graph functions n root.Isr found c count m same one (subst (λ (k : ℕ). IsLevel graph k (number_of functions c.function) c.level) e level)

root_cases : (r : Root) → (r ≡ root.Main) ⊎ (r ≡ root.Isr)
root_cases root.Main = inl refl
root_cases root.Isr = inr refl

pub are_copies : (p : Program) (number : ℕ) (main : Levels) (handler : Option Levels) (list : List FnCopy) → root_of p root.Main ≡ Some number → Measures (graph_of p) number main → MeasuresHandler (graph_of p) (root_of p root.Isr) handler → Adds (length p.functions) (UnderRoots (length p.functions) main handler) [] list → AreCopies p list
are_copies p number main handler list entered m h a =
    let functions : ℕ = length p.functions in
    let to : (c : FnCopy) → UnderRoots functions main handler c → IsCopy p c = λ (c : FnCopy) (u : UnderRoots functions main handler c). elim u [
      | inl q ↦ record { number = number; entered = ap (root_of p) q.same ∙ entered; one = q.one; level = root_copy (graph_of p) functions number root.Main main c m q }
      | inr q ↦ (let w = handler_copy (graph_of p) functions (root_of p root.Isr) handler c h q in record { number = w.0; entered = ap (root_of p) w.4 ∙ w.1; one = w.3; level = w.2 })
    ] in
    let from : (c : FnCopy) → IsCopy p c → UnderRoots functions main handler c = λ (c : FnCopy) (k : IsCopy p c). elim (root_cases c.root) [
      | inl is ↦ (let both : Some k.number ≡ Some number = sym k.entered ∙ (ap (root_of p) is ∙ entered) in let same : k.number ≡ number = cc in
          inl (copy_root (graph_of p) functions number root.Main main c (graph_size p) m is k.one (subst (λ (j : ℕ). IsLevel (graph_of p) j (number_of functions c.function) c.level) same k.level)))
      | inr is ↦ inr (copy_handler (graph_of p) functions k.number (root_of p root.Isr) handler c (graph_size p) h (sym (ap (root_of p) is) ∙ k.entered) is k.one k.level)
    ] in
    record {
      exact = λ c. (λ there. elim ((a.exact c).0 there) [ inl o ↦ absurd (in_none c o) | inr u ↦ to c u ], λ k. (a.exact c).1 (inr (from c k)));
      ordered = a.ordered (λ i j d before lt. absurd (let no_such : j < 0 = lt in omega arith)) (λ x y there u. absurd (in_none x there));
    }

-- No level is over the calls of the longest chain.
pub levels_most : (graph : List (List ℕ)) (number : ℕ) (found : Levels) → Measures graph number found → (g level : ℕ) → get_or found.levels.items g None ≡ Some level → level ≤ found.longest
levels_most graph number found m g level is =
    let lt : g < length found.levels.items = numbered found.levels.items g level is in
    let size : length found.levels.items ≡ length graph = m.size in
    let within : g < length graph = omega arith in
    let l = has_level graph number g level (get_or found.levels.items g None) (m.levels g within) is in
    let most : length l.0.0 ≤ found.longest = m.longest.most g l.0.0 within l.0.1 in
    let here : length l.0.0 ≡ level = l.0.2 in
    omega arith

-- the same of the handler's levels
pub handler_measured : (graph : List (List ℕ)) (entry : Option ℕ) (handler : Option Levels) (found : Levels) → MeasuresHandler graph entry handler → handler ≡ Some found → (number : ℕ) × Measures graph number found
handler_measured graph None None found m is = absurd cc
handler_measured graph None (Some l) found m is = absurd m
handler_measured graph (Some number) None found m is = absurd m
handler_measured graph (Some number) (Some l) found m is = let same : l ≡ found = cc in (number, subst (λ (x : Levels). Measures graph number x) same m)

abbrev pub AddsUp : List ℕ → Levels → ℕ → Option Levels → Type 0
AddsUp deeper main depth handler = MatchOption handler (depth ≡ longest_by deeper main) (λ found. depth ≡ longest_by deeper main + 1 + longest_by deeper found)

pub main_shallow : (deeper : List ℕ) (main : Levels) (depth : ℕ) (handler : Option Levels) → AddsUp deeper main depth handler → main.longest ≤ depth
main_shallow deeper main depth None is = let le = no_shorter deeper main in omega (arith, is, le)
main_shallow deeper main depth (Some found) is = let le = no_shorter deeper main in omega (arith, is, le)

pub handler_shallow : (deeper : List ℕ) (main : Levels) (depth : ℕ) (handler : Option Levels) (found : Levels) → AddsUp deeper main depth handler → handler ≡ Some found → found.longest ≤ depth
handler_shallow deeper main depth None found is same = absurd cc
handler_shallow deeper main depth (Some l) found is same =
    let also : l.longest ≡ found.longest = ap (λ (o : Levels). o.longest) (let e : l ≡ found = cc in e) in
    let le = no_shorter deeper l in
    omega (arith, is, also, le)

pub is_depth : (deeper : List ℕ) (graph : List (List ℕ)) (number : ℕ) (entry : Option ℕ) (main : Levels) (handler : Option Levels) (depth : ℕ) → Measures graph number main → MeasuresHandler graph entry handler → AddsUp deeper main depth handler → IsDepthBy deeper graph (Some number) entry depth
is_depth deeper graph number None main None depth m h is = subst (λ (d : ℕ). IsLongestBy deeper graph number d) (sym is) (longest_is deeper graph number main m)
is_depth deeper graph number None main (Some found) depth m h is = absurd h
is_depth deeper graph number (Some e) main None depth m h is = absurd h
is_depth deeper graph number (Some e) main (Some found) depth m h is =
    (longest_by deeper main, longest_by deeper found, longest_is deeper graph number main m, longest_is deeper graph e found h, is)

pub has_depth : (p : Program) (deeper : List ℕ) (graph : List (List ℕ)) (number : ℕ) (entry : Option ℕ) (main : Levels) (handler : Option Levels) (depth : ℕ) → graph ≡ graph_of p → root_of p root.Main ≡ Some number → root_of p root.Isr ≡ entry → Measures graph number main → MeasuresHandler graph entry handler → AddsUp deeper main depth handler → HasDepthBy p deeper depth
has_depth p deeper graph number entry main handler depth is by_main by_handler m h adds =
    let d : IsDepthBy deeper graph (Some number) entry depth = is_depth deeper graph number entry main handler depth m h adds in
    subst (λ (g : List (List ℕ)). IsDepthBy deeper g (root_of p root.Main) (root_of p root.Isr) depth) is
    (subst (λ (o : Option ℕ). IsDepthBy deeper graph o (root_of p root.Isr) depth) (sym by_main) (subst (λ (o : Option ℕ). IsDepthBy deeper graph (Some number) o depth) (sym by_handler) d))

-- The same over the numbers that the code has.
pub finished : (p : Program) (graph : List (List ℕ)) (functions number : ℕ) (entry : Option ℕ) (main : Levels) (handler : Option Levels) (list : List FnCopy) → graph ≡ graph_of p → functions ≡ length p.functions → root_of p root.Main ≡ Some number → root_of p root.Isr ≡ entry → Measures graph number main → MeasuresHandler graph entry handler → Adds functions (UnderRoots functions main handler) [] list → AreCopies p list
finished p graph functions number entry main handler list is count by_main by_handler m h a =
    let m2 : Measures (graph_of p) number main = subst (λ (g : List (List ℕ)). Measures g number main) is m in
    let h2 : MeasuresHandler (graph_of p) (root_of p root.Isr) handler = subst (λ (e : Option ℕ). MeasuresHandler (graph_of p) e handler) (sym by_handler) (subst (λ (g : List (List ℕ)). MeasuresHandler g entry handler) is h) in
    let a2 : Adds (length p.functions) (UnderRoots (length p.functions) main handler) [] list = subst (λ (n : ℕ). Adds n (UnderRoots n main handler) [] list) count a in
    are_copies p number main handler list by_main m2 h2 a2

pub at_none : (o : Option ℕ) (A : Type 0) (B : ℕ → Type 0) → MatchOption o A B → o ≡ None → A
at_none None A B m is = m
at_none (Some n) A B m is = absurd cc

pub at_some : (o : Option ℕ) (n : ℕ) (A : Type 0) (B : ℕ → Type 0) → MatchOption o A B → o ≡ Some n → B n
at_some None n A B m is = absurd cc
at_some (Some k) n A B m is = let same : k ≡ n = cc in subst B same m

-- helpers call nothing
function_calls : (p : Program) (f g : ℕ) → Calls (graph_of p) f g → f < length p.functions
function_calls p f g c = elim (cases_lt f (length p.functions)) [
  | inl lt ↦ lt
  | inr past ↦ absurd (
      let none : List ℕ = [] in
      let front : List (List ℕ) = map (row_of (length p.functions)) p.functions in
      let row : get_or (graph_of p) f none ≡ get_or (replicate 16 none) (f - length p.functions) none = get_or-append_right front (replicate 16 none) (length p.functions) f none (length-map p.functions (row_of (length p.functions))) past in
      none_calls 16 (f - length p.functions) g (subst (λ (r : List ℕ). Contains r g) row c))
]

pub recursion_told : (p : Program) (graph : List (List ℕ)) (f : ℕ) (name : List ℕ) → graph ≡ graph_of p → IsFirstRecursive graph f → name ≡ name_at p f → (g : ℕ) × (g < length p.functions) × IsFirstRecursive (graph_of p) g × (name ≡ name_at p g)
recursion_told p graph f name is first called =
    let r : IsFirstRecursive (graph_of p) f = subst (λ (g : List (List ℕ)). IsFirstRecursive g f) is first in
    (f, function_calls p f r.reaches_itself.0 r.reaches_itself.2.0, r, called)
