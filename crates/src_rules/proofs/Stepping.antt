-- Each micro-step keeps what stands, and there is a rule for it.
use Rattle.std.proofs.Common.{◌≡◌, ℕ, zero, suc, ◌+◌, ◌<◌, ◌≤◌, Bool, true, false, List, [], ◌∷◌, ◌++◌, length, Option, Some, None, refl, sym, ap, ◌∙◌, subst, arith}
use Rattle.std.proofs.lemmas.Bool.{false≢true}
use Rattle.std.proofs.lemmas.List.{length-append}
use Rattle.std.specs.List.{All}
use Rattle.std.specs.Prelude.{if◌then◌else◌, slice_get}
use Rattle.c_typed.specs.Chains.{graph_of, Calls, IsChain}
use Rattle.c_typed.specs.Sameness.{is_pointer}
use Rattle.c_typed.specs.Trees as tree
use Rattle.c_typed.specs.Trees.{Expression, Expressions, Program, VariableTree}
use Rattle.c_typed.specs.Types.{type_bytes, type_of}
use Rattle.c_typed.specs.declared.types.Ty.{Ty}
use Rattle.c_typed.specs.declared.types.Ty.TheVariants as types
use Rattle.pic_world.specs.Roots.{same_root}
use Rattle.pic_world.specs.World.{World, arrived, is_due}
use Rattle.pic_world.specs.declared.Root.{Root}
use Rattle.pic_world.specs.declared.Root.TheVariants.{Main, Isr}
use Rattle.src_rules.proofs.Accessing.{fetch_keeps, skim_keeps}
use Rattle.src_rules.proofs.Giving.{found_keeps, give_keeps, compares_keep}
use Rattle.src_rules.proofs.Keeping.{Keeps, Around, eval_keeps, find_keeps}
use Rattle.src_rules.proofs.Memories.{fresh_stands, value_stands}
use Rattle.src_rules.proofs.Statements.{begin_keeps, proceed_keeps, leave_keeps}
use Rattle.src_rules.proofs.Storing.{write_keeps, put_bit_keeps, copy_read_keeps, copy_write_keeps, spell_keeps, blank_keeps}
use Rattle.src_rules.proofs.Worlds.{arrived_stands, arrived_inside, entered_stands, entered_inside, due_outside}
use Rattle.src_rules.specs.Parts.{AreArgumentsOf, IsRunnable}
use Rattle.src_rules.specs.Standing.{IsReached, MemoryStands, HasType, HaveTypes, CallsOf, FocusStands, StackStands, Stands}
use Rattle.src_rules.specs.State.{State, state, Outcome, Went, Undefined, Idle, Lost}
use Rattle.src_rules.specs.Step.{copy_of, with_value, with_values, has_missing, body_of, call, act, enter, refused, interrupted, step}
use Rattle.src_rules.specs.Accesses.{goes}
use Rattle.src_values.specs.Control as control
use Rattle.src_values.specs.Control.{Focus, Got, Passed, Called, Pending, In, To, Doing, Before, Returns, Resumes}
use Rattle.src_values.specs.Counting.{counted_line}
use Rattle.src_values.specs.Data.{Datum, Number, Pointer, Missing}
use Rattle.src_values.specs.Memory.{Setting, Memory, fresh}
use Rattle.src_values.specs.Objects.{function_at, handler_in, variables_of, bytes_of_variable, object_bytes}
use Rattle.src_values.specs.Values.{byte_count}
use Rattle.src_values.specs.declared.objects.Byte.{Byte}
use Rattle.src_values.specs.declared.objects.CopyOf.{CopyOf}
use Rattle.src_values.specs.declared.objects.Object.TheVariants.{Variable}
use Rattle.src_values.specs.declared.objects.Undef.TheVariants.{Unset}

-- ---- copies that are called are reached
chain_more : (graph : List (List ℕ)) (root : ℕ) (hs : List ℕ) (f g : ℕ) → IsChain graph root hs f → Calls graph f g → IsChain graph root (hs ++ g ∷ []) g
chain_more graph root [] f g h c = (subst (λ x. Calls graph x g) (sym h) c, refl)
chain_more graph root (x ∷ xs) f g h c = (h.0, chain_more graph x xs f g h.1 c)

pub called_reached : (p : Program) (c : CopyOf) (g : ℕ) → IsReached p c → Calls (graph_of p) c.function g → g < length p.functions → IsReached p (copy_of c.root g)
called_reached p c g r h l = record { root = r.root; entered = r.entered; chain = (_, chain_more (graph_of p) r.root r.chain.0 c.function g r.chain.1 h); there = l }

-- ---- parameters
pub typed_bytes : (p : Program) (ty : Ty) (v : Datum) → HasType p ty v → byte_count v ≤ type_bytes p.sizes ty
typed_bytes p ty (Number q) h = rw h.0 (omega arith)
typed_bytes p ty (Pointer x) h = pointer_bytes ty h.0
  where
    pointer_bytes : (t : Ty) → is_pointer t ≡ true → 2 ≤ type_bytes p.sizes t
    pointer_bytes types.Void e = absurd (false≢true e)
    pointer_bytes (types.Int a) e = absurd (false≢true e)
    pointer_bytes (types.Pointer row) e = omega arith
    pointer_bytes (types.Array a m x) e = absurd (false≢true e)
    pointer_bytes (types.Struct n) e = absurd (false≢true e)
typed_bytes p ty Missing h = omega arith

-- the variables from this number on begin with these
abbrev pub BeginWith : List VariableTree → ℕ → List VariableTree → Type 0
BeginWith all n vs = (j : ℕ) → j < length vs → (slice_get all (n + j) ≡ slice_get vs j) × (n + j < length all)

pub begin_next : (all : List VariableTree) (n : ℕ) (v : VariableTree) (vs : List VariableTree) → BeginWith all n (v ∷ vs) → BeginWith all (n + 1) vs
begin_next all n v vs h j l =
    let g = h (suc j) (omega arith) in
    let e : n + suc j ≡ n + 1 + j = omega arith in
    (ap (slice_get all) (sym e) ∙ g.0, (let d = g.1 in omega arith))

pub get_front : {A : Type 0} (xs ys : List A) (j : ℕ) → j < length xs → slice_get (xs ++ ys) j ≡ slice_get xs j
get_front [] ys j l = absurd (omega arith)
get_front (x ∷ xs) ys zero l = refl
get_front (x ∷ xs) ys (suc j) l = get_front xs ys j (omega arith)

pub params_begin : (xs ys : List VariableTree) → BeginWith (xs ++ ys) 0 xs
params_begin xs ys j l = let e : 0 + j ≡ j = omega arith in (ap (slice_get (xs ++ ys)) e ∙ get_front xs ys j l, omega (arith, length-append xs ys))

pub first_bytes : (p : Program) (c : CopyOf) (n : ℕ) (q : VariableTree) (qs : List VariableTree) → BeginWith (variables_of (function_at p c.function)) n (q ∷ qs) → (object_bytes p (Variable c n) ≡ type_bytes p.sizes q.ty.ty) × (n < length (variables_of (function_at p c.function)))
unfolding object_bytes
first_bytes p c n q qs b =
    let all = variables_of (function_at p c.function) in
    let g = b 0 (omega arith) in
    let e : n ≡ n + 0 = omega arith in
    (ap (λ o. bytes_of_variable p.sizes o) (ap (slice_get all) e ∙ g.0), (let d = g.1 in omega arith))

module _ (p : Program) (f : ℕ) (c : CopyOf) (r : IsReached p c) where
  values_stand : (n : ℕ) (es : Expressions) (vs : List VariableTree) (values : List Datum) (m : Memory) → MemoryStands p m → AreArgumentsOf p f es vs → HaveTypes p es values → BeginWith (variables_of (function_at p c.function)) n vs → MemoryStands p (with_values m c n values)
  values_stand n tree.NoExpression vs [] m h a t b = h
  values_stand n tree.NoExpression vs (v ∷ values) m h a t b = absurd t
  values_stand n (tree.AndExpression e es) [] values m h a t b = absurd a
  values_stand n (tree.AndExpression e es) (q ∷ qs) [] m h a t b = absurd t
  values_stand n (tree.AndExpression e es) (q ∷ qs) (v ∷ values) m h a t b =
      let g = first_bytes p c n q qs b in
      let d = typed_bytes p (type_of e) v t.0 in
      let s : byte_count v ≤ object_bytes p (Variable c n) = rw (g.0 ∙ ap (type_bytes p.sizes) (sym a.0.0)) d in
      values_stand (n + 1) es qs values (with_value m (Variable c n) v) (value_stands p m (Variable c n) v (type_of e) h (r, g.1) s t.0) a.2 t.1 (begin_next _ n q qs b)

-- ---- calls
module _ (s : Setting) (ok : IsRunnable s.program) where
  called : (g : ℕ) (all : Expressions) (ty : Ty) (line : ℕ) (values : List Datum) (k : List Pending) (c : CopyOf) (m : Memory) (w : World Byte) → Around s.program c m w → StackStands s.program c (In (tree.Call g all ty line) (Passed values) ∷ k)
      → Stands s.program (state (copy_of c.root g) control.Past (body_of s.program g (Returns c ∷ In (tree.Call g all ty line) Called ∷ k)) (with_values (fresh m (copy_of c.root g)) (copy_of c.root g) 0 values) w)
  called g all ty line values k c m w a st =
      let r = called_reached s.program c g a.reached st.0.0 st.0.1 in
      let f = function_at s.program g in
      record {
        reached = r;
        focus = tt;
        stack = (ok.bodies g st.0.1, tt, (a.reached, refl, refl, (st.0, st.1, tt, st.3)));
        memory = values_stand s.program c.function (copy_of c.root g) r 0 all f.params values (fresh m (copy_of c.root g)) (fresh_stands s.program m (copy_of c.root g) a.memory) st.0.3 st.2 (params_begin f.params f.locals);
        control = a.control;
        inside = a.inside;
      }

  call_case : (b : Bool) (g : ℕ) (all : Expressions) (ty : Ty) (line : ℕ) (values : List Datum) (k : List Pending) (c : CopyOf) (m : Memory) (w : World Byte) → Around s.program c m w → StackStands s.program c (In (tree.Call g all ty line) (Passed values) ∷ k)
      → Keeps s.program (if b then Undefined Unset line else goes (copy_of c.root g) control.Past (body_of s.program g (Returns c ∷ In (tree.Call g all ty line) Called ∷ k)) (with_values (fresh m (copy_of c.root g)) (copy_of c.root g) 0 values) w)
  call_case true g all ty line values k c m w a st = tt
  call_case false g all ty line values k c m w a st = called g all ty line values k c m w a st

  call_keeps : (k : List Pending) (c : CopyOf) (m : Memory) (w : World Byte) → Around s.program c m w → StackStands s.program c k → CallsOf k → Keeps s.program (call s.program k c m w)
  call_keeps (In (tree.Call g all ty line) (Passed values) ∷ k) c m w a st n = call_case (has_missing values) g all ty line values k c m w a st
  call_keeps _ c m w a st n = absurd n

  -- ---- one micro-step
  module _ (input : All (λ byte. byte < 256) s.outside.input) where
    act_keeps : (x : Focus) (k : List Pending) (c : CopyOf) (m : Memory) (w : World Byte) → Around s.program c m w → FocusStands s.program c x k → StackStands s.program c k → Keeps s.program (act s x k c m w)
    unfolding act
    act_keeps (control.Eval e) k c m w a f st = eval_keeps s.program e k c m w a f.0 f.1 st
    act_keeps (control.Find place) k c m w a f st = find_keeps s place k c m w a f.0 f.1 st
    act_keeps (control.Holds v) k c m w a f st = give_keeps s ok v k c m w f.0 a f.1 f.2 st
    act_keeps (control.Found spot) k c m w a f st = found_keeps s spot k c m w f.0 a f.1 f.2 st
    act_keeps (control.Run t) k c m w a f st = begin_keeps s t k c m w a (f.0, f.1, st)
    act_keeps control.Past k c m w a f st = proceed_keeps s.program k c m w a f st
    act_keeps (control.Fetch spot read) k c m w a f st = fetch_keeps s input spot read k c m w a f st
    act_keeps (control.Skim spot left byte) k c m w a f st = skim_keeps s input spot left byte k c m w a f st
    act_keeps (control.Write spot v at) k c m w a f st = write_keeps s input spot v at k c m w a f st
    act_keeps (control.PutBit register number v old) k c m w a f st = put_bit_keeps s input register number v old k c m w a f.0 f.1 st
    act_keeps (control.CopyRead to from left) k c m w a f st = copy_read_keeps s input to from left k c m w a f st
    act_keeps (control.CopyWrite to from byte left) k c m w a f st = copy_write_keeps s input to from byte left k c m w a f.0 f.1 f.2 st
    act_keeps (control.Spell spot text left) k c m w a f st = spell_keeps s spot text left k c m w a f st
    act_keeps (control.Blank at left) k c m w a f st = blank_keeps s at left k c m w f.0 a st f.1 f.2
    act_keeps control.Calls k c m w a f st = call_keeps k c m w a st f
    act_keeps (control.Leaves v) k c m w a f st = leave_keeps s.program v k c m w a f.0 st f.1
    act_keeps (control.Compares v labels) k c m w a f st = compares_keep s.program v labels k c m w f.0 a f.1 f.2 st
    act_keeps control.Over k c m w a f st = tt

    outside_main : (r : Root) → same_root r Isr ≡ false → r ≡ Main
    outside_main Main e = refl
    outside_main Isr e = absurd (false≢true (sym e))

    enter_keeps : (h : ℕ) (x : Focus) (k : List Pending) (c : CopyOf) (m : Memory) (w : World Byte) → handler_in s.program ≡ Some h → is_due w ≡ true → Around s.program c m w → FocusStands s.program c x k → StackStands s.program c k → Keeps s.program (enter s.program h x k c m w)
    enter_keeps h x k c m w e due a f st =
        let t = ok.handler_there h e in
        record {
          reached = record { root = h; entered = e; chain = ([], refl); there = t };
          focus = tt;
          stack = (ok.bodies h t, tt, (a.reached, outside_main c.root (sym a.inside ∙ due_outside w due), (h, e, refl), f, st));
          memory = fresh_stands s.program m (copy_of Isr h) a.memory;
          control = entered_stands w a.control;
          inside = entered_inside w;
        }

    refused_keeps : (o : Option ℕ) (out : Outcome) → Keeps s.program out → Keeps s.program (refused o out)
    refused_keeps (Some line) (Went t event) h = tt
    refused_keeps None (Went t event) h = h
    refused_keeps o (Undefined kind line) h = tt
    refused_keeps (Some line) Idle h = tt
    refused_keeps None Idle h = tt
    refused_keeps o Lost h = h

    interrupted_keeps : (o : Option ℕ) (x : Focus) (k : List Pending) (c : CopyOf) (m : Memory) (w : World Byte) → handler_in s.program ≡ o → is_due w ≡ true → Around s.program c m w → FocusStands s.program c x k → StackStands s.program c k → Keeps s.program (interrupted s o x k c m w)
    interrupted_keeps (Some h) x k c m w e due a f st = enter_keeps h x k c m w e due a f st
    interrupted_keeps None x k c m w e due a f st = refused_keeps (counted_line s.program c x k) (act s x k c m w) (act_keeps x k c m w a f st)

    step_case : (b : Bool) (x : Focus) (k : List Pending) (c : CopyOf) (m : Memory) (w : World Byte) → is_due w ≡ b → Around s.program c m w → FocusStands s.program c x k → StackStands s.program c k → Keeps s.program (if b then interrupted s (handler_in s.program) x k c m w else act s x k c m w)
    step_case true x k c m w e a f st = interrupted_keeps (handler_in s.program) x k c m w refl e a f st
    step_case false x k c m w e a f st = act_keeps x k c m w a f st

    pub step_keeps : (t : State) → Stands s.program t → Keeps s.program (step s t)
    unfolding step
    step_keeps t h =
        let w = arrived s.outside t.world in
        step_case (is_due w) t.focus t.stack t.copy t.memory w refl
        (record { reached = h.reached; memory = h.memory; control = arrived_stands s.outside t.world h.control; inside = arrived_inside s.outside t.world ∙ h.inside }) h.focus h.stack
