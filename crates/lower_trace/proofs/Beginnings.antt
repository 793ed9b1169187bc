-- Expressions and places that begin. Byte code does nothing yet, but for constants.
use Rattle.std.proofs.Common.{◌≡◌, ℕ, ◌+◌, ◌*◌, ◌≤◌, false, List, [], ◌∷◌, ◌++◌, refl, sym, ap, ◌∙◌}
use Rattle.c_ints.specs.Range.{bytes_of}
use Rattle.c_typed.specs.Trees as tree
use Rattle.c_typed.specs.Trees.{Expression, Expressions, Place}
use Rattle.core_code.specs.Machine.{Machine, Task}
use Rattle.core_code.specs.Tree.{Tree}
use Rattle.core_code.specs.declared.code.Byte.{Byte}
use Rattle.core_code.specs.declared.code.Byte.TheVariants.{Result}
use Rattle.lower_expr.specs.Layout.{Layout}
use Rattle.lower_expr.specs.Lowering.{expr_code, address_code, pointer_code}
use Rattle.lower_expr.specs.Rows.{member_row}
use Rattle.lower_expr.specs.Spots.{spot_of, member_spot}
use Rattle.lower_expr.specs.declared.places.Spot as place
use Rattle.lower_expr.specs.declared.places.Spot.TheVariants.{Fixed, Bit, Computed}
use Rattle.pic_world.specs.World.{World, arrived, is_due}
use Rattle.pic_world.specs.declared.Root.{Root}
use Rattle.src_rules.specs.Expressions.{eval}
use Rattle.src_rules.specs.State.{state, Outcome, Went, Undefined, Idle, Lost}
use Rattle.src_values.specs.Control.{Focus, Eval, Find, Calls, Nothing, Args, Passed, Pending, In, active}
use Rattle.src_values.specs.Memory as source
use Rattle.src_values.specs.declared.objects.Byte as value
use Rattle.src_values.specs.declared.objects.CopyOf.{CopyOf}
use Rattle.lower_trace.proofs.CodeLeft.{Scene, number, ground_in, core_in, todo, base, member_rest, code_at, stack_at, copy_at}
use Rattle.lower_trace.proofs.Constants.{constant_goes, same_below}
use Rattle.lower_trace.proofs.Giving.{Around, mirrors}
use Rattle.lower_trace.proofs.Kept.{SceneLaws}
use Rattle.lower_trace.proofs.Mirrors.{Mirrors, Agrees, Holds, HasValue}
use Rattle.lower_trace.proofs.Operations.{Comes, comes_here}
use Rattle.lower_trace.proofs.Placed.{todo_join}

-- what byte code does where the source ends a micro-step so, at these costs
abbrev pub Follow : Scene → ℕ → ℕ → Machine → Outcome → Type 0
Follow z q l c (Went u event) = Comes (core_in z) (Mirrors z u) q l c
Follow z q l c (Undefined kind line) = Unit {0}
Follow z q l c Idle = Unit {0}
Follow z q l c Lost = Unit {0}

-- Nothing is done: the same code is left.
pub rests : (z : Scene) (cp : CopyOf) (x x' : Focus) (k k' : List Pending) (l l' : source.Memory) (w : World value.Byte) (c : Machine) → Mirrors z (state cp x k l w) c
    → copy_at cp x k ≡ copy_at cp x' k' → code_at z (ground_in z cp) x k ≡ code_at z (ground_in z cp) x' k' → stack_at z (ground_in z cp) x k ≡ stack_at z (ground_in z cp) x' k'
    → Agrees z (active cp x' k') l' c.memory → Holds z (ground_in z cp) k' c.memory → HasValue z (ground_in z cp) x' k' c.memory
    → Comes (core_in z) (Mirrors z (state cp x' k' l' (arrived z.outside w))) 0 0 c
rests z cp x x' k k' l l' w c h same code stack a d v =
    comes_here (core_in z) (Mirrors z (state cp x' k' l' (arrived z.outside w))) c
    (mirrors z cp x' k' l' (arrived z.outside w) c.memory c
    (record { copy = h.copy ∙ ap (number z) same; passing = h.passing; code = h.code ∙ code; stack = h.stack ∙ stack; memory = refl; world = h.world ∙ same_below z w })
    a d v)

pub todo_three : (a b c : List Tree) (r : List Task) → todo (a ++ b ++ c) r ≡ todo a (todo (b ++ c) r)
todo_three a b c r = todo_join (a ++ b) c r ∙ todo_join a b (todo c r) ∙ ap (todo a) (sym (todo_join b c r))

-- ---- expressions
abbrev pub eval_most : Expression → ℕ
eval_most (tree.Constant q line) = 4 * bytes_of q.ty
eval_most _ = 0

-- the bytes of a constant are bytes of the frame
abbrev pub HasRoom : Scene → CopyOf → List Pending → Expression → Type 0
HasRoom z cp k (tree.Constant q line) = base (ground_in z cp) k + bytes_of q.ty ≤ (core_in z).program.frame_bytes (number z cp)
HasRoom z cp k _ = Unit {0}

module _ (z : Scene) (laws : SceneLaws z) where
  pub eval_goes : (e : Expression) (k : List Pending) (cp : CopyOf) (l : source.Memory) (w : World value.Byte) (c : Machine) → Around z cp k → HasRoom z cp k e → is_due (arrived z.outside w) ≡ false
      → Mirrors z (state cp (Eval e) k l w) c → Follow z (eval_most e) 0 c (eval e k cp l (arrived z.outside w))
  unfolding expr_code active
  eval_goes (tree.Constant q line) k cp l w c around room due h = constant_goes z laws q line k cp l w c around room due h
  eval_goes (tree.Read place ty line) k cp l w c around room due h = rests z cp (Eval (tree.Read place ty line)) (Find place) k (In (tree.Read place ty line) Nothing ∷ k) l l w c h refl (simp todo_join) refl h.agrees (tt, h.holds) tt
  eval_goes (tree.Address place ty line) k cp l w c around room due h = rests z cp (Eval (tree.Address place ty line)) (Find place) k (In (tree.Address place ty line) Nothing ∷ k) l l w c h refl (simp todo_join) refl h.agrees (tt, h.holds) tt
  eval_goes (tree.Convert operand ty line) k cp l w c around room due h = rests z cp (Eval (tree.Convert operand ty line)) (Eval operand) k (In (tree.Convert operand ty line) Nothing ∷ k) l l w c h refl (simp todo_join) refl h.agrees (tt, h.holds) tt
  eval_goes (tree.Cast operand ty line) k cp l w c around room due h = rests z cp (Eval (tree.Cast operand ty line)) (Eval operand) k (In (tree.Cast operand ty line) Nothing ∷ k) l l w c h refl (simp todo_join) refl h.agrees (tt, h.holds) tt
  eval_goes (tree.Unary op operand ty line) k cp l w c around room due h = rests z cp (Eval (tree.Unary op operand ty line)) (Eval operand) k (In (tree.Unary op operand ty line) Nothing ∷ k) l l w c h refl (simp todo_join) refl h.agrees (tt, h.holds) tt
  eval_goes (tree.Binary op left right ty line) k cp l w c around room due h = rests z cp (Eval (tree.Binary op left right ty line)) (Eval left) k (In (tree.Binary op left right ty line) Nothing ∷ k) l l w c h refl (simp todo_join) refl h.agrees (tt, h.holds) tt
  eval_goes (tree.Offset op left right size ty line) k cp l w c around room due h = rests z cp (Eval (tree.Offset op left right size ty line)) (Eval left) k (In (tree.Offset op left right size ty line) Nothing ∷ k) l l w c h refl (simp todo_join) refl h.agrees (tt, h.holds) tt
  eval_goes (tree.Difference left right size line) k cp l w c around room due h = rests z cp (Eval (tree.Difference left right size line)) (Eval left) k (In (tree.Difference left right size line) Nothing ∷ k) l l w c h refl (simp todo_join) refl h.agrees (tt, h.holds) tt
  eval_goes (tree.Logical op left right line) k cp l w c around room due h = rests z cp (Eval (tree.Logical op left right line)) (Eval left) k (In (tree.Logical op left right line) Nothing ∷ k) l l w c h refl (simp todo_join) refl h.agrees (tt, h.holds) tt
  eval_goes (tree.Conditional condition chosen otherwise ty line) k cp l w c around room due h =
      rests z cp (Eval (tree.Conditional condition chosen otherwise ty line)) (Eval condition) k (In (tree.Conditional condition chosen otherwise ty line) Nothing ∷ k) l l w c h refl (simp todo_join) refl h.agrees (tt, h.holds) tt
  eval_goes (tree.Comma left right ty line) k cp l w c around room due h = rests z cp (Eval (tree.Comma left right ty line)) (Eval left) k (In (tree.Comma left right ty line) Nothing ∷ k) l l w c h refl (simp todo_join) refl h.agrees (tt, h.holds) tt
  eval_goes (tree.Assign place value ty line) k cp l w c around room due h = rests z cp (Eval (tree.Assign place value ty line)) (Find place) k (In (tree.Assign place value ty line) Nothing ∷ k) l l w c h refl (simp todo_join) refl h.agrees (tt, h.holds) tt
  eval_goes (tree.StructAssign place from size line) k cp l w c around room due h =
      rests z cp (Eval (tree.StructAssign place from size line)) (Find place) k (In (tree.StructAssign place from size line) Nothing ∷ k) l l w c h refl (simp todo_join) refl h.agrees (tt, h.holds) tt
  eval_goes (tree.Update op place value operation size ty line) k cp l w c around room due h =
      rests z cp (Eval (tree.Update op place value operation size ty line)) (Find place) k (In (tree.Update op place value operation size ty line) Nothing ∷ k) l l w c h refl (simp todo_join) refl h.agrees (tt, h.holds) tt
  eval_goes (tree.Step op place operation size ty line) k cp l w c around room due h =
      rests z cp (Eval (tree.Step op place operation size ty line)) (Find place) k (In (tree.Step op place operation size ty line) Nothing ∷ k) l l w c h refl (simp todo_join) refl h.agrees (tt, h.holds) tt
  eval_goes (tree.Call function tree.NoExpression ty line) k cp l w c around room due h =
      rests z cp (Eval (tree.Call function tree.NoExpression ty line)) Calls k (In (tree.Call function tree.NoExpression ty line) (Passed []) ∷ k) l l w c h refl refl refl h.agrees (tt, h.holds) tt
  eval_goes (tree.Call function (tree.AndExpression argument more) ty line) k cp l w c around room due h =
      rests z cp (Eval (tree.Call function (tree.AndExpression argument more) ty line)) (Eval argument) k (In (tree.Call function (tree.AndExpression argument more) ty line) (Args [] more) ∷ k) l l w c h refl (simp todo_join) refl h.agrees (tt, h.holds) tt

-- ---- places
no_bit : (s : place.Spot) (offset register bit : ℕ) → member_spot s offset ≡ Bit register bit → ⊥
no_bit (Fixed byte) offset register bit e = cc
no_bit (Bit r i) offset register bit e = cc
no_bit Computed offset register bit e = cc

pub bit_address : (g : Layout) (n b : ℕ) (p : Place) (register bit : ℕ) → spot_of g n p ≡ Bit register bit → address_code g n b p ≡ []
unfolding spot_of address_code
bit_address g n b (tree.Name object ty line) register bit e = absurd (cc)
bit_address g n b (tree.Bit r i line) register bit e = refl
bit_address g n b (tree.Member whole member offset ty line) register bit e = absurd (no_bit (spot_of g n whole) offset register bit e)
bit_address g n b (tree.Deref pointer ty line) register bit e = absurd (cc)

pub member_code : (s : place.Spot) (a : List Tree) (at : Byte) (offset : ℕ) (root : Root) (r : List Task) → ((register bit : ℕ) → s ≡ Bit register bit → a ≡ [])
    → todo (pointer_code (member_spot s offset) (a ++ member_row at offset (Result root 0))) r ≡ todo (pointer_code s a) (todo (member_rest s at offset root) r)
member_code (Fixed byte) a at offset root r none = refl
member_code (Bit register bit) a at offset root r none = ap (λ y. todo (y ++ member_row at offset (Result root 0)) r) (none register bit refl)
member_code Computed a at offset root r none = todo_join a (member_row at offset (Result root 0)) r
