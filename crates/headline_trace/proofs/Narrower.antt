-- Byte code with operators on low bytes has what byte code had that was lowered: it sets bytes, its bodies end by leaving, and it names no
-- other bytes.
use Rattle.std.proofs.Common.{◌≡◌, ℕ, zero, suc, ◌+◌, ◌≤◌, inl, inr, Bool, true, ◌&&◌, List, [], ◌∷◌, ◌++◌, map, Option, Some, refl, sym, ap, ◌∙◌, subst, arith}
use Rattle.std.proofs.Math.Bool.{and_comm}
use Rattle.std.specs.Prelude.{slice_get}
use Rattle.c_ints.specs.Range.{bytes_of}
use Rattle.c_ints.specs.declared.operators.BinOp.{BinOp}
use Rattle.c_ints.specs.declared.operators.BinOp.TheVariants as ops
use Rattle.c_ints.specs.declared.types.IntTy.{IntTy}
use Rattle.c_ints.specs.declared.types.IntTy.TheVariants.{Char, SChar, UChar, Short, UShort, Int, UInt, Long, ULong}
use Rattle.c_typed.specs.Trees.{Program}
use Rattle.call_graph.specs.declared.types.FnCopy.{FnCopy}
use Rattle.core_code.proofs.Views.{list_again}
use Rattle.core_code.specs.Tree as core_tree
use Rattle.core_code.specs.Tree.{Tree, Trees, list_of, trees_of}
use Rattle.core_code.specs.View.{trees_in}
use Rattle.core_code.specs.declared.code.Body.{Body}
use Rattle.core_code.specs.declared.code.CoreProgram.{CoreProgram}
use Rattle.headline_trace.specs.Linked.{code_at, program_with}
use Rattle.lower_stmt.specs.Bodies.{body_of, bodies_of}
use Rattle.lower_stmt.specs.Programs.{core_of}
use Rattle.narrow_code.specs.Plans.{Whole, Low, Turned, low_op, Plan, Stays, Narrowed, Several, Choice, Repeat, Plans, NoPlan, AndPlan, given, made}
use Rattle.narrow_code.specs.Plans as plans
use Rattle.program_code.specs.Passed.{IsByteCode}
use Rattle.program_code.proofs.Bodies.{is_from, becomes}
use Rattle.select_wide.specs.Blocks.{is_user, body_at}
use Rattle.select_wide.specs.Links.{IsBody, all_set_bytes}
use Rattle.src_rules.specs.Parts.{IsRunnable}
use Rattle.program_code.proofs.Naming.{lies_less}
use Rattle.program_code.specs.Naming.{Memory, answer_bytes, count_bytes, TreeLies, TreesLie}
use Rattle.headline_trace.specs.Plain.{is_given, all_given}
use Rattle.headline_trace.proofs.Lowered.{EndsOrNone, each_given, each_ends, body_there}
use Rattle.headline_trace.proofs.Stated.{all_sets}

-- ---- numbers that are set
mutual
  given_alike : (t : Plan) → is_given (made t) ≡ is_given (given t)
  given_alike (Stays t) = refl
  given_alike (Narrowed op ty to left right) = refl
  given_alike (Several ts) = all_alike ts
  given_alike (Choice test size Whole first second) = ap (λ (b : Bool). b && is_given (made second)) (given_alike first) ∙ ap (λ (b : Bool). is_given (given first) && b) (given_alike second)
  given_alike (Choice test size Low first second) = ap (λ (b : Bool). b && is_given (made second)) (given_alike first) ∙ ap (λ (b : Bool). is_given (given first) && b) (given_alike second)
  given_alike (Choice test size Turned first second) = and_comm (is_given (made second)) (is_given (made first)) ∙ ap (λ (b : Bool). b && is_given (made second)) (given_alike first) ∙ ap (λ (b : Bool). is_given (given first) && b) (given_alike second)
  given_alike (Repeat front behind body) = given_alike body

  all_alike : (ts : Plans) → all_given (plans.all_made ts) ≡ all_given (plans.all_given ts)
  all_alike NoPlan = refl
  all_alike (AndPlan t ts) = ap (λ (b : Bool). b && all_given (plans.all_made ts)) (given_alike t) ∙ ap (λ (b : Bool). is_given (given t) && b) (all_alike ts)

-- ---- ends of bodies
abbrev IsEnd : List Tree → List Tree → Type 0
IsEnd list front = list ≡ front ++ core_tree.Leave ∷ []

head_or : Tree → List Tree → Tree
head_or t [] = t
head_or t (u ∷ us) = u

tail_of : List Tree → List Tree
tail_of [] = []
tail_of (u ∷ us) = us

leave_alike : (t : Plan) → given t ≡ core_tree.Leave → made t ≡ core_tree.Leave
leave_alike (Stays t) e = e
leave_alike (Narrowed op ty to left right) e = absurd (cc)
leave_alike (Several ts) e = absurd (cc)
leave_alike (Choice test size way first second) e = absurd (cc)
leave_alike (Repeat front behind body) e = absurd (cc)

none_alike : (ts : Plans) → list_of (plans.all_given ts) ≡ [] → list_of (plans.all_made ts) ≡ []
none_alike NoPlan e = refl
none_alike (AndPlan t ts) e = absurd (cc)

ends_alike : (ts : Plans) (front : List Tree) → IsEnd (list_of (plans.all_given ts)) front → (before : List Tree) × IsEnd (list_of (plans.all_made ts)) before
unfolding head_or tail_of
ends_alike NoPlan [] e = absurd (cc)
ends_alike NoPlan (f ∷ front) e = absurd (cc)
ends_alike (AndPlan t ts) [] e =
    let last = leave_alike t (ap (head_or (given t)) e) in
    let none = none_alike ts (ap tail_of e) in
    ([], ap (λ (u : Tree). u ∷ list_of (plans.all_made ts)) last ∙ ap (λ (us : List Tree). core_tree.Leave ∷ us) none)
ends_alike (AndPlan t ts) (f ∷ front) e =
    let rest = ends_alike ts front (ap tail_of e) in
    (made t ∷ rest.0, ap (λ (us : List Tree). made t ∷ us) rest.1)

or_none_alike : (ts : Plans) → EndsOrNone (list_of (plans.all_given ts)) → EndsOrNone (list_of (plans.all_made ts))
or_none_alike ts (inl none) = inl (none_alike ts none)
or_none_alike ts (inr ends) = inr (ends_alike ts ends.0 ends.1)

-- ---- bytes that are named
one_most : (ty : IntTy) → 1 ≤ bytes_of ty
one_most Char = omega arith
one_most SChar = omega arith
one_most UChar = omega arith
one_most Short = omega arith
one_most UShort = omega arith
one_most Int = omega arith
one_most UInt = omega arith
one_most Long = omega arith
one_most ULong = omega arith

answers_less : (op : BinOp) (w : ℕ) → 1 ≤ w → answer_bytes (low_op op) 1 ≤ answer_bytes op w
answers_less ops.Eq w l = omega arith
answers_less ops.Ne w l = omega arith
answers_less ops.Lt w l = omega arith
answers_less ops.Gt w l = omega arith
answers_less ops.Le w l = omega arith
answers_less ops.Ge w l = omega arith
answers_less ops.Add w l = l
answers_less ops.Sub w l = l
answers_less ops.Mul w l = l
answers_less ops.Div w l = l
answers_less ops.Rem w l = l
answers_less ops.Shl w l = l
answers_less ops.Shr w l = l
answers_less ops.And w l = l
answers_less ops.Xor w l = l
answers_less ops.Or w l = l

counts_less : (op : BinOp) (w : ℕ) → 1 ≤ w → count_bytes (low_op op) 1 ≤ count_bytes op w
counts_less ops.Shl w l = omega arith
counts_less ops.Shr w l = omega arith
counts_less ops.Eq w l = l
counts_less ops.Ne w l = l
counts_less ops.Lt w l = l
counts_less ops.Gt w l = l
counts_less ops.Le w l = l
counts_less ops.Ge w l = l
counts_less ops.Add w l = l
counts_less ops.Sub w l = l
counts_less ops.Mul w l = l
counts_less ops.Div w l = l
counts_less ops.Rem w l = l
counts_less ops.And w l = l
counts_less ops.Xor w l = l
counts_less ops.Or w l = l

module _ (memory : Memory) where
  mutual
    lies_alike : (t : Plan) → TreeLies memory (given t) → TreeLies memory (made t)
    lies_alike (Stays t) h = h
    lies_alike (Narrowed op ty to left right) h =
        let one = one_most ty in (
          lies_less memory (answer_bytes op (bytes_of ty)) (answer_bytes (low_op op) 1) to (answers_less op (bytes_of ty) one) h.0,
          lies_less memory (bytes_of ty) 1 left one h.1,
          lies_less memory (count_bytes op (bytes_of ty)) (count_bytes (low_op op) 1) right (counts_less op (bytes_of ty) one) h.2,
        )
    lies_alike (Several ts) h = all_lie_alike ts h
    lies_alike (Choice test size Whole first second) h = (h.0, lies_alike first h.1, lies_alike second h.2)
    lies_alike (Choice test zero Low first second) h = (h.0, lies_alike first h.1, lies_alike second h.2)
    lies_alike (Choice test (suc k) Low first second) h = (lies_less memory (suc k) 1 test (omega arith) h.0, lies_alike first h.1, lies_alike second h.2)
    lies_alike (Choice test zero Turned first second) h = (h.0, lies_alike second h.2, lies_alike first h.1)
    lies_alike (Choice test (suc k) Turned first second) h = (lies_less memory (suc k) 1 test (omega arith) h.0, lies_alike second h.2, lies_alike first h.1)
    lies_alike (Repeat front behind body) h = lies_alike body h

    pub all_lie_alike : (ts : Plans) → TreesLie memory (plans.all_given ts) → TreesLie memory (plans.all_made ts)
    all_lie_alike NoPlan h = h
    all_lie_alike (AndPlan t ts) h = (lies_alike t h.0, all_lie_alike ts h.1)

-- ---- the bodies of which blocks are made
module _ (p : Program) (copies : List FnCopy) (runs : IsRunnable p) (lowered core : CoreProgram) (bodies : map body_of lowered.bodies.items ≡ bodies_of p copies) (code : IsByteCode lowered core) where
  pub core_given : (c : ℕ) (body : Body) → body_at core.bodies.items c ≡ Some body → all_given (trees_of (trees_in body.code.items)) ≡ true
  core_given c body is =
      let from = is_from (λ ts. all_given ts ≡ true) (λ ts h. all_alike ts ∙ h) lowered core code c body is in
      from.keeps (each_given p copies runs lowered.bodies.items bodies c from.given from.there)

  pub core_ends : (c : ℕ) (body : Body) → body_at core.bodies.items c ≡ Some body → EndsOrNone (trees_in body.code.items)
  core_ends c body is =
      let from = is_from (λ ts. EndsOrNone (list_of ts)) or_none_alike lowered core code c body is in
      let before = each_ends p copies runs lowered.bodies.items bodies c from.given from.there in
      subst (λ (list : List Tree). EndsOrNone list) (list_again (trees_in body.code.items))
      (from.keeps (subst (λ (list : List Tree). EndsOrNone list) (sym (list_again (trees_in from.given.code.items))) before))

  -- Each copy of a function has its body, which ends by leaving.
  abbrev HasEnd : Trees → Type 0
  HasEnd ts = (front : List Tree) × IsEnd (list_of ts) front

  pub core_body : (c : ℕ) (copy : FnCopy) → slice_get copies c ≡ Some copy → is_user copy.function ≡ true → IsBody (program_with p copies core.bodies.items) core.bodies.items c
  core_body c copy is user =
      let b = body_there p copies runs lowered.bodies.items bodies c copy is user in
      let m = becomes HasEnd (λ ts h. ends_alike ts h.0 h.1) lowered core code c b.body b.there in
      let before : HasEnd (trees_of (trees_in b.body.code.items)) = (b.front, list_again (trees_in b.body.code.items) ∙ sym b.code ∙ b.leaves) in
      let ends = m.keeps before in
      let found : code_at (body_at core.bodies.items c) ≡ trees_in m.body.code.items = ap code_at m.there in
      record {
        body = m.body;
        there = m.there;
        code = found;
        root = b.root ∙ sym m.root;
        front = ends.0;
        leaves = found ∙ sym (list_again (trees_in m.body.code.items)) ∙ ends.1;
        bytes = ap (λ (list : List Tree). all_set_bytes (trees_of list)) found ∙ all_sets (trees_of (trees_in m.body.code.items)) (core_given c m.body m.there);
      }
