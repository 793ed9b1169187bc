-- Blocks as they were selected have no selects, and taken out of those with selects they leave them.
use Rattle.std.proofs.Common.{◌≡◌, ℕ, ◌+◌, inl, inr, Bool, true, false, not, ◌&&◌, nat_eq, if◌then◌else◌, List, [], ◌∷◌, ◌++◌, Option, Some, None, refl, ap, ◌∙◌}
use Rattle.std.specs.Global.{Global}
use Rattle.std.specs.declared.vec.Vec.{Vec}
use Rattle.c_typed.specs.declared.calls.FnId.{FnId}
use Rattle.c_typed.specs.declared.calls.FnId.TheVariants as callees
use Rattle.call_graph.specs.Numbers.{handler_at}
use Rattle.call_graph.specs.declared.types.FnCopy.{FnCopy}
use Rattle.core_code.specs.Tree.{trees_of}
use Rattle.core_code.specs.View.{trees_in}
use Rattle.core_code.specs.declared.code.Body.{Body}
use Rattle.core_code.specs.declared.code.Byte.{Byte}
use Rattle.core_code.specs.declared.code.Byte.TheVariants as bytes
use Rattle.core_code.specs.declared.code.FirstByte.{FirstByte}
use Rattle.core_code.specs.declared.code.FirstByte.TheVariants as firsts
use Rattle.isr_save.specs.Start.{vector, byte_code, object_code, objects_code, start_code, reset, main, literal}
use Rattle.pic_world.specs.declared.Root.{Root}
use Rattle.select_wide.specs.Blocks.{body_at, code_by, ending_at}
use Rattle.select_wide.specs.Selection.{wide_code}
use Rattle.sym_code.specs.Programs.{block_in, same_name}
use Rattle.sym_code.specs.Selects.{is_select, bare}
use Rattle.sym_code.specs.declared.code.BlockName.{BlockName}
use Rattle.sym_code.specs.declared.code.Label.TheVariants as labels
use Rattle.sym_code.specs.declared.code.Literal.TheVariants as values
use Rattle.sym_code.specs.declared.code.Operand.TheVariants as operands
use Rattle.sym_code.specs.declared.code.Sym.{Sym}
use Rattle.sym_code.specs.declared.code.Sym.TheVariants as syms
use Rattle.sym_code.specs.declared.code.SymBlock.{SymBlock}
use Rattle.bank_page.specs.Selected.{names_of, bare_lists}
use Rattle.headline_trace.specs.Passed.{code_of}
use Rattle.headline_trace.specs.Plain.{all_plain, all_given}
use Rattle.headline_trace.proofs.Bodies.{body_plain, helper_plain}
use Rattle.headline_trace.proofs.Members.{Has}
use Rattle.headline_trace.proofs.Rows.{Plain, wide_plain}

-- ---- lists whose instructions all pass a test
abbrev pub all_are : (Sym → Bool) → List Sym → Bool
all_are test [] = true
all_are test (s ∷ list) = test s && all_are test list

pub are_joined : (test : Sym → Bool) (xs ys : List Sym) → all_are test xs ≡ true → all_are test ys ≡ true → all_are test (xs ++ ys) ≡ true
are_joined test [] ys p q = q
are_joined test (x ∷ xs) ys p q = by (test x) (λ e. are_joined test xs ys e q) p where
  by : (b : Bool) → (all_are test xs ≡ true → all_are test (xs ++ ys) ≡ true) → (b && all_are test xs) ≡ true → (b && all_are test (xs ++ ys)) ≡ true
  by true below e = below e
  by false below e = absurd (cc)

abbrev pub is_word : Sym → Bool
is_word s = not (is_select s)

pub bare_itself : (list : List Sym) → all_are is_word list ≡ true → bare list ≡ list
bare_itself [] e = refl
bare_itself (s ∷ list) e = by (is_word s) (bare_itself list) e where
  by : (b : Bool) → (all_are is_word list ≡ true → bare list ≡ list) → (b && all_are is_word list) ≡ true → (if b then s ∷ bare list else bare list) ≡ s ∷ list
  by true below h = ap (λ l. s ∷ l) (below h)
  by false below h = absurd (cc)

pub plain_words : (list : List Sym) → all_plain list ≡ true → all_are is_word list ≡ true
plain_words [] e = refl
plain_words (s ∷ list) e = by (is_word s) _ (plain_words list) e where
  by : (a b : Bool) → (all_plain list ≡ true → all_are is_word list ≡ true) → ((a && b) && all_plain list) ≡ true → (a && all_are is_word list) ≡ true
  by true true below h = below h
  by true false below h = absurd (cc)
  by false b below h = absurd (cc)

-- ---- the start block
byte_words : (to : Byte) (first : FirstByte) → all_are is_word (byte_code to first) ≡ true
byte_words to (firsts.Number number) = by (nat_eq number 0) where
  by : (b : Bool) → all_are is_word (if b then syms.Clrf (operands.Byte to) ∷ [] else literal to (values.Number number)) ≡ true
  by true = refl
  by false = refl
byte_words to (firsts.Low object) = refl
byte_words to (firsts.High object) = refl

object_words : (object offset : ℕ) (list : List FirstByte) → all_are is_word (object_code object offset list) ≡ true
object_words object offset [] = refl
object_words object offset (first ∷ rest) =
    are_joined is_word (byte_code (bytes.Static object offset) first) (object_code object (offset + 1) rest) (byte_words (bytes.Static object offset) first) (object_words object (offset + 1) rest)

objects_words : (object : ℕ) (list : List (Vec FirstByte Global)) → all_are is_word (objects_code object list) ≡ true
objects_words object [] = refl
objects_words object (first ∷ rest) =
    are_joined is_word (object_code object 0 first.items) (objects_code (object + 1) rest) (object_words object 0 first.items) (objects_words (object + 1) rest)

vector_words : (handler : Option ℕ) → all_are is_word (vector handler) ≡ true
vector_words None = refl
vector_words (Some handler) = refl

pub start_words : (handler : Option ℕ) (statics : List (Vec FirstByte Global)) → all_are is_word (start_code handler statics) ≡ true
start_words handler statics =
    are_joined is_word (reset ++ vector handler ++ (syms.Label (labels.Inner 0) ∷ []) ++ objects_code 0 statics) main
    (are_joined is_word (reset ++ vector handler ++ (syms.Label (labels.Inner 0) ∷ [])) (objects_code 0 statics)
    (are_joined is_word (reset ++ vector handler) (syms.Label (labels.Inner 0) ∷ []) (are_joined is_word reset (vector handler) refl (vector_words handler)) refl)
    (objects_words 0 statics)) refl

-- ---- blocks
-- what holds of each block's code and of none holds of the code of a name
pub in_blocks : (P : List Sym → Type 0) (blocks : List SymBlock) (name : BlockName) → P [] → ((b : SymBlock) → Has blocks b → P b.list.items) → P (block_in blocks name)
in_blocks P [] name empty all = empty
in_blocks P (b ∷ blocks) name empty all = by (same_name b.name name) (in_blocks P blocks name empty (λ c h. all c (inr h))) where
  by : (t : Bool) → P (block_in blocks name) → P (if t then b.list.items else block_in blocks name)
  by true below = all b (inl refl)
  by false below = below

module _ (copies : List FnCopy) (bodies : List Body) (given : (c : ℕ) (body : Body) → body_at bodies c ≡ Some body → all_given (trees_of (trees_in body.code.items)) ≡ true) where
  by_plain : (c : ℕ) (o : Option Body) → body_at bodies c ≡ o → Plain (code_by copies c o)
  by_plain c None is = refl
  by_plain c (Some body) is =
      body_plain (λ at before tree. wide_code copies body.root before tree) (λ at before t h. wide_plain copies body.root before t h) (ending_at (handler_at copies) c) 0 (trees_in body.code.items) (given c body is)

  pub code_plain : (c : ℕ) (root : Root) (f : FnId) → Plain (code_of bodies copies c root f)
  code_plain c root (callees.User f) = by_plain c (body_at bodies c) refl
  code_plain c root (callees.Helper h) = helper_plain h root c

abbrev first_or : {A : Type 0} → A → List A → A
first_or d [] = d
first_or d (x ∷ xs) = x

abbrev rest_in : {A : Type 0} → List A → List A
rest_in [] = []
rest_in (x ∷ xs) = xs

pub bare_same : (made given : List SymBlock) → names_of made ≡ names_of given → bare_lists made ≡ bare_lists given → (name : BlockName) → bare (block_in made name) ≡ bare (block_in given name)
bare_same [] [] n b name = refl
bare_same [] (g ∷ given) n b name = absurd (cc)
bare_same (m ∷ made) [] n b name = absurd (cc)
bare_same (m ∷ made) (g ∷ given) n b name =
    ap (λ (x : BlockName). bare (if same_name x name then m.list.items else block_in made name)) (ap (first_or m.name) n)
    ∙ by (same_name g.name name) (bare_same made given (ap rest_in n) (ap rest_in b) name) where
      by : (t : Bool) → bare (block_in made name) ≡ bare (block_in given name) → bare (if t then m.list.items else block_in made name) ≡ bare (if t then g.list.items else block_in given name)
      by true below = ap (first_or []) b
      by false below = below
