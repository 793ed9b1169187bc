-- Code with its selects: numbers fit into their literals, and no code of a copy goes to the start block.
use Rattle.std.proofs.Common.{◌≡◌, ℕ, zero, suc, ◌+◌, inl, inr, Bool, true, false, not, ◌&&◌, nat_eq, if◌then◌else◌, List, [], ◌∷◌, ◌++◌, map, Option, Some, None, refl, sym, ap, ◌∙◌, subst}
use Rattle.std.specs.Prelude.{slice_get}
use Rattle.std.specs.Global.{Global}
use Rattle.std.specs.declared.vec.Vec.{Vec}
use Rattle.std.proofs.lemmas.Bool.{lt-ltb}
use Rattle.call_graph.specs.Numbers.{handler_at}
use Rattle.call_graph.specs.declared.types.FnCopy.{FnCopy}
use Rattle.core_code.specs.declared.code.Byte.{Byte}
use Rattle.core_code.specs.declared.code.Byte.TheVariants as bytes
use Rattle.core_code.specs.declared.code.CoreProgram.{CoreProgram}
use Rattle.core_code.specs.declared.code.FirstByte.{FirstByte}
use Rattle.core_code.specs.declared.code.FirstByte.TheVariants as firsts
use Rattle.isr_save.specs.Start.{vector, byte_code, object_code, objects_code, start_code, reset, main, literal}
use Rattle.lower_stmt.specs.FirstBytes.{items_of}
use Rattle.sym_code.specs.Programs.{block_in, same_name}
use Rattle.sym_code.specs.Selects.{is_select, bare}
use Rattle.sym_code.specs.declared.code.BlockName.{BlockName}
use Rattle.sym_code.specs.declared.code.BlockName.TheVariants.{Copy}
use Rattle.sym_code.specs.declared.code.Label.TheVariants as labels
use Rattle.sym_code.specs.declared.code.Literal.TheVariants as values
use Rattle.sym_code.specs.declared.code.Operand.TheVariants as operands
use Rattle.sym_code.specs.declared.code.Sym.{Sym}
use Rattle.sym_code.specs.declared.code.Sym.TheVariants as syms
use Rattle.sym_code.specs.declared.code.SymBlock.{SymBlock}
use Rattle.chip_trace.specs.Arriving.{is_small, keeps_out}
use Rattle.headline_trace.specs.Plain.{all_plain, is_own}
use Rattle.headline_trace.proofs.Bare.{all_are, are_joined, in_blocks}
use Rattle.headline_trace.proofs.Members.{Has}
use Rattle.headline_trace.proofs.Ready.{IsReady}
use Rattle.headline_trace.proofs.Statics.{IsGood, AreGood, AllGood, some_is}

-- ---- a test of each instruction, and selects among them
passes : (test : Sym → Bool) (list : List Sym) (i : ℕ) (s : Sym) → all_are test list ≡ true → slice_get list i ≡ Some s → test s ≡ true
passes test [] i s e is = absurd (cc)
passes test (x ∷ list) zero s e is = ap test (sym (some_is x s is)) ∙ by (test x) e where
  by : (b : Bool) → (b && all_are test list) ≡ true → b ≡ true
  by true h = refl
  by false h = absurd (cc)
passes test (x ∷ list) (suc i) s e is = by (test x) (λ h. passes test list i s h is) e where
  by : (b : Bool) → (all_are test list ≡ true → test s ≡ true) → (b && all_are test list) ≡ true → test s ≡ true
  by true below h = below h
  by false below h = absurd (cc)

-- where the instructions pass it, and selects do, so does the list with selects
with_selects : (test : Sym → Bool) (list : List Sym) → ((s : Sym) → is_select s ≡ true → test s ≡ true) → all_are test (bare list) ≡ true → all_are test list ≡ true
with_selects test [] selects e = refl
with_selects test (s ∷ list) selects e = by (is_select s) refl e (with_selects test list selects) where
  one : test s ≡ true → all_are test list ≡ true → (test s && all_are test list) ≡ true
  one a b = ap (λ c. c && all_are test list) a ∙ b

  ordinary : (b : Bool) → test s ≡ b → (b && all_are test (bare list)) ≡ true → (all_are test (bare list) ≡ true → all_are test list ≡ true) → (test s && all_are test list) ≡ true
  ordinary true is h below = one is (below h)
  ordinary false is h below = absurd (cc)

  by : (b : Bool) → is_select s ≡ b → all_are test (if not b then s ∷ bare list else bare list) ≡ true → (all_are test (bare list) ≡ true → all_are test list ≡ true) → (test s && all_are test list) ≡ true
  by true is h below = one (selects s is) (below h)
  by false is h below = ordinary (test s) refl h below

small_select : (s : Sym) → is_select s ≡ true → is_small s ≡ true
small_select (syms.SelectBank bit on) e = refl
small_select (syms.SelectPage bit target) e = refl
small_select (syms.Table table root) e = refl
small_select (syms.Label label) e = refl
small_select (syms.File op file into) e = refl
small_select (syms.Movwf file) e = refl
small_select (syms.Clrf file) e = refl
small_select (syms.Bit op file bit) e = refl
small_select (syms.Literal op value) e = absurd (cc)
small_select (syms.Plain op) e = refl
small_select (syms.Call target) e = refl
small_select (syms.Goto target) e = refl

outside_select : (s : Sym) → is_select s ≡ true → keeps_out s ≡ true
outside_select (syms.SelectBank bit on) e = refl
outside_select (syms.SelectPage bit target) e = refl
outside_select (syms.Table table root) e = refl
outside_select (syms.Label label) e = refl
outside_select (syms.File op file into) e = refl
outside_select (syms.Movwf file) e = refl
outside_select (syms.Clrf file) e = refl
outside_select (syms.Bit op file bit) e = refl
outside_select (syms.Literal op value) e = refl
outside_select (syms.Plain op) e = refl
outside_select (syms.Call target) e = absurd (cc)
outside_select (syms.Goto target) e = absurd (cc)

-- ---- plain code
plain_small : (list : List Sym) → all_plain list ≡ true → all_are is_small list ≡ true
plain_small [] e = refl
plain_small (s ∷ list) e = by (not (is_select s)) (is_small s) (keeps_out s && is_own s) (plain_small list) e where
  by : (a b c : Bool) → (all_plain list ≡ true → all_are is_small list ≡ true) → ((a && (b && c)) && all_plain list) ≡ true → (b && all_are is_small list) ≡ true
  by true true true below h = below h
  by true true false below h = absurd (cc)
  by true false c below h = absurd (cc)
  by false b c below h = absurd (cc)

pub plain_outside : (list : List Sym) → all_plain list ≡ true → all_are keeps_out list ≡ true
plain_outside [] e = refl
plain_outside (s ∷ list) e = by (not (is_select s)) (is_small s) (keeps_out s) (is_own s) (plain_outside list) e where
  by : (a b c d : Bool) → (all_plain list ≡ true → all_are keeps_out list ≡ true) → ((a && (b && (c && d))) && all_plain list) ≡ true → (c && all_are keeps_out list) ≡ true
  by true true true true below h = below h
  by true true true false below h = absurd (cc)
  by true true false d below h = absurd (cc)
  by true false c d below h = absurd (cc)
  by false b c d below h = absurd (cc)

pub plain_own : (list : List Sym) → all_plain list ≡ true → all_are is_own list ≡ true
plain_own [] e = refl
plain_own (s ∷ list) e = by (not (is_select s)) (is_small s) (keeps_out s) (is_own s) (plain_own list) e where
  by : (a b c d : Bool) → (all_plain list ≡ true → all_are is_own list ≡ true) → ((a && (b && (c && d))) && all_plain list) ≡ true → (d && all_are is_own list) ≡ true
  by true true true true below h = below h
  by true true true false below h = absurd (cc)
  by true true false d below h = absurd (cc)
  by true false c d below h = absurd (cc)
  by false b c d below h = absurd (cc)

own_select : (s : Sym) → is_select s ≡ true → is_own s ≡ true
own_select (syms.SelectBank bit on) e = refl
own_select (syms.SelectPage bit target) e = refl
own_select (syms.Table table root) e = refl
own_select (syms.Label (labels.Inner n)) e = refl
own_select (syms.Label labels.Halt) e = absurd (cc)
own_select (syms.Label labels.Restore) e = absurd (cc)
own_select (syms.File op file into) e = refl
own_select (syms.Movwf file) e = refl
own_select (syms.Clrf file) e = refl
own_select (syms.Bit op file bit) e = refl
own_select (syms.Literal op value) e = refl
own_select (syms.Plain op) e = refl
own_select (syms.Call target) e = refl
own_select (syms.Goto target) e = refl

pub selected_own : (list : List Sym) → all_are is_own (bare list) ≡ true → all_are is_own list ≡ true
selected_own list e = with_selects is_own list own_select e

-- ---- the start block
byte_small : (n : ℕ) (to : Byte) (first : FirstByte) → IsGood n first → all_are is_small (byte_code to first) ≡ true
byte_small n to (firsts.Number number) good = by (nat_eq number 0) where
  by : (b : Bool) → all_are is_small (if b then syms.Clrf (operands.Byte to) ∷ [] else literal to (values.Number number)) ≡ true
  by true = refl
  by false = ap (λ b. b && true) (lt-ltb number 256 good)
byte_small n to (firsts.Low object) good = refl
byte_small n to (firsts.High object) good = refl

object_small : (n object offset : ℕ) (list : List FirstByte) → AreGood n list → all_are is_small (object_code object offset list) ≡ true
object_small n object offset [] good = refl
object_small n object offset (first ∷ rest) good =
    are_joined is_small (byte_code (bytes.Static object offset) first) (object_code object (offset + 1) rest) (byte_small n (bytes.Static object offset) first good.0)
    (object_small n object (offset + 1) rest good.1)

objects_small : (n object : ℕ) (list : List (Vec FirstByte Global)) → AllGood n (map items_of list) → all_are is_small (objects_code object list) ≡ true
objects_small n object [] good = refl
objects_small n object (first ∷ rest) good =
    are_joined is_small (object_code object 0 first.items) (objects_code (object + 1) rest) (object_small n object 0 first.items good.0) (objects_small n (object + 1) rest good.1)

vector_small : (handler : Option ℕ) → all_are is_small (vector handler) ≡ true
vector_small None = refl
vector_small (Some handler) = refl

start_small : (n : ℕ) (handler : Option ℕ) (statics : List (Vec FirstByte Global)) → AllGood n (map items_of statics) → all_are is_small (start_code handler statics) ≡ true
start_small n handler statics good =
    are_joined is_small (reset ++ vector handler ++ (syms.Label (labels.Inner 0) ∷ []) ++ objects_code 0 statics) main
    (are_joined is_small (reset ++ vector handler ++ (syms.Label (labels.Inner 0) ∷ [])) (objects_code 0 statics)
    (are_joined is_small (reset ++ vector handler) (syms.Label (labels.Inner 0) ∷ []) (are_joined is_small reset (vector handler) refl (vector_small handler)) refl)
    (objects_small n 0 statics good)) refl

-- ---- blocks
module _ (copies : List FnCopy) (core : CoreProgram) (given blocks : List SymBlock) (is : IsReady core copies given blocks) where
  own_outside : (copy : ℕ) → all_are keeps_out (block_in blocks (Copy copy)) ≡ true
  own_outside copy =
      ap (λ (bs : List SymBlock). all_are keeps_out (block_in bs (Copy copy))) is.whole
      ∙ ap (λ (n : BlockName). all_are keeps_out (if same_name n (Copy copy) then is.start.list.items else block_in is.order (Copy copy))) is.name
      ∙ in_blocks (λ list. all_are keeps_out list ≡ true) is.order (Copy copy) refl (λ b h. plain_outside b.list.items (is.plain b h))

  own_small : (n : ℕ) → AllGood n (map items_of core.statics.items) → (name : BlockName) → all_are is_small (block_in blocks name) ≡ true
  own_small n good name = in_blocks (λ list. all_are is_small list ≡ true) blocks name refl (λ b h. each b (subst (λ bs. Has bs b) is.whole h)) where
    each : (b : SymBlock) → Has (is.start ∷ is.order) b → all_are is_small b.list.items ≡ true
    each b (inl same) = ap (λ (x : SymBlock). all_are is_small x.list.items) (sym same) ∙ ap (all_are is_small) is.exact ∙ start_small n (handler_at copies) core.statics.items good
    each b (inr h) = plain_small b.list.items (is.plain b h)

  module _ (made : List SymBlock) (same : (name : BlockName) → bare (block_in made name) ≡ block_in blocks name) where
    -- no code of a copy goes to the start block
    pub all_outside : (copy i : ℕ) (s : Sym) → slice_get (block_in made (Copy copy)) i ≡ Some s → keeps_out s ≡ true
    all_outside copy i s at =
        passes keeps_out (block_in made (Copy copy)) i s
        (with_selects keeps_out (block_in made (Copy copy)) outside_select (ap (all_are keeps_out) (same (Copy copy)) ∙ own_outside copy)) at

    -- .. and numbers fit into their literals
    pub all_small : (n : ℕ) → AllGood n (map items_of core.statics.items) → (name : BlockName) (i : ℕ) (s : Sym) → slice_get (block_in made name) i ≡ Some s → is_small s ≡ true
    all_small n good name i s at =
        passes is_small (block_in made name) i s
        (with_selects is_small (block_in made name) small_select (ap (all_are is_small) (same name) ∙ own_small n good name)) at
