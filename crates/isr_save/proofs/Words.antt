-- How many words the start block may become with its selects.
use Rattle.std.proofs.Common.{◌≡◌, ℕ, ◌+◌, ◌*◌, ◌≤◌, nat_eq, Bool, true, false, if◌then◌else◌, List, [], ◌∷◌, ◌++◌, length, Option, Some, None, refl, ap, arith, sym, subst}
use Rattle.std.specs.Global.{Global}
use Rattle.std.specs.declared.vec.Vec.{Vec}
use Rattle.std.proofs.lemmas.List.Sums.{sum_by-append, sum_by-cons}
use Rattle.core_code.specs.declared.code.Byte.TheVariants as bytes
use Rattle.core_code.specs.declared.code.FirstByte.{FirstByte}
use Rattle.core_code.specs.declared.code.FirstByte.TheVariants as firsts
use Rattle.sym_code.specs.declared.code.Label.TheVariants as labels
use Rattle.sym_code.specs.declared.code.Literal.TheVariants as values
use Rattle.sym_code.specs.declared.code.Operand.TheVariants as operands
use Rattle.sym_code.specs.declared.code.Sym.{Sym}
use Rattle.sym_code.specs.declared.code.Sym.TheVariants as syms
use Rattle.sym_code.specs.Words.{most_of_one, most_words}
use Rattle.isr_save.specs.Start.{reset, saving, restoring, vector, literal, byte_code, object_code, objects_code, main, start_code, bytes_of}

chosen : (b : Bool) (xs ys : List Sym) → most_words xs ≤ 4 → most_words ys ≤ 4 → most_words (if b then xs else ys) ≤ 4
chosen true xs ys p q = p
chosen false xs ys p q = q

byte_words : (object offset : ℕ) (first : FirstByte) → most_words (byte_code (bytes.Static object offset) first) ≤ 4
byte_words object offset (firsts.Number number) = chosen (nat_eq number 0) (syms.Clrf (operands.Byte (bytes.Static object offset)) ∷ []) (literal (bytes.Static object offset) (values.Number number)) (omega arith) (omega arith)
byte_words object offset (firsts.Low other) = omega arith
byte_words object offset (firsts.High other) = omega arith

object_words : (object offset : ℕ) (first : List FirstByte) → most_words (object_code object offset first) ≤ 4 * length first
object_words object offset [] = omega arith
object_words object offset (first ∷ rest) =
    let one = byte_words object offset first in
    let others = object_words object (offset + 1) rest in
    let both = sum_by-append most_of_one (byte_code (bytes.Static object offset) first) (object_code object (offset + 1) rest) in
    omega (arith, one, others, both)

objects_words : (object : ℕ) (statics : List (Vec FirstByte Global)) → most_words (objects_code object statics) ≤ 4 * bytes_of statics
objects_words object [] = omega arith
objects_words object (first ∷ rest) =
    let one = object_words object 0 first.items in
    let others = objects_words (object + 1) rest in
    let both = sum_by-append most_of_one (object_code object 0 first.items) (objects_code (object + 1) rest) in
    let sizes = sum_by-cons (λ (v : Vec FirstByte Global). length v.items) first rest in
    omega (arith, one, others, both, sizes)

vector_words : (handler : Option ℕ) → most_words (vector handler) ≤ 19
vector_words (Some copy) = omega arith
vector_words None = omega arith

joined : (a b c d e : List Sym) (m : ℕ) → most_words a ≤ 4 → most_words b ≤ 19 → most_words c ≤ 0 → most_words d ≤ m → most_words e ≤ 6 → most_words (a ++ b ++ c ++ d ++ e) ≤ 100 + m
joined a b c d e m pa pb pc pd pe =
    let ab = sum_by-append most_of_one a b in
    let abc = sum_by-append most_of_one (a ++ b) c in
    let abcd = sum_by-append most_of_one (a ++ b ++ c) d in
    let all = sum_by-append most_of_one (a ++ b ++ c ++ d) e in
    omega (arith, pa, pb, pc, pd, pe, ab, abc, abcd, all)

pub start_words : (handler : Option ℕ) (statics : List (Vec FirstByte Global)) → most_words (start_code handler statics) ≤ 100 + 4 * bytes_of statics
start_words handler statics = joined reset (vector handler) (syms.Label (labels.Inner 0) ∷ []) (objects_code 0 statics) main (4 * bytes_of statics) (omega arith) (vector_words handler) (omega arith) (objects_words 0 statics) (omega arith)

-- the same of a list that is the code
pub few_words : (list : List Sym) (handler : Option ℕ) (given statics : List (Vec FirstByte Global)) → given ≡ statics → list ≡ start_code handler given → most_words list ≤ 100 + 4 * bytes_of statics
few_words list handler given statics same is =
    let P : List (Vec FirstByte Global) → Type 0 = λ s. list ≡ start_code handler s in
    let Q : List Sym → Type 0 = λ l. most_words l ≤ 100 + 4 * bytes_of statics in
    subst Q (sym (subst P same is)) (start_words handler statics)
