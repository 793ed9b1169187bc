-- In the start block no instruction skips.
use Rattle.std.proofs.Common.{◌≡◌, ℕ, ◌+◌, nat_eq, Bool, true, false, if◌then◌else◌, List, [], ◌∷◌, ◌++◌, Option, Some, None, refl}
use Rattle.std.specs.Global.{Global}
use Rattle.std.specs.declared.vec.Vec.{Vec}
use Rattle.core_code.specs.declared.code.Byte.{Byte}
use Rattle.core_code.specs.declared.code.Byte.TheVariants as bytes
use Rattle.core_code.specs.declared.code.FirstByte.{FirstByte}
use Rattle.core_code.specs.declared.code.FirstByte.TheVariants as firsts
use Rattle.isr_save.specs.Start.{vector, byte_code, object_code, objects_code, start_code, reset, main, literal}
use Rattle.sym_code.specs.declared.code.Label.TheVariants as labels
use Rattle.sym_code.specs.declared.code.Literal.TheVariants as values
use Rattle.sym_code.specs.declared.code.Operand.TheVariants as operands
use Rattle.sym_code.specs.declared.code.Sym.{Sym}
use Rattle.sym_code.specs.declared.code.Sym.TheVariants as syms
use Rattle.program_code.specs.Paired.{are_paired}
use Rattle.program_code.proofs.ListSkips.{Paired, joined}

module _ (home : Byte → Bool) where
  byte_paired : (to : Byte) (first : FirstByte) → Paired home (byte_code to first)
  byte_paired to (firsts.Number number) = by (nat_eq number 0) where
    by : (b : Bool) → Paired home (if b then syms.Clrf (operands.Byte to) ∷ [] else literal to (values.Number number))
    by true = refl
    by false = refl
  byte_paired to (firsts.Low object) = refl
  byte_paired to (firsts.High object) = refl

  object_paired : (object offset : ℕ) (list : List FirstByte) → Paired home (object_code object offset list)
  object_paired object offset [] = refl
  object_paired object offset (first ∷ rest) =
      joined home (byte_code (bytes.Static object offset) first) (object_code object (offset + 1) rest) (byte_paired (bytes.Static object offset) first) (object_paired object (offset + 1) rest)

  objects_paired : (object : ℕ) (list : List (Vec FirstByte Global)) → Paired home (objects_code object list)
  objects_paired object [] = refl
  objects_paired object (first ∷ rest) = joined home (object_code object 0 first.items) (objects_code (object + 1) rest) (object_paired object 0 first.items) (objects_paired (object + 1) rest)

  vector_paired : (handler : Option ℕ) → Paired home (vector handler)
  vector_paired None = refl
  vector_paired (Some handler) = refl

  pub start_paired : (handler : Option ℕ) (statics : List (Vec FirstByte Global)) → Paired home (start_code handler statics)
  start_paired handler statics =
      joined home (reset ++ vector handler ++ (syms.Label (labels.Inner 0) ∷ []) ++ objects_code 0 statics) main
      (joined home (reset ++ vector handler ++ (syms.Label (labels.Inner 0) ∷ [])) (objects_code 0 statics)
      (joined home (reset ++ vector handler) (syms.Label (labels.Inner 0) ∷ []) (joined home reset (vector handler) refl (vector_paired handler)) refl)
      (objects_paired 0 statics)) refl
