-- The start block jumps to a label of its own, to its halt, and to the blocks of main and of the handler.
use Rattle.std.proofs.Common.{◌≡◌, ℕ, ◌+◌, Bool, true, false, nat_eq, if◌then◌else◌, List, [], ◌∷◌, ◌++◌, Option, Some, None, IsSome, refl}
use Rattle.std.specs.Global.{Global}
use Rattle.std.specs.declared.vec.Vec.{Vec}
use Rattle.core_code.specs.declared.code.Byte.{Byte}
use Rattle.core_code.specs.declared.code.Byte.TheVariants as bytes
use Rattle.core_code.specs.declared.code.FirstByte.{FirstByte}
use Rattle.core_code.specs.declared.code.FirstByte.TheVariants as firsts
use Rattle.isr_save.specs.Start.{reset, vector, literal, byte_code, object_code, objects_code, main, start_code}
use Rattle.sym_code.specs.declared.code.BlockName.TheVariants as names
use Rattle.sym_code.specs.declared.code.Label.TheVariants as labels
use Rattle.sym_code.specs.declared.code.Literal.TheVariants as values
use Rattle.sym_code.specs.declared.code.Operand.TheVariants as operands
use Rattle.sym_code.specs.declared.code.Sym.TheVariants as syms
use Rattle.sym_code.specs.declared.code.Target.{Target}
use Rattle.sym_code.specs.declared.code.Target.TheVariants as targets
use Rattle.program_code.specs.Targets.{HaveTargets}
use Rattle.program_code.proofs.NamedTargets.{has_label, LabelsFound, left_found, right_found, both_targets, has_left, has_right}

module _ (target : Target → Option ℕ) where
  byte_have : (to : Byte) (first : FirstByte) → HaveTargets target (byte_code to first)
  byte_have to (firsts.Number number) = by (nat_eq number 0) where
    by : (b : Bool) → HaveTargets target (if b then syms.Clrf (operands.Byte to) ∷ [] else literal to (values.Number number))
    by true = (tt, tt)
    by false = (tt, (tt, tt))
  byte_have to (firsts.Low object) = (tt, (tt, tt))
  byte_have to (firsts.High object) = (tt, (tt, tt))

  object_have : (object offset : ℕ) (items : List FirstByte) → HaveTargets target (object_code object offset items)
  object_have object offset [] = tt
  object_have object offset (first ∷ rest) = both_targets target (byte_code (bytes.Static object offset) first) (object_code object (offset + 1) rest) (byte_have (bytes.Static object offset) first) (object_have object (offset + 1) rest)

  objects_have : (object : ℕ) (statics : List (Vec FirstByte Global)) → HaveTargets target (objects_code object statics)
  objects_have object [] = tt
  objects_have object (first ∷ rest) = both_targets target (object_code object 0 first.items) (objects_code (object + 1) rest) (object_have object 0 first.items) (objects_have (object + 1) rest)

  vector_have : (handler : Option ℕ) → ((c : ℕ) → handler ≡ Some c → IsSome (target (targets.Block (names.Copy c)))) → HaveTargets target (vector handler)
  vector_have None there = tt
  vector_have (Some c) there =
      (tt, (tt, (tt, (tt, (tt, (tt, (tt, (there c refl, (tt, (tt, (tt, (tt, (tt, (tt, (tt, (tt, (tt, (tt, tt))))))))))))))))))

  pub start_have : (handler : Option ℕ) (statics : List (Vec FirstByte Global)) → ((c : ℕ) → handler ≡ Some c → IsSome (target (targets.Block (names.Copy c)))) → IsSome (target (targets.Block (names.Copy 0)))
      → LabelsFound target (start_code handler statics) → HaveTargets target (start_code handler statics)
  start_have handler statics there first found =
      let objects = objects_code 0 statics in
      let mark = syms.Label (labels.Inner 0) ∷ [] in
      let front = left_found target (reset ++ vector handler ++ mark ++ objects) main found in
      let before = left_found target (reset ++ vector handler ++ mark) objects front in
      let inner : IsSome (target (targets.Label (labels.Inner 0))) = (right_found target (reset ++ vector handler) mark before).0 in
      let halt : IsSome (target (targets.Label labels.Halt)) = (right_found target (reset ++ vector handler ++ mark ++ objects) main found).1.0 in
      both_targets target (reset ++ vector handler ++ mark ++ objects) main
      (both_targets target (reset ++ vector handler ++ mark) objects
      (both_targets target (reset ++ vector handler) mark (both_targets target reset (vector handler) (inner, (tt, tt)) (vector_have handler there)) (tt, tt))
      (objects_have 0 statics))
      (first, (tt, (halt, tt)))

-- ---- the labels that stand once
pub has_halt : (handler : Option ℕ) (statics : List (Vec FirstByte Global)) → has_label labels.Halt (start_code handler statics) ≡ true
has_halt handler statics = has_right labels.Halt (reset ++ vector handler ++ (syms.Label (labels.Inner 0) ∷ []) ++ objects_code 0 statics) main refl

pub has_restore : (handler : Option ℕ) (c : ℕ) (statics : List (Vec FirstByte Global)) → handler ≡ Some c → has_label labels.Restore (start_code handler statics) ≡ true
has_restore None c statics is = absurd (cc)
has_restore (Some h) c statics is =
    let mark = syms.Label (labels.Inner 0) ∷ [] in
    has_left labels.Restore (reset ++ vector (Some h) ++ mark ++ objects_code 0 statics) main
    (has_left labels.Restore (reset ++ vector (Some h) ++ mark) (objects_code 0 statics)
    (has_left labels.Restore (reset ++ vector (Some h)) mark refl))
