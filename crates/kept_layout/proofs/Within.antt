-- Code that names certain objects, and bytes that are there, is named within its layout.
use Rattle.std.proofs.Common.{◌≡◌, ℕ, Bool, true, false, not, ◌&&◌, ◌||◌, nat_lt, List, [], ◌∷◌, length, refl, sym, ap, ◌∙◌}
use Rattle.std.specs.List.{list_all}
use Rattle.core_code.specs.declared.code.Byte.{Byte}
use Rattle.core_code.specs.declared.code.Byte.TheVariants as bytes
use Rattle.sym_code.specs.Layout.{DataLayout, object}
use Rattle.sym_code.specs.declared.code.BitOperation.TheVariants.{Bcf, Bsf, Btfsc, Btfss}
use Rattle.sym_code.specs.declared.code.BlockName.{BlockName}
use Rattle.sym_code.specs.declared.code.Into.TheVariants as into
use Rattle.sym_code.specs.declared.code.Operand.{Operand}
use Rattle.sym_code.specs.declared.code.Operand.TheVariants as operands
use Rattle.sym_code.specs.declared.code.Sym.{Sym}
use Rattle.sym_code.specs.declared.code.Sym.TheVariants as syms
use Rattle.kept_code.specs.Naming.{byte_keeps}
use Rattle.kept_layout.specs.KeptLayout.{is_private}
use Rattle.kept_layout.specs.NamedCode.{byte_named, operand_named}
use Rattle.kept_layout.specs.OpenCode.{sym_by}
use Rattle.kept_layout.specs.Selection.{no_object, operand_keeps, sym_keeps}
use Rattle.kept_layout.specs.Within.{any_object, operand_within, KeepsIsNamed}
use Rattle.kept_layout.proofs.Owners.{never, left_of, right_of}

module _ (kept : List Bool) (handlers : BlockName → Bool) (l : DataLayout) (own : BlockName) where
  abbrev may : Bool → ℕ → Bool
  may free n = free || not (is_private kept n (object l n))

  byte_is : (free : Bool) (test : ℕ → Bool) → ((n : ℕ) → test n ≡ true → may free n ≡ true) → (byte : Byte) → byte_keeps test byte ≡ true → byte_named l any_object byte ≡ true → byte_named l (may free) byte ≡ true
  byte_is free test h (bytes.Static n offset) k w =
      let inner = right_of (nat_lt n (length l.objects)) (nat_lt offset (object l n).size && true) w in
      ap (λ (b : Bool). b && (nat_lt offset (object l n).size && may free n)) (left_of (nat_lt n (length l.objects)) (nat_lt offset (object l n).size && true) w)
      ∙ ap (λ (b : Bool). b && may free n) (left_of (nat_lt offset (object l n).size) true inner) ∙ h n k
  byte_is free test h (bytes.Frame c offset) k w = w
  byte_is free test h (bytes.Result root j) k w = w
  byte_is free test h (bytes.Device address) k w = refl

  operand_is : (free : Bool) (test : ℕ → Bool) → ((n : ℕ) → test n ≡ true → may free n ≡ true) → (operand : Operand) → operand_keeps test operand ≡ true → operand_within l free operand ≡ true → operand_named kept l free operand ≡ true
  operand_is free test h (operands.Byte byte) k w = byte_is free test h byte k w
  operand_is free test h (operands.Register register) k w = refl
  operand_is free test h (operands.Saved cell) k w = refl

  none_is : (n : ℕ) → no_object n ≡ true → may false n ≡ true
  none_is n e = never (sym e)

  module _ (named : ℕ → Bool) (h : (n : ℕ) → named n ≡ true → may (not (handlers own)) n ≡ true) where
    sym_is : (s : Sym) → sym_keeps named s ≡ true → sym_by (operand_within l) handlers l own s ≡ true → sym_by (operand_named kept l) handlers l own s ≡ true
    unfolding sym_by
    sym_is (syms.File op operand into.W) k w = operand_is (not (handlers own)) named h operand k w
    sym_is (syms.File op operand into.File) k w = operand_is false no_object none_is operand k w
    sym_is (syms.Movwf operand) k w = operand_is (not (handlers own)) named h operand k w
    sym_is (syms.Clrf operand) k w = operand_is (not (handlers own)) named h operand k w
    sym_is (syms.Bit Btfsc operand b) k w = operand_is (not (handlers own)) named h operand k w
    sym_is (syms.Bit Btfss operand b) k w = operand_is (not (handlers own)) named h operand k w
    sym_is (syms.Bit Bcf operand b) k w = operand_is false no_object none_is operand k w
    sym_is (syms.Bit Bsf operand b) k w = operand_is false no_object none_is operand k w
    sym_is (syms.Literal op value) k w = w
    sym_is (syms.Plain op) k w = refl
    sym_is (syms.Call target) k w = w
    sym_is (syms.Goto target) k w = w
    sym_is (syms.Label label) k w = refl
    sym_is (syms.SelectBank which to) k w = refl
    sym_is (syms.SelectPage which target) k w = refl
    sym_is (syms.Table table root) k w = refl

    list_is : (list : List Sym) → list_all (sym_keeps named) list ≡ true → list_all (sym_by (operand_within l) handlers l own) list ≡ true → list_all (sym_by (operand_named kept l) handlers l own) list ≡ true
    list_is [] k w = refl
    list_is (s ∷ list) k w =
        ap (λ (b : Bool). b && list_all (sym_by (operand_named kept l) handlers l own) list)
        (sym_is s (left_of (sym_keeps named s) (list_all (sym_keeps named) list) k) (left_of (sym_by (operand_within l) handlers l own s) (list_all (sym_by (operand_within l) handlers l own) list) w))
        ∙ list_is list (right_of (sym_keeps named s) (list_all (sym_keeps named) list) k) (right_of (sym_by (operand_within l) handlers l own s) (list_all (sym_by (operand_within l) handlers l own) list) w)

pub keeps_named : KeepsIsNamed
keeps_named kept handlers l own named list h k w = list_is kept handlers l own named h list k w
