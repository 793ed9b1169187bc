-- Objects that are the same by the test are one.
use Rattle.std.proofs.Common.{◌≡◌, Bool, true, false, ◌&&◌, nat_eq, refl, ap}
use Rattle.std.proofs.lemmas.Bool.{eqb-true}
use Rattle.pic_world.specs.Roots.{same_root}
use Rattle.pic_world.specs.declared.Root.{Root}
use Rattle.pic_world.specs.declared.Root.TheVariants.{Main, Isr}
use Rattle.src_values.specs.Objects.{same_copy, same_object}
use Rattle.src_values.specs.declared.objects.CopyOf.{CopyOf}
use Rattle.src_values.specs.declared.objects.Object.{Object}
use Rattle.src_values.specs.declared.objects.Object.TheVariants.{Fixed, Variable}

pub left_holds : (a b : Bool) → a && b ≡ true → a ≡ true
left_holds true b e = refl
left_holds false b e = absurd (cc)

pub right_holds : (a b : Bool) → a && b ≡ true → b ≡ true
right_holds true b e = e
right_holds false b e = absurd (cc)

one_root : (a b : Root) → same_root a b ≡ true → a ≡ b
one_root Main Main e = refl
one_root Main Isr e = absurd (cc)
one_root Isr Main e = absurd (cc)
one_root Isr Isr e = refl

one_copy : (a b : CopyOf) → same_copy a b ≡ true → a ≡ b
one_copy a b e =
    let r = one_root a.root b.root (left_holds (same_root a.root b.root) (nat_eq a.function b.function) e) in
    let f = eqb-true a.function b.function (right_holds (same_root a.root b.root) (nat_eq a.function b.function) e) in
    λ i. record { root = r i; function = f i }

pub one_object : (a b : Object) → same_object a b ≡ true → a ≡ b
one_object (Fixed n) (Fixed m) e = ap Fixed (eqb-true n m e)
one_object (Fixed n) (Variable b m) e = absurd (cc)
one_object (Variable a n) (Fixed m) e = absurd (cc)
one_object (Variable a n) (Variable b m) e =
    let c = one_copy a b (left_holds (same_copy a b) (nat_eq n m) e) in
    let k = eqb-true n m (right_holds (same_copy a b) (nat_eq n m) e) in
    λ i. Variable (c i) (k i)
