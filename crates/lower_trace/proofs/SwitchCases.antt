-- A switch at a state that stands: what is known of its labels there is all that a comparison asks for.
use Rattle.std.proofs.Common.{◌≡◌, ℕ, ◌+◌, ◌*◌, ◌≤◌, true, false, List, [], ◌∷◌, ◌++◌, Option, refl, sym, ap, ◌∙◌, subst}
use Rattle.c_ints.specs.declared.types.IntTy.{IntTy}
use Rattle.c_typed.specs.Sameness.{is_promoted}
use Rattle.c_typed.specs.Sound.{cases_fit, count_of}
use Rattle.c_typed.specs.Trees as tree
use Rattle.c_typed.specs.Trees.{Expression, Statements}
use Rattle.c_typed.specs.Types.{type_of, type_bytes}
use Rattle.c_typed.specs.declared.statement.TCase.{TCase}
use Rattle.c_typed.specs.declared.types.Ty.{Ty}
use Rattle.c_typed.specs.declared.types.Ty.TheVariants as types
use Rattle.core_code.specs.Machine.{Machine}
use Rattle.pic_world.specs.World.{World, arrived, is_due}
use Rattle.src_rules.specs.Giving.{compares}
use Rattle.src_rules.specs.Standing.{FocusStands, StackStands, HasType}
use Rattle.src_rules.specs.State.{state}
use Rattle.src_values.specs.Control.{Compares, Chooses, Pending, Doing}
use Rattle.src_values.specs.Data.{Datum}
use Rattle.src_values.specs.Memory as source
use Rattle.src_values.specs.declared.objects.Byte as value
use Rattle.src_values.specs.declared.objects.CopyOf.{CopyOf}
use Rattle.lower_trace.proofs.CaseLabels.{AreInRange, labels_are, default_is}
use Rattle.lower_trace.proofs.CodeLeft.{Scene, number, ground_in, core_in}
use Rattle.lower_trace.proofs.Comparing.{compares_none, compares_label}
use Rattle.lower_trace.proofs.Ends.{FollowOn}
use Rattle.lower_trace.proofs.Giving.{Around}
use Rattle.lower_trace.proofs.Kept.{SceneLaws}
use Rattle.lower_trace.proofs.Mirrors.{Mirrors}
use Rattle.lower_trace.proofs.Prices.{some_label}

promoted_int : (ty : Ty) → is_promoted ty ≡ true → (int : IntTy) × (ty ≡ types.Int int)
promoted_int (types.Int int) e = (int, refl)
promoted_int _ e = absurd (cc)

-- what a comparison of values of so many bytes takes, and where no label is left
abbrev pub compare_most : ℕ → List TCase → ℕ
compare_most bytes [] = 4
compare_most bytes (label ∷ labels) = 14 * bytes + 48

pub compares_stands : (z : Scene) (laws : SceneLaws z) (e : Expression) (cases : List TCase) (default : Option ℕ) (ss : Statements) (line : ℕ) (k : List Pending) (cp : CopyOf) (l : source.Memory) (v : Datum) (labels : List TCase) (w : World value.Byte) (c : Machine)
    → FocusStands z.program cp (Compares v labels) (Doing (tree.Switch e cases default ss line) Chooses ∷ k) → StackStands z.program cp (Doing (tree.Switch e cases default ss line) Chooses ∷ k) → AreInRange cases → Around z cp (Doing (tree.Switch e cases default ss line) Chooses ∷ k)
    → (ground_in z cp).base + 2 * type_bytes z.program.sizes (type_of e) + 2 ≤ (core_in z).program.frame_bytes (number z cp) → is_due (arrived z.outside w) ≡ false
    → Mirrors z (state cp (Compares v labels) (Doing (tree.Switch e cases default ss line) Chooses ∷ k) l w) c
    → FollowOn z (compare_most (type_bytes z.program.sizes (type_of e)) labels) (some_label labels) c (compares v labels (Doing (tree.Switch e cases default ss line) Chooses ∷ k) cp l (arrived z.outside w))
compares_stands z laws e cases default ss line k cp l v [] w c focus stack ranges around room due h =
    compares_none z e cases default ss line k cp l v w c (default_is e cases default ss stack.0.2) due h
compares_stands z laws e cases default ss line k cp l v (label ∷ rest) w c focus stack ranges around room due h =
    let i = promoted_int (type_of e) stack.0.0 in
    let fits = subst (λ t. cases_fit t (count_of ss) cases ≡ true) i.1 stack.0.1 in
    let are = labels_are i.0 e cases default ss focus.1.1.0 (label ∷ rest) focus.1.1.1 fits ranges in
    let has : HasType z.program (type_of e) v = subst (λ t. HasType z.program t v) focus.1.0 focus.2 in
    subst (λ t. FollowOn z (compare_most (type_bytes z.program.sizes t) (label ∷ rest)) 1 c (compares v (label ∷ rest) (Doing (tree.Switch e cases default ss line) Chooses ∷ k) cp l (arrived z.outside w))) (sym i.1)
    (compares_label z laws e cases default ss line k cp l v i.0 label rest w c i.1 has are.0 around (subst (λ t. (ground_in z cp).base + 2 * type_bytes z.program.sizes t + 2 ≤ (core_in z).program.frame_bytes (number z cp)) i.1 room) due h)
