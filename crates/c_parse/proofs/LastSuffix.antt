-- Which declarators end in a list of parameters.
use Rattle.std.proofs.Common.{◌≡◌, suc, ◌-◌, true, false, List, [], ◌∷◌, length, Some, None, map, refl, sym, ap, ◌∙◌, arith}
use Rattle.std.specs.List.{slice_get}
use Rattle.c_nodes.specs.Views.{suffix_of}
use Rattle.c_nodes.specs.Programs.{is_bracketed, ends_bracketed}
use Rattle.c_nodes.specs.Lists.{suffixes_of}
use Rattle.c_nodes.specs.declared.expression.Suffix.{Suffix}
use Rattle.c_nodes.specs.declared.expression.Suffix.TheVariants as suffixes
use Rattle.c_nodes.proofs.Shapes.{show_suffix_array_unsized, show_suffix_array, show_suffix_empty, show_suffix_void, show_suffix_params}

pub array_is : (opening : _) (size : _) (closing : _) → is_bracketed (suffix_of (suffixes.Array opening size closing)) ≡ false
array_is opening None closing = ap is_bracketed (show_suffix_array_unsized opening closing)
array_is opening (Some size) closing = ap is_bracketed (show_suffix_array opening size closing)

pub empty_is : (opening : _) (closing : _) → is_bracketed (suffix_of (suffixes.Empty opening closing)) ≡ true
empty_is opening closing = ap is_bracketed (show_suffix_empty opening closing)

pub void_is : (opening : _) (void : _) (closing : _) → is_bracketed (suffix_of (suffixes.Void opening void closing)) ≡ true
void_is opening void closing = ap is_bracketed (show_suffix_void opening void closing)

pub params_is : (opening : _) (first : _) (others : _) (closing : _) → is_bracketed (suffix_of (suffixes.Params opening first others closing)) ≡ true
params_is opening first others closing = ap is_bracketed (show_suffix_params opening first others closing)

-- the last suffix decides
pub last_is : (l : List Suffix) (s : Suffix) → Some s ≡ slice_get l (length l - 1) → ends_bracketed (suffixes_of (map suffix_of l)) ≡ is_bracketed (suffix_of s)
last_is [] s h = absurd cc
last_is (t ∷ []) s h = let e : s ≡ t = cc in ap (λ (u : Suffix). is_bracketed (suffix_of u)) (sym e)
last_is (t ∷ u ∷ l) s h =
    let e : length (t ∷ u ∷ l) - 1 ≡ suc (length (u ∷ l) - 1) = omega arith in
    last_is (u ∷ l) s (h ∙ ap (slice_get (t ∷ u ∷ l)) e)

pub none_is : (l : List Suffix) → None ≡ slice_get l (length l - 1) → ends_bracketed (suffixes_of (map suffix_of l)) ≡ false
none_is [] h = refl
none_is (t ∷ []) h = absurd cc
none_is (t ∷ u ∷ l) h =
    let e : length (t ∷ u ∷ l) - 1 ≡ suc (length (u ∷ l) - 1) = omega arith in
    none_is (u ∷ l) (h ∙ ap (slice_get (t ∷ u ∷ l)) e)
