-- The static objects of a sound program have few bytes.
use Rattle.std.proofs.Common.{◌≡◌, ℕ, zero, suc, true, ◌&&◌, ◌≤◌, List, [], ◌∷◌, length, arith}
use Rattle.std.specs.Prelude.{nat_le, slice_get}
use Rattle.std.specs.List.{list_all}
use Rattle.std.proofs.lemmas.Bool.{leb-true}
use Rattle.c_typed.specs.Sound.{function_fits, initial_fits, is_sound, object_fits, static_fits, structure_fits, target_fits, type_is_there}
use Rattle.c_typed.specs.Sameness.{is_complete}
use Rattle.c_typed.specs.Trees.{Program, StaticTree}
use Rattle.c_typed.specs.Types.{type_bytes}
use Rattle.src_memory.specs.Shape.{AreSmall}
use Rattle.src_memory.proofs.Same.{left_holds, right_holds}
use Rattle.src_values.specs.Objects.{bytes_of_static, object_bytes}

static_small : (p : Program) (ss : List StaticTree) → list_all (static_fits p) ss ≡ true → (n : ℕ) → bytes_of_static p.sizes (slice_get ss n) ≤ 65536
static_small p [] e n = omega arith
static_small p (s ∷ ss) e zero =
    let ty = s.ty.ty in
    let fits = left_holds (static_fits p s) (list_all (static_fits p) ss) e in
    let object = left_holds (object_fits p ty) (initial_fits p (type_bytes p.sizes ty) 0 s.initial) fits in
    let size = right_holds (is_complete p ty) (nat_le (type_bytes p.sizes ty) 65535) (right_holds (type_is_there p ty) (is_complete p ty && nat_le (type_bytes p.sizes ty) 65535) object) in
    let few = leb-true (type_bytes p.sizes ty) 65535 size in
    omega arith
static_small p (s ∷ ss) e (suc n) = static_small p ss (right_holds (static_fits p s) (list_all (static_fits p) ss) e) n

pub sound_small : (p : Program) → is_sound p ≡ true → length p.statics ≤ 65536 → AreSmall p
unfolding object_bytes
sound_small p e few =
    let functions = list_all (function_fits p) p.functions in
    let statics = list_all (static_fits p) p.statics in
    let structures = list_all (structure_fits p) p.structures in
    let all = left_holds statics functions (right_holds structures (statics && functions) (right_holds (list_all (target_fits p) p.targets) (structures && (statics && functions)) e)) in
    record { statics = few; bytes = λ n. static_small p p.statics all n }
