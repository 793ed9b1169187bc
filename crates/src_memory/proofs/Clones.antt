-- A memory that was cloned has the same objects.
use Rattle.std.proofs.Common.{◌≡◌, ℕ, zero, suc, ◌%◌, List, [], ◌∷◌, refl, ap, ◌∙◌}
use Rattle.std.proofs.lemmas.List.Elements.{same_from_all_zip}
use Rattle.std.specs.Global.{Global}
use Rattle.std.specs.List.{AllZip}
use Rattle.std.specs.Vec.{vec_len}
use Rattle.std.specs.declared.vec.Vec.{Vec}
use Rattle.c_typed.specs.Trees.{Program}
use Rattle.pic_map.specs.MapContent.{MapContent}
use Rattle.pic_world.specs.declared.Root.TheVariants.{Main, Isr}
use Rattle.src_memory.specs.Cells.{byte_at, cell, cell_at, cell_in, frames_in, memory_in, size_of, variable_at}
use Rattle.src_memory.specs.Shape.{IsShaped}
use Rattle.src_memory.specs.declared.memory.Cells.{Cells}
use Rattle.src_memory.specs.declared.memory.Memory.{Memory}
use Rattle.src_values.specs.declared.objects.Byte.{Byte}
use Rattle.src_values.specs.declared.objects.Object.{Object}
use Rattle.src_values.specs.declared.objects.Object.TheVariants.{Fixed, Variable}

abbrev IsByte : Byte → Byte → Type 0
IsByte x y = y ≡ x

abbrev Same : List Cells → List Cells → Type 0
Same xs ys = AllZip (λ a b. cell b ≡ cell a) xs ys

abbrev SameFrames : List (Vec Cells Global) → List (Vec Cells Global) → Type 0
SameFrames xs ys = AllZip (λ v w. Same v.items w.items × (vec_len w ≡ vec_len v)) xs ys

pub cell_clones : (a b : Cells) → AllZip IsByte a.bytes.items b.bytes.items → b.address ≡ a.address → b.watched ≡ a.watched → cell b ≡ cell a
cell_clones a b h d w = let e = same_from_all_zip IsByte a.bytes.items b.bytes.items h (λ x y e. e) in λ i. record { bytes = e i; address = d i; watched = w i }

same_cells : (xs ys : List Cells) → Same xs ys → (n : ℕ) → cell_at ys n ≡ cell_at xs n
same_cells [] [] h n = refl
same_cells [] (y ∷ ys) h n = absurd h
same_cells (x ∷ xs) [] h n = absurd h
same_cells (x ∷ xs) (y ∷ ys) h zero = h.0
same_cells (x ∷ xs) (y ∷ ys) h (suc n) = same_cells xs ys h.1 n

same_frames : (xs ys : List (Vec Cells Global)) → SameFrames xs ys → (f n : ℕ) → variable_at ys f n ≡ variable_at xs f n
same_frames [] [] h f n = refl
same_frames [] (y ∷ ys) h f n = absurd h
same_frames (x ∷ xs) [] h f n = absurd h
same_frames (x ∷ xs) (y ∷ ys) h zero n = same_cells x.items y.items h.0.0 n
same_frames (x ∷ xs) (y ∷ ys) h (suc f) n = same_frames xs ys h.1 f n

pub memory_clones : (a b : Memory) → Same a.fixed.items b.fixed.items → SameFrames a.main.items b.main.items → SameFrames a.handler.items b.handler.items → (o : Object) → cell_in b o ≡ cell_in a o
memory_clones a b f m h (Fixed n) = same_cells a.fixed.items b.fixed.items f n
memory_clones a b f m h (Variable c n) = by_root c.root
  where
    by_root : (root : _) → variable_at (frames_in b root) c.function n ≡ variable_at (frames_in a root) c.function n
    by_root Main = same_frames a.main.items b.main.items m c.function n
    by_root Isr = same_frames a.handler.items b.handler.items h c.function n

-- ---- what follows for whoever has the clone
pub shape_clones : (p : Program) (map : MapContent) (a b : Memory) → ((o : Object) → cell_in b o ≡ cell_in a o) → IsShaped p map a → IsShaped p map b
shape_clones p map a b e h = record {
  small = h.small;
  size = λ o. ap size_of (e o) ∙ h.size o;
  watched = λ o t. ap (λ c. c.watched) (e o) ∙ h.watched o t;
  address = λ o t. ap (λ c. c.address % 512) (e o) ∙ h.address o t;
}

pub bytes_clone : (a b : Memory) → ((o : Object) → cell_in b o ≡ cell_in a o) → memory_in b ≡ memory_in a
unfolding memory_in
bytes_clone a b e = λ i object at. byte_at (e object i) at
