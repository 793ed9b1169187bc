-- Which bytes may be hidden from accesses through FSR: none of an object that is lent, to which pointers may lead, be it a static one or a frame.
use Rattle.std.specs.Prelude.{◌≡◌, ℕ, ◌+◌, ◌<◌, Bool, true, List, slice_index_or}
use Rattle.pic_chip.specs.Run.{Range}
use Rattle.core_code.specs.Bytes.{Object, Fixed, FrameOf}
use Rattle.sym_code.specs.Layout.{DataLayout, FrameRange, general_at, no_range, no_frame}
use Rattle.lean_code.specs.Links.{is_clear}

-- none of so many bytes from an address on is hidden
abbrev pub IsClearRange : (ℕ → Bool) → ℕ → ℕ → Type 0
IsClearRange hidden address size = (offset : ℕ) → offset < size → is_clear hidden (general_at (address + offset)) ≡ true

-- so of each static object, by its number, that is lent
abbrev pub AreClearObjects : (ℕ → Bool) → (ℕ → Bool) → List Range → Type 0
AreClearObjects hidden lent objects = (n : ℕ) → lent n ≡ true → IsClearRange hidden (slice_index_or objects n no_range).address (slice_index_or objects n no_range).size

-- so of the frame of each copy that is lent
abbrev pub AreClearFrames : (ℕ → Bool) → (ℕ → Bool) → List FrameRange → Type 0
AreClearFrames hidden lent frames = (c : ℕ) → lent c ≡ true → IsClearRange hidden (slice_index_or frames c no_frame).address (slice_index_or frames c no_frame).size

pub record IsClear (hidden : ℕ → Bool) (l : DataLayout) (lent : Object → Bool) : Type 0 where
  pub objects : AreClearObjects hidden (λ n. lent (Fixed n)) l.objects
  pub frames : AreClearFrames hidden (λ c. lent (FrameOf c)) l.frames
