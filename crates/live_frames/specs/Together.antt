-- Which frames may be live together, and so overlap nowhere (compiled stack as in the HI-TECH PICC manual; one copy of a function
-- for each root is the project's own).
use Rattle.std.specs.Prelude.{◌≡◌, ℕ, true, ◌⊎◌, List, [], ◌∷◌}
use Rattle.c_typed.specs.Chains.{number_of, Reaches}
use Rattle.call_graph.specs.declared.types.FnCopy.{FnCopy}
use Rattle.live_frames.specs.Memory.{covers}
use Rattle.pic_map.specs.MapContent.{FrameLine}

-- Two copies may be live together where their roots differ, or one reaches the other.
abbrev pub MayBeLive : List (List ℕ) → ℕ → FnCopy → FnCopy → Type 0
MayBeLive graph functions a b = (a.root ≡ b.root → ⊥) ⊎ (Reaches graph (number_of functions a.function) (number_of functions b.function) ⊎ Reaches graph (number_of functions b.function) (number_of functions a.function))

-- One of the frames that may be live together with that of the copy has the byte at x. The frames are those of the first of the
-- copies.
abbrev pub LiveFramesHave : List (List ℕ) → ℕ → FnCopy → List FnCopy → List FrameLine → ℕ → Type 0
LiveFramesHave graph functions copy [] lines x = ⊥
LiveFramesHave graph functions copy (other ∷ others) [] x = ⊥
LiveFramesHave graph functions copy (other ∷ others) (line ∷ lines) x = (MayBeLive graph functions other copy × (covers line.address line.size x ≡ true)) ⊎ LiveFramesHave graph functions copy others lines x
