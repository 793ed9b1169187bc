-- What narrowed code keeps: it follows the given code.
use Rattle.std.specs.Prelude.{◌≡◌, ℕ, ◌≤◌, Bool, true, List, ◌∷◌}
use Rattle.pic_world.specs.World.{Outside}
use Rattle.run_links.specs.Runs.{Goes, Follows, IsSlow}
use Rattle.core_code.specs.Bytes.{Object, Fixed, FrameOf}
use Rattle.core_code.specs.Machine.{Task, LoadFrom, StoreTo, core_moment}
use Rattle.core_code.specs.Runs.{run_of}
use Rattle.narrow_code.specs.Plans.{Narrowing, given_setting, made_setting}
use Rattle.narrow_code.specs.Right.{IsSound}

-- ---- accesses by pointers
-- The objects that are lent, to which pointers may lead, where nothing is known of static objects: each of these, and the frames of such copies.
abbrev pub is_lent : (ℕ → Bool) → Object → Bool
is_lent frames (Fixed n) = true
is_lent frames (FrameOf c) = frames c

-- the next task accesses no object by a pointer but one that is lent
abbrev pub reaches_lent : (Object → Bool) → List Task → Bool
reaches_lent lent (LoadFrom to object offset n ∷ c) = lent object
reaches_lent lent (StoreTo object offset from n ∷ c) = lent object
reaches_lent lent _ = true

-- so at each moment up to n
abbrev pub IsOpen : Narrowing → Outside → ℕ → Type 0
IsOpen x o n = (i : ℕ) → i ≤ n → reaches_lent (is_lent x.lent) (core_moment (given_setting x o) i).code ≡ true

-- ---- what is kept
-- Under every schedule, as long as the given program isn't stuck: the one that is made makes its events at the same steps, isn't
-- stuck either, and costs no more at most and no less at least.
abbrev pub NarrowingKeeps : Type 0
NarrowingKeeps =
    (x : Narrowing) → IsSound x → (o : Outside) (n : ℕ) → Goes (run_of (given_setting x o)) n → IsOpen x o n
    → (link : Follows (λ event. event) (run_of (given_setting x o)) (run_of (made_setting x o)) n)
    × IsSlow (λ event. event) (run_of (given_setting x o)) (run_of (made_setting x o)) n link
