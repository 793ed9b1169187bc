-- The layout by which symbolic code makes the kept trace: a static object that isn't kept, and isn't const, has no bytes among the objects, and
-- its bytes are one of main's frames. So main's accesses to them are no events, and the handler may make none.
use Rattle.std.specs.Prelude.{ℕ, ◌+◌, Bool, true, false, not, ◌&&◌, if◌then◌else◌, List, [], ◌∷◌, ◌++◌, get_or}
use Rattle.pic_chip.specs.Run.{Range}
use Rattle.pic_world.specs.declared.Root.TheVariants.{Main}
use Rattle.kept_trace.specs.Kept.{is_kept_cell, kept_events}
use Rattle.sym_code.specs.Effect.{Setting}
use Rattle.sym_code.specs.Layout.{DataLayout, FrameRange, Owner, Watched, owner}
use Rattle.sym_code.specs.Machine.{Machine}
use Rattle.sym_code.specs.Programs.{Program}

-- the object of this number is private: its accesses are events, and none of these is kept
abbrev pub is_private : List Bool → ℕ → Range → Bool
is_private kept number r = not r.constant && not (get_or kept number false)

-- an object without bytes, at its own address
abbrev pub emptied : Range → Range
emptied r = record r { constant = true; size = 0 }

abbrev pub as_frame : Range → FrameRange
as_frame r = record { root = Main; address = r.address; size = r.size }

-- the objects from this number on
abbrev pub emptied_from : List Bool → ℕ → List Range → List Range
emptied_from kept number [] = []
emptied_from kept number (r ∷ rs) = (if is_private kept number r then emptied r else r) ∷ emptied_from kept (number + 1) rs

-- the private ones among them as frames
abbrev pub frames_from : List Bool → ℕ → List Range → List FrameRange
frames_from kept number [] = []
frames_from kept number (r ∷ rs) = if is_private kept number r then as_frame r ∷ frames_from kept (number + 1) rs else frames_from kept (number + 1) rs

-- Objects keep their numbers and addresses, and so do the frames of copies: the new ones stand behind these.
abbrev pub kept_layout : List Bool → DataLayout → DataLayout
kept_layout kept l = record { objects = emptied_from kept 0 l.objects; frames = l.frames ++ frames_from kept 0 l.objects }

-- the same code over that layout
abbrev pub kept_program : List Bool → Program → Program
kept_program kept q = record q { layout = kept_layout kept q.layout }

abbrev pub kept_setting : List Bool → Setting → Setting
kept_setting kept g = record g { program = kept_program kept g.program }

-- ---- private bytes
abbrev pub is_private_owner : List Bool → Owner → Bool
is_private_owner kept (Watched cell) = not (is_kept_cell kept cell)
is_private_owner kept _ = false

-- of a general byte by its number
abbrev pub is_private_byte : List Bool → DataLayout → ℕ → Bool
is_private_byte kept l k = is_private_owner kept (owner l k)

-- ---- what is seen
-- the machine, of whose trace kept events are seen alone
abbrev pub seen : List Bool → Machine → Machine
seen kept t = record t { world = record t.world { trace = kept_events kept t.world.trace } }
