-- What is so behind an instruction, as the code says it: what was so before it, with what changes.
use Rattle.std.specs.Prelude.{◌≡◌, ℕ, Bool, true, false, not, ◌&&◌, ◌||◌, nat_eq, if◌then◌else◌, List, [], ◌∷◌, Option, Some, None, option_map}
use Rattle.sym_code.specs.declared.code.FileOperation.{FileOperation}
use Rattle.lean_code.specs.Rows.{Facts, Apart}
use Rattle.lean_code.specs.Changes as changes
use Rattle.lean_code.specs.Checked as listed
use Rattle.code_place.specs.Layouts.{layout_of}
use Rattle.lean_pass.specs.Views.{note_of, block_of, sketch_of, set_of}
use Rattle.lean_pass.specs.declared.behind.Behind.{Behind}
use Rattle.lean_pass.specs.declared.behind.Bytes.{Bytes}
use Rattle.lean_pass.specs.declared.behind.Bytes.TheVariants as bytes
use Rattle.lean_pass.specs.declared.behind.Differs.{Differs}
use Rattle.lean_pass.specs.declared.behind.Flags.{Flags}
use Rattle.lean_pass.specs.declared.behind.Held.{Held}
use Rattle.lean_pass.specs.declared.behind.Held.TheVariants as helds
use Rattle.lean_pass.specs.declared.behind.Here.{Here}
use Rattle.lean_pass.specs.declared.behind.Known.{Known}
use Rattle.lean_pass.specs.declared.behind.Known.TheVariants as knowns
use Rattle.lean_pass.specs.declared.behind.Marks.{Marks}
use Rattle.lean_pass.specs.declared.behind.Twins.{Twins}
use Rattle.lean_pass.specs.declared.behind.Twins.TheVariants as twins

-- ---- where the code stands
abbrev pub sketch_at : Here → listed.Sketch
sketch_at h = sketch_of (layout_of h.ground.now.placed.now) h.sketch.now

abbrev pub block_at : Here → listed.ListedBlock
block_at h = block_of h.block.now

abbrev pub note_at : Here → listed.ListedNote
note_at h = note_of h.note.now

abbrev pub facts_at : Here → Facts
facts_at h = listed.facts_in (note_at h).facts

abbrev pub apart_at : Here → Apart
apart_at h = listed.apart_in (note_at h).apart

abbrev pub hidden_at : Here → ℕ → Bool
hidden_at h a = listed.among a (set_of h.sketch.now.hidden)

-- ---- facts
abbrev pub held_by : (ℕ → Bool) → Facts → Held → ℕ → Bool
held_by hidden f helds.Same = f.held
held_by hidden f (helds.Less k) = λ a. if nat_eq a k then false else f.held a
held_by hidden f helds.Hidden = λ a. if hidden a then f.held a else false
held_by hidden f helds.Nothing = λ a. false
held_by hidden f (helds.Only k) = λ a. if nat_eq a k then true else f.twin k a
held_by hidden f (helds.Like n) = λ a. changes.is_number (f.known a) n
held_by hidden f (helds.More k) = λ a. if nat_eq a k then true else f.held a

abbrev pub known_by : (ℕ → Bool) → Facts → Known → ℕ → Option ℕ
known_by hidden f knowns.Same = f.known
known_by hidden f (knowns.Put k number) = λ a. if nat_eq a k then number else f.known a
known_by hidden f knowns.Hidden = λ a. if hidden a then f.known a else None
known_by hidden f knowns.Nothing = λ a. None

abbrev pub twins_by : (ℕ → Bool) → Facts → Twins → ℕ → ℕ → Bool
twins_by hidden f twins.Same = f.twin
twins_by hidden f (twins.Less k) = changes.twin_but k f.twin
twins_by hidden f twins.Hidden = λ a b. if hidden a then (if hidden b then f.twin a b else false) else false
twins_by hidden f twins.Nothing = λ a b. false
twins_by hidden f (twins.Stored k) = changes.twin_stored k f

abbrev pub facts_by : (ℕ → Bool) → Facts → Behind → Facts
facts_by hidden f b = record { number = b.number; held = held_by hidden f b.held; zero = b.zero; known = known_by hidden f b.known; twin = twins_by hidden f b.twins; carry_bit = b.carry_bit; zero_bit = b.zero_bit }

-- flags are written, which are bits then
abbrev pub with_bits : changes.Flags → Behind → Behind
with_bits g b = record b { carry_bit = g.c || b.carry_bit; zero_bit = g.z || b.zero_bit }

-- ---- what may differ
abbrev pub flags_of : Flags → changes.Flags
flags_of f = record { z = f.z; dc = f.dc; c = f.c }

abbrev pub bytes_by : (ℕ → Bool) → Bytes → ℕ → Bool
bytes_by differs bytes.Same = differs
bytes_by differs (bytes.Less k) = λ a. if nat_eq a k then false else differs a
bytes_by differs (bytes.More k) = λ a. if nat_eq a k then true else differs a

abbrev pub apart_by : Apart → Differs → Apart
apart_by d b = record { w = b.marks.w; z = b.marks.z; dc = b.marks.dc; c = b.marks.c; bytes = bytes_by d.bytes b.bytes }

abbrev pub with_marks : Marks → Differs
with_marks m = record { marks = m; bytes = bytes.Same }

abbrev pub marks_at : Here → Marks
marks_at h = record { w = (note_at h).apart.w; z = (note_at h).apart.z; dc = (note_at h).apart.dc; c = (note_at h).apart.c }

abbrev pub both_marks : changes.Flags → Marks → Marks
both_marks f m = record m { z = not f.z && m.z; dc = not f.dc && m.dc; c = not f.c && m.c }

abbrev pub one_marks : changes.Flags → Marks → Marks
one_marks f m = record m { z = f.z || m.z; dc = f.dc || m.dc; c = f.c || m.c }

-- ---- candidates
abbrev pub candidates : Here → Option ℕ → List ℕ
candidates h None = (note_at h).apart.bytes
candidates h (Some k) = k ∷ (note_at h).apart.bytes

abbrev pub cleared_w : Facts → Facts
cleared_w f = record f { number = Some 0; held = λ a. false; zero = true }
