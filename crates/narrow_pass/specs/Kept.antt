-- What byte code with operators on low bytes keeps of the given byte code.
use Rattle.std.specs.Prelude.{ℕ, ◌≡◌, ◌<◌, ◌≤◌, Bool, true, false, nat_eq, if◌then◌else◌, List, [], ◌∷◌, slice_get}
use Rattle.std.specs.List.{AllZip}
use Rattle.pic_world.specs.Roots.{same_root}
use Rattle.pic_world.specs.World.{Outside}
use Rattle.pic_world.specs.declared.Root.TheVariants.{Main, Isr}
use Rattle.run_links.specs.Runs.{Goes, Follows, IsSlow}
use Rattle.core_code.specs.Machine.{Program, Setting, static_byte}
use Rattle.core_code.specs.Runs.{run_of}
use Rattle.core_code.specs.Tree.{Tree, Trees, trees_of}
use Rattle.core_code.specs.View.{trees_in}
use Rattle.core_code.specs.declared.code.Body.{Body}
use Rattle.core_code.specs.declared.code.CoreProgram.{CoreProgram}
use Rattle.narrow_code.specs.InStep.{InStep}
use Rattle.narrow_code.specs.Lending.{leads_lent}
use Rattle.narrow_code.specs.Links.{is_lent}
use Rattle.narrow_code.specs.Places.{AtAllPlaces, IsRetyped, UsesOnly}
use Rattle.narrow_pass.specs.Narrowed.{IsNarrowedBody, IsNarrowed}

abbrev pub trees_for : Body → Trees
trees_for body = trees_of (trees_in body.code.items)

-- ---- runs
-- the code of a copy
abbrev pub code_of : List Body → ℕ → List Tree
code_of [] c = []
code_of (body ∷ bodies) c = if nat_eq body.copy c then trees_in body.code.items else code_of bodies c

-- a program of which the bodies are these
abbrev pub with_bodies : Program → List Body → Program
with_bodies q bodies = record q { body = code_of bodies }

abbrev pub setting_with : Program → List Body → Outside → Setting
setting_with q bodies o = record { program = with_bodies q bodies; outside = o }

-- Calls don't come round to the same copy, no copy runs under both roots, and static objects begin with no address of a frame. So it is
-- in all programs of the language.
pub record IsOrdered (q : Program) : Type 0 where
  -- a number that grows with each call, and from main's copies to the handler's
  pub rank : ℕ → ℕ
  pub rises : (p c : ℕ) → q.calls p c ≡ true → rank p < rank c
  pub apart : (p h : ℕ) → same_root (q.root p) Main ≡ true → same_root (q.root h) Isr ≡ true → rank p < rank h
  pub first : (n offset : ℕ) → leads_lent (is_lent (λ c. false)) (static_byte (slice_get q.first n) offset) ≡ true

-- Up to a moment the second run makes the same events as the first one, isn't stuck, and costs no more at most and no less at least; and
-- at each moment it is in step with the first one.
pub record KeepsRun (g h : Setting) (n : ℕ) : Type 0 where
  pub link : Follows (λ event. event) (run_of g) (run_of h) n
  pub slow : IsSlow (λ event. event) (run_of g) (run_of h) n link
  pub in_step : (i : ℕ) → i ≤ n → InStep g h i

-- So it is under every schedule, as long as the first program isn't stuck, whatever it has beside these bodies.
abbrev pub KeepsRuns : CoreProgram → CoreProgram → Type 0
KeepsRuns given made =
    (q : Program) → IsOrdered q → (o : Outside) (n : ℕ) → Goes (run_of (setting_with q given.bodies.items o)) n
    → KeepsRun (setting_with q given.bodies.items o) (setting_with q made.bodies.items o) n

-- ---- code
pub record IsInPlace (R : Tree → Tree → Type 0) (given made : Body) : Type 0 where
  pub copy : made.copy ≡ given.copy
  pub root : made.root ≡ given.root
  pub code : AtAllPlaces R (trees_for given) (trees_for made)

-- The bodies have operations in the same places, and of each and the one in its place this holds.
abbrev pub InSamePlaces : (Tree → Tree → Type 0) → CoreProgram → CoreProgram → Type 0
InSamePlaces R given made = AllZip (IsInPlace R) given.bodies.items made.bodies.items

pub record IsSparing (given made : Body) : Type 0 where
  pub copy : made.copy ≡ given.copy
  pub bytes : UsesOnly (trees_for given) (trees_for made)

-- Each body uses no byte that the given one doesn't use.
abbrev pub UsesNoOther : CoreProgram → CoreProgram → Type 0
UsesNoOther given made = AllZip IsSparing given.bodies.items made.bodies.items

-- ---- what the walks of this crate give
-- Where types alone are to change, nothing else did.
pub record IsDone (alone : Bool) (lent : ℕ → Bool) (given made : Body) : Type 0 where
  pub narrowed : IsNarrowedBody lent given made
  pub places : alone ≡ true → IsInPlace IsRetyped given made

pub record IsAnswer (alone : Bool) (given made : CoreProgram) : Type 0 where
  pub narrowed : IsNarrowed given made
  pub places : alone ≡ true → InSamePlaces IsRetyped given made
