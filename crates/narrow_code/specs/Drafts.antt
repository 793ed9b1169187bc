-- What a search proposes of a body, beside its code: which operators are narrowed, and what is known at the front of each loop and
-- behind it. Where the draft has nothing for some code, that stays and nothing is known.
use Rattle.std.specs.Prelude.{◌≡◌, Bool, true, false, if◌then◌else◌, List, [], get_or}
use Rattle.core_code.specs.Tree as tree
use Rattle.core_code.specs.Tree.{Tree, Trees, NoTree, AndTree}
use Rattle.core_code.specs.declared.code.Byte.TheVariants.{Static, Frame, Result, Device}
use Rattle.narrow_code.specs.Marks.{Mark, Same, Differs, Marks}
use Rattle.narrow_code.specs.Plans.{Way, Whole, Plan, Stays, Narrowed, Several, Choice, Repeat, Plans, NoPlan, AndPlan, all_given}

mutual
  pub data Draft : Type 0 where
    Keep : Draft
    Cut : Draft
    Parts : Drafts → Draft
    Ways : Way → Draft → Draft → Draft
    Round : List Mark → List Mark → Draft → Draft

  pub data Drafts : Type 0 where
    NoDraft : Drafts
    AndDraft : Draft → Drafts → Drafts

abbrev pub cuts : Draft → Bool
cuts Cut = true
cuts _ = false

abbrev pub parts_of : Draft → Drafts
parts_of (Parts ds) = ds
parts_of _ = NoDraft

abbrev pub way_of : Draft → Way
way_of (Ways way first second) = way
way_of _ = Whole

abbrev pub first_of : Draft → Draft
first_of (Ways way first second) = first
first_of _ = Keep

abbrev pub second_of : Draft → Draft
second_of (Ways way first second) = second
second_of _ = Keep

abbrev pub front_of : Draft → List Mark
front_of (Round front behind body) = front
front_of _ = []

abbrev pub behind_of : Draft → List Mark
behind_of (Round front behind body) = behind
behind_of _ = []

abbrev pub body_of : Draft → Draft
body_of (Round front behind body) = body
body_of _ = Keep

abbrev pub head_of : Drafts → Draft
head_of (AndDraft d ds) = d
head_of NoDraft = Keep

abbrev pub tail_of : Drafts → Drafts
tail_of (AndDraft d ds) = ds
tail_of NoDraft = NoDraft

-- marks of the own frame's bytes, by their places in it
abbrev pub marks_in : List Mark → Marks
marks_in marks (Static object offset) = Same
marks_in marks (Frame copy offset) = get_or marks offset Differs
marks_in marks (Result root k) = Same
marks_in marks (Device address) = Same

-- the plan of a body
abbrev mutual
  pub planned : Tree → Draft → Plan
  planned (tree.Binary op ty to left right) d = if cuts d then Narrowed op ty to left right else Stays (tree.Binary op ty to left right)
  planned (tree.Many ts) d = Several (all_planned ts (parts_of d))
  planned (tree.If test size first second) d = Choice test size (way_of d) (planned first (first_of d)) (planned second (second_of d))
  planned (tree.Loop body) d = Repeat (marks_in (front_of d)) (marks_in (behind_of d)) (planned body (body_of d))
  planned t d = Stays t

  pub all_planned : Trees → Drafts → Plans
  all_planned NoTree ds = NoPlan
  all_planned (AndTree t ts) ds = AndPlan (planned t (head_of ds)) (all_planned ts (tail_of ds))

-- Whatever the draft, the plan is one of the code.
abbrev pub PlansAreOfCode : Type 0
PlansAreOfCode = (ts : Trees) (ds : Drafts) → all_given (all_planned ts ds) ≡ ts
