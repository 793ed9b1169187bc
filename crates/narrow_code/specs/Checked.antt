-- A test of a draft: one walk along the code, which goes from what is known before each operation to what is known behind it.
use Rattle.std.specs.Prelude.{◌≡◌, ℕ, zero, suc, Bool, true, false, ◌&&◌, ◌||◌, nat_eq, nat_lt, if◌then◌else◌, List, [], ◌∷◌, length, set, replicate, Option, Some, None}
use Rattle.c_ints.specs.Operators.{type_of, unary_type, compares}
use Rattle.c_ints.specs.Range.{bytes_of}
use Rattle.c_ints.specs.declared.operators.BinOp.{BinOp}
use Rattle.c_ints.specs.declared.types.IntTy.{IntTy}
use Rattle.core_code.specs.Bytes.{behind}
use Rattle.core_code.specs.Tree as tree
use Rattle.core_code.specs.Tree.{Tree, Trees, NoTree, AndTree}
use Rattle.core_code.specs.Values.{right_type}
use Rattle.core_code.specs.declared.code.Byte.{Byte}
use Rattle.core_code.specs.declared.code.Byte.TheVariants.{Static, Frame, Result, Device}
use Rattle.narrow_code.specs.Drafts.{Draft, Drafts, cuts, parts_of, way_of, first_of, second_of, front_of, behind_of, body_of, head_of, tail_of, marks_in, all_planned}
use Rattle.narrow_code.specs.Marks.{Mark, Zero, Numbers, Same, Differs, is_same, is_number, is_below, own_mark, agree, may_differ, Below}
use Rattle.narrow_code.specs.Right.{is_low, set_mark, narrow_mark, are_low_alone, behind_binary, behind_convert, fits_way, AllFit}

-- the marks at the front of a loop, and behind it
pub record Turn : Type 0 where
  pub front : List Mark
  pub behind : List Mark

-- ---- lists of marks
-- beyond its end a list says nothing
abbrev pub all_below : List Mark → List Mark → Bool
all_below [] known = true
all_below (k ∷ said) [] = is_below k Differs && all_below said []
all_below (k ∷ said) (j ∷ known) = is_below k j && all_below said known

abbrev pub both_say : Mark → Mark → Mark
both_say k j = if is_below k j then k else if is_below j k then j else Differs

-- what both say
abbrev pub met : List Mark → List Mark → List Mark
met [] known = []
met (k ∷ said) [] = []
met (k ∷ said) (j ∷ known) = both_say k j ∷ met said known

-- ---- marks behind a write
abbrev pub put : ℕ → List Mark → Byte → Mark → List Mark
put p marks (Static object offset) mark = marks
put p marks (Frame copy offset) mark = if nat_eq copy p then set marks offset mark else marks
put p marks (Result root k) mark = marks
put p marks (Device address) mark = marks

abbrev pub put_bytes : ℕ → List Mark → Byte → ℕ → (ℕ → Mark) → List Mark
put_bytes p marks byte zero mark = marks
put_bytes p marks byte (suc n) mark = put p (put_bytes p marks byte n mark) (behind byte n) (mark n)

abbrev pub put_on : ℕ → List Mark → Byte → ℕ → List Mark
put_on p marks byte zero = marks
put_on p marks byte (suc n) = put_on p (put p marks byte Same) (behind byte 1) n

-- where no way leads any mark will do
abbrev pub nowhere : List Mark → List Mark
nowhere marks = replicate (length marks) Zero

-- ---- the walk
abbrev pub allowed : Bool → List Mark → Option (List Mark)
allowed holds marks = if holds then Some marks else None

abbrev pub walked_on : Option (List Mark) → (List Mark → Option (List Mark)) → Option (List Mark)
walked_on None f = None
walked_on (Some marks) f = f marks

abbrev pub joined : Option (List Mark) → Option (List Mark) → Option (List Mark)
joined None way = None
joined (Some marks) None = None
joined (Some marks) (Some others) = Some (met marks others)

-- a turn of a loop comes back with no less than is known at its front
abbrev pub comes_back : Option (List Mark) → List Mark → Bool
comes_back None front = false
comes_back (Some marks) front = all_below front marks

abbrev pub may_exit : List Turn → ℕ → List Mark → Bool
may_exit [] n here = true
may_exit (turn ∷ turns) zero here = all_below turn.behind here
may_exit (turn ∷ turns) (suc n) here = may_exit turns n here

abbrev pub may_repeat : List Turn → ℕ → List Mark → Bool
may_repeat [] n here = true
may_repeat (turn ∷ turns) zero here = all_below turn.front here
may_repeat (turn ∷ turns) (suc n) here = may_repeat turns n here

module _ (lent : ℕ → Bool) (p : ℕ) where
  abbrev pub same_at : List Mark → Byte → Bool
  same_at here byte = is_same (own_mark lent p (marks_in here) byte)

  abbrev pub number_at : List Mark → Byte → Bool
  number_at here byte = is_number (own_mark lent p (marks_in here) byte)

  abbrev pub same_from : List Mark → Byte → ℕ → Bool
  same_from here byte n = agree lent p (marks_in here) byte n

  abbrev pub small_at : List Mark → IntTy → Byte → Byte → Bool
  small_at here ty left right = are_low_alone lent p (marks_in here) ty left right

  abbrev pub may_cut : List Mark → BinOp → IntTy → Byte → Byte → Byte → Bool
  may_cut here op ty to left right = (is_low op || (compares op && small_at here ty left right)) && nat_lt 1 (bytes_of ty) && number_at here left && number_at here right && may_differ lent p to

  abbrev pub walk_binary : Bool → List Mark → BinOp → IntTy → Byte → Byte → Byte → Option (List Mark)
  walk_binary true here op ty to left right = allowed (may_cut here op ty to left right) (put_bytes p here to (bytes_of (type_of op ty)) (narrow_mark op (small_at here ty left right)))
  walk_binary false here op ty to left right =
      allowed (same_from here left (bytes_of ty) && same_from here right (bytes_of (right_type op ty)))
      (put_bytes p here to (bytes_of (type_of op ty)) (behind_binary lent p (marks_in here) op ty left right))

  -- an operation without parts that stays
  abbrev pub walk_leaf : List Turn → List Mark → Tree → Option (List Mark)
  walk_leaf turns here (tree.Set to value) = Some (put p here to (set_mark value))
  walk_leaf turns here (tree.Address to place) = Some (put_bytes p here to 2 (λ k. Same))
  walk_leaf turns here (tree.Copy to from) = allowed (same_at here from) (put p here to (own_mark lent p (marks_in here) from))
  walk_leaf turns here (tree.Load to pointer count) = allowed (same_from here pointer 2) (put_on p here to count)
  walk_leaf turns here (tree.Store pointer from count) = allowed (same_from here pointer 2 && same_from here from count) here
  walk_leaf turns here (tree.Unary op ty at) = allowed (same_from here at (bytes_of ty)) (put_bytes p here at (bytes_of (unary_type op ty)) (λ k. Numbers))
  walk_leaf turns here (tree.Binary op ty to left right) = walk_binary false here op ty to left right
  walk_leaf turns here (tree.Convert from to at) = allowed (same_from here at (bytes_of from)) (put_bytes p here at (bytes_of to) (behind_convert lent p (marks_in here) from at))
  walk_leaf turns here (tree.BitRead to register bit) = Some (put p here to Numbers)
  walk_leaf turns here (tree.BitWrite register bit from) = allowed (same_at here from) here
  walk_leaf turns here (tree.Call copy) = Some here
  walk_leaf turns here tree.Leave = Some (nowhere here)
  walk_leaf turns here (tree.Exit n) = allowed (may_exit turns n here) (nowhere here)
  walk_leaf turns here (tree.Again n) = allowed (may_repeat turns n here) (nowhere here)
  walk_leaf turns here (tree.Many ts) = None
  walk_leaf turns here (tree.If test size first second) = None
  walk_leaf turns here (tree.Loop body) = None

  abbrev mutual
    pub walk : List Turn → List Mark → Tree → Draft → Option (List Mark)
    walk turns here (tree.Binary op ty to left right) d = walk_binary (cuts d) here op ty to left right
    walk turns here (tree.Many ts) d = walk_all turns here ts (parts_of d)
    walk turns here (tree.If test size first second) d =
        if fits_way lent p (marks_in here) test size (way_of d) then joined (walk turns here first (first_of d)) (walk turns here second (second_of d)) else None
    walk turns here (tree.Loop body) d =
        allowed (all_below (front_of d) here && comes_back (walk (record { front = front_of d; behind = behind_of d } ∷ turns) (front_of d) body (body_of d)) (front_of d)) (behind_of d)
    walk turns here t d = walk_leaf turns here t

    pub walk_all : List Turn → List Mark → Trees → Drafts → Option (List Mark)
    walk_all turns here NoTree ds = Some here
    walk_all turns here (AndTree t ts) ds = walked_on (walk turns here t (head_of ds)) (λ mid. walk_all turns mid ts (tail_of ds))

-- A draft that passes makes a plan that fits the code.
abbrev pub TestIsRight : Type 0
TestIsRight = (lent : ℕ → Bool) (p size : ℕ) (ts : Trees) (ds : Drafts) (after : List Mark)
    → walk_all lent p [] (replicate size Same) ts ds ≡ Some after
    → Below p (marks_in (replicate size Same)) (λ byte. Same) × AllFit lent p [] (marks_in (replicate size Same)) (all_planned ts ds) (marks_in after)
