-- What lists of statements, arms and items give, one element after the other.
use Rattle.std.proofs.Common.{◌≡◌, ℕ, max, List, [], ◌∷◌, map, refl}
use Rattle.c_typed.specs.declared.statement.TArm.{TArm}
use Rattle.c_typed.specs.declared.statement.TItem.{TItem}
use Rattle.c_typed.specs.declared.statement.TStmt.{TStmt}
use Rattle.c_typed.specs.Room.{item_room, items_room, statement_room, statements_room, arm_room, arms_room}
use Rattle.c_typed.specs.Views.{item_of, statement_of, statements_of, arm_of, arms_of}

abbrev pub items_room_in : List ℕ → List TItem → ℕ
items_room_in sizes is = items_room sizes (map item_of is)

abbrev pub item_room_in : List ℕ → TItem → ℕ
item_room_in sizes i = item_room sizes (item_of i)

pub items_room_none : (sizes : List ℕ) → items_room_in sizes [] ≡ 0
items_room_none sizes = refl

pub items_room_more : (sizes : List ℕ) (i : TItem) (is : List TItem) → items_room_in sizes (i ∷ is) ≡ max (item_room_in sizes i) (items_room_in sizes is)
items_room_more sizes i is = refl

abbrev pub statements_room_in : List ℕ → List TStmt → ℕ
statements_room_in sizes ss = statements_room sizes (statements_of (map statement_of ss))

abbrev pub statement_room_in : List ℕ → TStmt → ℕ
statement_room_in sizes s = statement_room sizes (statement_of s)

pub statements_room_none : (sizes : List ℕ) → statements_room_in sizes [] ≡ 0
unfolding statements_room
statements_room_none sizes = refl

pub statements_room_more : (sizes : List ℕ) (s : TStmt) (ss : List TStmt) → statements_room_in sizes (s ∷ ss) ≡ max (statement_room_in sizes s) (statements_room_in sizes ss)
unfolding statements_room
statements_room_more sizes s ss = refl

abbrev pub arms_room_in : List ℕ → List TArm → ℕ
arms_room_in sizes as_ = arms_room sizes (arms_of (map arm_of as_))

abbrev pub arm_room_in : List ℕ → TArm → ℕ
arm_room_in sizes a = arm_room sizes (arm_of a)

pub arms_room_none : (sizes : List ℕ) → arms_room_in sizes [] ≡ 0
unfolding arms_room
arms_room_none sizes = refl

pub arms_room_more : (sizes : List ℕ) (a : TArm) (as_ : List TArm) → arms_room_in sizes (a ∷ as_) ≡ max (arm_room_in sizes a) (arms_room_in sizes as_)
unfolding arms_room
arms_room_more sizes a as_ = refl
