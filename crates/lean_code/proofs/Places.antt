-- Positions of the given code, and those of the code that is made that belong to them.
use Rattle.std.proofs.Common.{◌≡◌, ℕ, suc, ◌+◌, true, List, drop, Option, Some, None, option_map, slice_get, refl, sym, ap, ◌∙◌, subst, add-one}
use Rattle.sym_code.specs.Programs.{Program, Position, position, stand, front, behind, label_from, place_of}
use Rattle.sym_code.specs.declared.code.BlockName.{BlockName}
use Rattle.sym_code.specs.declared.code.Label.TheVariants.{Inner}
use Rattle.sym_code.specs.declared.code.Target.TheVariants as targets
use Rattle.lean_code.specs.Rows.{Note, Row, olds, puts, place_in, note_ahead, past, drops_first, keeps_first, Lean, old_program, new_program}
use Rattle.lean_code.proofs.Lists.{dropped_at, stands_at, settle, settle_zero, settle_is, settle_again, place_zero, place_settle, place_dropped, place_behind, note_settle, past_is, drops_at, keeps_at, label_place}

stand_is : (q : Program) (p : Position) → stand q p ≡ position p.block (settle (q.block p.block) p.index)
unfolding stand
stand_is q p = ap (position p.block) (settle_is (q.block p.block) p.index)

behind_is : (q : Program) (p : Position) → behind q p ≡ position p.block (settle (q.block p.block) (suc p.index))
behind_is q p = stand_is q (position p.block (p.index + 1)) ∙ ap (λ n. position p.block (settle (q.block p.block) n)) (add-one p.index)

module _ (x : Lean) where
  -- the position in the code that is made
  abbrev pub under : Position → Position
  under p = position p.block (place_in (x.rows p.block) p.index)

  abbrev pub note_at : Position → Option (Option Note)
  note_at p = note_ahead (drop p.index (x.rows p.block))

  abbrev pub row_at : Position → Option Row
  row_at p = slice_get (x.rows p.block) p.index

  -- a position at which no label stands, in this block, with this known there
  pub record To (own : BlockName) (o : Option (Option Note)) (p : Position) : Type 0 where
    pub settled : settle (olds (x.rows p.block)) p.index ≡ p.index
    pub note : note_at p ≡ o
    pub block : p.block ≡ own

  -- behind the labels at an index
  to_settled : (name : BlockName) (j : ℕ) → To name (note_ahead (drop j (x.rows name))) (position name (settle (olds (x.rows name)) j))
  to_settled name j = record { settled = settle_again (olds (x.rows name)) j; note = note_settle (x.rows name) j; block = refl }

  pub to_behind : (p : Position) → To p.block (note_ahead (drop (suc p.index) (x.rows p.block))) (behind (old_program x) p)
  to_behind p = subst (λ (q : Position). To p.block (note_ahead (drop (suc p.index) (x.rows p.block))) q) (sym (behind_is (old_program x) p)) (to_settled p.block (suc p.index))

  behind_twice : (p : Position) → behind (old_program x) (behind (old_program x) p) ≡ position p.block (settle (olds (x.rows p.block)) (suc (settle (olds (x.rows p.block)) (suc p.index))))
  behind_twice p = ap (behind (old_program x)) (behind_is (old_program x) p) ∙ behind_is (old_program x) (position p.block (settle (olds (x.rows p.block)) (suc p.index)))

  pub to_past : (p : Position) → To p.block (note_ahead (past (drop (suc p.index) (x.rows p.block)))) (behind (old_program x) (behind (old_program x) p))
  to_past p =
      subst (λ (q : Position). To p.block (note_ahead (past (drop (suc p.index) (x.rows p.block)))) q) (sym (behind_twice p))
      (subst (λ (l : List Row). To p.block (note_ahead l) (position p.block (settle (olds (x.rows p.block)) (suc (settle (olds (x.rows p.block)) (suc p.index)))))) (sym (past_is (x.rows p.block) (suc p.index)))
      (to_settled p.block (suc (settle (olds (x.rows p.block)) (suc p.index)))))

  pub to_front : (name : BlockName) → To name (note_ahead (x.rows name)) (front (old_program x) name)
  to_front name = subst (λ (q : Position). To name (note_ahead (x.rows name)) q) (sym (stand_is (old_program x) (position name 0))) (to_settled name 0)

  pub to_label : (name : BlockName) (k : ℕ) → To name (note_ahead (drop k (x.rows name))) (stand (old_program x) (position name k))
  to_label name k = subst (λ (q : Position). To name (note_ahead (drop k (x.rows name))) q) (sym (stand_is (old_program x) (position name k))) (to_settled name k)

  -- ---- the positions that belong to these
  pub under_behind : (p : Position) → stands_at (row_at p) ≡ true → behind (new_program x) (under p) ≡ under (behind (old_program x) p)
  under_behind p e =
      behind_is (new_program x) (under p)
      ∙ ap (position p.block) (place_behind (x.rows p.block) p.index e ∙ sym (place_settle (x.rows p.block) (suc p.index)))
      ∙ sym (ap under (behind_is (old_program x) p))

  pub under_dropped : (p : Position) → dropped_at (row_at p) ≡ true → under (behind (old_program x) p) ≡ under p
  under_dropped p e = ap under (behind_is (old_program x) p) ∙ ap (position p.block) (place_settle (x.rows p.block) (suc p.index) ∙ place_dropped (x.rows p.block) p.index e)

  -- the row behind
  pub keeps_behind : (p : Position) → keeps_first (drop (suc p.index) (x.rows p.block)) ≡ true → stands_at (row_at (behind (old_program x) p)) ≡ true
  keeps_behind p e = subst (λ (q : Position). stands_at (row_at q) ≡ true) (sym (behind_is (old_program x) p)) (keeps_at (x.rows p.block) (suc p.index) e)

  pub drops_behind : (p : Position) → drops_first (drop (suc p.index) (x.rows p.block)) ≡ true → dropped_at (row_at (behind (old_program x) p)) ≡ true
  drops_behind p e = subst (λ (q : Position). dropped_at (row_at q) ≡ true) (sym (behind_is (old_program x) p)) (drops_at (x.rows p.block) (suc p.index) e)

  pub under_front : (name : BlockName) → front (new_program x) name ≡ under (front (old_program x) name)
  under_front name =
      stand_is (new_program x) (position name 0)
      ∙ ap (position name) (settle_zero (puts (x.rows name)) ∙ sym (place_zero (x.rows name)) ∙ sym (place_settle (x.rows name) 0))
      ∙ sym (ap under (stand_is (old_program x) (position name 0)))

  -- the place of an index
  pub under_stand : (name : BlockName) (k : ℕ) → under (stand (old_program x) (position name k)) ≡ position name (place_in (x.rows name) k)
  under_stand name k = ap under (stand_is (old_program x) (position name k)) ∙ ap (position name) (place_settle (x.rows name) k)

  place_made : (name : BlockName) (o : Option ℕ) → option_map (λ k. stand (new_program x) (position name k)) o ≡ option_map (position name) (option_map (settle (puts (x.rows name))) o)
  place_made name None = refl
  place_made name (Some k) = ap Some (stand_is (new_program x) (position name k))

  place_given : (name : BlockName) (o : Option ℕ) → option_map under (option_map (λ k. stand (old_program x) (position name k)) o) ≡ option_map (position name) (option_map (place_in (x.rows name)) o)
  place_given name None = refl
  place_given name (Some k) = ap Some (under_stand name k)

  -- where a jump leads to
  pub under_label : (p : Position) (n : ℕ) → place_of (new_program x) (under p) (targets.Label (Inner n)) ≡ option_map under (place_of (old_program x) p (targets.Label (Inner n)))
  under_label p n =
      place_made p.block (label_from (puts (x.rows p.block)) (Inner n) 0)
      ∙ ap (option_map (position p.block)) (sym (label_place (x.rows p.block) (Inner n)))
      ∙ sym (place_given p.block (label_from (olds (x.rows p.block)) (Inner n) 0))
