-- A byte that is cleared where W, which is 0, would be stored.
use Rattle.std.proofs.Common.{◌≡◌, ℕ, Bool, true, List, refl, sym}
use Rattle.sym_code.specs.Effect.{Thread, Memory, Effect, access_of, store, effect_of}
use Rattle.sym_code.specs.Programs.{Position}
use Rattle.sym_code.specs.Registers.{Registers}
use Rattle.sym_code.specs.Touching.{touches}
use Rattle.sym_code.specs.declared.code.Operand.{Operand}
use Rattle.sym_code.specs.declared.code.Sym.{Sym}
use Rattle.sym_code.specs.declared.code.Sym.TheVariants as syms
use Rattle.lean_code.specs.Rows.{Facts, Apart, Note, Row, cleared, Lean, old_program, new_program, old_setting, new_setting}
use Rattle.lean_code.specs.Changes.{Alike, Through, stored}
use Rattle.lean_code.specs.Right.{ClearsFor, IsCleared, IsSound}
use Rattle.lean_code.specs.Links.{clears}
use Rattle.lean_code.proofs.Lists.{never, stands_at}
use Rattle.lean_code.proofs.Places.{under, row_at}
use Rattle.lean_code.proofs.Facts.{keep_all, lost_through, stored_byte}
use Rattle.lean_code.proofs.Relation.{apart_of, Match}
use Rattle.lean_code.proofs.Kept.{Scene, lost_near, one, other, rows}
use Rattle.lean_code.proofs.KeptRows.{Clear, stores, all_near, lost_holds}

module _ (x : Lean) (sound : IsSound x) (inside : Bool) (rest : ℕ → Bool) (scene : Scene x inside rest) (stands : stands_at (row_at x scene.p) ≡ true) where
  abbrev p : Position
  p = scene.p

  abbrev n : Note
  n = scene.n

  abbrev d : Apart
  d = scene.n.apart

  abbrev f : Facts
  f = scene.n.facts

  abbrev r : Registers
  r = scene.r

  abbrev s : Registers
  s = scene.s

  abbrev m : Memory
  m = scene.m

  abbrev first : Thread
  first = one x sound inside rest scene

  abbrev second : Thread
  second = other x sound inside rest scene

  abbrev list : List Row
  list = rows x sound inside rest scene

  abbrev Both : Effect → Effect → Type 0
  Both = Match x inside rest (apart_of n scene.ks) m scene.k

  -- Z is set by the other machine alone
  zero_alike : Alike (record d { z = true }) r (record s { z = 1 })
  zero_alike = record { w = scene.alike.w; z = λ e. never (sym e); dc = scene.alike.dc; c = scene.alike.c; fsr = scene.alike.fsr; irp = scene.alike.irp }

  clear_store : (operand : Operand) → Clear x sound inside rest scene stands operand true → ClearsFor x p.block inside n list operand
      → Both (store (old_program x) p first r r.w (access_of (old_setting x) inside true r operand)) (store (new_program x) (under x p) second (record s { z = 1 }) 0 (access_of (new_setting x) inside true s operand))
  clear_store operand clear e =
      let near = all_near x sound inside rest scene stands in
      stores x sound inside rest scene stands (record d { z = true }) r (record s { z = 1 }) r.w 0 (scene.holds.number 0 e.1) zero_alike (λ j. refl) (λ a. stored x.hidden a f) (keep_all f r m scene.holds (record r { fsr = r.w }) refl refl refl) near scene.holds
      (lost_near x inside Through f near) (lost_holds x sound inside rest scene stands f r scene.holds) (λ i h. lost_through x.hidden f r m i r.w h scene.holds) (λ i. stored_byte x.hidden f r m i scene.holds) operand clear e.2

  pub cleared_both : (i : Sym) → clears x.hidden r (touches i) ≡ true → IsCleared x p.block inside n list i → Both (effect_of (old_setting x) inside p first m i) (effect_of (new_setting x) inside (under x p) second scene.k (cleared i))
  unfolding effect_of
  cleared_both (syms.Movwf operand) clear e = clear_store operand clear e
  cleared_both (syms.Label label) clear e = tt
  cleared_both i clear e = absurd e
