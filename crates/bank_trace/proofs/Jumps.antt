-- Jumps, calls, returns and what touches no file register do the same with their selects as without them.
use Rattle.std.proofs.Common.{◌≡◌, Bool, true, false, nat_lt, if◌then◌else◌, List, [], ◌∷◌, length, map, Option, Some, None, option_map, slice_get, refl, sym, ap, subst}
use Rattle.std.proofs.lemmas.List.{length-map}
use Rattle.pic_isa.specs.declared.Ins.TheVariants as ins
use Rattle.sym_code.specs.Effect.{Thread, Effect, Stuck, goes, quiet, jump_to, halt, restore, goto, call, back, plain}
use Rattle.sym_code.specs.Programs.{Position, behind, place_of, block_of}
use Rattle.sym_code.specs.Registers.{Registers, after_row}
use Rattle.sym_code.specs.declared.code.BlockName.{BlockName}
use Rattle.sym_code.specs.declared.code.Label.TheVariants.{Inner, Halt, Restore}
use Rattle.sym_code.specs.declared.code.PlainOperation.TheVariants.{Clrw}
use Rattle.sym_code.specs.declared.code.Sym.{Sym}
use Rattle.sym_code.specs.declared.code.Sym.TheVariants as syms
use Rattle.sym_code.specs.declared.code.Target.{Target}
use Rattle.sym_code.specs.declared.code.Target.TheVariants as targets
use Rattle.bank_page.specs.declared.known.Known.{Known}
use Rattle.flow_facts.specs.Facts.{at_target}
use Rattle.flow_facts.specs.Walk.{leaves}
use Rattle.bank_trace.proofs.Lists.{calm_at, never}
use Rattle.bank_trace.proofs.Holding.{Bits, HoldsFact}
use Rattle.bank_trace.proofs.Banks.{over, row_over}
use Rattle.bank_trace.proofs.Sites.{Site, IsSound, without, with, plain_setting, banked_setting}
use Rattle.bank_trace.proofs.Places.{under, fact_at, AreBack, back_more, back_behind, block_behind, under_behind, under_place, ArrivesAt, fine_place, Onto}
use Rattle.bank_trace.proofs.Twins.{Quietly, Leaving, Ending, Does, GetsStuck, Done}
use Rattle.bank_trace.proofs.Rows.{goes_does}

module _ (x : Site) (q : Position) (r : Registers) (b : Bits) where
  -- a thread with another stack
  abbrev one_with : List Position → Thread
  one_with stack = record { rest = None; at = Some (under x q); stack = map (under x) stack; registers = r }

  abbrev other_with : List Position → Thread
  other_with stack = record { rest = None; at = Some q; stack = stack; registers = over b r }

  jump_does : (name : BlockName) (stack : List Position) → AreBack x name stack → (o : Option Position) → ArrivesAt x name b o → Does x (jump_to (one_with stack) (option_map (under x) o)) (jump_to (other_with stack) o)
  jump_does name stack back None h = GetsStuck refl
  jump_does name stack back (Some p) h =
      Done (Quietly (record { rest = None; at = Some p; stack = stack; registers = r; bits = b }) None) (record { at = h.fine; stack = subst (λ (n : BlockName). AreBack x n stack) (sym h.block) back }) refl refl refl

  jump_to_place : (name : BlockName) (stack : List Position) → AreBack x name stack → (target : Target) → ArrivesAt x name b (place_of (with x) q target)
      → Does x (jump_to (one_with stack) (place_of (without x) (under x q) target)) (jump_to (other_with stack) (place_of (with x) q target))
  jump_to_place name stack back target h =
      subst (λ (o : Option Position). Does x (jump_to (one_with stack) o) (jump_to (other_with stack) (place_of (with x) q target))) (sym (under_place x q target))
      (jump_does name stack back (place_of (with x) q target) h)

  pub back_does : (s : Registers) (whole stack : List Position) → AreBack x q.block stack → HoldsFact x.pages (x.facts.back q.block) b
      → Does x (back (record (one_with whole) { registers = s }) (map (under x) stack)) (back (record (other_with whole) { registers = over b s }) stack)
  back_does s whole [] h left = GetsStuck refl
  back_does s whole (p ∷ stack) h left =
      Done (Quietly (record { rest = None; at = Some p; stack = stack; registers = s; bits = b }) None) (record { at = record { settled = h.0.settled; holds = h.0.holds b left }; stack = h.1 }) refl refl refl

  halt_does : (inside : Bool) (stack : List Position) → Does x (halt inside (one_with stack) (map (under x) stack)) (halt inside (other_with stack) stack)
  halt_does false [] = Done (Ending (record { rest = None; at = None; stack = []; registers = r; bits = b })) (record { at = tt; stack = tt }) refl refl refl
  halt_does false (p ∷ stack) = GetsStuck refl
  halt_does true [] = GetsStuck refl
  halt_does true (p ∷ stack) = GetsStuck refl

  restore_does : (inside : Bool) (stack : List Position) → Does x (restore inside (map (under x) stack)) (restore inside stack)
  restore_does true [] = Done Leaving tt refl refl refl
  restore_does true (p ∷ stack) = GetsStuck refl
  restore_does false [] = GetsStuck refl
  restore_does false (p ∷ stack) = GetsStuck refl

  pub goto_does : (sound : IsSound x) (inside : Bool) (stack : List Position) → AreBack x q.block stack → (target : Target) → HoldsFact x.pages (at_target x.facts q.block target) b → leaves x.facts q.block target ≡ true
      → Does x (goto (plain_setting x) inside (under x q) (one_with stack) target) (goto (banked_setting x) inside q (other_with stack) target)
  goto_does sound inside stack h (targets.Label Halt) there left = halt_does inside stack
  goto_does sound inside stack h (targets.Label Restore) there left = restore_does inside stack
  goto_does sound inside stack h (targets.Label (Inner n)) there left = jump_to_place q.block stack h (targets.Label (Inner n)) (fine_place x sound q (targets.Label (Inner n)) b there)
  goto_does sound inside stack h (targets.Block name) there left = jump_to_place name stack (back_more x q.block name stack left h) (targets.Block name) (fine_place x sound q (targets.Block name) b there)

  pub call_if : (c d : Bool) → c ≡ d → (e f : Effect) → Does x e f → Does x (if c then e else Stuck) (if d then f else Stuck)
  call_if true true is e f h = h
  call_if false d is e f h = GetsStuck refl
  call_if true false is e f h = never (sym is)

  pub call_does : (sound : IsSound x) (inside : Bool) (stack : List Position) → AreBack x q.block stack → (target : Target) → slice_get (x.made q.block) q.index ≡ Some (syms.Call target)
      → (known : Known) → fact_at x q ≡ Some known → HoldsFact x.pages (at_target x.facts q.block target) b
      → Does x (call (plain_setting x) inside (under x q) (one_with stack) target) (call (banked_setting x) inside q (other_with stack) target)
  call_does sound inside stack h target e known is there =
      let name = block_of q.block target in
      let goes_back : AreBack x name (behind (with x) q ∷ stack) =
      (back_behind x sound q target known e is, subst (λ (n : BlockName). AreBack x n stack) (sym (block_behind x q)) h) in
      let calm : calm_at (slice_get (x.made q.block) q.index) ≡ true = subst (λ (o : Option Sym). calm_at o ≡ true) (sym e) refl in
      call_if (nat_lt (length (map (under x) stack)) (x.limit inside)) (nat_lt (length stack) (x.limit inside)) (ap (λ n. nat_lt n (x.limit inside)) (length-map stack (under x)))
      (jump_to (record (one_with stack) { stack = behind (without x) (under x q) ∷ map (under x) stack }) (place_of (without x) (under x q) target))
      (jump_to (other_with (behind (with x) q ∷ stack)) (place_of (with x) q target))
      (subst (λ (p : Position). Does x (jump_to (record (one_with stack) { stack = p ∷ map (under x) stack }) (place_of (without x) (under x q) target)) (jump_to (other_with (behind (with x) q ∷ stack)) (place_of (with x) q target)))
      (sym (under_behind x q calm))
      (jump_to_place name (behind (with x) q ∷ stack) goes_back target (fine_place x sound q target b there)))

  module _ (next : (c : Bool) → (c ≡ true → false ≡ true) → Onto x b q c) where
    pub straight_does : (stack : List Position) → AreBack x q.block stack → (s : Registers)
        → Does x (quiet (goes (one_with stack) (behind (without x) (under x q)) s)) (quiet (goes (other_with stack) (behind (with x) q) (over b s)))
    straight_does stack h s = goes_does x q stack r b h false next s None

    pub clear_does : (stack : List Position) → AreBack x q.block stack → Does x (plain (without x) (under x q) (one_with stack) Clrw) (plain (with x) q (other_with stack) Clrw)
    clear_does stack h =
        subst (λ (s : Registers). Does x (quiet (goes (one_with stack) (behind (without x) (under x q)) (after_row ins.Clrw r))) (quiet (goes (other_with stack) (behind (with x) q) s))) (sym (row_over b ins.Clrw r))
        (straight_does stack h (after_row ins.Clrw r))
