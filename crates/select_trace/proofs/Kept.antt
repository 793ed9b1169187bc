-- On any path W, the flags and all bytes stay within their ranges, and no other register changes.
use Rattle.std.proofs.Common.{◌≡◌, ℕ, zero, suc, ◌+◌, List, [], ◌∷◌, Option, Some, None, refl, sym, subst, drop, option_map, slice_get}
use Rattle.core_code.specs.declared.code.Byte.{Byte}
use Rattle.sym_code.specs.Registers.{Fits}
use Rattle.sym_code.specs.declared.code.Sym as code
use Rattle.select_trace.specs.Links.{AreBytes}
use Rattle.select_trace.specs.Run.{Sym, Mode, Going, Skipping, Seeking, Returned, Machine, execute}
use Rattle.select_trace.specs.Positions.{Place, Goes, past_word, label_from, place, goes_if, leads, acts, step_at, Path}
use Rattle.select_trace.specs.Silent.{plain, plain_code}
use Rattle.select_trace.proofs.Ranges.{IsWithin, Keeps, keeps, keeps_then, still, within_of}
use Rattle.select_trace.proofs.Walked.{Kind, Named, Jumps, Turns, Straight, kind, AreSilent}

abbrev pub AreWithin : List Sym → Type 0
AreWithin [] = Unit {0}
AreWithin (x ∷ xs) = IsWithin x × AreWithin xs

pub within_all : (P : Byte → Type 0) (at : Byte → ℕ) (xs : List code.Sym) → AreSilent P xs → AreWithin (plain_code at xs)
within_all P at [] all = tt
within_all P at (x ∷ xs) all = (by (kind P x all.0), within_all P at xs all.1)
  where
    by : Kind P x → IsWithin (plain at x)
    by (Straight h) = within_of P at x h
    by (Named l e) = subst (λ (y : code.Sym). IsWithin (plain at y)) (sym e) tt
    by (Jumps l e) = subst (λ (y : code.Sym). IsWithin (plain at y)) (sym e) tt
    by (Turns e) = subst (λ (y : code.Sym). IsWithin (plain at y)) (sym e) tt

within_at : (xs : List Sym) (i : ℕ) (x : Sym) → AreWithin xs → slice_get xs i ≡ Some x → IsWithin x
within_at [] i x all e = absurd (cc)
within_at (y ∷ ys) zero x all e = subst (λ (z : Sym). IsWithin z) (inside e) all.0
  where
    inside : {a b : Sym} → Some a ≡ Some b → a ≡ b
    inside e = cc
within_at (y ∷ ys) (suc i) x all e = within_at ys i x all.1 e

-- where a step leads, the registers and memory are those that the instruction leaves
leads_to : (list : List Sym) (i : ℕ) (k : Mode) (t : Machine) (s : Place) → leads list i k t ≡ Goes s → (n : ℕ) × (place n t ≡ s)
leads_to list i Going t s e = (i + 1, inside e)
  where
    inside : {y z : Place} → Goes y ≡ Goes z → y ≡ z
    inside e = cc
leads_to list i Skipping t s e = by (option_map (λ n. i + 1 + n) (past_word (drop (i + 1) list))) e
  where
    inside : {y z : Place} → Goes y ≡ Goes z → y ≡ z
    inside e = cc

    by : (o : Option ℕ) → goes_if o t ≡ Goes s → (n : ℕ) × (place n t ≡ s)
    by None e = absurd (cc)
    by (Some n) e = (n, inside e)
leads_to list i (Seeking l) t s e = by (label_from list l 0) e
  where
    inside : {y z : Place} → Goes y ≡ Goes z → y ≡ z
    inside e = cc

    by : (o : Option ℕ) → goes_if o t ≡ Goes s → (n : ℕ) × (place n t ≡ s)
    by None e = absurd (cc)
    by (Some n) e = (n, inside e)
leads_to list i Returned t s e = absurd (cc)

step_kept : (list : List Sym) (p s : Place) → AreWithin list → step_at list p ≡ Goes s → Fits p.registers → AreBytes p.memory → Keeps p.registers s.registers s.memory
step_kept list p s all e f ok = by (slice_get list p.at) refl e
  where
    by : (o : Option Sym) → slice_get list p.at ≡ o → acts list p o ≡ Goes s → Keeps p.registers s.registers s.memory
    by None g h = absurd (cc)
    by (Some x) g h =
        let t = leads_to list p.at (execute x p.registers p.memory).mode (execute x p.registers p.memory) s h in
        subst (λ (y : Place). Keeps p.registers y.registers y.memory) t.1 (keeps x p.registers p.memory (within_at list p.at x all g) f ok)

pub path_kept : (price : ℕ → ℕ) (list : List Sym) → AreWithin list → (n cost : ℕ) (p q : Place) → Path price list n cost p q → Fits p.registers → AreBytes p.memory → Keeps p.registers q.registers q.memory
path_kept price list all zero cost p q h f ok = subst (λ (y : Place). Keeps p.registers y.registers y.memory) h.1 (still p.registers p.memory f ok)
path_kept price list all (suc n) cost p q h f ok =
    let one : Keeps p.registers h.0.registers h.0.memory = step_kept list p h.0 all h.2 f ok in
    keeps_then p.registers h.0.registers q.registers h.0.memory q.memory one (path_kept price list all n h.1 h.0 q h.4 one.fits one.bytes)
