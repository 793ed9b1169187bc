-- A watched byte is known by its cell: no two bytes have the same one.
use Rattle.std.proofs.Common.{◌≡◌, ℕ, suc, ◌+◌, ◌-◌, ◌<◌, ◌≤◌, ◌⊎◌, inl, inr, Bool, true, false, List, [], ◌∷◌, Option, Some, None, refl, sym, ap, ◌∙◌, subst, ⊎_elim, arith}
use Rattle.std.specs.Prelude.{if◌then◌else◌, nat_lt, nat_le, not, ◌&&◌, slice_get}
use Rattle.std.proofs.lemmas.Bool.{cases_lt, lt-ltb, le-ltb, leb-true}
use Rattle.pic_chip.specs.Address as chip
use Rattle.pic_chip.specs.Run.{Range, covers, object_at}
use Rattle.pic_world.specs.declared.Cell.{Cell}
use Rattle.pic_world.specs.declared.Cell.TheVariants as cells
use Rattle.chip_trace.proofs.Addresses.{shown_cell}
use Rattle.sym_code.specs.Layout.{DataLayout, Owner, Watched, Constant, Of, Nobody, owner}

-- ---- addresses of general bytes
-- They rise with the number.
abbrev IsNear : ℕ → Type 0
IsNear k = ((k < 96) × (chip.address_of k ≡ k + 32)) ⊎ (((96 ≤ k) × (k < 176) × (chip.address_of k ≡ k + 64)) ⊎ (((176 ≤ k) × (k < 272) × (chip.address_of k ≡ k + 96)) ⊎ ((272 ≤ k) × (chip.address_of k ≡ k + 128))))

address_near : (k : ℕ) → IsNear k
address_near k =
    ⊎_elim
    (λ lt. inl (lt, ap (λ b. if b then k + 0x20 else if nat_lt k 176 then k + 0x40 else if nat_lt k 272 then k + 0x60 else k + 0x80) (lt-ltb k 96 lt)))
    (λ ge.
    let first = ap (λ b. if b then k + 0x20 else if nat_lt k 176 then k + 0x40 else if nat_lt k 272 then k + 0x60 else k + 0x80) (le-ltb k 96 ge) in
    ⊎_elim
    (λ lt. inr (inl (ge, lt, first ∙ ap (λ b. if b then k + 0x40 else if nat_lt k 272 then k + 0x60 else k + 0x80) (lt-ltb k 176 lt))))
    (λ ge2.
    let second = first ∙ ap (λ b. if b then k + 0x40 else if nat_lt k 272 then k + 0x60 else k + 0x80) (le-ltb k 176 ge2) in
    ⊎_elim
    (λ lt. inr (inr (inl (ge2, lt, second ∙ ap (λ b. if b then k + 0x60 else k + 0x80) (lt-ltb k 272 lt)))))
    (λ ge3. inr (inr (inr (ge3, second ∙ ap (λ b. if b then k + 0x60 else k + 0x80) (le-ltb k 272 ge3)))))
    (cases_lt k 272))
    (cases_lt k 176))
    (cases_lt k 96)

-- so no two bytes have the same address
rises_by : (k j : ℕ) → k < j → IsNear k → IsNear j → chip.address_of k < chip.address_of j
rises_by k j lt (inl p) (inl q) = let x0 = p.0 in let x1 = p.1 in let y0 = q.0 in let y1 = q.1 in omega arith
rises_by k j lt (inl p) (inr (inl q)) = let x0 = p.0 in let x1 = p.1 in let y0 = q.0 in let y1 = q.1 in let y2 = q.2 in omega arith
rises_by k j lt (inl p) (inr (inr (inl q))) = let x0 = p.0 in let x1 = p.1 in let y0 = q.0 in let y1 = q.1 in let y2 = q.2 in omega arith
rises_by k j lt (inl p) (inr (inr (inr q))) = let x0 = p.0 in let x1 = p.1 in let y0 = q.0 in let y1 = q.1 in omega arith
rises_by k j lt (inr (inl p)) (inl q) = let x0 = p.0 in let x1 = p.1 in let x2 = p.2 in let y0 = q.0 in let y1 = q.1 in omega arith
rises_by k j lt (inr (inl p)) (inr (inl q)) = let x0 = p.0 in let x1 = p.1 in let x2 = p.2 in let y0 = q.0 in let y1 = q.1 in let y2 = q.2 in omega arith
rises_by k j lt (inr (inl p)) (inr (inr (inl q))) = let x0 = p.0 in let x1 = p.1 in let x2 = p.2 in let y0 = q.0 in let y1 = q.1 in let y2 = q.2 in omega arith
rises_by k j lt (inr (inl p)) (inr (inr (inr q))) = let x0 = p.0 in let x1 = p.1 in let x2 = p.2 in let y0 = q.0 in let y1 = q.1 in omega arith
rises_by k j lt (inr (inr (inl p))) (inl q) = let x0 = p.0 in let x1 = p.1 in let x2 = p.2 in let y0 = q.0 in let y1 = q.1 in omega arith
rises_by k j lt (inr (inr (inl p))) (inr (inl q)) = let x0 = p.0 in let x1 = p.1 in let x2 = p.2 in let y0 = q.0 in let y1 = q.1 in let y2 = q.2 in omega arith
rises_by k j lt (inr (inr (inl p))) (inr (inr (inl q))) = let x0 = p.0 in let x1 = p.1 in let x2 = p.2 in let y0 = q.0 in let y1 = q.1 in let y2 = q.2 in omega arith
rises_by k j lt (inr (inr (inl p))) (inr (inr (inr q))) = let x0 = p.0 in let x1 = p.1 in let x2 = p.2 in let y0 = q.0 in let y1 = q.1 in omega arith
rises_by k j lt (inr (inr (inr p))) (inl q) = let x0 = p.0 in let x1 = p.1 in let y0 = q.0 in let y1 = q.1 in omega arith
rises_by k j lt (inr (inr (inr p))) (inr (inl q)) = let x0 = p.0 in let x1 = p.1 in let y0 = q.0 in let y1 = q.1 in let y2 = q.2 in omega arith
rises_by k j lt (inr (inr (inr p))) (inr (inr (inl q))) = let x0 = p.0 in let x1 = p.1 in let y0 = q.0 in let y1 = q.1 in let y2 = q.2 in omega arith
rises_by k j lt (inr (inr (inr p))) (inr (inr (inr q))) = let x0 = p.0 in let x1 = p.1 in let y0 = q.0 in let y1 = q.1 in omega arith

rises : (k j : ℕ) → k < j → chip.address_of k < chip.address_of j
rises k j lt = rises_by k j lt (address_near k) (address_near j)

pub address_back : (k j : ℕ) → chip.address_of k ≡ chip.address_of j → k ≡ j
address_back k j same =
    ⊎_elim (λ lt. let r = rises k j lt in absurd (omega arith))
    (λ ge. ⊎_elim (λ lt. let r = rises j k lt in absurd (omega arith)) (λ ge2. omega arith) (cases_lt j k))
    (cases_lt k j)

-- ---- what is the same
some_back : {A : Type 0} (x y : A) → Some x ≡ Some y → x ≡ y
some_back x y e = ap (λ o. from x o) e where
  from : {A : Type 0} → A → Option A → A
  from d None = d
  from d (Some z) = z

pub watched_back : (c d : Cell) → Watched c ≡ Watched d → c ≡ d
watched_back c d e = ap (λ o. from c o) e where
  from : Cell → Owner → Cell
  from x (Watched y) = y
  from x Constant = x
  from x (Of root) = x
  from x Nobody = x

left_of : (a b : Bool) → (a && b) ≡ true → a ≡ true
left_of true b e = refl
left_of false b e = e

right_of : (a b : Bool) → (a && b) ≡ true → b ≡ true
right_of true b e = e
right_of false b e = absurd (cc)

-- ---- cells
-- where the address stands that shows this cell
Shows : List Range → ℕ → ℕ → Cell → Type 0
Shows rs n address (cells.Static i offset) = (n ≤ i) × ((r : Range) × (slice_get rs (i - n) ≡ Some r) × (r.address ≤ address) × (offset ≡ address - r.address))
Shows rs n address (cells.Device a) = ⊥

shows_on : (r : Range) (rs : List Range) (n address : ℕ) (c : Cell) → Shows rs (n + 1) address c → Shows (r ∷ rs) n address c
unfolding Shows
shows_on r rs n address (cells.Static i offset) s =
    let q = s.0 in let z : i - n ≡ suc (i - (n + 1)) = omega arith in
    (omega arith, (s.1.0, ap (slice_get (r ∷ rs)) z ∙ s.1.1, s.1.2, s.1.3))
shows_on r rs n address (cells.Device a) s = s

shows_here : (r : Range) (rs : List Range) (n address : ℕ) (cell : Cell) → (not r.constant && covers r address) ≡ true → Some (cells.Static n (address - r.address)) ≡ Some cell → Shows (r ∷ rs) n address cell
unfolding Shows
shows_here r rs n address cell e is =
    subst (Shows (r ∷ rs) n address) (some_back _ _ is)
    (let z : n - n ≡ 0 = omega arith in (omega arith, (r, ap (slice_get (r ∷ rs)) z, leb-true _ _ (left_of (nat_le r.address address) _ (right_of (not r.constant) _ e)), refl)))

shows : (rs : List Range) (n address : ℕ) (cell : Cell) → object_at rs n address ≡ Some cell → Shows rs n address cell
shows [] n address cell is = absurd (cc)
shows (r ∷ rs) n address cell is = by (λ f. shows rs (n + 1) address cell f) (not r.constant && covers r address) refl is where
  by : (object_at rs (n + 1) address ≡ Some cell → Shows rs (n + 1) address cell) → (b : Bool) → (not r.constant && covers r address) ≡ b
      → (if b then Some (cells.Static n (address - r.address)) else object_at rs (n + 1) address) ≡ Some cell → Shows (r ∷ rs) n address cell
  by below true e here = shows_here r rs n address cell e here
  by below false e there = shows_on r rs n address cell (below there)

shown_back : (rs : List Range) (a b : ℕ) (cell : Cell) → Shows rs 0 a cell → Shows rs 0 b cell → a ≡ b
unfolding Shows
shown_back rs a b (cells.Device x) s u = absurd s
shown_back rs a b (cells.Static i offset) s u =
    let same : s.1.0 ≡ u.1.0 = some_back _ _ (sym s.1.1 ∙ u.1.1) in
    let at : s.1.0.address ≡ u.1.0.address = ap (λ (r : Range). r.address) same in
    let x = s.1.2 in let y = s.1.3 in let z = u.1.2 in let w = u.1.3 in
    omega arith

object_back : (rs : List Range) (a b : ℕ) (cell : Cell) → object_at rs 0 a ≡ Some cell → object_at rs 0 b ≡ Some cell → a ≡ b
object_back rs a b cell e f = shown_back rs a b cell (shows rs 0 a cell e) (shows rs 0 b cell f)

-- ---- owners
-- two watched bytes of one cell are one
pub owner_back : (l : DataLayout) (k j : ℕ) (cell : Cell) → owner l k ≡ Watched cell → owner l j ≡ Watched cell → k ≡ j
owner_back l k j cell e f = address_back k j (object_back l.objects (chip.address_of k) (chip.address_of j) cell (shown_cell l k cell e) (shown_cell l j cell f))
