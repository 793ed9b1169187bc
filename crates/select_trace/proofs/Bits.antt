-- Bits of device registers are read and written.
use Rattle.std.proofs.Common.{◌≡◌, ◌≢◌, ◌⊎◌, inl, inr, ℕ, suc, ◌+◌, ◌*◌, ◌/◌, ◌%◌, ◌^◌, ◌<◌, Bool, true, false, not, ◌&&◌, nat_eq, nat_lt, if◌then◌else◌, List, [], ◌∷◌, Option, Some, None, slice_get, refl, sym, ap, ◌∙◌, subst, arith}
use Rattle.std.proofs.lemmas.Bool.{agree_below, agree_below_at}
use Rattle.pic_world.specs.Bits.{bit, set_bit, clear_bit}
use Rattle.pic_world.specs.Registers.{is_register, lowest}
use Rattle.pic_world.specs.World.{World, device_value, after_device_read, after_device_write, sets_gie}
use Rattle.core_code.specs.Bytes as bytes
use Rattle.core_code.specs.Bytes.{Held, Unset, Number, Part}
use Rattle.core_code.specs.Machine as core
use Rattle.core_code.specs.Machine.{Task, PutBit, PutBack, Join, Waiting, after_read, is_own, is_valid, put, when, with_bit, bit_read, bit_write, memory_with, after_write}
use Rattle.core_code.specs.declared.code.Byte.{Byte}
use Rattle.core_code.specs.declared.code.Byte.TheVariants.{Device}
use Rattle.sym_code.specs.Cost.{sure_prices, most_prices}
use Rattle.sym_code.specs.Effect.{Thread, Memory, Port, Quiet, Reads, Silent, effect, effect_of, access_of, test, change}
use Rattle.sym_code.specs.Machine.{Machine}
use Rattle.sym_code.specs.Programs.{Position, position, onward, lands, label_from}
use Rattle.sym_code.specs.Registers.{Registers, Fits}
use Rattle.sym_code.specs.declared.code.BitOperation.TheVariants.{Bcf, Bsf, Btfsc, Btfss}
use Rattle.sym_code.specs.declared.code.BlockName.TheVariants as names
use Rattle.sym_code.specs.declared.code.Literal.TheVariants as literals
use Rattle.sym_code.specs.declared.code.LiteralOperation.TheVariants.{Movlw}
use Rattle.sym_code.specs.declared.code.Operand.TheVariants as operands
use Rattle.sym_code.specs.declared.code.Sym.TheVariants as syms
use Rattle.sym_code.specs.declared.code.Target.TheVariants as targets
use Rattle.select_code.specs.Pieces.{first_label, second_label, bit_read_code, bit_write_code}
use Rattle.select_trace.proofs.Truths.{and_left, and_right, not_false, lt_of, same_nat, nat_same, nat_other, other_nat, if_true, if_false}
use Rattle.select_trace.proofs.Standing.{Has, stand_label}
use Rattle.select_trace.proofs.Labels.{found_at, differs}
use Rattle.select_trace.proofs.Placed.{slot}
use Rattle.select_trace.proofs.Sites.{Site, layout}
use Rattle.select_trace.proofs.Machines.{at, Calm, read_port, read_inside, write_port, write_inside, cost_at}
use Rattle.select_trace.proofs.Live.{IsUser, below, chain_user}
use Rattle.select_trace.proofs.Memory.{Shown, agrees_shown}
use Rattle.select_trace.proofs.Blocks.{block, bounds, next_lands}
use Rattle.select_trace.proofs.Relation.{place, store_to, Left, Here, least_at, most_at, stop, further, Went, weaken, After}
use Rattle.select_trace.proofs.Steps.{thread, machine, Fit, stands_at, stays, opens_at, dear, counted, of_byte, word, word_to, effect_word, jump, past, skip, onward_is, skip_lands}
use Rattle.select_trace.proofs.Access.{own_valid, own_access, port_access, movlw_is}
use Rattle.select_trace.proofs.Control.{left_to, here_left, when_after}
use Rattle.select_trace.proofs.Stores.{device_small, read_bytes, write_bytes, fit_with}
use Rattle.select_trace.proofs.Bytes.{soon_left, put_goes, put_moves, after_map}
use Rattle.select_trace.proofs.Prices.{dear_three}

-- ---- bits of a byte
set_below : agree_below (λ n. nat_lt (set_bit (n / 256) (n % 256)) 256) (λ n. true) 2048 ≡ true
set_below = refl

clear_below : agree_below (λ n. nat_lt (clear_bit (n / 256) (n % 256)) 256) (λ n. true) 2048 ≡ true
clear_below = refl

each_below : (g : ℕ → ℕ → ℕ) → agree_below (λ n. nat_lt (g (n / 256) (n % 256)) 256) (λ n. true) 2048 ≡ true → (b x : ℕ) → b < 8 → x < 256 → g b x < 256
each_below g all b x hb hx =
    let quotient : (b * 256 + x) / 256 ≡ b = omega arith in
    let rest : (b * 256 + x) % 256 ≡ x = omega arith in
    let e : nat_lt (g ((b * 256 + x) / 256) ((b * 256 + x) % 256)) 256 ≡ true = agree_below_at (λ n. nat_lt (g (n / 256) (n % 256)) 256) (λ n. true) 2048 (b * 256 + x) all (omega arith) in
    lt_of (g b x) 256 (ap (λ k. nat_lt (g k x) 256) (sym quotient) ∙ ap (λ k. nat_lt (g ((b * 256 + x) / 256) k) 256) (sym rest) ∙ e)

with_bit_small : (b v x : ℕ) → b < 8 → x < 256 → with_bit b v x < 256
with_bit_small b v x hb hx = by (nat_eq v 1)
  where
    by : (t : Bool) → (if t then set_bit b x else clear_bit b x) < 256
    by true = each_below set_bit set_below b x hb hx
    by false = each_below clear_bit clear_below b x hb hx

module _ (s : Site) (t : Machine) (wc : World Held) (calm : Calm s wc) (f : ℕ) (pr : Option ℕ) (st : List Waiting) (loops : List ℕ) (ps : List Position) (cm : bytes.Memory) (m : Memory) (fit : Fit s t wc f pr st loops ps cm m) where
  the_user : IsUser s f
  the_user = chain_user s f st fit.chain

  w_fits : (r : Registers) (v : ℕ) → v < 256 → Fits r → Fits (record r { w = v })
  w_fits r v lt h = record { w = lt; flags = h.flags; pointer = h.pointer; banks = h.banks; pages = h.pages }

  -- the register is read
  fit_read : (a : ℕ) → Fit s t (after_device_read Number s.o a wc) f pr st loops ps cm m
  fit_read a = fit_with s t wc calm f pr st loops ps cm m fit (after_device_read Number s.o a wc) pr cm m (read_inside s t wc calm (running_any t) m a) (read_bytes s a wc fit.control) fit.agree fit.bytes fit.passing
    where
      running_any : Machine → Thread
      running_any t = t.main

  tests_is : (a b n : ℕ) (r : Registers) → (is_register a && nat_eq (lowest a) a) ≡ true
      → effect_of s.g wc.inside (position (names.Copy f) n) (thread s f n ps r) m (syms.Bit Btfsc (operands.Byte (Device a)) b) ≡ Reads (Port a) (λ x. record { rest = None; at = Some (onward s.g.program (position (names.Copy f) n) (nat_eq (bit x b) 0)); stack = ps; registers = r })
  unfolding effect_of
  tests_is a b n r va = ap (test s.g.program (position (names.Copy f) n) (thread s f n ps r) m (λ x. nat_eq (bit x b) 0)) (port_access s wc.inside false r a va)

  bit_of : (x b : ℕ) → (bit x b ≡ 0) ⊎ (bit x b ≡ 1)
  bit_of x b = by (nat_eq (bit x b) 0) refl
    where
      by : (t : Bool) → nat_eq (bit x b) 0 ≡ t → (bit x b ≡ 0) ⊎ (bit x b ≡ 1)
      by true e = inl (same_nat (bit x b) 0 e)
      by false e = let n = other_nat (bit x b) 0 e in let y = x / 2 ^ b in inr (one y n)
        where
          one : (y : ℕ) → y % 2 ≢ 0 → y % 2 ≡ 1
          one y n = omega arith

  pub bit_read_goes : (to : Byte) (a number n : ℕ) (r : Registers) (c : List Task) → Fits r → Has (block s f) n (bit_read_code to a number) → Left s f loops (n + 4) c
      → After s 1 6 (bit_read (record { program = s.q; outside = s.o }) to a number c f pr st cm wc) (at s t (thread s f n ps r) m wc)
  unfolding is_valid after_read
  bit_read_goes to a number n r c fits h l =
      let v = device_value s.o a wc in
      let wd = after_device_read Number s.o a wc in
      let d = machine f pr (PutBit to (bit v number) ∷ c) st cm wd in
      when_after s 1 6 (is_register a && nat_eq (lowest a) a && nat_lt number 8) (core.Goes d) (at s t (thread s f n ps r) m wc) (λ ca.
      let va = and_left _ _ ca in
      let nb : number % 8 ≡ number = (let z = lt_of number 8 (and_right (is_register a && nat_eq (lowest a) a) _ ca) in omega arith) in
      let x = syms.Bit Btfsc (operands.Byte (Device a)) (number % 8) in
      let y = syms.Literal Movlw (literals.Number 1) in
      let r' : Registers = record r { w = 0 } in
      let code = syms.Literal Movlw (literals.Number 0) ∷ x ∷ y ∷ [] in
      let dr = dear s f the_user n 6 code (h.0, (h.1.0, (h.1.1.0, tt))) refl (omega (arith, dear_three (x ∷ []))) in
      let next : ℕ → Thread = (λ z. record { rest = None; at = Some (onward s.g.program (position (names.Copy f) (suc n)) (nat_eq (bit z (number % 8)) 0)); stack = ps; registers = r' }) in
      let ef = tests_is a (number % 8) (suc n) r' va in
      let ob = onward_is s t wc calm f ps (suc n) y (nat_eq (bit v (number % 8)) 0) h.1.1.0 refl in
      let la : lands s.g.program (onward s.g.program (position (names.Copy f) (suc n)) (nat_eq (bit v (number % 8)) 0)) ≡ true =
      ap (lands s.g.program) ob ∙ skip_lands s t wc calm f ps the_user (suc n) x y (nat_eq (bit v (number % 8)) 0) h.1.0 refl h.1.1.0 refl in
      weaken s (at s t (thread s f n ps r) m wc) d 1 (s.price (names.Copy f) n + (s.price (names.Copy f) (suc n) + 0)) 1 6 (omega arith) (omega (arith, dr))
      (word s t wc calm f ps the_user n r m (syms.Literal Movlw (literals.Number 0)) r' None d 1 (s.price (names.Copy f) (suc n) + 0) h.0 refl refl refl (movlw_is s wc.inside f n ps r m 0)
      (word_to s t wc calm f ps the_user (at s t (next v) m wd) (suc n) r' m x (Reads (Port a) next) d 0 0 h.1.0 refl refl ef (λ c p. refl)
      (read_port s t wc calm (thread s f (suc n) ps r') m a next (effect_word s wc.inside f (suc n) ps r' m x h.1.0 refl ∙ ef) la)
      (stays s (at s t (next v) m wd) d (stands_at s t wd f pr (PutBit to (bit v number) ∷ c) st loops cm m (next v) (fit_read a) (w_fits r 0 (omega arith) fits)
      (by_bit v r' h.1.1 nb ob (bit_of v number)))))))
    where
      by_bit : (v : ℕ) (r' : Registers) → Has (block s f) (suc (suc n)) (syms.Literal Movlw (literals.Number 1) ∷ store_to to ∷ []) → number % 8 ≡ number
          → onward s.g.program (position (names.Copy f) (suc n)) (nat_eq (bit v (number % 8)) 0) ≡ place s f (if nat_eq (bit v (number % 8)) 0 then suc (suc (suc n)) else suc (suc n)) → (bit v number ≡ 0) ⊎ (bit v number ≡ 1)
          → Here s f loops (record { rest = None; at = Some (onward s.g.program (position (names.Copy f) (suc n)) (nat_eq (bit v (number % 8)) 0)); stack = ps; registers = record r { w = 0 } }) (PutBit to (bit v number) ∷ c)
      by_bit v r' hh nb ob (inl z) =
          let e : nat_eq (bit v (number % 8)) 0 ≡ true = nat_same (bit v (number % 8)) 0 (ap (bit v) nb ∙ z) in
          (suc (suc (suc n)), refl, ap Some (ob ∙ ap (λ y. place s f (if y then suc (suc (suc n)) else suc (suc n))) e), inl (sym z, (hh.1.0, tt), left_to s f loops (n + 4) (suc (suc (suc n)) + 1) c (omega arith) l))
      by_bit v r' hh nb ob (inr z) =
          let e : nat_eq (bit v (number % 8)) 0 ≡ false = nat_other (bit v (number % 8)) 0 (λ w. let q : bit v number ≡ 0 = ap (bit v) (sym nb) ∙ w in one_zero (sym z ∙ q)) in
          (suc (suc n), refl, ap Some (ob ∙ ap (λ y. place s f (if y then suc (suc (suc n)) else suc (suc n))) e), inr (z, hh, left_to s f loops (n + 4) (suc (suc n) + 2) c (omega arith) l))
        where
          one_zero : ◌≡◌ {A = ℕ} 1 0 → ⊥
          one_zero e = omega (arith, e)

  -- a bit that was read is written as a byte
  pub put_bit_goes : (to : Byte) (value n : ℕ) (r : Registers) (c : List Task) → Fits r
      → ((r.w ≡ value) × Has (block s f) n (store_to to ∷ []) × Left s f loops (n + 1) c) ⊎ ((value ≡ 1) × Has (block s f) n (syms.Literal Movlw (literals.Number 1) ∷ store_to to ∷ []) × Left s f loops (n + 2) c)
      → After s 0 4 (put s.q to (Number value) c f pr st cm wc) (at s t (thread s f n ps r) m wc)
  put_bit_goes to value n r c fits (inl h) =
      let v = at s t (thread s f n ps r) m wc in
      after_map s (of_byte s to) 3 0 4 (put s.q to (Number value) c f pr st cm wc) v v (put_moves s.q to (Number value) c f pr st cm wc) (λ d w. weaken s v d (of_byte s to) 3 0 4 (omega arith) (omega arith) w)
      (put_goes s t wc calm f pr st loops ps cm m fit to (Number value) n r c fits h.0 h.1 (soon_left s f loops r (n + 1) c h.2))
  put_bit_goes to value n r c fits (inr h) =
      let r' : Registers = record r { w = 1 } in
      let v = at s t (thread s f n ps r) m wc in
      let v' = at s t (thread s f (suc n) ps r') m wc in
      let dr = dear s f the_user n 1 (syms.Literal Movlw (literals.Number 1) ∷ []) (h.1.0, tt) refl (omega arith) in
      after_map s (of_byte s to) 3 0 4 (put s.q to (Number value) c f pr st cm wc) v' v (put_moves s.q to (Number value) c f pr st cm wc) (λ d w.
      weaken s v d (of_byte s to) (s.price (names.Copy f) n + 3) 0 4 (omega arith) (omega (arith, dr))
      (word s t wc calm f ps the_user n r m (syms.Literal Movlw (literals.Number 1)) r' None d (of_byte s to) 3 h.1.0 refl refl refl (movlw_is s wc.inside f n ps r m 1) w))
      (put_goes s t wc calm f pr st loops ps cm m fit to (Number value) (suc n) r' c (w_fits r 1 (omega arith) fits) (sym h.0) h.1.1 (soon_left s f loops r' (suc n + 1) c (left_to s f loops (n + 2) (suc n + 1) c (omega arith) h.2)))

  -- ---- a bit is written
  change_is : (op : _) (g : ℕ → ℕ) (a b n : ℕ) (r : Registers) → (is_register a && nat_eq (lowest a) a) ≡ true
      → ((op ≡ Bsf) × (g ≡ set_bit b)) ⊎ ((op ≡ Bcf) × (g ≡ clear_bit b))
      → effect_of s.g wc.inside (position (names.Copy f) n) (thread s f n ps r) m (syms.Bit op (operands.Byte (Device a)) b) ≡ Reads (Port a) (λ x. record (thread s f (n + 1) ps r) { rest = Some (record { to = Port a; byte = g x }) })
  unfolding effect_of
  change_is op g a b n r va (inl e) =
      ap (λ o. effect_of s.g wc.inside (position (names.Copy f) n) (thread s f n ps r) m (syms.Bit o (operands.Byte (Device a)) b)) e.0
      ∙ ap (change s.g.program (position (names.Copy f) n) (thread s f n ps r) m (set_bit b)) (port_access s wc.inside true r a va)
      ∙ ap (λ k. Reads (Port a) (λ x. record (thread s f (n + 1) ps r) { rest = Some (record { to = Port a; byte = k x }) })) (sym e.1)
  change_is op g a b n r va (inr e) =
      ap (λ o. effect_of s.g wc.inside (position (names.Copy f) n) (thread s f n ps r) m (syms.Bit o (operands.Byte (Device a)) b)) e.0
      ∙ ap (change s.g.program (position (names.Copy f) n) (thread s f n ps r) m (clear_bit b)) (port_access s wc.inside true r a va)
      ∙ ap (λ k. Reads (Port a) (λ x. record (thread s f (n + 1) ps r) { rest = Some (record { to = Port a; byte = k x }) })) (sym e.1)

  -- which counts one
  change_counts : (op : _) (g : ℕ → ℕ) (a b : ℕ) → ((op ≡ Bsf) × (g ≡ set_bit b)) ⊎ ((op ≡ Bcf) × (g ≡ clear_bit b)) → counted s (syms.Bit op (operands.Byte (Device a)) b) ≡ 1
  change_counts op g a b (inl e) = ap (λ o. counted s (syms.Bit o (operands.Byte (Device a)) b)) e.0
  change_counts op g a b (inr e) = ap (λ o. counted s (syms.Bit o (operands.Byte (Device a)) b)) e.0

  -- the instruction reads the register; its write is left
  change_goes : (op : _) (g : ℕ → ℕ) (a b n : ℕ) (r : Registers) (c : List Task) → Fits r → (is_register a && nat_eq (lowest a) a) ≡ true → ((op ≡ Bsf) × (g ≡ set_bit b)) ⊎ ((op ≡ Bcf) × (g ≡ clear_bit b))
      → slice_get (block s f) n ≡ Some (syms.Bit op (operands.Byte (Device a)) b) → g (device_value s.o a wc) < 256 → Left s f loops (suc n) (Join ∷ c)
      → Went s (at s t (thread s f n ps r) m wc) (machine f pr (PutBack a (g (device_value s.o a wc)) ∷ Join ∷ c) st cm (after_device_read Number s.o a wc)) 1 (s.price (names.Copy f) n + 0)
  change_goes op g a b n r c fits va oe h small l =
      let v = device_value s.o a wc in
      let wd = after_device_read Number s.o a wc in
      let d = machine f pr (PutBack a (g v) ∷ Join ∷ c) st cm wd in
      let x = syms.Bit op (operands.Byte (Device a)) b in
      let next : ℕ → Thread = (λ z. record (thread s f (suc n) ps r) { rest = Some (record { to = Port a; byte = g z }) }) in
      let la = next_lands s f the_user n x h refl in
      let ef : effect_of s.g wc.inside (position (names.Copy f) n) (thread s f n ps r) m x ≡ Reads (Port a) next =
      change_is op g a b n r va oe ∙ ap (λ k. Reads (Port a) (λ z. record (thread s f k ps r) { rest = Some (record { to = Port a; byte = g z }) })) (let q : n + 1 ≡ suc n = omega arith in q) in
      let one : counted s x ≡ 1 = change_counts op g a b oe in
      let hi = s.price (names.Copy f) n + 0 in
      weaken s (at s t (thread s f n ps r) m wc) d (counted s x + 0) hi 1 hi (omega (arith, one)) (omega arith)
      (word_to s t wc calm f ps the_user (at s t (next v) m wd) n r m x (Reads (Port a) next) d 0 0 h refl refl ef (λ c p. refl)
      (read_port s t wc calm (thread s f n ps r) m a next (effect_word s wc.inside f n ps r m x h refl ∙ ef) la)
      (stays s (at s t (next v) m wd) d (stands_at s t wd f pr (PutBack a (g v) ∷ Join ∷ c) st loops cm m (next v) (fit_read a) fits (suc n, small, refl, refl, la, l))))

  low_is : (n : ℕ) (r : Registers) (from : Byte) (k : ℕ) → access_of s.g wc.inside false r (operands.Byte from) ≡ Silent k
      → effect_of s.g wc.inside (position (names.Copy f) n) (thread s f n ps r) m (syms.Bit Btfss (operands.Byte from) 0) ≡ Quiet (record { rest = None; at = Some (onward s.g.program (position (names.Copy f) n) (nat_eq (bit (m k) 0) 1)); stack = ps; registers = r }) None
  unfolding effect_of
  low_is n r from k e = ap (test s.g.program (position (names.Copy f) n) (thread s f n ps r) m (λ x. nat_eq (bit x 0) 1)) e

  pub bit_write_goes : (a number : ℕ) (from : Byte) (n : ℕ) (r : Registers) (c : List Task) → Fits r → Has (block s f) n (bit_write_code n a number from) → Left s f loops (n + 7) c
      → After s 1 13 (when (is_own s.q f from 1) (bit_write (record { program = s.q; outside = s.o }) a number (cm from) c f pr st cm wc)) (at s t (thread s f n ps r) m wc)
  unfolding is_valid after_read
  bit_write_goes a number from n r c fits h l =
      let v0 = at s t (thread s f n ps r) m wc in
      when_after s 1 13 (is_own s.q f from 1) (bit_write (record { program = s.q; outside = s.o }) a number (cm from) c f pr st cm wc) v0 (λ o.
      by_held (cm from) o (agrees_shown s from (cm from) (m (slot (layout s) from)) (fit.agree from (own_valid s f pr (below st) from o))))
    where
      v : ℕ
      v = device_value s.o a wc

      labels : (label_from (block s f) (second_label n) 0 ≡ Some (suc (suc (suc (suc n))))) × (label_from (block s f) (first_label n) 0 ≡ Some (suc (suc (suc (suc (suc (suc n)))))))
      labels =
          let b0 = syms.Bit Btfss (operands.Byte from) 0 in
          let g1 = syms.Goto (targets.Label (second_label n)) in
          let s2 = syms.Bit Bsf (operands.Byte (Device a)) (number % 8) in
          let g3 = syms.Goto (targets.Label (first_label n)) in
          let l4 = syms.Label (second_label n) in
          let c5 = syms.Bit Bcf (operands.Byte (Device a)) (number % 8) in
          let bs = bounds s f the_user in
          let e4 : suc (suc (suc (suc n))) ≡ n + 4 = omega arith in
          let e6 : suc (suc (suc (suc (suc (suc n))))) ≡ n + 6 = omega arith in (
            found_at (block s f) n (b0 ∷ g1 ∷ s2 ∷ g3 ∷ []) (2 * n + 1) bs (omega arith) (refl, (refl, (refl, (refl, tt)))) (h.0, (h.1.0, (h.1.1.0, (h.1.1.1.0, tt)))) (subst (λ k. slice_get (block s f) k ≡ Some l4) e4 h.1.1.1.1.0) ∙ ap Some (omega arith),
            found_at (block s f) n (b0 ∷ g1 ∷ s2 ∷ g3 ∷ l4 ∷ c5 ∷ []) (2 * n) bs (omega arith) (refl, (refl, (refl, (refl, (differs (2 * n + 1) (2 * n) (λ e. omega arith), (refl, tt))))))
                (h.0, (h.1.0, (h.1.1.0, (h.1.1.1.0, (h.1.1.1.1.0, (h.1.1.1.1.1.0, tt))))))
                (subst (λ k. slice_get (block s f) k ≡ Some (syms.Label (first_label n))) e6 h.1.1.1.1.1.1.0) ∙ ap Some (omega arith),
          )

      last : place s f (suc (suc (suc (suc (suc (suc n)))))) ≡ place s f (n + 7)
      last = stand_label s.g.program (names.Copy f) (suc (suc (suc (suc (suc (suc n)))))) (first_label n) h.1.1.1.1.1.1.0 ∙ ap (place s f) (omega arith)

      by_held : (held : Held) → is_own s.q f from 1 ≡ true → Shown s held (m (slot (layout s) from)) → After s 1 13 (bit_write (record { program = s.q; outside = s.o }) a number held c f pr st cm wc) (at s t (thread s f n ps r) m wc)
      by_held Unset o sh = tt
      by_held (Part x y z) o sh = tt
      by_held (Number x) o sh =
          let d = machine f pr (PutBack a (with_bit number (x % 2) v) ∷ Join ∷ c) st cm (after_device_read Number s.o a wc) in
          when_after s 1 13 (is_register a && nat_eq (lowest a) a && nat_lt number 8) (core.Goes d) (at s t (thread s f n ps r) m wc) (λ ca.
          let va = and_left _ _ ca in
          let n8 = lt_of number 8 (and_right (is_register a && nat_eq (lowest a) a) _ ca) in
          let nb : number % 8 ≡ number = omega arith in
          let k = slot (layout s) from in
          let low : bit (m k) 0 ≡ x % 2 = ap (λ z. bit z 0) sh ∙ half x in
          let dr = dear s f the_user n 6 (syms.Bit Btfss (operands.Byte from) 0 ∷ syms.Goto (targets.Label (second_label n)) ∷ []) (h.0, (h.1.0, tt)) refl (let z = dear_three (syms.Bit Btfss (operands.Byte from) 0 ∷ syms.Goto (targets.Label (second_label n)) ∷ []) in omega (arith, z)) in
          weaken s (at s t (thread s f n ps r) m wc) d 1 (s.price (names.Copy f) n + (s.price (names.Copy f) (suc n) + 3)) 1 13 (omega arith) (omega (arith, dr))
          (skip s t wc calm f ps the_user n r m (syms.Bit Btfss (operands.Byte from) 0) (syms.Goto (targets.Label (second_label n))) (nat_eq (bit (m k) 0) 1) r d 1 (s.price (names.Copy f) (suc n) + 3) h.0 refl refl refl h.1.0 refl refl
          (low_is n r from k (own_access s wc.inside false r f the_user fit.root from o))
          (chosen (nat_eq (bit (m k) 0) 1) x va n8 nb (ap (λ z. nat_eq z 1) low))))
        where
          half : (x : ℕ) → bit x 0 ≡ x % 2
          half x = omega arith

          chosen : (b : Bool) (x : ℕ) → (is_register a && nat_eq (lowest a) a) ≡ true → number < 8 → number % 8 ≡ number → b ≡ nat_eq (x % 2) 1
              → Went s (at s t (thread s f (if b then suc (suc n) else suc n) ps r) m wc) (machine f pr (PutBack a (with_bit number (x % 2) v) ∷ Join ∷ c) st cm (after_device_read Number s.o a wc)) 1 (s.price (names.Copy f) (suc n) + 3)
          chosen true x va n8 nb e =
              let p2 = suc (suc n) in
              let ev : set_bit (number % 8) v ≡ with_bit number (x % 2) v = ap (λ z. set_bit z v) nb ∙ sym (if_true (nat_eq (x % 2) 1) (set_bit number v) (clear_bit number v) (sym e)) in
              let w = machine f pr (PutBack a (set_bit (number % 8) v) ∷ Join ∷ c) st cm (after_device_read Number s.o a wc) in
              let code = syms.Bit Bsf (operands.Byte (Device a)) (number % 8) ∷ [] in
              let d3 = dear_three code in
              let dr = dear s f the_user p2 3 code (h.1.1.0, tt) refl (omega (arith, d3)) in
              let sm : set_bit (number % 8) v < 256 = each_below set_bit set_below (number % 8) v (omega arith) (device_small s a wc fit.control) in
              subst (λ z. Went s (at s t (thread s f p2 ps r) m wc) (machine f pr (PutBack a z ∷ Join ∷ c) st cm (after_device_read Number s.o a wc)) 1 (s.price (names.Copy f) (suc n) + 3)) ev
              (weaken s (at s t (thread s f p2 ps r) m wc) w 1 (s.price (names.Copy f) p2 + 0) 1 (s.price (names.Copy f) (suc n) + 3) (omega arith) (omega (arith, dr))
              (change_goes Bsf (set_bit (number % 8)) a (number % 8) p2 r c fits va (inl (refl, refl)) h.1.1.0 sm
              (n + 7, inr (2 * n, suc (suc (suc (suc (suc (suc n))))), h.1.1.1.0, labels.1, h.1.1.1.1.1.1.0, last), l)))
          chosen false x va n8 nb e =
              let p1 = suc n in
              let p4 = suc (suc (suc (suc n))) in
              let p5 = suc p4 in
              let ev : clear_bit (number % 8) v ≡ with_bit number (x % 2) v = ap (λ z. clear_bit z v) nb ∙ sym (if_false (nat_eq (x % 2) 1) (set_bit number v) (clear_bit number v) (sym e)) in
              let w = machine f pr (PutBack a (clear_bit (number % 8) v) ∷ Join ∷ c) st cm (after_device_read Number s.o a wc) in
              let code = syms.Bit Bcf (operands.Byte (Device a)) (number % 8) ∷ [] in
              let d3 = dear_three code in
              let dr = dear s f the_user p5 3 code (h.1.1.1.1.1.0, tt) refl (omega (arith, d3)) in
              let sm : clear_bit (number % 8) v < 256 = each_below clear_bit clear_below (number % 8) v (omega arith) (device_small s a wc fit.control) in
              subst (λ z. Went s (at s t (thread s f p1 ps r) m wc) (machine f pr (PutBack a z ∷ Join ∷ c) st cm (after_device_read Number s.o a wc)) 1 (s.price (names.Copy f) (suc n) + 3)) ev
              (weaken s (at s t (thread s f p1 ps r) m wc) w 1 (s.price (names.Copy f) p1 + (s.price (names.Copy f) p5 + 0)) 1 (s.price (names.Copy f) (suc n) + 3) (omega arith) (omega (arith, dr))
              (jump s t wc calm f ps the_user p1 r m (2 * n + 1) p4 w 1 (s.price (names.Copy f) p5 + 0) h.1.0 labels.0 h.1.1.1.1.0
              (past s t wc calm f ps p4 r m (2 * n + 1) w 1 (s.price (names.Copy f) p5 + 0) h.1.1.1.1.0
              (change_goes Bcf (clear_bit (number % 8)) a (number % 8) p5 r c fits va (inr (refl, refl)) h.1.1.1.1.1.0 sm (n + 7, inl last, l)))))

  -- what is left of an instruction that has read the register
  pub put_back_goes : (a value n : ℕ) (r : Registers) (c : List Task) → Fits r → value < 256 → lands s.g.program (place s f n) ≡ true → Left s f loops n c
      → After s 0 3 (put s.q (Device a) (Number value) c f pr st cm wc) (at s t (record (thread s f n ps r) { rest = Some (record { to = Port a; byte = value }) }) m wc)
  unfolding put is_valid memory_with after_write effect
  put_back_goes a value n r c fits small la l =
      let th = record (thread s f n ps r) { rest = Some (record { to = Port a; byte = value }) } in
      let th' = thread s f n ps r in
      let wd = after_device_write Number a value wc in
      let d = machine f pr c st cm wd in
      let v = at s t th m wc in
      let u = at s t th' m wd in
      let next = core.goes c f pr st cm wd in
      when_after s 0 3 (is_register a && nat_eq (lowest a) a) (when (not (sets_gie a value wc)) next) v (λ va.
      when_after s 0 3 (not (sets_gie a value wc)) next v (λ gi.
      let fit' = fit_with s t wc calm f pr st loops ps cm m fit wd pr cm m (write_inside s t wc calm th m a value) (write_bytes a value wc small fit.control) fit.agree fit.bytes fit.passing in
      let le : least_at s v ≡ 0 = cost_at s t wc calm th m (sure_prices s.sure) in
      let mo : most_at s v ≡ 0 = cost_at s t wc calm th m (most_prices s.price) in
      record {
        k = 1;
        u = u;
        path = further v u u 0 0 0 0 3 (opens_at s t th m wc refl) (write_port s t wc calm th m a value th' refl (not_false (sets_gie a value wc) gi) la) (omega arith) (omega (arith, mo)) (stop u 0 0 (omega arith));
        stands = stands_at s t wd f pr c st loops cm m th' fit' fits (here_left s f loops n ps r c l);
      }))
