-- Masks of flags, and the masks of arrivals.
use Rattle.std.proofs.Common.{◌≡◌, ℕ, ◌+◌, ◌-◌, ◌*◌, ◌/◌, ◌%◌, ◌^◌, ◌<◌, ◌≤◌, Bool, true, false, eqb, List, [], ◌∷◌, length, take, take_all, drop, refl, sym, ap, ◌∙◌, arith}
use Rattle.std.specs.Prelude.{bit_or, nat_eq, if◌then◌else◌, slice_index_or}
use Rattle.std.specs.Int.Bits.{or_zero_r}
use Rattle.std.proofs.lemmas.Bool.{eq-eqb}
use Rattle.std.proofs.lemmas.Nat.{or_lt}
use Rattle.pic_world.specs.declared.Flag.{Flag}
use Rattle.pic_world.specs.declared.Flag.TheVariants.{Rbif, Intf, Tmr0if, Tmr1if, Tmr2if, Ccp1if, Sspif, Txif, Rcif, Adif, Pspif}
use Rattle.pic_world.specs.declared.Arrival.{Arrival}
use Rattle.pic_world.specs.Arrivals.{flag_bit, arriving}
use Rattle.pic_world.proofs.OrLaws.{or_assoc}

flag_small : (f : Flag) → flag_bit f < 2048
flag_small Rbif = omega arith
flag_small Intf = omega arith
flag_small Tmr0if = omega arith
flag_small Tmr1if = omega arith
flag_small Tmr2if = omega arith
flag_small Ccp1if = omega arith
flag_small Sspif = omega arith
flag_small Txif = omega arith
flag_small Rcif = omega arith
flag_small Adif = omega arith
flag_small Pspif = omega arith

or_small : (a b : ℕ) → a < 2048 → b < 2048 → bit_or a b < 2048
or_small a b ha hb = or_lt 11 a b ha hb

chosen_small : (b : Bool) (x y : ℕ) → x < 2048 → y < 2048 → (if b then x else y) < 2048
chosen_small true x y hx hy = hx
chosen_small false x y hx hy = hy

pub arriving_small : (arrivals : List Arrival) (t : ℕ) → arriving arrivals t < 2048
arriving_small [] t = omega arith
arriving_small (a ∷ arrivals) t =
    chosen_small (nat_eq a.t t) (bit_or (flag_bit a.flag) (arriving arrivals t)) (arriving arrivals t)
    (or_small (flag_bit a.flag) (arriving arrivals t) (flag_small a.flag) (arriving_small arrivals t)) (arriving_small arrivals t)

-- a flag goes from the arrivals that are left to the mask
pub mask_goes_on : (mask : ℕ) (f : Flag) (arrivals : List Arrival) (t : ℕ) → bit_or (bit_or mask (flag_bit f)) (arriving arrivals t) ≡ bit_or mask (bit_or (flag_bit f) (arriving arrivals t))
mask_goes_on mask f arrivals t = or_assoc mask (flag_bit f) (arriving arrivals t)

pub mask_small : (mask : ℕ) (f : Flag) → mask < 2048 → bit_or mask (flag_bit f) < 2048
mask_small mask f h = or_small mask (flag_bit f) h (flag_small f)

pub or_nothing : (a : ℕ) → bit_or a 0 ≡ a
or_nothing a = or_zero_r a

pub mask_step : (mask : ℕ) (rest : List Arrival) (t : ℕ) (d : Arrival) → 1 ≤ length rest → (slice_index_or rest 0 d).t ≡ t → bit_or (bit_or mask (flag_bit (slice_index_or rest 0 d).flag)) (arriving (take (length rest - 1) (drop 1 rest)) t) ≡ bit_or mask (arriving rest t)
mask_step mask [] t d l e = absurd (omega arith)
mask_step mask (a ∷ others) t d l e =
    ap (λ xs. bit_or (bit_or mask (flag_bit a.flag)) (arriving xs t)) (take_all (length (a ∷ others) - 1) others (omega arith))
    ∙ mask_goes_on mask a.flag others t
    ∙ ap (λ b. bit_or mask (if b then bit_or (flag_bit a.flag) (arriving others t) else arriving others t)) (sym (eq-eqb a.t t e))

pub mask_end : (mask : ℕ) (rest : List Arrival) (t : ℕ) → length rest < 1 → bit_or mask (arriving rest t) ≡ mask
mask_end mask [] t l = or_nothing mask
mask_end mask (a ∷ rest) t l = absurd (omega arith)
