-- The device registers by bank.
use Rattle.std.proofs.Common.{◌≡◌, ℕ, ◌+◌, ◌-◌, ◌*◌, ◌/◌, ◌%◌, ◌<◌, Bool, true, false, eqb, refl, sym, ap, ◌∙◌, arith, [], not}
use Rattle.std.specs.Prelude.{slice_index_or, nat_eq, nat_lt, if◌then◌else◌, ◌||◌, ◌&&◌}
use Rattle.std.proofs.lemmas.Bool.{agree_below, agree_below_at, eqb-true}
use Rattle.pic_world.specs.Registers.{is_among, is_register, lowest}
use Rattle.pic_world.specs.Control.{is_stored}
use Rattle.pic_chip.specs.Address.{Place, Device, Nothing, place}
use Rattle.pic_chip.specs.Named.{devices}

abbrev pub is_device : ℕ → ℕ → Bool
is_device bank low = is_among (slice_index_or devices bank []) low

-- a register that is kept stands there
abbrev is_kept : ℕ → ℕ → Bool
is_kept bank low = nat_eq low 11 || (nat_eq low 12 && nat_lt bank 2)

none_kept : (a b : Bool) → a ≡ false → b ≡ false → (a || b) ≡ false
none_kept false false h k = refl
none_kept true b h k = absurd (cc)
none_kept a true h k = absurd (cc)

device_test : (bank low : ℕ) → bank < 4 → low < 128 → is_kept bank low ≡ false → is_register (0x80 * bank + low) ≡ is_device bank low
device_test bank low hb hl ho =
    let f : ℕ → Bool = λ n. is_kept (n / 128) (n % 128) || is_register (0x80 * (n / 128) + n % 128) in
    let g : ℕ → Bool = λ n. is_kept (n / 128) (n % 128) || is_device (n / 128) (n % 128) in
    let all : agree_below f g 512 ≡ true = refl in
    let d : (bank * 128 + low) / 128 ≡ bank = omega arith in
    let m : (bank * 128 + low) % 128 ≡ low = omega arith in
    let here : f (bank * 128 + low) ≡ g (bank * 128 + low) = agree_below_at f g 512 (bank * 128 + low) all (omega arith) in
    ap (λ b. b || is_register (0x80 * bank + low)) (sym ho)
    ∙ ap (λ q. is_kept q low || is_register (0x80 * q + low)) (sym d)
    ∙ ap (λ r. is_kept ((bank * 128 + low) / 128) r || is_register (0x80 * ((bank * 128 + low) / 128) + r)) (sym m)
    ∙ here
    ∙ ap (λ r. is_kept ((bank * 128 + low) / 128) r || is_device ((bank * 128 + low) / 128) r) m
    ∙ ap (λ q. is_kept q low || is_device q low) d
    ∙ ap (λ b. b || is_device bank low) ho

device_lowest : (bank low : ℕ) → bank < 4 → low < 128 → is_device bank low ≡ true → lowest (0x80 * bank + low) ≡ 0x80 * (bank % 2) + low
device_lowest bank low hb hl hd =
    let f : ℕ → Bool = λ n. not (is_device (n / 128) (n % 128)) || eqb (lowest (0x80 * (n / 128) + n % 128)) (0x80 * (n / 128 % 2) + n % 128) in
    let all : agree_below f (λ n. true) 512 ≡ true = refl in
    let d : (bank * 128 + low) / 128 ≡ bank = omega arith in
    let m : (bank * 128 + low) % 128 ≡ low = omega arith in
    let here : f (bank * 128 + low) ≡ true = agree_below_at f (λ n. true) 512 (bank * 128 + low) all (omega arith) in
    eqb-true _ _ (
    ap (λ b. not b || eqb (lowest (0x80 * bank + low)) (0x80 * (bank % 2) + low)) (sym hd)
    ∙ ap (λ q. not (is_device q low) || eqb (lowest (0x80 * q + low)) (0x80 * (q % 2) + low)) (sym d)
    ∙ ap (λ r. not (is_device ((bank * 128 + low) / 128) r) || eqb (lowest (0x80 * ((bank * 128 + low) / 128) + r)) (0x80 * ((bank * 128 + low) / 128 % 2) + r)) (sym m)
    ∙ here)

chosen : (b c : Bool) (x y : ℕ) → b ≡ c → (c ≡ true → x ≡ y) → (if b then Device x else Nothing) ≡ (if c then Device y else Nothing)
chosen true true x y e h = ap Device (h refl)
chosen false false x y e h = refl
chosen true false x y e h = absurd (cc)
chosen false true x y e h = absurd (cc)

-- the last two cases of the address table
pub device_place : (bank low : ℕ) → bank < 4 → low < 128 → nat_eq low 11 ≡ false → (nat_eq low 12 && nat_lt bank 2) ≡ false → (if is_register (0x80 * bank + low) then Device (lowest (0x80 * bank + low)) else Nothing) ≡ (if is_device bank low then Device (0x80 * (bank % 2) + low) else Nothing)
device_place bank low hb hl ho hp =
    chosen (is_register (0x80 * bank + low)) (is_device bank low) (lowest (0x80 * bank + low)) (0x80 * (bank % 2) + low) (device_test bank low hb hl (none_kept (nat_eq low 11) (nat_eq low 12 && nat_lt bank 2) ho hp)) (device_lowest bank low hb hl)

-- what holds of each bank and each low part of an address is computed at all 512 pairs
at_pair : (g : ℕ → ℕ → Bool) → agree_below (λ n. g (n / 128) (n % 128)) (λ n. true) 512 ≡ true → (bank low : ℕ) → bank < 4 → low < 128 → g bank low ≡ true
at_pair g all bank low hb hl =
    let d : (bank * 128 + low) / 128 ≡ bank = omega arith in
    let m : (bank * 128 + low) % 128 ≡ low = omega arith in
    let here : g ((bank * 128 + low) / 128) ((bank * 128 + low) % 128) ≡ true = agree_below_at (λ n. g (n / 128) (n % 128)) (λ n. true) 512 (bank * 128 + low) all (omega arith) in
    ap (λ q. g q low) (sym d) ∙ ap (λ r. g ((bank * 128 + low) / 128) r) (sym m) ∙ here

implied : (a b c : Bool) → (not a || (b && not c)) ≡ true → a ≡ true → (b ≡ true) × (c ≡ false)
implied true true false h e = (refl, refl)
implied true true true h e = absurd (cc)
implied true false c h e = absurd (cc)
implied false b c h e = absurd (cc)

pub device_fits : (bank low : ℕ) → bank < 4 → low < 128 → is_device bank low ≡ true → (is_register (0x80 * (bank % 2) + low) ≡ true) × (is_stored (0x80 * (bank % 2) + low) ≡ false)
device_fits bank low hb hl hd =
    implied (is_device bank low) (is_register (0x80 * (bank % 2) + low)) (is_stored (0x80 * (bank % 2) + low))
    (at_pair (λ b l. not (is_device b l) || (is_register (0x80 * (b % 2) + l) && not (is_stored (0x80 * (b % 2) + l)))) refl bank low hb hl) hd
