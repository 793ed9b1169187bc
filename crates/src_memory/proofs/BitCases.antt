-- One bit of a byte.
use Rattle.std.proofs.Common.{◌≡◌, ℕ, ◌+◌, ◌-◌, ◌*◌, ◌/◌, ◌%◌, ◌^◌, ◌<◌, true, eqb, refl, sym, ap, ◌∙◌, arith}
use Rattle.std.specs.Prelude.{bit_and, bit_or}
use Rattle.std.proofs.lemmas.Bool.{agree_below, agree_below_at, eqb-true}
use Rattle.pic_world.specs.Bits.{set_bit, clear_bit}

-- what holds of each byte and each place is computed at all 2,048 pairs
pub at_each : (g h : ℕ → ℕ → ℕ) → agree_below (λ n. eqb (g (n / 256) (n % 256)) (h (n / 256) (n % 256))) (λ n. true) 2048 ≡ true → (b x : ℕ) → b < 8 → x < 256 → g b x ≡ h b x
at_each g h all b x hb hx =
    let d : (b * 256 + x) / 256 ≡ b = omega arith in
    let m : (b * 256 + x) % 256 ≡ x = omega arith in
    let here : eqb (g ((b * 256 + x) / 256) ((b * 256 + x) % 256)) (h ((b * 256 + x) / 256) ((b * 256 + x) % 256)) ≡ true =
    agree_below_at (λ n. eqb (g (n / 256) (n % 256)) (h (n / 256) (n % 256))) (λ n. true) 2048 (b * 256 + x) all (omega arith) in
    eqb-true _ _ (ap (λ q. eqb (g q x) (h q x)) (sym d) ∙ ap (λ r. eqb (g ((b * 256 + x) / 256) r) (h ((b * 256 + x) / 256) r)) (sym m) ∙ here)

pub or_bit : (b x : ℕ) → b < 8 → x < 256 → bit_or x (1 * 2 ^ b % 256) ≡ set_bit b x
or_bit = at_each (λ b x. bit_or x (1 * 2 ^ b % 256)) set_bit refl

pub and_not_bit : (b x : ℕ) → b < 8 → x < 256 → bit_and x (255 - 1 * 2 ^ b % 256) ≡ clear_bit b x
and_not_bit = at_each (λ b x. bit_and x (255 - 1 * 2 ^ b % 256)) clear_bit refl
