-- A start of the first chip for one of the second: the bytes that both have are the same.
use Rattle.std.proofs.Common.{◌≡◌, ℕ, zero, suc, ◌+◌, ◌-◌, ◌<◌, ◌≤◌, Bool, true, false, List, [], ◌∷◌, ◌++◌, length, replicate, refl, sym, ap, ◌∙◌, subst, ⊎_elim, arith}
use Rattle.std.specs.Prelude.{if◌then◌else◌, nat_lt, slice_index}
use Rattle.std.proofs.lemmas.Bool.{ltb-true, ltb-false, lt-ltb, cases_lt}
use Rattle.std.proofs.lemmas.List.{length-append}
use Rattle.pic_chip.specs.Run.{IsStart}
use Rattle.pic_chip.specs.declared.Start.{Start}
use Rattle.chip_84a.specs.declared.Start84.{Start84}
use Rattle.chip_84a.specs.Lockstep.{SameBytes}
use Rattle.chip_84a.specs.Machine.{room}
use Rattle.headline_84a.specs.OnSecondChip as second

-- ---- a list by its items
built : (ℕ → ℕ) → ℕ → List ℕ
built f zero = []
built f (suc n) = f zero ∷ built (λ k. f (suc k)) n

built_long : (f : ℕ → ℕ) (n : ℕ) → length (built f n) ≡ n
unfolding built
built_long f zero = refl
built_long f (suc n) = let e = built_long (λ k. f (suc k)) n in omega (arith, e)

built_at : (f : ℕ → ℕ) (n k : ℕ) → k < n → slice_index (built f n) k ≡ f k
unfolding built
built_at f zero k lt = absurd (omega (arith, lt))
built_at f (suc n) zero lt = refl
built_at f (suc n) (suc k) lt = built_at (λ j. f (suc j)) n k (omega (arith, lt))

built_past : (f : ℕ → ℕ) (n k : ℕ) → n ≤ k → slice_index (built f n) k ≡ 0
unfolding built
built_past f zero k le = refl
built_past f (suc n) zero le = absurd (omega (arith, le))
built_past f (suc n) (suc k) le = built_past (λ j. f (suc j)) n k (omega (arith, le))

-- ---- the second chip's bytes with room behind them
zeros_small : (n k : ℕ) → slice_index (replicate n 0) k < 256
zeros_small zero k = omega arith
zeros_small (suc n) zero = omega arith
zeros_small (suc n) (suc k) = zeros_small n k

room_small : (xs ys : List ℕ) → ((k : ℕ) → slice_index xs k < 256) → ((k : ℕ) → slice_index ys k < 256) → (k : ℕ) → slice_index (xs ++ ys) k < 256
room_small [] ys h g k = g k
room_small (x ∷ xs) ys h g zero = h 0
room_small (x ∷ xs) ys h g (suc k) = room_small xs ys (λ j. h (suc j)) g k

-- ---- the first chip's bytes by those of the second
first_byte : List ℕ → ℕ → ℕ
first_byte ram k =
    if nat_lt k 48 then slice_index ram (k + 20) else if nat_lt k 80 then 0 else if nat_lt k 96 then slice_index ram (k - 80) else 0

first_ram : List ℕ → List ℕ
first_ram ram = built (first_byte ram) 368

byte_low : (ram : List ℕ) (k : ℕ) → k < 48 → first_byte ram k ≡ slice_index ram (k + 20)
unfolding first_byte
byte_low ram k lt = ap (λ b. if b then slice_index ram (k + 20) else if nat_lt k 80 then 0 else if nat_lt k 96 then slice_index ram (k - 80) else 0) (lt-ltb k 48 lt)

byte_kept : (ram : List ℕ) (k : ℕ) → k < 16 → first_byte ram (k + 80) ≡ slice_index ram k
unfolding first_byte
byte_kept ram k lt = by (nat_lt (k + 80) 48) (nat_lt (k + 80) 80) (nat_lt (k + 80) 96) refl refl refl where
  by : (a b c : Bool) → nat_lt (k + 80) 48 ≡ a → nat_lt (k + 80) 80 ≡ b → nat_lt (k + 80) 96 ≡ c → (if a then slice_index ram (k + 80 + 20) else if b then 0 else if c then slice_index ram (k + 80 - 80) else 0) ≡ slice_index ram k
  by true b c ea eb ec = absurd (let z = ltb-true (k + 80) 48 ea in omega (arith, z))
  by false true c ea eb ec = absurd (let z = ltb-true (k + 80) 80 eb in omega (arith, z))
  by false false true ea eb ec = ap (slice_index ram) (let z : k + 80 - 80 ≡ k = omega arith in z)
  by false false false ea eb ec = absurd (let z = ltb-false (k + 80) 96 ec in omega (arith, z, lt))

byte_small : (ram : List ℕ) → ((k : ℕ) → slice_index ram k < 256) → (k : ℕ) → first_byte ram k < 256
unfolding first_byte
byte_small ram h k = by (nat_lt k 48) (nat_lt k 80) (nat_lt k 96) where
  by : (a b c : Bool) → (if a then slice_index ram (k + 20) else if b then 0 else if c then slice_index ram (k - 80) else 0) < 256
  by true b c = h (k + 20)
  by false true c = omega arith
  by false false true = h (k - 80)
  by false false false = omega arith

pub start_of : Start84 → Start
start_of s = record { w = s.w; fsr = s.fsr; flags = s.flags; ram = first_ram (room s.ram) }

-- as records and fields: what is the same of both starts
pub record AreLike (a : Start) (b : Start84) : Type 0 where
  pub is_start : IsStart a
  pub w : b.w ≡ a.w
  pub fsr : b.fsr ≡ a.fsr
  pub flags : b.flags ≡ a.flags
  pub ram : SameBytes a.ram (room b.ram)

pub are_like : (s : Start84) → second.IsStart s → AreLike (start_of s) s
unfolding start_of first_ram
are_like s h =
    let ram = room s.ram in
    let small = room_small s.ram (replicate 300 0) h.bytes (zeros_small 300) in
    record {
      is_start = record {
        w = h.w;
        fsr = h.fsr;
        flags = h.flags;
        count = built_long (first_byte ram) 368;
        bytes = λ k.
            ⊎_elim (λ lt. let e = built_at (first_byte ram) 368 k lt in subst (λ z. z < 256) (sym e) (byte_small ram small k))
            (λ ge. let e = built_past (first_byte ram) 368 k ge in omega (arith, e)) (cases_lt k 368);
      };
      w = refl;
      fsr = refl;
      flags = refl;
      ram = record {
        count = built_long (first_byte ram) 368;
        second_count = let zeros : List ℕ = replicate 300 0 in let a = length-append s.ram zeros in let b : length zeros ≡ 300 = refl in let c = h.count in omega (arith, a, b, c);
        low = λ k lt. sym (built_at (first_byte ram) 368 k (omega (arith, lt)) ∙ byte_low ram k lt);
        common = λ k lt. sym (built_at (first_byte ram) 368 (k + 80) (omega (arith, lt)) ∙ byte_kept ram k lt);
      };
    }
