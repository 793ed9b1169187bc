-- One bit of STATUS and its parts.
use Rattle.std.proofs.Common.{◌≡◌, ℕ, ◌+◌, ◌*◌, ◌/◌, ◌%◌, ◌<◌, arith}
use Rattle.pic_world.specs.Bits.{bit, set_bit, clear_bit}

-- the parts of a byte of STATUS
pub record Parts (v high two one zero : ℕ) : Type 0 where
  pub bank : v / 32 ≡ high
  pub z : bit v 2 ≡ two
  pub dc : bit v 1 ≡ one
  pub c : bit v 0 ≡ zero

abbrev pub packed : ℕ → ℕ → ℕ → ℕ → ℕ
packed bank z dc c = 32 * bank + 0x18 + 4 * z + 2 * dc + c

module _ (i p z dc c : ℕ) (hz : z < 2) (hd : dc < 2) (hc : c < 2) where
  pub unpack : (bank : ℕ) → Parts (packed bank z dc c) bank z dc c
  unpack bank = record { bank = omega arith; z = omega arith; dc = omega arith; c = omega arith }

  pub set_0 : (bank : ℕ) → Parts (set_bit 0 (packed bank z dc c)) bank z dc 1
  set_0 bank = record { bank = omega arith; z = omega arith; dc = omega arith; c = omega arith }

  pub clear_0 : (bank : ℕ) → Parts (clear_bit 0 (packed bank z dc c)) bank z dc 0
  clear_0 bank = record { bank = omega arith; z = omega arith; dc = omega arith; c = omega arith }

  pub set_1 : (bank : ℕ) → Parts (set_bit 1 (packed bank z dc c)) bank z 1 c
  set_1 bank = record { bank = omega arith; z = omega arith; dc = omega arith; c = omega arith }

  pub clear_1 : (bank : ℕ) → Parts (clear_bit 1 (packed bank z dc c)) bank z 0 c
  clear_1 bank = record { bank = omega arith; z = omega arith; dc = omega arith; c = omega arith }

  pub set_2 : (bank : ℕ) → Parts (set_bit 2 (packed bank z dc c)) bank 1 dc c
  set_2 bank = record { bank = omega arith; z = omega arith; dc = omega arith; c = omega arith }

  pub clear_2 : (bank : ℕ) → Parts (clear_bit 2 (packed bank z dc c)) bank 0 dc c
  clear_2 bank = record { bank = omega arith; z = omega arith; dc = omega arith; c = omega arith }

  -- RP0, RP1 and IRP, where the others are known
  pub set_5 : (bank rp0 : ℕ) → rp0 < 2 → bank ≡ 4 * i + (2 * p + rp0) → Parts (set_bit 5 (packed bank z dc c)) (4 * i + (2 * p + 1)) z dc c
  set_5 bank rp0 h e = record { bank = omega arith; z = omega arith; dc = omega arith; c = omega arith }

  pub clear_5 : (bank rp0 : ℕ) → rp0 < 2 → bank ≡ 4 * i + (2 * p + rp0) → Parts (clear_bit 5 (packed bank z dc c)) (4 * i + (2 * p + 0)) z dc c
  clear_5 bank rp0 h e = record { bank = omega arith; z = omega arith; dc = omega arith; c = omega arith }

  pub set_6 : (bank rp1 : ℕ) → p < 2 → rp1 < 2 → bank ≡ 4 * i + (2 * rp1 + p) → Parts (set_bit 6 (packed bank z dc c)) (4 * i + (2 * 1 + p)) z dc c
  set_6 bank rp1 h1 h e = record { bank = omega arith; z = omega arith; dc = omega arith; c = omega arith }

  pub clear_6 : (bank rp1 : ℕ) → p < 2 → rp1 < 2 → bank ≡ 4 * i + (2 * rp1 + p) → Parts (clear_bit 6 (packed bank z dc c)) (4 * i + (2 * 0 + p)) z dc c
  clear_6 bank rp1 h1 h e = record { bank = omega arith; z = omega arith; dc = omega arith; c = omega arith }

  pub set_7 : (bank irp : ℕ) → i < 2 → p < 2 → irp < 2 → bank ≡ 4 * irp + (2 * i + p) → Parts (set_bit 7 (packed bank z dc c)) (4 * 1 + (2 * i + p)) z dc c
  set_7 bank irp h1 h2 h e = record { bank = omega arith; z = omega arith; dc = omega arith; c = omega arith }

  pub clear_7 : (bank irp : ℕ) → i < 2 → p < 2 → irp < 2 → bank ≡ 4 * irp + (2 * i + p) → Parts (clear_bit 7 (packed bank z dc c)) (4 * 0 + (2 * i + p)) z dc c
  clear_7 bank irp h1 h2 h e = record { bank = omega arith; z = omega arith; dc = omega arith; c = omega arith }

-- bits 3 and 4 of PCLATH
pub low_set : (v high low : ℕ) → v < 32 → low < 2 → v / 8 ≡ 2 * high + low → set_bit 3 v % 32 / 8 ≡ 2 * high + 1
low_set v high low h hl e = omega arith

pub low_clear : (v high low : ℕ) → v < 32 → low < 2 → v / 8 ≡ 2 * high + low → clear_bit 3 v % 32 / 8 ≡ 2 * high + 0
low_clear v high low h hl e = omega arith

pub high_set : (v high low : ℕ) → v < 32 → low < 2 → high < 2 → v / 8 ≡ 2 * high + low → set_bit 4 v % 32 / 8 ≡ 2 * 1 + low
high_set v high low h hl hh e = omega arith

pub high_clear : (v high low : ℕ) → v < 32 → low < 2 → high < 2 → v / 8 ≡ 2 * high + low → clear_bit 4 v % 32 / 8 ≡ 2 * 0 + low
high_clear v high low h hl hh e = omega arith
