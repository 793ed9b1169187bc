-- Where an access finds its bank selected, it is the access that the code without selects makes.
use Rattle.std.proofs.Common.{◌≡◌, ℕ, ◌+◌, ◌*◌, ◌/◌, ◌%◌, ◌<◌, Bool, true, false, ◌&&◌, ◌||◌, ◌⊎◌, inl, inr, zero, suc, nat_eq, nat_lt, if◌then◌else◌, Option, Some, None, option_map, IsSome, slice_get, refl, sym, ap, ◌∙◌, subst, ⊎_elim, arith}
use Rattle.std.proofs.lemmas.Bool.{eqb-true, eq-eqb, ltb-true, cases_lt}
use Rattle.std.proofs.lemmas.Option.{none-some, cond_some}
use Rattle.pic_chip.specs.Address.{in_every_bank}
use Rattle.pic_world.specs.Registers.{is_register, lowest}
use Rattle.pic_world.specs.declared.Root.{Root}
use Rattle.pic_world.specs.declared.Root.TheVariants.{Main, Isr}
use Rattle.pic_map.specs.declared.FrameLine.{FrameLine}
use Rattle.pic_map.specs.declared.ObjLine.{ObjLine}
use Rattle.pic_map.proofs.Lowest.{high_is_none}
use Rattle.core_code.specs.declared.code.Byte.{Byte}
use Rattle.core_code.specs.declared.code.Byte.TheVariants as bytes
use Rattle.sym_code.specs.Effect.{Event, Port, Denied, general_access, is_selected, device_access, named_access, access_of}
use Rattle.sym_code.specs.Layout as layouts
use Rattle.sym_code.specs.Layout.{general_at}
use Rattle.sym_code.specs.Registers.{Registers}
use Rattle.sym_code.specs.Words.{is_common}
use Rattle.sym_code.specs.declared.code.Operand.{Operand}
use Rattle.sym_code.specs.declared.code.Operand.TheVariants as operands
use Rattle.sym_code.specs.declared.code.Register.TheVariants.{Indf, Status, Fsr, Pclath}
use Rattle.code_place.specs.Addresses.{object_byte, frame_byte, address_of, file_address}
use Rattle.code_place.specs.Layouts.{layout_of}
use Rattle.code_place.proofs.Layouts.{by_layout}
use Rattle.bank_page.specs.Kinds.{byte_named}
use Rattle.bank_page.specs.Selected.{has_bank, reaches_byte}
use Rattle.bank_page.specs.declared.known.Known.{Known}
use Rattle.bank_trace.proofs.Lists.{never}
use Rattle.bank_trace.proofs.Holding.{Bits, Holds, bank_is}
use Rattle.bank_trace.proofs.Banks.{over}
use Rattle.bank_trace.proofs.Sites.{Site, plain_setting, banked_setting}

or_first : (a b : Bool) → a ≡ true → (a || b) ≡ true
or_first true b e = refl
or_first false b e = never e

or_last : (a b : Bool) → b ≡ true → (a || b) ≡ true
or_last true b e = refl
or_last false b e = e

or_split : (a b : Bool) → (a || b) ≡ true → (a ≡ true) ⊎ (b ≡ true)
or_split true b e = inl refl
or_split false b e = inr e

-- ---- bytes that stand in every bank
common_at : (a n : ℕ) → in_every_bank (n % 128) ≡ true → nat_eq a n ≡ true → in_every_bank (a % 128) ≡ true
common_at a n e is = subst (λ k. in_every_bank (k % 128) ≡ true) (sym (eqb-true a n is)) e

common_device : (a : ℕ) → is_common (bytes.Device a) ≡ true → in_every_bank (a % 128) ≡ true
common_device a e =
    ⊎_elim
    (λ e. ⊎_elim
    (λ e. ⊎_elim
    (λ e. ⊎_elim (common_at a 0x02 refl) (common_at a 0x03 refl) (or_split (nat_eq a 0x02) (nat_eq a 0x03) e))
    (common_at a 0x04 refl) (or_split (nat_eq a 0x02 || nat_eq a 0x03) (nat_eq a 0x04) e))
    (common_at a 0x0a refl) (or_split (nat_eq a 0x02 || nat_eq a 0x03 || nat_eq a 0x04) (nat_eq a 0x0a) e))
    (common_at a 0x0b refl) (or_split (nat_eq a 0x02 || nat_eq a 0x03 || nat_eq a 0x04 || nat_eq a 0x0a) (nat_eq a 0x0b) e)

common_result : (r : Root) (k : ℕ) → k < 4 → in_every_bank ((layouts.result_address r + k) % 128) ≡ true
common_result Main zero l = refl
common_result Main (suc zero) l = refl
common_result Main (suc (suc zero)) l = refl
common_result Main (suc (suc (suc zero))) l = refl
common_result Isr zero l = refl
common_result Isr (suc zero) l = refl
common_result Isr (suc (suc zero)) l = refl
common_result Isr (suc (suc (suc zero))) l = refl
common_result r (suc (suc (suc (suc k)))) l = absurd (omega arith)

-- ---- bytes in one bank
object_within : (o : Option ObjLine) (offset at : ℕ) → object_byte o offset ≡ Some at → at < 512
object_within None offset at e = absurd (none-some at e)
object_within (Some line) offset at e =
    let h = cond_some (nat_lt (line.address + offset) 512) (line.address + offset) at e in
    subst (λ n. n < 512) h.1 (ltb-true (line.address + offset) 512 h.0)

frame_within : (o : Option FrameLine) (offset at : ℕ) → frame_byte o offset ≡ Some at → at < 512
frame_within None offset at e = absurd (none-some at e)
frame_within (Some line) offset at e =
    let h = cond_some (nat_lt (line.address + offset) 512) (line.address + offset) at e in
    subst (λ n. n < 512) h.1 (ltb-true (line.address + offset) 512 h.0)

module _ (x : Site) (b : Bits) (r : Registers) where
  abbrev Selected : ℕ → Type 0
  Selected a = is_selected (banked_setting x) (over b r) a ≡ true

  in_bank : (known : Known) (at a : ℕ) → Holds x.pages known b → has_bank known (Some (at / 128)) ≡ true → at < 512 → a ≡ at → Selected a
  in_bank known at a h e l is =
      let bank = bank_is x.pages known b (at / 128) (omega arith) e h in
      or_last (in_every_bank (a % 128)) (nat_eq (2 * b.rp1 + b.rp0) (a / 128)) (eq-eqb (2 * b.rp1 + b.rp0) (a / 128) (bank ∙ ap (λ n. n / 128) (sym is)))

  in_all : (a : ℕ) → in_every_bank (a % 128) ≡ true → Selected a
  in_all a e = or_first (in_every_bank (a % 128)) (nat_eq (2 * b.rp1 + b.rp0) (a / 128)) e

  -- a byte with an address
  by_address : (known : Known) (byte : Byte) (o : Option ℕ) → Holds x.pages known b → address_of x.placed byte ≡ o → ((at : ℕ) → o ≡ Some at → at < 512)
      → has_bank known (option_map (λ at. at / 128) o) ≡ true → Selected (layouts.address_of (layout_of x.placed) byte)
  by_address known byte None h is l e = never e
  by_address known byte (Some at) h is l e = in_bank known at (layouts.address_of (layout_of x.placed) byte) h e (l at refl) (by_layout x.placed byte at is)

  named_same : (inside writes : Bool) (a : ℕ) → Selected a → named_access (banked_setting x) inside writes (over b r) a ≡ named_access (plain_setting x) inside writes r a
  named_same inside writes a e = ap (λ (c : Bool). if c then general_access (layout_of x.placed) inside writes (general_at a) else Denied) e

  result_named : (root : Root) (k : ℕ) (c : Bool) → nat_lt k 4 ≡ c → IsSome (if c then Some (layouts.result_address root + k) else None) → in_every_bank ((layouts.result_address root + k) % 128) ≡ true
  result_named root k true is e = common_result root k (ltb-true k 4 is)
  result_named root k false is e = never e

  device_bank : (known : Known) (a : ℕ) (c : Bool) → Holds x.pages known b → is_common (bytes.Device a) ≡ c → reaches_byte x.placed known (if c then None else Some (bytes.Device a)) ≡ true
      → is_register a ≡ true → nat_eq (lowest a) a ≡ true → Selected a
  device_bank known a true h is e p q = in_all a (common_device a is)
  device_bank known a false h is e p q =
      in_bank known a a h e (⊎_elim (λ l. omega arith) (λ l. never (sym (high_is_none a l (eqb-true (lowest a) a q)) ∙ p)) (cases_lt a 256)) refl

  device_if : (p q c : Bool) (a : ℕ) → (p ≡ true → q ≡ true → c ≡ true) → (if p && q && c then Event (Port a) else Denied) ≡ (if p && q && true then Event (Port a) else Denied)
  device_if true true c a e = ap (λ (d : Bool). if d then Event (Port a) else Denied) (e refl refl)
  device_if true false c a e = refl
  device_if false q c a e = refl

  device_same : (known : Known) (a : ℕ) → Holds x.pages known b → reaches_byte x.placed known (byte_named (operands.Byte (bytes.Device a))) ≡ true
      → device_access (banked_setting x) (over b r) a ≡ device_access (plain_setting x) r a
  device_same known a h e = device_if (is_register a) (nat_eq (lowest a) a) (is_selected (banked_setting x) (over b r) a) a (device_bank known a (is_common (bytes.Device a)) h refl e)

  pub access_same : (known : Known) (operand : Operand) (inside writes : Bool) → Holds x.pages known b → reaches_byte x.placed known (byte_named operand) ≡ true → IsSome (file_address x.placed operand)
      → access_of (banked_setting x) inside writes (over b r) operand ≡ access_of (plain_setting x) inside writes r operand
  unfolding access_of layouts.address_of
  access_same known (operands.Byte (bytes.Device a)) inside writes h e n = device_same known a h e
  access_same known (operands.Byte (bytes.Static object offset)) inside writes h e n =
      named_same inside writes (layouts.address_of (layout_of x.placed) (bytes.Static object offset))
      (by_address known (bytes.Static object offset) (address_of x.placed (bytes.Static object offset)) h refl (object_within (slice_get x.placed.objects.items object) offset) e)
  access_same known (operands.Byte (bytes.Frame copy offset)) inside writes h e n =
      named_same inside writes (layouts.address_of (layout_of x.placed) (bytes.Frame copy offset))
      (by_address known (bytes.Frame copy offset) (address_of x.placed (bytes.Frame copy offset)) h refl (frame_within (slice_get x.placed.frames.items copy) offset) e)
  access_same known (operands.Byte (bytes.Result root k)) inside writes h e n =
      named_same inside writes (layouts.result_address root + k) (in_all (layouts.result_address root + k) (result_named root k (nat_lt k 4) refl n))
  access_same known (operands.Register Indf) inside writes h e n = refl
  access_same known (operands.Register Fsr) inside writes h e n = refl
  access_same known (operands.Register Status) inside writes h e n = refl
  access_same known (operands.Register Pclath) inside writes h e n = refl
  access_same known (operands.Saved cell) inside writes h e n = refl
