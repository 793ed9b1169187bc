-- A byte that is named within its object or frame is private where the object is.
use Rattle.std.proofs.Common.{◌≡◌, ℕ, zero, suc, ◌+◌, ◌-◌, ◌<◌, ◌≤◌, Bool, true, false, not, ◌&&◌, ◌||◌, nat_eq, nat_le, nat_lt, if◌then◌else◌, List, [], ◌∷◌, length, get_or, Option, Some, None, slice_index_or, refl, sym, ap, ◌∙◌, arith}
use Rattle.std.specs.List.{list_all}
use Rattle.std.proofs.lemmas.Bool.{agree_below, agree_below_at, eqb-true, leb-true, le-leb, ltb-true, lt-ltb}
use Rattle.core_code.specs.declared.code.Byte.{Byte}
use Rattle.core_code.specs.declared.code.Byte.TheVariants as bytes
use Rattle.pic_chip.specs.Address as chip
use Rattle.pic_chip.specs.Run.{Range, covers, object_at}
use Rattle.pic_world.specs.declared.Cell.{Cell}
use Rattle.pic_world.specs.declared.Cell.TheVariants as cells
use Rattle.pic_world.specs.declared.Root.{Root}
use Rattle.pic_world.specs.declared.Root.TheVariants.{Main, Isr}
use Rattle.select_wide.specs.Direct.{is_clear}
use Rattle.sym_code.specs.Layout.{DataLayout, IsLaidOut, object, frame, no_range, is_whole, lies_in, address_of, general_at, result_address, owner_by, owner, covers_any}
use Rattle.sym_code.specs.declared.code.BitOperation.TheVariants.{Bcf, Bsf, Btfsc, Btfss}
use Rattle.sym_code.specs.declared.code.BlockName.{BlockName}
use Rattle.sym_code.specs.declared.code.Into.TheVariants as into
use Rattle.sym_code.specs.declared.code.Operand.{Operand}
use Rattle.sym_code.specs.declared.code.Operand.TheVariants as operands
use Rattle.sym_code.specs.declared.code.Sym.{Sym}
use Rattle.sym_code.specs.declared.code.Sym.TheVariants as syms
use Rattle.kept_layout.specs.KeptLayout.{is_private, is_private_owner, is_private_byte}
use Rattle.kept_layout.specs.NamedCode.{byte_named, operand_named, NamedIsOpen}
use Rattle.kept_layout.specs.OpenCode.{is_placed, is_clear_byte, operand_opens, sym_by}
use Rattle.kept_layout.proofs.Owners.{never, left_of, right_of, Alone, all_alone, none_at, slice_covered, apart_so, common_clear, private_of_none}

-- ---- addresses and numbers
abbrev in_some : ℕ → Bool
in_some a = (nat_le 0x20 a && nat_lt a 0x78) || (nat_le 0xa0 a && nat_lt a 0xf0) || (nat_le 0x110 a && nat_lt a 0x170) || (nat_le 0x190 a && nat_lt a 0x1f0)

abbrev is_back : Option ℕ → ℕ → Bool
is_back None a = true
is_back (Some k) a = nat_eq (chip.address_of k) a

all_back : agree_below (λ n. not (in_some n) || is_back (general_at n) n) (λ n. true) 512 ≡ true
unfolding general_at
all_back = refl

back_at : (a k : ℕ) → in_some a ≡ true → a < 512 → general_at a ≡ Some k → chip.address_of k ≡ a
back_at a k e l g = eqb-true (chip.address_of k) a (sym (ap (λ (o : Option ℕ). is_back o a) g) ∙ implied (in_some a) (is_back (general_at a) a) (agree_below_at (λ n. not (in_some n) || is_back (general_at n) n) (λ n. true) 512 a all_back l) e)
  where
    implied : (b c : Bool) → (not b || c) ≡ true → b ≡ true → c ≡ true
    implied true c h f = h
    implied false c h f = never (sym f)

in_by : (a first behind : ℕ) → first ≤ a → a < behind → (nat_le first a && nat_lt a behind) ≡ true
in_by a first behind l m = ap (λ (b : Bool). b && nat_lt a behind) (le-leb first a l) ∙ lt-ltb a behind m

first_of : (p q r s : Bool) → p ≡ true → (p || q || r || s) ≡ true
first_of true q r s e = refl
first_of false q r s e = never (sym e)

second_of : (p q r s : Bool) → q ≡ true → (p || q || r || s) ≡ true
second_of true q r s e = refl
second_of false true r s e = refl
second_of false false r s e = never (sym e)

third_of : (p q r s : Bool) → r ≡ true → (p || q || r || s) ≡ true
third_of true q r s e = refl
third_of false true r s e = refl
third_of false false true s e = refl
third_of false false false s e = never (sym e)

fourth_of : (p q r s : Bool) → s ≡ true → (p || q || r || s) ≡ true
fourth_of true q r s e = refl
fourth_of false true r s e = refl
fourth_of false false true s e = refl
fourth_of false false false s e = e

module _ (a size x : ℕ) (low : a ≤ x) (high : x < a + size) where
  lies : (first behind : ℕ) → lies_in first behind a size ≡ true → (first ≤ a) × (a + size ≤ behind)
  lies first behind h = (leb-true first a (left_of (nat_le first a) (nat_le (a + size) behind) h), leb-true (a + size) behind (right_of (nat_le first a) (nat_le (a + size) behind) h))

  abbrev one : Bool
  one = nat_le 0x20 x && nat_lt x 0x78

  abbrev two : Bool
  two = nat_le 0xa0 x && nat_lt x 0xf0

  abbrev three : Bool
  three = nat_le 0x110 x && nat_lt x 0x170

  abbrev four : Bool
  four = nat_le 0x190 x && nat_lt x 0x1f0

  region : (p q r t : Bool) → lies_in 0x20 0x70 a size ≡ p → lies_in 0xa0 0xf0 a size ≡ q → lies_in 0x110 0x170 a size ≡ r → lies_in 0x190 0x1f0 a size ≡ t → (p || q || r || t) ≡ true → (in_some x ≡ true) × (x < 512)
  region true q r t ep eq er et h = let l = lies 0x20 0x70 ep in (first_of one two three four (in_by x 0x20 0x78 (omega (arith, l.0, low)) (omega (arith, l.1, high))), omega (arith, l.1, high))
  region false true r t ep eq er et h = let l = lies 0xa0 0xf0 eq in (second_of one two three four (in_by x 0xa0 0xf0 (omega (arith, l.0, low)) (omega (arith, l.1, high))), omega (arith, l.1, high))
  region false false true t ep eq er et h = let l = lies 0x110 0x170 er in (third_of one two three four (in_by x 0x110 0x170 (omega (arith, l.0, low)) (omega (arith, l.1, high))), omega (arith, l.1, high))
  region false false false true ep eq er et h = let l = lies 0x190 0x1f0 et in (fourth_of one two three four (in_by x 0x190 0x1f0 (omega (arith, l.0, low)) (omega (arith, l.1, high))), omega (arith, l.1, high))
  region false false false false ep eq er et h = never (sym h)

  whole_in : is_whole a size ≡ true → (in_some x ≡ true) × (x < 512)
  whole_in e = region (lies_in 0x20 0x70 a size) (lies_in 0xa0 0xf0 a size) (lies_in 0x110 0x170 a size) (lies_in 0x190 0x1f0 a size) refl refl refl refl e

-- ---- the object at an address
covered_by : (x : ℕ) (rs : List Range) (n : ℕ) → n < length rs → covers (slice_index_or rs n no_range) x ≡ true → covers_any rs x ≡ true
covered_by x [] n l c = absurd (omega (arith, l))
covered_by x (r ∷ rs) zero l c = ap (λ (b : Bool). b || covers_any rs x) c
covered_by x (r ∷ rs) (suc n) l c = by (covers r x) (covered_by x rs n (omega (arith, l)) c)
  where
    by : (v : Bool) → covers_any rs x ≡ true → (v || covers_any rs x) ≡ true
    by true e = refl
    by false e = e

at_index : (x i : ℕ) (rs : List Range) (n j : ℕ) → i + n ≡ j → Alone x rs → n < length rs → covers (slice_index_or rs n no_range) x ≡ true
    → object_at rs i x ≡ (if (slice_index_or rs n no_range).constant then None else Some (cells.Static j (x - (slice_index_or rs n no_range).address)))
at_index x i [] n j s h l c = absurd (omega (arith, l))
at_index x i (r ∷ rs) zero j s h l c = by r.constant
  where
    by : (k : Bool) → (if not k && covers r x then Some (cells.Static i (x - r.address)) else object_at rs (i + 1) x) ≡ (if k then None else Some (cells.Static j (x - r.address)))
    by true = none_at x (i + 1) rs (h.0 c)
    by false = ap (λ (b : Bool). if b then Some (cells.Static i (x - r.address)) else object_at rs (i + 1) x) c ∙ ap (λ (k : ℕ). Some (cells.Static k (x - r.address))) (omega (arith, s))
at_index x i (r ∷ rs) (suc n) j s h l c = by (covers r x) refl r.constant ∙ at_index x (i + 1) rs n j (omega (arith, s)) h.1 (omega (arith, l)) c
  where
    by : (v : Bool) → covers r x ≡ v → (k : Bool) → (if not k && covers r x then Some (cells.Static i (x - r.address)) else object_at rs (i + 1) x) ≡ object_at rs (i + 1) x
    by true ev k = never (sym (covered_by x rs n (omega (arith, l)) c) ∙ h.0 ev)
    by false ev true = refl
    by false ev false = ap (λ (b : Bool). if b then Some (cells.Static i (x - r.address)) else object_at rs (i + 1) x) ev

module _ (kept : List Bool) (reaches : ℕ → ℕ → Bool) (l : DataLayout) (laid : IsLaidOut reaches l) where
  abbrev hidden : ℕ → Bool
  hidden = is_private_byte kept l

  abbrev private_at : ℕ → Bool
  private_at x = is_private_owner kept (owner_by l x (object_at l.objects 0 x))

  clear_at : (x : ℕ) → in_some x ≡ true → x < 512 → private_at x ≡ false → is_clear hidden (general_at x) ≡ true
  unfolding owner
  clear_at x e m p = by (general_at x) refl
    where
      by : (o : Option ℕ) → general_at x ≡ o → is_clear hidden o ≡ true
      by None f = refl
      by (Some k) f = ap not (ap private_at (back_at x k e m f) ∙ p)

  none_clear : (x : ℕ) → covers_any l.objects x ≡ false → private_at x ≡ false
  none_clear x e = ap (λ (o : Option Cell). is_private_owner kept (owner_by l x o)) (none_at x 0 l.objects e) ∙ private_of_none kept reaches l laid x

  private_static : (n offset : ℕ) → n < length l.objects → offset < (object l n).size → is_private kept n (object l n) ≡ false → private_at ((object l n).address + offset) ≡ false
  private_static n offset m s p =
      let x = (object l n).address + offset in
      let covered : covers (object l n) x ≡ true = in_by x (object l n).address ((object l n).address + (object l n).size) (omega arith) (omega (arith, s)) in
      ap (λ (o : Option Cell). is_private_owner kept (owner_by l x o)) (at_index x 0 l.objects n n (omega arith) (all_alone kept reaches l laid x) m covered)
      ∙ by x (object l n).constant (get_or kept n false) refl p
    where
      by : (x : ℕ) (c g : Bool) → get_or kept n false ≡ g → (not c && not g) ≡ false → is_private_owner kept (owner_by l x (if c then None else Some (cells.Static n (x - (object l n).address)))) ≡ false
      by x true g eg e = private_of_none kept reaches l laid x
      by x false true eg e = ap not eg
      by x false false eg e = never e

  clear_static : (n offset : ℕ) → n < length l.objects → offset < (object l n).size → is_private kept n (object l n) ≡ false → is_clear hidden (general_at ((object l n).address + offset)) ≡ true
  clear_static n offset m s p =
      let x = (object l n).address + offset in
      let r = whole_in (object l n).address (object l n).size x (omega arith) (omega (arith, s)) (laid.objects n m) in
      clear_at x r.0 r.1 (private_static n offset m s p)

  frame_free : (c offset : ℕ) → c < length l.frames → offset < (frame l c).size → covers_any l.objects ((frame l c).address + offset) ≡ false
  frame_free c offset m s = by (covers_any l.objects ((frame l c).address + offset)) refl
    where
      by : (v : Bool) → covers_any l.objects ((frame l c).address + offset) ≡ v → covers_any l.objects ((frame l c).address + offset) ≡ false
      by false ev = ev
      by true ev =
          let x = (frame l c).address + offset in
          let o = slice_covered x l.objects ev in
          absurd (apart_so (object l o.0).address (object l o.0).size (frame l c).address (frame l c).size x (laid.frames_clear o.0 c o.1 m) o.2
          (in_by x (frame l c).address ((frame l c).address + (frame l c).size) (omega arith) (omega (arith, s))))

  clear_frame : (c offset : ℕ) → c < length l.frames → offset < (frame l c).size → is_clear hidden (general_at ((frame l c).address + offset)) ≡ true
  clear_frame c offset m s =
      let x = (frame l c).address + offset in
      let r = whole_in (frame l c).address (frame l c).size x (omega arith) (omega (arith, s)) (laid.frames c m) in
      clear_at x r.0 r.1 (none_clear x (frame_free c offset m s))

  clear_common : (x : ℕ) → 0x70 ≤ x → x < 0x78 → is_clear hidden (general_at x) ≡ true
  clear_common x low high =
      clear_at x (first_of (nat_le 0x20 x && nat_lt x 0x78) (nat_le 0xa0 x && nat_lt x 0xf0) (nat_le 0x110 x && nat_lt x 0x170) (nat_le 0x190 x && nat_lt x 0x1f0) (in_by x 0x20 0x78 (omega (arith, low)) high)) (omega (arith, high))
      (common_clear kept reaches l laid x (in_by x 0x70 0x78 low high))

  clear_result : (root : Root) (k : ℕ) → k < 4 → is_clear hidden (general_at (result_address root + k)) ≡ true
  clear_result Main k m = clear_common (0x70 + k) (omega arith) (omega (arith, m))
  clear_result Isr k m = clear_common (0x74 + k) (omega arith) (omega (arith, m))

  not_false : (b : Bool) → not b ≡ true → b ≡ false
  not_false true e = never (sym e)
  not_false false e = refl

  byte_clear : (byte : Byte) → byte_named l (λ n. not (is_private kept n (object l n))) byte ≡ true → is_clear_byte hidden l byte ≡ true
  unfolding address_of
  byte_clear (bytes.Static n offset) e =
      let m = ltb-true n (length l.objects) (left_of (nat_lt n (length l.objects)) (nat_lt offset (object l n).size && not (is_private kept n (object l n))) e) in
      let f = right_of (nat_lt n (length l.objects)) (nat_lt offset (object l n).size && not (is_private kept n (object l n))) e in
      clear_static n offset m (ltb-true offset (object l n).size (left_of (nat_lt offset (object l n).size) (not (is_private kept n (object l n))) f))
      (not_false (is_private kept n (object l n)) (right_of (nat_lt offset (object l n).size) (not (is_private kept n (object l n))) f))
  byte_clear (bytes.Frame c offset) e = clear_frame c offset (ltb-true c (length l.frames) (left_of (nat_lt c (length l.frames)) (nat_lt offset (frame l c).size) e)) (ltb-true offset (frame l c).size (right_of (nat_lt c (length l.frames)) (nat_lt offset (frame l c).size) e))
  byte_clear (bytes.Result root k) e = clear_result root k (ltb-true k 4 e)
  byte_clear (bytes.Device address) e = refl

  byte_placed : (test : ℕ → Bool) (byte : Byte) → byte_named l test byte ≡ true → is_placed l byte ≡ true
  byte_placed test (bytes.Static n offset) e = refl
  byte_placed test (bytes.Frame c offset) e = left_of (nat_lt c (length l.frames)) (nat_lt offset (frame l c).size) e
  byte_placed test (bytes.Result root k) e = refl
  byte_placed test (bytes.Device address) e = refl

  both_so : (b c : Bool) → b ≡ true → c ≡ true → (b && c) ≡ true
  both_so b c e f = ap (λ (x : Bool). x && c) e ∙ f

  operand_open : (free : Bool) (operand : Operand) → operand_named kept l free operand ≡ true → operand_opens hidden l free operand ≡ true
  operand_open true (operands.Byte byte) e = both_so (is_placed l byte) true (byte_placed (λ n. true) byte e) refl
  operand_open false (operands.Byte byte) e = both_so (is_placed l byte) (is_clear_byte hidden l byte) (byte_placed (λ n. not (is_private kept n (object l n))) byte e) (byte_clear byte e)
  operand_open free (operands.Register register) e = refl
  operand_open free (operands.Saved cell) e = refl

-- ---- code
module _ (f g : Bool → Operand → Bool) (less : (free : Bool) (operand : Operand) → f free operand ≡ true → g free operand ≡ true) (handlers : BlockName → Bool) (l : DataLayout) (own : BlockName) where
  sym_less : (s : Sym) → sym_by f handlers l own s ≡ true → sym_by g handlers l own s ≡ true
  unfolding sym_by
  sym_less (syms.File op operand into.W) e = less (not (handlers own)) operand e
  sym_less (syms.File op operand into.File) e = less false operand e
  sym_less (syms.Movwf operand) e = less (not (handlers own)) operand e
  sym_less (syms.Clrf operand) e = less (not (handlers own)) operand e
  sym_less (syms.Bit Btfsc operand b) e = less (not (handlers own)) operand e
  sym_less (syms.Bit Btfss operand b) e = less (not (handlers own)) operand e
  sym_less (syms.Bit Bcf operand b) e = less false operand e
  sym_less (syms.Bit Bsf operand b) e = less false operand e
  sym_less (syms.Literal op value) e = e
  sym_less (syms.Plain op) e = refl
  sym_less (syms.Call target) e = e
  sym_less (syms.Goto target) e = e
  sym_less (syms.Label label) e = refl
  sym_less (syms.SelectBank which to) e = refl
  sym_less (syms.SelectPage which target) e = refl
  sym_less (syms.Table table root) e = refl

  all_less : (list : List Sym) → list_all (sym_by f handlers l own) list ≡ true → list_all (sym_by g handlers l own) list ≡ true
  all_less [] e = refl
  all_less (s ∷ list) e =
      ap (λ (b : Bool). b && list_all (sym_by g handlers l own) list) (sym_less s (left_of (sym_by f handlers l own s) (list_all (sym_by f handlers l own) list) e))
      ∙ all_less list (right_of (sym_by f handlers l own s) (list_all (sym_by f handlers l own) list) e)

pub named_open : NamedIsOpen
named_open kept handlers reaches q laid named = record {
  handler = named.handler;
  blocks = λ name. all_less (operand_named kept q.layout) (operand_opens (is_private_byte kept q.layout) q.layout) (operand_open kept reaches q.layout laid) handlers q.layout name (q.block name) (named.blocks name);
}
